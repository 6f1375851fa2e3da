-- A piece within one page is written there.
use Rattle.std.proofs.Common.{◌≡◌, ◌+◌, ◌≤◌, ◌<◌, ◌++◌, length, drop, sym, ◌∙◌, ap, subst, arith}
use Rattle.std.proofs.lemmas.List.{take-append-drop, length-take-le}
use Rattle.vm_base.specs.Places.{offset_of}
use Rattle.vm_base.specs.FlatStep.{with_bytes}
use Rattle.plain_kernel.proofs.Storing.{Storing, storing_more}
use Rattle.plain_kernel.proofs.range.store_range.Goals as goal

pub loop-rest-preserved : goal.loop-rest-preserved
loop-rest-preserved c =
    let piece = c.piece_of_page-piece in
    let front = c.split_at.result.0.now in
    let back = c.split_at.result.1.now in
    let size : length front ≡ piece.result = ap length c.split_at.ensures.front ∙ length-take-le piece.result c.loop-rest.rest.now piece.ensures.within in
    let some : 0 < length front = omega (arith, size, piece.ensures.some) in
    let room : offset_of c.loop-rest.at + length front ≤ 4096 = omega (arith, size, piece.ensures.room) in
    let parts : c.loop-rest.rest.now ≡ front ++ back = sym (take-append-drop piece.result c.loop-rest.rest.now) ∙ ap (λ f. f ++ drop piece.result c.loop-rest.rest.now) (sym c.split_at.ensures.front) ∙ ap (λ b. front ++ b) (sym c.split_at.ensures.back) in
    subst (λ n. Storing c.write.new.self (c.loop-rest.at + n) back (c.args.addr + length c.args.bytes.now) (with_bytes c.args.pages.now c.args.addr c.args.bytes.now)) size
    (storing_more c.loop-rest.pages c.write.new.self c.loop-rest.at c.loop-rest.rest.now front back _ _ c.write.ensures.whole c.write.ensures.written some room parts c.loop-rest.invariant)
