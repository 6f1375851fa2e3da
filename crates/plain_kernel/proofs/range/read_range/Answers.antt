-- A piece goes on where the bytes so far end.
use Rattle.std.proofs.Common.{◌≡◌, ◌+◌, ◌-◌, ◌++◌, sym, ◌∙◌, ap, arith}
use Rattle.vm_base.specs.FlatMemory.{bytes_at}
use Rattle.vm_base.proofs.FlatBytes.{bytes_at-split}
use Rattle.plain_kernel.proofs.range.read_range.Goals as goal

pub loop-at-preserved : goal.loop-at-preserved
loop-at-preserved c =
    let piece = c.piece_of_page-piece.result in
    let so_far = c.loop-at.at - c.args.addr in
    let here : c.loop-at.at ≡ c.args.addr + so_far = omega arith in
    let further : so_far + piece ≡ c.loop-at.at + piece - c.args.addr = omega arith in
    record {
      above = omega arith;
      within = omega (arith, c.piece_of_page-piece.ensures.within);
      told = c.in_ok-push_all.ensures.ok ∙ ap (λ b. b ++ c.bytes_in_page.result.now) c.loop-at.invariant.told
          ∙ ap (λ b. bytes_at c.args.pages.now c.args.addr so_far ++ b) (c.bytes_in_page.ensures ∙ ap (λ a. bytes_at c.args.pages.now a piece) here)
          ∙ sym (bytes_at-split c.args.pages.now c.args.addr so_far piece) ∙ ap (bytes_at c.args.pages.now c.args.addr) further;
    }
