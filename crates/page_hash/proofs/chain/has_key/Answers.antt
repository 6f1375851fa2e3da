use Rattle.std.proofs.Common.{◌≡◌, ◌+◌, ◌-◌, ◌≤◌, ◌∙◌, length, take, drop, sym, ap, arith}
use Rattle.std.specs.Str.{bytes_eq}
use Rattle.std.proofs.lemmas.List.{take_rest}
use Rattle.vm_base.specs.FlatMemory.{bytes_at}
use Rattle.page_hash.proofs.Pieces.{key_piece, other_front, same_front}
use Rattle.page_hash.proofs.chain.has_key.Goals as goal

pub returns-then-ne-clause-has : goal.returns-then-ne-clause-has
returns-then-ne-clause-has g c =
    let mem = (g.M.Memory.state c.args.m.now).mem in
    let first = c.min-first.result in
    let few : first ≤ length c.args.key.now = omega (arith, c.min-first.ensures) in
    other_front mem.present (c.args.at + 16) first c.args.key.now (take (16 + first - 16) (drop 16 c.args.front.now)) few
    (key_piece mem c.args.at (length c.args.key.now) first c.args.front.now c.requires.front c.requires.within.1 few
    (omega (arith, c.min-first.ensures)))
    (sym c.if-ne.ensures)

pub returns-clause-has : goal.returns-clause-has
returns-clause-has g c =
    let mem = (g.M.Memory.state c.args.m.now).mem in
    let key = c.args.key.now in
    let first = c.min-first.result in
    let few : first ≤ length key = omega (arith, c.min-first.ensures) in
    let place : c.args.at + (16 + first) ≡ c.args.at + 16 + first = omega arith in
    c.has_bytes.ensures.has
    ∙ ap (λ l. bytes_eq (bytes_at mem.present (c.args.at + (16 + first)) (length l)) l) (take_rest key first)
    ∙ ap (λ a. bytes_eq (bytes_at mem.present a (length (drop first key))) (drop first key)) place
    ∙ same_front mem.present (c.args.at + 16) first key (take (16 + first - 16) (drop 16 c.args.front.now)) few
    (key_piece mem c.args.at (length key) first c.args.front.now c.requires.front c.requires.within.1 few
    (omega (arith, c.min-first.ensures)))
    (sym c.if-ne.ensures)
