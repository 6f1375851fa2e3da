use Rattle.std.proofs.Common.{◌≡◌, true, false, Some, nat_eq, sym, ap, ◌∙◌}
use Rattle.std.specs.Cmp.Lexicographic.{pointwise}
use Rattle.io_face.proofs.ShelfLemmas.{text_of-here, text_of-past}
use Rattle.io_face.proofs.mem_folder.find.Goals as goal

pub returns-then-eq : goal.returns-then-eq
returns-then-eq c =
    let name = c.args.name.now in
    let entry = c.in-Some.entry.now in
    let key : entry.0 ≡ c.as_str.result.now = sym (ap (λ e. e.0) c.entry.view_is) ∙ sym c.as_str.ensures.value in
    let same : pointwise nat_eq entry.0 name ≡ true = ap (λ k. pointwise nat_eq k name) key ∙ sym c.eq.ensures ∙ c.if-eq.true in
    let text : c.deref.result.now ≡ entry.1 = c.deref.ensures.value ∙ ap (λ e. e.1) c.entry.view_is in
    sym (c.loop-entry.invariant ∙ text_of-here entry _ _ name c.in-Some.ensures.steps same ∙ ap Some (sym text))

pub loop-entry-preserved : goal.loop-entry-preserved
loop-entry-preserved c =
    let name = c.args.name.now in
    let entry = c.in-Some.entry.now in
    let key : entry.0 ≡ c.as_str.result.now = sym (ap (λ e. e.0) c.entry.view_is) ∙ sym c.as_str.ensures.value in
    let other : pointwise nat_eq entry.0 name ≡ false = ap (λ k. pointwise nat_eq k name) key ∙ sym c.eq.ensures ∙ c.if-eq.false in
    c.loop-entry.invariant ∙ text_of-past entry _ _ name c.in-Some.ensures.steps other
