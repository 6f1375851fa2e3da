use Rattle.std.proofs.Common.{◌≡◌, ◌∙◌, sym, refl, nat_eq, Some}
use Rattle.std.specs.Prelude.{Bool, true, false, not}
use Rattle.std.specs.Option.{option_eq}
use Rattle.std.proofs.lemmas.Bool.{false≢true}
use Rattle.leaf_cell.proofs.CopyMade.{eq-some}
use Rattle.leaf_cell.proofs.Releases.{not-named, not-released}
use Rattle.leaf_cell.proofs.release.release_page.Goals as goal

not-false : (b : Bool) → not b ≡ false → b ≡ true
not-false true h = refl
not-false false h = absurd (false≢true (sym h))

pub returns-else-ne-clause-released : goal.returns-else-ne-clause-released
returns-else-ne-clause-released g c =
    not-released g.A.Allot.goes (g.A.Allot.state c.args.allot.now) c.args.place c.args.other c.args.frames.now c.in-Some.place c.in-Some.is
    (eq-some c.args.other c.in-Some.place (not-false (option_eq nat_eq c.args.other (Some c.in-Some.place)) (sym c.ne.ensures ∙ c.if-ne.false)))

pub returns-in_default-clause-released : goal.returns-in_default-clause-released
returns-in_default-clause-released g c =
    not-named g.A.Allot.goes (g.A.Allot.state c.args.allot.now) c.args.place c.args.other c.args.frames.now c.in_default.is
