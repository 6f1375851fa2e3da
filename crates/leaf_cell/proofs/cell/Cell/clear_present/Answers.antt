use Rattle.std.proofs.Common.{◌≡◌, ◌+◌, ◌≤◌, ◌∙◌, sym, ap, subst, None, arith}
use Rattle.std.specs.Prelude.{is_some, true, count_by}
use Rattle.kernel_meaning.specs.Leaves.{has_present}
use Rattle.kernel_meaning.specs.CellAccount.{Clear}
use Rattle.leaf_cell.specs.CellView.{AreUnjoined, held_of}
use Rattle.leaf_cell.specs.Inside.{table_places, cell_value}
use Rattle.leaf_cell.specs.Standing.{MadeAct}
use Rattle.leaf_cell.specs.Writable.{without_writable}
use Rattle.leaf_cell.specs.Touching.{IsCleared}
use Rattle.leaf_cell.proofs.InsideFacts.{parent_at_home, own_at_home}
use Rattle.leaf_cell.proofs.ClearMade.{next_writable, inside-cleared, made-cleared, is-cleared, held-cleared, table-there, table-counted}
use Rattle.leaf_cell.proofs.cell.Cell.clear_present.Goals as goal

pub release_range-requires-clause-home : goal.release_range-requires-clause-home
release_range-requires-clause-home g c = parent_at_home c.self.inside.parent c.self.inside.snapshot c.self.inside.frames c.self.invariant

pub release_range-requires-clause-others : goal.release_range-requires-clause-others
release_range-requires-clause-others g c = own_at_home c.self.inside.parent c.self.inside.snapshot c.self.inside.frames c.self.invariant

pub clear_table-requires-clause-there : goal.clear_table-requires-clause-there
clear_table-requires-clause-there g c = table-there c.self.inside.parent c.args.first c.args.pages (ap (λ view. has_present view.leaves.parent c.args.first c.args.pages) c.self.view_is ∙ c.requires.present)

pub clear_table-requires-clause-out : goal.clear_table-requires-clause-out
clear_table-requires-clause-out g c =
    let there : is_some c.self.inside.parent ≡ true = table-there c.self.inside.parent c.args.first c.args.pages (ap (λ view. has_present view.leaves.parent c.args.first c.args.pages) c.self.view_is ∙ c.requires.present) in
    let counted : count_by is_some c.self.inside.frames + 1 ≤ g.A.Allot.out (g.A.Allot.state c.args.allot.now) =
    table-counted c.self.inside.parent c.self.inside.snapshot c.self.inside.frames c.self.invariant there (g.A.Allot.out (g.A.Allot.state c.args.allot.now))
    (subst (λ view. held_of view ≤ g.A.Allot.out (g.A.Allot.state c.args.allot.now)) (sym c.self.view_is) c.requires.held) in
    omega (arith, counted, c.release_range.ensures.out)

pub invariant_of-self : goal.invariant_of-self
invariant_of-self g c = inside-cleared g.A.Allot.goes (g.A.Allot.state c.args.allot.now) (g.A.Allot.state c.release_range.new.allot) (g.A.Allot.state c.clear_table.new.allot)
    c.self.inside.parent c.self.inside.snapshot c.self.inside.frames c.release_range.new.frames c.clear_table.new.parent c.args.first c.args.pages c.self.invariant
    (table-there c.self.inside.parent c.args.first c.args.pages (ap (λ view. has_present view.leaves.parent c.args.first c.args.pages) c.self.view_is ∙ c.requires.present))
    c.requires.range c.release_range.ensures.released c.clear_table.ensures.left
    (subst (λ view. AreUnjoined view.leaves.kept) (sym c.self.view_is) c.requires.unjoined)

pub returns-clause-held : goal.returns-clause-held
returns-clause-held g c =
    ap (λ view. g.A.Allot.out (g.A.Allot.state c.clear_table.new.allot) + held_of view) (sym c.self.view_is)
    ∙ held-cleared g.A.Allot.goes (g.A.Allot.state c.args.allot.now) (g.A.Allot.state c.release_range.new.allot) (g.A.Allot.state c.clear_table.new.allot)
    c.self.inside.parent c.self.inside.snapshot c.self.inside.frames c.release_range.new.frames c.clear_table.new.parent c.args.first c.args.pages c.self.invariant
    (table-there c.self.inside.parent c.args.first c.args.pages (ap (λ view. has_present view.leaves.parent c.args.first c.args.pages) c.self.view_is ∙ c.requires.present))
    c.requires.range c.release_range.ensures.released c.clear_table.ensures.left
    (subst (λ view. AreUnjoined view.leaves.kept) (sym c.self.view_is) c.requires.unjoined)
    (g.A.Allot.out (g.A.Allot.state c.args.allot.now)) (g.A.Allot.out (g.A.Allot.state c.release_range.new.allot)) (g.A.Allot.out (g.A.Allot.state c.clear_table.new.allot))
    c.release_range.ensures.out c.clear_table.ensures.out

pub returns-clause-made : goal.returns-clause-made
returns-clause-made g c =
    let present : has_present (table_places c.self.inside.parent) c.args.first c.args.pages ≡ true = ap (λ view. has_present view.leaves.parent c.args.first c.args.pages) c.self.view_is ∙ c.requires.present in
    subst (λ old. MadeAct g.A.Allot.goes (g.A.Allot.state c.args.allot.now) (g.A.Allot.state c.clear_table.new.allot) (Clear c.args.first c.args.pages) old
    (cell_value c.clear_table.new.parent c.self.inside.snapshot c.release_range.new.frames) None) c.self.view_is
    (made-cleared g.A.Allot.goes (g.A.Allot.state c.args.allot.now) (g.A.Allot.state c.release_range.new.allot) (g.A.Allot.state c.clear_table.new.allot)
    c.self.inside.parent c.self.inside.snapshot c.self.inside.frames c.release_range.new.frames c.clear_table.new.parent c.args.first c.args.pages c.self.invariant
    (table-there c.self.inside.parent c.args.first c.args.pages present) c.requires.range c.release_range.ensures.released c.clear_table.ensures.left
    (subst (λ view. AreUnjoined view.leaves.kept) (sym c.self.view_is) c.requires.unjoined) present)

pub returns-clause-cleared : goal.returns-clause-cleared
returns-clause-cleared g c =
    let present : has_present (table_places c.self.inside.parent) c.args.first c.args.pages ≡ true = ap (λ view. has_present view.leaves.parent c.args.first c.args.pages) c.self.view_is ∙ c.requires.present in
    subst (λ old. IsCleared c.args.first c.args.pages old (cell_value c.clear_table.new.parent c.self.inside.snapshot c.release_range.new.frames)) c.self.view_is
    (is-cleared g.A.Allot.goes (g.A.Allot.state c.args.allot.now) (g.A.Allot.state c.release_range.new.allot) (g.A.Allot.state c.clear_table.new.allot)
    c.self.inside.parent c.self.inside.snapshot c.self.inside.frames c.release_range.new.frames c.clear_table.new.parent c.args.first c.args.pages c.self.invariant
    (table-there c.self.inside.parent c.args.first c.args.pages present) c.requires.range c.release_range.ensures.released c.clear_table.ensures.left
    (subst (λ view. AreUnjoined view.leaves.kept) (sym c.self.view_is) c.requires.unjoined) present)

pub returns-clause-writable : goal.returns-clause-writable
returns-clause-writable g c =
    next_writable g.A.Allot.goes (g.A.Allot.state c.args.allot.now) (g.A.Allot.state c.release_range.new.allot) (g.A.Allot.state c.clear_table.new.allot)
    c.self.inside.parent c.self.inside.snapshot c.self.inside.frames c.release_range.new.frames c.clear_table.new.parent c.args.first c.args.pages c.self.invariant
    (table-there c.self.inside.parent c.args.first c.args.pages (ap (λ view. has_present view.leaves.parent c.args.first c.args.pages) c.self.view_is ∙ c.requires.present))
    c.requires.range c.release_range.ensures.released c.clear_table.ensures.left
    (subst (λ view. AreUnjoined view.leaves.kept) (sym c.self.view_is) c.requires.unjoined)
    ∙ ap (λ view. without_writable c.args.first c.args.pages view.writable) c.self.view_is
