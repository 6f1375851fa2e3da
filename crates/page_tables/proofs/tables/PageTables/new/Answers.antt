use Rattle.std.proofs.Common.{◌≡◌, ◌%◌, None, sym, ap, subst, ◌∙◌, arith}
use Rattle.std.specs.FinMap.{empty, get, get-empty}
use Rattle.std.specs.Ordering.{nat_cmp}
use Rattle.vm_base.specs.Places.{cell_of}
use Rattle.page_tables.specs.Sides.{opening_sides}
use Rattle.std.specs.Prelude.{replicate}
use Rattle.page_tables.specs.Standing.{StandFor, free_slot}
use Rattle.page_tables.specs.Held.{frames_in, shares_in}
use Rattle.page_tables.proofs.HeldFrames.{frames-law}
use Rattle.table_levels.specs.Cells.{tables_of}
use Rattle.table_levels.proofs.Counting.{tables_of-empty}
use Rattle.std.specs.Option.{option_map, option_and_then}
use Rattle.std.specs.List.{slice_get}
use Rattle.page_tables.proofs.Permissions.{bit_in}
use Rattle.page_tables.proofs.Opening.{opening-stands, opening-held}
use Rattle.page_tables.proofs.tables.PageTables.new.Goals as goal

pub invariant_of-result-clause-even : goal.invariant_of-result-clause-even
invariant_of-result-clause-even c =
    let free : frames_in c.in_ok-slots.slots.items ≡ 0 = ap frames_in c.in_ok-slots.ensures ∙ opening-held c.args.slots c.requires in
    let law = frames-law empty None (replicate c.args.slots free_slot) opening_sides (opening-stands c.args.slots c.requires) in
    let shares : shares_in c.in_ok-slots.slots.items ≡ shares_in (replicate c.args.slots free_slot) = ap shares_in c.in_ok-slots.ensures in
    omega (arith, free, law, shares, tables_of-empty)

-- src/tables.rt:31:5
pub returns-clause-stands : goal.returns-clause-stands
returns-clause-stands c =
    subst (λ d. StandFor d None c.in_ok-slots.slots.items opening_sides) (sym c.in_ok-directory.ensures)
    (subst (λ slots. StandFor empty None slots opening_sides) (sym c.in_ok-slots.ensures) (opening-stands c.args.slots c.requires))

-- src/tables.rt:31:5
pub returns-clause-held : goal.returns-clause-held
returns-clause-held c =
    let none : tables_of c.in_ok-directory.directory ≡ 0 = ap tables_of c.in_ok-directory.ensures ∙ tables_of-empty in
    let free : frames_in c.in_ok-slots.slots.items ≡ 0 = ap frames_in c.in_ok-slots.ensures ∙ opening-held c.args.slots c.requires in
    omega (arith, none, free)

pub returns-clause-unwritten : goal.returns-clause-unwritten
returns-clause-unwritten c = λ page.
    ap (λ o. bit_in (option_map (λ it. it.cell) (option_and_then (slice_get c.in_ok-slots.slots.items) o)) (page % 512))
    (ap (λ d. get d (cell_of page)) c.in_ok-directory.ensures ∙ get-empty nat_cmp (cell_of page))
