use Rattle.std.proofs.Common.{◌≡◌, ◌+◌, ◌*◌, ◌<◌, Some, sym, ◌∙◌, ap, refl, arith}
use Rattle.std.proofs.Math.Logic.{∥∥₁_map}
use Rattle.table_levels.specs.Cells.{first_from}
use Rattle.page_tables.proofs.FirstCell.{IsFirstFrom, first-some, first-none}
use Rattle.page_tables.proofs.Permissions.{none-passed, one-passed, passed-to-end, passed-all}
use Rattle.page_tables.proofs.ProtectedPages.{protect-made}
use Rattle.page_tables.proofs.tables.PageTables.protect.Goals as goal

pub protect_cell-requires-clause-within : goal.protect_cell-requires-clause-within
protect_cell-requires-clause-within g c =
    let found : first_from c.loop-cell.self.directory c.loop-cell.next ≡ Some (c.in-Some.cell, c.in-Some.slot) = sym c.at_or_after.ensures ∙ c.in-Some.is in
    let is_first : IsFirstFrom c.loop-cell.self.directory c.loop-cell.next c.in-Some.cell c.in-Some.slot = first-some c.loop-cell.self.directory c.loop-cell.next c.in-Some.cell c.in-Some.slot found in
    (omega (arith, is_first.reached, c.loop-cell.invariant.reached), omega (arith, c.if-from-end.false, c.from.ensures))

pub protect_cell-requires-clause-known : goal.protect_cell-requires-clause-known
protect_cell-requires-clause-known g c =
    let found : first_from c.loop-cell.self.directory c.loop-cell.next ≡ Some (c.in-Some.cell, c.in-Some.slot) = sym c.at_or_after.ensures ∙ c.in-Some.is ∙ (λ i. Some (sym c.in-Some.cell-is i, sym c.in-Some.slot-is i)) in
    (first-some c.loop-cell.self.directory c.loop-cell.next c.in-Some.cell c.in-Some.slot found).there

pub protect_cell-requires-clause-stands : goal.protect_cell-requires-clause-stands
protect_cell-requires-clause-stands g c = ∥∥₁_map c.requires.stands (λ it. (it.0, c.loop-cell.invariant.passed.tables.stands it.0 it.1))

pub loop-cell-smaller : goal.loop-cell-smaller
loop-cell-smaller g c =
    let a = c.at_or_after.ensures in
    let b = c.in-Some.is in
    let d = c.in-Some.cell-is in
    let e = c.in-Some.slot-is in
    let found : first_from c.loop-cell.self.directory c.loop-cell.next ≡ Some (c.in-Some.cell, c.in-Some.slot) = cc in
    let is_first : IsFirstFrom c.loop-cell.self.directory c.loop-cell.next c.in-Some.cell c.in-Some.slot = first-some c.loop-cell.self.directory c.loop-cell.next c.in-Some.cell c.in-Some.slot found in
    omega (arith, is_first.reached, c.if-from-end.false, c.from.ensures, c.requires.range)

pub loop-cell-init : goal.loop-cell-init
loop-cell-init g c = record {
  ends = refl;
  reached = omega arith;
  within = omega (arith, c.requires.range);
  passed = none-passed c.args.perm c.args.first c.args.count c.args.self.now;
  allot = refl;
}

pub loop-cell-preserved : goal.loop-cell-preserved
loop-cell-preserved g c =
    let found : first_from c.loop-cell.self.directory c.loop-cell.next ≡ Some (c.in-Some.cell, c.in-Some.slot) = sym c.at_or_after.ensures ∙ c.in-Some.is in
    let is_first : IsFirstFrom c.loop-cell.self.directory c.loop-cell.next c.in-Some.cell c.in-Some.slot = first-some c.loop-cell.self.directory c.loop-cell.next c.in-Some.cell c.in-Some.slot found in
    let within : c.in-Some.cell * 512 < c.args.first + c.args.count = omega (arith, c.if-from-end.false, c.from.ensures) in
    record {
      ends = refl;
      reached = omega (arith, is_first.reached, c.loop-cell.invariant.reached);
      within = omega (arith, within, c.requires.range);
      passed = one-passed c.args.perm c.args.first c.args.count c.loop-cell.next c.args.self.now c.loop-cell.self c.loop-cell.invariant.passed c.in-Some.cell c.in-Some.slot is_first
          c.protect_cell.new.self (c.args.first + c.args.count) refl c.protect_cell.ensures.tables c.protect_cell.ensures.within c.protect_cell.ensures.others;
      allot = c.protect_cell.ensures.allot ∙ c.loop-cell.invariant.allot;
    }

pub returns-then-from-end-clause-made : goal.returns-then-from-end-clause-made
returns-then-from-end-clause-made g c = protect-made g.A.Allot.goes c.args.first c.args.count c.args.self.now c.loop-cell.self _ _ c.loop-cell.invariant.passed.tables (ap g.A.Allot.state c.loop-cell.invariant.allot)

pub returns-in_default-clause-made : goal.returns-in_default-clause-made
returns-in_default-clause-made g c = protect-made g.A.Allot.goes c.args.first c.args.count c.args.self.now c.loop-cell.self _ _ c.loop-cell.invariant.passed.tables (ap g.A.Allot.state c.loop-cell.invariant.allot)

pub returns-then-from-end-clause-writable : goal.returns-then-from-end-clause-writable
returns-then-from-end-clause-writable g c =
    let found : first_from c.loop-cell.self.directory c.loop-cell.next ≡ Some (c.in-Some.cell, c.in-Some.slot) = sym c.at_or_after.ensures ∙ c.in-Some.is in
    let is_first : IsFirstFrom c.loop-cell.self.directory c.loop-cell.next c.in-Some.cell c.in-Some.slot = first-some c.loop-cell.self.directory c.loop-cell.next c.in-Some.cell c.in-Some.slot found in
    passed-to-end c.args.perm c.args.first c.args.count c.loop-cell.next c.args.self.now c.loop-cell.self c.loop-cell.invariant.passed c.in-Some.cell c.in-Some.slot is_first
    (omega (arith, c.if-from-end.true, c.from.ensures))

pub returns-in_default-clause-writable : goal.returns-in_default-clause-writable
returns-in_default-clause-writable g c =
    passed-all c.args.perm c.args.first c.args.count c.loop-cell.next c.args.self.now c.loop-cell.self c.loop-cell.invariant.passed
    (first-none c.loop-cell.self.directory c.loop-cell.next (sym c.at_or_after.ensures ∙ c.in_default.is))
