use Rattle.std.proofs.Common.{◌≡◌, ◌+◌, ◌*◌, ◌%◌, ℕ, length, take, drop, sym, ◌∙◌, ap, subst, arith}
use Rattle.std.proofs.Math.Seq.{take-length}
use Rattle.std.specs.Prelude.{slice_index_or}
use Rattle.vm_base.specs.Places.{cell_of}
use Rattle.kernel_meaning.specs.Leaves.{has_present}
use Rattle.kernel_meaning.specs.FrameLaw.{cell_at}
use Rattle.page_tables.specs.Clearing.{sides_without}
use Rattle.page_tables.specs.Standing.{TablesStandFor}
use Rattle.page_tables.specs.Ranges.{sides_without_pages, AreThere}
use Rattle.page_tables.specs.Permissions.{StopsWriting, StopsWritingAt}
use Rattle.page_tables.proofs.KeptWriting.{none-stopped-at, one-more-stopped}
use Rattle.page_tables.proofs.TakenBack.{IsTakenBack, none-taken, one-more, take-one-more, drop-one-more, there-present}
use Rattle.std.proofs.Math.Logic.{∥∥₁_map}
use Rattle.page_tables.proofs.tables.PageTables.take_back.Goals as goal

-- src/range.rt:97:9
pub loop-page-init : goal.loop-page-init
loop-page-init g c = record {
  taken = none-taken g.A.Allot.goes g.A.Allot.refused g.A.Allot.out (g.A.Allot.state c.args.allot.now) c.args.added.now c.args.self.now c.requires.stands;
  writable = none-stopped-at c.args.self.now;
  untold = c.requires.untold;
}

-- src/range.rt:100:13
pub clear_in_cell-requires-clause-stands : goal.clear_in_cell-requires-clause-stands
clear_in_cell-requires-clause-stands g c =
    ∥∥₁_map c.loop-page.invariant.taken.there (λ it.
    let there = subst (AreThere it.0.leaves) (drop-one-more c.args.added.now c.loop-page.page-index c.loop-page-test.true) it.1.1 in
    let page : ℕ = slice_index_or c.args.added.now c.loop-page.page-index 0 in
    let here = ap (λ cell. has_present (cell_at it.0.leaves cell).parent c.cell_and_index-cell.result.1 1) c.cell_and_index-cell.ensures.cell
    ∙ ap (λ i. has_present (cell_at it.0.leaves (cell_of page)).parent i 1) c.cell_and_index-cell.ensures.index
    ∙ there-present it.0.leaves page there.0 in
    (it.0, (it.1.0, here)))

-- src/range.rt:97:9
pub loop-page-preserved : goal.loop-page-preserved
loop-page-preserved g c =
    let i : ℕ = c.loop-page.page-index in
    let page : ℕ = slice_index_or c.args.added.now i 0 in
    let so_far = subst (λ left. IsTakenBack g.A.Allot.goes g.A.Allot.refused g.A.Allot.out (g.A.Allot.state c.args.allot.now)
    (g.A.Allot.state c.loop-page.allot) (take i c.args.added.now) left c.args.self.now c.loop-page.self)
    (drop-one-more c.args.added.now i c.loop-page-test.true) c.loop-page.invariant.taken in
    record {
      taken = subst (λ done. IsTakenBack g.A.Allot.goes g.A.Allot.refused g.A.Allot.out (g.A.Allot.state c.args.allot.now)
          (g.A.Allot.state c.clear_in_cell.new.allot) done (drop (i + 1) c.args.added.now) c.args.self.now c.clear_in_cell.new.self)
          (sym (take-one-more c.args.added.now i c.loop-page-test.true))
          (one-more g.A.Allot.goes g.A.Allot.refused g.A.Allot.out (g.A.Allot.state c.args.allot.now) (g.A.Allot.state c.loop-page.allot) (g.A.Allot.state c.clear_in_cell.new.allot)
          (take i c.args.added.now) (drop (i + 1) c.args.added.now) page c.args.self.now c.loop-page.self c.clear_in_cell.new.self
          so_far c.clear_in_cell.ensures.given c.clear_in_cell.ensures.shrunk
          (λ sides st. subst (λ cell. TablesStandFor c.clear_in_cell.new.self (sides_without cell (page % 512) 1 sides)) c.cell_and_index-cell.ensures.cell
          (subst (λ i. TablesStandFor c.clear_in_cell.new.self (sides_without c.cell_and_index-cell.result.0 i 1 sides)) c.cell_and_index-cell.ensures.index
          (c.clear_in_cell.ensures.follows sides st)))
          c.clear_in_cell.ensures.held
          c.clear_in_cell.ensures.slots c.clear_in_cell.ensures.unrefused c.clear_in_cell.ensures.snapshot);
      writable = subst (λ pages. StopsWritingAt pages c.args.self.now c.clear_in_cell.new.self) (sym (take-one-more c.args.added.now i c.loop-page-test.true))
          (one-more-stopped (take i c.args.added.now) page c.args.self.now c.loop-page.self c.clear_in_cell.new.self c.loop-page.invariant.writable
          (subst (λ cell. StopsWriting (cell * 512 + page % 512) 1 c.loop-page.self c.clear_in_cell.new.self) c.cell_and_index-cell.ensures.cell
          (subst (λ i. StopsWriting (c.cell_and_index-cell.result.0 * 512 + i) 1 c.loop-page.self c.clear_in_cell.new.self) c.cell_and_index-cell.ensures.index c.clear_in_cell.ensures.writable)));
      untold = c.clear_in_cell.ensures.untold;
    }

-- src/range.rt:84:5
pub returns-clause-follows : goal.returns-clause-follows
returns-clause-follows g c = λ sides st.
    let whole : c.loop-page.page-index ≡ length c.args.added.now = omega (arith, c.loop-page-test.false, c.loop-page.auto.page-index-end) in
    subst (λ done. TablesStandFor c.loop-page.self (sides_without_pages done sides)) (ap (λ n. take n c.args.added.now) whole ∙ take-length c.args.added.now)
    (c.loop-page.invariant.taken.follows sides st)

pub returns-clause-writable : goal.returns-clause-writable
returns-clause-writable g c =
    let whole : c.loop-page.page-index ≡ length c.args.added.now = omega (arith, c.loop-page-test.false, c.loop-page.auto.page-index-end) in
    subst (λ pages. StopsWritingAt pages c.args.self.now c.loop-page.self) (ap (λ n. take n c.args.added.now) whole ∙ take-length c.args.added.now) c.loop-page.invariant.writable
