-- A piece is stored where the bytes so far end.
use Rattle.std.proofs.Common.{◌+◌, ◌*◌, ◌<◌, ◌≤◌, length, take, subst, ◌∙◌, arith}
use Rattle.std.proofs.lemmas.List.{take_all}
use Rattle.vm_base.specs.Places.{page_of}
use Rattle.vm_base.specs.FlatStep.{with_bytes}
use Rattle.page_tables.specs.Sides.{Sides}
use Rattle.page_tables.specs.Standing.{TablesStandFor}
use Rattle.page_tables.proofs.PieceByPiece.{store-more}
use Rattle.std.proofs.Math.Logic.{∥∥₁_map}
use Rattle.page_tables.proofs.tables.PageTables.store.Goals as goal

pub store_piece-requires-clause-stands : goal.store_piece-requires-clause-stands
store_piece-requires-clause-stands c =
    let above : page_of c.args.addr ≤ page_of (c.args.addr + c.loop-done.done) = omega arith in
    let below : page_of (c.args.addr + c.loop-done.done) * 4096 < c.args.addr + length c.args.bytes.now = omega arith in
    ∥∥₁_map c.requires.stands (λ it.
    let sides : Sides = it.0 in (
      record sides { pages = with_bytes sides.pages c.args.addr (take c.loop-done.done c.args.bytes.now) },
      (c.loop-done.invariant.stored sides it.1.0, it.1.1 (page_of (c.args.addr + c.loop-done.done)) above below),
    ))

pub loop-done-preserved : goal.loop-done-preserved
loop-done-preserved c =
    let fits : c.loop-done.done + c.piece_of_page-piece.result ≤ length c.args.bytes.now = omega (arith, c.piece_of_page-piece.ensures.within) in
    record {
      within = fits;
      stored = λ sides st. subst (λ pages. TablesStandFor c.store_piece.new.self (record sides { pages = pages }))
          (store-more sides.pages c.args.addr c.loop-done.done c.piece_of_page-piece.result c.args.bytes.now fits)
          (c.store_piece.ensures.stored (record sides { pages = with_bytes sides.pages c.args.addr (take c.loop-done.done c.args.bytes.now) }) (c.loop-done.invariant.stored sides st));
      held = c.store_piece.ensures.kept.held ∙ c.loop-done.invariant.held;
      cells = record { frames = c.store_piece.ensures.kept.cells.frames ∙ c.loop-done.invariant.cells.frames; shares = c.store_piece.ensures.kept.cells.shares ∙ c.loop-done.invariant.cells.shares };
      writable = λ page. c.store_piece.ensures.kept.writable page ∙ c.loop-done.invariant.writable page;
      snapshot = c.store_piece.ensures.kept.snapshot ∙ c.loop-done.invariant.snapshot;
      slots = c.store_piece.ensures.kept.slots ∙ c.loop-done.invariant.slots;
    }

pub returns-clause-stored : goal.returns-clause-stored
returns-clause-stored c = λ sides st.
    subst (λ bytes. TablesStandFor c.loop-done.self (record sides { pages = with_bytes sides.pages c.args.addr bytes }))
    (take_all c.loop-done.done c.args.bytes.now (omega arith)) (c.loop-done.invariant.stored sides st)
