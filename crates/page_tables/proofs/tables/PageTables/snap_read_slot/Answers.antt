-- A piece goes on where the bytes so far end, and the first that is lost ends the read.
use Rattle.std.proofs.Common.{◌+◌, ◌≤◌, length, arith}
use Rattle.page_tables.proofs.SnapshotPieces.{snap-more, snap-lost, snap-whole}
use Rattle.page_tables.proofs.tables.PageTables.snap_read_slot.Goals as goal

pub loop-done-preserved : goal.loop-done-preserved
loop-done-preserved c =
    let fits : c.loop-done.done + c.piece_of_page-piece.result ≤ length c.loop-done.buf = omega (arith, c.piece_of_page-piece.ensures.within) in
    record {
      within = omega (arith, fits, c.loop-done.auto.buf);
      read = λ sides st. snap-more sides c.args.number c.args.addr c.loop-done.done c.piece_of_page-piece.result c.loop-done.buf c.snap_read_piece.new.buf c.piece_of_page-piece.ensures.some fits
          (c.loop-done.invariant.read sides st) c.snap_read_piece.auto.buf (c.in-Ok.ensures.read sides st);
    }

pub returns-in-Err : goal.returns-in-Err
returns-in-Err c =
    let fits : c.loop-done.done + c.piece_of_page-piece.result ≤ length c.loop-done.buf = omega (arith, c.piece_of_page-piece.ensures.within) in
    record {
      read = λ sides st. snap-lost sides c.args.number c.args.addr c.loop-done.done c.piece_of_page-piece.result c.loop-done.buf c.snap_read_piece.new.buf c.piece_of_page-piece.ensures.some fits
          (c.loop-done.invariant.read sides st) _ c.in-Err.lost (length c.args.buf.now) c.loop-done.auto.buf (c.in-Err.ensures.read sides st);
    }

pub returns : goal.returns
returns c = record {
  read = λ sides st. snap-whole sides c.args.number c.args.addr c.loop-done.done (length c.args.buf.now) c.loop-done.buf
      (omega (arith, c.loop-done.invariant.within, c.loop-done.auto.buf)) c.loop-done.auto.buf (c.loop-done.invariant.read sides st);
}
