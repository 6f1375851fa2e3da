-- A piece goes on where the bytes so far end.
use Rattle.std.proofs.Common.{◌+◌, ◌≤◌, length, arith}
use Rattle.page_tables.proofs.PieceByPiece.{read-more}
use Rattle.page_tables.proofs.tables.PageTables.read.Goals as goal

pub loop-done-preserved : goal.loop-done-preserved
loop-done-preserved c =
    let fits : c.loop-done.done + c.piece_of_page-piece.result ≤ length c.loop-done.buf = omega (arith, c.piece_of_page-piece.ensures.within) in
    record {
      within = omega (arith, fits, c.loop-done.auto.buf);
      read = λ sides st. read-more sides.pages c.args.addr c.loop-done.done c.piece_of_page-piece.result c.loop-done.buf c.read_piece.new.buf fits c.read_piece.auto.buf
          (c.read_piece.ensures.read sides st) (c.loop-done.invariant.read sides st);
    }
