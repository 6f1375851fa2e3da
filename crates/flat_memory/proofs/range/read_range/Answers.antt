-- A piece goes on where the bytes so far end.
use Rattle.std.proofs.Common.{◌+◌, ◌≤◌, length, arith}
use Rattle.flat_memory.proofs.RangeLemmas.{read-more}
use Rattle.flat_memory.proofs.range.read_range.Goals as goal

pub loop-done-preserved : goal.loop-done-preserved
loop-done-preserved c =
    let fits : c.loop-done.done + c.piece_of_page-piece.result ≤ length c.loop-done.buf =
    omega (arith, c.piece_of_page-piece.ensures.within) in
    record {
      within = omega (arith, fits, c.loop-done.auto.buf);
      read = read-more c.args.pages.now.present c.args.addr c.loop-done.done c.piece_of_page-piece.result c.loop-done.buf
          c.read_piece.new.buf fits c.read_piece.auto.buf
          c.read_piece.ensures c.loop-done.invariant.read;
    }
