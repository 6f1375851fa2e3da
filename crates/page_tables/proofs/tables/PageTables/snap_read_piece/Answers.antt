-- The cell of the page reads what the snapshot has there.
use Rattle.std.proofs.Common.{length}
use Rattle.vm_base.specs.Places.{page_of, cell_of}
use Rattle.page_tables.proofs.ParentPages.{owned-index}
use Rattle.page_tables.proofs.SnapshotPages.{snapshot-read}
use Rattle.page_tables.proofs.Known.{known-snapshot-owner}
use Rattle.page_tables.proofs.tables.PageTables.snap_read_piece.Goals as goal

pub index-requires : goal.index-requires
index-requires c =
    owned-index c.args.self.now.slots.items _ c.args.slot (cell_of (page_of c.args.addr)) c.args.self.now.slots.ok.0
    (known-snapshot-owner c.args.self.now c.requires.stands (cell_of (page_of c.args.addr)) c.args.slot c.requires.known)

pub returns : goal.returns
returns c = record {
  read = λ sides st. snapshot-read c.args.self.now sides st c.args.slot c.args.number c.args.addr
      (length c.args.buf.now) c.index.result.now c.requires.known c.index.ensures c.requires.some c.requires.room
      c.snap_read.new.buf c.snap_read.auto.buf c.location_of-location.result.page c.location_of-location.result.at c.location_of-location.ensures.page c.location_of-location.ensures.at
      c.snap_read.result c.snap_read.ensures.ok c.snap_read.ensures.account;
}
