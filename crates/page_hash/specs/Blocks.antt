-- Blocks of a snapshot, as they are read.
use Rattle.std.specs.Prelude.{◌≡◌, length}
use Rattle.vm_base.specs.Places.{cells_of_range}
use Rattle.vm_base.specs.SnapshotState.{SnapshotState}
use Rattle.store_meaning.specs.Layout.{word_at}
use Rattle.store_meaning.specs.HashLayout.{Entry}
use Rattle.store_meaning.specs.StoreSteps.{entry_cells}
use Rattle.page_hash.specs.declared.block_read.BlockHead.{BlockHead}
use Rattle.page_hash.specs.declared.block_read.BlockRead.{BlockRead}
use Rattle.page_hash.specs.Listing.{AreNotLost}

-- the head of a block was read, and none of its cells was found lost
pub record IsHeadRead (old : SnapshotState) (entry : Entry) (head : BlockHead) : Type 0 where
  pub next : head.next ≡ word_at old.mem entry.at
  pub key : head.key_length ≡ length entry.key
  pub value : head.value_length ≡ length entry.value
  pub kept : AreNotLost old (cells_of_range entry.at 16)

-- a block was read whole, and none of its cells was found lost
pub record IsBlockRead (old : SnapshotState) (entry : Entry) (block : BlockRead) : Type 0 where
  pub next : block.next ≡ word_at old.mem entry.at
  pub key : block.key.items ≡ entry.key
  pub value : block.value.items ≡ entry.value
  pub kept : AreNotLost old (entry_cells entry)
