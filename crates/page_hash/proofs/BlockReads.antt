-- A block that is read by two reads.
use Rattle.std.proofs.Common.{◌≡◌, ℕ, ◌+◌, ◌<◌, List, ◌++◌, length, take, drop, Result, Ok, Err, IfOk, sym, ◌∙◌, ap, subst, arith}
use Rattle.std.proofs.Math.Seq.{take-append_seam, drop-append_seam}
use Rattle.vm_base.specs.Places.{cells_of_range}
use Rattle.vm_base.specs.FlatMemory.{FlatMemory, PageMap, bytes_at}
use Rattle.vm_base.specs.SnapshotState.{SnapshotState, GoesOn}
use Rattle.vm_base.proofs.FlatBytes.{bytes_at-split, length-bytes_at}
use Rattle.store_meaning.specs.HashLayout.{Entry, pair_size}
use Rattle.store_meaning.specs.StoreSteps.{entry_cells}
use Rattle.page_hash.specs.declared.block_read.BlockHead.{BlockHead}
use Rattle.page_hash.specs.declared.block_read.BlockRead.{BlockRead}
use Rattle.page_hash.specs.declared.found.PairsFault.{PairsFault}
use Rattle.page_hash.specs.declared.found.PairsFault.TheVariants.{Lost, NoMemory}
use Rattle.page_hash.specs.Walks.{IsBlockOf}
use Rattle.page_hash.specs.Listing.{AreNotLost, IsRead, StopsAmong}
use Rattle.page_hash.specs.Blocks.{IsHeadRead, IsBlockRead}
use Rattle.page_hash.proofs.FrozenReads.{not_lost_before, lost_later}
use Rattle.page_hash.proofs.CellRanges.{parts_kept, lost_first, lost_second}

pub ok_then : {A E : Type 0} (P Q : A → Type 0) (r : Result A E) → ((a : A) → P a → Q a) → IfOk r P → IfOk r Q
ok_then P Q (Ok a) more is = more a is
ok_then P Q (Err e) more is = is

-- a read that stops in the first part stops in the whole
pub stops_first : (old new : SnapshotState) (address n m : ℕ) (fault : PairsFault) → 0 < n
    → StopsAmong old new (cells_of_range address n) fault → StopsAmong old new (cells_of_range address (n + m)) fault
stops_first old new address n m (Lost at) some is = lost_first old new address n m at some is
stops_first old new address n m NoMemory some is = tt

-- and so does one that stops in the second part, where the first one was read
pub stops_second : (old mid new : SnapshotState) (address n m : ℕ) (fault : PairsFault) → 0 < n → GoesOn old mid
    → AreNotLost old (cells_of_range address n) → StopsAmong mid new (cells_of_range (address + n) m) fault
    → StopsAmong old new (cells_of_range address (n + m)) fault
stops_second old mid new address n m (Lost at) some goes kept is =
    lost_second old new address n m at some kept (lost_later old mid new (cells_of_range (address + n) m) at goes is)
stops_second old mid new address n m NoMemory some goes kept is = tt

-- the cells of a block, by its two lengths
pub block_cells : (memory : FlatMemory) (at key value : ℕ) (entry : Entry) → IsBlockOf memory at entry → key ≡ length entry.key
    → value ≡ length entry.value → cells_of_range at (16 + (key + value)) ≡ entry_cells entry
block_cells memory at key value entry is long size =
    let all : 16 + (key + value) ≡ pair_size entry.key entry.value = omega (arith, long, size) in
    ap (cells_of_range at) all ∙ ap (λ a. cells_of_range a (pair_size entry.key entry.value)) (sym is.here)

pub taken_part : (present : PageMap) (a k v : ℕ) → take k (bytes_at present a (k + v)) ≡ bytes_at present a k
taken_part present a k v =
    ap (take k) (bytes_at-split present a k v)
    ∙ ap (λ n. take n (bytes_at present a k ++ bytes_at present (a + k) v)) (sym (length-bytes_at present a k))
    ∙ take-append_seam (bytes_at present a k) (bytes_at present (a + k) v)

pub dropped_part : (present : PageMap) (a k v : ℕ) → drop k (bytes_at present a (k + v)) ≡ bytes_at present (a + k) v
dropped_part present a k v =
    ap (drop k) (bytes_at-split present a k v)
    ∙ ap (λ n. drop n (bytes_at present a k ++ bytes_at present (a + k) v)) (sym (length-bytes_at present a k))
    ∙ drop-append_seam (bytes_at present a k) (bytes_at present (a + k) v)

-- head, key and value together
pub block_read : (old mid : SnapshotState) (at : ℕ) (head : BlockHead) (bytes : List ℕ) (entry : Entry) (block : BlockRead)
    → IsBlockOf old.mem at entry → IsHeadRead old entry head → GoesOn old mid
    → IsRead mid (at + 16) (head.key_length + head.value_length) bytes → block.next ≡ head.next
    → block.key.items ≡ take head.key_length bytes → block.value.items ≡ drop head.key_length bytes → IsBlockRead old entry block
block_read old mid at head bytes entry block is told goes read next key value =
    let present = old.mem.present in
    let there : bytes ≡ bytes_at present (at + 16) (head.key_length + head.value_length) =
    read.is ∙ ap (λ memory. bytes_at memory.present (at + 16) (head.key_length + head.value_length)) goes.mem in
    record {
      next = next ∙ told.next;
      key = key ∙ ap (take head.key_length) there ∙ taken_part present (at + 16) head.key_length head.value_length
          ∙ ap (bytes_at present (at + 16)) told.key ∙ ap (λ a. bytes_at present (a + 16) (length entry.key)) (sym is.here)
          ∙ is.holds.key;
      value = value ∙ ap (drop head.key_length) there ∙ dropped_part present (at + 16) head.key_length head.value_length
          ∙ ap (bytes_at present (at + 16 + head.key_length)) told.value
          ∙ ap (λ n. bytes_at present (at + 16 + n) (length entry.value)) told.key
          ∙ ap (λ a. bytes_at present (a + 16 + length entry.key) (length entry.value)) (sym is.here) ∙ is.holds.value;
      kept = subst (AreNotLost old) (block_cells old.mem at head.key_length head.value_length entry is told.key told.value)
          (parts_kept old at 16 (head.key_length + head.value_length) (omega arith)
          (subst (λ a. AreNotLost old (cells_of_range a 16)) is.here told.kept)
          (not_lost_before old mid (cells_of_range (at + 16) (head.key_length + head.value_length)) goes read.kept));
    }
