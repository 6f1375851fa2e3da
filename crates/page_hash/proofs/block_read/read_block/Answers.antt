use Rattle.std.proofs.Common.{◌≡◌, ◌∙◌, ◌+◌, length, take, drop, refl, subst, ap, arith}
use Rattle.std.proofs.lemmas.Result.{err_from_is_err_and}
use Rattle.vm_base.specs.Places.{cells_of_range}
use Rattle.vm_base.proofs.FlatBytes.{length-bytes_at}
use Rattle.store_meaning.specs.HashLayout.{Entry}
use Rattle.page_hash.specs.declared.block_read.BlockRead.{BlockRead}
use Rattle.page_hash.specs.Walks.{IsBlockOf}
use Rattle.page_hash.specs.Listing.{AreNotLost, StopsAmong}
use Rattle.page_hash.specs.Blocks.{IsBlockRead}
use Rattle.page_hash.proofs.SnapshotsKept.{keeps_on, keeps_itself}
use Rattle.page_hash.proofs.BlockReads.{ok_then, stops_first, stops_second, block_cells, block_read}
use Rattle.page_hash.proofs.block_read.read_block.Goals as goal

pub returns-in_err-head-clause-lost : goal.returns-in_err-head-clause-lost
returns-in_err-head-clause-lost g c =
    let old = g.Z.Frozen.snapshot c.args.z.now in
    let new = g.Z.Frozen.snapshot c.read_head.new.z in
    let fault = c.in_err-head.field-0.0 in
    let p = err_from_is_err_and c.from_residual.result c.from_residual.ensures.1 in
    rw (p.1, p.2) (λ entry is.
    subst (λ cells. StopsAmong old new cells fault)
    (block_cells old.mem c.args.at (length entry.key) (length entry.value) entry is refl refl)
    (stops_first old new c.args.at 16 (length entry.key + length entry.value) fault (omega arith) c.in_err-head.ensures.lost))

pub read_bytes-requires-clause-sound : goal.read_bytes-requires-clause-sound
read_bytes-requires-clause-sound g c = keeps_itself _ _ c.read_head.ensures.keeps

pub returns-in_err-bytes-clause-lost : goal.returns-in_err-bytes-clause-lost
returns-in_err-bytes-clause-lost g c =
    let old = g.Z.Frozen.snapshot c.args.z.now in
    let mid = g.Z.Frozen.snapshot c.read_head.new.z in
    let new = g.Z.Frozen.snapshot c.read_bytes.new.z in
    let fault = c.in_err-bytes.field-0.0 in
    let head = c.in_ok-head.head in
    let p = err_from_is_err_and c.from_residual-in_err-bytes.result c.from_residual-in_err-bytes.ensures.1 in
    rw (p.1, p.2) (λ entry is.
    let told = c.in_ok-head.ensures.read entry is in
    subst (λ cells. StopsAmong old new cells fault)
    (block_cells old.mem c.args.at head.key_length head.value_length entry is told.key told.value)
    (stops_second old mid new c.args.at 16 (head.key_length + head.value_length) fault (omega arith) c.read_head.ensures.keeps.goes_on
    (subst (λ a. AreNotLost old (cells_of_range a 16)) is.here told.kept) c.in_err-bytes.ensures.lost))

pub parted-requires : goal.parted-requires
parted-requires g c =
    record {
      both = ap length (c.deref.ensures.value ∙ c.in_ok-bytes.ensures.read.is)
          ∙ length-bytes_at (g.Z.Frozen.snapshot c.read_head.new.z).mem.present (c.args.at + 16)
          (c.in_ok-head.head.key_length + c.in_ok-head.head.value_length);
    }

pub returns-clause-read : goal.returns-clause-read
returns-clause-read g c =
    ok_then
    (λ (block : BlockRead). (block.next ≡ c.in_ok-head.head.next)
    × (block.key.items ≡ take c.in_ok-head.head.key_length c.deref.result.now)
    × (block.value.items ≡ drop c.in_ok-head.head.key_length c.deref.result.now))
    (λ (block : BlockRead). (entry : Entry) → IsBlockOf (g.Z.Frozen.snapshot c.args.z.now).mem c.args.at entry
    → IsBlockRead (g.Z.Frozen.snapshot c.args.z.now) entry block)
    c.parted.result (λ block parts entry is.
    block_read (g.Z.Frozen.snapshot c.args.z.now) (g.Z.Frozen.snapshot c.read_head.new.z) c.args.at c.in_ok-head.head
    c.in_ok-bytes.bytes.items entry block is (c.in_ok-head.ensures.read entry is) c.read_head.ensures.keeps.goes_on
    c.in_ok-bytes.ensures.read parts.0
    (parts.1 ∙ ap (take c.in_ok-head.head.key_length) c.deref.ensures.value)
    (parts.2 ∙ ap (drop c.in_ok-head.head.key_length) c.deref.ensures.value))
    c.parted.ensures.block

pub returns-in_err-bytes-clause-keeps : goal.returns-in_err-bytes-clause-keeps
returns-in_err-bytes-clause-keeps g c = keeps_on _ _ _ c.read_head.ensures.keeps c.read_bytes.ensures.keeps

pub returns-in_err-bytes-clause-went : goal.returns-in_err-bytes-clause-went
returns-in_err-bytes-clause-went g c = g.met.Z.Frozen.went_on _ _ _ c.read_head.ensures.went c.read_bytes.ensures.went

pub returns-clause-keeps : goal.returns-clause-keeps
returns-clause-keeps g c = keeps_on _ _ _ c.read_head.ensures.keeps c.read_bytes.ensures.keeps

pub returns-clause-went : goal.returns-clause-went
returns-clause-went g c = g.met.Z.Frozen.went_on _ _ _ c.read_head.ensures.went c.read_bytes.ensures.went
