use Rattle.std.proofs.Common.{◌≡◌, ℕ, ◌+◌, ◌-◌, ◌≤◌, ◌∙◌, ◌++◌, length, take, drop, fold, replicate, ap, arith}
use Rattle.vm_base.specs.FlatMemory.{bytes_at}
use Rattle.vm_base.proofs.FlatBytes.{length-bytes_at}
use Rattle.store_meaning.specs.HashLayout.{hash_step}
use Rattle.page_hash.proofs.HeadReads.{front_read, front_kept, next_said, length_said, hash_said}
use Rattle.page_hash.proofs.block_head.block_head.Goals as goal

pub hash_range-hash-requires-clause-within : goal.hash_range-hash-requires-clause-within
hash_range-hash-requires-clause-within g c =
    let mem = (g.M.Memory.state c.args.m.now).mem in
    let size = c.front_of-size.result in
    let entry = c.requires.block.0 in
    let is = c.requires.block.1.1 in
    let front = c.read_area.new.buf ++ drop size (replicate 272 0) in
    let read = front_read mem.present c.args.at size (replicate 272 0) c.read_area.new.buf c.front_of-size.ensures.few
    c.read_area.ensures.bytes in
    let kept : length front ≡ length (replicate {A = ℕ} 272 0) = front_kept size
    (replicate 272 0) c.read_area.new.buf c.front_of-size.ensures.few
    (ap length c.read_area.ensures.bytes ∙ length-bytes_at mem.present c.args.at (length (take size (replicate {A = ℕ} 272 0)))) in
    let long : size ≤ length front = omega (arith, kept, c.front_of-size.ensures.few) in
    let key : c.read_u32-length.result ≡ length entry.key =
    c.read_u32-length.ensures
    ∙ length_said mem entry c.args.at size 264 front c.requires.block.1.0 is c.front_of-size.ensures.head long read
    (omega arith) in
    (omega (arith, is.above, c.requires.block.1.0), omega (arith, is.below, c.requires.block.1.0, key, c.min-first.ensures))

pub returns-clause-next : goal.returns-clause-next
returns-clause-next g c =
    let mem = (g.M.Memory.state c.args.m.now).mem in
    let size = c.front_of-size.result in
    let front = c.read_area.new.buf ++ drop size (replicate 272 0) in
    let read = front_read mem.present c.args.at size (replicate 272 0) c.read_area.new.buf c.front_of-size.ensures.few
    c.read_area.ensures.bytes in
    let kept : length front ≡ length (replicate {A = ℕ} 272 0) = front_kept size
    (replicate 272 0) c.read_area.new.buf c.front_of-size.ensures.few
    (ap length c.read_area.ensures.bytes ∙ length-bytes_at mem.present c.args.at (length (take size (replicate {A = ℕ} 272 0)))) in
    c.read_u64-next.ensures
    ∙ next_said mem c.args.at size front c.front_of-size.ensures.head (omega (arith, kept, c.front_of-size.ensures.few)) read

pub returns-clause-hash : goal.returns-clause-hash
returns-clause-hash g c entry here is =
    let mem = (g.M.Memory.state c.args.m.now).mem in
    let size = c.front_of-size.result in
    let first = c.min-first.result in
    let front = c.read_area.new.buf ++ drop size (replicate 272 0) in
    let read = front_read mem.present c.args.at size (replicate 272 0) c.read_area.new.buf c.front_of-size.ensures.few
    c.read_area.ensures.bytes in
    let kept : length front ≡ length (replicate {A = ℕ} 272 0) = front_kept size
    (replicate 272 0) c.read_area.new.buf c.front_of-size.ensures.few
    (ap length c.read_area.ensures.bytes ∙ length-bytes_at mem.present c.args.at (length (take size (replicate {A = ℕ} 272 0)))) in
    let long : size ≤ length front = omega (arith, kept, c.front_of-size.ensures.few) in
    let key : c.read_u32-length.result ≡ length entry.key =
    c.read_u32-length.ensures
    ∙ length_said mem entry c.args.at size 264 front here is c.front_of-size.ensures.head long read (omega arith) in
    let few : first ≤ length entry.key = omega (arith, c.min-first.ensures, key) in
    let fits : 16 + first ≤ size =
    omega (arith, c.front_of-size.ensures.whole (16 + first) (omega (arith, is.below, here, few)), c.min-first.ensures) in
    hash_said mem entry c.args.at size first c.hash_bytes-begun.result c.hash_range-hash.result front here is fits long read few
    c.hash_bytes-begun.ensures
    (c.hash_range-hash.ensures.hash
    ∙ ap (λ s. fold hash_step c.hash_bytes-begun.result
    (bytes_at s.mem.present (c.args.at + (16 + first)) (c.read_u32-length.result - first))) c.read_area.ensures.same
    ∙ ap (λ n. fold hash_step c.hash_bytes-begun.result (bytes_at mem.present (c.args.at + (16 + first)) (n - first))) key)

pub returns-clause-went : goal.returns-clause-went
returns-clause-went g c = g.met.M.Memory.went_on _ _ _ c.read_area.ensures.went c.hash_range-hash.ensures.went
