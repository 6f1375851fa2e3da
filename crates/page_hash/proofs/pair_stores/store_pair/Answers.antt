use Rattle.std.proofs.Common.{◌≡◌, ◌+◌, length, ◌∙◌, ap, arith, length-append}
use Rattle.vm_base.specs.MemoryCalls.{after_store}
use Rattle.page_hash.specs.PairStores.{head_bytes, front_bytes}
use Rattle.page_hash.proofs.StoredPairs.{stores_join, head_size}
use Rattle.page_hash.proofs.pair_stores.store_pair.Goals as goal

pub returns-clause-stored : goal.returns-clause-stored
returns-clause-stored g c =
    let state = g.M.Memory.state c.args.m.now in
    let head = head_bytes c.args.next (length c.args.key.now) (length c.args.value.now) in
    let front = front_bytes c.args.next c.args.key.now (length c.args.value.now) in
    let size : 16 + length c.args.key.now ≡ length front =
    omega (arith, length-append head c.args.key.now, head_size c.args.next (length c.args.key.now) (length c.args.value.now)) in
    c.store.ensures.stored
    ∙ ap (λ s. after_store s (c.args.at + (16 + length c.args.key.now)) c.args.value.now) c.store_front.ensures.stored
    ∙ ap (λ n. after_store (after_store state c.args.at front) (c.args.at + n) c.args.value.now) size
    ∙ stores_join state c.args.at front c.args.value.now
