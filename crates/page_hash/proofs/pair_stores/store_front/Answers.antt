use Rattle.std.proofs.Common.{◌+◌, ◌++◌, length, sym, ◌∙◌, ap}
use Rattle.vm_base.specs.MemoryCalls.{after_store}
use Rattle.page_hash.specs.PairStores.{head_bytes}
use Rattle.page_hash.proofs.StoredPairs.{stores_join, head_size, front_taken}
use Rattle.page_hash.proofs.pair_stores.store_front.Goals as goal

pub returns-then-key-gt-KEY_FRONT-clause-stored : goal.returns-then-key-gt-KEY_FRONT-clause-stored
returns-then-key-gt-KEY_FRONT-clause-stored g c =
    let state = g.M.Memory.state c.args.m.now in
    let head = head_bytes c.args.next (length c.args.key.now) c.args.value_length in
    c.store-then-key-gt-KEY_FRONT.ensures.stored
    ∙ ap (λ s. after_store s (c.args.at + 16) c.args.key.now)
    (c.store.ensures.stored ∙ ap (after_store state c.args.at) c.head_of-head.ensures.head)
    ∙ ap (λ n. after_store (after_store state c.args.at head) (c.args.at + n) c.args.key.now) (sym (head_size _ _ _))
    ∙ stores_join state c.args.at head c.args.key.now

pub returns-else-key-gt-KEY_FRONT-clause-stored : goal.returns-else-key-gt-KEY_FRONT-clause-stored
returns-else-key-gt-KEY_FRONT-clause-stored g c =
    c.store-else-key-gt-KEY_FRONT.ensures.stored
    ∙ ap (after_store (g.M.Memory.state c.args.m.now) c.args.at)
    (front_taken c.head_of-head.result c.args.key.now _ _
    (ap length c.head_of-head.ensures.head ∙ head_size _ _ _) c.fill_front.ensures.filled
    ∙ ap (λ h. h ++ c.args.key.now) c.head_of-head.ensures.head)
