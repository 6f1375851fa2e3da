-- The search for a key in a store.
use Rattle.std.proofs.Common.{◌≡◌, ℕ, ◌+◌, ◌*◌, ◌%◌, ◌^◌, ◌<◌, ◌≤◌, List, length, sym, ◌∙◌, ap, subst, arith}
use Rattle.vm_base.specs.FlatMemory.{FlatMemory}
use Rattle.store_meaning.specs.Layout.{array_field, buckets_field, pairs_field, word_at}
use Rattle.store_meaning.specs.HashLayout.{Store, Pairs, IsStore, hash_of, chain_of}
use Rattle.store_meaning.specs.StoreSteps.{bucket_of}
use Rattle.page_hash.specs.declared.table_head.TableHead.{TableHead}
use Rattle.page_hash.specs.HashCalls.{IsOfArea}
use Rattle.page_hash.specs.Walks.{IsHead, IsChainFrom, HasChain, bucket_at}
use Rattle.page_hash.proofs.StoreReads.{bucket_count, bucket_part, bucket_low}
use Rattle.page_hash.proofs.WalkLemmas.{bucket_chain, has_chain}

-- what the three fields of the header say
pub is_head : (memory : FlatMemory) (store : Store) (of : Pairs) (head : TableHead) → IsStore memory store of
    → head.array ≡ word_at memory array_field → head.buckets ≡ word_at memory buckets_field → head.pairs ≡ word_at memory pairs_field
    → IsHead store.table head
is_head memory store of head is array buckets pairs = record {
  array = array ∙ is.table.array;
  buckets = buckets ∙ is.table.buckets;
  pairs = pairs ∙ is.table.pairs;
}

-- the bucket of a key is one of the table's
pub bucket_inside : (memory : FlatMemory) (store : Store) (of : Pairs) (key : List ℕ) → IsStore memory store of
    → bucket_of store.table key < length store.table.chains
bucket_inside memory store of key is =
    let some : 0 < length store.table.chains = omega (arith, (bucket_count memory store.table is.table).0) in omega (arith, some)

-- it is where the code reads it
pub bucket_is : (store : Store) (key : List ℕ) (head : TableHead) (hash : ℕ) → IsHead store.table head → hash ≡ hash_of key
    → head.array + 8 * (hash % head.buckets) ≡ bucket_at store.table key
bucket_is store key head hash is hashed =
    ap (λ a. a + 8 * (hash % head.buckets)) is.array ∙ ap (λ n. store.table.array + 8 * (hash % n)) is.buckets
    ∙ ap (λ h. store.table.array + 8 * (h % length store.table.chains)) hashed

-- and may be read
pub bucket_area : (memory : FlatMemory) (store : Store) (of : Pairs) (key : List ℕ) → IsStore memory store of
    → IsOfArea memory (bucket_at store.table key) 8
bucket_area memory store of key is =
    bucket_part memory store.table (bucket_of store.table key) is.table (bucket_inside memory store of key is)

pub bucket_end : (memory : FlatMemory) (store : Store) (of : Pairs) (key : List ℕ) → IsStore memory store of
    → bucket_at store.table key + 8 ≤ 2 ^ 48
bucket_end memory store of key is =
    bucket_low memory store.table (bucket_of store.table key) is.table (bucket_inside memory store of key is)

-- the chain of the key's bucket from its first block on
pub key_chain : (memory : FlatMemory) (store : Store) (of : Pairs) (key : List ℕ) (first : ℕ) → IsStore memory store of
    → first ≡ word_at memory (bucket_at store.table key) → IsChainFrom memory first (chain_of store.table (bucket_of store.table key))
key_chain memory store of key first is read =
    subst (λ a. IsChainFrom memory a (chain_of store.table (bucket_of store.table key))) (sym read)
    (bucket_chain memory store of (bucket_of store.table key) is (bucket_inside memory store of key is))

pub key_has_chain : (memory : FlatMemory) (store : Store) (of : Pairs) (key : List ℕ) (first pairs : ℕ) → IsStore memory store of
    → first ≡ word_at memory (bucket_at store.table key) → pairs ≡ word_at memory pairs_field → HasChain memory first pairs
key_has_chain memory store of key first pairs is read counted =
    subst (λ a. HasChain memory a pairs) (sym read) (subst (HasChain memory (word_at memory (bucket_at store.table key))) (sym counted)
    (has_chain memory store of (bucket_of store.table key) is (bucket_inside memory store of key is)))
