use Rattle.std.proofs.Common.{◌≡◌, ◌+◌, ◌*◌, ◌%◌, ◌^◌, ◌≤◌, sym, ◌∙◌, ap, subst, arith}
use Rattle.store_meaning.specs.Layout.{word_at}
use Rattle.store_meaning.specs.HashLayout.{chain_of}
use Rattle.store_meaning.specs.StoreSteps.{bucket_of}
use Rattle.page_hash.specs.HashCalls.{IsOfArea}
use Rattle.page_hash.specs.Walks.{IsChainFrom, HasChain, bucket_at}
use Rattle.page_hash.proofs.Searching.{is_head, bucket_is, bucket_area, bucket_end, key_chain, key_has_chain}
use Rattle.page_hash.proofs.search.locate.Goals as goal

pub overflow_add-bucket : goal.overflow_add-bucket
overflow_add-bucket g c =
    let mem = (g.M.Memory.state c.args.m.now).mem in
    let store = c.requires.stands.stands.0 in
    let of = c.requires.stands.pairs in
    let is = c.requires.stands.stands.1 in
    let head = is_head mem store of c.table_head-head.result is c.table_head-head.ensures.array c.table_head-head.ensures.buckets
    c.table_head-head.ensures.pairs in
    let here = bucket_is store c.args.key.now c.table_head-head.result c.key_hash.result head c.key_hash.ensures in
    let end = bucket_end mem store of c.args.key.now is in
    record { fits = omega (arith, here, end) }

pub read_word-first-requires-clause-area : goal.read_word-first-requires-clause-area
read_word-first-requires-clause-area g c =
    let mem = (g.M.Memory.state c.args.m.now).mem in
    let store = c.requires.stands.stands.0 in
    let of = c.requires.stands.pairs in
    let is = c.requires.stands.stands.1 in
    let head = is_head mem store of c.table_head-head.result is c.table_head-head.ensures.array c.table_head-head.ensures.buckets
    c.table_head-head.ensures.pairs in
    let here = bucket_is store c.args.key.now c.table_head-head.result c.key_hash.result head c.key_hash.ensures in
    subst (λ s. IsOfArea s.mem (c.table_head-head.result.array + 8 * (c.key_hash.result % c.table_head-head.result.buckets)) 8)
    (sym c.table_head-head.ensures.same)
    (subst (λ a. IsOfArea mem a 8) (sym here) (bucket_area mem store of c.args.key.now is))

pub read_word-first-requires-clause-within : goal.read_word-first-requires-clause-within
read_word-first-requires-clause-within g c =
    let mem = (g.M.Memory.state c.args.m.now).mem in
    let store = c.requires.stands.stands.0 in
    let of = c.requires.stands.pairs in
    let is = c.requires.stands.stands.1 in
    let head = is_head mem store of c.table_head-head.result is c.table_head-head.ensures.array c.table_head-head.ensures.buckets
    c.table_head-head.ensures.pairs in
    let here = bucket_is store c.args.key.now c.table_head-head.result c.key_hash.result head c.key_hash.ensures in
    subst (λ a. a + 8 ≤ 2 ^ 48) (sym here) (bucket_end mem store of c.args.key.now is)

pub walk-located-requires-clause-chain : goal.walk-located-requires-clause-chain
walk-located-requires-clause-chain g c =
    let mem = (g.M.Memory.state c.args.m.now).mem in
    let store = c.requires.stands.stands.0 in
    let of = c.requires.stands.pairs in
    let is = c.requires.stands.stands.1 in
    let bucket = c.table_head-head.result.array + 8 * (c.key_hash.result % c.table_head-head.result.buckets) in
    let head = is_head mem store of c.table_head-head.result is c.table_head-head.ensures.array c.table_head-head.ensures.buckets
    c.table_head-head.ensures.pairs in
    let here = bucket_is store c.args.key.now c.table_head-head.result c.key_hash.result head c.key_hash.ensures in
    let first : c.read_word-first.result ≡ word_at mem (bucket_at store.table c.args.key.now) =
    c.read_word-first.ensures.word ∙ ap (λ s. word_at s.mem bucket) c.table_head-head.ensures.same ∙ ap (word_at mem) here in
    subst (λ s. HasChain s.mem c.read_word-first.result c.table_head-head.result.pairs)
    (sym (c.read_word-first.ensures.same ∙ c.table_head-head.ensures.same))
    (key_has_chain mem store of c.args.key.now c.read_word-first.result c.table_head-head.result.pairs is first
    c.table_head-head.ensures.pairs)

pub returns-clause-search : goal.returns-clause-search
returns-clause-search g c store of is =
    let mem = (g.M.Memory.state c.args.m.now).mem in
    let key = c.args.key.now in
    let bucket = c.table_head-head.result.array + 8 * (c.key_hash.result % c.table_head-head.result.buckets) in
    let chain = chain_of store.table (bucket_of store.table key) in
    let head = is_head mem store of c.table_head-head.result is c.table_head-head.ensures.array c.table_head-head.ensures.buckets
    c.table_head-head.ensures.pairs in
    let here = bucket_is store key c.table_head-head.result c.key_hash.result head c.key_hash.ensures in
    let read : c.read_word-first.result ≡ word_at mem bucket =
    c.read_word-first.ensures.word ∙ ap (λ s. word_at s.mem bucket) c.table_head-head.ensures.same in
    record {
      head = head;
      bucket = here;
      first = read;
      located = c.walk-located.ensures.located chain
          (subst (λ s. IsChainFrom s.mem c.read_word-first.result chain)
          (sym (c.read_word-first.ensures.same ∙ c.table_head-head.ensures.same))
          (key_chain mem store of key c.read_word-first.result is (read ∙ ap (word_at mem) here)));
    }

pub returns-clause-went : goal.returns-clause-went
returns-clause-went g c = g.met.M.Memory.went_on _ _ _ c.table_head-head.ensures.went
    (g.met.M.Memory.went_on _ _ _ c.read_word-first.ensures.went c.walk-located.ensures.went)
