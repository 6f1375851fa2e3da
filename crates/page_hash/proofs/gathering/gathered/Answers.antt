use Rattle.std.proofs.Common.{◌≡◌, ◌∙◌, ◌+◌, ◌*◌, ◌/◌, [], refl, sym, subst, arith, Contains}
use Rattle.std.proofs.lemmas.Result.{err_from_is_err_and}
use Rattle.store_meaning.specs.Layout.{heap_area}
use Rattle.page_hash.specs.HashCalls.{IsOfArea}
use Rattle.page_hash.specs.Chains.{HasChains}
use Rattle.page_hash.proofs.SnapshotsKept.{keeps_on}
use Rattle.page_hash.proofs.ListedParts.{IsPartSoFar, part_begins, part_next, part_stops, part_ends}
use Rattle.page_hash.proofs.ListedStore.{store_linked, header_words, array_page, array_here, pages_fit, pages_all, page_read, page_missed, all_kept, header_missed, rest_missed}
use Rattle.page_hash.proofs.gathering.gathered.Goals as goal

pub returns-in_err-read_frozen-clause-lost : goal.returns-in_err-read_frozen-clause-lost
returns-in_err-read_frozen-clause-lost g c =
    let p = err_from_is_err_and c.from_residual.result c.from_residual.ensures.1 in
    rw (p.1, p.2)
    (header_missed (g.Z.Frozen.snapshot c.args.z.now) (g.Z.Frozen.snapshot c.read_frozen.new.z) c.in_err-read_frozen.field-0.0
    c.in_err-read_frozen.ensures.lost)

pub loop-page-init : goal.loop-page-init
loop-page-init g c = record {
  keeps = c.read_frozen.ensures.keeps;
  uncounted = c.read_frozen.ensures.uncounted;
  aside = c.read_frozen.ensures.aside;
  went = c.read_frozen.ensures.went;
  so_far = λ store of is.
      let old = g.Z.Frozen.snapshot c.args.z.now in
      subst (IsPartSoFar old store.table.array store.table.chains 0 []) (sym c.new-pairs.ensures.items)
      (part_begins old store.table.array 0 store.table.chains [] refl (store_linked old.mem store of is));
}

pub overflow_mul-page : goal.overflow_mul-page
overflow_mul-page g c =
    let mem = (g.Z.Frozen.snapshot c.args.z.now).mem in
    let words = header_words mem c.read_frozen.new.buf c.in_ok-read_frozen.ensures.read.is in
    let page = array_page mem c.requires.stands.1.0 c.requires.stands.0 c.read_u64-array.result c.read_u64-buckets.result
    c.read_u64-most.result c.loop-page.page c.requires.stands.1.1 (c.read_u64-array.ensures ∙ words.0)
    (c.read_u64-buckets.ensures ∙ words.1) (c.read_u64-most.ensures ∙ words.2) c.loop-page-test.true in
    record { fits = omega (arith, page.low) }

pub overflow_add-array : goal.overflow_add-array
overflow_add-array g c =
    let mem = (g.Z.Frozen.snapshot c.args.z.now).mem in
    let words = header_words mem c.read_frozen.new.buf c.in_ok-read_frozen.ensures.read.is in
    let page = array_page mem c.requires.stands.1.0 c.requires.stands.0 c.read_u64-array.result c.read_u64-buckets.result
    c.read_u64-most.result c.loop-page.page c.requires.stands.1.1 (c.read_u64-array.ensures ∙ words.0)
    (c.read_u64-buckets.ensures ∙ words.1) (c.read_u64-most.ensures ∙ words.2) c.loop-page-test.true in
    record { fits = omega (arith, page.low) }

pub add_page-requires-clause-page : goal.add_page-requires-clause-page
add_page-requires-clause-page g c =
    let mem = (g.Z.Frozen.snapshot c.args.z.now).mem in
    let place = c.read_u64-array.result + 4096 * c.loop-page.page in
    let words = header_words mem c.read_frozen.new.buf c.in_ok-read_frozen.ensures.read.is in
    let page = array_page mem c.requires.stands.1.0 c.requires.stands.0 c.read_u64-array.result c.read_u64-buckets.result
    c.read_u64-most.result c.loop-page.page c.requires.stands.1.1 (c.read_u64-array.ensures ∙ words.0)
    (c.read_u64-buckets.ensures ∙ words.1) (c.read_u64-most.ensures ∙ words.2) c.loop-page-test.true in
    (subst (λ memory. IsOfArea memory place 4096) (sym c.loop-page.invariant.keeps.goes_on.mem) page.area, (page.aligned, page.low))

pub add_page-requires-clause-chains : goal.add_page-requires-clause-chains
add_page-requires-clause-chains g c =
    let mem = (g.Z.Frozen.snapshot c.args.z.now).mem in
    let kept = sym c.loop-page.invariant.keeps.goes_on.mem in
    let place = c.read_u64-array.result + 4096 * c.loop-page.page in
    let words = header_words mem c.read_frozen.new.buf c.in_ok-read_frozen.ensures.read.is in
    let page = array_page mem c.requires.stands.1.0 c.requires.stands.0 c.read_u64-array.result c.read_u64-buckets.result
    c.read_u64-most.result c.loop-page.page c.requires.stands.1.1 (c.read_u64-array.ensures ∙ words.0)
    (c.read_u64-buckets.ensures ∙ words.1) (c.read_u64-most.ensures ∙ words.2) c.loop-page-test.true in (
      subst (λ memory. Contains memory.areas heap_area) kept c.requires.stands.1.1.heap.areas.1,
      subst (λ memory. HasChains memory place 512 c.read_u64-most.result) kept page.has,
    )

pub returns-in_err-add_page-clause-lost : goal.returns-in_err-add_page-clause-lost
returns-in_err-add_page-clause-lost g c =
    let old = g.Z.Frozen.snapshot c.args.z.now in
    let mid = g.Z.Frozen.snapshot c.loop-page.z in
    let new = g.Z.Frozen.snapshot c.add_page.new.z in
    let fault = c.in_err-add_page.field-0.0 in
    let words = header_words old.mem c.read_frozen.new.buf c.in_ok-read_frozen.ensures.read.is in
    let p = err_from_is_err_and c.from_residual-in_err-add_page.result c.from_residual-in_err-add_page.ensures.1 in
    rw (p.1, p.2) (rest_missed old new fault c.in_ok-read_frozen.ensures.read.kept (λ store of is.
    let here = array_here old.mem store of c.read_u64-array.result c.loop-page.page is (c.read_u64-array.ensures ∙ words.0) in
    part_stops old new store.table.array store.table.chains (512 * c.loop-page.page) 512 [] c.loop-page.pairs.items fault
    (c.loop-page.invariant.so_far store of is)
    (pages_fit old.mem store of c.read_u64-buckets.result c.loop-page.page is (c.read_u64-buckets.ensures ∙ words.1) c.loop-page-test.true)
    (page_missed old mid new (c.read_u64-array.result + 4096 * c.loop-page.page) (store.table.array + 8 * (512 * c.loop-page.page)) fault
    c.loop-page.invariant.keeps.goes_on here c.in_err-add_page.ensures.lost)))

pub returns-in_err-add_page-clause-keeps : goal.returns-in_err-add_page-clause-keeps
returns-in_err-add_page-clause-keeps g c = keeps_on _ _ _ c.loop-page.invariant.keeps c.add_page.ensures.keeps

pub returns-in_err-add_page-clause-went : goal.returns-in_err-add_page-clause-went
returns-in_err-add_page-clause-went g c = g.met.Z.Frozen.went_on _ _ _ c.loop-page.invariant.went c.add_page.ensures.went

pub loop-page-preserved : goal.loop-page-preserved
loop-page-preserved g c =
    let old = g.Z.Frozen.snapshot c.args.z.now in
    let mid = g.Z.Frozen.snapshot c.loop-page.z in
    let words = header_words old.mem c.read_frozen.new.buf c.in_ok-read_frozen.ensures.read.is in
    let more : 512 * c.loop-page.page + 512 ≡ 512 * (c.loop-page.page + 1) = omega arith in
    record {
      keeps = keeps_on _ _ _ c.loop-page.invariant.keeps c.add_page.ensures.keeps;
      uncounted = c.add_page.ensures.uncounted ∙ c.loop-page.invariant.uncounted;
      aside = c.add_page.ensures.aside ∙ c.loop-page.invariant.aside;
      went = g.met.Z.Frozen.went_on _ _ _ c.loop-page.invariant.went c.add_page.ensures.went;
      so_far = λ store of is.
          let here = array_here old.mem store of c.read_u64-array.result c.loop-page.page is (c.read_u64-array.ensures ∙ words.0) in
          subst (λ k. IsPartSoFar old store.table.array store.table.chains k [] c.add_page.new.pairs.items) more
          (part_next old store.table.array store.table.chains (512 * c.loop-page.page) 512 [] c.loop-page.pairs.items
          c.add_page.new.pairs.items (c.loop-page.invariant.so_far store of is)
          (pages_fit old.mem store of c.read_u64-buckets.result c.loop-page.page is (c.read_u64-buckets.ensures ∙ words.1)
          c.loop-page-test.true)
          (page_read old mid (c.read_u64-array.result + 4096 * c.loop-page.page) (store.table.array + 8 * (512 * c.loop-page.page))
          c.loop-page.pairs.items c.add_page.new.pairs.items c.loop-page.invariant.keeps.goes_on here c.in_ok-add_page.ensures.read));
    }

pub returns-clause-pairs : goal.returns-clause-pairs
returns-clause-pairs g c store of is =
    let old = g.Z.Frozen.snapshot c.args.z.now in
    let words = header_words old.mem c.read_frozen.new.buf c.in_ok-read_frozen.ensures.read.is in
    let end : c.loop-page.page ≡ c.read_u64-buckets.result / 512 = omega (arith, c.loop-page-test.false, c.loop-page.auto.page-end) in
    (part_ends old store.table.array store.table.chains (512 * c.loop-page.page) [] c.loop-page.pairs.items
    (c.loop-page.invariant.so_far store of is)
    (pages_all old.mem store of c.read_u64-buckets.result c.loop-page.page is (c.read_u64-buckets.ensures ∙ words.1) end)).pairs

pub returns-clause-whole : goal.returns-clause-whole
returns-clause-whole g c store of is =
    let old = g.Z.Frozen.snapshot c.args.z.now in
    let words = header_words old.mem c.read_frozen.new.buf c.in_ok-read_frozen.ensures.read.is in
    let end : c.loop-page.page ≡ c.read_u64-buckets.result / 512 = omega (arith, c.loop-page-test.false, c.loop-page.auto.page-end) in
    all_kept old store c.in_ok-read_frozen.ensures.read.kept
    (part_ends old store.table.array store.table.chains (512 * c.loop-page.page) [] c.loop-page.pairs.items
    (c.loop-page.invariant.so_far store of is)
    (pages_all old.mem store of c.read_u64-buckets.result c.loop-page.page is (c.read_u64-buckets.ensures ∙ words.1) end)).kept
