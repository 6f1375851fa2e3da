use Rattle.std.proofs.Common.{◌≡◌, [], ◌∷◌, sym, ◌∙◌, ap, subst, length}
use Rattle.std.proofs.lemmas.Bool.{false≢true}
use Rattle.vm_base.specs.MemoryState.{IsKept}
use Rattle.vm_base.specs.MemoryCalls.{IsReady, after_store}
use Rattle.vm_base.proofs.IsKeptOn.{IsKept-on}
use Rattle.store_meaning.specs.Layout.{header_at, word_at, array_field, buckets_field, store_cells}
use Rattle.store_meaning.specs.HashLayout.{IsStore}
use Rattle.store_meaning.specs.Standing.{MayHoldStore}
use Rattle.page_hash.specs.Clears.{Clears}
use Rattle.page_hash.proofs.PresentTouch.{TouchesPresent}
use Rattle.page_hash.proofs.Cleared.{IsBare, header_listed, bare, bare_touch, clears, clear_stays, may_kept}
use Rattle.page_hash.proofs.clearing.clear.Goals as goal

pub store-requires-clause-ready : goal.store-requires-clause-ready
store-requires-clause-ready g c =
    let read = g.M.Memory.state c.read_word-buckets.new.m in
    let same : read ≡ g.M.Memory.state c.args.m.now = c.read_word-buckets.ensures.same ∙ c.read_word-array.ensures.same in
    let stands = c.requires.stands in
    let left : IsBare read (g.M.Memory.state c.map-new_array.new.self) =
    bare read _ _ _ _ stands.stands.0 stands.pairs c.read_word-array.result c.read_word-buckets.result
    (subst (λ s. IsStore s.mem stands.stands.0 stands.pairs) (sym same) stands.stands.1)
    (c.read_word-array.ensures.word ∙ ap (λ s. word_at s.mem array_field) (sym same))
    (c.read_word-buckets.ensures.word ∙ ap (λ s. word_at s.mem buckets_field) (sym c.read_word-buckets.ensures.same))
    c.unmap-array.ensures.keeps.after
    (c.unmap-heap.result, (c.unmap-heap.ensures.unmapped, c.unmap-heap.ensures.fault))
    (c.unmap-array.result, (c.unmap-array.ensures.unmapped, c.unmap-array.ensures.fault))
    (c.map-new_heap.result, (c.map-new_heap.ensures.mapped, c.map-new_heap.ensures.fault))
    (c.map-new_array.result, (c.map-new_array.ensures.mapped, c.map-new_array.ensures.fault)) in
    let mapped : IsKept read (g.M.Memory.state c.map-new_array.new.self) store_cells =
    IsKept-on _ _ _ [] [] store_cells c.unmap-heap.ensures.keeps (IsKept-on _ _ _ [] [] [] c.unmap-array.ensures.keeps
    (IsKept-on _ _ _ [] [] [] c.map-new_heap.ensures.keeps c.map-new_array.ensures.keeps (λ cell is. is) (λ cell is. is))
    (λ cell is. is) (λ cell is. is)) (λ cell is. absurd (false≢true is)) (λ cell is. absurd (false≢true is)) in
    let touch : TouchesPresent (g.M.Memory.state c.map-new_array.new.self) (g.M.Memory.state c.touch-header.new.self) header_at 168 =
    bare_touch read _ _ c.touch-header.result left mapped.after
    (may_kept read _ mapped (subst MayHoldStore (sym same) stands.may)) c.touch-header.ensures.touched c.touch-header.ensures.fault in
    subst (λ fields. IsReady (g.M.Memory.state c.touch-header.new.self) header_at (length fields))
    (sym c.opening_header.ensures) touch.ready

pub returns-clause-cleared : goal.returns-clause-cleared
returns-clause-cleared g c =
    let read = g.M.Memory.state c.read_word-buckets.new.m in
    let same : read ≡ g.M.Memory.state c.args.m.now = c.read_word-buckets.ensures.same ∙ c.read_word-array.ensures.same in
    let stands = c.requires.stands in
    let left : IsBare read (g.M.Memory.state c.map-new_array.new.self) =
    bare read _ _ _ _ stands.stands.0 stands.pairs c.read_word-array.result c.read_word-buckets.result
    (subst (λ s. IsStore s.mem stands.stands.0 stands.pairs) (sym same) stands.stands.1)
    (c.read_word-array.ensures.word ∙ ap (λ s. word_at s.mem array_field) (sym same))
    (c.read_word-buckets.ensures.word ∙ ap (λ s. word_at s.mem buckets_field) (sym c.read_word-buckets.ensures.same))
    c.unmap-array.ensures.keeps.after
    (c.unmap-heap.result, (c.unmap-heap.ensures.unmapped, c.unmap-heap.ensures.fault))
    (c.unmap-array.result, (c.unmap-array.ensures.unmapped, c.unmap-array.ensures.fault))
    (c.map-new_heap.result, (c.map-new_heap.ensures.mapped, c.map-new_heap.ensures.fault))
    (c.map-new_array.result, (c.map-new_array.ensures.mapped, c.map-new_array.ensures.fault)) in
    let mapped : IsKept read (g.M.Memory.state c.map-new_array.new.self) store_cells =
    IsKept-on _ _ _ [] [] store_cells c.unmap-heap.ensures.keeps (IsKept-on _ _ _ [] [] [] c.unmap-array.ensures.keeps
    (IsKept-on _ _ _ [] [] [] c.map-new_heap.ensures.keeps c.map-new_array.ensures.keeps (λ cell is. is) (λ cell is. is))
    (λ cell is. is) (λ cell is. is)) (λ cell is. absurd (false≢true is)) (λ cell is. absurd (false≢true is)) in
    let touch : TouchesPresent (g.M.Memory.state c.map-new_array.new.self) (g.M.Memory.state c.touch-header.new.self) header_at 168 =
    bare_touch read _ _ c.touch-header.result left mapped.after
    (may_kept read _ mapped (subst MayHoldStore (sym same) stands.may)) c.touch-header.ensures.touched c.touch-header.ensures.fault in
    subst (λ s. Clears s (g.M.Memory.state c.store.new.self)) same
    (clears read _ (g.M.Memory.state c.touch-header.new.self) (g.M.Memory.state c.store.new.self) left touch c.store.ensures.keeps.before
    (c.store.ensures.stored ∙ ap (after_store (g.M.Memory.state c.touch-header.new.self) header_at) c.opening_header.ensures))

pub returns-clause-keeps : goal.returns-clause-keeps
returns-clause-keeps g c =
    let read = g.M.Memory.state c.read_word-buckets.new.m in
    let same : read ≡ g.M.Memory.state c.args.m.now = c.read_word-buckets.ensures.same ∙ c.read_word-array.ensures.same in
    let mapped : IsKept read (g.M.Memory.state c.map-new_array.new.self) [] =
    IsKept-on _ _ _ [] [] [] c.unmap-heap.ensures.keeps (IsKept-on _ _ _ [] [] [] c.unmap-array.ensures.keeps
    (IsKept-on _ _ _ [] [] [] c.map-new_heap.ensures.keeps c.map-new_array.ensures.keeps (λ cell is. is) (λ cell is. is))
    (λ cell is. is) (λ cell is. is)) (λ cell is. is) (λ cell is. is) in
    let kept : IsKept read (g.M.Memory.state c.store.new.self) store_cells =
    IsKept-on _ _ _ [] store_cells store_cells mapped
    (IsKept-on _ _ _ (1 ∷ []) [] store_cells c.touch-header.ensures.keeps c.store.ensures.keeps
    (λ cell is. header_listed cell is) (λ cell is. absurd (false≢true is)))
    (λ cell is. absurd (false≢true is)) (λ cell is. is) in
    clear_stays (g.M.Memory.state c.args.m.now) (g.M.Memory.state c.store.new.self) c.requires.stands.may (returns-clause-cleared g c)
    (subst (λ s. IsKept s (g.M.Memory.state c.store.new.self) store_cells) same kept)

pub returns-clause-aside : goal.returns-clause-aside
returns-clause-aside g c =
    c.store.ensures.aside ∙ c.touch-header.ensures.aside ∙ c.map-new_array.ensures.aside ∙ c.map-new_heap.ensures.aside
    ∙ c.unmap-array.ensures.aside ∙ c.unmap-heap.ensures.aside ∙ c.read_word-buckets.ensures.aside ∙ c.read_word-array.ensures.aside

pub returns-clause-went : goal.returns-clause-went
returns-clause-went g c =
    g.met.M.Memory.went_on _ _ _ c.read_word-array.ensures.went
    (g.met.M.Memory.went_on _ _ _ c.read_word-buckets.ensures.went
    (g.met.M.Memory.went_on _ _ _ c.unmap-heap.ensures.went
    (g.met.M.Memory.went_on _ _ _ c.unmap-array.ensures.went
    (g.met.M.Memory.went_on _ _ _ c.map-new_heap.ensures.went
    (g.met.M.Memory.went_on _ _ _ c.map-new_array.ensures.went
    (g.met.M.Memory.went_on _ _ _ c.touch-header.ensures.went c.store.ensures.went))))))
