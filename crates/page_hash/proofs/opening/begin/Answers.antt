use Rattle.std.proofs.Common.{◌≡◌, [], ◌∷◌, sym, ◌∙◌, ap, subst, arith}
use Rattle.std.proofs.lemmas.Bool.{false≢true}
use Rattle.byteorder.specs.Endian.{big_bytes}
use Rattle.vm_base.specs.MemoryCalls.{IsReady, after_store}
use Rattle.vm_base.proofs.IsKeptOn.{IsKept-on}
use Rattle.store_meaning.specs.Layout.{array_field, buckets_field, array_a}
use Rattle.page_heap.proofs.Flat.{ready_field}
use Rattle.page_heap.proofs.Mapped.{mapped_by}
use Rattle.page_hash.specs.HashCalls.{BeginsStore}
use Rattle.page_hash.proofs.TableBegins.{map_array, mapped, fielded, table_begins}
use Rattle.page_hash.proofs.opening.begin.Goals as goal

pub store_word-requires-clause-ready : goal.store_word-requires-clause-ready
store_word-requires-clause-ready g c =
    let heaped = g.M.Memory.state c.init.new.m in
    let made : g.M.Memory.state c.map-array.new.self ≡ mapped heaped =
    mapped_by heaped _ _ 524288 1 _ (map_array heaped.mem c.in_default.ensures.begun.areas) c.map-array.ensures.mapped
    c.map-array.ensures.fault in
    subst (λ s. IsReady s array_field 8) (sym made)
    (ready_field heaped array_field (omega arith) (omega arith) c.in_default.ensures.begun.ready)

pub store_word-requires-2-clause-ready : goal.store_word-requires-2-clause-ready
store_word-requires-2-clause-ready g c =
    let heaped = g.M.Memory.state c.init.new.m in
    let made : g.M.Memory.state c.map-array.new.self ≡ mapped heaped =
    mapped_by heaped _ _ 524288 1 _ (map_array heaped.mem c.in_default.ensures.begun.areas) c.map-array.ensures.mapped
    c.map-array.ensures.fault in
    subst (λ s. IsReady s buckets_field 8)
    (sym (c.store_word.ensures.stored ∙ ap (λ s. after_store s array_field (big_bytes 8 array_a)) made))
    (ready_field heaped buckets_field (omega arith) (omega arith) c.in_default.ensures.begun.ready)

pub returns-clause-keeps : goal.returns-clause-keeps
returns-clause-keeps g c = IsKept-on _ _ _ (1 ∷ []) [] (1 ∷ []) c.in_default.ensures.keeps
    (IsKept-on _ _ _ [] [] [] c.map-array.ensures.keeps
    (IsKept-on _ _ _ [] [] [] c.store_word.ensures.keeps c.store_word-2.ensures.keeps (λ cell is. is) (λ cell is. is))
    (λ cell is. is) (λ cell is. is))
    (λ cell is. is) (λ cell is. absurd (false≢true is))

pub returns-clause-begun : goal.returns-clause-begun
returns-clause-begun g c =
    let old = g.M.Memory.state c.args.m.now in
    let heaped = g.M.Memory.state c.init.new.m in
    let made : g.M.Memory.state c.map-array.new.self ≡ mapped heaped =
    mapped_by heaped _ _ 524288 1 _ (map_array heaped.mem c.in_default.ensures.begun.areas) c.map-array.ensures.mapped
    c.map-array.ensures.fault in
    let one : g.M.Memory.state c.store_word.new.m ≡ after_store (mapped heaped) array_field (big_bytes 8 array_a) =
    c.store_word.ensures.stored ∙ ap (λ s. after_store s array_field (big_bytes 8 array_a)) made in
    let two : g.M.Memory.state c.store_word-2.new.m ≡ fielded heaped =
    c.store_word-2.ensures.stored ∙ ap (λ s. after_store s buckets_field (big_bytes 8 512)) one in
    subst (BeginsStore old) (sym two)
    (table_begins old heaped c.in_default.ensures.begun c.in_default.ensures.keeps.after c.in_default.ensures.most)

pub returns-clause-most : goal.returns-clause-most
returns-clause-most g c =
    let heaped = g.M.Memory.state c.init.new.m in
    let made : g.M.Memory.state c.map-array.new.self ≡ mapped heaped =
    mapped_by heaped _ _ 524288 1 _ (map_array heaped.mem c.in_default.ensures.begun.areas) c.map-array.ensures.mapped
    c.map-array.ensures.fault in
    ap (λ s. s.most) c.store_word-2.ensures.stored ∙ ap (λ s. s.most) c.store_word.ensures.stored ∙ ap (λ s. s.most) made
    ∙ c.in_default.ensures.most

pub returns-clause-went : goal.returns-clause-went
returns-clause-went g c = g.met.M.Memory.went_on _ _ _ c.init.ensures.went
    (g.met.M.Memory.went_on _ _ _ c.map-array.ensures.went
    (g.met.M.Memory.went_on _ _ _ c.store_word.ensures.went c.store_word-2.ensures.went))
