use Rattle.std.proofs.Common.{◌≡◌, ℕ, ◌+◌, ◌*◌, ◌∙◌, length, ap, sym, subst, arith}
use Rattle.vm_base.specs.FlatMemory.{bytes_at}
use Rattle.vm_base.specs.MemoryState.{MemoryState}
use Rattle.vm_base.specs.MemoryCalls.{IsReady}
use Rattle.vm_base.proofs.FlatLaws.{full_from_ready}
use Rattle.page_hash.specs.Relinking.{KeepsPlace}
use Rattle.page_hash.specs.ArrayRelinking.{IsOldTable, RelinksPart, SplitsPart}
use Rattle.page_hash.proofs.BlockLinks.{keeps_on, store_keeps, ready_on}
use Rattle.page_hash.proofs.PutRanges.{ready_part}
use Rattle.page_hash.proofs.StoreParts.{putting}
use Rattle.page_hash.proofs.PageRelinks.{page_relinks}
use Rattle.page_hash.proofs.relinking_all.relink_page.Goals as goal

pub split_page-requires-clause-words : goal.split_page-requires-clause-words
split_page-requires-clause-words g c =
    c.read_area.ensures.bytes
    ∙ ap (λ (s : MemoryState). bytes_at s.mem.present (c.args.arrays.now.old + 8 * c.args.bucket) 4096) (sym c.read_area.ensures.same)

pub store-requires-clause-ready : goal.store-requires-clause-ready
store-requires-clause-ready g c =
    let old = g.M.Memory.state c.args.m.now in
    let split = g.M.Memory.state c.split_page.new.m in
    let arrays = c.args.arrays.now in
    let first : KeepsPlace old split = subst (λ s. KeepsPlace s split) c.read_area.ensures.same c.split_page.ensures.keeps in
    let long : length c.split_page.new.lower ≡ 4096 = c.split_page.auto.lower in
    ready_part split arrays.new (16 * arrays.buckets) (arrays.new + 8 * c.args.bucket) (length c.split_page.new.lower) (omega arith)
    (omega (arith, c.requires.page, long)) (ready_on old split arrays.new (16 * arrays.buckets) first c.requires.ready)

pub store-requires-2-clause-ready : goal.store-requires-2-clause-ready
store-requires-2-clause-ready g c =
    let old = g.M.Memory.state c.args.m.now in
    let split = g.M.Memory.state c.split_page.new.m in
    let stored = g.M.Memory.state c.store.new.self in
    let arrays = c.args.arrays.now in
    let first : KeepsPlace old split = subst (λ s. KeepsPlace s split) c.read_area.ensures.same c.split_page.ensures.keeps in
    let long_low : length c.split_page.new.lower ≡ 4096 = c.split_page.auto.lower in
    let keeps : KeepsPlace split stored =
    store_keeps split stored (arrays.new + 8 * c.args.bucket) c.split_page.new.lower
    (ready_part split arrays.new (16 * arrays.buckets) (arrays.new + 8 * c.args.bucket) (length c.split_page.new.lower) (omega arith)
    (omega (arith, c.requires.page, long_low)) (ready_on old split arrays.new (16 * arrays.buckets) first c.requires.ready))
    c.store.ensures.keeps c.store.ensures.stored in
    let long : length c.split_page.new.upper ≡ 4096 = c.split_page.auto.upper in
    ready_part stored arrays.new (16 * arrays.buckets) (arrays.new + 8 * (arrays.buckets + c.args.bucket)) (length c.split_page.new.upper)
    (omega arith) (omega (arith, c.requires.page, long))
    (ready_on old stored arrays.new (16 * arrays.buckets) (keeps_on old split stored first keeps) c.requires.ready)

pub returns-clause-relinks : goal.returns-clause-relinks
returns-clause-relinks g c table is =
    let old = g.M.Memory.state c.args.m.now in
    let split = g.M.Memory.state c.split_page.new.m in
    let arrays = c.args.arrays.now in
    let bucket = c.args.bucket in
    let lower = c.split_page.new.lower in
    let upper = c.split_page.new.upper in
    let a : ℕ = arrays.new + 8 * bucket in
    let b : ℕ = arrays.new + 8 * (arrays.buckets + bucket) in
    let first : KeepsPlace old split = subst (λ s. KeepsPlace s split) c.read_area.ensures.same c.split_page.ensures.keeps in
    let long_low : length lower ≡ 4096 = c.split_page.auto.lower in
    let long_high : length upper ≡ 4096 = c.split_page.auto.upper in
    let ready : IsReady split arrays.new (16 * arrays.buckets) =
    ready_on old split arrays.new (16 * arrays.buckets) first c.requires.ready in
    let splits : SplitsPart old.mem split.mem arrays table bucket (bucket + 512) lower upper =
    subst (λ (s : MemoryState). SplitsPart s.mem split.mem arrays table bucket (bucket + 512) lower upper) c.read_area.ensures.same
    (c.split_page.ensures.splits table
    (subst (λ (s : MemoryState). IsOldTable s.mem arrays table bucket) (sym c.read_area.ensures.same) is)) in
    let stored : (g.M.Memory.state c.store-2.new.self).mem ≡ putting (putting split.mem a lower) b upper =
    ap (λ (s : MemoryState). s.mem) c.store-2.ensures.stored ∙ ap (λ (s : MemoryState). putting s.mem b upper) c.store.ensures.stored in
    subst (λ m. RelinksPart old.mem m arrays table bucket (bucket + 512)) (sym stored)
    (page_relinks old.mem split.mem arrays table bucket lower upper is c.requires.page long_low long_high splits
    (full_from_ready split a (length lower) c.store.ensures.keeps.before
    (ready_part split arrays.new (16 * arrays.buckets) a (length lower) (omega arith) (omega (arith, c.requires.page, long_low)) ready))
    (full_from_ready split b (length upper) c.store.ensures.keeps.before
    (ready_part split arrays.new (16 * arrays.buckets) b (length upper) (omega arith) (omega (arith, c.requires.page, long_high)) ready)))

pub returns-clause-keeps : goal.returns-clause-keeps
returns-clause-keeps g c =
    let old = g.M.Memory.state c.args.m.now in
    let split = g.M.Memory.state c.split_page.new.m in
    let stored = g.M.Memory.state c.store.new.self in
    let again = g.M.Memory.state c.store-2.new.self in
    let arrays = c.args.arrays.now in
    let first : KeepsPlace old split = subst (λ s. KeepsPlace s split) c.read_area.ensures.same c.split_page.ensures.keeps in
    let long_low : length c.split_page.new.lower ≡ 4096 = c.split_page.auto.lower in
    let keeps : KeepsPlace split stored =
    store_keeps split stored (arrays.new + 8 * c.args.bucket) c.split_page.new.lower
    (ready_part split arrays.new (16 * arrays.buckets) (arrays.new + 8 * c.args.bucket) (length c.split_page.new.lower) (omega arith)
    (omega (arith, c.requires.page, long_low)) (ready_on old split arrays.new (16 * arrays.buckets) first c.requires.ready))
    c.store.ensures.keeps c.store.ensures.stored in
    let long_high : length c.split_page.new.upper ≡ 4096 = c.split_page.auto.upper in
    let keeps2 : KeepsPlace stored again =
    store_keeps stored again (arrays.new + 8 * (arrays.buckets + c.args.bucket)) c.split_page.new.upper
    (ready_part stored arrays.new (16 * arrays.buckets) (arrays.new + 8 * (arrays.buckets + c.args.bucket))
    (length c.split_page.new.upper) (omega arith) (omega (arith, c.requires.page, long_high))
    (ready_on old stored arrays.new (16 * arrays.buckets) (keeps_on old split stored first keeps) c.requires.ready))
    c.store-2.ensures.keeps c.store-2.ensures.stored in
    keeps_on old split again first (keeps_on split stored again keeps keeps2)

pub returns-clause-went : goal.returns-clause-went
returns-clause-went g c = g.met.M.Memory.went_on _ _ _ c.read_area.ensures.went
    (g.met.M.Memory.went_on _ _ _ c.split_page.ensures.went
    (g.met.M.Memory.went_on _ _ _ c.store.ensures.went c.store-2.ensures.went))
