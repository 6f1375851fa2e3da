-- The header names the new array, and the old one is taken out.
use Rattle.std.proofs.Common.{◌≡◌, ◌*◌, ◌/◌, ◌++◌, Result, OnOk, IfErr, sym, ◌∙◌, ap, subst, arith, refl, Contains}
use Rattle.byteorder.specs.Endian.{big_bytes}
use Rattle.vm_base.specs.declared.faults.Fault.{Fault}
use Rattle.vm_base.specs.FlatMemory.{FlatMemory}
use Rattle.vm_base.specs.FlatStep.{with_bytes, areas_without}
use Rattle.vm_base.specs.FlatLaws.{unmapped}
use Rattle.vm_base.specs.MemoryState.{MemoryState}
use Rattle.vm_base.specs.MemoryCalls.{Touches, TouchFails, after_store}
use Rattle.store_meaning.specs.Layout.{header_area, array_field}
use Rattle.page_heap.proofs.Mapped.{unmapped_by}
use Rattle.page_hash.specs.declared.arrays.Arrays.{Arrays}
use Rattle.page_hash.specs.Relinking.{MayRelink}
use Rattle.page_hash.specs.Doubling.{MayMoveTo, MovesTo, areas_with_both}
use Rattle.page_hash.proofs.Cleared.{IsUnmapping, header_listed}
use Rattle.page_hash.proofs.PresentTouch.{TouchesPresent, touch_made, region_answer}
use Rattle.page_hash.proofs.BothAreas.{out_old, unmap_one, others_listed}

-- the header's fields are touched
pub fields_touch : (old new : MemoryState) (result : Result (Unit {0}) Fault) (arrays : Arrays) → MayRelink old → MayMoveTo old.mem arrays
    → OnOk result (Touches old new array_field 24) → IfErr result (λ fault. TouchFails old new array_field 24 fault)
    → TouchesPresent old new array_field 24
fields_touch old new result arrays may due touches fails =
    touch_made old new result array_field 24 may.sound
    (region_answer old header_area array_field 24 may.sound may.may
    (subst (λ a. Contains a header_area) (sym due.areas)
    (others_listed arrays.old arrays.new (arrays.buckets / 512) (arrays.buckets / 256) due.regions.regions).0)
    (omega arith, omega arith) refl header_listed)
    (λ page inside. due.header page (omega (arith, inside.0)) (omega (arith, inside.1))) touches fails

-- they are stored, and the old array goes
pub moves_to : (old touched stored new : MemoryState) (arrays : Arrays) → MayMoveTo old.mem arrays
    → TouchesPresent old touched array_field 24
    → stored ≡ after_store touched array_field (big_bytes 8 arrays.new ++ big_bytes 8 (2 * arrays.buckets) ++ big_bytes 8 arrays.pairs)
    → IsUnmapping stored new (arrays.old / 4096) (arrays.buckets / 512) → MovesTo old new arrays
moves_to old touched stored new arrays due touch is undone =
    let fields = big_bytes 8 arrays.new ++ big_bytes 8 (2 * arrays.buckets) ++ big_bytes 8 arrays.pairs in
    let areas : stored.mem.areas ≡ areas_with_both arrays =
    ap (λ (s : MemoryState). s.mem.areas) is ∙ ap (λ (m : FlatMemory). m.areas) touch.mem ∙ due.areas in
    let made = unmapped_by stored new undone.0 (arrays.old / 4096) (arrays.buckets / 512) _
    (unmap_one stored.mem (arrays.old / 4096) (arrays.buckets / 512) arrays.new (arrays.buckets / 256)
    (ap (areas_without (arrays.old / 4096) (arrays.buckets / 512)) areas
    ∙ out_old arrays.old arrays.new (arrays.buckets / 512) (arrays.buckets / 256) due.regions.regions
    (omega (arith, due.regions.few)) (omega (arith, due.regions.few))
    (omega (arith, due.regions.some, due.whole)))) undone.1.0 undone.1.1 in
    record {
      areas = ap (λ (m : FlatMemory). m.areas) made.0;
      present = ap (λ (m : FlatMemory). m.present) made.0
          ∙ ap (λ (s : MemoryState). unmapped s.mem.present (arrays.old / 4096) (arrays.buckets / 512)) is
          ∙ ap (λ (m : FlatMemory). unmapped (with_bytes m.present array_field fields) (arrays.old / 4096)
          (arrays.buckets / 512)) touch.mem;
      most = made.1 ∙ ap (λ (s : MemoryState). s.most) is ∙ touch.most;
    }
