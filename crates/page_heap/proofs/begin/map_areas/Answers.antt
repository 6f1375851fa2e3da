use Rattle.std.proofs.Common.{[], ◌∷◌, ◌∙◌, ap}
use Rattle.store_meaning.specs.Layout.{header_area, heap_area}
use Rattle.page_heap.specs.HeapCalls.{with_areas}
use Rattle.vm_base.proofs.IsKeptOn.{IsKept-on}
use Rattle.page_heap.proofs.Mapped.{mapped_by, map_header, map_heap}
use Rattle.page_heap.proofs.begin.map_areas.Goals as goal

pub returns-clause-mapped : goal.returns-clause-mapped
returns-clause-mapped g c =
    let old = g.M.Memory.state c.args.m.now in
    let one = mapped_by old _ _ 512 1 _ (map_header old.mem c.requires.empty) c.map-header.ensures.mapped c.map-header.ensures.fault in
    let middle = g.M.Memory.state c.map-header.new.self in
    mapped_by middle _ _ 2097152 131584 _
    (map_heap middle.mem (ap (λ s. s.mem.areas) one)) c.map-heap.ensures.mapped c.map-heap.ensures.fault
    ∙ ap (λ s. with_areas s (header_area ∷ heap_area ∷ [])) one

pub returns-clause-keeps : goal.returns-clause-keeps
returns-clause-keeps g c = IsKept-on _ _ _ [] [] [] c.map-header.ensures.keeps c.map-heap.ensures.keeps (λ cell is. is) (λ cell is. is)

pub returns-clause-aside : goal.returns-clause-aside
returns-clause-aside g c = c.map-heap.ensures.aside ∙ c.map-header.ensures.aside

pub returns-clause-went : goal.returns-clause-went
returns-clause-went g c = g.met.M.Memory.went_on _ _ _ c.map-header.ensures.went c.map-heap.ensures.went
