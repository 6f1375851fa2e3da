use Rattle.std.proofs.Common.{◌≡◌, [], ◌∙◌, ap}
use Rattle.std.specs.FinMap.{get}
use Rattle.vm_base.specs.FlatMemory.{PageMap}
use Rattle.vm_base.proofs.IsKeptOn.{IsKept-on}
use Rattle.page_heap.proofs.Mapped.{unmapped_by, unmap_heap, unmap_header, none_left}
use Rattle.page_heap.proofs.begin.unmap_areas.Goals as goal

pub returns-clause-undone : goal.returns-clause-undone
returns-clause-undone g c =
    let old = g.M.Memory.state c.args.m.now in
    let middle = g.M.Memory.state c.unmap-heap.new.self in
    let one =
    unmapped_by old _ _ 2097152 131584 _
    (unmap_heap old.mem c.requires.areas) c.unmap-heap.ensures.unmapped c.unmap-heap.ensures.fault in
    let two =
    unmapped_by middle _ _ 512 1 _
    (unmap_header middle.mem (ap (λ m. m.areas) one.0)) c.unmap-header.ensures.unmapped c.unmap-header.ensures.fault in
    let same : middle.mem.present ≡ old.mem.present =
    ap (λ m. m.present) one.0 ∙ none_left old.mem.present 2097152 131584 c.requires.absent in
    two.0 ∙ ap (λ (p : PageMap). record { areas = []; present = p })
    (none_left middle.mem.present 512 1 (λ page. ap (λ p. get p page) same ∙ c.requires.absent page) ∙ same)

pub returns-clause-most : goal.returns-clause-most
returns-clause-most g c =
    let old = g.M.Memory.state c.args.m.now in
    let middle = g.M.Memory.state c.unmap-heap.new.self in
    let one =
    unmapped_by old _ _ 2097152 131584 _
    (unmap_heap old.mem c.requires.areas) c.unmap-heap.ensures.unmapped c.unmap-heap.ensures.fault in
    let two =
    unmapped_by middle _ _ 512 1 _
    (unmap_header middle.mem (ap (λ m. m.areas) one.0)) c.unmap-header.ensures.unmapped c.unmap-header.ensures.fault in
    two.1 ∙ one.1

pub returns-clause-keeps : goal.returns-clause-keeps
returns-clause-keeps g c = IsKept-on _ _ _ [] [] [] c.unmap-heap.ensures.keeps c.unmap-header.ensures.keeps (λ cell is. is) (λ cell is. is)

pub returns-clause-aside : goal.returns-clause-aside
returns-clause-aside g c = c.unmap-header.ensures.aside ∙ c.unmap-heap.ensures.aside

pub returns-clause-went : goal.returns-clause-went
returns-clause-went g c = g.met.M.Memory.went_on _ _ _ c.unmap-heap.ensures.went c.unmap-header.ensures.went
