use Rattle.std.proofs.Common.{max, [], ◌∷◌, sym, ◌∙◌, ap, subst}
use Rattle.std.specs.FinMap.{get}
use Rattle.std.proofs.lemmas.Bool.{false≢true}
use Rattle.vm_base.specs.FlatMemory.{FlatMemory}
use Rattle.vm_base.specs.MemoryCalls.{Touches, TouchFails}
use Rattle.vm_base.proofs.IsKeptOn.{IsKept-on}
use Rattle.store_meaning.specs.Layout.{header_at}
use Rattle.page_heap.proofs.Mapped.{no_page}
use Rattle.page_heap.proofs.Beginning.{mapped_state, header_frames, header_fails, header_left, header_begins}
use Rattle.page_heap.proofs.begin.init.Goals as goal

pub unmap_areas-requires-clause-areas : goal.unmap_areas-requires-clause-areas
unmap_areas-requires-clause-areas g c =
    let old = g.M.Memory.state c.args.m.now in
    let fails =
    subst (λ s. TouchFails s
    (g.M.Memory.state c.touch.new.self) header_at 4096 c.in-Err.fault) c.map_areas.ensures.mapped c.in-Err.ensures.fault in
    ap (λ m. m.areas) (header_left old _ c.in-Err.fault c.requires.may fails).0

pub unmap_areas-requires-clause-absent : goal.unmap_areas-requires-clause-absent
unmap_areas-requires-clause-absent g c page =
    let old = g.M.Memory.state c.args.m.now in
    let fails =
    subst (λ s. TouchFails s
    (g.M.Memory.state c.touch.new.self) header_at 4096 c.in-Err.fault) c.map_areas.ensures.mapped c.in-Err.ensures.fault in
    ap (λ (m : FlatMemory). get m.present page) (header_left old _ c.in-Err.fault c.requires.may fails).0
    ∙ no_page old c.map_areas.ensures.keeps.before c.requires.may.empty page

pub returns-in-Err-clause-fault : goal.returns-in-Err-clause-fault
returns-in-Err-clause-fault g c =
    let old = g.M.Memory.state c.args.m.now in
    let fails =
    subst (λ s. TouchFails s
    (g.M.Memory.state c.touch.new.self) header_at 4096 c.in-Err.fault) c.map_areas.ensures.mapped c.in-Err.ensures.fault in
    let left = header_left old _ c.in-Err.fault c.requires.may fails in
    header_fails old (g.M.Memory.state c.touch.new.self) (g.M.Memory.state c.unmap_areas.new.m) c.in-Err.fault c.requires.may fails
    (c.unmap_areas.ensures.undone ∙ ap (λ (m : FlatMemory). record m { areas = [] }) left.0
    ∙ ap (λ a. record old.mem { areas = a }) (sym c.requires.may.empty))
    c.unmap_areas.ensures.keeps.counted

pub returns-in-Err-clause-most : goal.returns-in-Err-clause-most
returns-in-Err-clause-most g c =
    let old = g.M.Memory.state c.args.m.now in
    let fails =
    subst (λ s. TouchFails s
    (g.M.Memory.state c.touch.new.self) header_at 4096 c.in-Err.fault) c.map_areas.ensures.mapped c.in-Err.ensures.fault in
    let left = header_left old _ c.in-Err.fault c.requires.may fails in
    c.unmap_areas.ensures.most ∙ left.1
    ∙ ap (max old.most) (header_frames (mapped_state old).mem (no_page old c.map_areas.ensures.keeps.before c.requires.may.empty))

pub returns-in-Err-clause-keeps : goal.returns-in-Err-clause-keeps
returns-in-Err-clause-keeps g c = IsKept-on _ _ _ [] (1 ∷ []) (1 ∷ []) c.map_areas.ensures.keeps
    (IsKept-on _ _ _ (1 ∷ []) [] (1 ∷ []) c.in-Err.ensures.keeps c.unmap_areas.ensures.keeps (λ cell is. is)
    (λ cell is. absurd (false≢true is)))
    (λ cell is. absurd (false≢true is)) (λ cell is. is)

pub returns-clause-keeps : goal.returns-clause-keeps
returns-clause-keeps g c = IsKept-on _ _ _ [] (1 ∷ []) (1 ∷ []) c.map_areas.ensures.keeps
    (IsKept-on _ _ _ (1 ∷ []) [] (1 ∷ []) c.in_default.ensures.keeps c.store_word.ensures.keeps (λ cell is. is)
    (λ cell is. absurd (false≢true is)))
    (λ cell is. absurd (false≢true is)) (λ cell is. is)

pub returns-clause-begun : goal.returns-clause-begun
returns-clause-begun g c =
    let old = g.M.Memory.state c.args.m.now in
    let after = g.M.Memory.state c.touch.new.self in
    let touch : Touches (mapped_state old) after header_at 4096 =
    subst (λ s. Touches s after header_at 4096) c.map_areas.ensures.mapped c.in_default.ensures.touched in
    header_begins old after (g.M.Memory.state c.store_word.new.m) c.requires.may c.map_areas.ensures.keeps.before touch
    c.store_word.ensures.stored c.store_word.ensures.keeps.before (returns-clause-keeps g c)

pub returns-clause-most : goal.returns-clause-most
returns-clause-most g c =
    let old = g.M.Memory.state c.args.m.now in
    let after = g.M.Memory.state c.touch.new.self in
    let touch : Touches (mapped_state old) after header_at 4096 =
    subst (λ s. Touches s after header_at 4096) c.map_areas.ensures.mapped c.in_default.ensures.touched in
    ap (λ s. s.most) c.store_word.ensures.stored ∙ touch.most
    ∙ ap (max old.most) (header_frames (mapped_state old).mem (no_page old c.map_areas.ensures.keeps.before c.requires.may.empty))
