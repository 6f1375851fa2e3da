use Rattle.std.proofs.Common.{◌∙◌, [], ◌∷◌, length, sym, ap, subst}
use Rattle.std.proofs.lemmas.Bool.{false≢true}
use Rattle.vm_base.specs.MemoryCalls.{IsReady, after_store}
use Rattle.vm_base.proofs.IsKeptOn.{IsKept-on}
use Rattle.store_meaning.specs.Layout.{array_field, store_cells}
use Rattle.page_hash.proofs.Cleared.{header_listed}
use Rattle.page_hash.proofs.MovingArray.{fields_touch, moves_to}
use Rattle.page_hash.proofs.doubling.move_to_array.Goals as goal

pub store-requires-clause-ready : goal.store-requires-clause-ready
store-requires-clause-ready g c =
    subst (λ fields. IsReady (g.M.Memory.state c.touch-present.new.self) array_field (length fields)) (sym c.table_fields-fields.ensures)
    (fields_touch _ _ c.touch-present.result c.args.arrays.now c.requires.may c.requires.due c.touch-present.ensures.touched
    c.touch-present.ensures.fault).ready

pub returns-clause-moves : goal.returns-clause-moves
returns-clause-moves g c =
    moves_to _ _ _ _ c.args.arrays.now c.requires.due
    (fields_touch _ _ c.touch-present.result c.args.arrays.now c.requires.may c.requires.due c.touch-present.ensures.touched
    c.touch-present.ensures.fault)
    (c.store.ensures.stored ∙ ap (after_store (g.M.Memory.state c.touch-present.new.self) array_field) c.table_fields-fields.ensures)
    (c.unmap-old.result, (c.unmap-old.ensures.unmapped, c.unmap-old.ensures.fault))

pub returns-clause-keeps : goal.returns-clause-keeps
returns-clause-keeps g c =
    IsKept-on _ _ _ (1 ∷ []) [] store_cells c.touch-present.ensures.keeps
    (IsKept-on _ _ _ [] [] [] c.store.ensures.keeps c.unmap-old.ensures.keeps (λ cell there. there) (λ cell there. there))
    header_listed (λ cell never. absurd (false≢true never))

pub returns-clause-went : goal.returns-clause-went
returns-clause-went g c = g.met.M.Memory.went_on _ _ _ c.touch-present.ensures.went
    (g.met.M.Memory.went_on _ _ _ c.store.ensures.went c.unmap-old.ensures.went)
