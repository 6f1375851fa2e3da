use Rattle.std.proofs.Common.{[], ◌∷◌, subst, sym}
use Rattle.std.proofs.lemmas.Result.{err_from_is_err_and}
use Rattle.std.proofs.lemmas.Bool.{false≢true}
use Rattle.vm_base.proofs.IsKeptOn.{IsKept-on}
use Rattle.memory_uses.proofs.Touched.{stores_three, fails_first, fails_later}
use Rattle.vm_base.specs.MemoryState.{IsIn}
use Rattle.memory_uses.proofs.putting.touch_three.Goals as goal

pub returns-in_err-touch-clause-failed : goal.returns-in_err-touch-clause-failed
returns-in_err-touch-clause-failed g c =
    let exit = err_from_is_err_and c.from_residual.result c.from_residual.ensures.1 in
    rw (exit.1, exit.2) (
    fails_first (g.M.Memory.state c.args.memory.now) (g.M.Memory.state c.touch.new.self) (c.args.block, c.args.pair.now) ((c.args.link, c.args.word.now) ∷ (c.args.header, c.args.fields.now) ∷ []) c.in_err-touch.field-0.0 c.in_err-touch.ensures.fault)

pub returns-in_err-touch-2-clause-failed : goal.returns-in_err-touch-2-clause-failed
returns-in_err-touch-2-clause-failed g c =
    let exit = err_from_is_err_and c.from_residual-in_err-touch-2.result c.from_residual-in_err-touch-2.ensures.1 in
    rw (exit.1, exit.2) (
    fails_later (g.M.Memory.state c.args.memory.now) (g.M.Memory.state c.touch.new.self) (g.M.Memory.state c.touch-2.new.self) (c.args.block, c.args.pair.now) ((c.args.link, c.args.word.now) ∷ (c.args.header, c.args.fields.now) ∷ []) c.in_err-touch-2.field-0.0 c.in_ok-touch.ensures.touched c.touch.ensures.keeps.counted
    (fails_first (g.M.Memory.state c.touch.new.self) (g.M.Memory.state c.touch-2.new.self) (c.args.link, c.args.word.now) ((c.args.header, c.args.fields.now) ∷ []) c.in_err-touch-2.field-0.0 c.in_err-touch-2.ensures.fault))

pub returns-in_err-touch-2-clause-keeps : goal.returns-in_err-touch-2-clause-keeps
returns-in_err-touch-2-clause-keeps g c cells one two three =
    IsKept-on _ _ _ _ _ cells c.touch.ensures.keeps c.touch-2.ensures.keeps one two

pub returns-in_err-touch-3-clause-failed : goal.returns-in_err-touch-3-clause-failed
returns-in_err-touch-3-clause-failed g c =
    let exit = err_from_is_err_and c.from_residual-in_err-touch-3.result c.from_residual-in_err-touch-3.ensures.1 in
    rw (exit.1, exit.2) (
    fails_later (g.M.Memory.state c.args.memory.now) (g.M.Memory.state c.touch.new.self) (g.M.Memory.state c.touch-3.new.self) (c.args.block, c.args.pair.now) ((c.args.link, c.args.word.now) ∷ (c.args.header, c.args.fields.now) ∷ []) c.in_err-touch-3.field-0.0 c.in_ok-touch.ensures.touched c.touch.ensures.keeps.counted
    (fails_later (g.M.Memory.state c.touch.new.self) (g.M.Memory.state c.touch-2.new.self) (g.M.Memory.state c.touch-3.new.self) (c.args.link, c.args.word.now) ((c.args.header, c.args.fields.now) ∷ []) c.in_err-touch-3.field-0.0 c.in_ok-touch-2.ensures.touched c.touch-2.ensures.keeps.counted
    (fails_first (g.M.Memory.state c.touch-2.new.self) (g.M.Memory.state c.touch-3.new.self) (c.args.header, c.args.fields.now) [] c.in_err-touch-3.field-0.0 c.in_err-touch-3.ensures.fault)))

pub returns-in_err-touch-3-clause-keeps : goal.returns-in_err-touch-3-clause-keeps
returns-in_err-touch-3-clause-keeps g c cells one two three =
    IsKept-on _ _ _ _ _ cells (IsKept-on _ _ _ _ _ cells c.touch.ensures.keeps c.touch-2.ensures.keeps one two) c.touch-3.ensures.keeps (λ cell is. is) three

pub returns-in_err-touch-3-clause-went : goal.returns-in_err-touch-3-clause-went
returns-in_err-touch-3-clause-went g c =
    let on = g.met.M.Memory.went_on in
    on _ _ _ c.touch.ensures.went (on _ _ _ c.touch-2.ensures.went c.touch-3.ensures.went)

pub returns-clause-stored : goal.returns-clause-stored
returns-clause-stored g c =
    stores_three (g.M.Memory.state c.args.memory.now) (g.M.Memory.state c.touch.new.self) (g.M.Memory.state c.touch-2.new.self) (g.M.Memory.state c.touch-3.new.self) (g.M.Memory.state c.store.new.self) (g.M.Memory.state c.store-2.new.self) (g.M.Memory.state c.store-3.new.self)
    c.args.block c.args.link c.args.header c.args.pair.now c.args.word.now c.args.fields.now
    c.in_ok-touch.ensures.touched c.in_ok-touch-2.ensures.touched c.in_ok-touch-3.ensures.touched
    c.store.ensures.stored c.store-2.ensures.stored c.store-3.ensures.stored

pub returns-clause-keeps : goal.returns-clause-keeps
returns-clause-keeps g c cells one two three =
    IsKept-on _ _ _ _ _ cells
    (IsKept-on _ _ _ _ _ cells (IsKept-on _ _ _ _ _ cells c.touch.ensures.keeps c.touch-2.ensures.keeps one two) c.touch-3.ensures.keeps (λ cell is. is) three)
    (IsKept-on _ _ _ [] [] [] c.store.ensures.keeps (IsKept-on _ _ _ [] [] [] c.store-2.ensures.keeps c.store-3.ensures.keeps (λ cell none. none) (λ cell none. none)) (λ cell none. none) (λ cell none. none))
    (λ cell is. is) (λ cell none. absurd (false≢true none))

pub returns-clause-went : goal.returns-clause-went
returns-clause-went g c =
    let on = g.met.M.Memory.went_on in
    on _ _ _ c.touch.ensures.went (on _ _ _ c.touch-2.ensures.went (on _ _ _ c.touch-3.ensures.went
    (on _ _ _ c.store.ensures.went (on _ _ _ c.store-2.ensures.went c.store-3.ensures.went))))

pub store-requires-clause-ready : goal.store-requires-clause-ready
store-requires-clause-ready g c page is =
    c.in_ok-touch-3.ensures.touched.keeps page (c.in_ok-touch-2.ensures.touched.keeps page (c.in_ok-touch.ensures.touched.ready page is))

pub store-requires-2-clause-ready : goal.store-requires-2-clause-ready
store-requires-2-clause-ready g c page is =
    subst (λ s. IsIn page s.ready) (sym c.store.ensures.stored)
    (c.in_ok-touch-3.ensures.touched.keeps page (c.in_ok-touch-2.ensures.touched.ready page is))

pub store-requires-3-clause-ready : goal.store-requires-3-clause-ready
store-requires-3-clause-ready g c page is =
    subst (λ s. IsIn page s.ready) (sym c.store-2.ensures.stored)
    (subst (λ s. IsIn page s.ready) (sym c.store.ensures.stored) (c.in_ok-touch-3.ensures.touched.ready page is))
