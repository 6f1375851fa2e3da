use Rattle.std.proofs.Common.{[], ◌∷◌}
use Rattle.std.proofs.lemmas.Result.{err_from_is_err_and}
use Rattle.memory_uses.proofs.Touched.{stores_two, fails_first, fails_later}
use Rattle.std.proofs.lemmas.Bool.{false≢true}
use Rattle.vm_base.proofs.IsKeptOn.{IsKept-on}
use Rattle.memory_uses.proofs.memory.write_both.Goals as goal

pub returns-clause-went : goal.returns-clause-went
returns-clause-went g c =
    let on = g.met.M.Memory.went_on in
    on _ _ _ c.in_ok-touch.ensures.went (on _ _ _ c.in_ok-touch-2.ensures.went (on _ _ _ c.store.ensures.went c.store-2.ensures.went))

pub returns-in_err-touch-2-clause-keeps : goal.returns-in_err-touch-2-clause-keeps
returns-in_err-touch-2-clause-keeps g c cells one two = IsKept-on _ _ _ _ _ cells c.touch.ensures.keeps c.touch-2.ensures.keeps one two

pub returns-clause-keeps : goal.returns-clause-keeps
returns-clause-keeps g c cells one two =
    IsKept-on _ _ _ _ _ cells (IsKept-on _ _ _ _ _ cells c.touch.ensures.keeps c.touch-2.ensures.keeps one two)
    (IsKept-on _ _ _ [] [] [] c.store.ensures.keeps c.store-2.ensures.keeps (λ cell none. none) (λ cell none. none)) (λ cell is. is) (λ cell none. absurd (false≢true none))

pub returns-in_err-touch-clause-failed : goal.returns-in_err-touch-clause-failed
returns-in_err-touch-clause-failed g c =
    let exit = err_from_is_err_and c.from_residual.result c.from_residual.ensures.1 in
    rw (exit.1, exit.2) (
    fails_first (g.M.Memory.state c.args.memory.now) (g.M.Memory.state c.touch.new.self) (c.args.addr, c.args.one.now)
    ((c.args.second, c.args.two.now) ∷ []) c.in_err-touch.field-0.0 c.in_err-touch.ensures.fault)

pub returns-in_err-touch-2-clause-failed : goal.returns-in_err-touch-2-clause-failed
returns-in_err-touch-2-clause-failed g c =
    let exit = err_from_is_err_and c.from_residual-in_err-touch-2.result c.from_residual-in_err-touch-2.ensures.1 in
    rw (exit.1, exit.2) (
    fails_later (g.M.Memory.state c.args.memory.now) (g.M.Memory.state c.touch.new.self) (g.M.Memory.state c.touch-2.new.self)
    (c.args.addr, c.args.one.now) ((c.args.second, c.args.two.now) ∷ []) c.in_err-touch-2.field-0.0
    c.in_ok-touch.ensures.touched c.touch.ensures.keeps.counted
    (fails_first (g.M.Memory.state c.touch.new.self) (g.M.Memory.state c.touch-2.new.self) (c.args.second, c.args.two.now) []
    c.in_err-touch-2.field-0.0 c.in_err-touch-2.ensures.fault))

pub returns-clause-stored : goal.returns-clause-stored
returns-clause-stored g c =
    stores_two (g.M.Memory.state c.args.memory.now) (g.M.Memory.state c.touch.new.self) (g.M.Memory.state c.touch-2.new.self)
    (g.M.Memory.state c.store.new.self) (g.M.Memory.state c.store-2.new.self)
    c.args.addr c.args.second c.args.one.now c.args.two.now
    c.in_ok-touch.ensures.touched c.in_ok-touch-2.ensures.touched c.store.ensures.stored c.store-2.ensures.stored
