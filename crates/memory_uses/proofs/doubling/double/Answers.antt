use Rattle.std.proofs.Common.{[], inl}
use Rattle.std.proofs.lemmas.Bool.{false≢true}
use Rattle.std.proofs.lemmas.Result.{err_from_is_err_and}
use Rattle.vm_base.proofs.IsKeptOn.{IsKept-on}
use Rattle.memory_uses.proofs.Growing.{doubled_on, not_unmapped}
use Rattle.memory_uses.proofs.doubling.double.Goals as goal

pub returns-in_err-grow-clause-failed : goal.returns-in_err-grow-clause-failed
returns-in_err-grow-clause-failed g c =
    let exit = err_from_is_err_and c.from_residual.result c.from_residual.ensures.1 in
    rw (exit.1, exit.2) (inl (c.in_err-grow.ensures.failed, c.in_err-grow.ensures.undone))

pub returns-clause-doubled : goal.returns-clause-doubled
returns-clause-doubled g c =
    doubled_on c.unmap.result (g.M.Memory.state c.args.memory.now) (g.M.Memory.state c.grow.new.memory) (g.M.Memory.state c.store.new.self) (g.M.Memory.state c.unmap.new.self)
    c.args.array c.args.pages c.args.header c.args.fields.now c.args.old_array c.args.old_pages c.in_ok-grow.ensures.grown c.store.ensures.stored c.unmap.ensures.unmapped

pub returns-clause-failed : goal.returns-clause-failed
returns-clause-failed g c =
    not_unmapped c.unmap.result (g.M.Memory.state c.args.memory.now) (g.M.Memory.state c.grow.new.memory) (g.M.Memory.state c.store.new.self) (g.M.Memory.state c.unmap.new.self)
    c.args.array c.args.pages c.args.header c.args.fields.now c.args.old_array c.args.old_pages c.in_ok-grow.ensures.grown c.store.ensures.stored c.unmap.ensures.fault

pub returns-clause-keeps : goal.returns-clause-keeps
returns-clause-keeps g c cells one two =
    IsKept-on _ _ _ cells [] cells
    (IsKept-on _ _ _ cells [] cells (c.grow.ensures.keeps cells one two) c.store.ensures.keeps (λ cell is. is) (λ cell none. absurd (false≢true none)))
    c.unmap.ensures.keeps (λ cell is. is) (λ cell none. absurd (false≢true none))
