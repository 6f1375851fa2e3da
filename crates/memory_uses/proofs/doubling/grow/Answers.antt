use Rattle.std.proofs.Common.{[], inl, inr}
use Rattle.std.proofs.lemmas.Bool.{false≢true}
use Rattle.std.proofs.lemmas.Result.{err_from_is_err_and}
use Rattle.vm_base.proofs.IsKeptOn.{IsKept-on}
use Rattle.memory_uses.proofs.Growing.{array_into, kept_front}
use Rattle.memory_uses.proofs.doubling.grow.Goals as goal

pub returns-in_err-map-clause-failed : goal.returns-in_err-map-clause-failed
returns-in_err-map-clause-failed g c =
    let exit = err_from_is_err_and c.from_residual.result c.from_residual.ensures.1 in
    rw (exit.1, exit.2) (inl c.in_err-map.ensures.fault)

pub returns-in_err-map-clause-keeps : goal.returns-in_err-map-clause-keeps
returns-in_err-map-clause-keeps g c cells one two =
    kept_front (g.M.Memory.state c.args.memory.now) (g.M.Memory.state c.map.new.self) [] cells c.map.ensures.keeps (λ cell none. absurd (false≢true none))

pub returns-in-Err-clause-undone : goal.returns-in-Err-clause-undone
returns-in-Err-clause-undone g c =
    c.take_back.ensures.undone (g.M.Memory.state c.args.memory.now).mem
    (array_into (g.M.Memory.state c.args.memory.now) (g.M.Memory.state c.map.new.self) (g.M.Memory.state c.touch_array.new.memory) c.args.array c.args.pages c.args.header c.args.size
    c.in-Err.fault c.map.ensures.keeps.before.flat c.in_ok-map.ensures.mapped c.in-Err.ensures.failed)

pub returns-in-Err-clause-failed : goal.returns-in-Err-clause-failed
returns-in-Err-clause-failed g c =
    inr (
      g.M.Memory.state c.map.new.self,
      g.M.Memory.state c.touch_array.new.memory,
      (
        c.in_ok-map.ensures.mapped,
        c.in-Err.ensures.failed,
        c.take_back.ensures.most,
        c.take_back.ensures.keeps.counted,
        c.take_back.ensures.undone (g.M.Memory.state c.args.memory.now).mem
            (array_into (g.M.Memory.state c.args.memory.now) (g.M.Memory.state c.map.new.self) (g.M.Memory.state c.touch_array.new.memory) c.args.array c.args.pages c.args.header c.args.size
            c.in-Err.fault c.map.ensures.keeps.before.flat c.in_ok-map.ensures.mapped c.in-Err.ensures.failed),
      ),
    )

pub returns-in-Err-clause-keeps : goal.returns-in-Err-clause-keeps
returns-in-Err-clause-keeps g c cells one two =
    IsKept-on _ _ _ cells [] cells
    (IsKept-on _ _ _ [] cells cells c.map.ensures.keeps (c.touch_array.ensures.keeps cells one two) (λ cell none. absurd (false≢true none)) (λ cell is. is))
    c.take_back.ensures.keeps (λ cell is. is) (λ cell none. absurd (false≢true none))

pub returns-clause-keeps : goal.returns-clause-keeps
returns-clause-keeps g c cells one two =
    IsKept-on _ _ _ [] cells cells c.map.ensures.keeps (c.touch_array.ensures.keeps cells one two) (λ cell none. absurd (false≢true none)) (λ cell is. is)

pub returns-clause-grown : goal.returns-clause-grown
returns-clause-grown g c = record {
  mapped = g.M.Memory.state c.map.new.self;
  map = c.in_ok-map.ensures.mapped;
  touch = c.in_default.ensures.touched;
}
