use Rattle.std.proofs.Common.{◌*◌, inl}
use Rattle.std.proofs.lemmas.Result.{err_from_is_err_and}
use Rattle.vm_base.specs.Places.{cells_of_range}
use Rattle.vm_base.proofs.IsKeptOn.{IsKept-on}
use Rattle.memory_uses.proofs.Growing.{array_touched, word_fails, kept_front}
use Rattle.memory_uses.proofs.doubling.touch_array.Goals as goal

pub returns-in_err-touch_pages-clause-failed : goal.returns-in_err-touch_pages-clause-failed
returns-in_err-touch_pages-clause-failed g c =
    let exit = err_from_is_err_and c.from_residual.result c.from_residual.ensures.1 in
    rw (exit.1, exit.2) (inl c.in_err-touch_pages.ensures.failed)

pub returns-in_err-touch_pages-clause-keeps : goal.returns-in_err-touch_pages-clause-keeps
returns-in_err-touch_pages-clause-keeps g c cells one two =
    kept_front (g.M.Memory.state c.args.memory.now) (g.M.Memory.state c.touch_pages.new.memory) (cells_of_range (c.args.array * 4096) (c.args.pages * 4096)) cells
    c.touch_pages.ensures.keeps one

pub returns-clause-touched : goal.returns-clause-touched
returns-clause-touched g c =
    array_touched c.touch.result (g.M.Memory.state c.args.memory.now) (g.M.Memory.state c.touch_pages.new.memory) (g.M.Memory.state c.touch.new.self)
    c.args.array c.args.pages c.args.header c.args.size c.in_ok-touch_pages.ensures.touched c.touch.ensures.touched

pub returns-clause-failed : goal.returns-clause-failed
returns-clause-failed g c =
    word_fails c.touch.result (g.M.Memory.state c.args.memory.now) (g.M.Memory.state c.touch_pages.new.memory) (g.M.Memory.state c.touch.new.self)
    c.args.array c.args.pages c.args.header c.args.size c.in_ok-touch_pages.ensures.touched c.touch.ensures.fault

pub returns-clause-keeps : goal.returns-clause-keeps
returns-clause-keeps g c cells one two =
    IsKept-on _ _ _ (cells_of_range (c.args.array * 4096) (c.args.pages * 4096)) (cells_of_range c.args.header c.args.size) cells
    c.touch_pages.ensures.keeps c.touch.ensures.keeps one two
