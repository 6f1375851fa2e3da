use Rattle.std.proofs.Common.{◌*◌, []}
use Rattle.std.proofs.lemmas.Result.{err_from_is_err_and}
use Rattle.memory_uses.proofs.Undone.{mapped_into, mapped-same}
use Rattle.memory_uses.proofs.Touched.{touch_fails_mem}
use Rattle.memory_uses.proofs.Begun.{begun_one, fails_map, fails_touch}
use Rattle.vm_base.specs.declared.permission.Perm.TheVariants.{ReadWrite}
use Rattle.memory_uses.proofs.undoing.begin_array.Goals as goal

pub returns-in_err-map-clause-fault : goal.returns-in_err-map-clause-fault
returns-in_err-map-clause-fault g c =
    let exit = err_from_is_err_and c.from_residual.result c.from_residual.ensures.1 in
    rw (exit.1, exit.2) (fails_map (g.M.Memory.state c.args.memory.now) (g.M.Memory.state c.map.new.self) c.args.array c.args.array_pages (c.args.header * 4096) 4096 ([])
    c.in_err-map.field-0.0 c.in_err-map.ensures.fault.0 c.in_err-map.ensures.fault.1)

pub returns-in-Err-clause-fault : goal.returns-in-Err-clause-fault
returns-in-Err-clause-fault g c =
    fails_touch (g.M.Memory.state c.args.memory.now) (g.M.Memory.state c.map.new.self) (g.M.Memory.state c.touch.new.self) (g.M.Memory.state c.take_back.new.memory) c.args.array c.args.array_pages (c.args.header * 4096) 4096
    c.in-Err.fault c.in_ok-map.ensures.mapped c.in-Err.ensures.fault c.take_back.ensures.most c.take_back.ensures.keeps.counted

pub returns-in-Err-clause-undone : goal.returns-in-Err-clause-undone
returns-in-Err-clause-undone g c =
    c.take_back.ensures.undone (g.M.Memory.state c.args.memory.now).mem
    (mapped-same (g.M.Memory.state c.args.memory.now).mem (g.M.Memory.state c.map.new.self).mem (g.M.Memory.state c.touch.new.self).mem c.args.array c.args.array_pages
    (mapped_into (g.M.Memory.state c.args.memory.now) c.args.array c.args.array_pages ReadWrite (g.M.Memory.state c.map.new.self).mem c.map.ensures.keeps.before.flat c.in_ok-map.ensures.mapped.0)
    (touch_fails_mem (g.M.Memory.state c.map.new.self) (g.M.Memory.state c.touch.new.self) (c.args.header * 4096) 4096 c.in-Err.fault c.in-Err.ensures.fault))

pub returns-clause-begun : goal.returns-clause-begun
returns-clause-begun g c =
    begun_one (g.M.Memory.state c.args.memory.now) (g.M.Memory.state c.map.new.self) (g.M.Memory.state c.touch.new.self) c.args.array c.args.array_pages (c.args.header * 4096) 4096
    c.in_ok-map.ensures.mapped c.in_default.ensures.touched
