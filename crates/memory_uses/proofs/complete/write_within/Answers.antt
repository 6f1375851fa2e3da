use Rattle.std.proofs.Common.{inl}
use Rattle.std.proofs.lemmas.Result.{err_from_is_err_and}
use Rattle.memory_uses.proofs.Completed.{none_refused}
use Rattle.memory_uses.proofs.Writing.{written_twice, fails_second}
use Rattle.memory_uses.proofs.complete.write_within.Goals as goal

pub returns-in_err-write_at-clause-failed : goal.returns-in_err-write_at-clause-failed
returns-in_err-write_at-clause-failed g c =
    let exit = err_from_is_err_and c.from_residual.result c.from_residual.ensures.1 in
    rw (exit.1, exit.2) (inl c.in_err-write_at.ensures.cause)

pub returns-in_err-write_at-clause-complete : goal.returns-in_err-write_at-clause-complete
returns-in_err-write_at-clause-complete g c enough told less =
    none_refused (g.M.Memory.state c.write_at.new.memory) enough c.write_at.ensures.keeps.after told less

pub returns-clause-complete : goal.returns-clause-complete
returns-clause-complete g c enough told less =
    none_refused (g.M.Memory.state c.write_at-2.new.memory) enough c.write_at-2.ensures.keeps.after told less

pub returns-clause-written : goal.returns-clause-written
returns-clause-written g c =
    written_twice c.write_at-2.result (g.M.Memory.state c.args.memory.now)
    (g.M.Memory.state c.write_at.new.memory) (g.M.Memory.state c.write_at-2.new.memory)
    c.args.addr c.args.second c.args.bytes.now c.in_ok-write_at.ensures.ready c.write_at-2.ensures.ready

pub returns-clause-failed : goal.returns-clause-failed
returns-clause-failed g c =
    fails_second c.write_at-2.result (g.M.Memory.state c.args.memory.now)
    (g.M.Memory.state c.write_at.new.memory) (g.M.Memory.state c.write_at-2.new.memory)
    c.args.addr c.args.second c.args.bytes.now c.in_ok-write_at.ensures.ready c.write_at-2.ensures.cause

pub returns-clause-went : goal.returns-clause-went
returns-clause-went g c = g.met.M.Memory.went_on _ _ _ c.write_at.ensures.went c.write_at-2.ensures.went
