use Rattle.std.proofs.Common.{◌≡◌, ◌<◌, ◌≤◌, ◌++◌, Some, ap, arith, length, take}
use Rattle.std.proofs.lemmas.Result.{on_err_weaker, on_ok_weaker, IfOk-weaker}
use Rattle.io_face.specs.Memory.{after_write}
use Rattle.io_face.proofs.MemoryLemmas.{IfOk-of_three, write-added}
use Rattle.io_face.proofs.mem_sink.MemSinkSink.TheImpl.Goals as goal

pub write-tells : goal.write-tells
write-tells c =
    let old = c.args.self.now in
    let new = c.new.self.now in
    let piece = c.args.piece.now in
    record {
      count = IfOk-weaker c.result (λ n. n ≡ length piece) (λ n. n ≤ length piece) (λ n e. omega arith) c.ensures.size;
      some = IfOk-weaker c.result (λ n. n ≡ length piece) (λ n. 0 < length piece → 0 < n) (λ n e h. omega arith) c.ensures.size;
      added = IfOk-of_three c.result (λ n. n ≡ length piece) (λ _. new ≡ after_write old piece) (λ _. new ≡ after_write old piece) (λ n. Some new.written ≡ Some (old.written ++ take n piece)) (λ n size ok _. write-added old new piece n size ok) c.ensures.size c.ensures.ok c.ensures.ok;
      failed = on_err_weaker c.result (λ e. ap (λ s. Some s.written) e) c.ensures.err;
      faults = c.ensures.faults;
      quiet = on_ok_weaker c.result (λ e. ap (λ s. s.calls.faults) e) c.ensures.ok;
      cause = on_err_weaker c.result (λ e. let f = ap (λ s. s.calls.faults) e in omega (arith, f)) c.ensures.err;
    }
