use Rattle.std.proofs.Common.{◌≡◌, ◌≤◌, ◌↔◌, ◌++◌, [], Some, ap, arith, length, take, drop}
use Rattle.std.proofs.lemmas.Result.{on_err_weaker, IfOk-weaker}
use Rattle.io_face.specs.Memory.{read_size, after_read}
use Rattle.io_face.specs.Told.{Takes}
use Rattle.io_face.proofs.MemoryLemmas.{IfOk-of_three, read-count, read-taken, read-end}
use Rattle.io_face.proofs.mem_source.MemSourceSource.TheImpl.Goals as goal

pub read-tells : goal.read-tells
read-tells c =
    let old = c.args.self.now in
    let new = c.new.self.now in
    let buf = c.args.buf.now in
    let after = c.new.buf.now in
    record {
      count = IfOk-of_three c.result (λ n. n ≡ read_size old.cuts (length buf) (length old.left)) (λ n. after ≡ take n old.left ++ drop n buf) (λ n. new ≡ after_read old n) (λ n. n ≤ length after) (λ n size placed ok. read-count old buf after n size placed) c.ensures.size c.ensures.placed c.ensures.ok;
      taken = IfOk-of_three c.result (λ n. n ≡ read_size old.cuts (length buf) (length old.left)) (λ n. after ≡ take n old.left ++ drop n buf) (λ n. new ≡ after_read old n) (λ n. Takes (Some old.left) (Some new.left) (take n after)) (λ n size placed ok. read-taken old new buf after n size placed ok) c.ensures.size c.ensures.placed c.ensures.ok;
      end = IfOk-weaker c.result (λ n. n ≡ read_size old.cuts (length buf) (length old.left)) (λ n. (n ≡ 0) ↔ (old.left ≡ [])) (λ n size. read-end old buf n c.requires size) c.ensures.size;
      failed = on_err_weaker c.result (λ e. ap (λ s. Some s.left) e) c.ensures.err;
      faults = c.ensures.faults;
      quiet = IfOk-weaker c.result (λ n. new ≡ after_read old n) (λ _. new.calls.faults ≡ old.calls.faults) (λ n e. ap (λ s. s.calls.faults) e) c.ensures.ok;
      cause = on_err_weaker c.result (λ e. let f = ap (λ s. s.calls.faults) e in omega (arith, f)) c.ensures.err;
    }
