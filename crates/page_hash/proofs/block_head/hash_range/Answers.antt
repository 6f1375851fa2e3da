use Rattle.std.proofs.Common.{◌≡◌, ◌+◌, ◌≤◌, ◌∙◌, ◌++◌, length, take, drop, fold, ap, arith}
use Rattle.vm_base.specs.FlatMemory.{bytes_at}
use Rattle.vm_base.proofs.FlatBytes.{length-bytes_at}
use Rattle.store_meaning.specs.HashLayout.{hash_step}
use Rattle.page_hash.proofs.HeadReads.{front_read, front_kept, hash_more}
use Rattle.page_hash.proofs.block_head.hash_range.Goals as goal

pub loop-done-preserved : goal.loop-done-preserved
loop-done-preserved g c =
    let present = (g.M.Memory.state c.args.m.now).mem.present in
    let size = c.min-size.result in
    let fits : c.loop-done.done + size ≤ c.args.n = omega (arith, c.min-size.ensures, c.loop-done-test.true) in
    let read : c.read_area.new.buf ≡ bytes_at present (c.args.addr + c.loop-done.done) (length (take size c.loop-done.piece)) =
    c.read_area.ensures.bytes
    ∙ ap (λ s. bytes_at s.mem.present (c.args.addr + c.loop-done.done) (length (take size c.loop-done.piece))) c.loop-done.invariant.same in
    let room : size ≤ length c.loop-done.piece = omega (arith, c.min-size.ensures, c.loop-done.invariant.room) in
    let long = ap length read ∙ length-bytes_at present (c.args.addr + c.loop-done.done) (length (take size c.loop-done.piece)) in
    record {
      same = c.read_area.ensures.same ∙ c.loop-done.invariant.same;
      aside = c.read_area.ensures.aside ∙ c.loop-done.invariant.aside;
      went = g.met.M.Memory.went_on _ _ _ c.loop-done.invariant.went c.read_area.ensures.went;
      room = front_kept size c.loop-done.piece c.read_area.new.buf room long ∙ c.loop-done.invariant.room;
      within = fits;
      so_far = c.hash_bytes-on.ensures
          ∙ hash_more present c.args.addr c.loop-done.done size c.args.hash c.loop-done.on
          (take size (c.read_area.new.buf ++ drop size c.loop-done.piece)) c.loop-done.invariant.so_far
          (front_read present (c.args.addr + c.loop-done.done) size c.loop-done.piece c.read_area.new.buf room read);
    }

pub returns-clause-hash : goal.returns-clause-hash
returns-clause-hash g c =
    let all : c.loop-done.done ≡ c.args.n = omega (arith, c.loop-done.invariant.within, c.loop-done-test.false) in
    c.loop-done.invariant.so_far
    ∙ ap (λ n. fold hash_step c.args.hash (bytes_at (g.M.Memory.state c.args.m.now).mem.present c.args.addr n)) all
