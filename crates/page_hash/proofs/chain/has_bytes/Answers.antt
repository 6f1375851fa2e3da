use Rattle.std.proofs.Common.{◌≡◌, ◌+◌, ◌≤◌, ◌∙◌, ◌++◌, length, take, drop, sym, ap, arith}
use Rattle.vm_base.specs.FlatMemory.{bytes_at}
use Rattle.vm_base.proofs.FlatBytes.{length-bytes_at}
use Rattle.page_hash.proofs.Pieces.{piece_read, buffer_kept, more_bytes, other_bytes, all_bytes}
use Rattle.page_hash.proofs.chain.has_bytes.Goals as goal

pub returns-then-ne-clause-has : goal.returns-then-ne-clause-has
returns-then-ne-clause-has g c =
    let present = (g.M.Memory.state c.args.m.now).mem.present in
    let size = c.min-size.result in
    let fits : c.loop-done.done + size ≤ length c.args.bytes.now = omega (arith, c.min-size.ensures, c.loop-done-test.true) in
    let read : c.read_area.new.buf ≡ bytes_at present (c.args.addr + c.loop-done.done) (length (take size c.loop-done.piece)) =
    c.read_area.ensures.bytes
    ∙ ap (λ s. bytes_at s.mem.present (c.args.addr + c.loop-done.done) (length (take size c.loop-done.piece))) c.loop-done.invariant.same in
    let room : size ≤ length c.loop-done.piece = omega (arith, c.min-size.ensures, c.loop-done.invariant.room) in
    other_bytes present c.args.addr c.loop-done.done size c.args.bytes.now
    (take size (c.read_area.new.buf ++ drop size c.loop-done.piece)) fits
    (piece_read present (c.args.addr + c.loop-done.done) size c.loop-done.piece c.read_area.new.buf room read)
    (sym c.if-ne.ensures)

pub loop-done-preserved : goal.loop-done-preserved
loop-done-preserved g c =
    let present = (g.M.Memory.state c.args.m.now).mem.present in
    let size = c.min-size.result in
    let fits : c.loop-done.done + size ≤ length c.args.bytes.now = omega (arith, c.min-size.ensures, c.loop-done-test.true) in
    let read : c.read_area.new.buf ≡ bytes_at present (c.args.addr + c.loop-done.done) (length (take size c.loop-done.piece)) =
    c.read_area.ensures.bytes
    ∙ ap (λ s. bytes_at s.mem.present (c.args.addr + c.loop-done.done) (length (take size c.loop-done.piece))) c.loop-done.invariant.same in
    let room : size ≤ length c.loop-done.piece = omega (arith, c.min-size.ensures, c.loop-done.invariant.room) in
    let long = ap length read ∙ length-bytes_at present (c.args.addr + c.loop-done.done) (length (take size c.loop-done.piece)) in
    record {
      same = c.read_area.ensures.same ∙ c.loop-done.invariant.same;
      aside = c.read_area.ensures.aside ∙ c.loop-done.invariant.aside;
      went = g.met.M.Memory.went_on _ _ _ c.loop-done.invariant.went c.read_area.ensures.went;
      room = buffer_kept size c.loop-done.piece c.read_area.new.buf room long ∙ c.loop-done.invariant.room;
      within = fits;
      so_far = more_bytes present c.args.addr c.loop-done.done size c.args.bytes.now
          (take size (c.read_area.new.buf ++ drop size c.loop-done.piece)) c.loop-done.invariant.so_far
          (piece_read present (c.args.addr + c.loop-done.done) size c.loop-done.piece c.read_area.new.buf room read)
          (sym c.if-ne.ensures);
    }

pub returns-clause-has : goal.returns-clause-has
returns-clause-has g c =
    all_bytes (g.M.Memory.state c.args.m.now).mem.present c.args.addr c.loop-done.done c.args.bytes.now c.loop-done.invariant.so_far
    c.loop-done.invariant.within (omega (arith, c.loop-done-test.false))
