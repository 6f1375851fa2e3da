use Rattle.std.proofs.Common.{◌≡◌, ◌≤◌, ◌∙◌, min, arith, length, take, ◌+◌, ◌++◌, length-append, length-take}
use Rattle.std.proofs.lemmas.List.{length-take-le}
use Rattle.std.proofs.lemmas.Result.{err_from_is_err_and}
use Rattle.io_face.proofs.ToldLemmas.{Takes-again}
use Rattle.io_face.proofs.source.read_all.Goals as goal

pub returns-then-count-room-clause-taken : goal.returns-then-count-room-clause-taken
returns-then-count-room-clause-taken g c =
    let text = c.loop-count.text in
    let piece = take c.in-Ok.count c.read.new.buf in
    let more = length-append text piece in
    let size = length-take-le c.in-Ok.count c.read.new.buf c.in-Ok.ensures.count in
    let front : length c.read.new.buf ≡ min (c.min-want.result + 1) (length c.deref_mut.result.now) =
    c.read.auto.buf ∙ length-take (c.min-want.result + 1) c.deref_mut.result.now in
    let want : c.min-want.result ≤ c.loop-count.room = omega (arith, c.min-want.ensures) in (
      text ++ piece,
      (omega (arith, more, size, front, c.in-Ok.ensures.count), Takes-again _ _ _ text piece c.loop-count.invariant.taken c.in-Ok.ensures.taken),
    )

pub returns-then-count-room-clause-part : goal.returns-then-count-room-clause-part
returns-then-count-room-clause-part g c =
    (_, Takes-again _ _ _ _ _ c.loop-count.invariant.taken c.in-Ok.ensures.taken)

pub returns-in_err-push_all-clause-part : goal.returns-in_err-push_all-clause-part
returns-in_err-push_all-clause-part g c =
    let p = err_from_is_err_and c.from_residual-in_err-push_all.result c.from_residual-in_err-push_all.ensures.1 in
    rw p.1 (_, Takes-again _ _ _ _ _ c.loop-count.invariant.taken c.in-Ok.ensures.taken)

pub returns-in_err-push_all-clause-taken : goal.returns-in_err-push_all-clause-taken
returns-in_err-push_all-clause-taken g c =
    let text = c.loop-count.text in
    let piece = take c.in-Ok.count c.read.new.buf in
    let more = length-append text piece in
    let size = length-take-le c.in-Ok.count c.read.new.buf c.in-Ok.ensures.count in
    let p = err_from_is_err_and c.from_residual-in_err-push_all.result c.from_residual-in_err-push_all.ensures.1 in
    rw p.1 (rw p.2 (
      text ++ piece,
      (omega (arith, more, size, c.if-count-room.false, c.loop-count.invariant.within), Takes-again _ _ _ text piece c.loop-count.invariant.taken c.in-Ok.ensures.taken),
    ))

pub loop-count-preserved : goal.loop-count-preserved
loop-count-preserved g c =
    let text = c.loop-count.text in
    let piece = take c.in-Ok.count c.read.new.buf in
    let more = length-append text piece in
    let size = length-take-le c.in-Ok.count c.read.new.buf c.in-Ok.ensures.count in
    rw c.in_ok-push_all.ensures.ok record {
      within = omega (arith, more, size);
      taken = Takes-again _ _ _ text piece c.loop-count.invariant.taken c.in-Ok.ensures.taken;
      faults = c.in-Ok.ensures.quiet ∙ c.loop-count.invariant.faults;
      piece = c.loop-count.invariant.piece;
    }
