use Rattle.std.proofs.Common.{◌++◌, ℕ, length, OnErr, refl, subst}
use Rattle.std.specs.List.{flat_map}
use Rattle.io_face.specs.Told.{Adds, AddsPrefix}
use Rattle.image_text.specs.Image.{pair_text, image_front, image_end, pairs_text}
use Rattle.image_text.proofs.Writes.{Adds-append, AddsPrefix-behind, failed_front, failed_behind}
use Rattle.image_text.proofs.write.write_image.Goals as goal

pub returns-in_err-write_pairs-clause-failed : goal.returns-in_err-write_pairs-clause-failed
returns-in_err-write_pairs-clause-failed g c =
    let pairs = c.args.pairs.now in
    let front : Adds (g.K.Sink.written c.args.sink.now) (g.K.Sink.written c.write_front.new.sink)
    (image_front (length pairs)) =
    subst (λ (n : ℕ). Adds (g.K.Sink.written c.args.sink.now)
    (g.K.Sink.written c.write_front.new.sink)
    (image_front n)) c.len-count.ensures.count c.in_ok-write_front.ensures.ok in
    failed_front c.from_residual-in_err-write_pairs.result (g.K.Sink.written c.args.sink.now)
    (g.K.Sink.written c.write_pairs.new.sink) (image_front
    (length pairs) ++ flat_map pair_text pairs) (image_end (length pairs)) (pairs_text pairs) refl
    (AddsPrefix-behind (g.K.Sink.written c.args.sink.now)
    (g.K.Sink.written c.write_front.new.sink) (g.K.Sink.written c.write_pairs.new.sink)
    (image_front (length pairs)) (flat_map pair_text pairs) front
    c.in_err-write_pairs.ensures.failed)

pub returns-clause-failed : goal.returns-clause-failed
returns-clause-failed g c =
    let pairs = c.args.pairs.now in
    let front : Adds (g.K.Sink.written c.args.sink.now) (g.K.Sink.written c.write_front.new.sink)
    (image_front (length pairs)) =
    subst (λ (n : ℕ). Adds (g.K.Sink.written c.args.sink.now)
    (g.K.Sink.written c.write_front.new.sink)
    (image_front n)) c.len-count.ensures.count c.in_ok-write_front.ensures.ok in
    let both = Adds-append (g.K.Sink.written c.args.sink.now)
    (g.K.Sink.written c.write_front.new.sink) (g.K.Sink.written c.write_pairs.new.sink)
    (image_front (length pairs)) (flat_map pair_text pairs) front c.in_ok-write_pairs.ensures.ok
    in
    let last = subst (λ (n : ℕ). OnErr c.write_end.result (AddsPrefix
    (g.K.Sink.written c.write_pairs.new.sink) (g.K.Sink.written c.write_end.new.sink)
    (image_end n))) c.len-count.ensures.count c.write_end.ensures.failed in
    failed_behind c.write_end.result (g.K.Sink.written c.args.sink.now)
    (g.K.Sink.written c.write_pairs.new.sink) (g.K.Sink.written c.write_end.new.sink)
    (image_front (length pairs) ++ flat_map pair_text pairs) (image_end (length pairs)) both last
