use Rattle.std.proofs.Common.{◌++◌, ℕ, List, OnOk, OnErr, subst}
use Rattle.std.specs.Prelude.{codes}
use Rattle.io_face.specs.Told.{Adds, AddsPrefix}
use Rattle.image_text.specs.Image.{image_end}
use Rattle.image_text.proofs.write.write_end.Goals as goal

pub returns-clause-ok : goal.returns-clause-ok
unfolding image_end
returns-clause-ok g c =
    subst (λ (count : List ℕ). OnOk c.write_both.result (Adds (g.K.Sink.written c.args.sink.now)
    (g.K.Sink.written c.write_both.new.sink)
    (codes "AFEND" ++ count))) c.count_bytes.ensures c.write_both.ensures.ok

pub returns-clause-failed : goal.returns-clause-failed
unfolding image_end
returns-clause-failed g c =
    subst (λ (count : List ℕ). OnErr c.write_both.result (AddsPrefix
    (g.K.Sink.written c.args.sink.now) (g.K.Sink.written c.write_both.new.sink)
    (codes "AFEND" ++ count))) c.count_bytes.ensures c.write_both.ensures.failed
