use Rattle.image_text.proofs.Writes.{failed_behind}
use Rattle.image_text.proofs.write.write_both.Goals as goal

pub returns-clause-failed : goal.returns-clause-failed
returns-clause-failed g c =
    failed_behind c.write_all-2.result (g.K.Sink.written c.args.sink.now)
    (g.K.Sink.written c.write_all.new.sink) (g.K.Sink.written c.write_all-2.new.sink)
    c.args.first.now c.args.second.now c.in_ok-write_all.ensures.ok c.write_all-2.ensures.failed
