-- The pair is put into the finite map.
use Rattle.std.proofs.Common.{◌∙◌, ap}
use Rattle.std.specs.FinMap.{insert}
use Rattle.server_top.specs.ReplayRun.{stored_pairs}
use Rattle.server_top.proofs.StoredPairs.{insert-stored_pairs}
use Rattle.server_top.proofs.replay.pairs.set_pair.Goals as goal

pub returns-in-Ok-clause-ok : goal.returns-in-Ok-clause-ok
returns-in-Ok-clause-ok c =
    insert-stored_pairs c.args.pairs.now.entries c.insert.new.self.entries c.in_ok-key.key c.in_ok-value.value
    c.insert.ensures.was_ordered c.insert.ensures.ordered c.in-Ok.ensures.entries
    ∙ ap (λ key. insert (stored_pairs c.args.pairs.now.entries) key c.in_ok-value.value.items) c.in_ok-key.ensures.items
    ∙ ap (λ value. insert (stored_pairs c.args.pairs.now.entries) c.args.key.now value) c.in_ok-value.ensures.items
