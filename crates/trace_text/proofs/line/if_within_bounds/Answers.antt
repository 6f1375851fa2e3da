use Rattle.std.proofs.Common.{◌∙◌, ap}
use Rattle.trace_text.specs.ScriptReading.{is_within, only_if}
use Rattle.trace_text.proofs.Bounds.{true_within, within_true, same_truth, then_some-only_if}
use Rattle.trace_text.proofs.line.if_within_bounds.Goals as goal

pub returns : goal.returns
returns c =
    c.then_some.ensures ∙ then_some-only_if c.is_within_bounds.result c.args.event ∙ ap (λ holds. only_if holds c.args.event)
    (same_truth c.is_within_bounds.result (is_within c.args.event)
    (λ holds. true_within c.args.event (c.is_within_bounds.ensures.0 holds))
    (λ within. c.is_within_bounds.ensures.1 (within_true c.args.event within)))
