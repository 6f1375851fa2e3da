use Rattle.std.proofs.Common.{refl, sym, ◌∙◌, ap}
use Rattle.trace_events.specs.declared.event.Event.TheVariants.{ListAreas}
use Rattle.trace_events.specs.declared.outcome.Outcome.TheVariants.{AreaRow}
use Rattle.trace_core.specs.EventMeaning.{only_answers}
use Rattle.trace_core.proofs.runs.RunSteps.{told-follows}
use Rattle.trace_core.proofs.parts.Parts.list_areas.Goals as goal

pub returns : goal.returns
returns g c = record {
  ran = λ machine state st. told-follows _ machine state ListAreas _ refl refl st
      (λ answers. ap (λ areas. only_answers state (AreaRow areas)) (st.areas ∙ sym (c.in_ok-row.ensures ∙ c.list.ensures.areas)));
}
