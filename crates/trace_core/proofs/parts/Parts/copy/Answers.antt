use Rattle.std.proofs.Common.{refl, sym, ◌∙◌, ap}
use Rattle.trace_core.specs.KernelStanding.{sides_of}
use Rattle.trace_core.proofs.events.Copies.{ran-uncopied, ran-copy, state_outcome, nothing-unlost}
use Rattle.trace_core.proofs.events.KernelFacts.{known-tables}
use Rattle.trace_core.proofs.parts.Parts.copy.Goals as goal

pub state-requires-clause-stands : goal.state-requires-clause-stands
state-requires-clause-stands g c = known-tables _ c.requires.stands

-- src/snapshots.rt:53:13
pub returns-then-not-is_live : goal.returns-then-not-is_live
returns-then-not-is_live g c = record { ran = λ machine state st. ran-uncopied _ machine state st c.args.number c.args.cell (sym c.is_live.ensures ∙ c.if-not-is_live.true); same = refl }

-- src/snapshots.rt:46:5
pub returns-in-Lost : goal.returns-in-Lost
returns-in-Lost g c = record {
  ran = λ machine state st.
      ran-copy _ machine state st c.args.number c.args.cell (sym c.is_live.ensures ∙ c.if-not-is_live.false)
      c.state.result (c.state.ensures.state (sides_of state st.pages) st.tables) _ (ap state_outcome c.in-Lost.is);
  same = refl;
}

-- src/snapshots.rt:46:5
pub returns-in_default : goal.returns-in_default
returns-in_default g c = record {
  ran = λ machine state st.
      ran-copy _ machine state st c.args.number c.args.cell (sym c.is_live.ensures ∙ c.if-not-is_live.false)
      c.state.result (c.state.ensures.state (sides_of state st.pages) st.tables) _ (nothing-unlost c.state.result c.in_default.not-Lost);
  same = refl;
}
