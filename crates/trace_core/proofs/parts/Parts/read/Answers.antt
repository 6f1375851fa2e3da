use Rattle.std.proofs.Common.{length, ◌/◌}
use Rattle.vm_base.specs.FlatStep.{outside}
use Rattle.std.proofs.Common.{Ok, sym, ◌∙◌, ap}
use Rattle.trace_core.specs.KernelStanding.{sides_of}
use Rattle.trace_core.proofs.events.Writes.{read-granted}
use Rattle.trace_core.proofs.events.KernelFacts.{known-tables}
use Rattle.trace_core.proofs.parts.Parts.read.Goals as goal

pub read-requires-clause-stands : goal.read-requires-clause-stands
read-requires-clause-stands g c = known-tables _ c.requires.stands

-- src/writing.rt:36:5
pub returns-clause-read : goal.returns-clause-read
returns-clause-read g c = λ machine state st.
    read-granted _ machine state st c.args.addr (length c.args.buf.now)
    (ap (outside c.args.self.now.areas (c.args.addr / 4096)) (sym c.page_count-count.ensures.count) ∙ sym c.first_outside.ensures ∙ c.in_default.is)
    ∙ ap Ok (sym (c.read.ensures.read (sides_of state st.pages) st.tables))
