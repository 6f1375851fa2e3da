use Rattle.std.proofs.Common.{length, ◌/◌, sym, ◌∙◌, ap}
use Rattle.vm_base.specs.FlatStep.{outside}
use Rattle.trace_core.specs.KernelStanding.{sides_of}
use Rattle.trace_core.proofs.events.SnapshotReads.{unread-none, unread-other, unread-outside, unread-lost, read-whole}
use Rattle.trace_core.proofs.events.KernelFacts.{known-tables}
use Rattle.trace_core.proofs.parts.Parts.snap_read.Goals as goal

pub snap_read-requires-clause-stands : goal.snap_read-requires-clause-stands
snap_read-requires-clause-stands g c = known-tables _ c.requires.stands

-- src/snapshots.rt:86:13
pub returns-in_default-clause-read : goal.returns-in_default-clause-read
returns-in_default-clause-read g c = λ machine state st. unread-none _ machine state st c.args.number c.args.addr (length c.args.buf.now) c.in_default.is

-- src/snapshots.rt:89:13
pub returns-then-kept-number-clause-read : goal.returns-then-kept-number-clause-read
returns-then-kept-number-clause-read g c = λ machine state st.
    unread-other _ machine state st c.args.number c.args.addr (length c.args.buf.now) c.in-Some.kept c.in-Some.is c.if-kept-number.true

-- src/snapshots.rt:94:13
pub returns-in-Some-first_outside-clause-read : goal.returns-in-Some-first_outside-clause-read
returns-in-Some-first_outside-clause-read g c = λ machine state st.
    unread-outside _ machine state st c.args.number c.args.addr (length c.args.buf.now) c.in-Some.kept c.in-Some.is c.if-kept-number.false c.in-Some-first_outside.page
    (ap (outside c.in-Some.kept.areas (c.args.addr / 4096)) (sym c.page_count-count.ensures.count) ∙ sym c.first_outside.ensures ∙ c.in-Some-first_outside.is)

-- src/snapshots.rt:77:5
pub returns-in-Ok-clause-read : goal.returns-in-Ok-clause-read
returns-in-Ok-clause-read g c = λ machine state st.
    let read = c.in-Ok.ensures.read (sides_of state st.pages) st.tables in
    read-whole _ machine state st c.args.number c.args.addr (length c.args.buf.now) c.in-Some.kept c.in-Some.is c.if-kept-number.false _
    (ap (outside c.in-Some.kept.areas (c.args.addr / 4096)) (sym c.page_count-count.ensures.count) ∙ sym c.first_outside.ensures ∙ c.in_default-first_outside.is)
    read.unlost read.read

-- src/snapshots.rt:77:5
pub returns-in-Err-clause-read : goal.returns-in-Err-clause-read
returns-in-Err-clause-read g c = λ machine state st.
    let read = c.in-Err.ensures.read (sides_of state st.pages) st.tables in
    unread-lost _ machine state st c.args.number c.args.addr (length c.args.buf.now) c.in-Some.kept c.in-Some.is c.if-kept-number.false c.in-Err.lost.at
    (ap (outside c.in-Some.kept.areas (c.args.addr / 4096)) (sym c.page_count-count.ensures.count) ∙ sym c.first_outside.ensures ∙ c.in_default-first_outside.is)
    read.lost
