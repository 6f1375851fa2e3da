-- Where nothing was stored at once the parts are as they were.
use Rattle.std.proofs.Common.{length, sym, subst}
use Rattle.trace_core.specs.KernelStanding.{KernelStands}
use Rattle.trace_core.specs.TouchAnswers.{LetsTouch}
use Rattle.trace_core.proofs.events.ReadyWrites.{ran-again, writes-again}
use Rattle.trace_core.proofs.parts.Parts.write_allowed.Goals as goal

pub touch_and_store-requires-clause-stands : goal.touch_and_store-requires-clause-stands
touch_and_store-requires-clause-stands g c =
    subst (λ parts. LetsTouch parts c.args.addr (length c.args.bytes.now)) (sym (c.store_ready.ensures.kept c.if-store_ready.false))
    c.requires.stands

pub returns-then-store_ready-clause-ran : goal.returns-then-store_ready-clause-ran
returns-then-store_ready-clause-ran g c = c.store_ready.ensures.ran c.if-store_ready.true

pub returns-then-store_ready-clause-writable : goal.returns-then-store_ready-clause-writable
returns-then-store_ready-clause-writable g c = c.store_ready.ensures.writable c.if-store_ready.true

pub returns-else-store_ready-clause-ran : goal.returns-else-store_ready-clause-ran
returns-else-store_ready-clause-ran g c = λ machine state st.
    let same = c.store_ready.ensures.kept c.if-store_ready.false in
    ran-again _ _ _ machine _ _ same
    (c.touch_and_store.ensures.ran machine state (subst (λ parts. KernelStands parts machine state) (sym same) st))

pub returns-else-store_ready-clause-writable : goal.returns-else-store_ready-clause-writable
returns-else-store_ready-clause-writable g c =
    writes-again _ _ _ _ _ _ (c.store_ready.ensures.kept c.if-store_ready.false) c.touch_and_store.ensures.writable
