use Rattle.std.proofs.Common.{◌<◌, ◌≤◌, ◌+◌, length, arith}
use Rattle.resp_text.proofs.Scans.{leads_over, leads_step, leads_all, reads_over, reads_step, reads_all, ends_step, breaks_step}
use Rattle.resp_text.proofs.scan.scan_item.Goals as goal

pub returns-then-at-bytes : goal.returns-then-at-bytes
returns-then-at-bytes c =
    let run = c.pass_over-run.result in
    let over = leads_over c.args.scan c.loop-at.scan run _ c.loop-at.at c.args.bytes.now (omega
    (arith, c.if-at-bytes.true)) c.loop-at.invariant.leads c.pass_over-run.ensures in
    let read = reads_over c.args.scan c.loop-at.scan run _ c.loop-at.at c.args.bytes.now (omega
    (arith, c.if-at-bytes.true)) c.loop-at.invariant.reads c.pass_over-run.ensures in (
      c.pass_over-run.ensures.sound,
      leads_all c.args.scan run.scan
          (c.loop-at.at + run.taken) c.args.bytes.now (omega (arith, c.if-at-bytes.true)) over,
      reads_all c.args.scan run.scan
          (c.loop-at.at + run.taken) c.args.bytes.now (omega (arith, c.if-at-bytes.true)) read,
    )

pub returns-in-Whole : goal.returns-in-Whole
returns-in-Whole c =
    let run = c.pass_over-run.result in
    let within : c.loop-at.at + run.taken ≤ length c.args.bytes.now = omega
    (arith, c.pass_over-run.ensures.within, c.loop-at-test.true) in
    let behind : c.loop-at.at + run.taken < length c.args.bytes.now = omega
    (arith, within, c.if-at-bytes.false) in
    let over = leads_over c.args.scan c.loop-at.scan run _ c.loop-at.at c.args.bytes.now within
    c.loop-at.invariant.leads c.pass_over-run.ensures in (
      omega arith,
      omega (arith, behind),
      ends_step c.args.scan run.scan
          (c.loop-at.at + run.taken) c.args.bytes.now behind over c.in-Whole.ensures.means,
    )

pub returns-in-Break : goal.returns-in-Break
returns-in-Break c =
    let run = c.pass_over-run.result in
    let within : c.loop-at.at + run.taken ≤ length c.args.bytes.now = omega
    (arith, c.pass_over-run.ensures.within, c.loop-at-test.true) in
    let behind : c.loop-at.at + run.taken < length c.args.bytes.now = omega
    (arith, within, c.if-at-bytes.false) in
    let over = leads_over c.args.scan c.loop-at.scan run _ c.loop-at.at c.args.bytes.now within
    c.loop-at.invariant.leads c.pass_over-run.ensures in
    let read = reads_over c.args.scan c.loop-at.scan run _ c.loop-at.at c.args.bytes.now within
    c.loop-at.invariant.reads c.pass_over-run.ensures in (
      behind,
      c.pass_over-run.ensures.sound,
      over,
      breaks_step c.args.scan run.scan c.in-Break.kind
          (c.loop-at.at + run.taken) c.args.bytes.now behind over c.in-Break.ensures.means,
      read,
      c.in-Break.ensures.reads,
    )

pub loop-at-preserved : goal.loop-at-preserved
loop-at-preserved c =
    let run = c.pass_over-run.result in
    let within : c.loop-at.at + run.taken ≤ length c.args.bytes.now = omega
    (arith, c.pass_over-run.ensures.within, c.loop-at-test.true) in
    let behind : c.loop-at.at + run.taken < length c.args.bytes.now = omega
    (arith, within, c.if-at-bytes.false) in
    let over = leads_over c.args.scan c.loop-at.scan run _ c.loop-at.at c.args.bytes.now within
    c.loop-at.invariant.leads c.pass_over-run.ensures in
    let read = reads_over c.args.scan c.loop-at.scan run _ c.loop-at.at c.args.bytes.now within
    c.loop-at.invariant.reads c.pass_over-run.ensures in
    record {
      within = omega (arith, behind);
      sound = c.in-Go.ensures.means.0;
      leads = leads_step c.args.scan run.scan c.in-Go.next
          (c.loop-at.at + run.taken) c.args.bytes.now behind over c.in-Go.ensures.means;
      reads = reads_step c.args.scan run.scan c.in-Go.next
          (c.loop-at.at + run.taken) c.args.bytes.now behind read c.in-Go.ensures.reads;
    }
