use Rattle.std.proofs.Common.{◌≡◌, ◌++◌, take, arith}
use Rattle.trace_text.proofs.BytesLaws.{OnOk-map, front_stays, last_printed, line_holds, piece_printed}
use Rattle.trace_text.proofs.printer.push_bytes.Goals as goal

pub slice_bounds-push_all-end-in-loop-rest : goal.slice_bounds-push_all-end-in-loop-rest
slice_bounds-push_all-end-in-loop-rest c =
    line_holds 64 c.line_of.result c.split_at.result.0.now (omega arith) (omega (arith, c.split_at.ensures.front_len)) c.line_of.ensures

pub loop-rest-preserved : goal.loop-rest-preserved
loop-rest-preserved c =
    let pushed : c.push_all.new.self ≡ c.loop-rest.out ++ take 64 c.line_of.result = c.in_ok-push_all.ensures.ok in
    record {
      pushed =
          piece_printed c.loop-rest.out c.push_all.new.self _ c.loop-rest.rest.now
          c.split_at.result.0.now c.split_at.result.1.now c.line_of.result c.loop-rest-test.true
          c.split_at.ensures.front c.split_at.ensures.back c.line_of.ensures pushed c.loop-rest.invariant.pushed;
      front = front_stays c.args.out.now c.loop-rest.out c.push_all.new.self (take 64 c.line_of.result) pushed c.loop-rest.invariant.front;
    }

pub returns-clause-ok : goal.returns-clause-ok
returns-clause-ok c =
    OnOk-map c.push_all-2.result
    (λ pushed. last_printed c.loop-rest.out c.push_all-2.new.self _ c.loop-rest.rest.now c.line_of-2.result
    (omega (arith, c.loop-rest-test.false)) c.line_of-2.ensures pushed c.loop-rest.invariant.pushed)
    c.push_all-2.ensures.ok
