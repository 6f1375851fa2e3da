use Rattle.std.proofs.Common.{◌≡◌, ◌<◌, ◌+◌, ◌-◌, ◌∷◌, ◌++◌, [], List, length, length-append, sym, ap, subst, arith}
use Rattle.resp_text.specs.declared.request.Span.{Span}
use Rattle.resp_text.proofs.FrontTexts.{ReadsWords, line_some, reads_word, reads_request}
use Rattle.resp_text.proofs.front.front_request.Goals as goal

pub loop-line-preserved : goal.loop-line-preserved
loop-line-preserved c =
    let word = c.in-Some-front_word.word in
    let span : Span = record {
      start = c.loop-line.at + word.start;
      end = c.loop-line.at + word.end;
    } in
    let pushed : c.push.new.self.items ≡ c.loop-line.spans.items ++ span ∷ [] =
    c.in_ok-push.ensures.items in
    let reads = reads_word c.args.text.now c.split_at.result.1.now c.in-Some.line.length
    c.loop-line.at c.loop-line.room c.loop-line.spans.items word c.split_at.ensures.back
    c.in-Some-front_word.ensures c.loop-line.invariant.reads in
    record {
      few = omega (
        arith,
        c.loop-line-test.true,
        c.len.ensures,
        c.loop-line.spans.ok.0,
        ap length pushed,
        length-append c.loop-line.spans.items (span ∷ []),
      );
      reads = subst (λ (spans : List Span). ReadsWords c.args.text.now c.in-Some.line.length
          (c.loop-line.at + (word.end + 2)) (c.loop-line.room - (word.end - word.start)) spans)
          (sym pushed) reads;
    }

pub returns : goal.returns
returns c =
    let line = c.in-Some.line in
    let some : 0 < line.number = omega (arith, c.if-line-eq0.false) in
    let long : 0 < line.length = line_some c.args.text.now 42 1024 line c.in-Some.ensures in
    let all : length c.loop-line.spans.items ≡ line.number = omega (
      arith,
      c.loop-line.invariant.few,
      c.loop-line-test.false,
      c.len.ensures,
      c.loop-line.spans.ok.0,
    ) in
    reads_request c.args.text.now line c.loop-line.at c.loop-line.room c.loop-line.spans.items
    c.in-Some.ensures some all long c.loop-line.invariant.reads
