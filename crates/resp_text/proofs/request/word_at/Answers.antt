use Rattle.std.proofs.Common.{◌≤◌, get_or, length, sym, arith, rules}
use Rattle.resp_text.proofs.Buffers.{AreWithin-at, get_or-words_at}
use Rattle.resp_text.proofs.request.word_at.Goals as goal

pub slice_bounds-result-count : goal.slice_bounds-result-count
slice_bounds-result-count c = (AreWithin-at c.args.words.now (length c.args.bytes.now) c.args.i
    (record { start = 0; end = 0 }) c.requires.within c.requires.spans).0

pub slice_bounds-result-start : goal.slice_bounds-result-start
slice_bounds-result-start c =
    let span = AreWithin-at c.args.words.now (length c.args.bytes.now) c.args.i
    (record { start = 0; end = 0 }) c.requires.within c.requires.spans in
    let low : (get_or c.args.words.now c.args.i (record { start = 0; end = 0 })).start ≤ length
    c.args.bytes.now = omega (arith, span.0, span.1) in
    search rules

pub slice_bounds-result-end : goal.slice_bounds-result-end
slice_bounds-result-end c =
    let span = AreWithin-at c.args.words.now (length c.args.bytes.now) c.args.i
    (record { start = 0; end = 0 }) c.requires.within c.requires.spans in
    let high : (get_or c.args.words.now c.args.i (record { start = 0; end = 0 })).end ≤ length
    c.args.bytes.now = span.1 in
    search rules

pub returns : goal.returns
returns c = sym (get_or-words_at c.args.bytes.now c.args.words.now c.args.i
    (record { start = 0; end = 0 }) c.requires.within)
