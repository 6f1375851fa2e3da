use Rattle.std.proofs.Common.{length, ap, arith}
use Rattle.resp_text.proofs.Buffers.{length-words_at}
use Rattle.resp_text.proofs.request.Request.word.Goals as goal

pub word_at-requires-clause-within : goal.word_at-requires-clause-within
word_at-requires-clause-within c =
    let count = length-words_at c.self.inside.bytes.items c.self.inside.words.items in
    omega (arith, count, ap length c.self.view_is, ap length c.deref-2.ensures.value, c.requires)
