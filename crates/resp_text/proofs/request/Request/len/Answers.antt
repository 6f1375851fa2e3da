use Rattle.std.proofs.Common.{length, ap, arith}
use Rattle.resp_text.proofs.Buffers.{length-words_at}
use Rattle.resp_text.proofs.request.Request.len.Goals as goal

pub returns : goal.returns
returns c =
    let count = length-words_at c.self.inside.bytes.items c.self.inside.words.items in
    omega (arith, count, ap length c.self.view_is, c.self.inside.words.ok.0)
