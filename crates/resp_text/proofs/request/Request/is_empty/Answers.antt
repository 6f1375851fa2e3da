use Rattle.std.proofs.Common.{◌≡◌, ℕ, ◌==◌, length, ap, ◌∙◌, arith}
use Rattle.std.specs.Vec.{vec_len}
use Rattle.resp_text.proofs.Buffers.{length-words_at}
use Rattle.resp_text.proofs.request.Request.is_empty.Goals as goal

pub returns : goal.returns
returns c =
    let count = length-words_at c.self.inside.bytes.items c.self.inside.words.items in
    let same : vec_len c.self.inside.words ≡ length c.args.self.now = omega
    (arith, count, ap length c.self.view_is, c.self.inside.words.ok.0) in
    c.is_empty.ensures ∙ ap (λ (n : ℕ). n == 0) same
