use Rattle.std.proofs.Common.{◌≡◌, length, sym, ap, ◌∙◌}
use Rattle.resp_text.specs.Reading.{Reading}
use Rattle.resp_text.proofs.Readings.{all_whole}
use Rattle.resp_text.proofs.requests.Requests.rest.Goals as goal

pub returns-clause-whole : goal.returns-clause-whole
returns-clause-whole c taken given s =
    let same : c.len.result ≡ length c.args.self.now.rest = c.len.ensures
    ∙ c.self.inside.rest.ok.0 ∙ ap (λ (r : Reading). length r.rest) c.self.view_is in
    let both = all_whole c.args.self.now taken given s in
    (λ none. both.0 (sym same ∙ none), λ stream. same ∙ both.1 stream)
