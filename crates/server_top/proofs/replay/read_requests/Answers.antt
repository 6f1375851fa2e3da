-- One feed reads the whole text: up to a break, or up to its end.
use Rattle.std.proofs.Common.{[], sym, ◌∙◌, ap, subst, arith}
use Rattle.resp_text.specs.Grammar.{IsStream}
use Rattle.server_top.specs.ReplayPromise.{IsNoStream}
use Rattle.server_top.proofs.Streams.{broken_text, few_requests, read_stream, servable_stream}
use Rattle.server_top.proofs.replay.read_requests.Goals as goal

pub returns-in-Err-Protocol-clause-broken : goal.returns-in-Err-Protocol-clause-broken
returns-in-Err-Protocol-clause-broken c =
    let fed = c.in-Err-Protocol.ensures.fed [] [] (ap (λ reader. reader.fault) c.new-requests.ensures.nothing) c.new-requests.ensures.stands in
    λ _. subst IsNoStream c.as_slice.ensures (broken_text c.as_slice.result.now c.in-Err-Protocol.field-0-0 _ (rw c.in-Err-Protocol.field-0-is at fed).0)

pub returns-then-rest-eq0-clause-stream : goal.returns-then-rest-eq0-clause-stream
returns-then-rest-eq0-clause-stream c =
    let fed = c.in-Ok.ensures.fed [] [] (ap (λ reader. reader.fault) c.new-requests.ensures.nothing) c.new-requests.ensures.stands in
    read_stream _ _ _ c.as_slice.ensures fed.0 (sym c.rest.ensures.value ∙ c.if-rest-eq0.true)

pub returns-then-rest-eq0-clause-servable : goal.returns-then-rest-eq0-clause-servable
returns-then-rest-eq0-clause-servable c =
    let fed = c.in-Ok.ensures.fed [] [] (ap (λ reader. reader.fault) c.new-requests.ensures.nothing) c.new-requests.ensures.stands in
    servable_stream _ _ (read_stream _ _ _ c.as_slice.ensures fed.0 (sym c.rest.ensures.value ∙ c.if-rest-eq0.true))

pub returns-then-rest-eq0-clause-few : goal.returns-then-rest-eq0-clause-few
returns-then-rest-eq0-clause-few c =
    let fed = c.in-Ok.ensures.fed [] [] (ap (λ reader. reader.fault) c.new-requests.ensures.nothing) c.new-requests.ensures.stands in
    omega (arith, few_requests _ _ (read_stream _ _ _ c.as_slice.ensures fed.0 (sym c.rest.ensures.value ∙ c.if-rest-eq0.true)), c.requires)

pub returns-clause-broken : goal.returns-clause-broken
returns-clause-broken c =
    let fed = c.in-Ok.ensures.fed [] [] (ap (λ reader. reader.fault) c.new-requests.ensures.nothing) c.new-requests.ensures.stands in
    λ _ requests is. c.if-rest-eq0.false ((c.rest.ensures.whole c.as_slice.result.now [] fed.0).1 (requests, subst (λ text. IsStream text requests) (sym c.as_slice.ensures) is))
