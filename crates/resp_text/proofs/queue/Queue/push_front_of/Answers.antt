use Rattle.std.proofs.Common.{◌≡◌, ◌++◌, ◌∷◌, [], ℕ, List, take, ap, subst, ◌∙◌, Option, IfSome}
use Rattle.resp_text.specs.Words.{words_at}
use Rattle.resp_text.specs.Fronts.{HasFrontRequest}
use Rattle.resp_text.proofs.Buffers.{words_at-take}
use Rattle.resp_text.proofs.queue.Queue.push_front_of.Goals as goal

pub returns-clause-added : goal.returns-clause-added
returns-clause-added c =
    let text = c.args.text.now in
    let spans = c.front_request.new.spans.items in
    let taken = c.in-Some.taken in
    let front : HasFrontRequest text spans taken = subst (λ (o : Option ℕ). IfSome o
    (HasFrontRequest text spans)) c.in-Some.is c.in_ok-taken.ensures in
    let words : c.fill.new.self ≡ words_at text spans = c.in_ok-fill.ensures
    ∙ ap (λ (t : List ℕ). words_at t c.deref.result.now) c.split_at.ensures.front
    ∙ ap (words_at (take taken text)) c.deref.ensures.value
    ∙ words_at-take text spans taken front.fits front.within in (
      front.some,
      front.fits,
      (
        words_at text spans,
        front.request,
        c.in_ok-push_back.ensures.items
            ∙ ap (λ (w : List (List ℕ)). c.self.inside.waiting.items ++ w ∷ []) words
            ∙ ap (λ (q : List (List (List ℕ))). q ++ words_at text spans ∷ []) c.self.view_is,
      ),
    )
