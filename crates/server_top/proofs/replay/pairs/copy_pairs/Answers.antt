-- Each pair that comes stands behind those that were copied, in pairs that have an image.
use Rattle.std.proofs.Common.{◌≡◌, List, ℕ, [], ◌∷◌, ◌++◌, sym, ◌∙◌, ap, subst, append_assoc}
use Rattle.std.proofs.lemmas.List.{append-nil}
use Rattle.image_text.specs.Image.{IsBehind}
use Rattle.server_top.specs.ReplayRun.{pairs_in}
use Rattle.server_top.proofs.StoredPairs.{ComesNext, comes_next, entries-stored_pairs, image-stored_pairs}
use Rattle.server_top.proofs.replay.pairs.copy_pairs.Goals as goal

pub loop-key-init : goal.loop-key-init
loop-key-init c = record {
  copied = ap (λ (list : List (List ℕ × List ℕ)). list ++ pairs_in c.into_iter-key-iterator.result) c.new-list.ensures
      ∙ ap pairs_in c.into_iter-key-iterator.ensures.into_iter_gives.0;
  image = image-stored_pairs _ c.into_iter-key-iterator.ensures.into_iter_gives.5 c.requires;
}

next : (c : goal.After-deref-in-loop-key) → ComesNext c.loop-key.list (c.in-Some.key.now.items, c.in-Some.value.now.items)
next c = comes_next _ _ _ _
    (ap (λ rest. c.loop-key.list ++ pairs_in rest) (sym c.in-Some.ensures.steps) ∙ c.loop-key.invariant.copied)
    c.loop-key.invariant.image

pub push-requires-clause-fewer : goal.push-requires-clause-fewer
push-requires-clause-fewer c = (next c).fewer

pub push-requires-clause-greater : goal.push-requires-clause-greater
push-requires-clause-greater c = subst (IsBehind c.loop-key.list) (sym c.deref.ensures.value) (next c).behind

pub push-requires-clause-key_fits : goal.push-requires-clause-key_fits
push-requires-clause-key_fits c = rw c.deref.ensures.value (next c).fits.0

pub push-requires-clause-value_fits : goal.push-requires-clause-value_fits
push-requires-clause-value_fits c = rw c.deref-in-loop-key.ensures.value (next c).fits.1

pub loop-key-preserved : goal.loop-key-preserved
loop-key-preserved c =
    let pair : List ℕ × List ℕ = (c.in-Some.key.now.items, c.in-Some.value.now.items) in
    let rest : List (List ℕ × List ℕ) = pairs_in c.next.new.self in
    let added : c.push.new.self ≡ c.loop-key.list ++ pair ∷ [] =
    c.in_ok-push.ensures.added ∙ ap (λ key. c.loop-key.list ++ (key, c.deref-in-loop-key.result.now) ∷ []) c.deref.ensures.value
    ∙ ap (λ value. c.loop-key.list ++ (c.in-Some.key.now.items, value) ∷ []) c.deref-in-loop-key.ensures.value in
    let moved : (c.loop-key.list ++ pair ∷ []) ++ rest ≡ c.loop-key.list ++ pair ∷ rest = append_assoc c.loop-key.list (pair ∷ []) rest in
    let whole : c.loop-key.list ++ pair ∷ rest ≡ pairs_in c.args.pairs.now.entries =
    ap (λ left. c.loop-key.list ++ pairs_in left) (sym c.in-Some.ensures.steps) ∙ c.loop-key.invariant.copied in
    record {
      copied = ap (λ (list : List (List ℕ × List ℕ)). list ++ rest) added ∙ moved ∙ whole;
      image = c.loop-key.invariant.image;
    }

pub returns : goal.returns
returns c =
    sym (append-nil c.loop-key.list) ∙ ap (λ rest. c.loop-key.list ++ pairs_in rest) (sym c.in-None.ensures.steps.0)
    ∙ c.loop-key.invariant.copied ∙ sym (entries-stored_pairs _ c.into_iter-key-iterator.ensures.into_iter_gives.5)
