-- A loop over requests that goes on by one.
use Rattle.std.proofs.Common.{◌≡◌, ℕ, ◌+◌, ◌≤◌, ◌^◌, List, ◌∷◌, ◌++◌, length, Option, sym, ◌∙◌, ap, subst, arith}
use Rattle.std.specs.List.{AllByRecursion}
use Rattle.std.specs.FinMap.{entries, len}
use Rattle.image_text.specs.Image.{FitsImage}
use Rattle.resp_text.specs.Replies.{text_of_reply}
use Rattle.server_top.specs.ReplayPromise.{replay_serves}
use Rattle.server_top.specs.ReplayRun.{BookState, kept_after, kept_behind, replies_from, reply_to, IsServable}
use Rattle.server_top.proofs.Answers.{follows}
use Rattle.server_top.proofs.Written.{Writing, writing_more}

-- requests that a book can serve: each of them can be served, and there is room for a pair of each
pub record CanServe (kept : BookState) (requests : List (List (List ℕ))) : Type 0 where
  pub servable : AllByRecursion IsServable requests
  pub few : len kept.service.pairs + length requests ≤ 2 ^ 28
  pub each : AllByRecursion FitsImage (entries kept.service.pairs)
  pub serves : kept.service.serves ≡ replay_serves

-- behind the first of them it can serve the others
serves_first : (kept : BookState) (words : List (List ℕ)) (rest : List (List (List ℕ))) → CanServe kept (words ∷ rest) → CanServe (kept_after kept words) rest
serves_first kept words rest can =
    let follow = follows kept.service words can.serves can.servable.0.short in
    record {
      servable = can.servable.1;
      few = omega (arith, can.few, follow.few);
      each = follow.each can.each;
      serves = follow.serves ∙ can.serves;
    }

pub serves_on : (kept new : BookState) (words : List (List ℕ)) (waiting rest : List (List (List ℕ))) → waiting ≡ words ∷ rest → new ≡ kept_after kept words → CanServe kept waiting → CanServe new rest
serves_on kept new words waiting rest is new_is can =
    subst (λ k. CanServe k rest) (sym new_is) (serves_first kept words rest (subst (CanServe kept) is can))

-- a reply waits to be written
pub pushed_reply : (old now : Option (List ℕ)) (kept new : BookState) (replies more : List ℕ) (words : List (List ℕ)) (waiting rest : List (List (List ℕ))) (all : List ℕ)
    → waiting ≡ words ∷ rest → new ≡ kept_after kept words → more ≡ replies ++ text_of_reply (reply_to kept words)
    → Writing old now replies (replies_from kept waiting) all → Writing old now more (replies_from new rest) all
pushed_reply old now kept new replies more words waiting rest all is new_is more_is writing =
    let waits : Writing old now (replies ++ text_of_reply (reply_to kept words)) (replies_from (kept_after kept words) rest) all =
    writing_more old now replies (text_of_reply (reply_to kept words)) (replies_from (kept_after kept words) rest) all
    (subst (λ requests. Writing old now replies (replies_from kept requests) all) is writing) in
    subst (λ text. Writing old now text (replies_from new rest) all) (sym more_is)
    (subst (λ k. Writing old now (replies ++ text_of_reply (reply_to kept words)) (replies_from k rest) all) (sym new_is) waits)

-- what is kept behind all requests
pub kept_on : (kept new end : BookState) (words : List (List ℕ)) (waiting rest : List (List (List ℕ))) → waiting ≡ words ∷ rest → new ≡ kept_after kept words → kept_behind kept waiting ≡ end → kept_behind new rest ≡ end
kept_on kept new end words waiting rest is new_is whole =
    ap (λ k. kept_behind k rest) new_is ∙ sym (ap (kept_behind kept) is) ∙ whole
