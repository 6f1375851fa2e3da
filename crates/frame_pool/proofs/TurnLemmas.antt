-- What one policy of a list answers, and a list of which some were asked.
use Rattle.std.proofs.Common.{◌≡◌, ℕ, ◌+◌, ◌<◌, Bool, true, false, IsTrue, List, [], ◌∷◌, ◌++◌, length, take, drop, slice_index_or, slice_set, refl, sym, ◌∙◌, ap, arith}
use Rattle.std.proofs.lemmas.Bool.{cond-true, cond-false}
use Rattle.std.proofs.lemmas.List.{take-set, drop-set-lt}
use Rattle.frame_pool.specs.declared.ask.Ask.{Ask}
use Rattle.frame_pool.specs.Policies.{PolicyView, Grants, Denies}
use Rattle.frame_pool.specs.Turns.{TakesTurn}
use Rattle.frame_pool.proofs.ListLemmas.{around_item, set_around, length-front}

-- a policy that is not done stays
pub turn-stays : {P : Type 0} (told : P → PolicyView) (ask : Ask) (at : ℕ) (answer : Bool) (old : List P) (policy after : P)
    → at < length old → policy ≡ slice_index_or old at policy → (told after).done ≡ false
    → (IsTrue answer → Grants ask (told policy) (told after)) → (answer ≡ false → Denies ask (told policy) (told after))
    → TakesTurn told ask at answer (at + 1) old (slice_set old at after)
turn-stays told ask at answer old policy after inside here undone granted denied = record {
  before = take at old;
  policy = policy;
  behind = drop (at + 1) old;
  was = around_item old at policy inside here;
  here = length-front old at inside;
  after = after;
  granted = granted;
  denied = denied;
  stays = after ∷ [];
  is = set_around old at after inside;
  kept_or_gone = sym (cond-false (told after).done _ _ undone);
  there = refl;
}

-- a policy that is done leaves the list
pub turn-leaves : {P : Type 0} (told : P → PolicyView) (ask : Ask) (at : ℕ) (answer : Bool) (old new : List P) (policy after : P)
    → at < length old → policy ≡ slice_index_or old at policy → (told after).done ≡ true
    → (IsTrue answer → Grants ask (told policy) (told after)) → (answer ≡ false → Denies ask (told policy) (told after))
    → new ≡ take at (slice_set old at after) ++ drop (at + 1) (slice_set old at after)
    → TakesTurn told ask at answer at old new
turn-leaves told ask at answer old new policy after inside here done granted denied is = record {
  before = take at old;
  policy = policy;
  behind = drop (at + 1) old;
  was = around_item old at policy inside here;
  here = length-front old at inside;
  after = after;
  granted = granted;
  denied = denied;
  stays = [];
  is =
      let above : at < at + 1 = omega arith in
      is ∙ ap (λ front. front ++ drop (at + 1) (slice_set old at after)) (take-set old at after)
      ∙ ap (λ back. take at old ++ back) (drop-set-lt (at + 1) old at after above);
  kept_or_gone = sym (cond-true (told after).done _ _ done);
  there = omega arith;
}
