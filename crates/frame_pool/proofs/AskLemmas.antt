-- Policies of a list that were asked in turn.
use Rattle.std.proofs.Common.{◌≡◌, ℕ, suc, ◌+◌, ◌-◌, ◌<◌, ◌≤◌, Bool, true, false, IsTrue, not, List, [], ◌∷◌, ◌++◌, length, take, drop, map, if◌then◌else◌, refl, sym, ◌∙◌, ap, subst, arith}
use Rattle.std.proofs.Math.Seq.{take-append_seam, drop-append_seam}
use Rattle.std.proofs.lemmas.List.{append-nil, append_assoc, map-append, length-append, length-map}
use Rattle.frame_pool.specs.declared.ask.Ask.{Ask}
use Rattle.frame_pool.specs.Policies.{PolicyView, Grants, AllGrant, DeniesAt, kept}
use Rattle.frame_pool.specs.Turns.{TakesTurn, HaveGranted}

-- what stays of one policy stands in front of those behind it
if_front : {X : Type 0} (done : Bool) (x : X) (xs ys : List X) → (if done then xs else x ∷ xs) ++ ys ≡ (if done then xs ++ ys else x ∷ (xs ++ ys))
if_front true x xs ys = refl
if_front false x xs ys = refl

pub kept-append : (policy : PolicyView) (behind more : List PolicyView) → kept policy behind ++ more ≡ kept policy (behind ++ more)
kept-append policy behind more = if_front policy.done policy behind more

-- one policy more was asked and granted
pub AllGrant-push : (ask : Ask) (old new : List PolicyView) (policy after : PolicyView)
    → AllGrant ask old new → Grants ask policy after → AllGrant ask (old ++ policy ∷ []) (new ++ kept after [])
AllGrant-push ask [] new policy after all granted = (after, ([], (granted, refl, ap (λ front. front ++ kept after []) all)))
AllGrant-push ask (first ∷ old) new policy after all granted =
    let rest = all.1.0 in (
      all.0,
      (
        rest ++ kept after [],
        (
          all.1.1.0,
          AllGrant-push ask old rest policy after all.1.1.1 granted,
          ap (λ front. front ++ kept after []) all.1.1.2 ∙ kept-append all.0 rest (kept after []),
        ),
      ),
    )

-- where a list is cut, from its two parts
front_of : {X : Type 0} (xs front back : List X) (n : ℕ) → xs ≡ front ++ back → length front ≡ n → take n xs ≡ front
front_of xs front back n is here =
    ap (take n) is ∙ ap (λ k. take k (front ++ back)) (sym here) ∙ take-append_seam front back

back_of : {X : Type 0} (xs front back : List X) (n : ℕ) → xs ≡ front ++ back → length front ≡ n → drop n xs ≡ back
back_of xs front back n is here =
    ap (drop n) is ∙ ap (λ k. drop k (front ++ back)) (sym here) ∙ drop-append_seam front back

-- the policies that stay so far are those before the one that has its turn
same_front : {P : Type 0} (told : P → PolicyView) (ask : Ask) (answer : Bool) (place at next : ℕ) (old now new : List P)
    (so_far : HaveGranted told ask place at old now) (turn : TakesTurn told ask at answer next now new) → turn.before ≡ so_far.stays
same_front told ask answer place at next old now new so_far turn =
    sym (front_of now turn.before (turn.policy ∷ turn.behind) at turn.was turn.here) ∙ front_of now so_far.stays so_far.rest at so_far.is so_far.there

-- and the rest begins with that one
same_rest : {P : Type 0} (told : P → PolicyView) (ask : Ask) (answer : Bool) (place at next : ℕ) (old now new : List P)
    (so_far : HaveGranted told ask place at old now) (turn : TakesTurn told ask at answer next now new) → so_far.rest ≡ turn.policy ∷ turn.behind
same_rest told ask answer place at next old now new so_far turn =
    sym (back_of now so_far.stays so_far.rest at so_far.is so_far.there) ∙ back_of now turn.before (turn.policy ∷ turn.behind) at turn.was turn.here

-- what stays of the policies then
stays_then : {P : Type 0} (told : P → PolicyView) (ask : Ask) (answer : Bool) (place at next : ℕ) (old now new : List P)
    (so_far : HaveGranted told ask place at old now) (turn : TakesTurn told ask at answer next now new) → new ≡ so_far.stays ++ (turn.stays ++ turn.behind)
stays_then told ask answer place at next old now new so_far turn =
    turn.is ∙ ap (λ front. front ++ (turn.stays ++ turn.behind)) (same_front told ask answer place at next old now new so_far turn)

-- no policy was asked yet
pub HaveGranted-none : {P : Type 0} (told : P → PolicyView) (ask : Ask) (old : List P) → HaveGranted told ask 0 0 old old
HaveGranted-none told ask old = record {
  asked = [];
  stays = [];
  rest = old;
  was = refl;
  is = refl;
  here = refl;
  there = refl;
  granted = refl;
}

-- one more was asked and granted
pub HaveGranted-one : {P : Type 0} (told : P → PolicyView) (ask : Ask) (answer : Bool) (place at next : ℕ) (old now new : List P)
    → HaveGranted told ask place at old now → TakesTurn told ask at answer next now new → IsTrue answer → HaveGranted told ask (place + 1) next old new
HaveGranted-one told ask answer place at next old now new so_far turn granted =
    let all = AllGrant-push ask (map told so_far.asked) (map told so_far.stays) (told turn.policy) (told turn.after) so_far.granted (turn.granted granted) in
    let asked = sym (map-append told so_far.asked (turn.policy ∷ [])) in
    let stays : map told so_far.stays ++ kept (told turn.after) [] ≡ map told (so_far.stays ++ turn.stays) =
    ap (λ back. map told so_far.stays ++ back) (sym turn.kept_or_gone) ∙ sym (map-append told so_far.stays turn.stays) in
    record {
      asked = so_far.asked ++ turn.policy ∷ [];
      stays = so_far.stays ++ turn.stays;
      rest = turn.behind;
      was =
          so_far.was ∙ ap (λ rest. so_far.asked ++ rest) (same_rest told ask answer place at next old now new so_far turn)
          ∙ sym (append_assoc so_far.asked (turn.policy ∷ []) turn.behind);
      is =
          stays_then told ask answer place at next old now new so_far turn ∙ sym (append_assoc so_far.stays turn.stays turn.behind);
      here = length-append so_far.asked (turn.policy ∷ []) ∙ ap (λ n. n + 1) so_far.here;
      there = length-append so_far.stays turn.stays ∙ ap (λ n. n + length turn.stays) so_far.there ∙ sym turn.there;
      granted =
          subst (λ new. AllGrant ask (map told (so_far.asked ++ turn.policy ∷ [])) new) stays
          (subst (λ old. AllGrant ask old (map told so_far.stays ++ kept (told turn.after) [])) asked all);
    }

-- one more was asked and denied
pub DeniesAt-one : {P : Type 0} (told : P → PolicyView) (ask : Ask) (answer : Bool) (place at next : ℕ) (old now new : List P)
    → HaveGranted told ask place at old now → TakesTurn told ask at answer next now new → answer ≡ false → DeniesAt ask place (map told old) (map told new)
DeniesAt-one told ask answer place at next old now new so_far turn denied = record {
  before = map told so_far.asked;
  policy = told turn.policy;
  behind = map told turn.behind;
  was =
      ap (map told) (so_far.was ∙ ap (λ rest. so_far.asked ++ rest) (same_rest told ask answer place at next old now new so_far turn))
      ∙ map-append told so_far.asked (turn.policy ∷ turn.behind);
  here = length-map so_far.asked told ∙ so_far.here;
  granted = map told so_far.stays;
  asked = so_far.granted;
  after = told turn.after;
  denied = turn.denied denied;
  is =
      ap (map told) (stays_then told ask answer place at next old now new so_far turn)
      ∙ map-append told so_far.stays (turn.stays ++ turn.behind)
      ∙ ap (λ back. map told so_far.stays ++ back) (map-append told turn.stays turn.behind
      ∙ ap (λ front. front ++ map told turn.behind) turn.kept_or_gone ∙ kept-append (told turn.after) [] (map told turn.behind));
}

-- a list whose rest is beyond its end has none
no_rest : {X : Type 0} (rest : List X) (n size : ℕ) → size ≡ n + length rest → size ≤ n → rest ≡ []
no_rest [] n size is beyond = refl
no_rest (x ∷ rest) n size is beyond =
    let one_more : n + suc (length rest) ≡ size = sym is in
    absurd (omega arith)

-- all were asked and granted
pub AllGrant-all : {P : Type 0} (told : P → PolicyView) (ask : Ask) (place at : ℕ) (old now : List P)
    → HaveGranted told ask place at old now → length now ≤ at → AllGrant ask (map told old) (map told now)
AllGrant-all told ask place at old now so_far beyond =
    let size = ap length so_far.is ∙ length-append so_far.stays so_far.rest ∙ ap (λ n. n + length so_far.rest) so_far.there in
    let none = no_rest so_far.rest at (length now) size beyond in
    let asked : so_far.asked ≡ old = sym (so_far.was ∙ ap (λ rest. so_far.asked ++ rest) none ∙ append-nil so_far.asked) in
    let stays : so_far.stays ≡ now = sym (so_far.is ∙ ap (λ rest. so_far.stays ++ rest) none ∙ append-nil so_far.stays) in
    subst (λ new. AllGrant ask (map told old) (map told new)) stays (subst (λ asked. AllGrant ask (map told asked) (map told so_far.stays)) asked so_far.granted)

-- there are no more places than policies
pub place_below : {P : Type 0} (told : P → PolicyView) (ask : Ask) (place at : ℕ) (old now : List P)
    → HaveGranted told ask place at old now → at < length now → place < length old
place_below told ask place at old now so_far inside =
    let size = ap length so_far.is ∙ length-append so_far.stays so_far.rest ∙ ap (λ n. n + length so_far.rest) so_far.there in
    let whole = ap length so_far.was ∙ length-append so_far.asked so_far.rest ∙ ap (λ n. n + length so_far.rest) so_far.here in
    omega arith

-- each turn leaves fewer policies to be asked
pub fewer_left : {P : Type 0} (told : P → PolicyView) (ask : Ask) (at : ℕ) (answer : Bool) (next : ℕ) (old new : List P)
    → TakesTurn told ask at answer next old new → at < length old → length new - next < length old - at
fewer_left told ask at answer next old new turn inside =
    let was = ap length turn.was ∙ length-append turn.before (turn.policy ∷ turn.behind) ∙ ap (λ n. n + length (turn.policy ∷ turn.behind)) turn.here in
    let is = ap length turn.is ∙ length-append turn.before (turn.stays ++ turn.behind) ∙ ap (λ n. n + length (turn.stays ++ turn.behind)) turn.here in
    let there = turn.there in
    let parts = length-append turn.stays turn.behind in
    omega arith

-- an answer that is not refused, or not granted
pub is_granted : (answer : Bool) → not answer ≡ false → IsTrue answer
is_granted true granted = refl
is_granted false granted = sym granted

pub is_refused : (answer : Bool) → not answer ≡ true → answer ≡ false
is_refused true refused = sym refused
is_refused false refused = refl
