-- What is told of a child goes on from one call to the next, and ends when it is reaped.
use Rattle.std.proofs.Common.{◌≡◌, ℕ, false, not, List, [], ◌∷◌, filter, refl, sym, ◌∙◌, ap, subst, arith, inl, inr}
use Rattle.std.specs.Prelude.{◌==◌, ◌||◌}
use Rattle.std.specs.List.{list_any}
use Rattle.std.proofs.lemmas.Bool.{cases_Bool, cond-true, cond-false, false≢true}
use Rattle.vm_base.specs.MemoryState.{IsListed}
use Rattle.vm_base.specs.ProcessState.{Children}
use Rattle.vm_base.specs.SnapshotState.{SnapshotState, GoesOn, IsFoundSince}

pub GoesOn-on : (one two three : SnapshotState) → GoesOn one two → GoesOn two three → GoesOn one three
GoesOn-on one two three a b = record {
  mem = b.mem ∙ a.mem;
  found = λ cell at is. b.found cell at (a.found cell at is);
  counted = omega (arith, a.counted, b.counted);
  todo = omega (arith, a.todo, b.todo);
  passed = λ is. b.passed (a.passed is);
  whole = λ is. b.whole (a.whole is);
}

-- a child lives where what stands beside the memory is the same
pub lives_there : {B H : Type 0} (here there : B) (number : ℕ) (its : H) (home : B → H) (children : B → Children) → here ≡ there
    → IsListed number (children here).numbers × (its ≡ home here) → IsListed number (children there).numbers × (its ≡ home there)
lives_there here there number its home children same lives =
    subst (λ b. IsListed number (children b).numbers × (its ≡ home b)) same lives

-- the counts between which cells were lost are told in another way
pub since-same : (born count refused most : ℕ) (snap : SnapshotState) → born ≡ count → refused ≡ most → IsFoundSince born refused snap → IsFoundSince count most snap
since-same born count refused most snap first last since = subst (λ n. IsFoundSince n most snap) first (subst (λ n. IsFoundSince born n snap) last since)

any-removed : (n : ℕ) (numbers : List ℕ) → list_any (λ other. other == n) (filter (λ m. not (m == n)) numbers) ≡ false
any-removed n [] = refl
any-removed n (x ∷ numbers) = elim (cases_Bool (x == n)) [
  | inl same ↦ ap (list_any (λ other. other == n)) (cond-false (not (x == n)) _ _ (ap not same)) ∙ any-removed n numbers
  | inr apart ↦ ap (list_any (λ other. other == n)) (cond-true (not (x == n)) _ _ (ap not apart))
      ∙ ap (λ b. b || list_any (λ other. other == n) (filter (λ m. not (m == n)) numbers)) apart ∙ any-removed n numbers
]

-- a number that was taken out of a list is not in it
pub unlisted-removed : (n : ℕ) (numbers rest : List ℕ) → rest ≡ filter (λ m. not (m == n)) numbers → IsListed n rest → ⊥
unlisted-removed n numbers rest same is =
    false≢true (sym (any-removed n numbers) ∙ subst (IsListed n) same is)
