-- Finite maps whose keys are numbers.
use Rattle.std.proofs.Common.{◌≡◌, ℕ, Some, cond, eqb, sym, ◌∙◌, ap, arith, inl, inr}
use Rattle.std.specs.Ordering.{nat_cmp}
use Rattle.std.specs.Cmp.{nat_cmp_total}
use Rattle.std.specs.FinMap.{FinMap, get, insert, get-insert, same_map, nat_cmp-IsAntisymmetric}
use Rattle.std.proofs.lemmas.Bool.{cases_eq, cond-true, cond-false, eq-eqb, ne_eqb}
use Rattle.std.proofs.lemmas.Bool.Decides.{nat_tests}

-- what a map has at a key after an insert
pub get_inserted : {X : Type 0} (m : FinMap nat_cmp X) (k : ℕ) (v : X) (q : ℕ) → get (insert m k v) q ≡ cond (eqb q k) (Some v) (get m q)
get_inserted m k v q = get-insert nat_cmp_total m k v q ∙ ap (λ b. cond b (Some v) (get m q)) (grind (arith, nat_tests))

-- at the key that was inserted
pub get_inserted_here : {X : Type 0} (m : FinMap nat_cmp X) (k : ℕ) (v : X) (q : ℕ) → q ≡ k → get (insert m k v) q ≡ Some v
get_inserted_here m k v q here = get_inserted m k v q ∙ cond-true (eqb q k) _ _ (eq-eqb q k here)

-- at another key
pub get_inserted_apart : {X : Type 0} (m : FinMap nat_cmp X) (k : ℕ) (v : X) (q : ℕ) → (q ≡ k → ⊥) → get (insert m k v) q ≡ get m q
get_inserted_apart m k v q apart = get_inserted m k v q ∙ cond-false (eqb q k) _ _ (ne_eqb q k apart)

-- two maps that answer alike are one
pub same_numbered : {X : Type 0} (m n : FinMap nat_cmp X) → ((q : ℕ) → get m q ≡ get n q) → m ≡ n
same_numbered m n alike = same_map nat_cmp_total nat_cmp-IsAntisymmetric m n alike

-- to insert what is there changes nothing
pub insert_same : {X : Type 0} (m : FinMap nat_cmp X) (k : ℕ) (v : X) → get m k ≡ Some v → insert m k v ≡ m
insert_same m k v there = same_numbered _ _ (λ q. elim (cases_eq q k) [
  | inl here ↦ get_inserted_here m k v q here ∙ sym (ap (get m) here ∙ there)
  | inr apart ↦ get_inserted_apart m k v q apart
])

-- of two inserts at one key the later one counts
pub insert-insert : {X : Type 0} (m : FinMap nat_cmp X) (k : ℕ) (u v : X) → insert (insert m k u) k v ≡ insert m k v
insert-insert m k u v = same_numbered _ _ (λ q. elim (cases_eq q k) [
  | inl here ↦ get_inserted_here (insert m k u) k v q here ∙ sym (get_inserted_here m k v q here)
  | inr apart ↦ get_inserted_apart (insert m k u) k v q apart ∙ get_inserted_apart m k u q apart ∙ sym (get_inserted_apart m k v q apart)
])
