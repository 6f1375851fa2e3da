-- Tables given back, one place after another.
use Rattle.std.proofs.Common.{◌≡◌, ℕ, zero, suc, ◌+◌, ◌<◌, ◌≤◌, List, [], ◌∷◌, ◌++◌, length, take, drop, get_or, replicate, Some, None, refl, sym, ◌∙◌, ap, subst, arith, take-append-drop}
use Rattle.std.proofs.Math.ListN.{set}
use Rattle.std.proofs.lemmas.List.{take_more}
use Rattle.vm_base.specs.Deals.{Deal, LeadsAlong}
use Rattle.vm_base.proofs.DealLemmas.{LeadsAlong-append}
use Rattle.table_levels.specs.Requests.{returned}
use Rattle.table_levels.specs.Walks.{Place, tables_at}
use Rattle.table_levels.proofs.Asking.{returned-append}

abbrev pub free : Place
free = None

-- the places that are free so far, and the others
abbrev pub freed : ℕ → List Place → List Place
freed i places = replicate i free ++ drop i places

pub freed_more : (places : List Place) (i : ℕ) → i < length places → set (freed i places) i free ≡ freed (i + 1) places
freed_more [] i inside = absurd (omega arith)
freed_more (p ∷ places) zero inside = refl
freed_more (p ∷ places) (suc i) inside =
    let next : suc (i + 1) ≡ suc i + 1 = omega arith in
    ap (λ l. free ∷ l) (freed_more places i (omega arith)) ∙ ap (λ n. freed n (p ∷ places)) next

pub get_or-freed : (places : List Place) (i : ℕ) (d : Place) → i < length places → get_or (freed i places) i d ≡ get_or places i d
get_or-freed [] i d inside = absurd (omega arith)
get_or-freed (p ∷ places) zero d inside = refl
get_or-freed (p ∷ places) (suc i) d inside = get_or-freed places i d (omega arith)

pub tables_at-append : (xs ys : List Place) → tables_at (xs ++ ys) ≡ tables_at xs + tables_at ys
tables_at-append [] ys = omega arith
tables_at-append (None ∷ xs) ys = tables_at-append xs ys
tables_at-append (Some table ∷ xs) ys = let rest : tables_at (xs ++ ys) ≡ tables_at xs + tables_at ys = tables_at-append xs ys in omega arith

pub tables_at-take : (places : List Place) (i : ℕ) (d : Place) → i < length places → tables_at (take (i + 1) places) ≡ tables_at (take i places) + tables_at (get_or places i d ∷ [])
tables_at-take places i d inside = ap tables_at (take_more places i d inside) ∙ tables_at-append (take i places) (get_or places i d ∷ [])

pub tables_at-take_le : (places : List Place) (i : ℕ) → tables_at (take i places) ≤ tables_at places
tables_at-take_le places i =
    omega (arith, ap tables_at (take-append-drop i places), tables_at-append (take i places) (drop i places))

-- more frames given back
pub gives_more : {State : Type 0} (goes : State → Deal → State → Type 0) (a b n : ℕ) (old middle new : State) → LeadsAlong goes old (returned a) middle → LeadsAlong goes middle (returned b) new → n ≡ a + b
    → LeadsAlong goes old (returned n) new
gives_more goes a b n old middle new before after sum =
    subst (λ deals. LeadsAlong goes old deals new) (returned-append a b ∙ ap returned (sym sum)) (LeadsAlong-append goes (returned a) (returned b) old middle new before after)

-- ---- no table is behind those that were met
free_list : (places : List Place) → tables_at places ≡ 0 → places ≡ replicate (length places) free
free_list [] none = refl
free_list (None ∷ places) none = ap (λ l. free ∷ l) (free_list places none)
free_list (Some table ∷ places) none = absurd (omega arith)

pub freed_all : (places : List Place) (i : ℕ) → i ≤ length places → tables_at (take i places) ≡ tables_at places
    → freed i places ≡ replicate (length places) free
freed_all [] zero inside met = refl
freed_all [] (suc i) inside met = absurd (omega arith)
freed_all (p ∷ places) zero inside met = free_list (p ∷ places) (sym met)
freed_all (None ∷ places) (suc i) inside met = ap (λ l. free ∷ l) (freed_all places i (omega arith) met)
freed_all (Some table ∷ places) (suc i) inside met =
    let rest : tables_at (take i places) ≡ tables_at places = omega arith in
    ap (λ l. free ∷ l) (freed_all places i (omega arith) rest)
