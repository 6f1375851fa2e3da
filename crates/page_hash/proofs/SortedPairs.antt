-- The pairs of a map in another order, and sorted.
use Rattle.std.proofs.Common.{◌≡◌, ℕ, zero, suc, ◌+◌, ◌<◌, ◌≤◌, ◌⊎◌, Bool, true, false, List, [], ◌∷◌, ◌++◌, length, take, map, get_or, refl, sym, ◌∙◌, ap, ap₂, subst, arith, inl, inr, IsPermutation, Decides}
use Rattle.std.specs.Prelude.{◌&&◌}
use Rattle.std.specs.Str.{bytes_eq}
use Rattle.std.specs.List.{AllByRecursion}
use Rattle.std.specs.List.Sorted.{IsSortedBy}
use Rattle.std.specs.Ordering.{is_lt}
use Rattle.std.specs.declared.cmp.Ordering.{Ordering}
use Rattle.std.specs.declared.cmp.Ordering.TheVariants.{Less, Equal, Greater}
use Rattle.std.specs.Cmp.{IsStrictWeakOrder}
use Rattle.std.specs.Cmp.Lexicographic.{nat_list_cmp_total}
use Rattle.std.specs.FinMap.{is_sorted, entries, entries_sorted}
use Rattle.std.specs.FinMap.Entries.{below_all}
use Rattle.std.proofs.Math.Seq.{take-suc, take-length}
use Rattle.std.proofs.lemmas.Bool.{and_parts, false≢true}
use Rattle.std.proofs.lemmas.List.{take-map, length-map, length-take-le, get_or-map, map-append}
use Rattle.std.proofs.lemmas.List.Elements.{recursion_from_All, All-from_recursion}
use Rattle.std.proofs.lemmas.List.Sorted.{IsPermutation-sym, IsPermutation-map, IsPermutation-trans, length_permutation, ranks_by, sorted_far}
use Rattle.std.proofs.lemmas.Slice.Eq.{bytes_eq-Decides}
use Rattle.store_meaning.specs.HashLayout.{Pairs}
use Rattle.store_meaning.proofs.Lists.{map_all, all_permuted}
use Rattle.store_meaning.proofs.Cancelling.{cancelled}
use Rattle.image_text.specs.Image.{IsBehind, FitsImage}
use Rattle.page_hash.specs.declared.gathering.Pair.{Pair}
use Rattle.page_hash.specs.Chains.{pair_seen}
use Rattle.page_hash.proofs.MapEntries.{key_cmp, true_from}

-- the order of pairs by their keys
abbrev pub before : Pair → Pair → Bool
before one other = is_lt (key_cmp one.key.items other.key.items)

pub before_orders : IsStrictWeakOrder before
before_orders = ranks_by nat_list_cmp_total (λ (pair : Pair). pair.key.items)

-- whether two pairs are the same
abbrev same : List ℕ × List ℕ → List ℕ × List ℕ → Bool
same one other = bytes_eq one.0 other.0 && bytes_eq one.1 other.1

both : (a b : Bool) → a ≡ true → b ≡ true → (a && b) ≡ true
both true true first second = refl
both true false first second = second
both false b first second = first

same-Decides : (one other : List ℕ × List ℕ) → Decides (same one other) (one ≡ other)
same-Decides one other = (
  λ is.
      let parts = and_parts (bytes_eq one.0 other.0) (bytes_eq one.1 other.1) is in
      ap₂ (λ (k v : List ℕ). (k, v)) ((bytes_eq-Decides one.0 other.0).0 parts.0) ((bytes_eq-Decides one.1 other.1).0 parts.1),
  λ is. both (bytes_eq one.0 other.0) (bytes_eq one.1 other.1)
      ((bytes_eq-Decides one.0 other.0).1 (ap (λ p. p.0) is)) ((bytes_eq-Decides one.1 other.1).1 (ap (λ p. p.1) is)),
)

-- the first entry is the least one
least : (first : List ℕ × List ℕ) (es : List (List ℕ × List ℕ)) → below_all key_cmp first.0 es ≡ true
    → AllByRecursion (λ e. (e ≡ first) ⊎ (is_lt (key_cmp first.0 e.0) ≡ true)) es
least first [] below = tt
least first (e ∷ es) below =
    let parts = and_parts (is_lt (key_cmp first.0 e.0)) (below_all key_cmp first.0 es) below in
    (inr parts.0, least first es parts.1)

-- a list that is sorted has its least element in front
front_least : (pair : Pair) (pairs : List Pair) → IsSortedBy before (pair ∷ pairs)
    → AllByRecursion (λ e. is_lt (key_cmp e.0 pair.key.items) ≡ false) (map pair_seen (pair ∷ pairs))
front_least pair pairs sorted =
    map_all (λ e. is_lt (key_cmp e.0 pair.key.items) ≡ false) pair_seen (pair ∷ pairs)
    (recursion_from_All (λ (other : Pair). before other pair ≡ false) (pair ∷ pairs) (λ k d inside.
    sorted_far before before_orders (pair ∷ pairs) sorted 0 k d (omega arith) inside))

tail_sorted : (pair : Pair) (pairs : List Pair) → IsSortedBy before (pair ∷ pairs) → IsSortedBy before pairs
tail_sorted pair pairs sorted = λ k d low inside.
    let next : suc k + 1 ≡ suc (k + 1) = omega arith in
    subst (λ j. before (get_or (pair ∷ pairs) j d) (get_or pairs k d) ≡ false) next
    (sorted (suc k) d (omega arith) (omega (arith, inside)))

-- a sorted list of the entries of a map is that of the map
sorted_same : (pairs : List Pair) (es : List (List ℕ × List ℕ)) → IsPermutation (map pair_seen pairs) es → IsSortedBy before pairs
    → is_sorted key_cmp es ≡ true → map pair_seen pairs ≡ es
sorted_same [] [] moved sorted rising = refl
sorted_same [] (e ∷ es) moved sorted rising = absurd (omega (arith, length_permutation [] (e ∷ es) moved))
sorted_same (pair ∷ pairs) [] moved sorted rising =
    absurd (omega (arith, length_permutation (map pair_seen (pair ∷ pairs)) [] moved))
sorted_same (pair ∷ pairs) (e ∷ es) moved sorted rising =
    let parts = and_parts (below_all key_cmp e.0 es) (is_sorted key_cmp es) rising in
    let few = all_permuted (λ q. is_lt (key_cmp q.0 pair.key.items) ≡ false) (map pair_seen (pair ∷ pairs)) (e ∷ es) moved
    (front_least pair pairs sorted) in
    let some = all_permuted (λ q. (q ≡ e) ⊎ (is_lt (key_cmp e.0 q.0) ≡ true)) (e ∷ es) (map pair_seen (pair ∷ pairs))
    (IsPermutation-sym (map pair_seen (pair ∷ pairs)) (e ∷ es) moved) (inl refl, least e es parts.0) in
    let here : pair_seen pair ≡ e = elim some.0 [
      | inl is ↦ is
      | inr less ↦ absurd (false≢true (sym few.0 ∙ less))
    ] in
    let rest = cancelled same same-Decides e (map pair_seen pairs) es
    (subst (λ q. IsPermutation (q ∷ map pair_seen pairs) (e ∷ es)) here moved) in
    ap₂ (λ q l. q ∷ l) here (sorted_same pairs es rest (tail_sorted pair pairs sorted) parts.1)

-- the pairs that were gathered, sorted
pub sorted_pairs : (old new : List Pair) (of : Pairs) → IsPermutation old new → IsSortedBy before new
    → IsPermutation (map pair_seen old) (entries of) → map pair_seen new ≡ entries of
sorted_pairs old new of moved sorted is =
    sorted_same new (entries of)
    (IsPermutation-trans (map pair_seen new) (map pair_seen old) (entries of)
    (IsPermutation-sym (map pair_seen old) (map pair_seen new) (IsPermutation-map pair_seen old new moved)) is)
    sorted (true_from (is_sorted key_cmp (entries of)) (entries_sorted of))

lesser : (order : Ordering) → is_lt order ≡ true → order ≡ Less
lesser Less is = refl
lesser Equal is = absurd (false≢true is)
lesser Greater is = absurd (false≢true is)

-- each key stands behind those in front of it
behind : (i : ℕ) (es : List (List ℕ × List ℕ)) (d : List ℕ × List ℕ) → is_sorted key_cmp es ≡ true → i < length es
    → IsBehind (take i es) (get_or es i d).0
behind zero es d rising inside = tt
behind (suc i) [] d rising inside = absurd (omega (arith, inside))
behind (suc zero) (e ∷ []) d rising inside = absurd (omega (arith, inside))
behind (suc zero) (e ∷ next ∷ es) d rising inside =
    let parts = and_parts (below_all key_cmp e.0 (next ∷ es)) (is_sorted key_cmp (next ∷ es)) rising in
    lesser (key_cmp e.0 next.0) (and_parts (is_lt (key_cmp e.0 next.0)) (below_all key_cmp e.0 es) parts.0).0
behind (suc (suc i)) (e ∷ []) d rising inside = absurd (omega (arith, inside))
behind (suc (suc i)) (e ∷ next ∷ es) d rising inside =
    behind (suc i) (next ∷ es) d (and_parts (below_all key_cmp e.0 (next ∷ es)) (is_sorted key_cmp (next ∷ es)) rising).1
    (omega (arith, inside))

-- the next one of sorted pairs may be pushed
pub next_behind : (pairs : List Pair) (of : Pairs) (i : ℕ) (d : Pair) → map pair_seen pairs ≡ entries of → i < length pairs
    → IsBehind (map pair_seen (take i pairs)) (get_or pairs i d).key.items
next_behind pairs of i d is inside =
    subst (λ l. IsBehind l (get_or pairs i d).key.items) (take-map pair_seen i pairs)
    (subst (λ e. IsBehind (take i (map pair_seen pairs)) e.0) (get_or-map pair_seen pairs i d (pair_seen d) inside)
    (behind i (map pair_seen pairs) (pair_seen d)
    (subst (λ l. is_sorted key_cmp l ≡ true) (sym is) (true_from (is_sorted key_cmp (entries of)) (entries_sorted of)))
    (omega (arith, inside, length-map pairs pair_seen))))

-- what a push of the next pair needs
pub record MayPush (list : List (List ℕ × List ℕ)) (pair : Pair) : Type 0 where
  pub fewer : length list < 268435456
  pub greater : IsBehind list pair.key.items
  pub fits : FitsImage (pair_seen pair)

pub may_push : (old new : List Pair) (of : Pairs) (list : List (List ℕ × List ℕ)) (i : ℕ) (pair : Pair) → IsPermutation old new
    → IsSortedBy before new → IsPermutation (map pair_seen old) (entries of) → length old ≤ 268435456
    → AllByRecursion FitsImage (map pair_seen old) → i < length new → pair ≡ get_or new i pair → list ≡ map pair_seen (take i new)
    → MayPush list pair
may_push old new of list i pair moved sorted is few fit inside here so_far =
    let all = length_permutation old new moved in
    let taken : length (take i new) ≡ i = length-take-le i new (omega (arith, inside)) in
    let seen = IsPermutation-map pair_seen old new moved in
    let each = All-from_recursion FitsImage (map pair_seen new) (all_permuted FitsImage (map pair_seen old) (map pair_seen new) seen fit) in
    let within : i < length (map pair_seen new) = omega (arith, inside, length-map new pair_seen) in
    let at : get_or (map pair_seen new) i (pair_seen pair) ≡ pair_seen pair =
    get_or-map pair_seen new i pair (pair_seen pair) inside ∙ ap pair_seen (sym here) in
    record {
      fewer = omega (arith, ap length so_far, length-map (take i new) pair_seen, taken, inside, all, few);
      greater = subst (λ l. IsBehind l pair.key.items) (sym so_far)
          (subst (λ (p : Pair). IsBehind (map pair_seen (take i new)) p.key.items) (sym here)
          (next_behind new of i pair (sorted_pairs old new of moved sorted is) inside));
      fits = subst FitsImage at (each i (pair_seen pair) within);
    }

-- the pairs so far and the next one
pub pushed : (pairs : List Pair) (list new : List (List ℕ × List ℕ)) (key value : List ℕ) (i : ℕ) (pair : Pair)
    → new ≡ list ++ (key, value) ∷ [] → list ≡ map pair_seen (take i pairs) → key ≡ pair.key.items → value ≡ pair.value.items
    → pair ≡ get_or pairs i pair → i < length pairs → new ≡ map pair_seen (take (i + 1) pairs)
pushed pairs list new key value i pair added so_far key_is value_is here inside =
    let next : i + 1 ≡ suc i = omega arith in
    added
    ∙ ap₂ (λ l (p : List ℕ × List ℕ). l ++ p ∷ []) so_far
    (ap₂ (λ (k v : List ℕ). (k, v)) key_is value_is ∙ ap pair_seen here)
    ∙ sym (ap (λ n. map pair_seen (take n pairs)) next ∙ ap (map pair_seen) (take-suc pairs i pair inside)
    ∙ map-append pair_seen (take i pairs) (get_or pairs i pair ∷ []))

-- all of them
pub all_pushed : (pairs : List Pair) (list : List (List ℕ × List ℕ)) (i : ℕ) → list ≡ map pair_seen (take i pairs) → i ≡ length pairs
    → list ≡ map pair_seen pairs
all_pushed pairs list i so_far all =
    so_far ∙ ap (λ n. map pair_seen (take n pairs)) all ∙ ap (map pair_seen) (take-length pairs)
