-- One pair more, less or changed in a map, and in a list of its pairs.
use Rattle.std.proofs.Common.{◌≡◌, ℕ, Bool, true, false, List, [], ◌∷◌, Some, None, is_some, refl, sym, ◌∙◌, ap, ap₂, subst, inl, inr, IsPermutation, cond, ◌&&◌, Decides}
use Rattle.std.specs.Str.{bytes_eq}
use Rattle.std.specs.List.{AllByRecursion}
use Rattle.std.specs.Ordering.{eq_by_cmp, is_eq}
use Rattle.std.specs.declared.cmp.Ordering.TheVariants.{Less, Equal, Greater}
use Rattle.std.specs.Cmp.Lexicographic.{nat_list_cmp_total, texts_ties}
use Rattle.std.specs.FinMap.{find, put, is_sorted, entries, entries_sorted, get, get-entries, insert, remove, entries-insert, get-insert, get-remove, same_map, slice_cmp-IsAntisymmetric, nat_cmp-IsAntisymmetric}
use Rattle.std.specs.FinMap.Entries.{by_order}
use Rattle.std.proofs.lemmas.Bool.{cases_Bool, cond-true, cond-false, and_parts, false≢true}
use Rattle.std.proofs.lemmas.List.Sorted.{IsPermutation-refl, IsPermutation-sym, IsPermutation-trans, IsPermutation-cons, IsPermutation-middle}
use Rattle.std.proofs.lemmas.Slice.Eq.{bytes_eq-Decides}
use Rattle.store_meaning.specs.HashLayout.{Pairs}
use Rattle.store_meaning.proofs.Lists.{all_permuted}
use Rattle.store_meaning.proofs.Cancelling.{cancelled}
use Rattle.page_hash.proofs.MapEntries.{key_cmp, same_key, true_from, found_all}

-- keys and values, as a list
abbrev Texts : Type 0
Texts = List (List ℕ × List ℕ)

same_pair : List ℕ × List ℕ → List ℕ × List ℕ → Bool
same_pair one other = bytes_eq one.0 other.0 && bytes_eq one.1 other.1

same_pair-decides : (one other : List ℕ × List ℕ) → Decides (same_pair one other) (one ≡ other)
unfolding same_pair
same_pair-decides one other = (
  λ is. let parts = and_parts (bytes_eq one.0 other.0) (bytes_eq one.1 other.1) is in
      ap₂ (λ k v. (k, v)) ((bytes_eq-Decides one.0 other.0).0 parts.0) ((bytes_eq-Decides one.1 other.1).0 parts.1),
  λ same. subst (λ p. same_pair one p ≡ true) same
      (ap₂ (λ a c. a && c) ((bytes_eq-Decides one.0 one.0).1 refl) ((bytes_eq-Decides one.1 one.1).1 refl)),
)

-- a pair of a new key that is put among others is one more
put_new : (key value : List ℕ) (es : Texts) → find key_cmp key es ≡ None → IsPermutation ((key, value) ∷ es) (put key_cmp key value es)
put_new key value [] none = IsPermutation-refl _
put_new key value (e ∷ es) none = elim (key_cmp key e.0) as (λ o. key_cmp key e.0 ≡ o
    → IsPermutation ((key, value) ∷ e ∷ es) (by_order o ((key, value) ∷ e ∷ es) ((e.0, value) ∷ es) (e ∷ put key_cmp key value es))) [
      | Less ↦ λ is. IsPermutation-refl _
      | Equal ↦ λ is. absurd (false≢true
          (ap is_some (sym none ∙ cond-true (eq_by_cmp key_cmp key e.0) (Some e.1) (find key_cmp key es) (ap is_eq is))))
      | Greater ↦ λ is. IsPermutation-trans _ _ _
          (IsPermutation-sym _ _ (IsPermutation-middle (e ∷ []) (key, value) es))
          (IsPermutation-cons e _ _ (put_new key value es
          (sym (cond-false (eq_by_cmp key_cmp key e.0) (Some e.1) (find key_cmp key es) (ap is_eq is)) ∙ none)))
    ] refl

same_from : (one two : List ℕ) → eq_by_cmp key_cmp one two ≡ true → one ≡ two
same_from one two is = (bytes_eq-Decides one two).0 (texts_ties one two ∙ is)

antisymmetric : (x y : List ℕ) → key_cmp x y ≡ Equal → x ≡ y
antisymmetric = slice_cmp-IsAntisymmetric nat_cmp-IsAntisymmetric

-- a pair of a new key more
pub insert_new : (of : Pairs) (key value : List ℕ) (pairs : Texts) → get of key ≡ None → IsPermutation pairs (entries of)
    → IsPermutation ((key, value) ∷ pairs) (entries (insert of key value))
insert_new of key value pairs none same =
    subst (IsPermutation ((key, value) ∷ pairs)) (sym (entries-insert nat_list_cmp_total of key value))
    (IsPermutation-trans _ _ _ (IsPermutation-cons (key, value) pairs (entries of) same)
    (put_new key value (entries of) (sym (get-entries of key) ∙ none)))

-- the key of a listed pair has its value
pub get_listed : (of : Pairs) (key value : List ℕ) (pairs : Texts) → IsPermutation ((key, value) ∷ pairs) (entries of)
    → get of key ≡ Some value
get_listed of key value pairs same =
    get-entries of key ∙ (all_permuted (λ p. find key_cmp p.0 (entries of) ≡ Some p.1) (entries of) ((key, value) ∷ pairs)
    (IsPermutation-sym _ _ same) (found_all (entries of) (true_from (is_sorted key_cmp (entries of)) (entries_sorted of)))).0

-- where the key is taken out it has none
pub get_removed : (of : Pairs) (key : List ℕ) → get (remove of key) key ≡ None
get_removed of key =
    get-remove nat_list_cmp_total of key key
    ∙ cond-true (eq_by_cmp key_cmp key key) None (get of key) (same_key key key refl)

-- a key that is put back has its value again, whatever it had
pub insert_back : (of : Pairs) (key value : List ℕ) → insert (remove of key) key value ≡ insert of key value
insert_back of key value = same_map nat_list_cmp_total antisymmetric _ _ (λ q.
    get-insert nat_list_cmp_total (remove of key) key value q ∙ by q ∙ sym (get-insert nat_list_cmp_total of key value q))
  where
    by : (q : List ℕ) → cond (eq_by_cmp key_cmp q key) (Some value) (get (remove of key) q)
        ≡ cond (eq_by_cmp key_cmp q key) (Some value) (get of q)
    by q = ap (cond (eq_by_cmp key_cmp q key) (Some value)) (get-remove nat_list_cmp_total of key q) ∙ twice (eq_by_cmp key_cmp q key)
      where
        twice : (b : Bool) → cond b (Some value) (cond b None (get of q)) ≡ cond b (Some value) (get of q)
        twice true = refl
        twice false = refl

-- a key that has its value is put back as it was
pub insert_same : (of : Pairs) (key value : List ℕ) → get of key ≡ Some value → insert of key value ≡ of
insert_same of key value has = same_map nat_list_cmp_total antisymmetric _ _ (λ q.
    get-insert nat_list_cmp_total of key value q ∙ by q)
  where
    by : (q : List ℕ) → cond (eq_by_cmp key_cmp q key) (Some value) (get of q) ≡ get of q
    by q = elim (cases_Bool (eq_by_cmp key_cmp q key)) [
      | inl here ↦ cond-true (eq_by_cmp key_cmp q key) (Some value) (get of q) here
          ∙ sym (ap (get of) (same_from q key here) ∙ has)
      | inr past ↦ cond-false (eq_by_cmp key_cmp q key) (Some value) (get of q) past
    ]

-- a pair less
pub removed_one : (of : Pairs) (key value : List ℕ) (pairs : Texts) → IsPermutation ((key, value) ∷ pairs) (entries of)
    → IsPermutation pairs (entries (remove of key))
removed_one of key value pairs same =
    let back : insert (remove of key) key value ≡ of =
    insert_back of key value ∙ insert_same of key value (get_listed of key value pairs same) in
    cancelled same_pair same_pair-decides (key, value) pairs (entries (remove of key))
    (IsPermutation-trans _ _ _ same
    (subst (λ m. IsPermutation (entries m) ((key, value) ∷ entries (remove of key))) back
    (IsPermutation-sym _ _ (insert_new (remove of key) key value (entries (remove of key)) (get_removed of key) (IsPermutation-refl _)))))

-- another value of a listed key
pub replaced_one : (of : Pairs) (key value other : List ℕ) (pairs : Texts) → IsPermutation ((key, value) ∷ pairs) (entries of)
    → IsPermutation ((key, other) ∷ pairs) (entries (insert of key other))
replaced_one of key value other pairs same =
    subst (λ m. IsPermutation ((key, other) ∷ pairs) (entries m)) (insert_back of key other)
    (insert_new (remove of key) key other pairs (get_removed of key) (removed_one of key value pairs same))

-- where no pair has the key, taking it out changes nothing
pub remove_none : (of : Pairs) (key : List ℕ) → get of key ≡ None → remove of key ≡ of
remove_none of key none = same_map nat_list_cmp_total antisymmetric _ _ (λ q. get-remove nat_list_cmp_total of key q ∙ by q)
  where
    by : (q : List ℕ) → cond (eq_by_cmp key_cmp q key) None (get of q) ≡ get of q
    by q = elim (cases_Bool (eq_by_cmp key_cmp q key)) [
      | inl here ↦ cond-true (eq_by_cmp key_cmp q key) None (get of q) here ∙ sym (ap (get of) (same_from q key here) ∙ none)
      | inr past ↦ cond-false (eq_by_cmp key_cmp q key) None (get of q) past
    ]

-- where a key is not found, no pair has it
missing : (key : List ℕ) (es : Texts) → find key_cmp key es ≡ None → AllByRecursion (λ p. p.0 ≡ key → ⊥) es
missing key [] none = tt
missing key (e ∷ es) none = elim (cases_Bool (eq_by_cmp key_cmp key e.0)) [
  | inl here ↦ absurd (false≢true (ap is_some (sym none ∙ cond-true (eq_by_cmp key_cmp key e.0) (Some e.1) (find key_cmp key es) here)))
  | inr past ↦ (
    λ same. false≢true (sym past ∙ same_key key e.0 (sym same)),
    missing key es (sym (cond-false (eq_by_cmp key_cmp key e.0) (Some e.1) (find key_cmp key es) past) ∙ none),
  )
]

-- beside a listed pair no other has its key
pub other_keys : (of : Pairs) (key value : List ℕ) (pairs : Texts) → IsPermutation ((key, value) ∷ pairs) (entries of)
    → AllByRecursion (λ p. p.0 ≡ key → ⊥) pairs
other_keys of key value pairs same =
    all_permuted (λ p. p.0 ≡ key → ⊥) (entries (remove of key)) pairs
    (IsPermutation-sym _ _ (removed_one of key value pairs same))
    (missing key (entries (remove of key)) (sym (get-entries (remove of key) key) ∙ get_removed of key))
