-- An ordered map of vectors as a finite map.
use Rattle.std.proofs.Common.{◌≡◌, ℕ, ◌<◌, ◌^◌, List, [], ◌∷◌, ◌++◌, length, cond, true, false, refl, sym, ◌∙◌, ap, subst, arith, length-append, Some}
use Rattle.std.specs.Option.{option_map}
use Rattle.std.specs.List.{AllByRecursion}
use Rattle.std.specs.List.Sorted.{IsStrictlySortedBy}
use Rattle.std.specs.Ordering.{nat_cmp, is_eq, match_ordering}
use Rattle.std.specs.declared.cmp.Ordering.{Ordering}
use Rattle.std.specs.declared.cmp.Ordering.TheVariants.{Less, Equal, Greater}
use Rattle.std.specs.Cmp.Lexicographic.{slice_cmp, nat_list_cmp_total}
use Rattle.std.specs.declared.vec.Vec.{Vec}
use Rattle.std.specs.BTreeMap.{insert_entry, is_at}
use Rattle.std.specs.Map.{keys_of, lookup}
use Rattle.std.specs.FinMap.{find, put, entries, empty, from_entries, get, insert, get-from_entries, entries-insert, same_entries_map, len-entries, len-empty}
use Rattle.std.specs.FinMap.Entries.{by_order}
use Rattle.image_text.specs.Image.{bytes_cmp, AreKeysRising, FitsImage, HasImage, IsBehind}
use Rattle.server_top.specs.ReplayRun.{pairs_in, stored_pairs, AreStorable}

-- vectors compare as their items do
abbrev pub vec_cmp : {A : Type 0} → Vec ℕ A → Vec ℕ A → Ordering
vec_cmp a b = slice_cmp nat_cmp a.items b.items

-- what the finite map finds is what the ordered map finds
find-stored_pairs : {A : Type 0} (es : List (Vec ℕ A × Vec ℕ A)) (key : List ℕ)
    → find bytes_cmp key (pairs_in es) ≡ option_map (λ v. v.items) (lookup (is_at (λ k. slice_cmp nat_cmp key k.items)) es)
find-stored_pairs [] key = refl
find-stored_pairs (e ∷ es) key =
    elim (is_eq (slice_cmp nat_cmp key e.0.items)) as (λ b. cond b (Some e.1.items) (find bytes_cmp key (pairs_in es))
    ≡ option_map (λ v. v.items) (cond b (Some e.1) (lookup (is_at (λ k. slice_cmp nat_cmp key k.items)) es))) [
      | true ↦ refl
      | false ↦ find-stored_pairs es key
    ]

pub get-stored_pairs : {A : Type 0} (es : List (Vec ℕ A × Vec ℕ A)) (key : List ℕ)
    → get (stored_pairs es) key ≡ option_map (λ v. v.items) (lookup (is_at (λ k. slice_cmp nat_cmp key k.items)) es)
get-stored_pairs es key = get-from_entries nat_list_cmp_total (pairs_in es) key ∙ find-stored_pairs es key

-- pairs that rise are the entries of their map
put_first : (key value : List ℕ) (ps : List (List ℕ × List ℕ)) → AreKeysRising ((key, value) ∷ ps) → put bytes_cmp key value ps ≡ (key, value) ∷ ps
put_first key value [] rising = refl
put_first key value (p ∷ ps) rising =
    ap (λ r. by_order r ((key, value) ∷ p ∷ ps) ((p.0, value) ∷ ps) (p ∷ put bytes_cmp key value ps)) rising.0

rising_behind : (p : List ℕ × List ℕ) (ps : List (List ℕ × List ℕ)) → AreKeysRising (p ∷ ps) → AreKeysRising ps
rising_behind p [] rising = tt
rising_behind p (q ∷ ps) rising = rising.1

none_left : {X : Type 0} (xs : List X) → length xs ≡ 0 → xs ≡ []
none_left [] e = refl
none_left (x ∷ xs) e = absurd (omega arith)

pub entries-empty : entries (empty {X = List ℕ} {R = bytes_cmp}) ≡ []
entries-empty = none_left _ (sym (len-entries (empty {X = List ℕ} {R = bytes_cmp})) ∙ len-empty bytes_cmp (List ℕ))

pub entries-rising : (ps : List (List ℕ × List ℕ)) → AreKeysRising ps → entries (from_entries {R = bytes_cmp} ps) ≡ ps
entries-rising [] rising = entries-empty
entries-rising (p ∷ ps) rising =
    entries-insert nat_list_cmp_total (from_entries {R = bytes_cmp} ps) p.0 p.1
    ∙ ap (put bytes_cmp p.0 p.1) (entries-rising ps (rising_behind p ps rising)) ∙ put_first p.0 p.1 ps rising

-- the keys of an ordered map rise
rising-stored_pairs : {A : Type 0} (es : List (Vec ℕ A × Vec ℕ A)) → IsStrictlySortedBy vec_cmp (keys_of es) → AreKeysRising (pairs_in es)
unfolding IsStrictlySortedBy
rising-stored_pairs [] sorted = tt
rising-stored_pairs (e ∷ []) sorted = tt
rising-stored_pairs (e ∷ f ∷ es) sorted = (sorted.0.0, rising-stored_pairs (f ∷ es) sorted.1)

pub entries-stored_pairs : {A : Type 0} (es : List (Vec ℕ A × Vec ℕ A)) → IsStrictlySortedBy vec_cmp (keys_of es) → entries (stored_pairs es) ≡ pairs_in es
entries-stored_pairs es sorted = entries-rising (pairs_in es) (rising-stored_pairs es sorted)

-- a pair that is put into the ordered map is put into the finite one
put-stored_pairs : {A : Type 0} (es : List (Vec ℕ A × Vec ℕ A)) (key value : Vec ℕ A) → pairs_in (insert_entry vec_cmp es key value) ≡ put bytes_cmp key.items value.items (pairs_in es)
put-stored_pairs [] key value = refl
put-stored_pairs (e ∷ es) key value =
    elim (slice_cmp nat_cmp key.items e.0.items) as (λ r. pairs_in (match_ordering r ((key, value) ∷ e ∷ es) ((e.0, value) ∷ es) (e ∷ insert_entry vec_cmp es key value))
    ≡ by_order r ((key.items, value.items) ∷ (e.0.items, e.1.items) ∷ pairs_in es) ((e.0.items, value.items) ∷ pairs_in es) ((e.0.items, e.1.items) ∷ put bytes_cmp key.items value.items (pairs_in es))) [
      | Less ↦ refl
      | Equal ↦ refl
      | Greater ↦ ap (λ (rest : List (List ℕ × List ℕ)). (e.0.items, e.1.items) ∷ rest) (put-stored_pairs es key value)
    ]

pub insert-stored_pairs : {A : Type 0} (old new : List (Vec ℕ A × Vec ℕ A)) (key value : Vec ℕ A)
    → IsStrictlySortedBy vec_cmp (keys_of old) → IsStrictlySortedBy vec_cmp (keys_of new) → new ≡ insert_entry vec_cmp old key value
    → stored_pairs new ≡ insert (stored_pairs old) key.items value.items
insert-stored_pairs old new key value was is new_is =
    same_entries_map _ _ (entries-stored_pairs new is ∙ ap pairs_in new_is ∙ put-stored_pairs old key value
    ∙ ap (put bytes_cmp key.items value.items) (sym (entries-stored_pairs old was))
    ∙ sym (entries-insert nat_list_cmp_total (stored_pairs old) key.items value.items))

-- pairs of which there is an image, and those of an ordered map that is small enough
pub image-stored_pairs : {A : Type 0} (es : List (Vec ℕ A × Vec ℕ A)) → IsStrictlySortedBy vec_cmp (keys_of es) → AreStorable (2 ^ 28) (stored_pairs es) → HasImage (pairs_in es)
image-stored_pairs es sorted storable = record {
  few = omega (arith, storable.few, len-entries (stored_pairs es), ap length (entries-stored_pairs es sorted));
  rising = rising-stored_pairs es sorted;
  each = subst (AllByRecursion FitsImage) (entries-stored_pairs es sorted) storable.each;
}

-- what may be copied behind a list
pub record ComesNext (list : List (List ℕ × List ℕ)) (pair : List ℕ × List ℕ) : Type 0 where
  pub fewer : length list < 268435456
  pub behind : IsBehind list pair.0
  pub fits : FitsImage pair

behind_rising : (list : List (List ℕ × List ℕ)) (p : List ℕ × List ℕ) (rest : List (List ℕ × List ℕ)) → AreKeysRising (list ++ p ∷ rest) → IsBehind list p.0
behind_rising [] p rest rising = tt
behind_rising (q ∷ []) p rest rising = rising.0
behind_rising (q ∷ r ∷ list) p rest rising = behind_rising (r ∷ list) p rest rising.1

fits_among : (list : List (List ℕ × List ℕ)) (p : List ℕ × List ℕ) (rest : List (List ℕ × List ℕ)) → AllByRecursion FitsImage (list ++ p ∷ rest) → FitsImage p
fits_among [] p rest all = all.0
fits_among (q ∷ list) p rest all = fits_among list p rest all.1

pub comes_next : (list : List (List ℕ × List ℕ)) (p : List ℕ × List ℕ) (rest all : List (List ℕ × List ℕ)) → list ++ p ∷ rest ≡ all → HasImage all → ComesNext list p
comes_next list p rest all is image =
    let whole : HasImage (list ++ p ∷ rest) = subst HasImage (sym is) image in
    record {
      fewer = omega (arith, whole.few, length-append list (p ∷ rest));
      behind = behind_rising list p rest whole.rising;
      fits = fits_among list p rest whole.each;
    }
