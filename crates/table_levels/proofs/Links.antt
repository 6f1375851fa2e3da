-- Tables put on the way to a cell.
use Rattle.std.proofs.Common.{◌≡◌, ◌≢◌, ℕ, zero, suc, ◌+◌, ◌/◌, ◌%◌, ◌^◌, ◌<◌, ◌≤◌, not, List, [], ◌∷◌, length, Some, None, Option, refl, sym, ◌∙◌, ap, subst, arith, inl, inr}
use Rattle.std.proofs.Math.ListN.{set, length-set}
use Rattle.std.specs.Prelude.{IsSome, is_some}
use Rattle.std.specs.Option.{option_and_then, option_or}
use Rattle.std.proofs.lemmas.Bool.{cases_eq, cases_lt, false≢true}
use Rattle.table_levels.specs.Tables.{entry_at}
use Rattle.table_levels.specs.Walks.{Place, entry_in, table_at, tables_at, middle_at, NamesUppers, AreNamed}
use Rattle.table_levels.specs.Fresh.{IsFresh}
use Rattle.table_levels.specs.Links.{SetsIn, AddsMiddle}
use Rattle.table_levels.proofs.TableLemmas.{entry_at-zeros}

-- ---- a place of a list
pub table_at-set_here : (places : List Place) (i : ℕ) (new : Place) → i < length places → table_at (set places i new) i ≡ new
table_at-set_here [] i new inside = absurd (omega arith)
table_at-set_here (p ∷ places) zero new inside = refl
table_at-set_here (p ∷ places) (suc i) new inside = table_at-set_here places i new (omega arith)

pub table_at-set_other : (places : List Place) (i j : ℕ) (new : Place) → j ≢ i → table_at (set places i new) j ≡ table_at places j
table_at-set_other [] i j new apart = refl
table_at-set_other (p ∷ places) zero zero new apart = absurd (apart refl)
table_at-set_other (p ∷ places) zero (suc j) new apart = refl
table_at-set_other (p ∷ places) (suc i) zero new apart = refl
table_at-set_other (p ∷ places) (suc i) (suc j) new apart = table_at-set_other places i j new (λ same. apart (ap suc same))

pub table_at-beyond : (places : List Place) (i : ℕ) → length places ≤ i → table_at places i ≡ None
table_at-beyond [] i beyond = refl
table_at-beyond (p ∷ places) zero beyond = absurd (omega arith)
table_at-beyond (p ∷ places) (suc i) beyond = table_at-beyond places i (omega arith)

-- ---- how many tables
pub tables_at-cons : (p : Place) (places : List Place) → tables_at (p ∷ places) ≡ tables_at (p ∷ []) + tables_at places
tables_at-cons None places = omega arith
tables_at-cons (Some table) places = omega arith

pub some_counts : (p : Place) → IsSome p → tables_at (p ∷ []) ≡ 1
some_counts None there = absurd (false≢true there)
some_counts (Some table) there = refl

none_counts : (p : Place) → p ≡ None → tables_at (p ∷ []) ≡ 0
none_counts p none = ap (λ q. tables_at (q ∷ [])) none

pub tables_at-set : (places : List Place) (i : ℕ) (new : Place) → i < length places → tables_at (set places i new) + tables_at (table_at places i ∷ []) ≡ tables_at places + tables_at (new ∷ [])
tables_at-set [] i new inside = absurd (omega arith)
tables_at-set (p ∷ places) zero new inside = omega (arith, tables_at-cons new places, tables_at-cons p places)
tables_at-set (p ∷ places) (suc i) new inside =
    omega (arith, tables_at-set places i new (omega arith), tables_at-cons p places, tables_at-cons p (set places i new))

-- a table set where one was put, which may be fresh
pub put_counted : (places : List Place) (i : ℕ) (fresh put after : Place) → i < length places → put ≡ option_or fresh (table_at places i) → IsSome put → IsSome after
    → (IsSome fresh → table_at places i ≡ None) → tables_at (set (set places i put) i after) ≡ tables_at places + tables_at (fresh ∷ [])
put_counted places i None put after inside made there there_after free =
    let one : tables_at (put ∷ []) ≡ 1 = some_counts put there in
    let old : tables_at (table_at places i ∷ []) ≡ 1 = ap (λ p. tables_at (p ∷ [])) (sym made) ∙ one in
    let now : tables_at (table_at (set places i put) i ∷ []) ≡ 1 = ap (λ p. tables_at (p ∷ [])) (table_at-set_here places i put inside) ∙ one in
    let second = tables_at-set (set places i put) i after (omega (arith, length-set places i put)) in
    omega (arith, tables_at-set places i put inside, second, some_counts after there_after)
put_counted places i (Some table) put after inside made there there_after free =
    let one : tables_at (put ∷ []) ≡ 1 = some_counts put there in
    let old : tables_at (table_at places i ∷ []) ≡ 0 = none_counts (table_at places i) (free refl) in
    let now : tables_at (table_at (set places i put) i ∷ []) ≡ 1 = ap (λ p. tables_at (p ∷ [])) (table_at-set_here places i put inside) ∙ one in
    let second = tables_at-set (set places i put) i after (omega (arith, length-set places i put)) in
    omega (arith, tables_at-set places i put inside, second, some_counts after there_after)

-- ---- fresh tables
-- a fresh table changes no entry of one that was missing
fresh_entry : (old fresh : Place) → IsFresh (not (is_some old)) fresh → (j : ℕ) → entry_in (option_or fresh old) j ≡ entry_in old j
fresh_entry None None fresh j = absurd fresh
fresh_entry None (Some table) fresh j = ap (λ bytes. entry_at bytes j) fresh ∙ entry_at-zeros j
fresh_entry (Some table) None fresh j = refl
fresh_entry (Some table) (Some other) fresh j = absurd fresh

-- the entries of the upper table, which may be fresh
same_table : (top : Place) (uppers : List Place) (i k : ℕ) (fresh : Place) (found : Option ℕ) → i < 512 → NamesUppers top uppers → entry_in top i ≡ found → IsFresh (not (is_some found)) fresh
    → entry_in (option_or fresh (table_at uppers i)) k ≡ option_and_then (λ u. entry_in (table_at uppers u) k) found
same_table top uppers i k None None inside names entry is_fresh = absurd is_fresh
same_table top uppers i k (Some table) None inside names entry is_fresh = ap (λ bytes. entry_at bytes k) is_fresh ∙ entry_at-zeros k
same_table top uppers i k None (Some u) inside names entry is_fresh = ap (λ j. entry_in (table_at uppers j) k) (sym (names i u inside entry).0)
same_table top uppers i k (Some table) (Some u) inside names entry is_fresh = absurd is_fresh

-- the entries of another upper table
pub other_table : (top : Place) (uppers later : List Place) (i j k : ℕ) (found : Option ℕ) → j < 512 → j ≢ i → NamesUppers top uppers → entry_in top j ≡ found
    → ((l : ℕ) → l ≢ i → table_at later l ≡ table_at uppers l)
    → option_and_then (λ u. entry_in (table_at later u) k) found ≡ option_and_then (λ u. entry_in (table_at uppers u) k) found
other_table top uppers later i j k None lt apart names entry kept = refl
other_table top uppers later i j k (Some u) lt apart names entry kept =
    let at : u ≡ j = (names j u lt entry).0 in
    ap (λ p. entry_in p k) (kept u (λ same. apart (sym at ∙ same)))

-- with the upper tables above a middle table named, it is named, and the others stay
pub link_adds : (top put_top new_top : Place) (uppers : List Place) (put_upper new_upper fresh_top fresh_upper : Place) (index middle : ℕ)
    → index < 2 ^ 18 → length uppers ≡ 512 → NamesUppers top uppers → AreNamed top uppers
    → IsFresh (not (is_some top)) fresh_top → IsFresh (not (is_some (entry_in top (index / 512)))) fresh_upper
    → put_top ≡ option_or fresh_top top → SetsIn put_top new_top (index / 512) (Some (index / 512))
    → put_upper ≡ option_or fresh_upper (table_at uppers (index / 512)) → IsSome new_upper → SetsIn put_upper new_upper (index % 512) (Some middle)
    → AddsMiddle top uppers new_top (set (set uppers (index / 512) put_upper) (index / 512) new_upper) index middle
link_adds top put_top new_top uppers put_upper new_upper fresh_top fresh_upper index middle below size names named top_fresh upper_fresh top_put top_set upper_put there upper_set =
    let i = index / 512 in
    let inside : i < 512 = omega arith in
    let uppers_then = set (set uppers i put_upper) i new_upper in
    let upper_here : table_at uppers_then i ≡ new_upper = table_at-set_here (set uppers i put_upper) i new_upper (omega (arith, length-set uppers i put_upper)) in
    let upper_other = λ (j : ℕ) (apart : j ≢ i). table_at-set_other (set uppers i put_upper) i j new_upper apart ∙ table_at-set_other uppers i j put_upper apart in
    let top_other = λ (j : ℕ) (lt : j < 512) (apart : j ≢ i). top_set.others j lt apart ∙ ap (λ p. entry_in p j) top_put ∙ fresh_entry top fresh_top top_fresh j in
    record {
      here = ap (option_and_then (λ u. entry_in (table_at uppers_then u) (index % 512))) top_set.here ∙ ap (λ p. entry_in p (index % 512)) upper_here ∙ upper_set.here;
      others = λ other lt apart. elim (cases_eq (other / 512) i) [
        | inl same ↦
            let place_apart : other % 512 ≢ index % 512 = λ same_place. apart (omega arith) in
            let now : middle_at new_top uppers_then other ≡ entry_in put_upper (other % 512) =
            ap (λ j. option_and_then (λ u. entry_in (table_at uppers_then u) (other % 512)) (entry_in new_top j)) same
            ∙ ap (option_and_then (λ u. entry_in (table_at uppers_then u) (other % 512))) top_set.here
            ∙ ap (λ p. entry_in p (other % 512)) upper_here ∙ upper_set.others (other % 512) (omega arith) place_apart in
            now ∙ ap (λ p. entry_in p (other % 512)) upper_put
            ∙ same_table top uppers i (other % 512) fresh_upper (entry_in top i) inside names refl upper_fresh
            ∙ sym (ap (λ j. option_and_then (λ u. entry_in (table_at uppers u) (other % 512)) (entry_in top j)) same)
        | inr elsewhere ↦
            ap (option_and_then (λ u. entry_in (table_at uppers_then u) (other % 512))) (top_other (other / 512) (omega arith) elsewhere)
            ∙ other_table top uppers uppers_then i (other / 512) (other % 512) (entry_in top (other / 512)) (omega arith) elsewhere names refl upper_other
      ];
      names = λ j upper lt entry. elim (cases_eq j i) [
        | inl same ↦
            let found : Some upper ≡ Some i = sym entry ∙ ap (entry_in new_top) same ∙ top_set.here in
            let upper_is : upper ≡ i = cc in
            (upper_is ∙ sym same, subst IsSome (sym (ap (table_at uppers_then) same ∙ upper_here)) there)
        | inr apart ↦
            let known = names j upper lt (sym (top_other j lt apart) ∙ entry) in
            (known.0, subst IsSome (sym (upper_other j apart)) known.1)
      ];
      named = λ j there_then. elim (cases_eq j i) [
        | inl same ↦ ap (entry_in new_top) same ∙ top_set.here ∙ ap Some (sym same)
        | inr apart ↦
            let there_before = subst IsSome (upper_other j apart) there_then in
            elim (cases_lt j 512) [
              | inl lt ↦ top_other j lt apart ∙ named j there_before
              | inr beyond ↦ absurd (false≢true (subst IsSome (table_at-beyond uppers j (omega arith)) there_before))
            ]
      ];
      kept = upper_other;
    }

-- an upper table is there once it is put
pub fresh_there : (top : Place) (uppers : List Place) (i : ℕ) (fresh : Place) (found : Option ℕ) → i < 512 → NamesUppers top uppers → entry_in top i ≡ found → IsFresh (not (is_some found)) fresh
    → IsSome (option_or fresh (table_at uppers i))
fresh_there top uppers i None None inside names entry is_fresh = absurd is_fresh
fresh_there top uppers i (Some table) None inside names entry is_fresh = refl
fresh_there top uppers i None (Some u) inside names entry is_fresh = (names i u inside entry).1
fresh_there top uppers i (Some table) (Some u) inside names entry is_fresh = absurd is_fresh

-- the place of a fresh upper table was free
pub fresh_free : (top : Place) (uppers : List Place) (i : ℕ) (fresh : Place) → AreNamed top uppers → IsFresh (not (is_some (entry_in top i))) fresh → IsSome fresh → table_at uppers i ≡ None
fresh_free top uppers i None named is_fresh there = absurd (false≢true there)
fresh_free top uppers i (Some table) named is_fresh there = elim (table_at uppers i) as (λ found. table_at uppers i ≡ found → found ≡ None) [
  | None ↦ λ at. refl
  | Some old ↦ λ at.
      let entry : entry_in top i ≡ Some i = named i (subst IsSome (sym at) refl) in
      absurd (subst (λ e. IsFresh (not (is_some e)) (Some table)) entry is_fresh)
] refl

-- the top table besides
pub top_counted : (top new_top fresh_top fresh_upper : Place) (uppers later : List Place) → IsSome new_top → IsFresh (not (is_some top)) fresh_top
    → tables_at later ≡ tables_at uppers + tables_at (fresh_upper ∷ []) → tables_at (new_top ∷ later) ≡ tables_at (top ∷ uppers) + tables_at (fresh_top ∷ fresh_upper ∷ [])
top_counted None new_top None fresh_upper uppers later there is_fresh counted = absurd is_fresh
top_counted None new_top (Some table) fresh_upper uppers later there is_fresh counted =
    omega (arith, tables_at-cons new_top later, some_counts new_top there, counted, tables_at-cons (Some table) (fresh_upper ∷ []))
top_counted (Some old) new_top None fresh_upper uppers later there is_fresh counted =
    omega (arith, tables_at-cons new_top later, some_counts new_top there, counted)
top_counted (Some old) new_top (Some table) fresh_upper uppers later there is_fresh counted = absurd is_fresh

-- where every place has a table, there are as many as places
pub all_full : (places : List Place) → ((k : ℕ) → k < length places → IsSome (table_at places k)) → length places ≤ tables_at places
all_full [] full = omega arith
all_full (None ∷ places) full = absurd (false≢true (full 0 (omega arith)))
all_full (Some table ∷ places) full = let rest : length places ≤ tables_at places = all_full places (λ k lt. full (suc k) (omega arith)) in omega arith
