-- A middle table that is named no more.
use Rattle.std.proofs.Common.{◌≡◌, ◌≢◌, ℕ, ◌/◌, ◌%◌, ◌^◌, ◌<◌, ◌⊎◌, List, [], ◌∷◌, length, Some, None, Option, refl, sym, ◌∙◌, ap, subst, arith, inl, inr}
use Rattle.std.proofs.Math.ListN.{set}
use Rattle.std.specs.Prelude.{IsSome}
use Rattle.std.specs.Option.{option_and_then}
use Rattle.std.proofs.lemmas.Bool.{cases_eq, cases_lt, false≢true}
use Rattle.table_levels.specs.Walks.{Place, entry_in, table_at, tables_at, middle_at, NamesUppers, AreNamed}
use Rattle.table_levels.specs.Links.{SetsIn, IsInUse, DropsMiddle}
use Rattle.table_levels.proofs.Links.{table_at-set_here, table_at-set_other, table_at-beyond, other_table}
use Rattle.table_levels.proofs.Sharing.{and_then_some}

-- an entry of the top table is that of its own place
own_entry : (top : Place) (uppers : List Place) (i : ℕ) (found : Option ℕ) → i < 512 → NamesUppers top uppers → entry_in top i ≡ found → IsSome found → entry_in top i ≡ Some i
own_entry top uppers i None inside names at there = absurd (false≢true there)
own_entry top uppers i (Some u) inside names at there = at ∙ ap Some (names i u inside at).0

-- the upper table of a middle table
pub upper_named : (top : Place) (uppers : List Place) (index : ℕ) → index < 2 ^ 18 → NamesUppers top uppers → IsSome (middle_at top uppers index) → entry_in top (index / 512) ≡ Some (index / 512)
upper_named top uppers index below names there =
    own_entry top uppers (index / 512) (entry_in top (index / 512)) (omega arith) names refl
    (and_then_some (λ u. entry_in (table_at uppers u) (index % 512)) (entry_in top (index / 512)) there)

pub upper_there : (top : Place) (uppers : List Place) (index : ℕ) → index < 2 ^ 18 → NamesUppers top uppers → IsSome (middle_at top uppers index) → IsSome (table_at uppers (index / 512))
upper_there top uppers index below names there =
    (names (index / 512) (index / 512) (omega arith) (upper_named top uppers index below names there)).1

pub top_there : (top : Place) (uppers : List Place) (index : ℕ) → IsSome (middle_at top uppers index) → IsSome top
top_there None uppers index there = absurd (false≢true there)
top_there (Some table) uppers index there = refl

-- the entry of the upper table goes, and with it the table, where no other entry is left
pub middle_dropped : (top new_top : Place) (uppers : List Place) (new_upper : Place) (index : ℕ)
    → index < 2 ^ 18 → length uppers ≡ 512 → NamesUppers top uppers → AreNamed top uppers → IsSome (middle_at top uppers index)
    → SetsIn (table_at uppers (index / 512)) new_upper (index % 512) None → IsInUse new_upper → IsInUse new_top
    → (IsSome new_upper × (entry_in new_top (index / 512) ≡ Some (index / 512))) ⊎ ((new_upper ≡ None) × (entry_in new_top (index / 512) ≡ None))
    → ((j : ℕ) → j < 512 → j ≢ index / 512 → entry_in new_top j ≡ entry_in top j)
    → DropsMiddle top uppers new_top (set uppers (index / 512) new_upper) index
middle_dropped top new_top uppers new_upper index below size names named there upper_set upper_used top_used ends top_others =
    let i = index / 512 in
    let inside : i < 512 = omega arith in
    let uppers_then = set uppers i new_upper in
    let upper_here : table_at uppers_then i ≡ new_upper = table_at-set_here uppers i new_upper (omega arith) in
    let upper_other = λ (j : ℕ) (apart : j ≢ i). table_at-set_other uppers i j new_upper apart in
    let top_was : entry_in top i ≡ Some i = upper_named top uppers index below names there in
    let beside = λ (other : ℕ) (same : other / 512 ≡ i).
    let walk : middle_at new_top uppers_then other ≡ option_and_then (λ u. entry_in (table_at uppers_then u) (other % 512)) (entry_in new_top i) =
    ap (λ j. option_and_then (λ u. entry_in (table_at uppers_then u) (other % 512)) (entry_in new_top j)) same in
    let now : middle_at new_top uppers_then other ≡ entry_in new_upper (other % 512) = elim ends [
      | inl stays ↦ walk ∙ ap (option_and_then (λ u. entry_in (table_at uppers_then u) (other % 512))) stays.1 ∙ ap (λ p. entry_in p (other % 512)) upper_here
      | inr goes ↦ walk ∙ ap (option_and_then (λ u. entry_in (table_at uppers_then u) (other % 512))) goes.1 ∙ sym (ap (λ p. entry_in p (other % 512)) goes.0)
    ] in
    now in
    record {
      here = beside index refl ∙ upper_set.here;
      others = λ other lt apart. elim (cases_eq (other / 512) i) [
        | inl same ↦
            let place_apart : other % 512 ≢ index % 512 = λ same_place. apart (omega arith) in
            beside other same ∙ upper_set.others (other % 512) (omega arith) place_apart
            ∙ sym (ap (λ j. option_and_then (λ u. entry_in (table_at uppers u) (other % 512)) (entry_in top j)) same
            ∙ ap (option_and_then (λ u. entry_in (table_at uppers u) (other % 512))) top_was)
        | inr elsewhere ↦
            ap (option_and_then (λ u. entry_in (table_at uppers_then u) (other % 512))) (top_others (other / 512) (omega arith) elsewhere)
            ∙ other_table top uppers uppers_then i (other / 512) (other % 512) (entry_in top (other / 512)) (omega arith) elsewhere names refl upper_other
      ];
      names = λ j upper lt entry. elim (cases_eq j i) [
        | inl same ↦ elim ends [
          | inl stays ↦
              let found : Some upper ≡ Some i = sym entry ∙ ap (entry_in new_top) same ∙ stays.1 in
              let upper_is : upper ≡ i = cc in
              (upper_is ∙ sym same, subst IsSome (sym (ap (table_at uppers_then) same ∙ upper_here)) stays.0)
          | inr goes ↦
              let found : Some upper ≡ None = sym entry ∙ ap (entry_in new_top) same ∙ goes.1 in
              absurd cc
        ]
        | inr apart ↦
            let known = names j upper lt (sym (top_others j lt apart) ∙ entry) in
            (known.0, subst IsSome (sym (upper_other j apart)) known.1)
      ];
      named = λ j there_then. elim (cases_eq j i) [
        | inl same ↦ elim ends [
          | inl stays ↦ ap (entry_in new_top) same ∙ stays.1 ∙ ap Some (sym same)
          | inr goes ↦ absurd (false≢true (subst IsSome (ap (table_at uppers_then) same ∙ upper_here ∙ goes.0) there_then))
        ]
        | inr apart ↦
            let there_before = subst IsSome (upper_other j apart) there_then in
            elim (cases_lt j 512) [
              | inl lt ↦ top_others j lt apart ∙ named j there_before
              | inr beyond ↦ absurd (false≢true (subst IsSome (table_at-beyond uppers j (omega arith)) there_before))
            ]
      ];
      kept = upper_other;
      upper_used = subst IsInUse (sym upper_here) upper_used;
      top_used = top_used;
    }

-- a place has one table or none
pub counted_there : (p : Place) → tables_at (p ∷ []) ≡ 1 → IsSome p
counted_there None one = absurd (omega arith)
counted_there (Some table) one = refl

pub counted_none : (p : Place) → tables_at (p ∷ []) ≡ 0 → p ≡ None
counted_none None none = refl
counted_none (Some table) none = absurd (omega arith)
