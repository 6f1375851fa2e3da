-- How many tables one cell more takes.
use Rattle.std.proofs.Common.{◌≡◌, ℕ, suc, ◌+◌, ◌/◌, ◌^◌, ◌≤◌, Bool, true, false, not, cond, List, [], ◌∷◌, ◌++◌, map, length, Some, None, refl, sym, ◌∙◌, ap, arith, inl, inr, subst, length-append}
use Rattle.std.specs.Prelude.{◌==◌, ◌||◌}
use Rattle.std.specs.List.{list_any}
use Rattle.std.specs.Ordering.{nat_cmp, eq_by_cmp, is_eq}
use Rattle.std.specs.declared.cmp.Ordering.{Ordering}
use Rattle.std.specs.declared.cmp.Ordering.TheVariants.{Less, Equal, Greater}
use Rattle.std.specs.Cmp.{nat_cmp_total}
use Rattle.std.specs.FinMap.{get, insert, entries, keys, put, find, get-entries, entries-insert, empty, len, len-entries, len-empty, nat_cmp-IsAntisymmetric}
use Rattle.std.specs.FinMap.Entries.{by_order}
use Rattle.std.proofs.lemmas.Bool.{cases_Bool, cases_eq, cond-true, cond-false, eq-eqb, ne_eqb, eqb-true, or_cases, or_left, or_right, false≢true}
use Rattle.std.proofs.lemmas.Bool.Decides.{nat_tests}
use Rattle.std.specs.Prelude.{IsSome}
use Rattle.std.proofs.lemmas.List.{length-map}
use Rattle.vm_base.specs.declared.frame_request.Want.{Want}
use Rattle.vm_base.specs.declared.frame_request.Want.TheVariants.{Top, Upper, Middle}
use Rattle.vm_base.specs.Places.{distinct, directory_frames}
use Rattle.table_levels.specs.Cells.{CellMap, tables_of, middle_tables_of}
use Rattle.table_levels.specs.Requests.{shares, unless, missing_tables}

abbrev member : ℕ → List ℕ → Bool
member x ys = list_any (λ y. x == y) ys

-- the parts of the entries' cells, one for each table that spans so many cells
abbrev parts : ℕ → List (ℕ × ℕ) → List ℕ
parts span es = map (λ c. c / span) (map (λ e. e.0) es)

-- 1 unless the test holds
abbrev pub unless_one : Bool → ℕ
unless_one b = cond b 0 1

length-distinct : (x : ℕ) (xs : List ℕ) → length (distinct (x ∷ xs)) ≡ length (distinct xs) + unless_one (member x xs)
length-distinct x xs = elim (cases_Bool (member x xs)) [
  | inl there ↦
      let same : length (distinct (x ∷ xs)) ≡ length (distinct xs) = ap length (cond-true (member x xs) _ _ there) in
      let none : unless_one (member x xs) ≡ 0 = cond-true (member x xs) 0 1 there in
      omega arith
  | inr new ↦
      let more : length (distinct (x ∷ xs)) ≡ suc (length (distinct xs)) = ap length (cond-false (member x xs) _ _ new) in
      let one : unless_one (member x xs) ≡ 1 = cond-false (member x xs) 0 1 new in
      omega arith
]

-- the key is new where it is found nowhere
not_equal : (k : ℕ) (e : ℕ × ℕ) (es : List (ℕ × ℕ)) → find nat_cmp k (e ∷ es) ≡ None → nat_cmp k e.0 ≡ Equal → ⊥
not_equal k e es absent same =
    let found : find nat_cmp k (e ∷ es) ≡ Some e.1 = ap (λ r. cond (is_eq r) (Some e.1) (find nat_cmp k es)) same in
    cc

absent_later : (k : ℕ) (e : ℕ × ℕ) (es : List (ℕ × ℕ)) → find nat_cmp k (e ∷ es) ≡ None → nat_cmp k e.0 ≡ Greater → find nat_cmp k es ≡ None
absent_later k e es absent at = sym (ap (λ r. cond (is_eq r) (Some e.1) (find nat_cmp k es)) at) ∙ absent

put_less : (k v : ℕ) (e : ℕ × ℕ) (es : List (ℕ × ℕ)) → nat_cmp k e.0 ≡ Less → put nat_cmp k v (e ∷ es) ≡ (k, v) ∷ e ∷ es
put_less k v e es at = ap (λ r. by_order r ((k, v) ∷ e ∷ es) ((e.0, v) ∷ es) (e ∷ put nat_cmp k v es)) at

put_greater : (k v : ℕ) (e : ℕ × ℕ) (es : List (ℕ × ℕ)) → nat_cmp k e.0 ≡ Greater → put nat_cmp k v (e ∷ es) ≡ e ∷ put nat_cmp k v es
put_greater k v e es at = ap (λ r. by_order r ((k, v) ∷ e ∷ es) ((e.0, v) ∷ es) (e ∷ put nat_cmp k v es)) at

-- three tests in another order
or_turned : (a b c : Bool) → (a || (b || c)) ≡ (b || (a || c))
or_turned true true c = refl
or_turned true false c = refl
or_turned false true c = refl
or_turned false false c = refl

-- the parts after a new key was put in
member-put : (span x k v : ℕ) (es : List (ℕ × ℕ)) → find nat_cmp k es ≡ None → member x (parts span (put nat_cmp k v es)) ≡ ((x == k / span) || member x (parts span es))
member-put span x k v [] absent = refl
member-put span x k v (e ∷ es) absent =
    elim (nat_cmp k e.0) as (λ r. nat_cmp k e.0 ≡ r → member x (parts span (put nat_cmp k v (e ∷ es))) ≡ ((x == k / span) || member x (parts span (e ∷ es)))) [
      | Less ↦ λ at. ap (λ l. member x (parts span l)) (put_less k v e es at)
      | Equal ↦ λ at. absurd (not_equal k e es absent at)
      | Greater ↦ λ at. ap (λ l. member x (parts span l)) (put_greater k v e es at)
          ∙ ap (λ b. (x == e.0 / span) || b) (member-put span x k v es (absent_later k e es absent at))
          ∙ or_turned (x == e.0 / span) (x == k / span) (member x (parts span es))
    ] refl

-- a part more or less, in either order
unless-turned : (a k : ℕ) (xs : List ℕ) → unless_one (member k xs) + unless_one ((a == k) || member a xs) ≡ unless_one (member a xs) + unless_one ((k == a) || member k xs)
unless-turned a k xs = elim (cases_eq a k) [
  | inl same ↦
      let one : ((a == k) || member a xs) ≡ true = ap (λ b. b || member a xs) (eq-eqb a k same) in
      let other : ((k == a) || member k xs) ≡ true = ap (λ b. b || member k xs) (eq-eqb k a (sym same)) in
      ap (λ b. unless_one (member k xs) + unless_one b) one ∙ ap (λ x. unless_one (member x xs) + 0) (sym same) ∙ sym (ap (λ b. unless_one (member a xs) + unless_one b) other)
  | inr apart ↦
      let one : ((a == k) || member a xs) ≡ member a xs = ap (λ b. b || member a xs) (ne_eqb a k apart) in
      let other : ((k == a) || member k xs) ≡ member k xs = ap (λ b. b || member k xs) (ne_eqb k a (λ same. apart (sym same))) in
      let turned : unless_one (member k xs) + unless_one (member a xs) ≡ unless_one (member a xs) + unless_one (member k xs) = omega arith in
      ap (λ b. unless_one (member k xs) + unless_one b) one ∙ turned ∙ sym (ap (λ b. unless_one (member a xs) + unless_one b) other)
]

-- how many parts there are where the key goes behind an entry
count_later : (span k v : ℕ) (e : ℕ × ℕ) (es : List (ℕ × ℕ)) → nat_cmp k e.0 ≡ Greater → find nat_cmp k es ≡ None
    → length (distinct (parts span (put nat_cmp k v es))) ≡ length (distinct (parts span es)) + unless_one (member (k / span) (parts span es))
    → length (distinct (parts span (put nat_cmp k v (e ∷ es)))) ≡ length (distinct (parts span (e ∷ es))) + unless_one (member (k / span) (parts span (e ∷ es)))
count_later span k v e es at later rest =
    let a = e.0 / span in
    let whole : length (distinct (parts span (put nat_cmp k v (e ∷ es)))) ≡ length (distinct (parts span (put nat_cmp k v es))) + unless_one (member a (parts span (put nat_cmp k v es))) =
    ap (λ l. length (distinct (parts span l))) (put_greater k v e es at) ∙ length-distinct a (parts span (put nat_cmp k v es)) in
    let known : unless_one (member a (parts span (put nat_cmp k v es))) ≡ unless_one ((a == k / span) || member a (parts span es)) = ap unless_one (member-put span a k v es later) in
    let old : length (distinct (parts span (e ∷ es))) ≡ length (distinct (parts span es)) + unless_one (member a (parts span es)) = length-distinct a (parts span es) in
    let turned : unless_one (member (k / span) (parts span es)) + unless_one ((a == k / span) || member a (parts span es))
    ≡ unless_one (member a (parts span es)) + unless_one ((k / span == a) || member (k / span) (parts span es)) = unless-turned a (k / span) (parts span es) in
    omega arith

-- how many parts there are after a new key was put in
count-put : (span k v : ℕ) (es : List (ℕ × ℕ)) → find nat_cmp k es ≡ None
    → length (distinct (parts span (put nat_cmp k v es))) ≡ length (distinct (parts span es)) + unless_one (member (k / span) (parts span es))
count-put span k v [] absent = refl
count-put span k v (e ∷ es) absent =
    elim (nat_cmp k e.0) as (λ r. nat_cmp k e.0 ≡ r
    → length (distinct (parts span (put nat_cmp k v (e ∷ es)))) ≡ length (distinct (parts span (e ∷ es))) + unless_one (member (k / span) (parts span (e ∷ es)))) [
      | Less ↦ λ at. ap (λ l. length (distinct (parts span l))) (put_less k v e es at) ∙ length-distinct (k / span) (parts span (e ∷ es))
      | Equal ↦ λ at. absurd (not_equal k e es absent at)
      | Greater ↦ λ at.
          count_later span k v e es at (absent_later k e es absent at) (count-put span k v es (absent_later k e es absent at))
    ] refl

-- the tables of some cells
frames_of_some : (l : List (ℕ × ℕ)) (f : ℕ × ℕ) (fs : List (ℕ × ℕ)) → l ≡ f ∷ fs
    → directory_frames (map (λ e. e.0) l) ≡ 1 + length (distinct (parts (2 ^ 18) l)) + length (distinct (parts (2 ^ 9) l))
frames_of_some [] f fs same = absurd cc
frames_of_some (g ∷ l) f fs same = refl

put_tables : (k v : ℕ) (es : List (ℕ × ℕ)) → directory_frames (map (λ e. e.0) (put nat_cmp k v es)) ≡ 1 + length (distinct (parts (2 ^ 18) (put nat_cmp k v es))) + length (distinct (parts (2 ^ 9) (put nat_cmp k v es)))
put_tables k v [] = refl
put_tables k v (e ∷ es) =
    elim (nat_cmp k e.0) as (λ r. nat_cmp k e.0 ≡ r
    → directory_frames (map (λ e. e.0) (put nat_cmp k v (e ∷ es))) ≡ 1 + length (distinct (parts (2 ^ 18) (put nat_cmp k v (e ∷ es)))) + length (distinct (parts (2 ^ 9) (put nat_cmp k v (e ∷ es))))) [
      | Less ↦ λ at. frames_of_some (put nat_cmp k v (e ∷ es)) (k, v) (e ∷ es) (put_less k v e es at)
      | Equal ↦ λ at. frames_of_some (put nat_cmp k v (e ∷ es)) (e.0, v) es (ap (λ r. by_order r ((k, v) ∷ e ∷ es) ((e.0, v) ∷ es) (e ∷ put nat_cmp k v es)) at)
      | Greater ↦ λ at. frames_of_some (put nat_cmp k v (e ∷ es)) e (put nat_cmp k v es) (put_greater k v e es at)
    ] refl

length-unless : (there : Bool) (want : Want) → length (unless there want) ≡ unless_one there
length-unless true want = refl
length-unless false want = refl

same_test : (a b : ℕ) → (a == b) ≡ (b == a)
same_test a b = elim (cases_eq a b) [
  | inl same ↦ eq-eqb a b same ∙ sym (eq-eqb b a (sym same))
  | inr apart ↦ ne_eqb a b apart ∙ sym (ne_eqb b a (λ same. apart (sym same)))
]

-- the cells that share a table, by their parts
shares_parts : (span cell : ℕ) (cells : List ℕ) → shares span cells cell ≡ member (cell / span) (map (λ c. c / span) cells)
shares_parts span cell [] = refl
shares_parts span cell (c ∷ cells) =
    ap (λ b. b || shares span cells cell) (same_test (c / span) (cell / span)) ∙ ap (λ b. (cell / span == c / span) || b) (shares_parts span cell cells)

-- beside other cells no top table is missing
pub missing_beside : (c : ℕ) (cs : List ℕ) (cell : ℕ) → missing_tables (c ∷ cs) cell ≡ unless (shares (2 ^ 18) (c ∷ cs) cell) Upper ++ unless (shares (2 ^ 9) (c ∷ cs) cell) Middle
missing_beside c cs cell =
    let some : (length (c ∷ cs) == 0) ≡ false = ne_eqb (length (c ∷ cs)) 0 (λ none. omega arith) in
    ap (λ b. unless (not b) Top ++ unless (shares (2 ^ 18) (c ∷ cs) cell) Upper ++ unless (shares (2 ^ 9) (c ∷ cs) cell) Middle) some

entry_tables : (k v : ℕ) (es : List (ℕ × ℕ)) → find nat_cmp k es ≡ None
    → directory_frames (map (λ e. e.0) (put nat_cmp k v es)) ≡ directory_frames (map (λ e. e.0) es) + length (missing_tables (map (λ e. e.0) es) k)
entry_tables k v [] absent = refl
entry_tables k v (e ∷ es) absent =
    let cells = map (λ e. e.0) (e ∷ es) in
    let upper = shares (2 ^ 18) cells k in
    let middle = shares (2 ^ 9) cells k in
    let both : length (missing_tables cells k) ≡ unless_one upper + unless_one middle =
    ap length (missing_beside e.0 (map (λ e. e.0) es) k) ∙ length-append (unless upper Upper) (unless middle Middle)
    ∙ ap (λ n. n + length (unless middle Middle)) (length-unless upper Upper) ∙ ap (λ n. unless_one upper + n) (length-unless middle Middle) in
    omega (
      arith,
      put_tables k v (e ∷ es),
      count-put (2 ^ 18) k v (e ∷ es) absent,
      count-put (2 ^ 9) k v (e ∷ es) absent,
      ap unless_one (shares_parts (2 ^ 18) k cells),
      ap unless_one (shares_parts (2 ^ 9) k cells),
      both,
    )

-- a new cell takes the tables that are missing
pub tables_of-insert : (m : CellMap) (cell slot : ℕ) → get m cell ≡ None → tables_of (insert m cell slot) ≡ tables_of m + length (missing_tables (keys m) cell)
tables_of-insert m cell slot absent =
    ap (λ es. directory_frames (map (λ e. e.0) es)) (entries-insert nat_cmp_total m cell slot)
    ∙ entry_tables cell slot (entries m) (sym (get-entries m cell) ∙ absent)

-- no cell takes no table
no_entries : (es : List (ℕ × ℕ)) → length es ≡ 0 → es ≡ []
no_entries [] none = refl
no_entries (e ∷ es) none = absurd (omega arith)

abbrev nothing : CellMap
nothing = empty

entries-empty : entries nothing ≡ []
entries-empty = no_entries (entries nothing) (sym (len-entries nothing) ∙ len-empty nat_cmp ℕ)

pub tables_of-empty : tables_of empty ≡ 0
tables_of-empty = ap (λ es. directory_frames (map (λ (e : ℕ × ℕ). e.0) es)) entries-empty

pub middle_tables_of-empty : middle_tables_of empty ≡ 0
middle_tables_of-empty = ap (λ es. length (distinct (parts (2 ^ 9) es))) entries-empty

-- a new cell takes a middle table unless it shares one
pub middle_tables_of-insert : (m : CellMap) (cell slot : ℕ) → get m cell ≡ None → middle_tables_of (insert m cell slot) ≡ middle_tables_of m + unless_one (shares (2 ^ 9) (keys m) cell)
middle_tables_of-insert m cell slot absent =
    ap (λ es. length (distinct (parts (2 ^ 9) es))) (entries-insert nat_cmp_total m cell slot)
    ∙ count-put (2 ^ 9) cell slot (entries m) (sym (get-entries m cell) ∙ absent)
    ∙ ap (λ b. middle_tables_of m + unless_one b) (sym (shares_parts (2 ^ 9) cell (keys m)))

-- there are no more middle tables than cells
few_distinct : (xs : List ℕ) → length (distinct xs) ≤ length xs
few_distinct [] = omega arith
few_distinct (x ∷ xs) = elim (cases_Bool (member x xs)) [
  | inl there ↦ omega (arith, few_distinct xs, ap length (cond-true (member x xs) (distinct xs) (x ∷ distinct xs) there))
  | inr new ↦ omega (arith, few_distinct xs, ap length (cond-false (member x xs) (distinct xs) (x ∷ distinct xs) new))
]

pub middle_tables_of-le : (m : CellMap) → middle_tables_of m ≤ len m
middle_tables_of-le m =
    omega (arith, few_distinct (parts (2 ^ 9) (entries m)), length-map (map (λ (e : ℕ × ℕ). e.0) (entries m)) (λ c. c / 2 ^ 9), length-map (entries m) (λ (e : ℕ × ℕ). e.0), len-entries m)

-- ---- which cells share a table
-- the key that ties is the key
same_key : (c : ℕ) (e : ℕ × ℕ) → nat_cmp c e.0 ≡ Equal → c ≡ e.0
same_key c e ties = nat_cmp-IsAntisymmetric c e.0 ties

any_from : (part span c : ℕ) (es : List (ℕ × ℕ)) → IsSome (find nat_cmp c es) → c / span ≡ part → member part (parts span es) ≡ true
any_from part span c [] there at = absurd (false≢true there)
any_from part span c (e ∷ es) there at =
    elim (nat_cmp c e.0) as (λ r. nat_cmp c e.0 ≡ r → member part (parts span (e ∷ es)) ≡ true) [
      | Less ↦ λ is. or_right (part == e.0 / span) (member part (parts span es)) (any_from part span c es (later Less is refl) at)
      | Equal ↦ λ is. or_left (part == e.0 / span) (member part (parts span es)) (eq-eqb part (e.0 / span) (sym at ∙ ap (λ k. k / span) (same_key c e is)))
      | Greater ↦ λ is. or_right (part == e.0 / span) (member part (parts span es)) (any_from part span c es (later Greater is refl) at)
    ] refl
  where
    later : (r : Ordering) → nat_cmp c e.0 ≡ r → is_eq r ≡ false → IsSome (find nat_cmp c es)
    later r is apart = subst IsSome (ap (λ b. cond b (Some e.1) (find nat_cmp c es)) (ap is_eq is ∙ apart)) there

pub shares_from : (m : CellMap) (span cell c : ℕ) → IsSome (get m c) → c / span ≡ cell / span → shares span (keys m) cell ≡ true
shares_from m span cell c there at = shares_parts span cell (keys m) ∙ any_from (cell / span) span c (entries m) (subst IsSome (get-entries m c) there) at

found_more : (c : ℕ) (e : ℕ × ℕ) (es : List (ℕ × ℕ)) → IsSome (find nat_cmp c es) → IsSome (find nat_cmp c (e ∷ es))
found_more c e es there = elim (cases_Bool (eq_by_cmp nat_cmp c e.0)) [
  | inl same ↦ subst IsSome (sym (cond-true (eq_by_cmp nat_cmp c e.0) (Some e.1) (find nat_cmp c es) same)) refl
  | inr apart ↦ subst IsSome (sym (cond-false (eq_by_cmp nat_cmp c e.0) (Some e.1) (find nat_cmp c es) apart)) there
]

found_first : (e : ℕ × ℕ) (es : List (ℕ × ℕ)) → IsSome (find nat_cmp e.0 (e ∷ es))
found_first e es = subst IsSome (sym (cond-true (eq_by_cmp nat_cmp e.0 e.0) (Some e.1) (find nat_cmp e.0 es) (grind (arith, nat_tests)))) refl

any_to : (part span : ℕ) (es : List (ℕ × ℕ)) → member part (parts span es) ≡ true → (c : ℕ) × IsSome (find nat_cmp c es) × (c / span ≡ part)
any_to part span [] there = absurd (false≢true there)
any_to part span (e ∷ es) there = elim (or_cases (part == e.0 / span) (member part (parts span es)) there) [
  | inl here ↦ (e.0, found_first e es, sym (eqb-true part (e.0 / span) here))
  | inr later ↦ let rest = any_to part span es later in (rest.0, found_more rest.0 e es rest.1, rest.2)
]

pub shares_to : (m : CellMap) (span cell : ℕ) → shares span (keys m) cell ≡ true → (c : ℕ) × IsSome (get m c) × (c / span ≡ cell / span)
shares_to m span cell there =
    let found = any_to (cell / span) span (entries m) (sym (shares_parts span cell (keys m)) ∙ there) in
    (found.0, subst IsSome (sym (get-entries m found.0)) found.1, found.2)
