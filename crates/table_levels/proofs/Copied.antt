-- Tables copied one after another.
use Rattle.std.proofs.Common.{◌≡◌, ℕ, zero, suc, ◌+◌, ◌-◌, ◌<◌, ◌≤◌, List, [], ◌∷◌, ◌++◌, length, take, get_or, replicate, Some, None, refl, sym, ◌∙◌, ap, subst, arith, append_assoc, take_all, inl, inr}
use Rattle.std.proofs.Math.ListN.{set, length-set}
use Rattle.std.proofs.lemmas.Bool.{cases_eq, cases_lt}
use Rattle.std.proofs.lemmas.List.{map-append, length-replicate}
use Rattle.vm_base.specs.declared.frame_request.Want.{Want}
use Rattle.vm_base.specs.Deals.{Deal, Granted, LeadsAlong}
use Rattle.vm_base.proofs.DealLemmas.{LeadsAlong-append}
use Rattle.table_levels.specs.Requests.{granted, returned, RefusesOne}
use Rattle.table_levels.specs.Walks.{Place, table_at, tables_at}
use Rattle.table_levels.specs.Copies.{Copies, table_bytes_in}
use Rattle.table_levels.proofs.Asking.{refuses_after}
use Rattle.table_levels.proofs.Giving.{tables_at-take, tables_at-take_le}
use Rattle.table_levels.proofs.Links.{table_at-set_here, table_at-set_other, table_at-beyond, tables_at-set}
use Rattle.table_levels.proofs.Walking.{table_at-get}

pub replicate-append : (want : Want) (a b : ℕ) → replicate a want ++ replicate b want ≡ replicate (a + b) want
replicate-append want zero b = let same : b ≡ zero + b = omega arith in ap (λ n. replicate n want) same
replicate-append want (suc a) b =
    let more : suc (a + b) ≡ suc a + b = omega arith in
    ap (λ l. want ∷ l) (replicate-append want a b) ∙ ap (λ n. replicate n want) more

-- wants granted behind others
pub grants_more : {State : Type 0} (goes : State → Deal → State → Type 0) (first second : List Want) (old middle new : State) → LeadsAlong goes old (granted first) middle → LeadsAlong goes middle (granted second) new
    → LeadsAlong goes old (granted (first ++ second)) new
grants_more goes first second old middle new before after =
    subst (λ deals. LeadsAlong goes old deals new) (sym (map-append Granted first second)) (LeadsAlong-append goes (granted first) (granted second) old middle new before after)

-- behind the want that was refused others may stand
pub refuses_before : {State : Type 0} (goes : State → Deal → State → Type 0) (wants more : List Want) (at : ℕ) (old new : State) → RefusesOne goes old wants at new → RefusesOne goes old (wants ++ more) at new
refuses_before goes wants more at old new refused = record {
  front = refused.front;
  want = refused.want;
  rest = refused.rest ++ more;
  order = ap (λ l. l ++ more) refused.order ∙ append_assoc refused.front (refused.want ∷ refused.rest) more;
  deals = refused.deals;
}

-- ---- one table more
pub same_counted : (p q : Place) → table_bytes_in p ≡ table_bytes_in q → tables_at (p ∷ []) ≡ tables_at (q ∷ [])
same_counted None None same = refl
same_counted None (Some b) same = absurd cc
same_counted (Some a) None same = absurd cc
same_counted (Some a) (Some b) same = refl

-- the first tables are copied, and the other places free
pub record CopiesFirst (places tables : List Place) (n : ℕ) : Type 0 where
  pub size : length places ≡ length tables
  pub copied : (k : ℕ) → k < n → table_bytes_in (table_at places k) ≡ table_bytes_in (table_at tables k)
  pub free : (k : ℕ) → n ≤ k → table_at places k ≡ None
  pub counted : tables_at places ≡ tables_at (take n tables)

pub copies_more : (places tables : List Place) (i : ℕ) (copy d : Place) → i < length tables
    → CopiesFirst places tables i → table_bytes_in copy ≡ table_bytes_in (get_or tables i d)
    → CopiesFirst (set places i copy) tables (i + 1)
copies_more places tables i copy d inside first same =
    let there : i < length places = omega (arith, first.size) in
    record {
      size = length-set places i copy ∙ first.size;
      copied = λ k below. elim (cases_eq k i) [
        | inl here ↦ ap (λ j. table_bytes_in (table_at (set places i copy) j)) here ∙ ap table_bytes_in (table_at-set_here places i copy there) ∙ same
            ∙ ap table_bytes_in (sym (table_at-get tables i d inside)) ∙ sym (ap (λ j. table_bytes_in (table_at tables j)) here)
        | inr apart ↦ ap table_bytes_in (table_at-set_other places i k copy apart) ∙ first.copied k (omega (arith, apart))
      ];
      free = λ k above. table_at-set_other places i k copy (λ here. omega arith) ∙ first.free k (omega arith);
      counted =
          let none : tables_at (table_at places i ∷ []) ≡ 0 = ap (λ (p : Place). tables_at (p ∷ [])) (first.free i (omega arith)) in
          omega (arith, tables_at-set places i copy there, none, first.counted, same_counted copy (get_or tables i d) same, tables_at-take tables i d inside);
    }

-- all are copied
pub copies_all : (places tables : List Place) (n : ℕ) → length tables ≤ n → CopiesFirst places tables n → Copies places tables
copies_all places tables n all first = record {
  bytes = λ k. elim (cases_lt k n) [
    | inl below ↦ first.copied k below
    | inr beyond ↦ ap table_bytes_in (first.free k beyond) ∙ sym (ap table_bytes_in (table_at-beyond tables k (omega arith)))
  ];
  places = first.size;
  counted = first.counted ∙ ap tables_at (take_all n tables all);
}

-- no table is behind those that were met
none_behind : (tables : List Place) (i k : ℕ) → tables_at (take i tables) ≡ tables_at tables → i ≤ k → table_at tables k ≡ None
none_behind [] i k met behind = refl
none_behind (None ∷ tables) zero zero met behind = refl
none_behind (None ∷ tables) zero (suc k) met behind = none_behind tables zero k met (omega arith)
none_behind (Some table ∷ tables) zero k met behind = absurd (omega arith)
none_behind (p ∷ tables) (suc i) zero met behind = absurd (omega arith)
none_behind (None ∷ tables) (suc i) (suc k) met behind = none_behind tables i k met (omega arith)
none_behind (Some table ∷ tables) (suc i) (suc k) met behind = none_behind tables i k (omega arith) (omega arith)

-- all are copied once as many were met as there are
pub copies_met : (places tables : List Place) (n : ℕ) → tables_at (take n tables) ≡ tables_at tables
    → CopiesFirst places tables n → Copies places tables
copies_met places tables n met first = record {
  bytes = λ k. elim (cases_lt k n) [
    | inl below ↦ first.copied k below
    | inr beyond ↦ ap table_bytes_in (first.free k (omega arith)) ∙ sym (ap table_bytes_in (none_behind tables n k met (omega arith)))
  ];
  places = first.size;
  counted = first.counted ∙ met;
}

-- the want of one table was refused, and what was granted for those before it was given back
pub refuses_level : {State : Type 0} (goes : State → Deal → State → Type 0) (want : Want) (tables : List Place) (i : ℕ) (d : Place) (at n : ℕ) (old granted_then refused_then new : State) → i < length tables
    → LeadsAlong goes old (granted (replicate (tables_at (take i tables)) want)) granted_then
    → RefusesOne goes granted_then (replicate (tables_at (get_or tables i d ∷ [])) want) at refused_then
    → LeadsAlong goes refused_then (returned n) new → n ≡ tables_at (take i tables) → RefusesOne goes old (replicate (tables_at tables) want) at new
refuses_level goes want tables i d at n old granted_then refused_then new inside before refused after count =
    let first = tables_at (take i tables) in
    let one = tables_at (get_or tables i d ∷ []) in
    let rest = tables_at tables - (first + one) in
    let all : (first + one) + rest ≡ tables_at tables = omega (arith, tables_at-take tables i d inside, tables_at-take_le tables (i + 1)) in
    let wants : (replicate first want ++ replicate one want) ++ replicate rest want ≡ replicate (tables_at tables) want =
    ap (λ l. l ++ replicate rest want) (replicate-append want first one) ∙ replicate-append want (first + one) rest ∙ ap (λ m. replicate m want) all in
    subst (λ l. RefusesOne goes old l at new) wants
    (refuses_before goes (replicate first want ++ replicate one want) (replicate rest want) at old new
    (refuses_after goes (replicate first want) (replicate one want) at n old granted_then refused_then new before refused after (count ∙ sym (length-replicate first want))))
