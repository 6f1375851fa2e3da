-- Slots that change one after another.
use Rattle.std.proofs.Common.{◌≡◌, ℕ, zero, suc, ◌+◌, ◌-◌, ◌<◌, ◌≤◌, List, [], ◌∷◌, ◌++◌, length, take, replicate, get_or, cond, Some, refl, sym, ◌∙◌, ap, subst, arith, inl, inr}
use Rattle.std.specs.Prelude.{Bool, true, false, not, slice_set, slice_index_or, sum_by, unwrap_or}
use Rattle.std.specs.FinMap.{insert}
use Rattle.std.specs.List.{slice_get}
use Rattle.std.proofs.lemmas.Bool.{cases_eq, cases_lt, eq-eqb}
use Rattle.std.proofs.lemmas.Option.{slice_get_within, get_or_from_slice_get}
use Rattle.std.proofs.lemmas.List.Sums.{sum_by-set, sum_by-cons, count_by_more_yes, count_by_more_no}
use Rattle.std.proofs.lemmas.List.{length-replicate}
use Rattle.vm_base.specs.declared.fork_mode.Mode.TheVariants.{Eager}
use Rattle.vm_base.specs.declared.frame_request.Want.TheVariants as want
use Rattle.vm_base.specs.Deals.{Deal, LeadsAlong}
use Rattle.vm_base.proofs.DealLemmas.{LeadsAlong-append}
use Rattle.kernel_meaning.specs.Leaves.{CellLeaves, Own, has_pages, share, with_kept, without_kept}
use Rattle.kernel_meaning.specs.CellActs.{with_fork}
use Rattle.kernel_meaning.specs.CellAccount.{CellState, CellAccount}
use Rattle.leaf_cell.specs.CellView.{without_snapshot}
use Rattle.leaf_cell.specs.Standing.{StandsFor}
use Rattle.table_levels.specs.Requests.{granted, returned, RefusesOne}
use Rattle.table_levels.proofs.Asking.{returned-append, refuses_after}
use Rattle.table_levels.proofs.Copied.{replicate-append, refuses_before}
use Rattle.page_tables.specs.declared.slot.Slot.{Slot}
use Rattle.page_tables.specs.Held.{shares_in}
use Rattle.page_tables.specs.Forking.{Becomes, AllBecome, HaveAccounts, AreAlone, is_forked, forked_count, forked_leaves, forked_state, same_leaves, same_state, dropped_state}
use Rattle.page_tables.specs.Returning.{Returning}
use Rattle.page_tables.proofs.SnapshotShares.{share-forked}
use Rattle.page_tables.proofs.ForkSlots.{alone-meant, stands-alone}
use Rattle.page_tables.proofs.SlotLemmas.{slice_get-set-here, slice_get-set-apart, length-set}

pub slice_get_there : (slots : List Slot) (s : ℕ) → s < length slots → (slot : Slot) × (slice_get slots s ≡ Some slot)
slice_get_there [] s within = absurd (omega arith)
slice_get_there (slot ∷ slots) zero within = (slot, refl)
slice_get_there (slot ∷ slots) (suc s) within = slice_get_there slots s (omega arith)

-- the slots below a place have changed, and the others not
pub record ChangedBelow (change : Slot → Slot → Type 0) (i : ℕ) (old now : List Slot) : Type 0 where
  pub size : length now ≡ length old
  pub done : (s : ℕ) (slot : Slot) → s < i → slice_get old s ≡ Some slot → (it : Slot) × ((slice_get now s ≡ Some it) × change slot it)
  pub rest : (s : ℕ) → i ≤ s → slice_get now s ≡ slice_get old s

module _ (change : Slot → Slot → Type 0) where
  pub none-changed : (slots : List Slot) → ChangedBelow change 0 slots slots
  none-changed slots = record { size = refl; done = λ s slot small. absurd (omega arith); rest = λ s more. refl }

  pub one-changed : (i j : ℕ) (old now : List Slot) (slot new : Slot) → ChangedBelow change i old now → slice_get now i ≡ Some slot
      → change slot new → j ≡ i + 1 → ChangedBelow change j old (slice_set now i new)
  one-changed i j old now slot new below here changed next = record {
    size = length-set now i new ∙ below.size;
    done = λ s it small found. elim (cases_eq s i) [
      | inl same ↦
          let was : slice_get old i ≡ Some slot = sym (below.rest i (omega arith)) ∙ here in
          let is : it ≡ slot = ap (λ o. unwrap_or o it) (sym found ∙ ap (slice_get old) same ∙ was) in
          (new, (ap (slice_get (slice_set now i new)) same ∙ slice_get-set-here now i new (slice_get_within now i slot here), subst (λ it. change it new) (sym is) changed))
      | inr apart ↦
          let before : (to : Slot) × ((slice_get now s ≡ Some to) × change it to) = below.done s it (omega arith) found in
          (before.0, (slice_get-set-apart now i s new apart ∙ before.1.0, before.1.1))
    ];
    rest = λ s more. slice_get-set-apart now i s new (omega arith) ∙ below.rest s (omega arith);
  }

-- all have changed
pub all-changed : (leaves : CellLeaves → CellLeaves) (change : CellState → CellState) (i : ℕ) (old now : List Slot)
    → ChangedBelow (Becomes leaves change) i old now → length old ≤ i → AllBecome leaves change old now
all-changed leaves change i old now below most = record {
  size = below.size;
  each = λ s slot found. below.done s slot (let within : s < length old = slice_get_within old s slot found in omega arith) found;
}

-- each slot has become what it was
pub record Undoes (n : ℕ) (leaves : CellLeaves → CellLeaves) (change : CellState → CellState) : Type 0 where
  pub back : (cell : CellLeaves) → cell.kept ≡ [] → without_snapshot n (leaves cell) ≡ cell
  pub same_leaves_there : (state : CellState) → (change state).leaves ≡ leaves state.leaves
  pub same_pages_there : (state : CellState) → (change state).pages ≡ state.pages

back-again : (n : ℕ) (cell : CellLeaves) → cell.kept ≡ [] → without_snapshot n cell ≡ cell
back-again n cell alone = ap (λ kept. record cell { kept = without_kept n kept }) alone ∙ ap (λ kept. record cell { kept = kept }) (sym alone)

pub undoes-nothing : (n : ℕ) → Undoes n same_leaves same_state
undoes-nothing n = record { back = back-again n; same_leaves_there = λ state. refl; same_pages_there = λ state. refl }

pub undoes-fork : (n : ℕ) → Undoes n (forked_leaves n) (forked_state n)
undoes-fork n = record {
  back = λ cell alone. elim (has_pages cell.parent) as (λ b. without_snapshot n (cond b (with_fork n Eager Own cell) cell) ≡ cell) [
    | true ↦ ap (λ kept. without_snapshot n (record cell { kept = with_kept (record { number = n; mode = Eager; versions = cell.parent; leaf = Own }) kept })) alone
        ∙ ap (λ b. record cell { kept = cond (not b) (record { number = n; mode = Eager; versions = cell.parent; leaf = Own } ∷ []) [] }) (eq-eqb n n refl)
        ∙ ap (λ kept. record cell { kept = kept }) (sym alone)
    | false ↦ back-again n cell alone
  ];
  same_leaves_there = λ state. elim (has_pages state.leaves.parent) as
      (λ b. (cond b (record { leaves = with_fork n Eager Own state.leaves; pages = state.pages; snapshots = insert state.snapshots n state.pages }) state).leaves
      ≡ cond b (with_fork n Eager Own state.leaves) state.leaves) [ true ↦ refl | false ↦ refl ];
  same_pages_there = λ state. elim (has_pages state.leaves.parent) as
      (λ b. (cond b (record { leaves = with_fork n Eager Own state.leaves; pages = state.pages; snapshots = insert state.snapshots n state.pages }) state).pages
      ≡ state.pages) [ true ↦ refl | false ↦ refl ];
}

-- a drop takes the change back
undone-slot : (n : ℕ) (leaves : CellLeaves → CellLeaves) (change : CellState → CellState) → Undoes n leaves change → (old mid new : Slot) → old.cell.leaves.kept ≡ []
    → Becomes leaves change old mid → Becomes (without_snapshot n) (dropped_state n) mid new → Becomes same_leaves same_state old new
undone-slot n leaves change undoes old mid new alone first second = record {
  owner = second.owner ∙ first.owner;
  leaves_then = second.leaves_then ∙ ap (without_snapshot n) first.leaves_then ∙ undoes.back old.cell.leaves alone;
  stands = λ state made stands.
      let none : state.leaves.kept ≡ [] = alone-meant old.cell (record { state = state; made = made }) stands alone in
      let then : CellState = dropped_state n (change state) in
      let same : then.leaves ≡ state.leaves = ap (without_snapshot n) (undoes.same_leaves_there state) ∙ undoes.back state.leaves none in
      stands-alone new.cell then state made (second.stands (change state) made (first.stands state made stands)) (sym same) (sym (undoes.same_pages_there state)) (ap (λ cell. cell.kept) same ∙ none);
}

same-slot : (slot : Slot) → Becomes same_leaves same_state slot slot
same-slot slot = record { owner = refl; leaves_then = refl; stands = λ state made stands. stands }

-- a drop everywhere takes the forks of the slots below a place back
module _ (n i : ℕ) (old now : List Slot) (below : ChangedBelow (Becomes (forked_leaves n) (forked_state n)) i old now) where
  pub accounts-now : HaveAccounts old → HaveAccounts now
  accounts-now known s it found =
      let within : s < length now = slice_get_within now s it found in
      let size : length now ≡ length old = below.size in
      let was : (slot : Slot) × (slice_get old s ≡ Some slot) = slice_get_there old s (omega arith) in
      elim (cases_lt s i) [
        | inl small ↦
            let to : (to : Slot) × ((slice_get now s ≡ Some to) × Becomes (forked_leaves n) (forked_state n) was.0 to) = below.done s was.0 small was.1 in
            let is : to.0 ≡ it = ap (λ o. unwrap_or o it) (sym to.1.0 ∙ found) in
            let account : (account : CellAccount) × StandsFor was.0.cell account = known s was.0 was.1 in (
              record { state = forked_state n account.0.state; made = account.0.made },
              subst
                  (λ slot. StandsFor slot.cell (record { state = forked_state n account.0.state; made = account.0.made })) is (to.1.1.stands account.0.state account.0.made account.1),
            )
        | inr more ↦ known s it (sym (below.rest s more) ∙ found)
      ]

  pub undone : AreAlone old → (new : List Slot) → AllBecome (without_snapshot n) (dropped_state n) now new → AllBecome same_leaves same_state old new
  undone alone new dropped = record {
    size = dropped.size ∙ below.size;
    each = λ s slot found. elim (cases_lt s i) [
      | inl small ↦
          let to : (to : Slot) × ((slice_get now s ≡ Some to) × Becomes (forked_leaves n) (forked_state n) slot to) = below.done s slot small found in
          let it : (it : Slot) × ((slice_get new s ≡ Some it) × Becomes (without_snapshot n) (dropped_state n) to.0 it) = dropped.each s to.0 to.1.0 in
          (it.0, (it.1.0, undone-slot n (forked_leaves n) (forked_state n) (undoes-fork n) slot to.0 it.0 (alone s slot found) to.1.1 it.1.1))
      | inr more ↦
          let it : (it : Slot) × ((slice_get new s ≡ Some it) × Becomes (without_snapshot n) (dropped_state n) slot it) = dropped.each s slot (below.rest s more ∙ found) in
          (it.0, (it.1.0, undone-slot n same_leaves same_state (undoes-nothing n) slot slot it.0 (alone s slot found) (same-slot slot) it.1.1))
    ];
  }

-- the same sum over slots that are alike one by one
pub sums-same : (f : Slot → ℕ) (old new : List Slot) → length new ≡ length old
    → ((s : ℕ) (slot : Slot) → slice_get old s ≡ Some slot → (it : Slot) × ((slice_get new s ≡ Some it) × (f it ≡ f slot))) → sum_by f new ≡ sum_by f old
sums-same f [] [] size each = refl
sums-same f [] (it ∷ new) size each = absurd (omega arith)
sums-same f (slot ∷ old) [] size each = absurd (omega arith)
sums-same f (slot ∷ old) (it ∷ new) size each =
    let first : (to : Slot) × ((slice_get (it ∷ new) 0 ≡ Some to) × (f to ≡ f slot)) = each 0 slot refl in
    let same : f it ≡ f slot = ap (λ o. f (unwrap_or o it)) first.1.0 ∙ first.1.1 in
    let rest : sum_by f new ≡ sum_by f old = sums-same f old new (omega arith) (λ s. each (suc s)) in
    sum_by-cons f it new ∙ (λ i. same i + rest i) ∙ sym (sum_by-cons f slot old)

pub same-shares : (old new : List Slot) → AllBecome same_leaves same_state old new → shares_in new ≡ shares_in old
same-shares old new become = sums-same (λ slot. share slot.cell.leaves) old new become.size
    (λ s slot found. let it : (it : Slot) × ((slice_get new s ≡ Some it) × Becomes same_leaves same_state slot it) = become.each s slot found in (it.0, (it.1.0, ap share it.1.1.leaves_then)))

-- ---- forks counted

-- one slot more
pub count-next : (slots : List Slot) (i : ℕ) (slot : Slot) → slice_get slots i ≡ Some slot → forked_count (take (i + 1) slots) ≡ forked_count (take i slots) + cond (is_forked slot) 1 0
count-next slots i slot here = by (is_forked slot) refl
  where
    read : (b : Bool) → is_forked slot ≡ b → is_forked (get_or slots i slot) ≡ b
    read b is = ap is_forked (get_or_from_slice_get slots i slot slot here) ∙ is

    by : (b : Bool) → is_forked slot ≡ b → forked_count (take (i + 1) slots) ≡ forked_count (take i slots) + cond b 1 0
    by true is = count_by_more_yes is_forked slots i slot (slice_get_within slots i slot here) (read true is)
    by false is = let same : forked_count (take (i + 1) slots) ≡ forked_count (take i slots) =
        count_by_more_no is_forked slots i slot (slice_get_within slots i slot here) (read false is) in omega (arith, same)

pub count-within : (slots : List Slot) (i : ℕ) → forked_count (take i slots) ≤ forked_count slots
count-within [] zero = omega arith
count-within [] (suc i) = omega arith
count-within (slot ∷ slots) zero = omega arith
count-within (slot ∷ slots) (suc i) =
    let rest : forked_count (take i slots) ≤ forked_count slots = count-within slots i in
    let some : forked_count (slot ∷ take i slots) ≡ cond (is_forked slot) 1 0 + forked_count (take i slots) = sum_by-cons (λ it. cond (is_forked it) 1 0) slot (take i slots) in
    let all : forked_count (slot ∷ slots) ≡ cond (is_forked slot) 1 0 + forked_count slots = sum_by-cons (λ it. cond (is_forked it) 1 0) slot slots in
    omega (arith, rest, some, all)

-- a fork adds its leaf to the shares
pub shares-next : (n : ℕ) (now : List Slot) (i : ℕ) (slot new : Slot) → slice_get now i ≡ Some slot → slot.cell.leaves.kept ≡ [] → Becomes (forked_leaves n) (forked_state n) slot new
    → shares_in (slice_set now i new) ≡ shares_in now + cond (is_forked slot) 1 0
shares-next n now i slot new here alone become =
    let sums : shares_in (slice_set now i new) + share (slice_index_or now i slot).cell.leaves ≡ shares_in now + share new.cell.leaves =
    sum_by-set (λ it. share it.cell.leaves) now i new slot (slice_get_within now i slot here) in
    let was : share (slice_index_or now i slot).cell.leaves ≡ share slot.cell.leaves = ap (λ it. share it.cell.leaves) (get_or_from_slice_get now i slot slot here) in
    let more : share new.cell.leaves ≡ share slot.cell.leaves + cond (is_forked slot) 1 0 = ap share become.leaves_then
    ∙ elim (has_pages slot.cell.leaves.parent) as (λ b. share (cond b (with_fork n Eager Own slot.cell.leaves) slot.cell.leaves)
    ≡ share slot.cell.leaves + cond b 1 0) [ true ↦ share-forked n slot.cell.leaves alone | false ↦ omega arith ] in
    omega (arith, sums, was, more)

-- the leaf of one slot was refused, and those before it are given back
pub refused-behind : {State : Type 0} (goes : State → Deal → State → Type 0) (slots : List Slot) (i : ℕ) (slot : Slot) (at n : ℕ) (old granted_then refused_then new : State)
    → slice_get slots i ≡ Some slot
    → LeadsAlong goes old (granted (replicate (forked_count (take i slots)) want.Leaf)) granted_then → RefusesOne goes granted_then (replicate (cond (is_forked slot) 1 0) want.Leaf) at refused_then
    → LeadsAlong goes refused_then (returned n) new → n ≡ forked_count (take i slots) → RefusesOne goes old (replicate (forked_count slots) want.Leaf) at new
refused-behind goes slots i slot at n old granted_then refused_then new here before refused after count =
    let k : ℕ = forked_count (take i slots) in
    let one : ℕ = cond (is_forked slot) 1 0 in
    let next : forked_count (take (i + 1) slots) ≡ forked_count (take i slots) + cond (is_forked slot) 1 0 = count-next slots i slot here in
    let within : forked_count (take (i + 1) slots) ≤ forked_count slots = count-within slots (i + 1) in
    let more : ℕ = forked_count slots - forked_count (take (i + 1) slots) in
    let size : forked_count (take i slots) + cond (is_forked slot) 1 0 + (forked_count slots - forked_count (take (i + 1) slots)) ≡ forked_count slots = omega (arith, next, within) in
    let all : (replicate k want.Leaf ++ replicate one want.Leaf) ++ replicate more want.Leaf ≡ replicate (forked_count slots) want.Leaf =
    ap (λ ws. ws ++ replicate more want.Leaf) (replicate-append want.Leaf k one) ∙ replicate-append want.Leaf (k + one) more ∙ ap (λ m. replicate m want.Leaf) size in
    subst (λ ws. RefusesOne goes old ws at new) all
    (refuses_before goes (replicate k want.Leaf ++ replicate one want.Leaf) (replicate more want.Leaf) at old new
    (refuses_after goes (replicate k want.Leaf) (replicate one want.Leaf) at n old granted_then refused_then new before refused after (count ∙ sym (length-replicate k want.Leaf))))

-- ---- frames given back

module _ {State : Type 0} (goes : State → Deal → State → Type 0) where
  pub none-returned : (state : State) (slots : List Slot) → Returning goes state state slots slots
  none-returned state slots = record { count = 0; led = refl; shrunk = omega arith }

  pub more-returned : (from mid to : State) (old now : List Slot) (i : ℕ) (slot new : Slot) → Returning goes from mid old now → slice_get now i ≡ Some slot
      → Returning goes mid to (slot ∷ []) (new ∷ []) → Returning goes from to old (slice_set now i new)
  more-returned from mid to old now i slot new before here one =
      let sums : shares_in (slice_set now i new) + share (slice_index_or now i slot).cell.leaves ≡ shares_in now + share new.cell.leaves =
      sum_by-set (λ it. share it.cell.leaves) now i new slot (slice_get_within now i slot here) in
      let was : share (slice_index_or now i slot).cell.leaves ≡ share slot.cell.leaves = ap (λ it. share it.cell.leaves) (get_or_from_slice_get now i slot slot here) in
      let shrunk : before.count + shares_in now ≡ shares_in old = before.shrunk in
      let less : one.count + shares_in (new ∷ []) ≡ shares_in (slot ∷ []) = one.shrunk in
      let single : shares_in (new ∷ []) ≡ share new.cell.leaves + 0 = sum_by-cons (λ it. share it.cell.leaves) new [] in
      let alone : shares_in (slot ∷ []) ≡ share slot.cell.leaves + 0 = sum_by-cons (λ it. share it.cell.leaves) slot [] in
      record {
        count = before.count + one.count;
        led = subst (λ ds. LeadsAlong goes from ds to) (returned-append before.count one.count) (LeadsAlong-append goes (returned before.count) (returned one.count) from mid to before.led one.led);
        shrunk = omega arith;
      }
