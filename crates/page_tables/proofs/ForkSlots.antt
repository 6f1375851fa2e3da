-- A fork and a drop at one slot.
use Rattle.std.proofs.Common.{◌≡◌, ℕ, ◌+◌, ◌-◌, ◌≤◌, List, [], ◌∷◌, length, Option, Some, None, Result, Ok, Err, cond, refl, sym, ◌∙◌, ap, subst, arith, inl, inr}
use Rattle.std.specs.Prelude.{true, false, is_some, ◌==◌, ◌||◌, not, OnOk}
use Rattle.std.proofs.lemmas.Bool.{false≢true, ne_eqb}
use Rattle.vm_base.specs.declared.fork_mode.Mode.TheVariants.{Eager}
use Rattle.vm_base.specs.declared.frame_request.Want.TheVariants as want
use Rattle.vm_base.specs.Deals.{Deal, Granted, Denied, LeadsAlong}
use Rattle.vm_base.specs.declared.refusals.Refused.{Refused}
use Rattle.std.specs.FinMap.{insert}
use Rattle.kernel_meaning.specs.Requests.{Answer, Yes, No, deal_of, answers_of, first_answer, opening_requests}
use Rattle.kernel_meaning.specs.Leaves.{CellLeaves, Kept, Own, has_pages, kept_by, with_kept, share}
use Rattle.kernel_meaning.specs.CellActs.{Course, opening_course, asking, eager_fork_answered, with_fork}
use Rattle.kernel_meaning.specs.CellAccount.{CellAccount, CellState, Fork, Drop as DropAct}
use Rattle.kernel_meaning.specs.FrameLaw.{is_used}
use Rattle.leaf_cell.specs.CellView.{CellView, without_snapshot}
use Rattle.leaf_cell.specs.Renaming.{AreKeptAlike, IsNamedBy, IsLive}
use Rattle.leaf_cell.specs.Standing.{StandsFor, TakesAccount, MadeAct}
use Rattle.leaf_cell.specs.States.{refused_count, nth_number}
use Rattle.leaf_cell.proofs.Renamed.{has_pages-renamed}
use Rattle.leaf_cell.proofs.HeldShare.{share-stands}
use Rattle.table_levels.specs.Requests.{Asks, returned}
use Rattle.page_tables.specs.declared.slot.Slot.{Slot}
use Rattle.page_tables.specs.Forking.{Becomes, forked_leaves, forked_state, dropped_state}
use Rattle.page_tables.specs.Returning.{Returning}
use Rattle.page_tables.proofs.SnapshotShares.{share-falls}
use Rattle.page_tables.proofs.Known.{known-deals, known-below}

-- ---- no snapshot on one side

none-alike : (name : ℕ → ℕ → ℕ) (meant : List Kept) → AreKeptAlike name [] meant → meant ≡ []
none-alike name [] alike = refl
none-alike name (it ∷ others) alike = absurd alike

-- a cell without snapshots stands for one without snapshots
pub alone-meant : (view : CellView) (account : CellAccount) → StandsFor view account → view.leaves.kept ≡ [] → account.state.leaves.kept ≡ []
alone-meant view account stands alone = none-alike stands.name account.state.leaves.kept (subst (λ kept. AreKeptAlike stands.name kept account.state.leaves.kept) alone stands.leaves.kept)

alike-none : (name : ℕ → ℕ → ℕ) (view : List Kept) → AreKeptAlike name view [] → view ≡ []
alike-none name [] alike = refl
alike-none name (it ∷ others) alike = absurd alike

pub alone-viewed : (view : CellView) (account : CellAccount) → StandsFor view account → account.state.leaves.kept ≡ [] → view.leaves.kept ≡ []
alone-viewed view account stands alone = alike-none stands.name view.leaves.kept (subst (λ kept. AreKeptAlike stands.name view.leaves.kept kept) alone stands.leaves.kept)

-- a cell without snapshots stands for an account with any pages of snapshots
pub stands-alone : (view : CellView) (state other : CellState) (made : ℕ) → StandsFor view (record { state = state; made = made })
    → other.leaves ≡ state.leaves → other.pages ≡ state.pages → state.leaves.kept ≡ []
    → StandsFor view (record { state = other; made = made })
stands-alone view state other made stands leaves pages alone =
    let none : view.leaves.kept ≡ [] = alone-viewed view (record { state = state; made = made }) stands alone in
    let alike : StandsFor view (record { state = record { leaves = state.leaves; pages = state.pages; snapshots = other.snapshots }; made = made }) = record {
      name = stands.name;
      leaves = stands.leaves;
      made = stands.made;
      pages = stands.pages;
      snapshots = λ n page kept found unlost small. absurd (false≢true (ap is_some (sym (ap (λ ks. kept_by ks n) none) ∙ found)));
      whole = stands.whole;
    } in
    subst (λ leaves. StandsFor view (record { state = record { leaves = leaves; pages = other.pages; snapshots = other.snapshots }; made = made })) (sym leaves)
    (subst (λ pages. StandsFor view (record { state = record { leaves = state.leaves; pages = pages; snapshots = other.snapshots }; made = made })) (sym pages) alike)

-- pages are there on both sides or on none
pub pages-alike : (view : CellView) (account : CellAccount) → StandsFor view account → has_pages view.leaves.parent ≡ has_pages account.state.leaves.parent
pages-alike view account stands = ap has_pages stands.leaves.parent ∙ has_pages-renamed stands.name account.state.leaves.parent

-- ---- the fork

-- the one deal of an eager fork at a cell
abbrev pub fork_deals : Option ℕ → List Deal
fork_deals None = Granted want.Leaf ∷ []
fork_deals (Some at) = Denied want.Leaf at ∷ []

module _ (n seat : ℕ) (view new : CellView) (deals : List Deal) (refused : Option ℕ) (account : CellAccount) (takes : TakesAccount (Fork n Eager seat) view new deals refused account) where
  abbrev start : Course
  start = opening_course account.state.leaves (opening_requests account.made (answers_of deals))

  abbrev answered : Answer → Course
  answered answer = eager_fork_answered n answer (asking want.Leaf start)

  pub fork-deals : deals ≡ fork_deals refused
  fork-deals = by (first_answer (answers_of deals)) refl takes.asked takes.ended
    where
      by : (answer : Answer) → first_answer (answers_of deals) ≡ answer → (answered answer).requests.deals ≡ deals → (answered answer).refused ≡ refused → deals ≡ fork_deals refused
      by Yes is asked ended = sym asked ∙ ap (λ a. deal_of want.Leaf a ∷ []) is ∙ ap fork_deals ended
      by (No at) is asked ended = sym asked ∙ ap (λ a. deal_of want.Leaf a ∷ []) is ∙ ap fork_deals ended

-- what lives behind a fork lived before
module _ (n : ℕ) (leaves : CellLeaves) (alone : leaves.kept ≡ []) where
  abbrev new_kept : Kept
  new_kept = record { number = n; mode = Eager; versions = leaves.parent; leaf = Own }

  named-before : (page version : ℕ) → IsNamedBy page version (new_kept ∷ []) → IsLive leaves page version
  named-before page version (inl here) = inl here.1
  named-before page version (inr later) = absurd later

  pub lived-before : (page version : ℕ) → IsLive (with_fork n Eager Own leaves) page version → IsLive leaves page version
  lived-before page version (inl there) = inl there
  lived-before page version (inr named) = named-before page version (subst (λ kept. IsNamedBy page version (with_kept new_kept kept)) alone named)

-- a cell where the parent has a page was forked
pub fork-becomes : (n : ℕ) (old : Slot) (view : CellView) (deals : List Deal) → old.cell.leaves.kept ≡ []
    → has_pages old.cell.leaves.parent ≡ true → view.leaves ≡ with_fork n Eager Own old.cell.leaves
    → ((account : CellAccount) → StandsFor old.cell account → TakesAccount (Fork n Eager 0) old.cell view deals None account)
    → Becomes (forked_leaves n) (forked_state n) old (record { owner = old.owner; cell = view })
fork-becomes n old view deals alone there leaves follows = record {
  owner = refl;
  leaves_then = leaves ∙ sym (ap (λ b. cond b (with_fork n Eager Own old.cell.leaves) old.cell.leaves) there);
  stands = λ state made stands.
      let account : CellAccount = record { state = state; made = made } in
      let none : state.leaves.kept ≡ [] = alone-meant old.cell account stands alone in
      let has : has_pages state.leaves.parent ≡ true = sym (pages-alike old.cell account stands) ∙ there in
      let takes : TakesAccount (Fork n Eager 0) old.cell view (Granted want.Leaf ∷ []) None account =
      subst (λ ds. TakesAccount (Fork n Eager 0) old.cell view ds None account) (fork-deals n 0 old.cell view deals None account (follows account stands)) (follows account stands) in
      let then : CellState = record { leaves = with_fork n Eager Own state.leaves; pages = state.pages; snapshots = insert state.snapshots n state.pages } in
      let behind : StandsFor view (record { state = then; made = made + 1 }) = takes.stands in
      let at_once : StandsFor view (record { state = then; made = made }) = record {
        name = behind.name;
        leaves = behind.leaves;
        made = λ page version live. stands.made page version (lived-before n state.leaves none page version live);
        pages = behind.pages;
        snapshots = behind.snapshots;
        whole = behind.whole;
      } in
      subst (λ b. StandsFor view (record { state = cond b then state; made = made })) (sym has) at_once;
}

pub fork-becomes-ok : {State : Type 0} (goes : State → Deal → State → Type 0) (from to : State) (n : ℕ) (old : Slot) (view : CellView)
    → old.cell.leaves.kept ≡ [] → has_pages old.cell.leaves.parent ≡ true
    → (result : Result (Unit {0}) Refused) → OnOk result (view.leaves ≡ with_fork n Eager Own old.cell.leaves) → MadeAct goes from to (Fork n Eager 0) old.cell view (refused_count result)
    → OnOk result (Becomes (forked_leaves n) (forked_state n) old (record { owner = old.owner; cell = view }))
fork-becomes-ok goes from to n old view alone there (Ok done) leaves made = fork-becomes n old view made.deals alone there leaves made.follows
fork-becomes-ok goes from to n old view alone there (Err e) leaves made = tt

-- a cell where the parent has none stays as it is
pub unforked-becomes : (n : ℕ) (old : Slot) → has_pages old.cell.leaves.parent ≡ false → Becomes (forked_leaves n) (forked_state n) old old
unforked-becomes n old none = record {
  owner = refl;
  leaves_then = sym (ap (λ b. cond b (with_fork n Eager Own old.cell.leaves) old.cell.leaves) none);
  stands = λ state made stands.
      let lacks : has_pages state.leaves.parent ≡ false = sym (pages-alike old.cell (record { state = state; made = made }) stands) ∙ none in
      subst (λ b. StandsFor old.cell
      (record { state = cond b (record { leaves = with_fork n Eager Own state.leaves; pages = state.pages; snapshots = insert state.snapshots n state.pages }) state; made = made }))
      (sym lacks) stands;
}

-- one leaf was asked for
pub fork-asks : {State : Type 0} (goes : State → Deal → State → Type 0) (from to : State) (n : ℕ) (view new : CellView)
    → ∥ ((account : CellAccount) × StandsFor view account) ∥₁ → (result : Result (Unit {0}) Refused)
    → MadeAct goes from to (Fork n Eager 0) view new (refused_count result) → Asks goes from (want.Leaf ∷ []) result to
fork-asks goes from to n view new known (Ok done) made =
    subst (λ ds. LeadsAlong goes from ds to) (known-deals known (λ it. fork-deals n 0 view new made.deals None it.0 (made.follows it.0 it.1))) made.led
fork-asks goes from to n view new known (Err e) made = record {
  front = [];
  want = want.Leaf;
  rest = [];
  order = refl;
  deals = subst (λ ds. LeadsAlong goes from ds to) (known-deals known (λ it. fork-deals n 0 view new made.deals (Some e.at) it.0 (made.follows it.0 it.1))) made.led;
}

-- ---- the drop

-- as many deals give frames back as the share has shrunk by
drop-went : (n : ℕ) (old new : Slot) (deals : List Deal) (account : CellAccount) → StandsFor old.cell account → TakesAccount (DropAct n) old.cell new.cell deals None account
    → (deals ≡ returned (share old.cell.leaves - share new.cell.leaves)) × (share new.cell.leaves ≤ share old.cell.leaves)
drop-went n old new deals account stands takes =
    let then : CellAccount = record { state = dropped_state n account.state; made = account.made } in
    let before : share old.cell.leaves ≡ share account.state.leaves = share-stands old.cell account stands in
    let after : share new.cell.leaves ≡ share (without_snapshot n account.state.leaves) = share-stands new.cell then takes.stands in
    let falls : share (without_snapshot n account.state.leaves) ≤ share account.state.leaves = share-falls n account.state.leaves in
    (sym takes.asked ∙ (λ i. returned (sym before i - sym after i)), omega arith)

-- the frames by which the share has shrunk were given back
pub drop-returns : {State : Type 0} (goes : State → Deal → State → Type 0) (from to : State) (n : ℕ) (old new : Slot) → ∥ ((account : CellAccount) × StandsFor old.cell account) ∥₁
    → MadeAct goes from to (DropAct n) old.cell new.cell None → Returning goes from to (old ∷ []) (new ∷ [])
drop-returns goes from to n old new known made =
    let less : share new.cell.leaves ≤ share old.cell.leaves = known-below known (λ it. (drop-went n old new made.deals it.0 it.1 (made.follows it.0 it.1)).1) in
    record {
      count = share old.cell.leaves - share new.cell.leaves;
      led = subst (λ ds. LeadsAlong goes from ds to) (known-deals known (λ it. (drop-went n old new made.deals it.0 it.1 (made.follows it.0 it.1)).0)) made.led;
      shrunk = omega arith;
    }

-- ---- nobody's cell

-- where the parent has no page, a cell is used by its snapshots
pub used-by : (cell : CellLeaves) → has_pages cell.parent ≡ false → not (is_some (nth_number cell.kept 0)) ≡ not (is_used cell)
used-by cell none = by cell.kept ∙ ap (λ b. not (b || not (length cell.kept == 0))) (sym none)
  where
    by : (kept : List Kept) → not (is_some (nth_number kept 0)) ≡ not (not (length kept == 0))
    by [] = refl
    by (it ∷ others) = ap (λ b. not (not b)) (sym (ne_eqb (length (it ∷ others)) 0 (λ e. let l : length others + 1 ≡ 0 = omega (arith, e) in omega arith)))

pub used-there : (cell : CellLeaves) → has_pages cell.parent ≡ true → false ≡ not (is_used cell)
used-there cell there = ap (λ b. not (b || not (length cell.kept == 0))) (sym there)
