-- The unmap of pages, one cell after another.
use Rattle.std.proofs.Common.{◌≡◌, ℕ, ◌+◌, ◌*◌, ◌/◌, ◌<◌, ◌≤◌, List, [], ◌∷◌, ◌++◌, length, Some, None, cond, refl, sym, ◌∙◌, ap, subst, arith, append_assoc, append-nil, inl, inr, ◌⊎◌}
use Rattle.std.specs.Prelude.{Bool, true, false, is_some}
use Rattle.std.specs.FinMap.{get, retain_keys}
use Rattle.std.proofs.lemmas.Bool.{cases_eq, cases_lt}
use Rattle.vm_base.specs.Deals.{Deal, LeadsAlong}
use Rattle.vm_base.specs.FlatMemory.{PageMap}
use Rattle.vm_base.specs.FlatStep.{is_beyond}
use Rattle.vm_base.proofs.DealLemmas.{LeadsAlong-append}
use Rattle.vm_base.proofs.NumberedMaps.{same_numbered}
use Rattle.kernel_meaning.specs.Requests.{Answer, answers_of}
use Rattle.kernel_meaning.specs.Leaves.{CellLeaves}
use Rattle.kernel_meaning.specs.FrameLaw.{cell_at, is_used}
use Rattle.kernel_meaning.specs.EventRequests.{changed_cells, unmapped_at, pages_unmapped, first_in_cell, count_in_cell}
use Rattle.leaf_cell.proofs.AbsentPages.{has_present-never}
use Rattle.leaf_cell.proofs.Without.{in-or-out}
use Rattle.table_levels.specs.Cells.{first_from}
use Rattle.table_levels.specs.Requests.{returned}
use Rattle.page_tables.specs.declared.tables.PageTables.{PageTables}
use Rattle.page_tables.specs.Sides.{Sides}
use Rattle.page_tables.specs.Courses.{progress_between}
use Rattle.page_tables.specs.Making.{Follows, MadeEvent}
use Rattle.page_tables.specs.Clearing.{cell_without, sides_without, pages_without, has_some, IsOutOf}
use Rattle.page_tables.specs.Standing.{TablesStandFor}
use Rattle.leaf_cell.proofs.TouchRuns.{answers-append}
use Rattle.page_tables.proofs.LeafMap.{cell_at-here}
use Rattle.page_tables.proofs.GoneCell.{cell_at-gone}
use Rattle.page_tables.proofs.ClearedCell.{get-retained, beyond-within, beyond-outside}
use Rattle.page_tables.proofs.FirstCell.{IsFirstFrom, first-some}
use Rattle.page_tables.proofs.ChangedCells.{unchanged, one-less, cell-apart, none-before, none-behind, none-empty}
use Rattle.page_tables.proofs.PresentPages.{none-without, none-left}

-- the tables stand for sides from which the unmap goes on behind these deals, and no cell below a number has one of the pages
pub record GoesOnFrom (first n next : ℕ) (sides : Sides) (deals : List Deal) (now : PageTables) : Type 0 where
  pub mid : Sides
  pub stands : TablesStandFor now mid
  pub goes_on : (before : List Deal) (rest : List Answer) → pages_unmapped first n (progress_between sides.leaves sides.made (answers_of deals ++ rest) before) ≡ pages_unmapped first n (progress_between mid.leaves mid.made rest (before ++ deals))
  pub below : (q : ℕ) → q < next → has_some first n q (cell_at mid.leaves q) ≡ false
  pub pages : retain_keys mid.pages (is_beyond first n) ≡ retain_keys sides.pages (is_beyond first n)
  pub snapshots : mid.snapshots ≡ sides.snapshots

-- the unmap has come up to a cell
pub record IsUnmappedUpTo {State : Type 0} (goes : State → Deal → State → Type 0) (from to : State) (first n next : ℕ) (old now : PageTables) : Type 0 where
  pub deals : List Deal
  pub led : LeadsAlong goes from deals to
  pub follows : (sides : Sides) → TablesStandFor old sides → GoesOnFrom first n next sides deals now

-- it begins at the cell of the first page
pub unmap-begins : {State : Type 0} (goes : State → Deal → State → Type 0) (state : State) (first n : ℕ) (old : PageTables) → IsUnmappedUpTo goes state state first n (first / 512) old old
unmap-begins goes state first n old = record {
  deals = [];
  led = refl;
  follows = λ sides st. record {
    mid = sides;
    stands = st;
    goes_on = λ before rest. ap (λ dealt. pages_unmapped first n (progress_between sides.leaves sides.made rest dealt)) (sym (append-nil before));
    below = λ q lt. none-before first n q (cell_at sides.leaves q) lt;
    pages = refl;
    snapshots = refl;
  };
}

-- pages of a cell that lie among n pages go with those
retained-both : (pages : PageMap) (first n c : ℕ) → first / 512 ≤ c → c * 512 < first + n
    → retain_keys (retain_keys pages (is_beyond (c * 512 + first_in_cell c first) (count_in_cell c first n))) (is_beyond first n) ≡ retain_keys pages (is_beyond first n)
retained-both pages first n c from within = same_numbered _ _ (λ q. elim (in-or-out first n q) [
  | inl within_it ↦
      let out : is_beyond first n q ≡ false = beyond-within first n q within_it.0 within_it.1 in
      get-retained part first n q ∙ ap (λ b. cond b (get part q) None) out ∙ sym (get-retained pages first n q ∙ ap (λ b. cond b (get pages q) None) out)
  | inr away ↦
      let out : is_beyond first n q ≡ true = beyond-outside first n q away in
      get-retained part first n q ∙ ap (λ b. cond b (get part q) None) out
      ∙ get-retained pages (c * 512 + first_in_cell c first) (count_in_cell c first n) q
      ∙ ap (λ b. cond b (get pages q) None) (beyond-outside (c * 512 + first_in_cell c first) (count_in_cell c first n) q (apart q away))
      ∙ sym (get-retained pages first n q ∙ ap (λ b. cond b (get pages q) None) out)
])
  where
    part : PageMap
    part = retain_keys pages (is_beyond (c * 512 + first_in_cell c first) (count_in_cell c first n))

    apart : (q : ℕ) → (q < first) ⊎ (first + n ≤ q) → (q < c * 512 + first_in_cell c first) ⊎ (c * 512 + first_in_cell c first + count_in_cell c first n ≤ q)
    apart q (inl lt) = inl (omega (arith, lt))
    apart q (inr le) = inr (omega (arith, le, from, within))

module _ (first n next c s : ℕ) (sides : Sides) (deals : List Deal) (now : PageTables) (goes : GoesOnFrom first n next sides deals now)
    (found : first_from now.directory next ≡ Some (c, s)) (from : first / 512 ≤ next) (within : c * 512 < first + n) (new : PageTables) (freed : ℕ) where
  abbrev mid : Sides
  mid = goes.mid

  is_first : IsFirstFrom now.directory next c s
  is_first = first-some now.directory next c s found

  reached : next ≤ c
  reached = is_first.reached

  before-it : (q : ℕ) → q < c → has_some first n q (cell_at mid.leaves q) ≡ false
  before-it q lt = elim (cases_lt q next) [
    | inl below ↦ goes.below q below
    | inr le ↦ none-empty first n q (cell_at mid.leaves q) (sym (goes.stands.parent q) ∙ ap is_some (is_first.others q le lt))
  ]

  abbrev then : Sides
  then = sides_without c (first_in_cell c first) (count_in_cell c first n) mid

  abbrev after : CellLeaves
  after = cell_without (first_in_cell c first) (count_in_cell c first n) (cell_at mid.leaves c)

  low : first_in_cell c first ≤ length (cell_at mid.leaves c).parent
  low = omega (arith, from, reached, goes.stands.kept.sizes c)

  gone : has_some first n c (cell_at then.leaves c) ≡ false
  gone = elim (is_used after) as (λ b. is_used after ≡ b → has_some first n c (cell_at then.leaves c) ≡ false) [
    | true ↦ λ used. ap (has_some first n c) (cell_at-here mid.leaves c after used c refl) ∙ none-without (cell_at mid.leaves c).parent (first_in_cell c first) (count_in_cell c first n) low
    | false ↦ λ unused. ap (has_some first n c) (cell_at-gone mid.leaves c after unused c refl) ∙ has_present-never (first_in_cell c first) (count_in_cell c first n)
  ] refl

  all_answers : (rest : List Answer) → answers_of (deals ++ returned freed) ++ rest ≡ answers_of deals ++ (answers_of (returned freed) ++ rest)
  all_answers rest = ap (λ answers. answers ++ rest) (answers-append deals (returned freed)) ∙ append_assoc (answers_of deals) (answers_of (returned freed)) rest

  next-step : (b : Bool) → has_some first n c (cell_at mid.leaves c) ≡ b → IsOutOf b c first n new freed mid → GoesOnFrom first n (c + 1) sides (deals ++ returned freed) new
  next-step true here out =
      let less : changed_cells mid.leaves first n ≡ c ∷ changed_cells then.leaves first n =
      one-less first n mid.leaves then.leaves c goes.stands.kept.sorted out.0.kept.sorted here before-it (cell-apart mid.leaves c after) gone in
      record {
        mid = then;
        stands = out.0;
        goes_on = λ before rest.
            let coming : List Answer = answers_of (returned freed) ++ rest in
            ap (λ answers. pages_unmapped first n (progress_between sides.leaves sides.made answers before)) (all_answers rest)
            ∙ goes.goes_on before coming
            ∙ ap (λ cells. unmapped_at cells first n (progress_between mid.leaves mid.made coming (before ++ deals))) less
            ∙ ap (unmapped_at (changed_cells then.leaves first n) first n) (out.1.runs (before ++ deals) rest)
            ∙ ap (λ dealt. unmapped_at (changed_cells then.leaves first n) first n (progress_between then.leaves mid.made rest dealt)) (append_assoc before deals (returned freed));
        below = λ q lt. elim (cases_eq q c) [
          | inl same ↦ ap (λ m. has_some first n m (cell_at then.leaves m)) same ∙ gone
          | inr apart ↦ ap (has_some first n q) (cell-apart mid.leaves c after q apart) ∙ before-it q (omega (arith, lt, apart))
        ];
        pages = retained-both mid.pages first n c (omega (arith, from, reached)) within ∙ goes.pages;
        snapshots = goes.snapshots;
      }
  next-step false none out =
      let no_deal : returned freed ≡ [] = ap returned out.1 in
      record {
        mid = mid;
        stands = out.0;
        goes_on = λ before rest.
            ap (λ dealt. pages_unmapped first n (progress_between sides.leaves sides.made (answers_of dealt ++ rest) before)) (ap (λ more. deals ++ more) no_deal ∙ append-nil deals)
            ∙ goes.goes_on before rest
            ∙ ap (λ dealt. pages_unmapped first n (progress_between mid.leaves mid.made rest (before ++ dealt))) (sym (ap (λ more. deals ++ more) no_deal ∙ append-nil deals));
        below = λ q lt. elim (cases_eq q c) [
          | inl same ↦ ap (λ m. has_some first n m (cell_at mid.leaves m)) same ∙ none
          | inr apart ↦ before-it q (omega (arith, lt, apart))
        ];
        pages = goes.pages;
        snapshots = goes.snapshots;
      }

-- it goes on behind one cell more
pub unmap-goes-on : {State : Type 0} (goes : State → Deal → State → Type 0) (start middle end : State) (first n next c s : ℕ) (old now new : PageTables) (freed : ℕ)
    → IsUnmappedUpTo goes start middle first n next old now → first_from now.directory next ≡ Some (c, s) → first / 512 ≤ next → c * 512 < first + n
    → LeadsAlong goes middle (returned freed) end → ((sides : Sides) → TablesStandFor now sides → IsOutOf (has_some first n c (cell_at sides.leaves c)) c first n new freed sides)
    → IsUnmappedUpTo goes start end first n (c + 1) old new
unmap-goes-on goes start middle end first n next c s old now new freed up found from within led out = record {
  deals = up.deals ++ returned freed;
  led = LeadsAlong-append goes up.deals (returned freed) start middle end up.led led;
  follows = λ sides st.
      let on : GoesOnFrom first n next sides up.deals now = up.follows sides st in
      next-step first n next c s sides up.deals now on found from within new freed (has_some first n c (cell_at on.mid.leaves c)) refl (out on.mid on.stands);
}

-- it ends where no cell from there on has one of the pages
pub unmap-ends : {State : Type 0} (goes : State → Deal → State → Type 0) (start end : State) (first n next : ℕ) (old now : PageTables) → IsUnmappedUpTo goes start end first n next old now
    → ((q : ℕ) → next ≤ q → (get now.directory q ≡ None) ⊎ (first + n ≤ q * 512)) → MadeEvent goes start end (pages_unmapped first n) (pages_without first n) old now None
unmap-ends goes start end first n next old now up rest_of = record {
  deals = up.deals;
  led = up.led;
  follows = λ sides st. by sides (up.follows sides st);
}
  where
    by : (sides : Sides) → GoesOnFrom first n next sides up.deals now → Follows (pages_unmapped first n) (pages_without first n) now up.deals None sides
    by sides on = record {
      leaves = on.mid.leaves;
      made = on.mid.made;
      runs = record {
        runs = λ before rest. on.goes_on before rest
            ∙ ap (λ cells. unmapped_at cells first n (progress_between on.mid.leaves on.mid.made rest (before ++ up.deals))) (unchanged first n on.mid.leaves on.stands.kept.sorted none);
      };
      stands = subst (λ pages. TablesStandFor now (record { leaves = on.mid.leaves; pages = pages; snapshots = sides.snapshots; made = on.mid.made }))
          (none-left now on.mid on.stands first n none ∙ on.pages)
          (subst (λ snapshots. TablesStandFor now (record { leaves = on.mid.leaves; pages = on.mid.pages; snapshots = snapshots; made = on.mid.made })) on.snapshots on.stands);
    }
      where
        none : (q : ℕ) → has_some first n q (cell_at on.mid.leaves q) ≡ false
        none q = elim (cases_lt q next) [
          | inl lt ↦ on.below q lt
          | inr le ↦ elim (rest_of q le) [
            | inl absent ↦ none-empty first n q (cell_at on.mid.leaves q) (sym (on.stands.parent q) ∙ ap is_some absent)
            | inr above ↦ none-behind first n q (cell_at on.mid.leaves q) above
          ]
        ]
