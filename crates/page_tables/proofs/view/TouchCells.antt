-- The touch of pages gives slots to their cells alone.
use Rattle.std.proofs.Common.{◌≡◌, ℕ, zero, suc, ◌+◌, ◌≤◌, ◌<◌, Bool, true, false, cond, List, [], ◌∷◌, ◌++◌, filter, Option, Some, None, refl, sym, ◌∙◌, ap, subst, arith, inl, inr, ◌⊎◌}
use Rattle.std.specs.Prelude.{not, ◌==◌, is_some}
use Rattle.std.specs.List.{AllByRecursion}
use Rattle.std.specs.Ordering.{nat_cmp, eq_by_cmp}
use Rattle.std.specs.FinMap.{find}
use Rattle.std.proofs.lemmas.Bool.{cases_Bool, cases_eq, cond-false}
use Rattle.vm_base.specs.Places.{cell_of}
use Rattle.kernel_meaning.specs.Requests.{asked_in_row}
use Rattle.kernel_meaning.specs.Leaves.{CellLeaves, without_versions}
use Rattle.kernel_meaning.specs.CellActs.{Course, course_touched}
use Rattle.kernel_meaning.specs.FrameLaw.{Leaves, cell_at, with_cell, is_used, parent_cells}
use Rattle.kernel_meaning.specs.EventRequests.{Progress, FrameRefusal, page_in_cell, course_at, page_version, without_page, without_pages, missing_tables, tables_answered, cell_touch_ended, page_touched, touch_goes_on, added_by, pages_touched_behind}
use Rattle.page_tables.proofs.LeafMap.{find-apart}

-- a cell has a slot
abbrev pub HasSlot : ℕ → Leaves → Type 0
HasSlot q leaves = is_some (find nat_cmp q leaves) ≡ true

-- ---- one cell changes

found-behind : {X : Type 0} (same : Bool) (here : X) (one other : Option X) → (is_some one ≡ true → is_some other ≡ true) → is_some (cond same (Some here) one) ≡ true → is_some (cond same (Some here) other) ≡ true
found-behind true here one other kept there = refl
found-behind false here one other kept there = kept there

found-later : {X : Type 0} (same : Bool) (here : X) (other : Option X) → is_some other ≡ true → is_some (cond same (Some here) other) ≡ true
found-later true here other there = refl
found-later false here other there = there

-- what is found among some entries is found among all
found-filtered : (test : ℕ × CellLeaves → Bool) (q : ℕ) (leaves : Leaves) → HasSlot q (filter test leaves) → HasSlot q leaves
found-filtered test q [] there = there
found-filtered test q (e ∷ leaves) there =
    elim (test e) as (λ b. HasSlot q (cond b (e ∷ filter test leaves) (filter test leaves)) → HasSlot q (e ∷ leaves)) [
      | true ↦ λ there. found-behind (eq_by_cmp nat_cmp q e.0) e.1 (find nat_cmp q (filter test leaves)) (find nat_cmp q leaves) (found-filtered test q leaves) there
      | false ↦ λ there. found-later (eq_by_cmp nat_cmp q e.0) e.1 (find nat_cmp q leaves) (found-filtered test q leaves there)
    ] there

-- a cell that has a slot where another changes had one, or is that one
found-with_cell : (leaves : Leaves) (c : ℕ) (cell : CellLeaves) (q : ℕ) → HasSlot q (with_cell leaves c cell) → HasSlot q leaves ⊎ (q ≡ c)
found-with_cell leaves c cell q there = elim (cases_eq q c) [
  | inl here ↦ inr here
  | inr apart ↦ inl (elim (cases_Bool (is_used cell)) [
    | inl used ↦ ap is_some (sym (find-apart leaves c cell used q apart)) ∙ there
    | inr unused ↦ found-filtered (λ entry. not (entry.0 == c)) q leaves (subst (HasSlot q) (cond-false (is_used cell) _ _ unused) there)
  ])
]

-- ---- pages are touched

module _ (P : ℕ → Type 0) (q : ℕ) where
  -- a cell that has a slot had one before, or passes
  abbrev Had : Leaves → Leaves → Type 0
  Had before after = HasSlot q after → HasSlot q before ⊎ P q

  had-cell : (leaves : Leaves) (c : ℕ) (cell : CellLeaves) → P c → Had leaves (with_cell leaves c cell)
  had-cell leaves c cell passes there = elim (found-with_cell leaves c cell q there) [
    | inl before ↦ inl before
    | inr here ↦ inr (subst P (sym here) passes)
  ]

  had-more : (first second third : Leaves) → Had first second → Had second third → Had first third
  had-more first second third before after there = elim (after there) [ inl then ↦ before then | inr passes ↦ inr passes ]

  had-without : (pages : List ℕ) (leaves : Leaves) → AllByRecursion (λ page. P (cell_of page)) pages → Had leaves (without_pages pages leaves)
  had-without [] leaves all = λ there. inl there
  had-without (page ∷ pages) leaves all =
      let cell : CellLeaves = cell_at leaves (cell_of page) in
      let less : CellLeaves = record cell { parent = without_versions cell.parent (page_in_cell page) 1 } in
      had-more leaves (without_page page leaves) (without_pages pages (without_page page leaves)) (had-cell leaves (cell_of page) less all.0) (had-without pages (without_page page leaves) all.1)

  had-ended : (refused : Option ℕ) (page tables : ℕ) (progress : Progress) (before : Leaves) → Had before progress.leaves → Had before (cell_touch_ended refused page tables progress).leaves
  had-ended None page tables progress before had = had
  had-ended (Some at) page tables progress before had = had

  had-answered : (refused : Option ℕ) (page tables : ℕ) (progress : Progress) → P (cell_of page) → Had progress.leaves (tables_answered refused page tables progress).leaves
  had-answered None page tables progress passes =
      let course : Course = course_touched (page_in_cell page) (course_at (cell_of page) progress) in
      had-ended course.refused page tables _ progress.leaves (had-cell progress.leaves (cell_of page) course.cell passes)
  had-answered (Some at) page tables progress passes = λ there. inl there

  had-page : (page : ℕ) (progress : Progress) → P (cell_of page) → Had progress.leaves (page_touched page progress).leaves
  had-page page progress passes =
      let row = asked_in_row (missing_tables (parent_cells progress.leaves) (cell_of page)) progress.requests in
      had-answered row.refused page row.granted (record progress { requests = row.requests }) passes

  -- pages that a touch adds pass where the page does
  added-pass : (leaves : Leaves) (page : ℕ) (added : List ℕ) → P (cell_of page) → AllByRecursion (λ page. P (cell_of page)) added → AllByRecursion (λ page. P (cell_of page)) (added ++ added_by leaves page)
  added-pass leaves page [] passes all =
      elim (is_some (page_version leaves page)) as (λ b. AllByRecursion (λ page. P (cell_of page)) (cond b [] (page ∷ []))) [ true ↦ tt | false ↦ (passes, tt) ]
  added-pass leaves page (other ∷ added) passes all = (all.0, added-pass leaves page added passes all.1)

  -- behind the touch of pages whose cells pass
  pub had-pages : (n first : ℕ) (added : List ℕ) (progress : Progress) → ((page : ℕ) → first ≤ page → page < first + n → P (cell_of page)) → AllByRecursion (λ page. P (cell_of page)) added
      → Had progress.leaves (pages_touched_behind added first n progress).leaves
  had-pages zero first added progress pass all = λ there. inl there
  had-pages (suc n) first added progress pass all =
      by (page_touched first progress).refused
      (had-pages n (first + 1) (added ++ added_by progress.leaves first) (page_touched first progress) (λ page low high. pass page (omega arith) (omega arith))
      (added-pass progress.leaves first added (pass first (omega arith) (omega arith)) all))
    where
      by : (refused : Option FrameRefusal)
          → Had (page_touched first progress).leaves (pages_touched_behind (added ++ added_by progress.leaves first) (first + 1) n (page_touched first progress)).leaves
          → Had progress.leaves
          (touch_goes_on refused added (page_touched first progress) (pages_touched_behind (added ++ added_by progress.leaves first) (first + 1) n (page_touched first progress))).leaves
      by None further = had-more progress.leaves (page_touched first progress).leaves _ (had-page first progress (pass first (omega arith) (omega arith))) further
      by (Some refusal) further =
          had-more progress.leaves (page_touched first progress).leaves (without_pages added (page_touched first progress).leaves)
          (had-page first progress (pass first (omega arith) (omega arith))) (had-without added (page_touched first progress).leaves all)
