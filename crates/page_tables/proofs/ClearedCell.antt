-- The clear of some pages in a cell without joined leaves, and the pages that are left.
use Rattle.std.proofs.Common.{◌≡◌, ◌≢◌, ℕ, ◌+◌, ◌-◌, ◌*◌, ◌/◌, ◌<◌, ◌≤◌, [], ◌∷◌, ◌++◌, replicate, take, drop, Some, None, cond, refl, sym, ◌∙◌, ap, arith, inl, inr, ◌⊎◌, append_assoc}
use Rattle.std.specs.Prelude.{true, false, is_some, suc, zero}
use Rattle.std.specs.List.{list_any}
use Rattle.std.specs.FinMap.{get, retain_keys, get-retain_keys}
use Rattle.std.proofs.lemmas.Bool.{cases_lt, false≢true}
use Rattle.std.proofs.lemmas.Bool.Decides.{nat_tests}
use Rattle.std.proofs.lemmas.Map.Lookups.{exact_unsigned}
use Rattle.vm_base.specs.Deals.{Returned}
use Rattle.vm_base.specs.FlatMemory.{PageMap}
use Rattle.vm_base.specs.FlatStep.{is_beyond}
use Rattle.vm_base.specs.Places.{directory_frames}
use Rattle.kernel_meaning.specs.Requests.{Requests, answers_of, given_back}
use Rattle.kernel_meaning.specs.Leaves.{CellLeaves, Versions, has_present, has_pages, share}
use Rattle.kernel_meaning.specs.FrameLaw.{Leaves, cell_at, with_cell, parent_cells}
use Rattle.kernel_meaning.specs.CellActs.{Course, opening_course, before_change, pages_cleared, cleared}
use Rattle.kernel_meaning.specs.EventRequests.{Progress, with_course, directory_shrunk}
use Rattle.leaf_cell.specs.CellView.{AreUnjoined}
use Rattle.leaf_cell.proofs.TouchCourses.{before_change-none}
use Rattle.leaf_cell.proofs.Releases.{replicate-both}
use Rattle.table_levels.specs.Requests.{returned}
use Rattle.page_tables.specs.Clearing.{cell_without, cell_unmapped}
use Rattle.page_tables.specs.Courses.{progress_between, Runs}
use Rattle.leaf_cell.proofs.TouchRuns.{answers-returned}

-- the frames that a cell gives back with these pages
abbrev pub share_freed : ℕ → ℕ → CellLeaves → ℕ
share_freed first n cell = share cell - share (cell_without first n cell)

-- the clear of pages of which one is present
pub cleared-is : (first n : ℕ) (cell : CellLeaves) (requests : Requests) → has_present cell.parent first n ≡ true → AreUnjoined cell.kept
    → cleared first n (opening_course cell requests) ≡ record { cell = cell_without first n cell; requests = given_back (share_freed first n cell) requests; refused = None }
cleared-is first n cell requests present unjoined =
    let course : Course = opening_course cell requests in
    ap (λ b. cond b (pages_cleared first n (before_change course)) course) present
    ∙ ap (pages_cleared first n) (before_change-none course unjoined)

-- the directory tables that are given back between these leaves
abbrev pub tables_freed : Leaves → Leaves → ℕ
tables_freed before after = directory_frames (parent_cells before) - directory_frames (parent_cells after)

-- the unmap of pages of which one is present, in one cell
pub unmapped-runs : (c first n : ℕ) (leaves : Leaves) (made : ℕ) → has_present (cell_at leaves c).parent first n ≡ true → AreUnjoined (cell_at leaves c).kept
    → (freed : ℕ) → freed ≡ share_freed first n (cell_at leaves c) + tables_freed leaves (with_cell leaves c (cell_without first n (cell_at leaves c)))
    → Runs (cell_unmapped c first n) leaves made (returned freed) (with_cell leaves c (cell_without first n (cell_at leaves c))) made None
unmapped-runs c first n leaves made present unjoined freed whole = record {
  runs = λ before rest.
      let after : Leaves = with_cell leaves c (cell_without first n (cell_at leaves c)) in
      let a : ℕ = share_freed first n (cell_at leaves c) in
      let b : ℕ = tables_freed leaves after in
      let told : answers_of (returned freed) ++ rest ≡ rest = ap (λ answers. answers ++ rest) (answers-returned freed) in
      let start : Progress = progress_between leaves made rest before in
      let dealt : (before ++ replicate a Returned) ++ replicate b Returned ≡ before ++ returned freed =
      append_assoc before (replicate a Returned) (replicate b Returned) ∙ ap (λ deals. before ++ deals) (replicate-both Returned a b ∙ ap returned (sym whole)) in
      ap (λ coming. cell_unmapped c first n (progress_between leaves made coming before)) told
      ∙ ap (λ course. directory_shrunk leaves (with_course c course start)) (cleared-is first n (cell_at leaves c) start.requests present unjoined)
      ∙ ap (λ deals. progress_between after made rest deals) dealt;
}

-- ---- pages

pub get-retained : (pages : PageMap) (first n p : ℕ) → get (retain_keys pages (is_beyond first n)) p ≡ cond (is_beyond first n p) (get pages p) None
get-retained pages first n p = get-retain_keys pages (is_beyond first n) p (λ x same. ap (is_beyond first n) (sym (exact_unsigned p x same)))

pub beyond-moved : (k first n p : ℕ) → is_beyond first n p ≡ is_beyond (k + first) n (k + p)
beyond-moved k first n p = grind (arith, nat_tests)

pub beyond-outside : (first n p : ℕ) → (p < first) ⊎ (first + n ≤ p) → is_beyond first n p ≡ true
beyond-outside first n p outside = grind (arith, nat_tests)

pub beyond-within : (first n p : ℕ) → first ≤ p → p < first + n → is_beyond first n p ≡ false
beyond-within first n p above below = grind (arith, nat_tests)

-- pages of a cell go, on both sides
pub retained-inside : (cell_pages pages : PageMap) (c first n : ℕ) → ((p : ℕ) → p < 512 → get cell_pages p ≡ get pages (c * 512 + p))
    → (p : ℕ) → p < 512 → get (retain_keys cell_pages (is_beyond first n)) p ≡ get (retain_keys pages (is_beyond (c * 512 + first) n)) (c * 512 + p)
retained-inside cell_pages pages c first n alike p small =
    get-retained cell_pages first n p
    ∙ (λ i. cond (beyond-moved (c * 512) first n p i) (alike p small i) None)
    ∙ sym (get-retained pages (c * 512 + first) n (c * 512 + p))

pub retained-outside : (pages : PageMap) (c first n : ℕ) → first + n ≤ 512 → (q : ℕ) → q / 512 ≢ c → get (retain_keys pages (is_beyond (c * 512 + first) n)) q ≡ get pages q
retained-outside pages c first n fits q apart =
    get-retained pages (c * 512 + first) n q ∙ ap (λ b. cond b (get pages q) None) (beyond-outside (c * 512 + first) n q outside)
  where
    outside : (q < c * 512 + first) ⊎ (c * 512 + first + n ≤ q)
    outside = elim (cases_lt q (c * 512)) [
      | inl below ↦ inl (omega arith)
      | inr from ↦ elim (cases_lt q (c * 512 + 512)) [
        | inl within ↦ absurd (apart (omega arith))
        | inr above ↦ inr (omega arith)
      ]
    ]

-- where some of the pages are present, some page is
pub present-pages : (versions : Versions) (first n : ℕ) → has_present versions first n ≡ true → has_pages versions ≡ true
present-pages versions first n present = any-drop first versions (any-take n (drop first versions) present)
  where
    any-take : (k : ℕ) (xs : Versions) → list_any is_some (take k xs) ≡ true → list_any is_some xs ≡ true
    any-take zero xs h = absurd (false≢true h)
    any-take (suc k) [] h = h
    any-take (suc k) (None ∷ xs) h = any-take k xs h
    any-take (suc k) (Some v ∷ xs) h = refl

    any-drop : (k : ℕ) (xs : Versions) → list_any is_some (drop k xs) ≡ true → list_any is_some xs ≡ true
    any-drop zero xs h = h
    any-drop (suc k) [] h = h
    any-drop (suc k) (None ∷ xs) h = any-drop k xs h
    any-drop (suc k) (Some v ∷ xs) h = refl
