-- The number of requests made so far is that of the deals: no act of a cell and no event counts otherwise.
use Rattle.std.proofs.Common.{◌≡◌, ℕ, zero, suc, ◌+◌, Bool, true, false, List, [], ◌∷◌, ◌++◌, Option, refl, sym, ◌∙◌, ap}
use Rattle.std.specs.Prelude.{Some, None, if◌then◌else◌, replicate}
use Rattle.vm_base.specs.declared.fork_mode.Mode.{Mode}
use Rattle.vm_base.specs.declared.frame_request.Want.{Want}
use Rattle.vm_base.specs.declared.frame_request.Want.TheVariants as want
use Rattle.vm_base.specs.Places.{cell_of}
use Rattle.vm_base.specs.Deals.{Deal, Granted, Denied, Returned}
use Rattle.kernel_meaning.specs.Requests.{Answer, Yes, No, Requests, next_answer, deal_of, asked, given_back, RowEnd, row_end, asked_in_row}
use Rattle.kernel_meaning.specs.Leaves.{Kept, has_pages, has_present, is_named, is_shared, is_marked, kept_by, version_at}
use Rattle.kernel_meaning.specs.CellActs.{Course, coming_answer, asking, leaf_copy_answered, leaf_copied, leaves_copied, numbers_where, before_change, page_copy_answered, present_touched, new_page_answered, new_page_asked, parent_leaf_answered, absent_touched, touched_as, course_touched, pages_cleared, cleared, protected, copy_answered, copied_as}
use Rattle.kernel_meaning.specs.FrameLaw.{parent_cells}
use Rattle.kernel_meaning.specs.EventRequests.{FrameRefusal, Progress, course_at, with_course, page_in_cell, missing_tables, cell_touch_ended, cell_touched, tables_answered, page_touched, touch_goes_on, pages_touched_behind, pages_touched, added_by, fork_wants, fork_answered, snapshot_forked, snapshot_copied, snapshot_dropped, unmapped_at, pages_unmapped, protected_at, pages_protected, first_in_cell, count_in_cell, changed_cells}
use Rattle.trace_core.specs.Answering.{made_after}

-- requests that began behind so many have counted their deals
abbrev pub Tallies : ℕ → Requests → Type 0
Tallies start requests = requests.made ≡ made_after start requests.deals

made_after-append : (first second : List Deal) (made : ℕ) → made_after made (first ++ second) ≡ made_after (made_after made first) second
made_after-append [] second made = refl
made_after-append (Granted want ∷ first) second made = made_after-append first second (made + 1)
made_after-append (Denied want at ∷ first) second made = made_after-append first second (made + 1)
made_after-append (Returned ∷ first) second made = made_after-append first second made

one_made : (want : Want) (answer : Answer) (made : ℕ) → made_after made (deal_of want answer ∷ []) ≡ made + 1
one_made want Yes made = refl
one_made want (No at) made = refl

none_made : (n made : ℕ) → made_after made (replicate n Returned) ≡ made
none_made zero made = refl
none_made (suc n) made = none_made n made

module _ (start : ℕ) where
  tally-asked : (wanted : Want) (requests : Requests) → Tallies start requests → Tallies start (asked wanted requests)
  tally-asked wanted requests before =
      ap (λ made. made + 1) before
      ∙ sym (made_after-append requests.deals (deal_of wanted (next_answer requests) ∷ []) start ∙ one_made wanted (next_answer requests) (made_after start requests.deals))

  tally-given : (n : ℕ) (requests : Requests) → Tallies start requests → Tallies start (given_back n requests)
  tally-given n requests before =
      before ∙ sym (made_after-append requests.deals (replicate n Returned) start ∙ none_made n (made_after start requests.deals))

  -- ---- acts at a cell

  abbrev At : Course → Type 0
  At course = Tallies start course.requests

  either : (b : Bool) (x y : Course) → At x → At y → At (if b then x else y)
  either true x y this that = this
  either false x y this that = that

  tally-leaf_copy : (n : ℕ) (answer : Answer) (course : Course) → At course → At (leaf_copy_answered n answer course)
  tally-leaf_copy n Yes course before = before
  tally-leaf_copy n (No at) course before = tally-given _ course.requests before

  tally-leaves_copied : (ns : List ℕ) (course : Course) → At course → At (leaves_copied ns course)
  tally-leaves_copied [] course before = before
  tally-leaves_copied (n ∷ ns) course before = tally-leaves_copied ns (leaf_copied n course)
      (tally-leaf_copy n (coming_answer course) (asking want.Leaf course) (tally-asked want.Leaf course.requests before))

  tally-before_change : (course : Course) → At course → At (before_change course)
  tally-before_change course before =
      let unshared = leaves_copied (numbers_where is_shared course.cell) course in
      tally-leaves_copied (numbers_where is_marked unshared.cell) unshared (tally-leaves_copied (numbers_where is_shared course.cell) course before)

  tally-page_copy : (page version : ℕ) (answer : Answer) (course : Course) → At course → At (page_copy_answered page version answer course)
  tally-page_copy page version Yes course before = before
  tally-page_copy page version (No at) course before = tally-given _ course.requests before

  tally-present : (page version : ℕ) (course : Course) → At course → At (present_touched page version course)
  tally-present page version course before =
      either (is_named course.cell page version) (page_copy_answered page version (coming_answer course) (asking want.Page course)) course
      (tally-page_copy page version (coming_answer course) (asking want.Page course) (tally-asked want.Page course.requests before)) before

  tally-new_page_answered : (page leaves : ℕ) (answer : Answer) (course : Course) → At course → At (new_page_answered page leaves answer course)
  tally-new_page_answered page leaves Yes course before = before
  tally-new_page_answered page leaves (No at) course before = tally-given leaves course.requests before

  tally-new_page : (page leaves : ℕ) (course : Course) → At course → At (new_page_asked page leaves course)
  tally-new_page page leaves course before =
      tally-new_page_answered page leaves (coming_answer course) (asking want.Page course) (tally-asked want.Page course.requests before)

  tally-parent_leaf : (page : ℕ) (answer : Answer) (course : Course) → At course → At (parent_leaf_answered page answer course)
  tally-parent_leaf page Yes course before = tally-new_page page 1 (before_change course) (tally-before_change course before)
  tally-parent_leaf page (No at) course before = tally-given 0 course.requests before

  tally-absent : (page : ℕ) (course : Course) → At course → At (absent_touched page course)
  tally-absent page course before =
      either (has_pages course.cell.parent) (new_page_asked page 0 (before_change course)) (parent_leaf_answered page (coming_answer course) (asking want.Leaf course))
      (tally-new_page page 0 (before_change course) (tally-before_change course before))
      (tally-parent_leaf page (coming_answer course) (asking want.Leaf course) (tally-asked want.Leaf course.requests before))

  tally-touched_as : (version : Option ℕ) (page : ℕ) (course : Course) → At course → At (touched_as version page course)
  tally-touched_as None page course before = tally-absent page course before
  tally-touched_as (Some version) page course before = tally-present page version (before_change course) (tally-before_change course before)

  tally-touched : (page : ℕ) (course : Course) → At course → At (course_touched page course)
  tally-touched page course before = tally-touched_as (version_at course.cell.parent page) page course before

  tally-cleared : (first n : ℕ) (course : Course) → At course → At (cleared first n course)
  tally-cleared first n course before =
      either (has_present course.cell.parent first n) (pages_cleared first n (before_change course)) course
      (tally-given _ (before_change course).requests (tally-before_change course before)) before

  tally-protected : (first n : ℕ) (course : Course) → At course → At (protected first n course)
  tally-protected first n course before =
      either (has_present course.cell.parent first n) (before_change course) course (tally-before_change course before) before

  tally-copy_answered : (n : ℕ) (answer : Answer) (course : Course) → At course → At (copy_answered n answer course)
  tally-copy_answered n Yes course before = before
  tally-copy_answered n (No at) course before = tally-given 0 course.requests before

  tally-copied_as : (kept : Option Kept) (n : ℕ) (course : Course) → At course → At (copied_as kept n course)
  tally-copied_as None n course before = before
  tally-copied_as (Some kept) n course before =
      either (is_marked kept) (copy_answered n (coming_answer course) (asking want.Leaf course)) course
      (tally-copy_answered n (coming_answer course) (asking want.Leaf course) (tally-asked want.Leaf course.requests before)) before

  -- ---- events

  abbrev pub Over : Progress → Type 0
  Over progress = Tallies start progress.requests

  tally-row_end : (answer : Answer) (requests : Requests) (rest : RowEnd) → Tallies start requests → Tallies start rest.requests → Tallies start (row_end answer requests rest).requests
  tally-row_end Yes requests rest here behind = behind
  tally-row_end (No at) requests rest here behind = here

  tally-row : (wants : List Want) (requests : Requests) → Tallies start requests → Tallies start (asked_in_row wants requests).requests
  tally-row [] requests before = before
  tally-row (wanted ∷ wants) requests before =
      let here = tally-asked wanted requests before in
      tally-row_end (next_answer requests) (asked wanted requests) (asked_in_row wants (asked wanted requests)) here (tally-row wants (asked wanted requests) here)

  tally-cell_touch_ended : (refused : Option ℕ) (page tables : ℕ) (progress : Progress) → Over progress → Over (cell_touch_ended refused page tables progress)
  tally-cell_touch_ended None page tables progress before = before
  tally-cell_touch_ended (Some at) page tables progress before = tally-given tables progress.requests before

  tally-cell_touched : (page tables : ℕ) (progress : Progress) → Over progress → Over (cell_touched page tables progress)
  tally-cell_touched page tables progress before =
      let course = course_touched (page_in_cell page) (course_at (cell_of page) progress) in
      tally-cell_touch_ended course.refused page tables (with_course (cell_of page) course progress)
      (tally-touched (page_in_cell page) (course_at (cell_of page) progress) before)

  tally-tables : (refused : Option ℕ) (page tables : ℕ) (progress : Progress) → Over progress → Over (tables_answered refused page tables progress)
  tally-tables None page tables progress before = tally-cell_touched page tables progress before
  tally-tables (Some at) page tables progress before = tally-given tables progress.requests before

  tally-page : (page : ℕ) (progress : Progress) → Over progress → Over (page_touched page progress)
  tally-page page progress before =
      let wants = missing_tables (parent_cells progress.leaves) (cell_of page) in
      let row = asked_in_row wants progress.requests in
      tally-tables row.refused page row.granted (record progress { requests = row.requests }) (tally-row wants progress.requests before)

  tally-goes_on : (refused : Option FrameRefusal) (added : List ℕ) (progress rest : Progress) → Over progress → Over rest → Over (touch_goes_on refused added progress rest)
  tally-goes_on None added progress rest before behind = behind
  tally-goes_on (Some refusal) added progress rest before behind = tally-given _ progress.requests before

  tally-pages : (n first : ℕ) (added : List ℕ) (progress : Progress) → Over progress → Over (pages_touched_behind added first n progress)
  tally-pages zero first added progress before = before
  tally-pages (suc n) first added progress before =
      let next = page_touched first progress in
      let here = tally-page first progress before in
      tally-goes_on next.refused added next (pages_touched_behind (added ++ added_by progress.leaves first) (first + 1) n next)
      here (tally-pages n (first + 1) (added ++ added_by progress.leaves first) next here)

  pub tally-pages_touched : (first n : ℕ) (progress : Progress) → Over progress → Over (pages_touched first n progress)
  tally-pages_touched first n progress before = tally-pages n first [] progress before

  tally-fork_answered : (refused : Option ℕ) (taken n : ℕ) (mode : Mode) (progress : Progress) → Over progress → Over (fork_answered refused taken n mode progress)
  tally-fork_answered None taken n mode progress before = before
  tally-fork_answered (Some at) taken n mode progress before = tally-given taken progress.requests before

  pub tally-forked : (n : ℕ) (mode : Mode) (progress : Progress) → Over progress → Over (snapshot_forked n mode progress)
  tally-forked n mode progress before =
      let wants = fork_wants mode (parent_cells progress.leaves) in
      let row = asked_in_row wants progress.requests in
      tally-fork_answered row.refused row.granted n mode (record progress { requests = row.requests }) (tally-row wants progress.requests before)

  pub tally-copied : (n cell : ℕ) (progress : Progress) → Over progress → Over (snapshot_copied n cell progress)
  tally-copied n cell progress before =
      let course = course_at cell progress in tally-copied_as (kept_by course.cell.kept n) n course before

  pub tally-dropped : (n : ℕ) (progress : Progress) → Over progress → Over (snapshot_dropped n progress)
  tally-dropped n progress before = tally-given _ progress.requests before

  tally-unmapped_at : (cells : List ℕ) (first n : ℕ) (progress : Progress) → Over progress → Over (unmapped_at cells first n progress)
  tally-unmapped_at [] first n progress before = before
  tally-unmapped_at (cell ∷ cells) first n progress before =
      let course = cleared (first_in_cell cell first) (count_in_cell cell first n) (course_at cell progress) in
      tally-unmapped_at cells first n _ (tally-given _ course.requests
      (tally-cleared (first_in_cell cell first) (count_in_cell cell first n) (course_at cell progress) before))

  pub tally-unmapped : (first n : ℕ) (progress : Progress) → Over progress → Over (pages_unmapped first n progress)
  tally-unmapped first n progress before = tally-unmapped_at (changed_cells progress.leaves first n) first n progress before

  tally-protected_at : (cells : List ℕ) (first n : ℕ) (progress : Progress) → Over progress → Over (protected_at cells first n progress)
  tally-protected_at [] first n progress before = before
  tally-protected_at (cell ∷ cells) first n progress before =
      let course = protected (first_in_cell cell first) (count_in_cell cell first n) (course_at cell progress) in
      tally-protected_at cells first n (with_course cell course progress)
      (tally-protected (first_in_cell cell first) (count_in_cell cell first n) (course_at cell progress) before)

  pub tally-protect : (first n : ℕ) (progress : Progress) → Over progress → Over (pages_protected first n progress)
  tally-protect first n progress before = tally-protected_at (changed_cells progress.leaves first n) first n progress before
