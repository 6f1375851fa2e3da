-- The page that a refused touch names is one of the range, and was absent before it.
use Rattle.std.proofs.Common.{◌≡◌, ◌≢◌, ℕ, ◌+◌, ◌*◌, ◌/◌, ◌%◌, ◌<◌, ◌≤◌, List, [], ◌∷◌, ◌++◌, Option, Some, None, cond, refl, sym, ◌∙◌, ap, subst, arith, inl, inr}
use Rattle.std.specs.Prelude.{Bool, true, false, not, ◌||◌, ◌==◌, zero, suc, is_some, IsSome, filter, map, unwrap_or}
use Rattle.std.specs.Ordering.{nat_cmp, eq_by_cmp}
use Rattle.std.specs.FinMap.{find, get, put}
use Rattle.std.proofs.lemmas.Bool.{cases_eq, cases_Bool, eq-eqb, ne_eqb, false≢true}
use Rattle.vm_base.specs.Places.{page_of, page_count, cell_of}
use Rattle.vm_base.specs.declared.frame_request.Want.TheVariants as want
use Rattle.vm_base.specs.Deals.{Deal}
use Rattle.vm_base.specs.MemoryCalls.{IsInRange}
use Rattle.kernel_meaning.specs.Requests.{Answer, Yes, No, answers_of, asked_in_row}
use Rattle.kernel_meaning.specs.Leaves.{CellLeaves, Versions, unused_cell, version_at, with_version, has_pages, is_named, is_shared, is_marked}
use Rattle.kernel_meaning.specs.CellActs.{Course, asking, coming_answer, numbers_where, leaf_copied, leaf_copy_answered, leaves_copied, before_change, page_copy_answered, new_page_answered, new_page_asked, parent_leaf_answered, touched_as, course_touched}
use Rattle.kernel_meaning.specs.FrameLaw.{Leaves, cell_at, with_cell, is_used, parent_cells}
use Rattle.kernel_meaning.specs.EventRequests.{Progress, FrameRefusal, page_in_cell, course_at, missing_tables, tables_answered, cell_touched, cell_touch_ended, page_touched, page_version, touch_goes_on, added_by, pages_touched_behind}
use Rattle.page_tables.specs.declared.tables.PageTables.{PageTables}
use Rattle.page_tables.specs.Sides.{Sides}
use Rattle.page_tables.specs.Courses.{progress_between}
use Rattle.page_tables.specs.Standing.{TablesStandFor}
use Rattle.page_tables.specs.Ranges.{FollowsRange}
use Rattle.page_tables.proofs.ParentPages.{page-lacking}
use Rattle.page_tables.proofs.LeafMap.{same_number, cell_at-here, cell_at-apart}
use Rattle.page_tables.proofs.Missing.{has_number, missing-there}
use Rattle.page_tables.proofs.TouchShapes.{page-there, page-used}

-- ---- at one cell

-- each page that was present still is
Stays : Versions → Versions → Type 0
Stays old new = (p : ℕ) → IsSome (version_at old p) → IsSome (version_at new p)

stays-set : (versions : Versions) (page version p : ℕ) → IsSome (version_at versions p) → IsSome (version_at (with_version versions page version) p)
stays-set [] page version p there = there
stays-set (it ∷ versions) zero version zero there = refl
stays-set (it ∷ versions) zero version (suc p) there = there
stays-set (it ∷ versions) (suc page) version zero there = there
stays-set (it ∷ versions) (suc page) version (suc p) there = stays-set versions page version p there

-- the parent's pages are as before, and the act goes on as it did
record GoesOn (from to : Course) : Type 0 where
  parent : to.cell.parent ≡ from.cell.parent
  refused : to.refused ≡ from.refused

goes-answered : (n : ℕ) (answer : Answer) (course : Course) → GoesOn course (leaf_copy_answered n answer (asking want.Leaf course))
goes-answered n Yes course = record { parent = refl; refused = refl }
goes-answered n (No at) course = record { parent = refl; refused = refl }

goes-copied : (ns : List ℕ) (course : Course) → GoesOn course (leaves_copied ns course)
goes-copied [] course = record { parent = refl; refused = refl }
goes-copied (n ∷ ns) course =
    let one = goes-answered n (coming_answer course) course in
    let rest = goes-copied ns (leaf_copied n course) in
    record { parent = rest.parent ∙ one.parent; refused = rest.refused ∙ one.refused }

-- the copies that come before a change
goes-before_change : (course : Course) → GoesOn course (before_change course)
goes-before_change course =
    let first : Course = leaves_copied (numbers_where is_shared course.cell) course in
    let one = goes-copied (numbers_where is_shared course.cell) course in
    let rest = goes-copied (numbers_where is_marked first.cell) first in
    record { parent = rest.parent ∙ one.parent; refused = rest.refused ∙ one.refused }

stays-new_page : (page leaves : ℕ) (answer : Answer) (course : Course) → Stays course.cell.parent (new_page_answered page leaves answer (asking want.Page course)).cell.parent
unfolding Stays
stays-new_page page leaves Yes course = λ p there. stays-set course.cell.parent page _ p there
stays-new_page page leaves (No at) course = λ p there. there

stays-copy : (page version : ℕ) (answer : Answer) (course : Course) → Stays course.cell.parent (page_copy_answered page version answer (asking want.Page course)).cell.parent
unfolding Stays
stays-copy page version Yes course = λ p there. stays-set course.cell.parent page _ p there
stays-copy page version (No at) course = λ p there. there

stays-present : (page version : ℕ) (named : Bool) (course : Course) → Stays course.cell.parent (cond named (page_copy_answered page version (coming_answer course) (asking want.Page course)) course).cell.parent
unfolding Stays
stays-present page version true course = stays-copy page version (coming_answer course) course
stays-present page version false course = λ p there. there

stays-behind : (course : Course) (after : Versions) → Stays (before_change course).cell.parent after → Stays course.cell.parent after
stays-behind course after stays = subst (λ versions. Stays versions after) (goes-before_change course).parent stays

stays-leaf : (page : ℕ) (answer : Answer) (course : Course) → Stays course.cell.parent (parent_leaf_answered page answer (asking want.Leaf course)).cell.parent
unfolding Stays
stays-leaf page Yes course = stays-behind (asking want.Leaf course) _ (stays-new_page page 1 (coming_answer (before_change (asking want.Leaf course))) (before_change (asking want.Leaf course)))
stays-leaf page (No at) course = λ p there. there

stays-absent : (page : ℕ) (leaf : Bool) (course : Course) → Stays course.cell.parent
    (cond leaf (new_page_asked page 0 (before_change course)) (parent_leaf_answered page (coming_answer course) (asking want.Leaf course))).cell.parent
stays-absent page true course = stays-behind course _ (stays-new_page page 0 (coming_answer (before_change course)) (before_change course))
stays-absent page false course = stays-leaf page (coming_answer course) course

stays-touched : (version : Option ℕ) (page : ℕ) (course : Course) → Stays course.cell.parent (touched_as version page course).cell.parent
stays-touched None page course = stays-absent page (has_pages course.cell.parent) course
stays-touched (Some version) page course =
    stays-behind course _ (stays-present page version (is_named (before_change course).cell page version) (before_change course))

-- the touch of a present page is never refused
copy-granted : (page version : ℕ) (answer : Answer) (course : Course) → (page_copy_answered page version answer (asking want.Page course)).refused ≡ course.refused
copy-granted page version Yes course = refl
copy-granted page version (No at) course = refl

present-granted : (page version : ℕ) (named : Bool) (course : Course) → (cond named (page_copy_answered page version (coming_answer course) (asking want.Page course)) course).refused ≡ course.refused
present-granted page version true course = copy-granted page version (coming_answer course) course
present-granted page version false course = refl

touched-granted : (version : Option ℕ) (page : ℕ) (course : Course) → IsSome version → (touched_as version page course).refused ≡ course.refused
touched-granted None page course there = absurd (false≢true there)
touched-granted (Some version) page course there =
    present-granted page version (is_named (before_change course).cell page version) (before_change course) ∙ (goes-before_change course).refused

-- ---- in the map of the cells

-- cells that a test finds among entries
has-passing : (c : ℕ) (leaves : Leaves) → has_pages (cell_at leaves c).parent ≡ true → has_number c (parent_cells leaves) ≡ true
has-passing c [] there = there
has-passing c (e ∷ leaves) there =
    elim (eq_by_cmp nat_cmp c e.0) as (λ same. eq_by_cmp nat_cmp c e.0 ≡ same → has_pages (unwrap_or (cond same (Some e.1) (find nat_cmp c leaves)) unused_cell).parent ≡ true
    → has_number c (parent_cells (e ∷ leaves)) ≡ true) [
      | true ↦ λ same there.
          ap (λ b. has_number c (map (λ entry. entry.0) (cond b (e ∷ filter (λ entry. has_pages entry.1.parent) leaves) (filter (λ entry. has_pages entry.1.parent) leaves)))) there
          ∙ ap (λ b. b || has_number c (parent_cells leaves)) same
      | false ↦ λ apart there. elim (has_pages e.1.parent) as (λ b. has_number c (map (λ entry. entry.0)
          (cond b (e ∷ filter (λ entry. has_pages entry.1.parent) leaves) (filter (λ entry. has_pages entry.1.parent) leaves))) ≡ true) [
            | true ↦ ap (λ b. b || has_number c (parent_cells leaves)) apart ∙ has-passing c leaves there
            | false ↦ has-passing c leaves there
          ]
    ] refl there

-- the entries of all other numbers
find-without : (q c : ℕ) (leaves : Leaves) → q ≢ c → find nat_cmp q (filter (λ entry. not (entry.0 == c)) leaves) ≡ find nat_cmp q leaves
find-without q c [] apart = refl
find-without q c (e ∷ leaves) apart = elim (cases_eq e.0 c) [
  | inl same ↦
      let other : eq_by_cmp nat_cmp q e.0 ≡ false = same_number q e.0 ∙ ne_eqb q e.0 (λ is. apart (is ∙ same)) in
      ap (λ b. find nat_cmp q (cond (not b) (e ∷ filter (λ entry. not (entry.0 == c)) leaves) (filter (λ entry. not (entry.0 == c)) leaves))) (eq-eqb e.0 c same)
      ∙ find-without q c leaves apart ∙ sym (ap (λ b. cond b (Some e.1) (find nat_cmp q leaves)) other)
  | inr differs ↦
      ap (λ b. find nat_cmp q (cond (not b) (e ∷ filter (λ entry. not (entry.0 == c)) leaves) (filter (λ entry. not (entry.0 == c)) leaves))) (ne_eqb e.0 c differs)
      ∙ ap (λ o. cond (eq_by_cmp nat_cmp q e.0) (Some e.1) o) (find-without q c leaves apart)
]

-- a cell is as before, where another one changes
apart-with_cell : (leaves : Leaves) (c : ℕ) (cell : CellLeaves) (q : ℕ) → q ≢ c → cell_at (with_cell leaves c cell) q ≡ cell_at leaves q
apart-with_cell leaves c cell q apart = elim (cases_Bool (is_used cell)) [
  | inl used ↦ cell_at-apart leaves c cell used q apart
  | inr unused ↦ ap (λ b. cell_at (cond b (put nat_cmp c cell leaves) (filter (λ entry. not (entry.0 == c)) leaves)) q) unused
      ∙ ap (λ o. unwrap_or o unused_cell) (find-without q c leaves apart)
]

stays-with_cell : (leaves : Leaves) (c : ℕ) (cell : CellLeaves) → Stays (cell_at leaves c).parent cell.parent
    → (page : ℕ) → cell_of page ≡ c → IsSome (page_version leaves page) → IsSome (page_version (with_cell leaves c cell) page)
unfolding Stays
stays-with_cell leaves c cell stays page here there =
    let now : IsSome (version_at cell.parent (page_in_cell page)) = stays (page_in_cell page) (subst (λ c. IsSome (version_at (cell_at leaves c).parent (page_in_cell page))) here there) in
    subst (λ it. IsSome (version_at it.parent (page_in_cell page))) (sym (cell_at-here leaves c cell (page-used cell (page_in_cell page) now) (cell_of page) here)) now

-- ---- at one page

-- the touch behind the requests for directory tables
ended-leaves : (refused : Option ℕ) (page tables : ℕ) (progress : Progress) → (cell_touch_ended refused page tables progress).leaves ≡ progress.leaves
ended-leaves None page tables progress = refl
ended-leaves (Some at) page tables progress = refl

-- pages that were present still are
stays-cell_touched : (page tables : ℕ) (progress : Progress) (q : ℕ) → IsSome (page_version progress.leaves q) → IsSome (page_version (cell_touched page tables progress).leaves q)
stays-cell_touched page tables progress q there =
    let course : Course = course_touched (page_in_cell page) (course_at (cell_of page) progress) in
    let start : CellLeaves = cell_at progress.leaves (cell_of page) in
    let stays : Stays start.parent course.cell.parent = stays-touched (version_at start.parent (page_in_cell page)) (page_in_cell page) (course_at (cell_of page) progress) in
    subst (λ leaves. IsSome (page_version leaves q)) (sym (ended-leaves course.refused page tables _)) (elim (cases_eq (cell_of q) (cell_of page)) [
      | inl here ↦ stays-with_cell progress.leaves (cell_of page) course.cell stays q here there
      | inr apart ↦ subst (λ cell. IsSome (version_at cell.parent (page_in_cell q))) (sym (apart-with_cell progress.leaves (cell_of page) course.cell (cell_of q) apart)) there
    ])

stays-answered : (refused : Option ℕ) (page tables : ℕ) (progress : Progress) (q : ℕ) → IsSome (page_version progress.leaves q) → IsSome (page_version (tables_answered refused page tables progress).leaves q)
stays-answered None page tables progress q there = stays-cell_touched page tables progress q there
stays-answered (Some at) page tables progress q there = there

stays-page_touched : (page : ℕ) (progress : Progress) (q : ℕ) → IsSome (page_version progress.leaves q) → IsSome (page_version (page_touched page progress).leaves q)
stays-page_touched page progress q there =
    let row = asked_in_row (missing_tables (parent_cells progress.leaves) (cell_of page)) progress.requests in
    stays-answered row.refused page row.granted (record progress { requests = row.requests }) q there

ended-granted : (refused : Option ℕ) (page tables : ℕ) (progress : Progress) → refused ≡ None → (cell_touch_ended refused page tables progress).refused ≡ progress.refused
ended-granted refused page tables progress none = ap (λ o. (cell_touch_ended o page tables progress).refused) none

-- the touch of a present page is granted
page-granted : (page : ℕ) (progress : Progress) → IsSome (page_version progress.leaves page) → (page_touched page progress).refused ≡ progress.refused
page-granted page progress there =
    let cell : CellLeaves = cell_at progress.leaves (cell_of page) in
    let none : missing_tables (parent_cells progress.leaves) (cell_of page) ≡ [] =
    missing-there (cell_of page) (parent_cells progress.leaves) (has-passing (cell_of page) progress.leaves (page-there cell (page_in_cell page) there)) in
    ap (λ wants. (tables_answered (asked_in_row wants progress.requests).refused page (asked_in_row wants progress.requests).granted
    (record progress { requests = (asked_in_row wants progress.requests).requests })).refused) none
    ∙ ended-granted (course_touched (page_in_cell page) (course_at (cell_of page) progress)).refused page 0 _
    (touched-granted (version_at cell.parent (page_in_cell page)) (page_in_cell page) (course_at (cell_of page) progress) there)

-- a refusal names the page
abbrev names : ℕ → Option FrameRefusal → Type 0
names page None = Unit {0}
names page (Some refusal) = refusal.page ≡ Some page

-- the page of a refusal
abbrev page_named : Option FrameRefusal → Option ℕ
page_named None = None
page_named (Some refusal) = refusal.page

names-ended : (refused : Option ℕ) (page tables : ℕ) (progress : Progress) → names page progress.refused → names page (cell_touch_ended refused page tables progress).refused
names-ended None page tables progress named = named
names-ended (Some at) page tables progress named = refl

names-answered : (refused : Option ℕ) (page tables : ℕ) (progress : Progress) → names page progress.refused → names page (tables_answered refused page tables progress).refused
names-answered None page tables progress named = names-ended (course_touched (page_in_cell page) (course_at (cell_of page) progress)).refused page tables _ named
names-answered (Some at) page tables progress named = refl

names-page : (page : ℕ) (progress : Progress) → progress.refused ≡ None → names page (page_touched page progress).refused
names-page page progress none =
    let row = asked_in_row (missing_tables (parent_cells progress.leaves) (cell_of page)) progress.requests in
    names-answered row.refused page row.granted (record progress { requests = row.requests }) (subst (names page) (sym none) tt)

-- ---- of a range

-- a page of n was absent
pub record IsLacking (leaves : Leaves) (first n page : ℕ) : Type 0 where
  pub low : first ≤ page
  pub high : page < first + n
  pub absent : page_version leaves page ≡ None

lacking : (leaves : Leaves) (page : ℕ) → (IsSome (page_version leaves page) → ⊥) → page_version leaves page ≡ None
lacking leaves page never = elim (page_version leaves page) as (λ o. page_version leaves page ≡ o → o ≡ None) [
  | None ↦ λ e. refl
  | Some version ↦ λ e. absurd (never (ap is_some e))
] refl

pub refused-lacks : (n first : ℕ) (added : List ℕ) (progress : Progress) (at page : ℕ) → progress.refused ≡ None
    → (pages_touched_behind added first n progress).refused ≡ Some (record { at = at; page = Some page }) → IsLacking progress.leaves first n page
refused-lacks zero first added progress at page none refused = absurd (false≢true (ap is_some (sym none ∙ refused)))
refused-lacks (suc n) first added progress at page none refused =
    elim ((page_touched first progress).refused) as (λ o. (page_touched first progress).refused ≡ o
    → (touch_goes_on o added (page_touched first progress) (pages_touched_behind (added ++ added_by progress.leaves first) (first + 1) n (page_touched first progress))).refused
    ≡ Some (record { at = at; page = Some page }) → IsLacking progress.leaves first (suc n) page) [
      | None ↦ λ granted refused.
          let rest = refused-lacks n (first + 1) (added ++ added_by progress.leaves first) (page_touched first progress) at page granted refused in
          record {
            low = omega arith;
            high = omega arith;
            absent = lacking progress.leaves page (λ there.
                false≢true (ap is_some (sym rest.absent) ∙ stays-page_touched first progress page there));
          }
      | Some refusal ↦ λ here refused.
          let paged : refusal.page ≡ Some page = ap page_named (sym here ∙ refused) in
          let named : refusal.page ≡ Some first = subst (names first) here (names-page first progress none) in
          let same : first ≡ page = ap (λ o. unwrap_or o first) (sym named ∙ paged) in
          record {
            low = omega arith;
            high = omega arith;
            absent = subst (λ p. page_version progress.leaves p ≡ None) same (lacking progress.leaves first (λ there.
                false≢true (sym (ap is_some (sym here ∙ page-granted first progress there ∙ none)))));
          }
    ] refl refused

-- as tables and their parent have it
pub page-lacks : (tables : PageTables) (sides : Sides) → TablesStandFor tables sides → (addr n count : ℕ) → count ≡ page_count addr n
    → (mid : PageTables) (deals : List Deal) (at page : ℕ) → FollowsRange (page_of addr) count mid deals (Some (record { at = at; page = Some page })) sides
    → IsInRange page addr n × (get sides.pages page ≡ None)
page-lacks tables sides st addr n count whole mid deals at page range =
    let lacks : IsLacking sides.leaves (page_of addr) count page =
    refused-lacks count (page_of addr) [] (progress_between sides.leaves sides.made (answers_of deals ++ []) []) at page refl (ap (λ p. p.refused) (range.follows.runs.runs [] [])) in
    let small : page % 512 < 512 = omega arith in
    let parts : page / 512 * 512 + page % 512 ≡ page = omega arith in (
      (lacks.low, omega (arith, lacks.high, whole)),
      ap (get sides.pages) (sym parts) ∙ page-lacking tables.directory tables.snapshot tables.slots.items sides st (cell_of page) (page % 512) small lacks.absent,
    )
