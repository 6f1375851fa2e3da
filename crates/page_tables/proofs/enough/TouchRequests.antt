-- A frame that a touch is refused comes while fewer are out than the parent takes alone, with the pages of the range, and the snapshots take alone.
use Rattle.std.proofs.Common.{◌≡◌, ℕ, zero, suc, ◌+◌, ◌-◌, ◌<◌, ◌≤◌, Bool, true, false, cond, List, [], ◌∷◌, ◌++◌, length, replicate, Option, Some, None, refl, sym, ◌∙◌, ap, subst, arith, inl, inr}
use Rattle.std.specs.Prelude.{is_some, IsSome}
use Rattle.std.specs.FinMap.{get}
use Rattle.std.proofs.lemmas.Bool.{cases_eq, false≢true}
use Rattle.std.proofs.lemmas.List.{length-set}
use Rattle.std.proofs.lemmas.List.Sums.{sum_by-cons}
use Rattle.vm_base.specs.declared.frame_request.Want.{Want}
use Rattle.vm_base.specs.declared.frame_request.Want.TheVariants as want
use Rattle.vm_base.specs.Deals.{Deal, Denied, Returned}
use Rattle.vm_base.specs.Places.{cell_of}
use Rattle.vm_base.specs.FlatMemory.{FlatMemory}
use Rattle.vm_base.specs.FlatStep.{with_pages}
use Rattle.vm_base.specs.MemoryState.{own_of}
use Rattle.vm_base.proofs.FlatPages.{is_some-with_pages}
use Rattle.kernel_meaning.specs.Requests.{Answer, Yes, No, Requests, opening_requests, deal_of, given_back, later_answers, asked_in_row}
use Rattle.kernel_meaning.specs.Leaves.{CellLeaves, Lost, version_at, has_pages, names_version, is_named, own_leaves, share}
use Rattle.kernel_meaning.specs.CellActs.{Course, opening_course, asking, coming_answer, page_copy_answered, new_page_answered, new_page_asked, parent_leaf_answered, course_touched, with_parent_version, with_leaf_where}
use Rattle.kernel_meaning.specs.FrameLaw.{Leaves, cell_at, with_cell, is_used, parent_cells, snapshot_tables, snapshot_leaves, held_frames}
use Rattle.kernel_meaning.specs.RefusedRequests.{out_after}
use Rattle.kernel_meaning.specs.EventRequests.{Progress, FrameRefusal, opening_progress, page_version, page_in_cell, course_at, with_course, missing_tables, tables_answered, cell_touch_ended, page_touched, added_by, touch_goes_on, pages_touched_behind, pages_touched}
use Rattle.kernel_meaning.proofs.Shares.{held_frames-shares}
use Rattle.leaf_cell.specs.CellView.{AreUnjoined}
use Rattle.leaf_cell.proofs.TouchCourses.{before_change-none, touched-absent, touched-first, touched-present}
use Rattle.page_tables.specs.Standing.{AreKept}
use Rattle.page_tables.proofs.LeafMap.{cell_at-here, cell_at-apart, kept-with_cell}
use Rattle.page_tables.proofs.Missing.{missing-known}
use Rattle.page_tables.proofs.TouchShapes.{Losing, touch-unjoined, page-there}
use Rattle.page_tables.proofs.Again.{with_cell-same}
use Rattle.vm_base.proofs.OwnFrames.{kept-with_pages}
use Rattle.page_tables.proofs.enough.Pairs.{own_part, kept_part, kept_pages, parent_frames, kept_frames, lacking_leaf, version-apart, pages-then, own-grows, own-stays, shared_once, shared-apart, shared-here, shared-lost}
use Rattle.leaf_cell.specs.Touching.{needs_copy}
use Rattle.page_tables.proofs.enough.Deals.{AreSpent, IsSpent, spent-at, spent-weaker, spent-granted, spent-denied, spent-given, spent-row}
use Rattle.page_tables.proofs.enough.Cells.{sum_of, sum-with_cell}
use Rattle.page_tables.proofs.enough.CellFrames.{HasPages, parent_frames-parts, own-within}
use Rattle.page_tables.proofs.enough.SharedPages.{directory-then, pages-used, shared_pages, shared-with_cell, place-apart, shares-apart}

-- ---- how requests stand behind a page
-- before the touch of n pages: with those of them that are shared no more frames are out than both sides take alone, and each page of the parent is one of the memory
pub record Holds (from tables rest : ℕ) (memory : FlatMemory) (first n : ℕ) (leaves : Leaves) (requests : Requests) : Type 0 where
  pub kept : AreKept leaves
  pub has : HasPages memory leaves
  pub most : ℕ
  pub spent : IsSpent (own_of memory + tables + rest) from most requests.deals
  pub fits : most + shared_pages leaves first n ≤ parent_frames leaves + tables + rest

-- how an act at a cell ends: with no refusal out of bounds, and where it was not refused, so that the touch of n pages behind it may come
record CourseEnds (from tables rest : ℕ) (memory : FlatMemory) (first n : ℕ) (leaves : Leaves) (c : ℕ) (course : Course) : Type 0 where
  spent : AreSpent (own_of memory + tables + rest) from course.requests.deals
  holds : course.refused ≡ None → Holds from tables rest memory first n (with_cell leaves c course.cell) course.requests

-- the same of the touch of a page
record TouchEnds (from tables rest : ℕ) (memory : FlatMemory) (first n : ℕ) (progress : Progress) : Type 0 where
  spent : AreSpent (own_of memory + tables + rest) from progress.requests.deals
  holds : progress.refused ≡ None → Holds from tables rest memory first n progress.leaves progress.requests

-- behind one request for a want
abbrev behind : Want → Answer → Requests → Requests
behind want answer requests = record { made = requests.made + 1; coming = later_answers requests.coming; deals = requests.deals ++ deal_of want answer ∷ [] }

module _ (from tables rest : ℕ) (memory : FlatMemory) where
  abbrev bound : ℕ
  bound = own_of memory + tables + rest

  given-spent : (n : ℕ) (deals : List Deal) → AreSpent bound from deals → AreSpent bound from (deals ++ replicate n Returned)
  given-spent n deals spent = (spent-given bound from (out_after from deals) n deals (record { spent = spent; out = omega arith })).spent

  module _ (page n : ℕ) (leaves : Leaves) (before : Requests) (holds : Holds from tables rest memory page (suc n) leaves before) (wanted : IsSome (get memory.present page)) where
    abbrev most : ℕ
    most = holds.most

    abbrev c : ℕ
    c = cell_of page

    abbrev place : ℕ
    place = page_in_cell page

    abbrev cell : CellLeaves
    cell = cell_at leaves c

    abbrev lacking : ℕ
    lacking = length (missing_tables (parent_cells leaves) c)

    inside : place < length cell.parent
    inside = omega (arith, holds.kept.sizes c)

    -- the parent alone takes the tables that its new cell lacked, and what its part of the cell has grown by
    frames-then : (new : CellLeaves) → AreKept (with_cell leaves c new) → is_used new ≡ true → has_pages new.parent ≡ true
        → parent_frames leaves + lacking + own_part new ≤ parent_frames (with_cell leaves c new) + own_part cell
    frames-then new then used some =
        omega (
          arith,
          parent_frames-parts leaves,
          parent_frames-parts (with_cell leaves c new),
          directory-then leaves c new holds.kept then used some,
          sum-with_cell own_part refl leaves c new holds.kept.sorted used,
        )

    holds-then : (new : CellLeaves) (requests : Requests) (out : ℕ) → length new.parent ≡ 512 → AreUnjoined new.kept → has_pages new.parent ≡ true
        → ((q : ℕ) → cell_of q ≡ c → IsSome (version_at new.parent (page_in_cell q)) → IsSome (get memory.present q))
        → ((q : ℕ) → page + 1 ≤ q → cell_of q ≡ c → needs_copy new (page_in_cell q) ≡ true → needs_copy cell (page_in_cell q) ≡ true)
        → IsSpent bound from out requests.deals → out + own_part cell ≤ most + shared_once cell place + lacking + own_part new
        → Holds from tables rest memory (page + 1) n (with_cell leaves c new) requests
    holds-then new requests out size unjoined some has shares spent fits =
        let used : is_used new ≡ true = pages-used new some in
        let then : AreKept (with_cell leaves c new) = kept-with_cell leaves c new used size unjoined holds.kept in
        record {
          kept = then;
          has = λ q there. elim (cases_eq (cell_of q) c) [
            | inl here ↦ has q here (subst (λ cell. IsSome (version_at cell.parent (page_in_cell q))) (cell_at-here leaves c new used (cell_of q) here) there)
            | inr apart ↦ holds.has q (subst (λ cell. IsSome (version_at cell.parent (page_in_cell q))) (cell_at-apart leaves c new used (cell_of q) apart) there)
          ];
          most = out;
          spent = spent;
          fits = omega (arith, fits, holds.fits, frames-then new then used some, shared-with_cell leaves c new (page + 1) n used shares);
        }

    -- the pages of the cell with this one are of the memory
    has-then : (version q : ℕ) → cell_of q ≡ c → IsSome (version_at (with_parent_version place version cell).parent (page_in_cell q)) → IsSome (get memory.present q)
    has-then version q here there = elim (cases_eq (page_in_cell q) place) [
      | inl same ↦ let is : q ≡ page = omega (arith, here, same) in subst (λ p. IsSome (get memory.present p)) (sym is) wanted
      | inr apart ↦
          holds.has q (subst (λ d. IsSome (version_at (cell_at leaves d).parent (page_in_cell q))) (sym here)
          (subst IsSome (version-apart cell place version inside (page_in_cell q) apart) there))
    ]

    -- there is room for an absent page, with the tables and the leaf that it lacks
    room-new : version_at cell.parent place ≡ None → most + lacking + lacking_leaf cell + 1 ≤ bound
    room-new absent =
        let new : CellLeaves = with_parent_version place 0 cell in
        let some : has_pages new.parent ≡ true = pages-then cell place 0 inside in
        let used : is_used new ≡ true = pages-used new some in
        let then : AreKept (with_cell leaves c new) =
        kept-with_cell leaves c new used (length-set cell.parent place (Some 0) ∙ holds.kept.sizes c) (holds.kept.unjoined c) holds.kept in
        let has : HasPages memory (with_cell leaves c new) = λ q there. elim (cases_eq (cell_of q) c) [
          | inl here ↦ has-then 0 q here (subst (λ it. IsSome (version_at it.parent (page_in_cell q))) (cell_at-here leaves c new used (cell_of q) here) there)
          | inr apart ↦ holds.has q (subst (λ it. IsSome (version_at it.parent (page_in_cell q))) (cell_at-apart leaves c new used (cell_of q) apart) there)
        ] in
        omega (arith, own-within (with_cell leaves c new) then memory has, frames-then new then used some, own-grows cell place 0 inside absent, holds.fits)

    -- there is room for the copy of a page that is shared
    room-copy : shared_once cell place ≡ 1 → most + 1 ≤ bound
    room-copy shared = omega (arith, own-within leaves holds.kept memory holds.has, holds.fits, shared)

    -- there is room for the tables that are missing
    room-tables : most + lacking ≤ bound
    room-tables = by (version_at cell.parent place) refl
      where
        by : (version : Option ℕ) → version_at cell.parent place ≡ version → most + lacking ≤ bound
        by None absent = omega (arith, room-new absent)
        by (Some version) there =
            let none : lacking ≡ 0 = ap length (missing-known leaves c holds.kept.sorted (page-there cell place (ap is_some there))) in
            omega (arith, none, own-within leaves holds.kept memory holds.has, holds.fits)

    -- a page comes, or another version of one
    new-version : (version out : ℕ) (requests : Requests) → IsSpent bound from out requests.deals
        → out + own_part cell ≤ most + shared_once cell place + lacking + own_part (with_parent_version place version cell)
        → Holds from tables rest memory (page + 1) n (with_cell leaves c (with_parent_version place version cell)) requests
    new-version version out requests spent fits =
        holds-then (with_parent_version place version cell) requests out (length-set cell.parent place (Some version) ∙ holds.kept.sizes c) (holds.kept.unjoined c)
        (pages-then cell place version inside) (has-then version)
        (λ q above here needed. sym (shared-apart cell place version (page_in_cell q) inside (place-apart page q above here)) ∙ needed) spent fits

    -- how an act at the page's cell ends
    abbrev Ends : Course → Type 0
    Ends course = CourseEnds from tables rest memory (page + 1) n leaves c course

    module _ (requests : Requests) where
      -- the copy of a page that is shared was answered
      copied : (version : ℕ) → version_at cell.parent place ≡ Some version → is_named cell place version ≡ true → IsSpent bound from most requests.deals → (answer : Answer)
          → Ends (page_copy_answered place version answer (opening_course cell (behind want.Page answer requests)))
      copied version there named spent Yes =
          let one = spent-granted bound from most requests.deals want.Page spent in
          record {
            spent = one.spent;
            holds = λ granted.
                new-version (requests.made + 1) (most + 1) (behind want.Page Yes requests) one
                (omega (arith, own-stays cell place (requests.made + 1) inside (ap is_some there), shared-here cell place version there named));
          }
      copied version there named spent (No at) =
          let new : CellLeaves = with_leaf_where (names_version place version) (Lost at) cell in
          let one = spent-denied bound from most requests.deals want.Page at spent (room-copy (shared-here cell place version there named)) in
          let two = spent-given bound from most (share cell - share new) (requests.deals ++ Denied want.Page at ∷ []) one in
          record {
            spent = two.spent;
            holds = λ granted.
                holds-then new (given_back (share cell - share new) (behind want.Page (No at) requests)) (most - (share cell - share new)) (holds.kept.sizes c)
                (touch-unjoined place cell new (Losing (names_version place version) at) (holds.kept.unjoined c)) (page-there cell place (ap is_some there))
                (λ q here is. holds.has q (subst (λ d. IsSome (version_at (cell_at leaves d).parent (page_in_cell q))) (sym here) is))
                (λ q above here needed. shared-lost (names_version place version) at cell (page_in_cell q) needed) two (omega arith);
          }

      -- the frame of an absent page was answered, behind the leaf where it was missing
      added : version_at cell.parent place ≡ None → (taken : ℕ) → IsSpent bound from (most + lacking + lacking_leaf cell) requests.deals → (answer : Answer)
          → Ends (new_page_answered place taken answer (opening_course cell (behind want.Page answer requests)))
      added absent taken spent Yes =
          let one = spent-granted bound from (most + lacking + lacking_leaf cell) requests.deals want.Page spent in
          record {
            spent = one.spent;
            holds = λ granted.
                new-version (requests.made + 1) (most + lacking + lacking_leaf cell + 1) (behind want.Page Yes requests) one
                (omega (arith, own-grows cell place (requests.made + 1) inside absent));
          }
      added absent taken spent (No at) = record {
        spent = given-spent taken (requests.deals ++ Denied want.Page at ∷ [])
            (spent-denied bound from (most + lacking + lacking_leaf cell) requests.deals want.Page at spent (room-new absent)).spent;
        holds = λ granted. absurd (false≢true (sym (ap is_some granted)));
      }

    module _ (requests : Requests) (spent : IsSpent bound from (most + lacking) requests.deals) where
      abbrev start : Course
      start = opening_course cell requests

      -- the missing leaf was answered
      leaf-first : version_at cell.parent place ≡ None → has_pages cell.parent ≡ false → (answer : Answer)
          → Ends (parent_leaf_answered place answer (opening_course cell (behind want.Leaf answer requests)))
      leaf-first absent none Yes =
          let next : Requests = behind want.Leaf Yes requests in
          let one : ◌≡◌ {A = ℕ} (lacking_leaf cell) 1 = ap (λ b. cond b 0 1) none in
          subst (λ course. Ends (new_page_asked place 1 course)) (sym (before_change-none (opening_course cell next) (holds.kept.unjoined c)))
          (added next absent 1
          (spent-weaker bound from (most + lacking + 1) (most + lacking + lacking_leaf cell) next.deals
          (spent-granted bound from (most + lacking) requests.deals want.Leaf spent) (omega (arith, one)))
          (coming_answer (opening_course cell next)))
      leaf-first absent none (No at) = record {
        spent = given-spent 0 (requests.deals ++ Denied want.Leaf at ∷ [])
            (spent-denied bound from (most + lacking) requests.deals want.Leaf at spent (omega (arith, room-new absent))).spent;
        holds = λ granted. absurd (false≢true (sym (ap is_some granted)));
      }

      -- the touch at the cell
      course-ends : Ends (course_touched place start)
      course-ends = by (version_at cell.parent place) refl (has_pages cell.parent) refl
        where
          by : (version : Option ℕ) → version_at cell.parent place ≡ version → (leaf : Bool) → has_pages cell.parent ≡ leaf → Ends (course_touched place start)
          by None absent true there =
              subst Ends (sym (touched-absent place start (holds.kept.unjoined c) absent there))
              (added requests absent 0 (spent-weaker bound from (most + lacking) (most + lacking + lacking_leaf cell) requests.deals spent (omega arith)) (coming_answer start))
          by None absent false none =
              subst Ends (sym (touched-first place start (holds.kept.unjoined c) absent none)) (leaf-first absent none (coming_answer start))
          by (Some version) there leaf any =
              subst Ends (sym (touched-present place start (holds.kept.unjoined c) version there)) (present (is_named cell place version) refl)
            where
              none-lacking : lacking ≡ 0
              none-lacking = ap length (missing-known leaves c holds.kept.sorted (page-there cell place (ap is_some there)))

              so-far : IsSpent bound from most requests.deals
              so-far = spent-weaker bound from (most + lacking) most requests.deals spent (omega (arith, none-lacking))

              present : (named : Bool) → is_named cell place version ≡ named
                  → Ends (cond named (page_copy_answered place version (coming_answer start) (asking want.Page start)) start)
              present true named = copied requests version there named so-far (coming_answer start)
              present false unnamed = record {
                spent = so-far.spent;
                holds = λ granted. subst (λ ls. Holds from tables rest memory (page + 1) n ls requests) (sym (with_cell-same leaves c holds.kept)) (record {
                  kept = holds.kept;
                  has = holds.has;
                  most = most;
                  spent = so-far;
                  fits = omega (arith, holds.fits);
                });
              }

  -- the touch at a cell ends as its course does
  ended : (first n : ℕ) (refused : Option ℕ) (page taken : ℕ) (course : Course) (progress : Progress) → course.refused ≡ refused
      → CourseEnds from tables rest memory first n progress.leaves (cell_of page) course
      → TouchEnds from tables rest memory first n (cell_touch_ended refused page taken (with_course (cell_of page) course progress))
  ended first n None page taken course progress is ends = record { spent = ends.spent; holds = λ granted. ends.holds is }
  ended first n (Some at) page taken course progress is ends = record {
    spent = given-spent taken course.requests.deals ends.spent;
    holds = λ granted. absurd (false≢true (sym (ap is_some granted)));
  }

  -- the touch of a page of the memory
  page-ends : (page n : ℕ) (progress : Progress) → Holds from tables rest memory page (suc n) progress.leaves progress.requests → IsSome (get memory.present page)
      → TouchEnds from tables rest memory (page + 1) n (page_touched page progress)
  page-ends page n progress holds wanted =
      let wants = missing_tables (parent_cells progress.leaves) (cell_of page) in
      let row = asked_in_row wants progress.requests in
      by row.refused row.granted row.requests
      (spent-row bound from wants holds.most progress.requests holds.spent (room-tables page n progress.leaves progress.requests holds wanted))
    where
      by : (refused : Option ℕ) (taken : ℕ) (requests : Requests)
          → IsSpent bound from (holds.most + length (missing_tables (parent_cells progress.leaves) (cell_of page))) requests.deals
          → TouchEnds from tables rest memory (page + 1) n (tables_answered refused page taken (record progress { requests = requests }))
      by None taken requests spent =
          let course : Course = course_touched (page_in_cell page) (course_at (cell_of page) (record progress { requests = requests })) in
          ended (page + 1) n course.refused page taken course (record progress { requests = requests }) refl
          (course-ends page n progress.leaves progress.requests holds wanted requests spent)
      by (Some at) taken requests spent = record { spent = given-spent taken requests.deals spent.spent; holds = λ granted. absurd (false≢true (sym (ap is_some granted))) }

  -- the touch of pages of the memory
  pub touch-spent : (n first : ℕ) (added : List ℕ) (progress : Progress) → Holds from tables rest memory first n progress.leaves progress.requests
      → ((q : ℕ) → first ≤ q → q < first + n → IsSome (get memory.present q)) → AreSpent bound from (pages_touched_behind added first n progress).requests.deals
  touch-spent zero first added progress holds wanted = holds.spent.spent
  touch-spent (suc n) first added progress holds wanted =
      let ends : TouchEnds from tables rest memory (first + 1) n (page_touched first progress) = page-ends first n progress holds (wanted first (omega arith) (omega arith)) in
      by (page_touched first progress).refused refl ends.spent
      (λ granted. touch-spent n (first + 1) (added ++ added_by progress.leaves first) (page_touched first progress) (ends.holds granted)
      (λ q low high. wanted q (omega (arith, low)) (omega (arith, high))))
    where
      by : (refused : Option FrameRefusal) → (page_touched first progress).refused ≡ refused → AreSpent bound from (page_touched first progress).requests.deals
          → let further : Progress = pages_touched_behind (added ++ added_by progress.leaves first) (first + 1) n (page_touched first progress) in
          ((page_touched first progress).refused ≡ None → AreSpent bound from further.requests.deals)
          → AreSpent bound from (touch_goes_on refused added (page_touched first progress) further).requests.deals
      by None granted spent further = further granted
      by (Some refusal) here spent further = given-spent _ (page_touched first progress).requests.deals spent

-- ---- the touch of a range
kept-sum : (leaves : Leaves) → sum_of kept_part leaves ≡ snapshot_leaves leaves + sum_of kept_pages leaves
kept-sum [] = refl
kept-sum (e ∷ leaves) =
    omega (
      arith,
      kept-sum leaves,
      sum_by-cons (λ (e : ℕ × CellLeaves). kept_part e.1) e leaves,
      sum_by-cons (λ (e : ℕ × CellLeaves). own_leaves e.1) e leaves,
      sum_by-cons (λ (e : ℕ × CellLeaves). kept_pages e.1) e leaves,
    )

-- where a request of a touch is refused, the frames out then and the one asked for are no more than the parent takes alone, with all pages of the range, and the snapshots alone
pub touch-refused : (leaves : Leaves) (made : ℕ) → AreKept leaves
    → (memory : FlatMemory) → ((page : ℕ) → is_some (get memory.present page) ≡ is_some (page_version leaves page))
    → (first n : ℕ) (answers : List Answer) (front : List Deal) (want : Want) (at : ℕ) (back : List Deal)
    → (pages_touched first n (opening_progress leaves (opening_requests made answers))).requests.deals ≡ front ++ Denied want at ∷ back
    → out_after (held_frames leaves) front + 1 ≤ own_of (record memory { present = with_pages memory.present first n }) + kept_frames leaves
touch-refused leaves made kept memory alike first n answers front want at back is =
    let after : FlatMemory = record memory { present = with_pages memory.present first n } in
    let bound : ℕ = own_of after + snapshot_tables leaves + sum_of kept_part leaves in
    let holds : Holds (held_frames leaves) (snapshot_tables leaves) (sum_of kept_part leaves) after first n leaves (opening_requests made answers) = record {
      kept = kept;
      has = λ page there. kept-with_pages n memory.present first page (alike page ∙ there);
      most = held_frames leaves;
      spent = record { spent = tt; out = omega arith };
      fits = omega (arith, held_frames-shares leaves, parent_frames-parts leaves, shares-apart n first leaves kept);
    } in
    let all : AreSpent bound (held_frames leaves) (front ++ Denied want at ∷ back) =
    subst (AreSpent bound (held_frames leaves)) is
    (touch-spent (held_frames leaves) (snapshot_tables leaves) (sum_of kept_part leaves) after n first [] (opening_progress leaves (opening_requests made answers)) holds
    (λ q low high. is_some-with_pages n memory.present first q low high)) in
    omega (arith, spent-at bound (held_frames leaves) front want at back all, kept-sum leaves)
