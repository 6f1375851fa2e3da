-- A touch that is refused a frame tells the count of refused requests as it stands behind the touch: that request was the last one that was refused.
use Rattle.std.proofs.Common.{◌≡◌, ℕ, zero, suc, ◌+◌, ◌≤◌, ◌^◌, Bool, true, false, cond, List, [], ◌∷◌, ◌++◌, replicate, Option, Some, None, refl, sym, ◌∙◌, ap, subst, arith}
use Rattle.std.specs.Prelude.{◌-◌, is_some, unwrap_or}
use Rattle.std.proofs.lemmas.Bool.{false≢true}
use Rattle.vm_base.specs.declared.frame_request.Want.{Want}
use Rattle.vm_base.specs.declared.frame_request.Want.TheVariants as want
use Rattle.vm_base.specs.Counts.{next_count, Rose}
use Rattle.vm_base.specs.Deals.{Deal, Granted, Denied, Returned}
use Rattle.vm_base.specs.Places.{cell_of}
use Rattle.kernel_meaning.specs.Requests.{Answer, Yes, No, Requests, RowEnd, deal_of, next_answer, asked, row_end, asked_in_row}
use Rattle.kernel_meaning.specs.Leaves.{version_at, has_pages, is_shared, is_marked, is_named}
use Rattle.kernel_meaning.specs.CellActs.{Course, asking, coming_answer, numbers_where, leaf_copied, leaf_copy_answered, leaves_copied, before_change, page_copy_answered, new_page_answered, new_page_asked, parent_leaf_answered, touched_as, course_touched}
use Rattle.kernel_meaning.specs.FrameLaw.{parent_cells}
use Rattle.kernel_meaning.specs.RefusedRequests.{count_after}
use Rattle.kernel_meaning.specs.EventRequests.{Progress, FrameRefusal, page_in_cell, course_at, with_course, missing_tables, tables_answered, cell_touch_ended, page_touched, touch_goes_on, added_by, pages_touched_behind}
use Rattle.trace_core.specs.Answering.{AreCounted}

-- ---- the last refusal among deals

-- the count that the last of them carries, or the one before them
abbrev pub last_told : Option ℕ → List Deal → Option ℕ
last_told last [] = last
last_told last (Granted want ∷ deals) = last_told last deals
last_told last (Denied want at ∷ deals) = last_told (Some at) deals
last_told last (Returned ∷ deals) = last_told last deals

told-append : (last : Option ℕ) (front back : List Deal) → last_told last (front ++ back) ≡ last_told (last_told last front) back
told-append last [] back = refl
told-append last (Granted want ∷ front) back = told-append last front back
told-append last (Denied want at ∷ front) back = told-append (Some at) front back
told-append last (Returned ∷ front) back = told-append last front back

told-returned : (last : Option ℕ) (n : ℕ) → last_told last (replicate n Returned) ≡ last
told-returned last zero = refl
told-returned last (suc n) = told-returned last n

-- deals whose last refusal carries this count, and then frames given back
told-back : (deals : List Deal) (n at : ℕ) → last_told None deals ≡ Some at → last_told None (deals ++ replicate n Returned) ≡ Some at
told-back deals n at told = told-append None deals (replicate n Returned) ∙ told-returned (last_told None deals) n ∙ told

-- a refusal behind deals
told-denied : (deals : List Deal) (want : Want) (at : ℕ) → last_told None (deals ++ Denied want at ∷ []) ≡ Some at
told-denied deals want at = told-append None deals (Denied want at ∷ [])

-- ---- what counted deals tell

counted-last : (count : ℕ) (deals : List Deal) → AreCounted count deals → last_told (Some count) deals ≡ Some (count_after count deals)
counted-last count [] counted = refl
counted-last count (Granted want ∷ deals) counted = counted-last count deals counted
counted-last count (Denied want at ∷ deals) counted = ap (λ at. last_told (Some at) deals) counted.0 ∙ counted-last (next_count count) deals counted.1
counted-last count (Returned ∷ deals) counted = counted-last count deals counted

-- a count of 64 bits never falls
pub count-grows : (count : ℕ) (deals : List Deal) → count ≤ 2 ^ 64 - 1 → count ≤ count_after count deals
count-grows count [] fits = omega arith
count-grows count (Granted want ∷ deals) fits = count-grows count deals fits
count-grows count (Denied want at ∷ deals) fits =
    let next : next_count count ≤ count_after (next_count count) deals = count-grows (next_count count) deals (omega arith) in
    omega (arith, next, fits)
count-grows count (Returned ∷ deals) fits = count-grows count deals fits

same-told : (at other : ℕ) → ◌≡◌ {A = Option ℕ} (Some at) (Some other) → at ≡ other
same-told at other same = ap (λ o. unwrap_or o at) same

-- the last refusal among counted deals carries the count behind them, and the count rose
pub told-count : (count : ℕ) (deals : List Deal) (at : ℕ) → AreCounted count deals → last_told None deals ≡ Some at → (at ≡ count_after count deals) × Rose count (count_after count deals)
told-count count [] at counted told = absurd (none-some told)
  where
    none-some : ◌≡◌ {A = Option ℕ} None (Some at) → ⊥
    none-some same = false≢true (ap is_some same)
told-count count (Granted want ∷ deals) at counted told = told-count count deals at counted told
told-count count (Denied want here ∷ deals) at counted told = (
  same-told at _ (sym told ∙ ap (λ here. last_told (Some here) deals) counted.0 ∙ counted-last (next_count count) deals counted.1),
  count-grows (next_count count) deals (omega arith),
)
told-count count (Returned ∷ deals) at counted told = told-count count deals at counted told

-- ---- what acts tell

-- a refusal carries the count of the last one among the deals
abbrev Tells : Option ℕ → List Deal → Type 0
Tells None deals = Unit {0}
Tells (Some at) deals = last_told None deals ≡ Some at

row-behind : (want : Want) (answer : Answer) (made : ℕ) (coming : List Answer) (deals : List Deal) (rest : RowEnd) → Tells rest.refused rest.requests.deals
    → let end : RowEnd = row_end answer (record { made = made; coming = coming; deals = deals ++ deal_of want answer ∷ [] }) rest in Tells end.refused end.requests.deals
row-behind want Yes made coming deals rest tells = tells
row-behind want (No at) made coming deals rest tells = told-denied deals want at

row-tells : (wants : List Want) (requests : Requests) → Tells (asked_in_row wants requests).refused (asked_in_row wants requests).requests.deals
row-tells [] requests = tt
row-tells (want ∷ wants) requests =
    row-behind want (next_answer requests) (asked want requests).made (asked want requests).coming requests.deals (asked_in_row wants (asked want requests))
    (row-tells wants (asked want requests))

-- an act that has not been refused tells nothing
unrefused : (course : Course) → course.refused ≡ None → Tells course.refused course.requests.deals
unrefused course none = subst (λ refused. Tells refused course.requests.deals) (sym none) tt

copies-kept : (ns : List ℕ) (course : Course) → (leaves_copied ns course).refused ≡ course.refused
copies-kept [] course = refl
copies-kept (n ∷ ns) course = copies-kept ns (leaf_copied n course) ∙ by (coming_answer course)
  where
    by : (answer : Answer) → (leaf_copy_answered n answer (asking want.Leaf course)).refused ≡ course.refused
    by Yes = refl
    by (No at) = refl

before-kept : (course : Course) → (before_change course).refused ≡ course.refused
before-kept course =
    let first : Course = leaves_copied (numbers_where is_shared course.cell) course in
    copies-kept (numbers_where is_marked first.cell) first ∙ copies-kept (numbers_where is_shared course.cell) course

copy-kept : (page version : ℕ) (named : Bool) (course : Course) → (cond named (page_copy_answered page version (coming_answer course) (asking want.Page course)) course).refused ≡ course.refused
copy-kept page version false course = refl
copy-kept page version true course = by (coming_answer course)
  where
    by : (answer : Answer) → (page_copy_answered page version answer (asking want.Page course)).refused ≡ course.refused
    by Yes = refl
    by (No at) = refl

page-tells : (page leaves : ℕ) (course : Course) → course.refused ≡ None → Tells (new_page_asked page leaves course).refused (new_page_asked page leaves course).requests.deals
page-tells page leaves course none = by (coming_answer course)
  where
    by : (answer : Answer) → let end : Course = new_page_answered page leaves answer (record course {
      requests = record {
        made = (asked want.Page course.requests).made;
        coming = (asked want.Page course.requests).coming;
        deals = course.requests.deals ++ deal_of want.Page answer ∷ [];
      };
    }) in Tells end.refused end.requests.deals
    by Yes = subst (λ refused. Tells refused (course.requests.deals ++ Granted want.Page ∷ [])) (sym none) tt
    by (No at) = told-back (course.requests.deals ++ Denied want.Page at ∷ []) leaves at (told-denied course.requests.deals want.Page at)

-- behind the answer to the request for a leaf
abbrev leaf_asked : Answer → Course → Course
leaf_asked answer course = record course {
  requests = record {
    made = (asked want.Leaf course.requests).made;
    coming = (asked want.Leaf course.requests).coming;
    deals = course.requests.deals ++ deal_of want.Leaf answer ∷ [];
  };
}

leaf-tells : (page : ℕ) (course : Course) → course.refused ≡ None
    → let end : Course = parent_leaf_answered page (coming_answer course) (asking want.Leaf course) in Tells end.refused end.requests.deals
leaf-tells page course none = by (coming_answer course)
  where
    by : (answer : Answer) → let end : Course = parent_leaf_answered page answer (leaf_asked answer course) in Tells end.refused end.requests.deals
    by Yes = page-tells page 1 (before_change (leaf_asked Yes course)) (before-kept (leaf_asked Yes course) ∙ none)
    by (No at) = told-back (course.requests.deals ++ Denied want.Leaf at ∷ []) 0 at (told-denied course.requests.deals want.Leaf at)

touch-tells : (version : Option ℕ) (page : ℕ) (course : Course) → course.refused ≡ None → Tells (touched_as version page course).refused (touched_as version page course).requests.deals
touch-tells (Some version) page course none =
    unrefused (touched_as (Some version) page course) (copy-kept page version (is_named (before_change course).cell page version) (before_change course) ∙ before-kept course ∙ none)
touch-tells None page course none = by (has_pages course.cell.parent)
  where
    by : (leaf : Bool) → let end : Course = cond leaf (new_page_asked page 0 (before_change course)) (parent_leaf_answered page (coming_answer course) (asking want.Leaf course)) in
        Tells end.refused end.requests.deals
    by true = page-tells page 0 (before_change course) (before-kept course ∙ none)
    by false = leaf-tells page course none

-- ---- what the touch of pages tells

-- the same of a refusal that names a page
abbrev pub Told : Option FrameRefusal → List Deal → Type 0
Told None deals = Unit {0}
Told (Some refusal) deals = last_told None deals ≡ Some refusal.at

ended-told : (refused : Option ℕ) (page tables : ℕ) (progress : Progress) → progress.refused ≡ None → Tells refused progress.requests.deals
    → Told (cell_touch_ended refused page tables progress).refused (cell_touch_ended refused page tables progress).requests.deals
ended-told None page tables progress none tells = subst (λ refused. Told refused progress.requests.deals) (sym none) tt
ended-told (Some at) page tables progress none tells = told-back progress.requests.deals tables at tells

answered-told : (refused : Option ℕ) (page tables : ℕ) (progress : Progress) → progress.refused ≡ None → Tells refused progress.requests.deals
    → Told (tables_answered refused page tables progress).refused (tables_answered refused page tables progress).requests.deals
answered-told None page tables progress none tells =
    let course : Course = course_touched (page_in_cell page) (course_at (cell_of page) progress) in
    ended-told course.refused page tables (with_course (cell_of page) course progress) none
    (touch-tells (version_at (course_at (cell_of page) progress).cell.parent (page_in_cell page)) (page_in_cell page) (course_at (cell_of page) progress) refl)
answered-told (Some at) page tables progress none tells = told-back progress.requests.deals tables at tells

page-told : (page : ℕ) (progress : Progress) → progress.refused ≡ None → Told (page_touched page progress).refused (page_touched page progress).requests.deals
page-told page progress none =
    let wants = missing_tables (parent_cells progress.leaves) (cell_of page) in
    let row = asked_in_row wants progress.requests in
    answered-told row.refused page row.granted (record progress { requests = row.requests }) none (row-tells wants progress.requests)

-- the refusal of a touch carries the count of the last one among its deals
pub touched-told : (n first : ℕ) (added : List ℕ) (progress : Progress) → progress.refused ≡ None
    → Told (pages_touched_behind added first n progress).refused (pages_touched_behind added first n progress).requests.deals
touched-told zero first added progress none = subst (λ refused. Told refused progress.requests.deals) (sym none) tt
touched-told (suc n) first added progress none =
    by (page_touched first progress).refused refl (page-told first progress none)
    (touched-told n (first + 1) (added ++ added_by progress.leaves first) (page_touched first progress))
  where
    by : (refused : Option FrameRefusal) → (page_touched first progress).refused ≡ refused → Told refused (page_touched first progress).requests.deals
        → ((page_touched first progress).refused ≡ None
        → let rest : Progress = pages_touched_behind (added ++ added_by progress.leaves first) (first + 1) n (page_touched first progress) in Told rest.refused rest.requests.deals)
        → let end : Progress = touch_goes_on refused added (page_touched first progress) (pages_touched_behind (added ++ added_by progress.leaves first) (first + 1) n (page_touched first progress)) in
        Told end.refused end.requests.deals
    by None granted told further = further granted
    by (Some refusal) here told further =
        subst (λ refused. Told refused (touch_goes_on (Some refusal) added (page_touched first progress) (page_touched first progress)).requests.deals) (sym here)
        (told-back (page_touched first progress).requests.deals _ refusal.at told)
