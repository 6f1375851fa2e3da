-- A touch at a cell without joined leaves runs the same whatever was dealt before it and whatever answers come behind its own.
use Rattle.std.proofs.Common.{◌≡◌, ◌≢◌, ℕ, ◌+◌, List, [], ◌∷◌, ◌++◌, length, Option, Some, None, refl, sym, ◌∙◌, ap, append_assoc, append-nil, length-append, arith}
use Rattle.std.specs.Prelude.{◌-◌, Bool, true, false, cond, replicate, zero, suc}
use Rattle.vm_base.specs.Deals.{Deal, Granted, Denied, Returned}
use Rattle.vm_base.specs.declared.frame_request.Want.TheVariants as want
use Rattle.kernel_meaning.specs.Requests.{Answer, Yes, No, answers_of}
use Rattle.kernel_meaning.specs.Leaves.{CellLeaves, version_at, has_pages, is_named, share, Lost, names_version}
use Rattle.kernel_meaning.specs.CellActs.{Course, course_touched, new_page_asked, parent_leaf_answered, present_touched, page_copy_answered, coming_answer, asking, with_leaf_where, before_change}
use Rattle.leaf_cell.specs.CellView.{AreUnjoined}
use Rattle.leaf_cell.proofs.TouchCourses.{before_change-none, touched-absent, touched-first, touched-present}
use Rattle.leaf_cell.specs.Courses.{requests_between, course_between, RunsAt}

-- what is behind a course that made its deals, with other deals before it and more answers to come
abbrev pub behind : List Deal → List Answer → Course → Course
behind before rest course = record course { requests = requests_between course.requests.made rest (before ++ course.requests.deals) }

pub answers-append : (front tail : List Deal) → answers_of (front ++ tail) ≡ answers_of front ++ answers_of tail
answers-append [] tail = refl
answers-append (Granted want ∷ front) tail = ap (λ xs. Yes ∷ xs) (answers-append front tail)
answers-append (Denied want at ∷ front) tail = ap (λ xs. No at ∷ xs) (answers-append front tail)
answers-append (Returned ∷ front) tail = answers-append front tail

pub answers-returned : (n : ℕ) → answers_of (replicate n Returned) ≡ []
answers-returned zero = refl
answers-returned (suc n) = answers-returned n

no_length : {X : Type 0} (xs : List X) → length xs ≡ 0 → xs ≡ []
no_length [] e = refl
no_length (x ∷ xs) e = absurd (omega arith)

not_nil : {x : Answer} {xs : List Answer} → x ∷ xs ≢ []
not_nil {x} {xs} e = let l : length (x ∷ xs) ≡ 0 = ap length e in omega arith

-- as many answers as were used: none is left behind one
used_up : (front tail : List Deal) (x : Answer) (ys : List Answer) → length (answers_of tail) ≡ 1 → answers_of (front ++ tail) ≡ answers_of front ++ x ∷ ys → ys ≡ []
used_up front tail x ys one e =
    let l : length (answers_of front) + length (answers_of tail) ≡ length (answers_of front) + length (x ∷ ys) =
    sym (length-append (answers_of front) (answers_of tail)) ∙ ap length (sym (answers-append front tail) ∙ e) ∙ length-append (answers_of front) (x ∷ ys) in
    no_length ys (omega arith)

none_used : (front tail : List Deal) → length (answers_of tail) ≡ 1 → answers_of (front ++ tail) ≢ answers_of front ++ []
none_used front tail one e =
    let l : length (answers_of front) + length (answers_of tail) ≡ length (answers_of front) + 0 =
    sym (length-append (answers_of front) (answers_of tail)) ∙ ap length (sym (answers-append front tail) ∙ e) ∙ length-append (answers_of front) [] in
    omega arith

one_refused : (at n : ℕ) → length (answers_of (Denied want.Page at ∷ replicate n Returned)) ≡ 1
one_refused at n = ap (λ xs. length (No at ∷ xs)) (answers-returned n)

module _ (page leaves : ℕ) (cell : CellLeaves) (made : ℕ) (front before : List Deal) (rest : List Answer) where
  pub new_page-behind : (xs : List Answer) → answers_of (new_page_asked page leaves (course_between cell made xs front)).requests.deals ≡ answers_of front ++ xs
      → new_page_asked page leaves (course_between cell made (xs ++ rest) (before ++ front)) ≡ behind before rest (new_page_asked page leaves (course_between cell made xs front))
  new_page-behind [] e = absurd (none_used front (Granted want.Page ∷ []) refl e)
  new_page-behind (Yes ∷ ys) e =
      let done : ys ≡ [] = used_up front (Granted want.Page ∷ []) Yes ys refl e in
      let joined : (before ++ front) ++ Granted want.Page ∷ [] ≡ before ++ (front ++ Granted want.Page ∷ []) = append_assoc before front (Granted want.Page ∷ []) in
      λ i. record (new_page_asked page leaves (course_between cell made (Yes ∷ ys) front)) { requests = requests_between (made + 1) (done i ++ rest) (joined i) }
  new_page-behind (No at ∷ ys) e =
      let tail : (front ++ Denied want.Page at ∷ []) ++ replicate leaves Returned ≡ front ++ Denied want.Page at ∷ replicate leaves Returned =
      append_assoc front (Denied want.Page at ∷ []) (replicate leaves Returned) in
      let done : ys ≡ [] = used_up front (Denied want.Page at ∷ replicate leaves Returned) (No at) ys (one_refused at leaves) (ap answers_of (sym tail) ∙ e) in
      let joined : ((before ++ front) ++ Denied want.Page at ∷ []) ++ replicate leaves Returned ≡ before ++ ((front ++ Denied want.Page at ∷ []) ++ replicate leaves Returned) =
      ap (λ ds. ds ++ replicate leaves Returned) (append_assoc before front (Denied want.Page at ∷ [])) ∙ append_assoc before (front ++ Denied want.Page at ∷ []) (replicate leaves Returned) in
      λ i. record (new_page_asked page leaves (course_between cell made (No at ∷ ys) front)) { requests = requests_between (made + 1) (done i ++ rest) (joined i) }

module _ (page : ℕ) (cell : CellLeaves) (made : ℕ) (before : List Deal) (rest : List Answer) where
  abbrev between : List Answer → List Deal → Course
  between coming dealt = course_between cell made coming dealt

  module _ (unjoined : AreUnjoined cell.kept) where
    -- the course behind the leaf table that was granted
    with_leaf : (ys : List Answer) (dealt : List Deal) → before_change (course_between cell (made + 1) ys dealt) ≡ course_between cell (made + 1) ys dealt
    with_leaf ys dealt = before_change-none (course_between cell (made + 1) ys dealt) unjoined

    -- the leaf table was missing
    first-behind : (xs : List Answer) → answers_of (parent_leaf_answered page (coming_answer (between xs [])) (asking want.Leaf (between xs []))).requests.deals ≡ xs
        → parent_leaf_answered page (coming_answer (between (xs ++ rest) before)) (asking want.Leaf (between (xs ++ rest) before))
        ≡ behind before rest (parent_leaf_answered page (coming_answer (between xs [])) (asking want.Leaf (between xs [])))
    first-behind [] e =
        let two : Yes ∷ Yes ∷ [] ≡ [] = ap (λ c. answers_of (new_page_asked page 1 c).requests.deals) (sym (with_leaf [] (Granted want.Leaf ∷ []))) ∙ e in
        absurd (not_nil two)
    first-behind (Yes ∷ ys) e =
        ap (new_page_asked page 1) (with_leaf (ys ++ rest) (before ++ Granted want.Leaf ∷ []))
        ∙ new_page-behind page 1 cell (made + 1) (Granted want.Leaf ∷ []) before rest ys
        (ap (λ c. answers_of (new_page_asked page 1 c).requests.deals) (sym (with_leaf ys (Granted want.Leaf ∷ []))) ∙ e)
        ∙ ap (λ c. behind before rest (new_page_asked page 1 c)) (sym (with_leaf ys (Granted want.Leaf ∷ [])))
    first-behind (No at ∷ ys) e =
        let done : ys ≡ [] = used_up [] (Denied want.Leaf at ∷ []) (No at) ys refl e in
        let joined : (before ++ Denied want.Leaf at ∷ []) ++ [] ≡ before ++ Denied want.Leaf at ∷ [] = append_assoc before (Denied want.Leaf at ∷ []) [] in
        λ i. record { cell = cell; requests = requests_between (made + 1) (done i ++ rest) (joined i); refused = Some at }

  -- the touch of a present page, where some snapshot's own leaf names it or none does
  copy-behind : (version : ℕ) (b : Bool) (xs : List Answer)
      → answers_of (cond b (page_copy_answered page version (coming_answer (between xs [])) (asking want.Page (between xs []))) (between xs [])).requests.deals ≡ xs
      → cond b (page_copy_answered page version (coming_answer (between (xs ++ rest) before)) (asking want.Page (between (xs ++ rest) before))) (between (xs ++ rest) before)
      ≡ behind before rest (cond b (page_copy_answered page version (coming_answer (between xs [])) (asking want.Page (between xs []))) (between xs []))
  copy-behind version true [] e = absurd (not_nil e)
  copy-behind version true (Yes ∷ ys) e =
      let done : ys ≡ [] = used_up [] (Granted want.Page ∷ []) Yes ys refl e in
      λ i. record (page_copy_answered page version Yes (course_between cell (made + 1) ys (Granted want.Page ∷ []))) {
        requests =
            requests_between (made + 1) (done i ++ rest) (before ++ Granted want.Page ∷ []);
      }
  copy-behind version true (No at ∷ ys) e =
      let lost : CellLeaves = with_leaf_where (names_version page version) (Lost at) cell in
      let n : ℕ = share cell - share lost in
      let done : ys ≡ [] = used_up [] (Denied want.Page at ∷ replicate n Returned) (No at) ys (one_refused at n) e in
      let joined : (before ++ Denied want.Page at ∷ []) ++ replicate n Returned ≡ before ++ Denied want.Page at ∷ replicate n Returned =
      append_assoc before (Denied want.Page at ∷ []) (replicate n Returned) in
      λ i. record { cell = lost; requests = requests_between (made + 1) (done i ++ rest) (joined i); refused = None }
  copy-behind version false xs e = λ i. course_between cell made (sym e i ++ rest) (sym (append-nil before) i)

-- the touch as it runs with no deals before it
abbrev pub touched_alone : ℕ → CellLeaves → ℕ → List Answer → Course
touched_alone page cell made xs = course_touched page (course_between cell made xs [])

touched-behind : (page : ℕ) (cell : CellLeaves) (made : ℕ) → AreUnjoined cell.kept → (version : Option ℕ) → version_at cell.parent page ≡ version → (leaf : Bool) → has_pages cell.parent ≡ leaf
    → (xs : List Answer) → answers_of (touched_alone page cell made xs).requests.deals ≡ xs
    → (before : List Deal) (rest : List Answer) → course_touched page (course_between cell made (xs ++ rest) before) ≡ behind before rest (touched_alone page cell made xs)
touched-behind page cell made unjoined None absent true there xs e before rest =
    let alone : touched_alone page cell made xs ≡ new_page_asked page 0 (course_between cell made xs []) = touched-absent page (course_between cell made xs []) unjoined absent there in
    touched-absent page (course_between cell made (xs ++ rest) before) unjoined absent there
    ∙ ap (λ ds. new_page_asked page 0 (course_between cell made (xs ++ rest) ds)) (sym (append-nil before))
    ∙ new_page-behind page 0 cell made [] before rest xs (ap (λ c. answers_of c.requests.deals) (sym alone) ∙ e)
    ∙ ap (behind before rest) (sym alone)
touched-behind page cell made unjoined None absent false none xs e before rest =
    let alone : touched_alone page cell made xs ≡ parent_leaf_answered page (coming_answer (course_between cell made xs [])) (asking want.Leaf (course_between cell made xs [])) =
    touched-first page (course_between cell made xs []) unjoined absent none in
    touched-first page (course_between cell made (xs ++ rest) before) unjoined absent none
    ∙ first-behind page cell made before rest unjoined xs (ap (λ c. answers_of c.requests.deals) (sym alone) ∙ e)
    ∙ ap (behind before rest) (sym alone)
touched-behind page cell made unjoined (Some version) there leaf any xs e before rest =
    let alone : touched_alone page cell made xs ≡ present_touched page version (course_between cell made xs []) = touched-present page (course_between cell made xs []) unjoined version there in
    touched-present page (course_between cell made (xs ++ rest) before) unjoined version there
    ∙ copy-behind page cell made before rest version (is_named cell page version) xs (ap (λ c. answers_of c.requests.deals) (sym alone) ∙ e)
    ∙ ap (behind before rest) (sym alone)

-- a touch that makes just these deals
pub touch-runs : (page : ℕ) (cell : CellLeaves) (made : ℕ) (deals : List Deal) → AreUnjoined cell.kept → (touched_alone page cell made (answers_of deals)).requests.deals ≡ deals
    → RunsAt (course_touched page) cell made deals (touched_alone page cell made (answers_of deals)).cell (touched_alone page cell made (answers_of deals)).requests.made
    (touched_alone page cell made (answers_of deals)).refused
touch-runs page cell made deals unjoined just = record {
  runs = λ before rest.
      touched-behind page cell made unjoined (version_at cell.parent page) refl (has_pages cell.parent) refl (answers_of deals) (ap answers_of just) before rest
      ∙ ap (λ ds. record (touched_alone page cell made (answers_of deals)) { requests = requests_between (touched_alone page cell made (answers_of deals)).requests.made rest (before ++ ds) }) just;
}
