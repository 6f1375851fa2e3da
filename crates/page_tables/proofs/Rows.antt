-- Rows of requests, and the touch of a page that lacks directory tables.
use Rattle.std.proofs.Common.{◌≡◌, ℕ, ◌+◌, ◌%◌, List, [], ◌∷◌, ◌++◌, length, Option, Some, None, refl, sym, ◌∙◌, ap, append_assoc, append-nil, arith}
use Rattle.std.specs.Prelude.{suc}
use Rattle.vm_base.specs.declared.frame_request.Want.{Want}
use Rattle.vm_base.specs.Deals.{Deal, Granted, Denied}
use Rattle.vm_base.specs.Places.{cell_of}
use Rattle.kernel_meaning.specs.Requests.{Answer, Yes, No, RowEnd, answers_of, asked_in_row, row_end}
use Rattle.kernel_meaning.specs.Leaves.{CellLeaves}
use Rattle.kernel_meaning.specs.FrameLaw.{Leaves, cell_at, with_cell, parent_cells}
use Rattle.kernel_meaning.specs.CellActs.{course_touched}
use Rattle.kernel_meaning.specs.EventRequests.{Progress, page_touched, missing_tables, tables_answered, cell_touch_ended, with_course}
use Rattle.table_levels.specs.Requests.{granted, returned}
use Rattle.page_tables.specs.Courses.{requests_between, progress_between, RunsAt, Runs}
use Rattle.leaf_cell.proofs.TouchRuns.{answers-append, answers-returned}
use Rattle.page_tables.proofs.KnownTouch.{refusal_at}

-- a row that is granted whole
pub row-granted : (wants : List Want) (made : ℕ) (tail : List Answer) (before : List Deal)
    → asked_in_row wants (requests_between made (answers_of (granted wants) ++ tail) before)
    ≡ record { requests = requests_between (made + length wants) tail (before ++ granted wants); granted = length wants; refused = None }
row-granted [] made tail before =
    let none : made ≡ made + 0 = omega arith in
    λ i. record { requests = requests_between (none i) tail (sym (append-nil before) i); granted = 0; refused = None }
row-granted (want ∷ wants) made tail before =
    let count : made + 1 + length wants ≡ made + suc (length wants) = omega arith in
    let one : length wants + 1 ≡ suc (length wants) = omega arith in
    ap (row_end Yes (requests_between (made + 1) (answers_of (granted wants) ++ tail) (before ++ Granted want ∷ []))) (row-granted wants (made + 1) tail (before ++ Granted want ∷ []))
    ∙ λ i. record { requests = requests_between (count i) tail (append_assoc before (Granted want ∷ []) (granted wants) i); granted = one i; refused = None }

-- a row of which one request is refused
pub row-refused : (front : List Want) (want : Want) (more : List Want) (at made : ℕ) (tail : List Answer) (before : List Deal)
    → asked_in_row (front ++ want ∷ more) (requests_between made (answers_of (granted front) ++ No at ∷ tail) before)
    ≡ record { requests = requests_between (made + length front + 1) tail ((before ++ granted front) ++ Denied want at ∷ []); granted = length front; refused = Some at }
row-refused [] want more at made tail before =
    let count : made + 1 ≡ made + 0 + 1 = omega arith in
    λ i. record { requests = requests_between (count i) tail (sym (append-nil before) i ++ Denied want at ∷ []); granted = 0; refused = Some at }
row-refused (first ∷ front) want more at made tail before =
    let count : made + 1 + length front + 1 ≡ made + suc (length front) + 1 = omega arith in
    let one : length front + 1 ≡ suc (length front) = omega arith in
    ap (row_end Yes (requests_between (made + 1) (answers_of (granted front) ++ No at ∷ tail) (before ++ Granted first ∷ [])))
    (row-refused front want more at (made + 1) tail (before ++ Granted first ∷ []))
    ∙ λ i. record { requests = requests_between (count i) tail (append_assoc before (Granted first ∷ []) (granted front) i ++ Denied want at ∷ []); granted = one i; refused = Some at }

-- what is given back where a touch was refused behind so many directory tables
abbrev pub tables_back : Option ℕ → ℕ → List Deal
tables_back None n = []
tables_back (Some at) n = returned n

-- these tables and then the cell's deals, and the tables back where those were refused
abbrev pub deals_behind : List Want → List Deal → Option ℕ → List Deal
deals_behind wants deals refused = granted wants ++ (deals ++ tables_back refused (length wants))

-- these tables, the next one refused, and all back
abbrev pub deals_up_to : List Want → Want → ℕ → List Deal
deals_up_to front want at = granted front ++ Denied want at ∷ returned (length front)

answers-back : (refused : Option ℕ) (n : ℕ) → answers_of (tables_back refused n) ≡ []
answers-back None n = refl
answers-back (Some at) n = answers-returned n

-- the touch of a page behind so many directory tables
touch-ended-behind : (page n : ℕ) (leaves : Leaves) (made : ℕ) (rest : List Answer) (dealt : List Deal) (refused : Option ℕ)
    → cell_touch_ended refused page n (progress_between leaves made rest dealt)
    ≡ record { leaves = leaves; requests = requests_between made rest (dealt ++ tables_back refused n); refused = refusal_at page refused }
touch-ended-behind page n leaves made rest dealt None = λ i. record { leaves = leaves; requests = requests_between made rest (sym (append-nil dealt) i); refused = None }
touch-ended-behind page n leaves made rest dealt (Some at) = refl

module _ (page : ℕ) (leaves : Leaves) (made : ℕ) (wants : List Want) (missing : missing_tables (parent_cells leaves) (cell_of page) ≡ wants) where
  -- all tables were granted
  module _ (deals : List Deal) (after : CellLeaves) (later : ℕ) (refused : Option ℕ)
      (at_cell : RunsAt (course_touched (page % 512)) (cell_at leaves (cell_of page)) (made + length wants) deals after later refused) where
    abbrev all_deals : List Deal
    all_deals = deals_behind wants deals refused

    all_answers : (rest : List Answer) → answers_of all_deals ++ rest ≡ answers_of (granted wants) ++ (answers_of deals ++ rest)
    all_answers rest =
        ap (λ xs. xs ++ rest) (answers-append (granted wants) (deals ++ tables_back refused (length wants)) ∙ ap (λ xs. answers_of (granted wants) ++ xs)
        (answers-append deals (tables_back refused (length wants)) ∙ ap (λ xs. answers_of deals ++ xs) (answers-back refused (length wants)) ∙ append-nil (answers_of deals)))
        ∙ append_assoc (answers_of (granted wants)) (answers_of deals) rest

    pub new-runs : Runs (page_touched page) leaves made (deals_behind wants deals refused) (with_cell leaves (cell_of page) after) later (refusal_at page refused)
    new-runs = record {
      runs = λ before rest.
          let start : Progress = progress_between leaves made (answers_of all_deals ++ rest) before in
          let going : RowEnd → Progress = λ row. tables_answered row.refused page row.granted (record start { requests = row.requests }) in
          let behind : Progress = progress_between leaves (made + length wants) (answers_of deals ++ rest) (before ++ granted wants) in
          ap (λ wants. going (asked_in_row wants start.requests)) missing
          ∙ ap (λ coming. going (asked_in_row wants (requests_between made coming before))) (all_answers rest)
          ∙ ap going (row-granted wants made (answers_of deals ++ rest) before)
          ∙ ap (λ course. cell_touch_ended course.refused page (length wants) (with_course (cell_of page) course behind)) (at_cell.runs (before ++ granted wants) rest)
          ∙ touch-ended-behind page (length wants) (with_cell leaves (cell_of page) after) later rest ((before ++ granted wants) ++ deals) refused
          ∙ ap (λ ds. record { leaves = with_cell leaves (cell_of page) after; requests = requests_between later rest ds; refused = refusal_at page refused })
          (append_assoc (before ++ granted wants) deals (tables_back refused (length wants)) ∙ append_assoc before (granted wants) (deals ++ tables_back refused (length wants)));
    }

  -- a table was refused
  module _ (front : List Want) (want : Want) (more : List Want) (order : wants ≡ front ++ want ∷ more) (at : ℕ) where
    abbrev lacking_deals : List Deal
    lacking_deals = deals_up_to front want at

    lacking_answers : (rest : List Answer) → answers_of lacking_deals ++ rest ≡ answers_of (granted front) ++ No at ∷ rest
    lacking_answers rest =
        ap (λ xs. xs ++ rest) (answers-append (granted front) (Denied want at ∷ returned (length front)) ∙ ap (λ xs. answers_of (granted front) ++ No at ∷ xs) (answers-returned (length front)))
        ∙ append_assoc (answers_of (granted front)) (No at ∷ []) rest

    pub lacking-runs : Runs (page_touched page) leaves made (deals_up_to front want at) leaves (made + length front + 1) (refusal_at page (Some at))
    lacking-runs = record {
      runs = λ before rest.
          let start : Progress = progress_between leaves made (answers_of lacking_deals ++ rest) before in
          let going : RowEnd → Progress = λ row. tables_answered row.refused page row.granted (record start { requests = row.requests }) in
          ap (λ wants. going (asked_in_row wants start.requests)) (missing ∙ order)
          ∙ ap (λ coming. going (asked_in_row (front ++ want ∷ more) (requests_between made coming before))) (lacking_answers rest)
          ∙ ap going (row-refused front want more at made rest before)
          ∙ ap (λ ds. record { leaves = leaves; requests = requests_between (made + length front + 1) rest ds; refused = refusal_at page (Some at) })
          (append_assoc (before ++ granted front) (Denied want at ∷ []) (returned (length front)) ∙ append_assoc before (granted front) (Denied want at ∷ returned (length front)));
    }
