-- What an act at a cell runs, whatever was dealt before it and whatever answers come later.
use Rattle.std.specs.Prelude.{◌≡◌, ℕ, List, ◌++◌, Option, None}
use Rattle.vm_base.specs.Deals.{Deal}
use Rattle.kernel_meaning.specs.Requests.{Answer, Requests, answers_of}
use Rattle.kernel_meaning.specs.Leaves.{CellLeaves}
use Rattle.kernel_meaning.specs.CellActs.{Course}

-- requests behind these deals, with these answers to come
abbrev pub requests_between : ℕ → List Answer → List Deal → Requests
requests_between made coming before = record { made = made; coming = coming; deals = before }

-- a cell in the course of an act, behind these deals and with these answers to come
abbrev pub course_between : CellLeaves → ℕ → List Answer → List Deal → Course
course_between cell made coming before =
    record { cell = cell; requests = requests_between made coming before; refused = None }

-- a course that makes just these deals
pub record RunsAt (act : Course → Course) (cell : CellLeaves) (made : ℕ) (deals : List Deal)
    (after : CellLeaves) (made_after : ℕ) (refused : Option ℕ) : Type 0 where
  pub runs : (before : List Deal) (rest : List Answer)
      → act (course_between cell made (answers_of deals ++ rest) before)
      ≡ record {
        cell = after;
        requests = requests_between made_after rest (before ++ deals);
        refused = refused;
      }
