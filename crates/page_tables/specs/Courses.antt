-- What an event runs, whatever was dealt before it and whatever answers come behind its own.
use Rattle.std.specs.Prelude.{◌≡◌, ℕ, List, ◌++◌, Option, None}
use Rattle.vm_base.specs.Deals.{Deal}
use Rattle.kernel_meaning.specs.Requests.{Answer, answers_of}
use Rattle.kernel_meaning.specs.FrameLaw.{Leaves}
use Rattle.kernel_meaning.specs.EventRequests.{FrameRefusal, Progress}
pub use Rattle.leaf_cell.specs.Courses.{requests_between, course_between, RunsAt}

-- the leaves in the course of an event, likewise
abbrev pub progress_between : Leaves → ℕ → List Answer → List Deal → Progress
progress_between leaves made coming before = record { leaves = leaves; requests = requests_between made coming before; refused = None }

-- the progress of an event that makes just these deals
pub record Runs (act : Progress → Progress) (leaves : Leaves) (made : ℕ) (deals : List Deal) (after : Leaves) (made_after : ℕ) (refused : Option FrameRefusal) : Type 0 where
  pub runs : (before : List Deal) (rest : List Answer)
      → act (progress_between leaves made (answers_of deals ++ rest) before)
      ≡ record { leaves = after; requests = requests_between made_after rest (before ++ deals); refused = refused }
