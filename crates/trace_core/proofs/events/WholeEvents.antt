-- An event with the answers of its own deals to come, and the frames that are out behind it.
use Rattle.std.proofs.Common.{◌≡◌, ℕ, List, [], Option, sym, ◌∙◌, ap, arith, append-nil}
use Rattle.vm_base.specs.Deals.{Deal}
use Rattle.kernel_meaning.specs.Requests.{answers_of}
use Rattle.kernel_meaning.specs.FrameLaw.{Leaves, held_frames}
use Rattle.kernel_meaning.specs.EventRequests.{Progress, FrameRefusal}
use Rattle.page_tables.specs.declared.tables.PageTables.{PageTables}
use Rattle.page_tables.specs.Courses.{Runs, requests_between, progress_between}
use Rattle.page_tables.specs.Held.{frames_of}
use Rattle.page_tables.specs.Sides.{Sides}
use Rattle.page_tables.specs.Standing.{TablesStandFor}
use Rattle.page_tables.proofs.view.TablesShown.{held-shown}
use Rattle.trace_core.specs.KernelState.{KernelState}
use Rattle.trace_core.specs.EventMeaning.{begun}

-- the progress behind an event that makes just its deals
abbrev pub progress_behind : Leaves → ℕ → List Deal → Option FrameRefusal → Progress
progress_behind leaves made deals refused = record { leaves = leaves; requests = requests_between made [] deals; refused = refused }

pub runs-whole : (event : Progress → Progress) (state : KernelState) (deals : List Deal) (leaves : Leaves) (made : ℕ) (refused : Option FrameRefusal)
    → Runs event state.leaves state.made deals leaves made refused → event (begun state (answers_of deals)) ≡ progress_behind leaves made deals refused
runs-whole event state deals leaves made refused runs =
    ap (λ xs. event (progress_between state.leaves state.made xs [])) (sym (append-nil (answers_of deals))) ∙ runs.runs [] []

-- page tables that hold what is out
pub all-held : (out : ℕ) (tables : PageTables) (sides : Sides) → TablesStandFor tables sides
    → out ≡ frames_of tables → out ≡ held_frames sides.leaves
all-held out tables sides stands held =
    held ∙ sym (held-shown tables sides stands)
