-- What a fork asks for, and the event that asks for it.
use Rattle.std.proofs.Common.{◌≡◌, ℕ, ◌+◌, ◌/◌, ◌^◌, List, [], ◌∷◌, ◌++◌, length, map, replicate, Some, None, refl, ◌∙◌, ap, append_assoc, length-append, arith}
use Rattle.std.proofs.lemmas.List.{length-replicate}
use Rattle.vm_base.specs.declared.fork_mode.Mode.TheVariants.{Eager}
use Rattle.vm_base.specs.declared.frame_request.Want.{Want}
use Rattle.vm_base.specs.declared.frame_request.Want.TheVariants as want
use Rattle.vm_base.specs.Deals.{Denied}
use Rattle.vm_base.specs.Places.{distinct, directory_frames}
use Rattle.kernel_meaning.specs.Requests.{Answer, No, RowEnd, answers_of, asked_in_row}
use Rattle.kernel_meaning.specs.FrameLaw.{Leaves, parent_cells}
use Rattle.kernel_meaning.specs.EventRequests as event
use Rattle.kernel_meaning.specs.EventRequests.{Progress, FrameRefusal, fork_wants, fork_answered, snapshot_forked, with_fork_at}
use Rattle.table_levels.specs.Requests.{directory_wants, granted, returned}
use Rattle.page_tables.specs.Courses.{requests_between, progress_between, Runs}
use Rattle.leaf_cell.proofs.TouchRuns.{answers-append, answers-returned}
use Rattle.page_tables.proofs.Rows.{row-granted, row-refused, deals_up_to}

-- a directory wants as many tables as it takes
pub wants-counted : (cells : List ℕ) → length (directory_wants cells) ≡ directory_frames cells
wants-counted [] = refl
wants-counted (c ∷ cells) =
    let upper : ℕ = length (distinct (map (λ x. x / 2 ^ 18) (c ∷ cells))) in
    let middle : ℕ = length (distinct (map (λ x. x / 2 ^ 9) (c ∷ cells))) in
    let both : length (replicate upper want.Upper ++ replicate middle want.Middle) ≡ upper + middle =
    length-append (replicate upper want.Upper) (replicate middle want.Middle) ∙ (λ i. length-replicate upper want.Upper i + length-replicate middle want.Middle i) in
    omega (arith, both)

-- the tables as the event names them
pub same-wants : (cells : List ℕ) → directory_wants cells ≡ event.directory_wants cells
same-wants [] = refl
same-wants (c ∷ cells) = refl

-- what a fork of these cells asks for
pub same-fork : (cells : List ℕ) (count : ℕ) → count ≡ length cells → directory_wants cells ++ replicate count want.Leaf ≡ fork_wants Eager cells
same-fork cells count e = λ i. same-wants cells i ++ replicate (e i) want.Leaf

module _ (n : ℕ) (leaves : Leaves) (made : ℕ) (wants : List Want) (all : fork_wants Eager (parent_cells leaves) ≡ wants) where
  -- how the event goes on behind its row
  abbrev going : Progress → RowEnd → Progress
  going start row = fork_answered row.refused row.granted n Eager (record start { requests = row.requests })

  pub fork-runs : Runs (snapshot_forked n Eager) leaves made (granted wants) (with_fork_at (parent_cells leaves) n Eager leaves) (made + length wants) None
  fork-runs = record {
    runs = λ before rest.
        let start : Progress = progress_between leaves made (answers_of (granted wants) ++ rest) before in
        ap (λ ws. going start (asked_in_row ws start.requests)) all ∙ ap (going start) (row-granted wants made rest before);
  }

  module _ (front : List Want) (want : Want) (more : List Want) (order : wants ≡ front ++ want ∷ more) (at : ℕ) where
    lacking : (rest : List Answer) → answers_of (deals_up_to front want at) ++ rest ≡ answers_of (granted front) ++ No at ∷ rest
    lacking rest =
        ap (λ xs. xs ++ rest) (answers-append (granted front) (Denied want at ∷ returned (length front)) ∙ ap (λ xs. answers_of (granted front) ++ No at ∷ xs) (answers-returned (length front)))
        ∙ append_assoc (answers_of (granted front)) (No at ∷ []) rest

    pub unforked-runs : Runs (snapshot_forked n Eager) leaves made (deals_up_to front want at) leaves (made + length front + 1) (Some (record { at = at; page = None }))
    unforked-runs = record {
      runs = λ before rest.
          let start : Progress = progress_between leaves made (answers_of (deals_up_to front want at) ++ rest) before in
          ap (λ ws. going start (asked_in_row ws start.requests)) (all ∙ order)
          ∙ ap (λ coming. going start (asked_in_row (front ++ want ∷ more) (requests_between made coming before))) (lacking rest)
          ∙ ap (going start) (row-refused front want more at made rest before)
          ∙ ap (λ ds. record { leaves = leaves; requests = requests_between (made + length front + 1) rest ds; refused = Some (record { at = at; page = None }) })
          (append_assoc (before ++ granted front) (Denied want at ∷ []) (returned (length front)) ∙ append_assoc before (granted front) (Denied want at ∷ returned (length front)));
    }
