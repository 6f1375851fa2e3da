-- How many frames are out where a request of a fork is refused.
use Rattle.std.proofs.Common.{◌≡◌, ℕ, zero, suc, ◌+◌, ◌≤◌, List, [], ◌∷◌, ◌++◌, length, replicate, Option, Some, None, refl, sym, ◌∙◌, ap, subst, arith, length-append}
use Rattle.std.specs.Prelude.{◌-◌}
use Rattle.std.proofs.lemmas.List.{length-replicate}
use Rattle.vm_base.specs.declared.fork_mode.Mode.TheVariants.{Eager}
use Rattle.vm_base.specs.declared.frame_request.Want.{Want}
use Rattle.vm_base.specs.declared.frame_request.Want.TheVariants as want
use Rattle.vm_base.specs.Deals.{Deal, Granted, Denied, Returned}
use Rattle.vm_base.specs.Places.{directory_frames}
use Rattle.kernel_meaning.specs.Requests.{Answer, Yes, No, Requests, RowEnd, opening_requests, deal_of, next_answer, asked, row_end, asked_in_row, given_back}
use Rattle.kernel_meaning.specs.FrameLaw.{Leaves, parent_cells, parent_tables, held_frames}
use Rattle.kernel_meaning.specs.EventRequests as event
use Rattle.kernel_meaning.specs.EventRequests.{Progress, opening_progress, fork_wants, fork_answered, snapshot_forked}
use Rattle.kernel_meaning.specs.RefusedRequests.{out_after}
use Rattle.page_tables.proofs.ForkWants.{wants-counted, same-wants}

-- ---- denials among deals

-- so many frames are out at most, the one that is denied among them, wherever one of the deals is a denial
abbrev pub AreDeniedWithin : ℕ → ℕ → List Deal → Type 0
AreDeniedWithin most out [] = Unit {0}
AreDeniedWithin most out (Granted want ∷ deals) = AreDeniedWithin most (out + 1) deals
AreDeniedWithin most out (Denied want at ∷ deals) = (out + 1 ≤ most) × AreDeniedWithin most out deals
AreDeniedWithin most out (Returned ∷ deals) = AreDeniedWithin most (out - 1) deals

-- the frames out behind two lists of deals
pub out_after-append : (out : ℕ) (front back : List Deal) → out_after out (front ++ back) ≡ out_after (out_after out front) back
out_after-append out [] back = refl
out_after-append out (Granted want ∷ front) back = out_after-append (out + 1) front back
out_after-append out (Denied want at ∷ front) back = out_after-append out front back
out_after-append out (Returned ∷ front) back = out_after-append (out - 1) front back

module _ (most : ℕ) where
  -- two lists of deals, one behind the other
  pub within-append : (out : ℕ) (front back : List Deal) → AreDeniedWithin most out front → AreDeniedWithin most (out_after out front) back
      → AreDeniedWithin most out (front ++ back)
  within-append out [] back here behind = behind
  within-append out (Granted want ∷ front) back here behind = within-append (out + 1) front back here behind
  within-append out (Denied want at ∷ front) back here behind = (here.0, within-append out front back here.1 behind)
  within-append out (Returned ∷ front) back here behind = within-append (out - 1) front back here behind

  -- frames that come back
  pub within-returned : (n out : ℕ) → AreDeniedWithin most out (replicate n Returned)
  within-returned zero out = tt
  within-returned (suc n) out = within-returned n (out - 1)

  -- what it says of one denial
  pub within-denied : (out : ℕ) (front : List Deal) (want : Want) (at : ℕ) (back : List Deal) → AreDeniedWithin most out (front ++ Denied want at ∷ back)
      → out_after out front + 1 ≤ most
  within-denied out [] want at back within = within.0
  within-denied out (Granted other ∷ front) want at back within = within-denied (out + 1) front want at back within
  within-denied out (Denied other before ∷ front) want at back within = within-denied out front want at back within.1
  within-denied out (Returned ∷ front) want at back within = within-denied (out - 1) front want at back within

  module _ (out : ℕ) where
    -- of the requests of an event so far
    abbrev pub Within : Requests → Type 0
    Within requests = AreDeniedWithin most out requests.deals

    abbrev out_behind : Requests → ℕ
    out_behind requests = out_after out requests.deals

    -- frames that are given back
    pub within-given : (n : ℕ) (requests : Requests) → Within requests → Within (given_back n requests)
    within-given n requests within = within-append out requests.deals (replicate n Returned) within (within-returned n (out_behind requests))

    -- a row of requests for no more frames than there are left
    pub within-row : (wants : List Want) (requests : Requests) → Within requests → out_after out requests.deals + length wants ≤ most
        → Within (asked_in_row wants requests).requests
    within-row [] requests within enough = within
    within-row (wanted ∷ wants) requests within enough =
        by (next_answer requests) (asked_in_row wants) (λ next is. within-row wants next is)
      where
        by : (answer : Answer) (row : Requests → RowEnd) → ((next : Requests) → Within next → out_behind next + length wants ≤ most → Within (row next).requests)
            → let next : Requests = record (asked wanted requests) { deals = requests.deals ++ deal_of wanted answer ∷ [] } in
            Within (row_end answer next (row next)).requests
        by Yes row rest =
            let here : out_after out (requests.deals ++ Granted wanted ∷ []) ≡ out_after out requests.deals + 1 = out_after-append out requests.deals (Granted wanted ∷ []) in
            rest _ (within-append out requests.deals (Granted wanted ∷ []) within tt) (omega (arith, here, enough))
        by (No at) row rest = within-append out requests.deals (Denied wanted at ∷ []) within (omega (arith, enough), tt)

-- ---- a fork

-- a fork asks for as many frames as the parent has tables
pub fork_wants-counted : (leaves : Leaves) → length (fork_wants Eager (parent_cells leaves)) ≡ parent_tables leaves
fork_wants-counted leaves =
    let cells : List ℕ = parent_cells leaves in
    let directory : length (event.directory_wants cells) ≡ directory_frames cells = ap length (sym (same-wants cells)) ∙ wants-counted cells in
    let all : length (fork_wants Eager cells) ≡ length (event.directory_wants cells) + length (replicate (length cells) want.Leaf) =
    length-append (event.directory_wants cells) (replicate (length cells) want.Leaf) in
    omega (arith, directory, all, length-replicate (length cells) want.Leaf)

module _ (leaves : Leaves) (made n : ℕ) (answers : List Answer) where
  abbrev start : Progress
  start = opening_progress leaves (opening_requests made answers)

  abbrev most : ℕ
  most = held_frames leaves + parent_tables leaves

  within-answered : (refused : Option ℕ) (taken : ℕ) (progress : Progress) → Within most (held_frames leaves) progress.requests
      → Within most (held_frames leaves) (fork_answered refused taken n Eager progress).requests
  within-answered None taken progress within = within
  within-answered (Some at) taken progress within = within-given most (held_frames leaves) taken progress.requests within

  within-forked : Within most (held_frames leaves) (snapshot_forked n Eager start).requests
  within-forked =
      let wants : List Want = fork_wants Eager (parent_cells leaves) in
      let row : RowEnd = asked_in_row wants start.requests in
      within-answered row.refused row.granted (record start { requests = row.requests })
      (within-row most (held_frames leaves) wants start.requests tt (omega (arith, fork_wants-counted leaves)))

  -- where a fork is denied a frame, those that are out and this one are no more than those of the frame law and the parent's tables
  pub fork-denied : (front : List Deal) (want : Want) (at : ℕ) (back : List Deal)
      → (snapshot_forked n Eager (opening_progress leaves (opening_requests made answers))).requests.deals ≡ front ++ Denied want at ∷ back
      → out_after (held_frames leaves) front + 1 ≤ held_frames leaves + parent_tables leaves
  fork-denied front want at back split =
      within-denied most (held_frames leaves) front want at back (subst (AreDeniedWithin most (held_frames leaves)) split within-forked)
