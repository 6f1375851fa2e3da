-- Where a touch or a fork is denied a frame: how many frames were wanted then, by the parent and for its snapshot.
use Rattle.std.proofs.Common.{◌≡◌, ℕ, ◌+◌, ◌-◌, ◌≤◌, ◌==◌, ◌⊎◌, inl, inr, Bool, true, false, cond, List, [], ◌∷◌, ◌++◌, Option, Some, None, refl, sym, ◌∙◌, ap, subst, arith, le_trans}
use Rattle.std.specs.Prelude.{not, ◌&&◌, ◌||◌, count_by}
use Rattle.std.specs.FinMap.{get, empty}
use Rattle.std.proofs.lemmas.Bool.Decides.{nat_tests}
use Rattle.std.proofs.lemmas.List.Sums.{sum_by-cons}
use Rattle.vm_base.specs.declared.frame_request.Asker.{Asker}
use Rattle.vm_base.specs.declared.frame_request.Want.{Want}
use Rattle.vm_base.specs.declared.fork_mode.Mode.TheVariants.{Eager}
use Rattle.vm_base.specs.Deals.{Deal, Granted, Denied, Returned}
use Rattle.vm_base.specs.Places.{page_of, page_count}
use Rattle.vm_base.specs.FlatMemory.{PageMap, cells_of}
use Rattle.vm_base.specs.MemoryState.{own_of, IsListed}
use Rattle.vm_base.specs.MemoryCalls.{touched}
use Rattle.vm_base.proofs.NumberedMaps.{get_inserted_here}
use Rattle.kernel_meaning.specs.Leaves.{holds_number}
use Rattle.kernel_meaning.specs.Requests.{Answer}
use Rattle.kernel_meaning.specs.FrameLaw.{held_frames}
use Rattle.kernel_meaning.specs.EventRequests.{pages_touched, snapshot_forked}
use Rattle.kernel_meaning.specs.RefusedRequests.{Request, requests_of, out_after, count_after, is_by_policy}
use Rattle.page_tables.specs.TablesView.{pages_of, LacksSnapshot}
use Rattle.page_tables.proofs.view.TablesShown.{number-lacks}
use Rattle.page_tables.specs.Sides.{Sides}
use Rattle.trace_core.specs.declared.parts.SnapshotAreas.{SnapshotAreas}
use Rattle.trace_core.specs.SupplyState.{is_next, pending_behind}
use Rattle.trace_core.specs.Answering.{pending_of}
use Rattle.trace_core.specs.KernelState.{Machine, KernelState}
use Rattle.trace_core.specs.EventMeaning.{begun}
use Rattle.trace_core.specs.KernelStanding.{KernelParts, kept_memories, kept_number, sides_of}
use Rattle.trace_core.specs.KernelSeen.{KernelNotes, IsSound, NotesHold, kept_in}
use Rattle.trace_core.proofs.supplies.AnswerLemmas.{next_named, pending_of-more, request_of}
use Rattle.page_tables.proofs.enough.Pairs.{kept_frames}
use Rattle.page_tables.proofs.enough.TouchRequests.{touch-refused}
use Rattle.trace_core.proofs.enough.FullSupplies.{HasDenial, later-denial}
use Rattle.page_tables.proofs.enough.SnapshotFrames.{none-kept}
use Rattle.page_tables.proofs.enough.WholeCells.{whole-versions, whole-kept, whole-fork-denied}

-- ---- deals with a denial

-- one of the deals is a denial, or they leave each count of refused requests as it was
pub denial-or-none : (deals : List Deal) → HasDenial deals ⊎ ((count : ℕ) → count_after count deals ≡ count)
denial-or-none [] = inr (λ count. refl)
denial-or-none (Granted want ∷ deals) = elim (denial-or-none deals) [ inl found ↦ inl (later-denial (Granted want) deals found) | inr none ↦ inr none ]
denial-or-none (Denied want at ∷ deals) = inl (record { front = []; want = want; at = at; back = deals; split = refl })
denial-or-none (Returned ∷ deals) = elim (denial-or-none deals) [ inl found ↦ inl (later-denial Returned deals found) | inr none ↦ inr none ]

-- just so many frames are out at each denial among the deals
abbrev pub AreOutAt : ℕ → ℕ → List Deal → Type 0
AreOutAt frames out deals = (front : List Deal) (want : Want) (at : ℕ) (back : List Deal) → deals ≡ front ++ Denied want at ∷ back → out_after out front ≡ frames

none-before : (p : Request → Bool) (request : Request) (requests : List Request) → count_by p (request ∷ requests) ≡ 0 → (p request ≡ false) × (count_by p requests ≡ 0)
none-before p request requests none =
    by (p request) (sum_by-cons (λ r. cond (p r) 1 0) request requests)
  where
    by : (b : Bool) → count_by p (request ∷ requests) ≡ cond b 1 0 + count_by p requests → (b ≡ false) × (count_by p requests ≡ 0)
    by true is = absurd (omega (arith, is, none))
    by false is = (refl, omega (arith, is, none))

forced-out : (frames out : ℕ) (named : Bool) → named ≡ false → (true && not ((out == frames) || named)) ≡ false → out ≡ frames
forced-out frames out named unnamed forced = grind (arith, nat_tests)

requests-out : (frames : ℕ) (asker : Asker) (named : Option ℕ) (made out : ℕ) (front : List Deal) (want : Want) (at : ℕ) (back : List Deal) → pending_of named made ≡ None
    → count_by (is_by_policy frames) (requests_of asker named made out (front ++ Denied want at ∷ back)) ≡ 0 → out_after out front ≡ frames
requests-out frames asker named made out [] want at back unnamed none =
    forced-out frames out (holds_number named (made + 1)) (sym (next_named named made) ∙ ap is_next unnamed)
    (none-before (is_by_policy frames) (request_of asker named made out want true) (requests_of asker named (made + 1) out back) none).0
requests-out frames asker named made out (Granted other ∷ front) want at back unnamed none =
    requests-out frames asker named (made + 1) (out + 1) front want at back (sym (pending_of-more named made) ∙ ap pending_behind unnamed)
    (none-before (is_by_policy frames) (request_of asker named made out other false) (requests_of asker named (made + 1) (out + 1) (front ++ Denied want at ∷ back)) none).1
requests-out frames asker named made out (Denied other there ∷ front) want at back unnamed none =
    requests-out frames asker named (made + 1) out front want at back (sym (pending_of-more named made) ∙ ap pending_behind unnamed)
    (none-before (is_by_policy frames) (request_of asker named made out other true) (requests_of asker named (made + 1) out (front ++ Denied want at ∷ back)) none).1
requests-out frames asker named made out (Returned ∷ front) want at back unnamed none =
    requests-out frames asker named made (out - 1) front want at back unnamed none

-- where no request is named and no policy refused one, each that was refused came when all frames were out
pub answered-out : (frames : ℕ) (asker : Asker) (named : Option ℕ) (made out : ℕ) (deals : List Deal) → pending_of named made ≡ None
    → count_by (is_by_policy frames) (requests_of asker named made out deals) ≡ 0 → AreOutAt frames out deals
answered-out frames asker named made out deals unnamed none front want at back split =
    requests-out frames asker named made out front want at back unnamed
    (subst (λ deals. count_by (is_by_policy frames) (requests_of asker named made out deals) ≡ 0) split none)

-- ---- a sound kernel

module _ (parts : KernelParts) (notes : KernelNotes) (machine : Machine) (state : KernelState) (sound : IsSound parts notes machine state) (holds : NotesHold parts notes) where
  abbrev sides : Sides
  sides = sides_of state sound.stands.pages

  unkept : parts.snapshot ≡ None → LacksSnapshot parts.tables
  unkept none = number-lacks parts.tables (sound.stands.number ∙ ap kept_number none)

  -- the snapshot that lives takes no more frames beside the parent than are noted
  pub kept-bound : kept_frames state.leaves ≤ notes.most
  kept-bound = by parts.snapshot refl
    where
      by : (snapshot : Option SnapshotAreas) → parts.snapshot ≡ snapshot → kept_frames state.leaves ≤ notes.most
      by None none = let is : kept_frames state.leaves ≡ 0 = none-kept parts.tables sides sound.stands.tables (unkept none) in omega (arith, is)
      by (Some kept) lives =
          let its : (present : PageMap) × ((get sound.stands.pages kept.number ≡ Some present) × (state.world.snapshots ≡ _)) =
          subst (λ snapshot. kept_memories snapshot sound.stands.pages state.world.snapshots) lives sound.stands.memories in
          let there : get state.world.snapshots kept.number ≡ Some (record { areas = kept.areas; present = its.0 }) =
          ap (λ memories. get memories kept.number) its.1.1 ∙ get_inserted_here empty kept.number (record { areas = kept.areas; present = its.0 }) kept.number refl in
          let same : its.0 ≡ pages_of notes.forked = (sound.forked kept.number _ there).2 in
          le_trans
          (whole-kept parts.tables sides sound.stands.tables kept.number (kept_in (Some kept) notes.forked)
          (its.1.0 ∙ ap Some same)
          (λ c some. subst (λ snapshot. IsListed c (cells_of (kept_in snapshot notes.forked))) lives (holds.cells c some)))
          (subst (λ snapshot. own_of (kept_in snapshot notes.forked) ≤ notes.most) lives holds.own)

  -- where a touch is denied a frame, and all that were made are out, these and one more are no more than the touched memory takes and than are noted
  pub touch-bound : (addr n : ℕ) (answers : List Answer) (front : List Deal) (want : Want) (at : ℕ) (back : List Deal)
      → (pages_touched (page_of addr) (page_count addr n) (begun state answers)).requests.deals ≡ front ++ Denied want at ∷ back
      → out_after (held_frames state.leaves) front ≡ machine.frames → machine.frames + 1 ≤ own_of (touched state.world.parent addr n) + notes.most
  touch-bound addr n answers front want at back split out =
      omega (
        arith,
        touch-refused state.leaves state.made sound.stands.tables.kept state.world.parent
            (whole-versions parts.tables sides sound.stands.tables)
            (page_of addr) (page_count addr n) answers front want at back split,
        out,
        kept-bound,
      )

  -- where a fork is, and no snapshot lives, they are no more than twice those that are noted
  pub fork-bound : parts.snapshot ≡ None → (n : ℕ) (answers : List Answer) (front : List Deal) (want : Want) (at : ℕ) (back : List Deal)
      → (snapshot_forked n Eager (begun state answers)).requests.deals ≡ front ++ Denied want at ∷ back
      → out_after (held_frames state.leaves) front ≡ machine.frames → machine.frames + 1 ≤ notes.most + notes.most
  fork-bound none n answers front want at back split out =
      omega (
        arith,
        whole-fork-denied parts.tables sides sound.stands.tables state.world.parent refl (unkept none)
            state.made n answers front want at back split,
        out,
        sound.own,
      )
