-- Pages that were added are taken out again, one after another.
use Rattle.std.proofs.Common.{◌≡◌, ℕ, ◌+◌, ◌-◌, ◌%◌, ◌≤◌, ◌<◌, List, [], ◌∷◌, ◌++◌, length, take, drop, drop-cons, refl, sym, ◌∙◌, ap, subst, arith}
use Rattle.std.proofs.Math.Logic.{∥∥₁_map}
use Rattle.std.specs.Prelude.{IsSome, slice_index_or, zero, suc, true}
use Rattle.vm_base.specs.Deals.{LeadsAlong, Deal, Returned}
use Rattle.vm_base.specs.Places.{cell_of}
use Rattle.vm_base.proofs.DealLemmas.{LeadsAlong-append}
use Rattle.table_levels.specs.Requests.{returned}
use Rattle.kernel_meaning.specs.Leaves.{has_present}
use Rattle.kernel_meaning.specs.FrameLaw.{Leaves, cell_at}
use Rattle.kernel_meaning.specs.EventRequests.{page_version}
use Rattle.page_tables.specs.declared.tables.PageTables.{PageTables}
use Rattle.page_tables.specs.Sides.{Sides}
use Rattle.page_tables.specs.Standing.{TablesStandFor, slot_count}
use Rattle.page_tables.specs.Held.{frames_of}
use Rattle.page_tables.specs.Clearing.{sides_without}
use Rattle.page_tables.specs.Ranges.{sides_without_pages, AreThere}
use Rattle.page_tables.proofs.Presence.{one-present}

returned-append : (m n : ℕ) → returned m ++ returned n ≡ returned (m + n)
returned-append zero n = ap returned (let e : n ≡ 0 + n = omega arith in e)
returned-append (suc m) n = ap (λ ds. Returned ∷ ds) (returned-append m n) ∙ ap returned (let e : suc (m + n) ≡ suc m + n = omega arith in e)

-- one page more is taken out
pub without-push : (pages : List ℕ) (page : ℕ) (sides : Sides) → sides_without_pages (pages ++ page ∷ []) sides ≡ sides_without (cell_of page) (page % 512) 1 (sides_without_pages pages sides)
without-push [] page sides = refl
without-push (first ∷ pages) page sides = without-push pages page (sides_without (cell_of first) (first % 512) 1 sides)

-- some pages were taken out so far, and the others are there
pub record IsTakenBack {State : Type 0} (goes : State → Deal → State → Type 0) (refused : State → ℕ) (out : State → ℕ) (from to : State) (done left : List ℕ) (old now : PageTables) : Type 0 where
  pub led : LeadsAlong goes from (returned (frames_of old - frames_of now)) to
  pub shrunk : frames_of now ≤ frames_of old
  pub follows : (sides : Sides) → TablesStandFor old sides → TablesStandFor now (sides_without_pages done sides)
  pub there : ∥ ((sides : Sides) × (TablesStandFor now sides × AreThere sides.leaves left)) ∥₁
  pub held : out to + frames_of old ≡ out from + frames_of now
  pub slots : slot_count now ≡ slot_count old
  pub unrefused : refused to ≡ refused from
  pub snapshot : now.snapshot ≡ old.snapshot

module _ {State : Type 0} (goes : State → Deal → State → Type 0) (refused : State → ℕ) (out : State → ℕ) (from middle to : State) (done left : List ℕ) (page : ℕ) (old now next : PageTables) where
  pub one-more : IsTakenBack goes refused out from middle done (page ∷ left) old now
      → LeadsAlong goes middle (returned (frames_of now - frames_of next)) to → frames_of next ≤ frames_of now
      → ((sides : Sides) → TablesStandFor now sides → TablesStandFor next (sides_without (cell_of page) (page % 512) 1 sides))
      → out to + frames_of now ≡ out middle + frames_of next → slot_count next ≡ slot_count now → refused to ≡ refused middle
      → next.snapshot ≡ now.snapshot
      → IsTakenBack goes refused out from to (done ++ page ∷ []) left old next
  one-more so_far led shrunk follows held slots unrefused snapshot =
      let less : frames_of now ≤ frames_of old = so_far.shrunk in
      let whole : frames_of old - frames_of now + (frames_of now - frames_of next) ≡ frames_of old - frames_of next = omega arith in
      let before : out middle + frames_of old ≡ out from + frames_of now = so_far.held in
      record {
        led = subst (λ ds. LeadsAlong goes from ds to) (returned-append (frames_of old - frames_of now) (frames_of now - frames_of next) ∙ ap returned whole)
            (LeadsAlong-append goes (returned (frames_of old - frames_of now)) (returned (frames_of now - frames_of next)) from middle to so_far.led led);
        shrunk = omega arith;
        follows = λ sides st. subst (TablesStandFor next) (sym (without-push done page sides)) (follows (sides_without_pages done sides) (so_far.follows sides st));
        there = ∥∥₁_map so_far.there (λ it. (sides_without (cell_of page) (page % 512) 1 it.0, (follows it.0 it.1.0, it.1.1.1)));
        held = omega arith;
        slots = slots ∙ so_far.slots;
        unrefused = unrefused ∙ so_far.unrefused;
        snapshot = snapshot ∙ so_far.snapshot;
      }

-- nothing was taken out yet
pub none-taken : {State : Type 0} (goes : State → Deal → State → Type 0) (refused : State → ℕ) (out : State → ℕ) (from : State) (left : List ℕ) (old : PageTables)
    → ∥ ((sides : Sides) × (TablesStandFor old sides × AreThere sides.leaves left)) ∥₁
    → IsTakenBack goes refused out from from [] left old old
none-taken goes refused out from left old there = record {
  led = subst (λ n. LeadsAlong goes from (returned n) from) (let e : 0 ≡ frames_of old - frames_of old = omega arith in e) refl;
  shrunk = omega arith;
  follows = λ sides st. st;
  there = there;
  held = refl;
  slots = refl;
  unrefused = refl;
  snapshot = refl;
}

-- a page that is there is one of a range of one
pub there-present : (leaves : Leaves) (page : ℕ) → IsSome (page_version leaves page) → has_present (cell_at leaves (cell_of page)).parent (page % 512) 1 ≡ true
there-present leaves page there = one-present (cell_at leaves (cell_of page)).parent (page % 512) ∙ there

pub take-one-more : (xs : List ℕ) (i : ℕ) → i < length xs → take (i + 1) xs ≡ take i xs ++ slice_index_or xs i 0 ∷ []
take-one-more [] i small = absurd (omega arith)
take-one-more (x ∷ xs) zero small = refl
take-one-more (x ∷ xs) (suc i) small = ap (λ n. take n (x ∷ xs)) (let e : suc i + 1 ≡ suc (i + 1) = omega arith in e) ∙ ap (λ ys. x ∷ ys) (take-one-more xs i (omega arith))

pub drop-one-more : (xs : List ℕ) (i : ℕ) → i < length xs → drop i xs ≡ slice_index_or xs i 0 ∷ drop (i + 1) xs
drop-one-more xs i small = drop-cons xs i 0 small ∙ ap (λ n. slice_index_or xs i 0 ∷ drop n xs) (let e : suc i ≡ i + 1 = omega arith in e)
