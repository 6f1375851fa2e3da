-- What copying the shared leaves and then the marked ones leaves of a cell.
use Rattle.std.proofs.Common.{◌≡◌, ℕ, List, [], ◌∷◌, refl, sym, ◌∙◌, ap, subst, inl, inr}
use Rattle.std.specs.Prelude.{Bool, true, false, not, ◌&&◌, slice_set, Result, Ok, Err, OnOk, OnErr, IfErr}
use Rattle.vm_base.specs.Counts.{next_count}
use Rattle.vm_base.specs.declared.refusals.Refused.{Refused}
use Rattle.leaf_cell.specs.Touching.{IsTouched}
use Rattle.leaf_cell.specs.Writable.{writable_at}
use Rattle.std.specs.List.{AllByRecursion}
use Rattle.std.proofs.lemmas.Bool.{false≢true, and_parts}
use Rattle.kernel_meaning.specs.Leaves.{Leaf, Own, Lost, Kept, is_joined, is_lost, is_async, is_shared, is_marked}
use Rattle.leaf_cell.specs.CellView.{CellView, AreUnjoined}
use Rattle.share_cell.specs.Copies.{AreCopied, Copies, IsLeafCopied, is_joined_kept}
use Rattle.share_cell.proofs.CopiedLeaves.{joined-unlost}
use Rattle.share_cell.proofs.SomeLeaves.{IsCounted, KeepsPages, counted-on, earlier-copy, later-copy, keeps-more}
use Rattle.mark_cell.specs.Changes.{CopiesJoined, TouchEnds}

-- a leaf that is its own or lost is not joined
copied-unjoined : (before after : ℕ) (old new : Leaf) → IsLeafCopied true before after old new → is_joined new ≡ false
copied-unjoined before after old new (inl own) = ap is_joined own
copied-unjoined before after old new (inr lost) = ap is_joined lost.1

marked-here : (it : Kept) → is_joined it.leaf ≡ false → is_marked it ≡ false
marked-here it h = ap (λ b. b && is_async it.mode) h

-- neither shared nor marked is not joined
neither : (joined async : Bool) → (joined && not async) ≡ false → (joined && async) ≡ false → joined ≡ false
neither true true shared marked = sym (sym marked)
neither true false shared marked = shared
neither false async shared marked = refl

-- both kinds, one behind the other
pub both-copied : (before middle after : ℕ) (olds mids news : List Kept) → IsCounted before middle → IsCounted middle after
    → AreCopied is_shared before middle olds mids → AreCopied is_marked middle after mids news
    → AreCopied is_joined_kept before after olds news
both-copied before middle after [] [] [] one two first next = tt
both-copied before middle after [] [] (w ∷ ws) one two first next = absurd next
both-copied before middle after [] (m ∷ ms) news one two first next = absurd first
both-copied before middle after (o ∷ os) [] news one two first next = absurd first
both-copied before middle after (o ∷ os) (m ∷ ms) [] one two first next = absurd next
both-copied before middle after (o ∷ os) (m ∷ ms) (w ∷ ws) one two first next = (
  next.0 ∙ first.0,
  next.1 ∙ first.1,
  by (is_shared o) refl first.2 (is_marked m) refl next.2,
  both-copied before middle after os ms ws one two first.3 next.3,
)
  where
    by : (s : Bool) → is_shared o ≡ s → IsLeafCopied s before middle o.leaf m.leaf → (k : Bool) → is_marked m ≡ k
        → IsLeafCopied k middle after m.leaf w.leaf
        → IsLeafCopied (is_joined o.leaf) before after o.leaf w.leaf
    by true shared was true marked now = absurd (false≢true (sym (marked-here m (copied-unjoined before middle o.leaf m.leaf was))
        ∙ marked))
    by true shared was false marked now =
        subst (λ b. IsLeafCopied b before after o.leaf w.leaf) (sym (and_parts (is_joined o.leaf) (not (is_async o.mode)) shared).0)
        (subst (IsLeafCopied true before after o.leaf) (sym now) (earlier-copy before middle after o.leaf m.leaf two was))
    by false shared was true marked now =
        subst (λ b. IsLeafCopied b before after o.leaf w.leaf)
        (sym (ap is_joined (sym was) ∙ (and_parts (is_joined m.leaf) (is_async m.mode) marked).0))
        (later-copy before middle after m.leaf w.leaf o.leaf one now)
    by false shared was false marked now =
        let not_marked : (is_joined o.leaf && is_async o.mode) ≡ false = (λ i. is_joined (sym was i) && is_async (sym first.1 i))
        ∙ marked in
        subst (λ b. IsLeafCopied b before after o.leaf w.leaf) (sym (neither (is_joined o.leaf) (is_async o.mode) shared not_marked)) (now
        ∙ was)

-- then none is joined
pub none-joined_left : (before after : ℕ) (olds news : List Kept) → AreCopied is_joined_kept before after olds news → AreUnjoined news
none-joined_left before after [] [] copied = tt
none-joined_left before after [] (w ∷ ws) copied = absurd copied
none-joined_left before after (o ∷ os) [] copied = absurd copied
none-joined_left before after (o ∷ os) (w ∷ ws) copied = (by (is_joined o.leaf) refl copied.2, none-joined_left before after os ws copied.3)
  where
    by : (b : Bool) → is_joined o.leaf ≡ b → IsLeafCopied b before after o.leaf w.leaf → is_joined w.leaf ≡ false
    by true is now = copied-unjoined before after o.leaf w.leaf now
    by false is now = ap is_joined now ∙ is

-- where none is joined nothing was to be copied
pub none-copied : (count : ℕ) (kept : List Kept) → AreUnjoined kept → AreCopied is_joined_kept count count kept kept
none-copied count [] unjoined = tt
none-copied count (it ∷ others) unjoined =
    (refl, refl, subst (λ b. IsLeafCopied b count count it.leaf it.leaf) (sym unjoined.0) refl, none-copied count others unjoined.1)

marked-unlost : (kept : List Kept) → AllByRecursion (λ it. is_marked it ≡ true → is_lost it.leaf ≡ false) kept
marked-unlost [] = tt
marked-unlost (it ∷ others) = (
  (λ marked. joined-unlost it.leaf (and_parts (is_joined it.leaf) (is_async it.mode) marked).0),
  marked-unlost others,
)

pages-of : (test : Kept → Bool) (before after : ℕ) (old new : CellView) → Copies test before after old new → KeepsPages old new
pages-of test before after old new copies = record {
  parent = copies.parent;
  reads = copies.reads;
  kept = copies.kept;
  still = copies.still;
  writable = copies.writable;
}

pub copies-joined : (before middle after : ℕ) (old between new : CellView) → Copies is_shared before middle old between
    → Copies is_marked middle after between new
    → CopiesJoined before after old new
copies-joined before middle after old between new first next =
    let pages : KeepsPages old new = keeps-more is_marked middle after old between new (marked-unlost between.leaves.kept)
    (pages-of is_shared before middle old between first) next in
    let all : AreCopied is_joined_kept before after old.leaves.kept new.leaves.kept =
    both-copied before middle after old.leaves.kept between.leaves.kept new.leaves.kept first.counted next.counted first.snapshots
    next.snapshots in
    record {
      copies = record {
        parent = pages.parent;
        reads = pages.reads;
        kept = pages.kept;
        still = pages.still;
        writable = pages.writable;
        snapshots = all;
        counted = counted-on before middle after first.counted next.counted;
      };
      unjoined = none-joined_left before after old.leaves.kept new.leaves.kept all;
    }

pub copies-none : (count : ℕ) (view : CellView) → AreUnjoined view.leaves.kept → CopiesJoined count count view view
copies-none count view unjoined = record {
  copies = record {
    parent = refl;
    reads = λ p small. refl;
    kept = λ n p unlost small. refl;
    still = λ p alone. alone;
    writable = λ p may. may;
    snapshots = none-copied count view.leaves.kept unjoined;
    counted = inl refl;
  };
  unjoined = unjoined;
}

-- how the touch ends behind the copies
pub touch-ends : (page count after : ℕ) (between new : CellView) (result : Result (Unit {0}) Refused)
    → OnOk result (IsTouched page count after between new) → OnOk result (new.writable ≡ slice_set between.writable page true)
    → OnOk result (writable_at new.writable page ≡ true) → OnErr result (new ≡ between)
    → IfErr result (λ e. (after ≡ next_count count) × (e.at ≡ after)) → TouchEnds page after new result count between
touch-ends page count after between new (Ok done) touched permitted allowed same counted =
    record { touched = touched; permitted = permitted; allowed = allowed }
touch-ends page count after between new (Err refused) touched permitted allowed same counted = (same, counted.0, counted.1)
