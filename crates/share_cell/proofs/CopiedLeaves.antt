-- What the copy of one leaf leaves of a cell.
use Rattle.std.proofs.Common.{◌≡◌, ℕ, ◌<◌, ◌≤◌, ◌^◌, List, [], ◌∷◌, Option, Some, None, refl, sym, ◌∙◌, ap, subst, arith, inl, inr}
use Rattle.std.specs.Prelude.{Bool, true, false, cond, map, is_some, unwrap_or, ◌==◌}
use Rattle.std.specs.Option.{option_map, option_and_then}
use Rattle.std.specs.List.{AllByRecursion}
use Rattle.std.proofs.lemmas.Bool.{false≢true, eqb-true, ne_eqb}
use Rattle.vm_base.specs.Counts.{Rose}
use Rattle.kernel_meaning.specs.Leaves.{Leaf, Own, Joined, Lost, Kept, CellLeaves, version_at, is_joined, is_lost, has_joined, has_leaf_where, kept_by, with_leaf, IsNamedBy, AreAbove, AreRising}
use Rattle.kernel_meaning.specs.CellActs.{with_leaf_where, is_number}
use Rattle.leaf_cell.specs.CellView.{CellView, bytes_in, kept_page}
use Rattle.leaf_cell.specs.Losing.{without_leaf, with_loss, IsLost}
use Rattle.leaf_cell.specs.Writable.{none_writable, writable_at}
use Rattle.leaf_cell.proofs.WritablePages.{never-writable}
use Rattle.share_cell.specs.Copies.{AreCopied, Copies, IsLeafCopied}

-- a change of each snapshot that keeps its number
pub kept_by-map : (f : Kept → Kept) → ((it : Kept) → (f it).number ≡ it.number) → (kept : List Kept) (m : ℕ)
    → kept_by (map f kept) m ≡ option_map f (kept_by kept m)
kept_by-map f same [] m = refl
kept_by-map f same (k ∷ ks) m = ap (λ x. cond (x == m) (Some (f k)) (kept_by (map f ks) m)) (same k)
    ∙ by (k.number == m) (kept_by-map f same ks m)
  where
    by : (b : Bool) → kept_by (map f ks) m ≡ option_map f (kept_by ks m)
        → cond b (Some (f k)) (kept_by (map f ks) m) ≡ option_map f (cond b (Some k) (kept_by ks m))
    by true rest = refl
    by false rest = rest

-- the snapshot behind a copy
abbrev with_own_leaf : ℕ → Kept → Kept
with_own_leaf n it = cond (it.number == n) (record it { leaf = Own }) it

abbrev with_lost_leaf : ℕ → ℕ → Kept → Kept
with_lost_leaf n at it = cond (it.number == n) (without_leaf at it) it

owned-number : (n : ℕ) (it : Kept) → (with_own_leaf n it).number ≡ it.number
owned-number n it = by (it.number == n)
  where
    by : (b : Bool) → (cond b (record it { leaf = Own }) it).number ≡ it.number
    by true = refl
    by false = refl

lost-number : (n at : ℕ) (it : Kept) → (with_lost_leaf n at it).number ≡ it.number
lost-number n at it = by (it.number == n)
  where
    by : (b : Bool) → (cond b (without_leaf at it) it).number ≡ it.number
    by true = refl
    by false = refl

-- above a number nobody has it
with_leaf-above : (n : ℕ) (leaf : Leaf) (kept : List Kept) → AreAbove n kept → with_leaf (is_number n) leaf kept ≡ kept
with_leaf-above n leaf [] above = refl
with_leaf-above n leaf (k ∷ ks) above =
    ap (λ b. cond b (record k { leaf = leaf }) k ∷ with_leaf (is_number n) leaf ks)
    (ne_eqb k.number n (λ e. absurd (omega (arith, e, above.0))))
    ∙ ap (λ rest. k ∷ rest) (with_leaf-above n leaf ks above.1)

pub joined-unlost : (leaf : Leaf) → is_joined leaf ≡ true → is_lost leaf ≡ false
joined-unlost Own joined = refl
joined-unlost Joined joined = refl
joined-unlost (Lost at) joined = absurd (false≢true joined)

-- a leaf of its own names what the joined one named
named-owned : (n p v : ℕ) (kept : List Kept) → AreRising kept → has_joined (kept_by kept n) ≡ true
    → IsNamedBy p v (with_leaf (is_number n) Own kept) → IsNamedBy p v kept
named-owned n p v [] rising joined named = named
named-owned n p v (k ∷ ks) rising joined named = by (k.number == n) refl joined (named-owned n p v ks rising.1) named
  where
    by : (b : Bool) → (k.number == n) ≡ b → has_joined (cond b (Some k) (kept_by ks n)) ≡ true
        → (has_joined (kept_by ks n) ≡ true → IsNamedBy p v (with_leaf (is_number n) Own ks) → IsNamedBy p v ks)
        → IsNamedBy p v (cond b (record k { leaf = Own }) k ∷ with_leaf (is_number n) Own ks) → IsNamedBy p v (k ∷ ks)
    by true is it others (inl here) = inl (joined-unlost k.leaf it, here.1)
    by true is it others (inr later) = inr (subst (IsNamedBy p v)
        (with_leaf-above n Own ks (subst (λ x. AreAbove x ks) (eqb-true k.number n is) rising.0)) later)
    by false is it others (inl here) = inl here
    by false is it others (inr later) = inr (others it later)

are-owned : (n before after : ℕ) (kept : List Kept) → AreCopied (is_number n) before after kept (with_leaf (is_number n) Own kept)
are-owned n before after [] = tt
are-owned n before after (k ∷ ks) = by (k.number == n) (are-owned n before after ks)
  where
    by : (b : Bool) → AreCopied (is_number n) before after ks (with_leaf (is_number n) Own ks)
        → ((cond b (record k { leaf = Own }) k).number ≡ k.number) × ((cond b (record k { leaf = Own }) k).mode ≡ k.mode)
        × IsLeafCopied b before after k.leaf (cond b (record k { leaf = Own }) k).leaf
        × AreCopied (is_number n) before after ks (with_leaf (is_number n) Own ks)
    by true rest = (refl, refl, inl refl, rest)
    by false rest = (refl, refl, refl, rest)

are-lost : (n at before after : ℕ) (kept : List Kept) → Rose before at → at ≤ after → at < 2 ^ 64
    → AreCopied (is_number n) before after kept (map (with_lost_leaf n at) kept)
are-lost n at before after [] rose most below = tt
are-lost n at before after (k ∷ ks) rose most below = by (k.number == n) (are-lost n at before after ks rose most below)
  where
    by : (b : Bool) → AreCopied (is_number n) before after ks (map (with_lost_leaf n at) ks)
        → ((cond b (without_leaf at k) k).number ≡ k.number) × ((cond b (without_leaf at k) k).mode ≡ k.mode)
        × IsLeafCopied b before after k.leaf (cond b (without_leaf at k) k).leaf
        × AreCopied (is_number n) before after ks (map (with_lost_leaf n at) ks)
    by true rest = (refl, refl, inr (at, refl, rose, most, below), rest)
    by false rest = (refl, refl, refl, rest)

module _ (n : ℕ) (view : CellView) (rising : AreRising view.leaves.kept) (joined : has_joined (kept_by view.leaves.kept n) ≡ true) where
  abbrev owned_view : CellView
  owned_view = record view { leaves = with_leaf_where (is_number n) Own view.leaves; writable = none_writable }

  same-versions : (it : Kept) (p : ℕ) → kept_page owned_view (with_own_leaf n it) p ≡ kept_page view it p
  same-versions it p = by (it.number == n)
    where
      by : (b : Bool) → bytes_in view.frames (version_at (cond b (record it { leaf = Own }) it).versions p)
          ≡ bytes_in view.frames (version_at it.versions p)
      by true = refl
      by false = refl

  same-bytes : (o : Option Kept) (p : ℕ) → option_and_then (λ it. kept_page owned_view it p) (option_map (with_own_leaf n) o)
      ≡ option_and_then (λ it. kept_page view it p) o
  same-bytes None p = refl
  same-bytes (Some it) p = same-versions it p

  pub copies-owned : (before after : ℕ) → after ≡ before → Copies (is_number n) before after view owned_view
  copies-owned before after same = record {
    parent = refl;
    reads = λ p small. refl;
    kept = λ m p unlost small. ap (option_and_then (λ it. kept_page owned_view it p))
        (kept_by-map (with_own_leaf n) (owned-number n) view.leaves.kept m)
        ∙ same-bytes (kept_by view.leaves.kept m) p;
    still = λ p alone. record {
      present = alone.present;
      unnamed = λ version is named. alone.unnamed version is (named-owned n p version view.leaves.kept rising joined named);
    };
    writable = λ p may. absurd (false≢true (sym (never-writable p) ∙ may));
    snapshots = are-owned n before after view.leaves.kept;
    counted = inl same;
  }

module _ (n at : ℕ) (old new : CellView) (lost : IsLost n at old new) (same : new.writable ≡ old.writable) where
  left : (m p : ℕ) (now was : Option Kept) → kept_by new.leaves.kept m ≡ now → kept_by old.leaves.kept m ≡ was
      → now ≡ option_map (with_lost_leaf n at) was
      → has_leaf_where is_lost now ≡ false → p < 512 → option_and_then (λ it. kept_page new it p) now
      ≡ option_and_then (λ it. kept_page old it p) was
  left m p None None there then is unlost small = refl
  left m p None (Some was) there then is unlost small = absurd (false≢true (ap is_some is))
  left m p (Some it) None there then is unlost small = absurd (false≢true (sym (ap is_some is)))
  left m p (Some it) (Some was) there then is unlost small =
      lost.others m p it there unlost small ∙ ap (λ k. kept_page old k p) (by (was.number == n) (ap (λ o. unwrap_or o it) (sym is)))
    where
      by : (b : Bool) → cond b (without_leaf at was) was ≡ it → it ≡ was
      by true e = absurd (false≢true (sym unlost ∙ ap (λ k. is_lost k.leaf) (sym e)))
      by false e = sym e

  pub copies-lost : (before after : ℕ) → Rose before at → at ≡ after → at < 2 ^ 64 → Copies (is_number n) before after old new
  copies-lost before after rose is below = record {
    parent = ap (λ l. l.parent) lost.leaves;
    reads = lost.reads;
    kept = λ m p unlost small. left m p (kept_by new.leaves.kept m) (kept_by old.leaves.kept m) refl refl
        (ap (λ l. kept_by l.kept m) lost.leaves ∙ kept_by-map (with_lost_leaf n at) (lost-number n at) old.leaves.kept m) unlost small;
    still = lost.still;
    writable = λ p may. ap (λ ws. writable_at ws p) (sym same) ∙ may;
    snapshots = subst (AreCopied (is_number n) before after old.leaves.kept) (ap (λ l. l.kept) (sym lost.leaves))
        (are-lost n at before after old.leaves.kept rose (omega (arith, is)) below);
    counted = inr (subst (Rose before) is rose, omega (arith, is, below));
  }
