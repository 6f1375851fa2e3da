-- What it made that a snapshot whose leaf was joined has a table of its own.
use Rattle.std.proofs.Common.{◌≡◌, ℕ, List, [], ◌∷◌, Option, Some, None, refl, sym, ◌∙◌, ap, subst, inl, inr}
use Rattle.std.specs.Prelude.{is_some, unwrap_or, Bool, true, false, cond, ◌<◌, ◌==◌}
use Rattle.std.specs.FinMap.{get}
use Rattle.std.specs.Option.{option_and_then}
use Rattle.std.proofs.lemmas.Bool.{cases_eq, ne_eqb, false≢true}
use Rattle.vm_base.specs.Frames.{FrameView}
use Rattle.kernel_meaning.specs.Requests.{Yes}
use Rattle.kernel_meaning.specs.Leaves.{Versions, no_versions, version_at, is_joined, is_lost, Own, Kept, CellLeaves, kept_by, with_leaf}
use Rattle.kernel_meaning.specs.CellActs.{with_leaf_where, is_number, leaf_copy_answered}
use Rattle.kernel_meaning.specs.CellAccount.{CellAccount}
use Rattle.leaf_cell.specs.declared.snapshot.Snapshot.{Snapshot}
use Rattle.leaf_cell.specs.declared.snapshot.SnapshotLeaf.{SnapshotLeaf}
use Rattle.leaf_cell.specs.declared.snapshot.SnapshotLeaf.TheVariants as code
use Rattle.leaf_cell.specs.Places.{TableView}
use Rattle.leaf_cell.specs.CellView.{CellView, bytes_in, kept_page}
use Rattle.leaf_cell.specs.Writable.{none_writable}
use Rattle.leaf_cell.specs.Inside.{AreInside, table_of, table_places, table_writable, snapshot_places, leaf_value, kept_value, kept_values, cell_value}
use Rattle.leaf_cell.specs.Renaming.{AreKeptAlike, IsNamedBy, IsLive, IsRenaming}
use Rattle.leaf_cell.specs.Standing.{StandsFor, TakesPart}
use Rattle.leaf_cell.specs.States.{has_joined, with_own}
use Rattle.leaf_cell.proofs.Alike.{OneAlike, one-alike}
use Rattle.leaf_cell.proofs.Renamed.{eqb-refl}
use Rattle.leaf_cell.proofs.ForkMade.{inside-own}
use Rattle.leaf_cell.proofs.WholeCells.{whole-among}

-- the snapshot that has this number here, by the parent's table
pub record IsJoinedHere (snapshot : Option Snapshot) (n : ℕ) : Type 0 where
  pub it : Snapshot
  pub is : snapshot ≡ Some it
  pub number : it.number ≡ n
  pub leaf : it.leaf ≡ code.Joined

leaf-joined : (leaf : SnapshotLeaf) → is_joined (leaf_value leaf) ≡ true → leaf ≡ code.Joined
leaf-joined (code.Own table) joined = absurd (false≢true joined)
leaf-joined code.Joined joined = refl
leaf-joined (code.Lost at) joined = absurd (false≢true joined)

pub joined-here : (places : Versions) (snapshot : Option Snapshot) (n : ℕ) → has_joined (kept_by (kept_values places snapshot) n) ≡ true → IsJoinedHere snapshot n
joined-here places None n joined = absurd (false≢true joined)
joined-here places (Some it) n joined = elim (cases_eq it.number n) [
  | inl same ↦ record {
    it = it;
    is = refl;
    number = same;
    leaf = leaf-joined it.leaf (sym (ap (λ b. has_joined (cond b (Some (kept_value places it)) None)) (ap (λ x. x == n) same ∙ eqb-refl n)) ∙ joined);
  }
  | inr apart ↦ absurd (false≢true (sym (ap (λ b. has_joined (cond b (Some (kept_value places it)) None)) (ne_eqb it.number n apart)) ∙ joined))
]

module _ (parent : Option TableView) (it : Snapshot) (frames : List (Option FrameView)) (n : ℕ) (number : it.number ≡ n) (leaf : it.leaf ≡ code.Joined) where
  abbrev places : Versions
  places = table_places parent

  abbrev old_kept : Kept
  old_kept = kept_value places it

  abbrev new_kept : Kept
  new_kept = kept_value places (with_own (table_of parent) it)

  abbrev before : CellView
  before = cell_value parent (Some it) frames

  abbrev after : CellView
  after = cell_value parent (Some (with_own (table_of parent) it)) frames

  pub inside-owned : AreInside parent (Some it) frames → table_writable parent ≡ none_writable → AreInside parent (Some (with_own (table_of parent) it)) frames
  inside-owned inside none = inside-own parent (Some it) frames (with_own (table_of parent) it) inside (ap (snapshot_places no_versions) leaf) refl none

  -- the same pages as before
  same_places : old_kept.versions ≡ places
  same_places = ap (snapshot_places places) leaf

  -- the cell as contracts see it, where no page may be written to any more
  pub owned-view : table_writable parent ≡ none_writable → after ≡ record before { leaves = with_leaf_where (is_number n) Own before.leaves; writable = none_writable }
  owned-view none = λ i. record {
    leaves = record { parent = places; kept = kept_after i };
    frames = frames;
    writable = none i;
  }
    where
      kept_after : new_kept ∷ [] ≡ with_leaf (is_number n) Own (old_kept ∷ [])
      kept_after = (λ i. record { number = it.number; mode = it.mode; versions = sym same_places i; leaf = Own } ∷ [])
          ∙ sym (ap (λ b. cond b (record old_kept { leaf = Own }) old_kept ∷ []) (ap (λ x. x == n) number ∙ eqb-refl n))

  module _ (account : CellAccount) (stands : StandsFor before account) where
    abbrev leaves_then : CellLeaves
    leaves_then = with_leaf_where (is_number n) Own account.state.leaves

    one : OneAlike stands.name old_kept account.state.leaves.kept
    one = one-alike stands.name old_kept account.state.leaves.kept stands.leaves.kept

    kept_then : leaves_then.kept ≡ record one.it { leaf = Own } ∷ []
    kept_then = ap (with_leaf (is_number n) Own) one.only
        ∙ ap (λ b. cond b (record one.it { leaf = Own }) one.it ∷ []) (ap (λ x. x == n) (sym one.alike.number ∙ number) ∙ eqb-refl n)

    unlost_meant : is_lost one.it.leaf ≡ false
    unlost_meant = ap is_lost (sym one.alike.leaf) ∙ ap (λ l. is_lost (leaf_value l)) leaf

    -- what lives lived before
    named_before : (p v : ℕ) → IsNamedBy p v (record one.it { leaf = Own } ∷ []) → IsNamedBy p v account.state.leaves.kept
    named_before p v (inl here) = subst (IsNamedBy p v) (sym one.only) (inl (unlost_meant, here.1))
    named_before p v (inr none) = absurd none

    lived : (p v : ℕ) → IsLive leaves_then p v → IsLive account.state.leaves p v
    lived p v (inl there) = inl there
    lived p v (inr named) = inr (named_before p v (subst (IsNamedBy p v) kept_then named))

    renaming : IsRenaming stands.name after.leaves leaves_then
    renaming = record {
      parent = stands.leaves.parent;
      kept = subst (AreKeptAlike stands.name after.leaves.kept) (sym kept_then)
          (record { number = one.alike.number; mode = one.alike.mode; leaf = refl; versions = λ unlost. sym same_places ∙ one.alike.versions unlost_meant }, tt);
      apart = λ p a b la lb. stands.leaves.apart p a b (lived p a la) (lived p b lb);
    }

    still_lives : (p place : ℕ) → IsLive after.leaves p place → IsLive before.leaves p place
    still_lives p place (inl there) = inl there
    still_lives p place (inr (inl named)) = inl named.1
    still_lives p place (inr (inr named)) = absurd named

    -- the snapshot reads what it read
    kept_reads : (m p : ℕ) (kept : Kept) → kept_by after.leaves.kept m ≡ Some kept → p < 512
        → kept_page after kept p ≡ option_and_then (λ pages. get pages p) (get account.state.snapshots m)
    kept_reads m p kept found small = by (it.number == m) refl found
      where
        by : (b : Bool) → (it.number == m) ≡ b → cond b (Some new_kept) None ≡ Some kept → kept_page after kept p ≡ option_and_then (λ pages. get pages p) (get account.state.snapshots m)
        by true is e = ap (λ o. bytes_in frames (version_at (unwrap_or o kept).versions p)) (sym e) ∙ ap (λ vs. bytes_in frames (version_at vs p)) (sym same_places)
            ∙ stands.snapshots m p old_kept (ap (λ b. cond b (Some old_kept) None) is) (ap (λ l. is_lost (leaf_value l)) leaf) small
        by false is e = absurd (false≢true (ap is_some e))

    pub takes-leaf_owned : TakesPart (leaf_copy_answered n Yes) before after [] account
    takes-leaf_owned = record {
      stands = record {
        name = stands.name;
        leaves = renaming;
        made = λ p v live. stands.made p v (lived p v live);
        pages = stands.pages;
        snapshots = λ m p kept found unlost small. kept_reads m p kept found small;
        whole = whole-among before after.leaves before.writable stands.whole still_lives;
      };
      asked = refl;
      ended = refl;
    }
