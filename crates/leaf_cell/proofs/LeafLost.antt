-- What the loss of a snapshot's leaf made.
use Rattle.std.proofs.Common.{◌≡◌, ℕ, ◌-◌, List, [], ◌∷◌, replicate, Option, Some, refl, sym, ◌∙◌, ap, subst, arith, inl, inr}
use Rattle.std.specs.Prelude.{true, cond, ◌==◌}
use Rattle.std.proofs.lemmas.Bool.{false≢true}
use Rattle.vm_base.specs.Deals.{Deal, Returned}
use Rattle.vm_base.specs.Frames.{FrameView}
use Rattle.kernel_meaning.specs.Requests.{No}
use Rattle.kernel_meaning.specs.Leaves.{no_versions, version_at, Lost, CellLeaves, with_leaf, share}
use Rattle.kernel_meaning.specs.CellActs.{with_leaf_where, is_number, leaf_copy_answered}
use Rattle.kernel_meaning.specs.CellAccount.{CellAccount}
use Rattle.leaf_cell.specs.declared.snapshot.Snapshot.{Snapshot}
use Rattle.leaf_cell.specs.Places.{TableView}
use Rattle.leaf_cell.specs.CellView.{CellView}
use Rattle.leaf_cell.specs.Inside.{AreInside, table_places, snapshot_places, leaf_value, kept_value, cell_value}
use Rattle.leaf_cell.specs.Losing.{lost_at, without_leaf, IsLost}
use Rattle.leaf_cell.specs.Releasing.{IsLeafReleased, own_if}
use Rattle.leaf_cell.specs.Renaming.{AreKeptAlike, IsRenaming}
use Rattle.leaf_cell.specs.Standing.{StandsFor, TakesPart, MadePart}
use Rattle.leaf_cell.proofs.Alike.{OneAlike, one-alike}
use Rattle.leaf_cell.proofs.Renamed.{eqb-refl}
use Rattle.leaf_cell.proofs.SameShare.{share-alike}
use Rattle.leaf_cell.proofs.DropMade.{bytes-kept}
use Rattle.leaf_cell.proofs.LossMade.{live-lost, inside-lost, less, only-lost}
use Rattle.leaf_cell.proofs.WholeCells.{whole-inside}

module _ {State : Type 0} (goes : State → Deal → State → Type 0) (from to : State) (parent : Option TableView) (it : Snapshot) (frames new : List (Option FrameView)) (at : ℕ)
    (inside : AreInside parent (Some it) frames)
    (released : IsLeafReleased goes from to (snapshot_places no_versions it.leaf) (table_places parent) (own_if (leaf_value it.leaf)) frames new)
    (n : ℕ) (number : it.number ≡ n) where
  abbrev before : CellView
  before = cell_value parent (Some it) frames

  abbrev after : CellView
  after = cell_value parent (Some (lost_at at it)) new

  is_it : (it.number == n) ≡ true
  is_it = ap (λ x. x == n) number ∙ eqb-refl n

  pub is-lost : IsLost n at before after
  is-lost = record {
    leaves = ap (λ b. record before.leaves { kept = cond b (without_leaf at (kept_value (table_places parent) it)) (kept_value (table_places parent) it) ∷ [] }) (sym is_it);
    reads = λ p small. bytes-kept frames new (version_at (table_places parent) p) (λ q is. released.kept p q is);
    still = λ p alone. record {
      present = alone.present;
      unnamed = λ version is named. elim named [ inl here ↦ absurd (false≢true (sym here.0)) | inr none ↦ absurd none ];
    };
    others = λ m p kept found unlost small. absurd (false≢true (sym unlost ∙ only-lost goes from to parent it frames new at inside released m kept found));
  }

  module _ (account : CellAccount) (stands : StandsFor before account) where
    abbrev leaves_then : CellLeaves
    leaves_then = with_leaf_where (is_number n) (Lost at) account.state.leaves

    one : OneAlike stands.name (kept_value (table_places parent) it) account.state.leaves.kept
    one = one-alike stands.name (kept_value (table_places parent) it) account.state.leaves.kept stands.leaves.kept

    kept_then : leaves_then.kept ≡ record one.it { leaf = Lost at } ∷ []
    kept_then = ap (with_leaf (is_number n) (Lost at)) one.only
        ∙ ap (λ b. cond b (record one.it { leaf = Lost at }) one.it ∷ []) (ap (λ x. x == n) (sym one.alike.number) ∙ is_it)

    renaming : IsRenaming stands.name after.leaves leaves_then
    renaming = record {
      parent = stands.leaves.parent;
      kept = subst (AreKeptAlike stands.name after.leaves.kept) (sym kept_then)
          (record { number = one.alike.number; mode = one.alike.mode; leaf = refl; versions = λ unlost. absurd (false≢true (sym unlost)) }, tt);
      apart = λ p a b la lb. stands.leaves.apart p a b (live-lost (is_number n) at p a account.state.leaves la) (live-lost (is_number n) at p b account.state.leaves lb);
    }

    shrunk : share account.state.leaves - share leaves_then ≡ released.count
    shrunk = omega (
      arith,
      less goes from to parent it frames new at inside released,
      share-alike stands.name before.leaves account.state.leaves stands.leaves,
      share-alike stands.name after.leaves leaves_then renaming,
    )

    takes-leaf_lost : TakesPart (leaf_copy_answered n (No at)) before after (replicate released.count Returned) account
    takes-leaf_lost = record {
      stands = record {
        name = stands.name;
        leaves = renaming;
        made = λ p v live. stands.made p v (live-lost (is_number n) at p v account.state.leaves live);
        pages = λ p small. bytes-kept frames new (version_at (table_places parent) p) (λ q is. released.kept p q is) ∙ stands.pages p small;
        snapshots = λ m p kept found unlost small. absurd (false≢true (sym unlost ∙ only-lost goes from to parent it frames new at inside released m kept found));
        whole = whole-inside parent (Some (lost_at at it)) new (inside-lost goes from to parent it frames new at inside released);
      };
      asked = ap (λ k. replicate k Returned) shrunk;
      ended = refl;
    }

  pub made-leaf_lost : MadePart goes from to (leaf_copy_answered n (No at)) before after
  made-leaf_lost = record { deals = replicate released.count Returned; led = released.led; follows = λ account stands. takes-leaf_lost account stands }
