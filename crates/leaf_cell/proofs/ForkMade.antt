-- What a fork made.
use Rattle.std.proofs.Common.{◌≡◌, ℕ, ◌+◌, ◌<◌, ◌≤◌, List, [], ◌∷◌, length, Option, Some, None, refl, sym, ◌∙◌, ap, subst, arith, inl, inr}
use Rattle.std.specs.Prelude.{is_some, Bool, true, false, cond, unwrap_or, ◌==◌}
use Rattle.std.specs.Option.{option_and_then}
use Rattle.std.specs.FinMap.{get, insert}
use Rattle.std.proofs.lemmas.Bool.{cases_eq, ne_eqb, false≢true}
use Rattle.vm_base.specs.declared.fork_mode.Mode.{Mode}
use Rattle.vm_base.specs.declared.fork_mode.Mode.TheVariants.{Eager, OnDemand, Async}
use Rattle.vm_base.specs.declared.frame_request.Want.TheVariants as want
use Rattle.vm_base.specs.Deals.{Granted, Denied}
use Rattle.vm_base.specs.Frames.{FrameView}
use Rattle.vm_base.proofs.NumberedMaps.{get_inserted_here}
use Rattle.kernel_meaning.specs.Leaves.{Versions, no_versions, version_at, has_pages, is_joined, Leaf, Own, Joined, Kept, CellLeaves, kept_by, with_kept}
use Rattle.kernel_meaning.specs.CellAccount.{Fork, CellAccount}
use Rattle.leaf_cell.specs.declared.snapshot.Snapshot.{Snapshot}
use Rattle.leaf_cell.specs.declared.snapshot.SnapshotLeaf.TheVariants as code
use Rattle.leaf_cell.specs.Places.{TableView}
use Rattle.leaf_cell.specs.CellView.{CellView, kept_page}
use Rattle.leaf_cell.specs.Writable.{none_writable, writable_at}
use Rattle.leaf_cell.proofs.WritablePages.{never-writable}
use Rattle.leaf_cell.specs.Inside.{AreInside, table_of, table_places, table_writable, own_places, leaf_value, kept_value, kept_values, cell_value}
use Rattle.leaf_cell.specs.Renaming.{AreKeptAlike, IsLive, IsRenaming}
use Rattle.leaf_cell.specs.Standing.{StandsFor, TakesAccount}
use Rattle.leaf_cell.proofs.NewCell.{none_is_not_some}
use Rattle.leaf_cell.proofs.AllowedActs.{allowed-stands}
use Rattle.leaf_cell.proofs.AbsentPages.{version_at-none}
use Rattle.leaf_cell.proofs.Renamed.{eqb-refl}
use Rattle.leaf_cell.proofs.TouchActs.{stands-made}
use Rattle.leaf_cell.proofs.WholeCells.{whole-among}

-- no snapshot on one side, none on the other
alike-none : (name : ℕ → ℕ → ℕ) (meant : List Kept) → AreKeptAlike name [] meant → meant ≡ []
alike-none name [] alike = refl
alike-none name (it ∷ others) alike = absurd alike

not_nil : (it : Kept) (others : List Kept) → ((it ∷ others) ≡ []) → ⊥
not_nil it others e = absurd (false≢true (ap is_nil (sym (sym e))))
  where
    is_nil : List Kept → Bool
    is_nil [] = true
    is_nil (x ∷ xs) = false

module _ (mode : Mode) (leaf : Leaf) (view : CellView) (account : CellAccount) (stands : StandsFor view account) (n : ℕ) (alone : view.leaves.kept ≡ []) where
  -- the snapshot of the fork
  abbrev fork_of : ℕ → Versions → Kept
  fork_of number places = record { number = number; mode = mode; versions = places; leaf = leaf }

  none_meant : account.state.leaves.kept ≡ []
  none_meant = alike-none stands.name account.state.leaves.kept (subst (λ kept. AreKeptAlike stands.name kept account.state.leaves.kept) alone stands.leaves.kept)

  abbrev view_forked : CellView
  view_forked = record view { leaves = record view.leaves { kept = fork_of n view.leaves.parent ∷ [] } }

  meant_kept : with_kept (fork_of n account.state.leaves.parent) account.state.leaves.kept ≡ fork_of n account.state.leaves.parent ∷ []
  meant_kept = ap (with_kept (fork_of n account.state.leaves.parent)) none_meant

  abbrev leaves_then : CellLeaves
  leaves_then = record account.state.leaves { kept = fork_of n account.state.leaves.parent ∷ [] }

  -- nothing lives that did not
  lived : (page version : ℕ) → IsLive leaves_then page version → IsLive account.state.leaves page version
  lived page version (inl there) = inl there
  lived page version (inr (inl named)) = inl named.1
  lived page version (inr (inr named)) = absurd named

  still_lives : (page place : ℕ) → IsLive view_forked.leaves page place → IsLive view.leaves page place
  still_lives page place (inl there) = inl there
  still_lives page place (inr (inl named)) = inl named.1
  still_lives page place (inr (inr named)) = absurd named

  renaming : IsRenaming stands.name view_forked.leaves leaves_then
  renaming = record {
    parent = stands.leaves.parent;
    kept = (record { number = refl; mode = refl; leaf = refl; versions = λ unlost. stands.leaves.parent }, tt);
    apart = λ page a b la lb. stands.leaves.apart page a b (lived page a la) (lived page b lb);
  }

  -- the one snapshot is that of the fork
  forked_one : (number page : ℕ) (kept : Kept) → kept_by (fork_of n view.leaves.parent ∷ []) number ≡ Some kept → page < 512
      → kept_page view_forked kept page ≡ option_and_then (λ pages. get pages page) (get (insert account.state.snapshots n account.state.pages) number)
  forked_one number page kept found small = elim (cases_eq n number) [
    | inl same ↦
        let one : fork_of n view.leaves.parent ≡ kept = ap (λ o. unwrap_or o (fork_of n view.leaves.parent)) (sym (ap (λ b. cond b (Some (fork_of n view.leaves.parent)) None) (ap (λ x. n == x) (sym same) ∙ eqb-refl n)) ∙ found) in
        ap (λ k. kept_page view_forked k page) (sym one) ∙ stands.pages page small
        ∙ sym (ap (option_and_then (λ pages. get pages page)) (get_inserted_here account.state.snapshots n account.state.pages number (sym same)))
    | inr apart ↦ absurd (false≢true (ap is_some (sym (ap (λ b. cond b (Some (fork_of n view.leaves.parent)) None) (ne_eqb n number apart)) ∙ found)))
  ]

  pub stands_forked : (made : ℕ) → account.made ≤ made → StandsFor view_forked (record {
    state = record {
      leaves = record account.state.leaves { kept = with_kept (fork_of n account.state.leaves.parent) account.state.leaves.kept };
      pages = account.state.pages;
      snapshots = insert account.state.snapshots n account.state.pages;
    };
    made = made;
  })
  stands_forked made later = record {
    name = stands.name;
    leaves = subst (λ kept. IsRenaming stands.name view_forked.leaves (record account.state.leaves { kept = kept })) (sym meant_kept) renaming;
    made = λ page version live. omega (arith, later, stands.made page version (lived page version (subst (λ kept. IsLive (record account.state.leaves { kept = kept }) page version) meant_kept live)));
    pages = stands.pages;
    snapshots = λ number page kept found unlost small. forked_one number page kept found small;
    whole = whole-among view view_forked.leaves view.writable stands.whole still_lives;
  }

-- a cell with the one snapshot of a fork
abbrev pub view_of_fork : Mode → Leaf → ℕ → CellView → CellView
view_of_fork mode leaf n view = record view {
  leaves = record view.leaves { kept = record { number = n; mode = mode; versions = view.leaves.parent; leaf = leaf } ∷ [] };
}

module _ (view : CellView) (account : CellAccount) (stands : StandsFor view account) (n : ℕ) where
  pub fork-granted : view.leaves.kept ≡ [] → (seat : ℕ) → TakesAccount (Fork n Eager seat) view (view_of_fork Eager Own n view) (Granted want.Leaf ∷ []) None account
  fork-granted alone seat = record { allowed = allowed-stands view account stands (Fork n Eager seat); stands = stands_forked Eager Own view account stands n alone (account.made + 1) (omega arith); asked = refl; ended = refl }

  pub fork-denied : (seat at : ℕ) → TakesAccount (Fork n Eager seat) view view (Denied want.Leaf at ∷ []) (Some at) account
  fork-denied seat at = record { allowed = allowed-stands view account stands (Fork n Eager seat); stands = stands-made view account (account.made + 1) stands (omega arith); asked = refl; ended = refl }

  pub fork-lazy : view.leaves.kept ≡ [] → (mode : Mode) → (mode ≡ Eager → ⊥) → (seat : ℕ) → TakesAccount (Fork n mode seat) view (view_of_fork mode Joined n view) [] None account
  fork-lazy alone Eager lazy seat = absurd (lazy refl)
  fork-lazy alone OnDemand lazy seat = record { allowed = allowed-stands view account stands (Fork n OnDemand seat); stands = stands_forked OnDemand Joined view account stands n alone account.made (omega arith); asked = refl; ended = refl }
  fork-lazy alone Async lazy seat = record { allowed = allowed-stands view account stands (Fork n Async seat); stands = stands_forked Async Joined view account stands n alone account.made (omega arith); asked = refl; ended = refl }

-- where the parent has a page there is its table
table-of-pages : (parent : Option TableView) → has_pages (table_places parent) ≡ true → is_some parent ≡ true
table-of-pages None present = absurd (false≢true present)
table-of-pages (Some table) present = refl

-- the order of a cell whose one snapshot has the parent's table
pub inside-lazy : (parent : Option TableView) (snapshot : Option Snapshot) (frames : List (Option FrameView)) (n : ℕ) (mode : Mode) → AreInside parent snapshot frames
    → kept_values (table_places parent) snapshot ≡ [] → has_pages (table_places parent) ≡ true → AreInside parent (Some (record { number = n; mode = mode; leaf = code.Joined })) frames
inside-lazy parent (Some other) frames n mode inside alone present = absurd (not_nil (kept_value (table_places parent) other) [] alone)
inside-lazy parent None frames n mode inside alone present = record {
  room = inside.room;
  parent_home = inside.parent_home;
  own_home = inside.own_home;
  named = inside.named;
  used = inside.used;
  parent_size = inside.parent_size;
  own_size = inside.own_size;
  writable = inside.writable;
  joined = λ is. table-of-pages parent present;
}

-- the order of a cell whose snapshot gets a table of its own
pub inside-own : (parent : Option TableView) (snapshot : Option Snapshot) (frames : List (Option FrameView)) (it : Snapshot) → AreInside parent snapshot frames
    → own_places snapshot ≡ no_versions → it.leaf ≡ code.Own (table_of parent) → table_writable parent ≡ none_writable → AreInside parent (Some it) frames
inside-own parent snapshot frames it inside without leaf none =
    let own : own_places (Some it) ≡ table_places parent = ap (λ l. own_places (Some (record it { leaf = l }))) leaf in
    record {
      room = inside.room;
      parent_home = inside.parent_home;
      own_home = λ page place small named. inside.parent_home page place small (ap (λ vs. version_at vs page) (sym own) ∙ named);
      named = λ page place small home there. elim (inside.named page place small home there) [
        | inl named ↦ inl named
        | inr named ↦ none_is_not_some (version_at no_versions page) place (version_at-none page) (ap (λ vs. version_at vs page) (sym without) ∙ named)
      ];
      used = inside.used;
      parent_size = inside.parent_size;
      own_size = ap length own ∙ inside.parent_size;
      writable = record {
        size = inside.writable.size;
        apart = λ page may. absurd (false≢true (sym (ap (λ ws. writable_at ws page) none ∙ never-writable page) ∙ may));
      };
      joined = λ is. absurd (false≢true (sym (ap (λ l. is_joined (leaf_value l)) leaf) ∙ is));
    }

-- the order of the cell afterwards
pub inside-forked : (parent : Option TableView) (snapshot : Option Snapshot) (frames : List (Option FrameView)) (it : Snapshot) → AreInside parent snapshot frames
    → kept_values (table_places parent) snapshot ≡ [] → it.leaf ≡ code.Own (table_of parent) → table_writable parent ≡ none_writable → AreInside parent (Some it) frames
inside-forked parent (Some other) frames it inside alone leaf none = absurd (not_nil (kept_value (table_places parent) other) [] alone)
inside-forked parent None frames it inside alone leaf none = inside-own parent None frames it inside refl leaf none

-- a forked cell as contracts see it
pub forked-view : (parent : Option TableView) (snapshot : Option Snapshot) (frames : List (Option FrameView)) (it : Snapshot) (n : ℕ)
    → it.number ≡ n → it.mode ≡ Eager → it.leaf ≡ code.Own (table_of parent)
    → view_of_fork Eager Own n (cell_value parent snapshot frames) ≡ cell_value parent (Some it) frames
forked-view parent snapshot frames it n number mode leaf = λ i. cell_value parent (Some (record { number = sym number i; mode = sym mode i; leaf = sym leaf i })) frames
