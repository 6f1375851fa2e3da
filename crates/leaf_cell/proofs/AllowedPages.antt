-- Which pages may be written to once a permission was given, as tables and as contracts have it.
use Rattle.std.proofs.Common.{◌≡◌, ℕ, ◌+◌, ◌<◌, List, [], ◌∷◌, length, Option, Some, None, refl, sym, ◌∙◌, ap, arith, inl, inr}
use Rattle.std.specs.Prelude.{is_some, Bool, true, false, not, ◌&&◌, ◌||◌, cond, nat_eq, slice_set}
use Rattle.std.specs.Option.{option_eq}
use Rattle.std.specs.List.{list_any}
use Rattle.std.proofs.lemmas.Bool.{and_parts, false≢true}
use Rattle.vm_base.specs.Frames.{FrameView}
use Rattle.vm_base.specs.declared.permission.Perm.{Perm}
use Rattle.vm_base.specs.FlatStep.{is_beyond, is_writable}
use Rattle.kernel_meaning.specs.Leaves.{Versions, no_versions, version_at, has_pages, names_version, is_named, is_own, holds_number, Kept, CellLeaves}
use Rattle.kernel_meaning.specs.CellAccount.{CellAccount}
use Rattle.leaf_cell.specs.declared.snapshot.Snapshot.{Snapshot}
use Rattle.leaf_cell.specs.Places.{TableView, with_entry}
use Rattle.leaf_cell.specs.CellView.{AreUnjoined}
use Rattle.leaf_cell.specs.Inside.{AreInside, table_places, table_writable, own_places, is_apart, cell_value}
use Rattle.leaf_cell.specs.Permissions.{allowed, is_unshared, table_allowed, with_allowed}
use Rattle.leaf_cell.specs.Renaming.{IsNamedBy}
use Rattle.leaf_cell.specs.Standing.{StandsFor}
use Rattle.leaf_cell.specs.Touching.{IsAlone, is_named_too, needs_copy}
use Rattle.leaf_cell.specs.Writable.{none_writable, writable_at, with_writable}
use Rattle.leaf_cell.proofs.AbsentPages.{version_at-none}
use Rattle.leaf_cell.proofs.OwnNames.{named-own}
use Rattle.leaf_cell.proofs.PairCounts.{eqb-true}
use Rattle.leaf_cell.proofs.PresentPage.{own_unlost}
use Rattle.leaf_cell.proofs.TableWords.{same-place}
use Rattle.leaf_cell.proofs.Touched.{named-own-leaf}
use Rattle.leaf_cell.proofs.WritablePages.{absent-apart, length-with_writable, writable-below, writable_at-with, with_writable-same, with_writable-none, with_writable-all, with_writable-one, with_writable-next, with_writable-skip}
use Rattle.leaf_cell.proofs.WritableViews.{stands-writable}

-- a page that is apart from the snapshot's own table is one that its leaf does not share
pub unshared-apart : (parent : Option TableView) (snapshot : Option Snapshot) (frames : List (Option FrameView)) (page : ℕ)
    → is_unshared (cell_value parent snapshot frames).leaves page ≡ is_apart (own_places snapshot) (table_places parent) page
unshared-apart parent snapshot frames page = by (version_at (table_places parent) page)
  where
    by : (o : Option ℕ) → (is_some o && not (is_named_too (cell_value parent snapshot frames).leaves page o)) ≡ (is_some o && not (option_eq nat_eq (version_at (own_places snapshot) page) o))
    by None = refl
    by (Some place) = ap not (named-own parent snapshot frames page place)

-- no page of a table that is not there is allowed
none-allowed : (may : Bool) (other : Versions) (page : ℕ) → (may && is_apart other no_versions page) ≡ false
none-allowed false other page = refl
none-allowed true other page = absent-apart other no_versions page (version_at-none page)

pub allowed-places : (may : Bool) (other : Versions) (first n : ℕ) (table : Option TableView) → table_places (with_allowed may other first n table) ≡ table_places table
allowed-places may other first n None = refl
allowed-places may other first n (Some table) = refl

pub allowed-writable : (may : Bool) (other : Versions) (first n : ℕ) (table : Option TableView)
    → table_writable (with_allowed may other first n table) ≡ with_writable (λ page. may && is_apart other (table_places table) page) first n (table_writable table)
allowed-writable may other first n None = with_writable-none (λ page. may && is_apart other no_versions page) first n (λ page. none-allowed may other page)
allowed-writable may other first n (Some table) = refl

-- no page yet
pub no-allowed : (may : Bool) (other : Versions) (first : ℕ) (table : TableView) → length table.writable ≡ 512 → table ≡ table_allowed may other first 0 table
no-allowed may other first table size = λ i. record {
  places = table.places;
  writable = with_writable-same (λ p. may && is_apart other table.places p) first 0 table.writable size (λ page small above below. absurd (omega (arith, above, below))) i;
}

-- one page more, where it is present
pub next-allowed : (may : Bool) (other : Versions) (first n : ℕ) (table now : TableView) (page place : ℕ) → now ≡ table_allowed may other first n table → first + n ≡ page → page < 512
    → version_at now.places page ≡ Some place → with_entry now page place (may && not (option_eq nat_eq (version_at other page) (Some place))) ≡ table_allowed may other first (n + 1) table
next-allowed may other first n table now page place is next small there =
    let named : version_at table.places page ≡ Some place = ap (λ t. version_at t.places page) (sym is) ∙ there in
    ap (λ t. with_entry t page place (may && not (option_eq nat_eq (version_at other page) (Some place)))) is
    ∙ (λ i. record {
      places = same-place table.places page place named i;
      writable = (ap (λ o. slice_set (with_writable (λ p. may && is_apart other table.places p) first n table.writable) page (may && (is_some o && not (option_eq nat_eq (version_at other page) o)))) (sym named)
          ∙ with_writable-next (λ p. may && is_apart other table.places p) first n table.writable page next small) i;
    })

-- and where it is absent
pub skip-allowed : (may : Bool) (other : Versions) (first n : ℕ) (table now : TableView) (page : ℕ) → now ≡ table_allowed may other first n table → first + n ≡ page
    → version_at now.places page ≡ None → (writable_at table.writable page ≡ true → is_apart other table.places page ≡ true) → now ≡ table_allowed may other first (n + 1) table
skip-allowed may other first n table now page is next absent apart =
    let none : is_apart other table.places page ≡ false = absent-apart other table.places page (ap (λ t. version_at t.places page) (sym is) ∙ absent) in
    is ∙ (λ i. record {
      places = table.places;
      writable = with_writable-skip (λ p. may && is_apart other table.places p) first n table.writable page next (ap (λ b. may && b) none ∙ never may ∙ sym (by (writable_at table.writable page) refl none)) i;
    })
  where
    never : (b : Bool) → (b && false) ≡ false
    never true = refl
    never false = refl

    by : (b : Bool) → writable_at table.writable page ≡ b → is_apart other table.places page ≡ false → b ≡ false
    by true may none = absurd (false≢true (sym none ∙ apart may))
    by false may none = refl

-- a page that may be written to then is apart
pub apart-allowed : (may : Bool) (other : Versions) (first n : ℕ) (table : TableView) → ((page : ℕ) → writable_at table.writable page ≡ true → is_apart other table.places page ≡ true)
    → (page : ℕ) → writable_at (with_writable (λ p. may && is_apart other table.places p) first n table.writable) page ≡ true → is_apart other table.places page ≡ true
apart-allowed may other first n table apart page is =
    let small : page < 512 = writable-below (with_writable (λ p. may && is_apart other table.places p) first n table.writable) page (length-with_writable (λ p. may && is_apart other table.places p) first n table.writable) is in
    by (is_beyond first n page) (sym (writable_at-with (λ p. may && is_apart other table.places p) first n table.writable page small) ∙ is)
  where
    by : (b : Bool) → cond b (writable_at table.writable page) (may && is_apart other table.places page) ≡ true → is_apart other table.places page ≡ true
    by true h = apart page h
    by false h = (and_parts may (is_apart other table.places page) h).1

-- the order of the cell afterwards
pub inside-allowed : (may : Bool) (first n : ℕ) (parent : Option TableView) (snapshot : Option Snapshot) (frames : List (Option FrameView)) → AreInside parent snapshot frames
    → AreInside (with_allowed may (own_places snapshot) first n parent) snapshot frames
inside-allowed may first n None snapshot frames inside = inside
inside-allowed may first n (Some table) snapshot frames inside = record {
  room = inside.room;
  parent_home = inside.parent_home;
  own_home = inside.own_home;
  named = inside.named;
  used = λ it is. ap (λ o. has_pages (table_places o)) (sym is) ∙ inside.used table refl;
  parent_size = inside.parent_size;
  own_size = inside.own_size;
  writable = record {
    size = length-with_writable (λ p. may && is_apart (own_places snapshot) table.places p) first n table.writable;
    apart = apart-allowed may (own_places snapshot) first n table inside.writable.apart;
  };
  joined = λ is. refl;
}

-- who has a leaf of its own and names a version names it
named-by : (page version : ℕ) (kept : List Kept) → list_any (names_version page version) kept ≡ true → IsNamedBy page version kept
named-by page version [] named = absurd (false≢true named)
named-by page version (it ∷ others) named = by (names_version page version it) refl (named-by page version others) named
  where
    holds : (o : Option ℕ) → holds_number o version ≡ true → o ≡ Some version
    holds None h = absurd (false≢true h)
    holds (Some w) h = ap Some (eqb-true w version h)

    by : (b : Bool) → names_version page version it ≡ b → (list_any (names_version page version) others ≡ true → IsNamedBy page version others)
        → (b || list_any (names_version page version) others) ≡ true → IsNamedBy page version (it ∷ others)
    by true is later h =
        let parts : (is_own it.leaf ≡ true) × (holds_number (version_at it.versions page) version ≡ true) = and_parts (is_own it.leaf) (holds_number (version_at it.versions page) version) is in
        inl (own_unlost it.leaf parts.0, holds (version_at it.versions page) parts.1)
    by false is later h = inr (later h)

-- a page that is the parent's alone is shared with no own leaf
pub unshared-alone : (cell : CellLeaves) (page : ℕ) → IsAlone cell page → is_unshared cell page ≡ true
unshared-alone cell page alone = by (version_at cell.parent page) refl
  where
    by : (o : Option ℕ) → version_at cell.parent page ≡ o → (is_some o && not (is_named_too cell page o)) ≡ true
    by None absent = sym (ap is_some absent) ∙ alone.present
    by (Some version) there = unnamed (is_named cell page version) refl
      where
        unnamed : (b : Bool) → is_named cell page version ≡ b → not b ≡ true
        unnamed true named = absurd (alone.unnamed version there (named-by page version cell.kept named))
        unnamed false named = refl

-- and where no leaf is joined the other way
pub alone-unshared : (cell : CellLeaves) (page : ℕ) → AreUnjoined cell.kept → is_unshared cell page ≡ true → IsAlone cell page
alone-unshared cell page unjoined unshared = record {
  present = (and_parts (is_some (version_at cell.parent page)) (not (needs_copy cell page)) unshared).0;
  unnamed = λ version there named. false≢true (sym (ap not (ap (is_named_too cell page) there ∙ named-own-leaf page version cell.kept unjoined named))
      ∙ (and_parts (is_some (version_at cell.parent page)) (not (needs_copy cell page)) unshared).1);
}

-- the same accounts
pub stands-allowed : (may : Bool) (other : Versions) (first n : ℕ) (parent : Option TableView) (snapshot : Option Snapshot) (frames : List (Option FrameView)) (account : CellAccount)
    → StandsFor (cell_value parent snapshot frames) account → StandsFor (cell_value (with_allowed may other first n parent) snapshot frames) account
stands-allowed may other first n None snapshot frames account stands = stands
stands-allowed may other first n (Some table) snapshot frames account stands =
    stands-writable (cell_value (Some table) snapshot frames) (table_allowed may other first n table).writable account stands

-- where no page may be written to any more
pub none-writable : (other : Versions) (parent : Option TableView) → table_writable (with_allowed false other 0 512 parent) ≡ none_writable
none-writable other parent = allowed-writable false other 0 512 parent ∙ with_writable-all (λ page. false) (table_writable parent) (λ page. refl)

-- one page, where it has its frame alone
pub one-writable : (parent : Option TableView) (snapshot : Option Snapshot) (frames : List (Option FrameView)) → AreInside parent snapshot frames → (page : ℕ) → page < 512
    → is_unshared (cell_value parent snapshot frames).leaves page ≡ true → table_writable (with_allowed true (own_places snapshot) page 1 parent) ≡ slice_set (table_writable parent) page true
one-writable parent snapshot frames inside page small unshared =
    allowed-writable true (own_places snapshot) page 1 parent
    ∙ with_writable-one (λ p. is_apart (own_places snapshot) (table_places parent) p) page (table_writable parent) inside.writable.size small
    ∙ ap (slice_set (table_writable parent) page) (sym (unshared-apart parent snapshot frames page) ∙ unshared)

-- the cell with other pages that may be written to
pub view-allowed : (may : Bool) (other : Versions) (first n : ℕ) (parent : Option TableView) (snapshot : Option Snapshot) (frames : List (Option FrameView)) (writable : List Bool)
    → table_writable (with_allowed may other first n parent) ≡ writable → cell_value (with_allowed may other first n parent) snapshot frames ≡ record (cell_value parent snapshot frames) { writable = writable }
view-allowed may other first n None snapshot frames writable is = λ i. record (cell_value None snapshot frames) { writable = is i }
view-allowed may other first n (Some table) snapshot frames writable is = λ i. record (cell_value (Some table) snapshot frames) { writable = is i }

-- a permission as contracts have it
pub permission-writable : (may : Bool) (perm : Perm) → may ≡ is_writable perm → (first n : ℕ) (parent : Option TableView) (snapshot : Option Snapshot) (frames : List (Option FrameView))
    → table_writable (with_allowed may (own_places snapshot) first n parent) ≡ allowed perm first n (cell_value parent snapshot frames)
permission-writable may perm is first n parent snapshot frames = allowed-writable may (own_places snapshot) first n parent
    ∙ (λ i. with_writable (λ page. is i && sym (unshared-apart parent snapshot frames page) i) first n (table_writable parent))

-- no own leaf names a page that may be written to
pub writable-unnamed : (parent : Option TableView) (snapshot : Option Snapshot) (frames : List (Option FrameView)) → AreInside parent snapshot frames → (page place : ℕ)
    → version_at (table_places parent) page ≡ Some place → writable_at (table_writable parent) page ≡ true → is_named (cell_value parent snapshot frames).leaves page place ≡ false
writable-unnamed parent snapshot frames inside page place there may =
    by (is_named (cell_value parent snapshot frames).leaves page place)
    (sym (ap (λ o. is_some o && not (is_named_too (cell_value parent snapshot frames).leaves page o)) there) ∙ unshared-apart parent snapshot frames page ∙ inside.writable.apart page may)
  where
    by : (b : Bool) → not b ≡ true → b ≡ false
    by true h = absurd (false≢true h)
    by false h = refl
