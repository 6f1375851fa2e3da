-- What is read of a cell is what is read of each account that it stands for.
use Rattle.std.proofs.Common.{◌≡◌, ℕ, zero, suc, ◌+◌, ◌<◌, List, [], ◌∷◌, Option, Some, None, refl, sym, ◌∙◌, ap, subst, inl, inr}
use Rattle.std.specs.Prelude.{is_some, IsSome, Bool, true, false, cond, ◌==◌, ◌||◌, count_by, Ok}
use Rattle.std.specs.Option.{option_map}
use Rattle.std.proofs.lemmas.Bool.{false≢true}
use Rattle.std.proofs.lemmas.List.Sums.{sum_by-cons}
use Rattle.kernel_meaning.specs.Leaves.{Versions, version_at, has_present, Leaf, Own, Joined, Lost, is_joined, is_lost, Kept, kept_by}
use Rattle.kernel_meaning.specs.CellAccount.{CellAccount}
use Rattle.leaf_cell.specs.CellView.{CellView, AreUnjoined, kept_page, part_of}
use Rattle.leaf_cell.specs.Renaming.{renamed_from, renamed, AreKeptAlike, IsNamedBy}
use Rattle.leaf_cell.specs.Standing.{StandsFor, IsSnapRead, snapshot_page}
use Rattle.leaf_cell.specs.States.{has_leaf_where, unless_lost, kept_part, snapshot_part}
use Rattle.leaf_cell.specs.Touching.{IsAlone}
use Rattle.leaf_cell.proofs.AbsentPages.{has_present-more}
use Rattle.leaf_cell.proofs.Renamed.{version_at-renamed}
use Rattle.leaf_cell.proofs.PresentPage.{meant_from}

-- as many pages under other names
count-renamed_from : (name : ℕ → ℕ → ℕ) (page : ℕ) (versions : Versions) → count_by is_some (renamed_from name page versions) ≡ count_by is_some versions
count-renamed_from name page [] = refl
count-renamed_from name page (None ∷ versions) =
    sum_by-cons (λ o. cond (is_some o) 1 0) None (renamed_from name (page + 1) versions) ∙ ap (λ n. 0 + n) (count-renamed_from name (page + 1) versions)
    ∙ sym (sum_by-cons (λ o. cond (is_some o) 1 0) None versions)
count-renamed_from name page (Some v ∷ versions) =
    sum_by-cons (λ o. cond (is_some o) 1 0) (Some (name page v)) (renamed_from name (page + 1) versions) ∙ ap (λ n. 1 + n) (count-renamed_from name (page + 1) versions)
    ∙ sym (sum_by-cons (λ o. cond (is_some o) 1 0) (Some v) versions)

some-mapped : (name : ℕ → ℕ) (o : Option ℕ) → is_some (option_map name o) ≡ is_some o
some-mapped name None = refl
some-mapped name (Some v) = refl

-- pages of a range under other names
pub has_present-renamed : (name : ℕ → ℕ → ℕ) (versions : Versions) (first n : ℕ) → has_present (renamed name versions) first n ≡ has_present versions first n
has_present-renamed name versions first zero = refl
has_present-renamed name versions first (suc n) =
    has_present-more (renamed name versions) first n
    ∙ ap (λ b. b || is_some (version_at (renamed name versions) (first + n))) (has_present-renamed name versions first n)
    ∙ ap (λ b. has_present versions first n || b) (ap is_some (version_at-renamed name versions (first + n)) ∙ some-mapped (name (first + n)) (version_at versions (first + n)))
    ∙ sym (has_present-more versions first n)

module _ (view : CellView) (account : CellAccount) (stands : StandsFor view account) where
  pub count-stands : count_by is_some view.leaves.parent ≡ count_by is_some account.state.leaves.parent
  count-stands = ap (count_by is_some) stands.leaves.parent ∙ count-renamed_from stands.name 0 account.state.leaves.parent

  pub present-stands : (first n : ℕ) → has_present view.leaves.parent first n ≡ has_present account.state.leaves.parent first n
  present-stands first n = ap (λ versions. has_present versions first n) stands.leaves.parent ∙ has_present-renamed stands.name account.state.leaves.parent first n

-- the same snapshots are there
pub found-alike : (name : ℕ → ℕ → ℕ) (n : ℕ) (view meant : List Kept) → AreKeptAlike name view meant → is_some (kept_by view n) ≡ is_some (kept_by meant n)
found-alike name n [] [] alike = refl
found-alike name n [] (o ∷ os) alike = absurd alike
found-alike name n (i ∷ is) [] alike = absurd alike
found-alike name n (i ∷ is) (o ∷ os) alike =
    ap (λ number. is_some (cond (number == n) (Some i) (kept_by is n))) alike.0.number ∙ by (o.number == n) (found-alike name n is os alike.1)
  where
    by : (b : Bool) → is_some (kept_by is n) ≡ is_some (kept_by os n) → is_some (cond b (Some i) (kept_by is n)) ≡ is_some (cond b (Some o) (kept_by os n))
    by true rest = refl
    by false rest = rest

-- what is read of a leaf is what lies there, and the leaf is not lost
ok_bytes : (leaf : Leaf) (bytes read : List ℕ) → unless_lost leaf bytes ≡ Ok read → (is_lost leaf ≡ false) × (bytes ≡ read)
ok_bytes Own bytes read e = (refl, cc)
ok_bytes Joined bytes read e = (refl, cc)
ok_bytes (Lost at) bytes read e = cc

-- bytes of a snapshot that has not lost the cell
pub snap-stands : (view : CellView) (account : CellAccount) → StandsFor view account → (n page at size : ℕ) (bytes : List ℕ) → page < 512 → snapshot_part view n page at size ≡ Ok bytes → IsSnapRead account n page at size (Ok tt) bytes
snap-stands view account stands n page at size bytes small read = record {
  ok = λ there. by (kept_by view.leaves.kept n) refl (found-alike stands.name n view.leaves.kept account.state.leaves.kept stands.leaves.kept ∙ there) read;
  lost = tt;
}
  where
    by : (o : Option Kept) → kept_by view.leaves.kept n ≡ o → IsSome o → kept_part view o page at size ≡ Ok bytes → bytes ≡ part_of (snapshot_page account n page) at size
    by None is some e = absurd (false≢true some)
    by (Some kept) is some e =
        let found : (is_lost kept.leaf ≡ false) × (part_of (kept_page view kept page) at size ≡ bytes) = ok_bytes kept.leaf (part_of (kept_page view kept page) at size) bytes e in
        sym found.1 ∙ ap (λ o. part_of o at size) (stands.snapshots n page kept is found.0 small)

module _ (view : CellView) (account : CellAccount) (stands : StandsFor view account) where
  -- no leaf is joined here where none is there
  unjoined-back : (its others : List Kept) → AreKeptAlike stands.name its others → AreUnjoined others → AreUnjoined its
  unjoined-back [] [] alike h = tt
  unjoined-back [] (o ∷ os) alike h = absurd alike
  unjoined-back (i ∷ is) [] alike h = absurd alike
  unjoined-back (i ∷ is) (o ∷ os) alike h = (ap is_joined alike.0.leaf ∙ h.0, unjoined-back is os alike.1 h.1)

  pub unjoined-stands : AreUnjoined account.state.leaves.kept → AreUnjoined view.leaves.kept
  unjoined-stands h = unjoined-back view.leaves.kept account.state.leaves.kept stands.leaves.kept h

  -- no snapshot is here where none is there
  pub none-stands : account.state.leaves.kept ≡ [] → view.leaves.kept ≡ []
  none-stands none = by view.leaves.kept (subst (AreKeptAlike stands.name view.leaves.kept) none stands.leaves.kept)
    where
      by : (its : List Kept) → AreKeptAlike stands.name its [] → its ≡ []
      by [] alike = refl
      by (i ∷ is) alike = absurd alike

  -- who names a place here names its version there
  named-back : (page place : ℕ) (its others : List Kept) → AreKeptAlike stands.name its others → IsNamedBy page place its → (w : ℕ) × (IsNamedBy page w others × (stands.name page w ≡ place))
  named-back page place [] others alike named = absurd named
  named-back page place (i ∷ is) [] alike named = absurd alike
  named-back page place (i ∷ is) (o ∷ os) alike (inl here) =
      let unlost : is_lost o.leaf ≡ false = ap is_lost (sym alike.0.leaf) ∙ here.0 in
      let found : (w : ℕ) × ((version_at o.versions page ≡ Some w) × (stands.name page w ≡ place)) = meant_from (stands.name page) (version_at o.versions page) place
      (sym (version_at-renamed stands.name o.versions page) ∙ ap (λ vs. version_at vs page) (sym (alike.0.versions unlost)) ∙ here.1) in
      (found.0, (inl (unlost, found.1.0), found.1.1))
  named-back page place (i ∷ is) (o ∷ os) alike (inr later) =
      let found : (w : ℕ) × (IsNamedBy page w os × (stands.name page w ≡ place)) = named-back page place is os alike.1 later in
      (found.0, (inr found.1.0, found.1.1))

  -- the page is the parent's alone here where it is there
  pub alone-stands : (page : ℕ) → IsAlone account.state.leaves page → IsAlone view.leaves page
  alone-stands page alone = record {
    present = ap (λ vs. is_some (version_at vs page)) stands.leaves.parent ∙ ap is_some (version_at-renamed stands.name account.state.leaves.parent page)
        ∙ some-mapped (stands.name page) (version_at account.state.leaves.parent page) ∙ alone.present;
    unnamed = λ place is named.
        let found : (w : ℕ) × (IsNamedBy page w account.state.leaves.kept × (stands.name page w ≡ place)) = named-back page place view.leaves.kept account.state.leaves.kept stands.leaves.kept named in
        let mine : (v : ℕ) × ((version_at account.state.leaves.parent page ≡ Some v) × (stands.name page v ≡ place)) = meant_from (stands.name page) (version_at account.state.leaves.parent page) place
        (sym (version_at-renamed stands.name account.state.leaves.parent page) ∙ ap (λ vs. version_at vs page) (sym stands.leaves.parent) ∙ is) in
        let same : found.0 ≡ mine.0 = stands.leaves.apart page found.0 mine.0 (inr found.1.0) (inl mine.1.0) (found.1.1 ∙ sym mine.1.1) in
        alone.unnamed found.0 (mine.1.0 ∙ ap Some (sym same)) found.1.0;
  }

-- a snapshot has a leaf of some kind here where it has one there
leaf-alike : (name : ℕ → ℕ → ℕ) (test : Leaf → Bool) (n : ℕ) (view meant : List Kept) → AreKeptAlike name view meant → has_leaf_where test (kept_by view n) ≡ has_leaf_where test (kept_by meant n)
leaf-alike name test n [] [] alike = refl
leaf-alike name test n [] (o ∷ os) alike = absurd alike
leaf-alike name test n (i ∷ is) [] alike = absurd alike
leaf-alike name test n (i ∷ is) (o ∷ os) alike =
    ap (λ number. has_leaf_where test (cond (number == n) (Some i) (kept_by is n))) alike.0.number ∙ by (o.number == n) (leaf-alike name test n is os alike.1)
  where
    by : (b : Bool) → has_leaf_where test (kept_by is n) ≡ has_leaf_where test (kept_by os n) → has_leaf_where test (cond b (Some i) (kept_by is n)) ≡ has_leaf_where test (cond b (Some o) (kept_by os n))
    by true rest = ap test alike.0.leaf
    by false rest = rest

pub leaf-stands : (test : Leaf → Bool) (view : CellView) (account : CellAccount) → StandsFor view account → (n : ℕ)
    → has_leaf_where test (kept_by view.leaves.kept n) ≡ has_leaf_where test (kept_by account.state.leaves.kept n)
leaf-stands test view account stands n = leaf-alike stands.name test n view.leaves.kept account.state.leaves.kept stands.leaves.kept
