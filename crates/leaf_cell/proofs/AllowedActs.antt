-- What the leaves of a cell allow, those of each account that it stands for allow too.
use Rattle.std.proofs.Common.{◌≡◌, ℕ, Option, Some, None, refl, sym, ◌∙◌, ap, subst}
use Rattle.std.specs.Prelude.{IsSome}
use Rattle.std.specs.Option.{option_map}
use Rattle.kernel_meaning.specs.Leaves.{version_at, is_joined, IsAlone}
use Rattle.kernel_meaning.specs.CellAccount.{CellAct, Touch, Store, Clear, Protect, Fork, Copy, Unmark, Drop, CellAccount, AllowsAct}
use Rattle.leaf_cell.specs.CellView.{CellView}
use Rattle.leaf_cell.specs.Standing.{StandsFor}
use Rattle.leaf_cell.proofs.Renamed.{version_at-renamed}
use Rattle.leaf_cell.proofs.Alike.{named-alike}
use Rattle.leaf_cell.proofs.SameReads.{found-alike, leaf-stands}
use Rattle.leaf_cell.proofs.TouchActs.{meant-pages}

-- the page is the parent's alone there where it is here
alone-there : (view : CellView) (account : CellAccount) → StandsFor view account → (page : ℕ) → IsAlone view.leaves page → IsAlone account.state.leaves page
alone-there view account stands page alone = record {
  present = some_named (version_at account.state.leaves.parent page) (subst IsSome names alone.present);
  unnamed = λ version there named. alone.unnamed (stands.name page version) (names ∙ ap (option_map (stands.name page)) there)
      (named-alike stands.name page version view.leaves.kept account.state.leaves.kept stands.leaves.kept named);
}
  where
    names : version_at view.leaves.parent page ≡ option_map (stands.name page) (version_at account.state.leaves.parent page)
    names = ap (λ versions. version_at versions page) stands.leaves.parent ∙ version_at-renamed stands.name account.state.leaves.parent page

    some_named : (o : Option ℕ) → IsSome (option_map (stands.name page) o) → IsSome o
    some_named None h = h
    some_named (Some version) h = refl

pub allowed-stands : (view : CellView) (account : CellAccount) → StandsFor view account → (act : CellAct) → AllowsAct view.leaves act → AllowsAct account.state.leaves act
allowed-stands view account stands (Touch page) it = it
allowed-stands view account stands (Store page at bytes) it = (alone-there view account stands page it.0, it.1, it.2)
allowed-stands view account stands (Clear first n) it = it
allowed-stands view account stands (Protect first n perm) it = it
allowed-stands view account stands (Fork n mode seat) it =
    (meant-pages view account stands ∙ it.0, it.1, sym (found-alike stands.name n view.leaves.kept account.state.leaves.kept stands.leaves.kept) ∙ it.2)
allowed-stands view account stands (Copy n) it = sym (found-alike stands.name n view.leaves.kept account.state.leaves.kept stands.leaves.kept) ∙ it
allowed-stands view account stands (Unmark n) it = sym (leaf-stands is_joined view account stands n) ∙ it
allowed-stands view account stands (Drop n) it = sym (found-alike stands.name n view.leaves.kept account.state.leaves.kept stands.leaves.kept) ∙ it
