-- What the refused copy of a page made: the snapshot that names it too has lost the cell.
use Rattle.std.proofs.Common.{◌≡◌, ℕ, ◌+◌, ◌-◌, ◌<◌, List, [], ◌∷◌, replicate, Option, Some, None, refl, sym, ◌∙◌, ap, subst, arith, inl, inr}
use Rattle.std.specs.Prelude.{is_some, Bool, true, false, cond, unwrap_or, ◌==◌, ◌||◌, slice_index_or}
use Rattle.std.specs.FinMap.{get}
use Rattle.std.specs.Option.{option_map}
use Rattle.std.proofs.lemmas.Bool.{false≢true}
use Rattle.std.proofs.lemmas.List.Sums.{sum_by-cons}
use Rattle.vm_base.specs.declared.frame_request.Want.TheVariants as want
use Rattle.vm_base.specs.Deals.{Deal, Denied, Returned}
use Rattle.vm_base.specs.Frames.{FrameView}
use Rattle.vm_base.proofs.FlatPages.{with_page_there}
use Rattle.kernel_meaning.specs.Requests.{No, opening_requests}
use Rattle.kernel_meaning.specs.Leaves.{Versions, no_versions, version_at, is_lost, is_own, Lost, Kept, CellLeaves, names_version, is_named, with_leaf, share, kept_by}
use Rattle.kernel_meaning.specs.CellActs.{Course, opening_course, asking, coming_answer, page_copy_answered, with_leaf_where, course_touched}
use Rattle.kernel_meaning.specs.CellAccount.{Touch, CellAccount}
use Rattle.leaf_cell.specs.declared.snapshot.Snapshot.{Snapshot}
use Rattle.leaf_cell.specs.Places.{TableView}
use Rattle.leaf_cell.specs.CellView.{CellView, AreUnjoined, bytes_in}
use Rattle.leaf_cell.specs.Inside.{AreInside, table_places, snapshot_places, leaf_value, kept_value, kept_values, cell_value}
use Rattle.leaf_cell.specs.Losing.{lost_at}
use Rattle.leaf_cell.specs.Releasing.{IsLeafReleased, own_if}
use Rattle.leaf_cell.specs.Renaming.{IsKeptAlike, AreKeptAlike, IsNamedBy, IsLive, IsRenaming}
use Rattle.leaf_cell.specs.Standing.{StandsFor, TakesAccount, MadeAct}
use Rattle.leaf_cell.proofs.InsideFacts.{parent_filled}
use Rattle.leaf_cell.proofs.WholeCells.{whole-inside}
use Rattle.leaf_cell.proofs.TouchCourses.{touched-present}
use Rattle.leaf_cell.proofs.TouchActs.{takes-by, meant-unjoined}
use Rattle.leaf_cell.proofs.PresentPage.{Meant, meant, names_alike, same_named, page_there}
use Rattle.leaf_cell.proofs.SameShare.{share-alike}
use Rattle.leaf_cell.proofs.HeldShare.{held-share}
use Rattle.leaf_cell.proofs.DropMade.{answers-returned, inside-dropped, bytes-kept}

-- what a snapshot names once some have lost the cell it named before
named-lost : (test : Kept → Bool) (at page version : ℕ) (kept : List Kept) → IsNamedBy page version (with_leaf test (Lost at) kept) → IsNamedBy page version kept
named-lost test at page version [] named = named
named-lost test at page version (it ∷ others) (inl here) = inl (by (test it) here)
  where
    by : (b : Bool) → (is_lost (cond b (record it { leaf = Lost at }) it).leaf ≡ false) × (version_at (cond b (record it { leaf = Lost at }) it).versions page ≡ Some version)
        → (is_lost it.leaf ≡ false) × (version_at it.versions page ≡ Some version)
    by true h = absurd (false≢true (sym h.0))
    by false h = h
named-lost test at page version (it ∷ others) (inr later) = inr (named-lost test at page version others later)

pub live-lost : (test : Kept → Bool) (at page version : ℕ) (cell : CellLeaves) → IsLive (with_leaf_where test (Lost at) cell) page version → IsLive cell page version
live-lost test at page version cell (inl there) = inl there
live-lost test at page version cell (inr named) = inr (named-lost test at page version cell.kept named)

module _ (name : ℕ → ℕ → ℕ) (view meant : CellLeaves) (alike : IsRenaming name view meant) (page version : ℕ) (live : IsLive meant page version) (at : ℕ) where
  -- those that name the version under its new name have lost the cell
  kept_lost : (its others : List Kept) → AreKeptAlike name its others → ((w : ℕ) → IsNamedBy page w others → IsLive meant page w)
      → AreKeptAlike name (with_leaf (names_version page (name page version)) (Lost at) its) (with_leaf (names_version page version) (Lost at) others)
  kept_lost [] [] same lives = tt
  kept_lost [] (o ∷ os) same lives = absurd same
  kept_lost (i ∷ is) [] same lives = absurd same
  kept_lost (i ∷ is) (o ∷ os) same lives = (
    subst (λ b. IsKeptAlike name (cond b (record i { leaf = Lost at }) i) (cond (names_version page version o) (record o { leaf = Lost at }) o))
        (sym (names_alike name view meant alike page version live i o same.0 (λ w h. lives w (inl h)))) (by (names_version page version o)),
    kept_lost is os same.1 (λ w h. lives w (inr h)),
  )
    where
      by : (b : Bool) → IsKeptAlike name (cond b (record i { leaf = Lost at }) i) (cond b (record o { leaf = Lost at }) o)
      by true = record { number = same.0.number; mode = same.0.mode; leaf = refl; versions = λ unlost. absurd (false≢true (sym unlost)) }
      by false = same.0

-- which pages a lost leaf names does not matter
forgets : (name : ℕ → ℕ → ℕ) (kept : Kept) (versions : Versions) (at : ℕ) (meant : List Kept) → AreKeptAlike name (record kept { leaf = Lost at } ∷ []) meant
    → AreKeptAlike name (record { number = kept.number; mode = kept.mode; versions = versions; leaf = Lost at } ∷ []) meant
forgets name kept versions at [] alike = absurd alike
forgets name kept versions at (it ∷ others) alike = (
  record { number = alike.0.number; mode = alike.0.mode; leaf = alike.0.leaf; versions = λ unlost. absurd (false≢true (sym (ap is_lost alike.0.leaf ∙ unlost))) },
  alike.1,
)

-- bytes are there where the frame is
pub some_bytes : (o : Option FrameView) → is_some (option_map (λ frame. frame.bytes) o) ≡ is_some o
some_bytes None = refl
some_bytes (Some frame) = refl

or-false : (a : Bool) → (a || false) ≡ a
or-false true = refl
or-false false = refl

module _ {State : Type 0} (goes : State → Deal → State → Type 0) (from to : State) (parent : Option TableView) (it : Snapshot) (frames new : List (Option FrameView)) (at : ℕ)
    (inside : AreInside parent (Some it) frames)
    (released : IsLeafReleased goes from to (snapshot_places no_versions it.leaf) (table_places parent) (own_if (leaf_value it.leaf)) frames new) where
  -- the order of a cell that a snapshot has lost
  pub inside-lost : AreInside parent (Some (lost_at at it)) new
  inside-lost =
      let gone : AreInside parent None new = inside-dropped goes from to parent it frames new (own_if (leaf_value it.leaf)) inside released in
      record {
        room = gone.room;
        parent_home = gone.parent_home;
        own_home = gone.own_home;
        named = gone.named;
        used = gone.used;
        parent_size = gone.parent_size;
        own_size = gone.own_size;
        writable = gone.writable;
        joined = λ is. absurd (false≢true is);
      }

  -- as many frames go back as the share shrinks by
  pub less : share (cell_value parent (Some it) frames).leaves ≡ share (cell_value parent (Some (lost_at at it)) new).leaves + released.count
  less = omega (
    arith,
    released.taken,
    sym (held-share parent (Some it) frames inside),
    sym (held-share parent (Some (lost_at at it)) new inside-lost),
    sum_by-cons (λ k. cond (is_own k.leaf) 1 0) (kept_value no_versions it) [],
    sum_by-cons (λ k. cond (is_own k.leaf) 1 0) (kept_value no_versions (lost_at at it)) [],
  )

  -- whatever snapshot is found has lost the cell
  pub only-lost : (n : ℕ) (kept : Kept) → kept_by (cell_value parent (Some (lost_at at it)) new).leaves.kept n ≡ Some kept → is_lost kept.leaf ≡ true
  only-lost n kept found = by (it.number == n) found
    where
      by : (b : Bool) → cond b (Some (kept_value (table_places parent) (lost_at at it))) None ≡ Some kept → is_lost kept.leaf ≡ true
      by true e = ap (λ o. is_lost (unwrap_or o kept).leaf) (sym e)
      by false e = absurd (false≢true (ap is_some e))

  module _ (page place : ℕ) (small : page < 512) (there : version_at (table_places parent) page ≡ Some place)
      (named : is_named (cell_value parent (Some it) frames).leaves page place ≡ true) (unjoined : AreUnjoined (kept_values (table_places parent) (Some it))) where
    abbrev before : CellView
    before = cell_value parent (Some it) frames

    abbrev after : CellView
    after = cell_value parent (Some (lost_at at it)) new

    abbrev lost_deals : List Deal
    lost_deals = Denied want.Page at ∷ replicate released.count Returned

    -- the snapshot names the page
    it_names : names_version page place (kept_value (table_places parent) it) ≡ true
    it_names = sym (or-false (names_version page place (kept_value (table_places parent) it))) ∙ named

    module _ (account : CellAccount) (stands : StandsFor before account) where
      abbrev version : ℕ
      version = (meant before page place small there unjoined account stands).version

      abbrev leaves_then : CellLeaves
      leaves_then = with_leaf_where (names_version page version) (Lost at) account.state.leaves

      renaming-lost : IsRenaming stands.name after.leaves leaves_then
      renaming-lost =
          let found : Meant before account stands page place = meant before page place small there unjoined account stands in
          let both : AreKeptAlike stands.name (with_leaf (names_version page (stands.name page version)) (Lost at) before.leaves.kept) (with_leaf (names_version page version) (Lost at) account.state.leaves.kept) =
          kept_lost stands.name before.leaves account.state.leaves stands.leaves page version (inl found.there) at before.leaves.kept account.state.leaves.kept stands.leaves.kept (λ w h. inr h) in
          record {
            parent = stands.leaves.parent;
            kept = forgets stands.name (kept_value (table_places parent) it) no_versions at leaves_then.kept
                (subst (λ b. AreKeptAlike stands.name (cond b (record (kept_value (table_places parent) it) { leaf = Lost at }) (kept_value (table_places parent) it) ∷ []) leaves_then.kept)
                (ap (λ p. names_version page p (kept_value (table_places parent) it)) found.named ∙ it_names) both);
            apart = λ p a b la lb. stands.leaves.apart p a b (live-lost (names_version page version) at p a account.state.leaves la) (live-lost (names_version page version) at p b account.state.leaves lb);
          }

      shrunk : share account.state.leaves - share leaves_then ≡ released.count
      shrunk = omega (arith, less, share-alike stands.name before.leaves account.state.leaves stands.leaves, share-alike stands.name after.leaves leaves_then renaming-lost)

      -- the page is present in the account
      page_was : is_some (get account.state.pages page) ≡ true
      page_was = ap is_some (page_there before page place small there unjoined account stands (bytes_in frames (Some place)) refl)
          ∙ some_bytes (slice_index_or frames place None) ∙ parent_filled parent (Some it) frames inside page place there

      takes-lost : TakesAccount (Touch page) before after lost_deals None account
      takes-lost =
          let course : Course = opening_course account.state.leaves (opening_requests account.made (No at ∷ [])) in
          takes-by (Touch page) (λ cell other it. it) before after lost_deals None account (page_copy_answered page version (No at) (asking want.Page course))
          (ap (λ answers. course_touched page (opening_course account.state.leaves (opening_requests account.made (No at ∷ answers)))) (answers-returned released.count)
          ∙ touched-present page course (meant-unjoined before account stands unjoined) version (meant before page place small there unjoined account stands).there
          ∙ ap (λ b. cond b (page_copy_answered page version (coming_answer course) (asking want.Page course)) course) (same_named before page place small there unjoined account stands ∙ named))
          (record {
            name = stands.name;
            leaves = renaming-lost;
            made = λ p v live. omega (arith, stands.made p v (live-lost (names_version page version) at p v account.state.leaves live));
            pages = λ p below. bytes-kept frames new (version_at (table_places parent) p) (λ q is. released.kept p q is) ∙ stands.pages p below
                ∙ sym (ap (λ m. get m p) (with_page_there account.state.pages page page_was));
            snapshots = λ n p kept found unlost below. absurd (false≢true (sym unlost ∙ only-lost n kept found));
            whole = whole-inside parent (Some (lost_at at it)) new inside-lost;
          })
          (ap (λ k. Denied want.Page at ∷ replicate k Returned) shrunk) refl

    pub made-lost : (start : State) → goes start (Denied want.Page at) from → MadeAct goes start to (Touch page) before after None
    made-lost start denied = record {
      deals = lost_deals;
      led = (from, (denied, released.led));
      follows = λ account stands. takes-lost account stands;
    }
