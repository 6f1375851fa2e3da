-- What a clear of some pages made.
use Rattle.std.proofs.Common.{◌≡◌, ℕ, ◌+◌, ◌-◌, ◌<◌, ◌≤◌, List, [], length, replicate, Option, Some, None, refl, sym, ◌∙◌, ap, subst, arith, inl, inr, ◌⊎◌}
use Rattle.std.specs.Prelude.{is_some, IsSome, Bool, true, false, not, nat_eq, cond, unwrap_or, ◌==◌, slice_index_or, count_by}
use Rattle.std.specs.Option.{option_eq}
use Rattle.std.specs.FinMap.{get, retain_keys, get-retain_keys}
use Rattle.std.proofs.lemmas.Bool.{false≢true, and_parts}
use Rattle.std.proofs.lemmas.List.{length-replicate}
use Rattle.std.proofs.lemmas.Map.Lookups.{exact_unsigned}
use Rattle.vm_base.specs.Deals.{Deal, Returned, LeadsAlong}
use Rattle.vm_base.specs.Frames.{FrameView}
use Rattle.vm_base.specs.FlatMemory.{PageMap}
use Rattle.vm_base.specs.FlatStep.{is_beyond}
use Rattle.vm_base.proofs.DealLemmas.{LeadsAlong-append}
use Rattle.kernel_meaning.specs.Requests.{opening_requests}
use Rattle.kernel_meaning.specs.Leaves.{Versions, no_versions, version_at, without_versions, has_pages, has_present, is_lost, is_joined, is_own, Kept, CellLeaves, kept_by, share, parent_leaves, own_leaves}
use Rattle.kernel_meaning.specs.CellActs.{Course, opening_course, before_change, pages_cleared, cleared}
use Rattle.kernel_meaning.specs.CellAccount.{Clear, CellAccount}
use Rattle.leaf_cell.specs.declared.snapshot.Snapshot.{Snapshot}
use Rattle.leaf_cell.specs.declared.snapshot.SnapshotLeaf.{SnapshotLeaf}
use Rattle.leaf_cell.specs.declared.snapshot.SnapshotLeaf.TheVariants as code
use Rattle.leaf_cell.specs.Places.{TableView, without_entries}
use Rattle.leaf_cell.specs.Writable.{none_writable, writable_at, without_writable}
use Rattle.leaf_cell.specs.CellView.{CellView, AreUnjoined, held_of, bytes_in, parent_page}
use Rattle.leaf_cell.specs.Clearing.{gone_if, IsLeft}
use Rattle.leaf_cell.specs.Inside.{AreInside, IsPlaceOf, table_of, table_places, table_writable, own_places, is_apart, is_joined_here, snapshot_places, leaf_value, kept_value, kept_values, cell_value}
use Rattle.leaf_cell.specs.Releasing.{Releasing}
use Rattle.leaf_cell.specs.Renaming.{AreKeptAlike, IsNamedBy, IsLive, IsRenaming}
use Rattle.leaf_cell.specs.Standing.{StandsFor, TakesAccount, MadeAct}
use Rattle.leaf_cell.specs.Touching.{IsCleared}
use Rattle.leaf_cell.proofs.NewCell.{none_is_not_some}
use Rattle.leaf_cell.proofs.AbsentPages.{has_present-there, has_present-never}
use Rattle.leaf_cell.proofs.Renamed.{length-renamed, same_versions}
use Rattle.leaf_cell.proofs.TouchCourses.{before_change-none}
use Rattle.leaf_cell.proofs.TouchActs.{takes-by, meant-unjoined}
use Rattle.leaf_cell.proofs.TouchMade.{kept-unjoined, old-leaf}
use Rattle.leaf_cell.proofs.SameShare.{share-alike}
use Rattle.leaf_cell.proofs.HeldShare.{held-share}
use Rattle.leaf_cell.proofs.WholeCells.{whole-inside}
use Rattle.leaf_cell.proofs.Releases.{replicate-both}
use Rattle.leaf_cell.proofs.DropMade.{answers-returned, names-or, bytes-kept}
use Rattle.leaf_cell.proofs.SameReads.{present-stands}
use Rattle.leaf_cell.proofs.WritablePages.{beyond-within, beyond-outside, never-writable, writable-below, length-with_writable, with_writable-is, with_writable-same, writable_at-within, writable_at-outside, apart-same, absent-apart}
use Rattle.leaf_cell.proofs.Without.{in-or-out, length-without, without-within, without-outside, renamed-without, none-left, table-none}

-- what a snapshot names that has neither lost the cell nor joined it is in a table of its own
own_versions : (places : Versions) (leaf : SnapshotLeaf) → is_joined (leaf_value leaf) ≡ false → is_lost (leaf_value leaf) ≡ false → snapshot_places places leaf ≡ snapshot_places no_versions leaf
own_versions places (code.Own table) joined lost = refl
own_versions places code.Joined joined lost = absurd (false≢true (sym joined))
own_versions places (code.Lost at) joined lost = refl

found-own : (places : Versions) (snapshot : Option Snapshot) (n : ℕ) (kept : Kept) → AreUnjoined (kept_values places snapshot) → kept_by (kept_values places snapshot) n ≡ Some kept → is_lost kept.leaf ≡ false
    → kept.versions ≡ own_places snapshot
found-own places None n kept unjoined found unlost = absurd (false≢true (ap is_some found))
found-own places (Some it) n kept unjoined found unlost = by (it.number == n) found
  where
    by : (b : Bool) → cond b (Some (kept_value places it)) None ≡ Some kept → kept.versions ≡ own_places (Some it)
    by true e =
        let same : kept_value places it ≡ kept = ap (λ o. unwrap_or o kept) e in
        ap (λ k. k.versions) (sym same) ∙ own_versions places it.leaf unjoined.0 (ap (λ k. is_lost k.leaf) same ∙ unlost)
    by false e = absurd (false≢true (ap is_some e))

-- where no leaf is joined the snapshot's is not
never-joined : (places : Versions) (snapshot : Option Snapshot) → AreUnjoined (kept_values places snapshot) → is_joined_here snapshot ≡ false
never-joined places None unjoined = refl
never-joined places (Some it) unjoined = unjoined.0

get-beyond : (pages : PageMap) (first n p : ℕ) → get (retain_keys pages (is_beyond first n)) p ≡ cond (is_beyond first n p) (get pages p) None
get-beyond pages first n p = get-retain_keys pages (is_beyond first n) p (λ x same. ap (is_beyond first n) (sym (exact_unsigned p x same)))

one-table : (b : Bool) → ◌≡◌ {A = ℕ} (cond b 1 0 + cond b 0 1) 1
one-table true = refl
one-table false = refl

module _ {State : Type 0} (goes : State → Deal → State → Type 0) (from middle to : State) (parent : Option TableView) (snapshot : Option Snapshot) (frames new : List (Option FrameView)) (next : Option TableView) (first n : ℕ)
    (inside : AreInside parent snapshot frames) (there : is_some parent ≡ true) (fits : first + n ≤ 512)
    (released : Releasing goes from middle (table_places parent) (own_places snapshot) frames new first (first + n)) (left : IsLeft goes middle to (table_of parent) first n next)
    (unjoined : AreUnjoined (kept_values (table_places parent) snapshot)) where
  abbrev places : Versions
  places = table_places parent

  abbrev before : CellView
  before = cell_value parent snapshot frames

  abbrev after : CellView
  after = cell_value next snapshot new

  abbrev rest : Versions
  rest = without_versions places first n

  fits-table : first + n ≤ length places
  fits-table = omega (arith, fits, inside.parent_size)

  next_places : table_places next ≡ rest
  next_places = ap table_places left.left ∙ by (has_pages rest) refl
    where
      by : (b : Bool) → has_pages rest ≡ b → table_places (cond b (Some (without_entries (table_of parent) first n)) None) ≡ rest
      by true is = refl
      by false is = table-none rest (length-without places first n fits-table ∙ inside.parent_size) is

  next-within : (p : ℕ) → first ≤ p → p < first + n → version_at (table_places next) p ≡ None
  next-within p above below = ap (λ vs. version_at vs p) next_places ∙ without-within places first n fits-table p above below

  next-outside : (p : ℕ) → (p < first) ⊎ (first + n ≤ p) → version_at (table_places next) p ≡ version_at places p
  next-outside p outside = ap (λ vs. version_at vs p) next_places ∙ without-outside places first n fits-table p outside

  -- a page that is left was there, and its frame is where it was
  is_left : (p q : ℕ) → version_at (table_places next) p ≡ Some q → ((p < first) ⊎ (first + n ≤ p)) × (version_at places p ≡ Some q)
  is_left p q named = elim (in-or-out first n p) [
    | inl within ↦ none_is_not_some (version_at (table_places next) p) q (next-within p within.0 within.1) named
    | inr outside ↦ (outside, sym (next-outside p outside) ∙ named)
  ]

  same_frame : (p q : ℕ) → p < 512 → (p < first) ⊎ (first + n ≤ p) → version_at places p ≡ Some q → slice_index_or new q None ≡ slice_index_or frames q None
  same_frame p q small outside named = released.apart p q small (inside.parent_home p q small named).0 outside

  still_named : (p q : ℕ) → p < 512 → IsPlaceOf p q → IsSome (slice_index_or new q None) → (version_at places p ≡ Some q) ⊎ (version_at (own_places snapshot) p ≡ Some q)
      → (version_at (table_places next) p ≡ Some q) ⊎ (version_at (own_places snapshot) p ≡ Some q)
  still_named p q small home there (inr own) = inr own
  still_named p q small home there (inl named) = elim (in-or-out first n p) [
    | inl within ↦ elim (names-or (own_places snapshot) p q) [
      | inl own ↦ inr own
      | inr unnamed ↦ absurd (false≢true (sym (ap is_some (released.gone p q within.0 within.1 named unnamed)) ∙ there))
    ]
    | inr outside ↦ inl (next-outside p outside ∙ named)
  ]

  -- the pages of the range may not be written to; nor may others, where the table is gone
  pub next_writable : table_writable next ≡ without_writable first n (table_writable parent)
  next_writable = ap table_writable left.left ∙ by (has_pages rest) refl
    where
      is_there : (p : ℕ) → writable_at (table_writable parent) p ≡ true → IsSome (version_at places p)
      is_there p may = (and_parts (is_some (version_at places p)) (not (option_eq nat_eq (version_at (own_places snapshot) p) (version_at places p))) (inside.writable.apart p may)).0

      others : has_pages rest ≡ false → (p : ℕ) → p < 512 → (p < first) ⊎ (first + n ≤ p) → (b : Bool) → writable_at (table_writable parent) p ≡ b → b ≡ false
      others none p small outside true is = absurd (false≢true (sym (ap is_some (sym (without-outside places first n fits-table p outside) ∙ none-left rest none p)) ∙ is_there p is))
      others none p small outside false is = refl

      by : (b : Bool) → has_pages rest ≡ b → table_writable (cond b (Some (without_entries (table_of parent) first n)) None) ≡ without_writable first n (table_writable parent)
      by true is = refl
      by false is = with_writable-is (λ page. false) first n (table_writable parent) none_writable (length-replicate {A = Bool} 512 false) (λ p small.
          never-writable p ∙ elim (in-or-out first n p) [
            | inl within ↦ sym (ap (λ b. cond b (writable_at (table_writable parent) p) false) (beyond-within first n p within.0 within.1))
            | inr outside ↦ sym (ap (λ b. cond b (writable_at (table_writable parent) p) false) (beyond-outside first n p outside)
                ∙ others is p small outside (writable_at (table_writable parent) p) refl)
          ])

  next_apart : (p : ℕ) → writable_at (table_writable next) p ≡ true → is_apart (own_places snapshot) (table_places next) p ≡ true
  next_apart p may =
      let small : p < 512 = writable-below (table_writable next) p (ap length next_writable ∙ length-with_writable (λ page. false) first n (table_writable parent)) may in
      let then : writable_at (without_writable first n (table_writable parent)) p ≡ true = ap (λ ws. writable_at ws p) (sym next_writable) ∙ may in
      elim (in-or-out first n p) [
        | inl within ↦ absurd (false≢true (sym (writable_at-within (λ page. false) first n (table_writable parent) p small within.0 within.1) ∙ then))
        | inr outside ↦ apart-same (own_places snapshot) (table_places next) places p (next-outside p outside)
            ∙ inside.writable.apart p (sym (writable_at-outside (λ page. false) first n (table_writable parent) p small outside) ∙ then)
      ]

  -- the order of the cell afterwards
  pub inside-cleared : AreInside next snapshot new
  inside-cleared = record {
    room = released.room ∙ inside.room;
    parent_home = λ p q small named.
        let was : ((p < first) ⊎ (first + n ≤ p)) × (version_at places p ≡ Some q) = is_left p q named in
        ((inside.parent_home p q small was.1).0, ap is_some (same_frame p q small was.0 was.1) ∙ (inside.parent_home p q small was.1).1);
    own_home = λ p q small named. ((inside.own_home p q small named).0, ap is_some (released.kept p q named) ∙ (inside.own_home p q small named).1);
    named = λ p q small home there. elim (released.each q) [
      | inl same ↦ still_named p q small home there (inside.named p q small home (ap is_some (sym same) ∙ there))
      | inr none ↦ absurd (false≢true (sym (ap is_some none) ∙ there))
    ];
    used = λ table is. by table (has_pages rest) refl (sym left.left ∙ is);
    parent_size = ap length next_places ∙ length-without places first n fits-table ∙ inside.parent_size;
    own_size = inside.own_size;
    writable = record { size = ap length next_writable ∙ length-with_writable (λ page. false) first n (table_writable parent); apart = next_apart };
    joined = λ is. absurd (false≢true (sym (never-joined places snapshot unjoined) ∙ is));
  }
    where
      by : (table : TableView) (b : Bool) → has_pages rest ≡ b → cond b (Some (without_entries (table_of parent) first n)) None ≡ Some table → has_pages table.places ≡ true
      by table true is e = ap (λ o. has_pages (unwrap_or o table).places) (sym e) ∙ is
      by table false is e = absurd (false≢true (ap is_some e))

  -- a page outside the range reads as before
  reads : (p : ℕ) → p < 512 → (p < first) ⊎ (first + n ≤ p) → parent_page after p ≡ parent_page before p
  reads p small outside = ap (bytes_in new) (next-outside p outside) ∙ bytes-kept frames new (version_at places p) (λ q named. same_frame p q small outside named)

  table_counts : ◌≡◌ {A = ℕ} (cond (is_some parent) 1 0) 1
  table_counts = ap (λ b. cond b 1 0) there

  less : share before.leaves ≡ share after.leaves + (released.count + gone_if next)
  less = omega (arith, released.taken, sym (held-share parent snapshot frames inside), sym (held-share next snapshot new inside-cleared), one-table (is_some next), table_counts)

  -- the frames that the cell holds afterwards
  pub held-cleared : (out between then : ℕ) → between + count_by is_some frames ≡ out + count_by is_some new → then + gone_if next ≡ between
      → then + held_of before ≡ out + held_of after
  held-cleared out between then pages table =
      let old : parent_leaves before.leaves ≡ 1 = ap (λ b. cond b 1 0) (old-leaf parent snapshot frames inside) ∙ table_counts in
      let now : ◌≡◌ {A = ℕ} (parent_leaves after.leaves) (cond (is_some next) 1 0) = ap (λ b. cond b 1 0) (old-leaf next snapshot new inside-cleared) in
      let own : own_leaves after.leaves ≡ own_leaves before.leaves = ap (count_by (λ it. is_own it.leaf)) (kept-unjoined places (table_places next) snapshot unjoined) in
      omega (arith, pages, table, old, now, own, one-table (is_some next))

  module _ (present : has_present places first n ≡ true) where
    same_kept : after.leaves.kept ≡ before.leaves.kept
    same_kept = kept-unjoined places (table_places next) snapshot unjoined

    pub is-cleared : IsCleared first n before after
    is-cleared = record {
      leaves = λ i. record { parent = next_places i; kept = same_kept i };
      reads = reads;
      still = λ p outside alone. record {
        present = ap is_some (next-outside p outside) ∙ alone.present;
        unnamed = λ version is named. alone.unnamed version (sym (next-outside p outside) ∙ is) (subst (IsNamedBy p version) same_kept named);
      };
    }

    abbrev clear_deals : List Deal
    clear_deals = replicate (released.count + gone_if next) Returned

    module _ (account : CellAccount) (stands : StandsFor before account) where
      abbrev leaves_then : CellLeaves
      leaves_then = record account.state.leaves { parent = without_versions account.state.leaves.parent first n }

      fits-meant : first + n ≤ length account.state.leaves.parent
      fits-meant = omega (arith, fits-table, ap length stands.leaves.parent, length-renamed stands.name account.state.leaves.parent)

      lived : (p v : ℕ) → IsLive leaves_then p v → IsLive account.state.leaves p v
      lived p v (inr named) = inr named
      lived p v (inl there) = elim (in-or-out first n p) [
        | inl within ↦ none_is_not_some (version_at leaves_then.parent p) v (without-within account.state.leaves.parent first n fits-meant p within.0 within.1) there
        | inr outside ↦ inl (sym (without-outside account.state.leaves.parent first n fits-meant p outside) ∙ there)
      ]

      renaming : IsRenaming stands.name after.leaves leaves_then
      renaming = record {
        parent = next_places ∙ ap (λ vs. without_versions vs first n) stands.leaves.parent ∙ renamed-without stands.name account.state.leaves.parent first n fits-meant;
        kept = subst (λ kept. AreKeptAlike stands.name kept account.state.leaves.kept) (sym same_kept) stands.leaves.kept;
        apart = λ p a b la lb. stands.leaves.apart p a b (lived p a la) (lived p b lb);
      }

      shrunk : share account.state.leaves - share leaves_then ≡ released.count + gone_if next
      shrunk = omega (arith, less, share-alike stands.name before.leaves account.state.leaves stands.leaves, share-alike stands.name after.leaves leaves_then renaming)

      page_then : (p : ℕ) → p < 512 → parent_page after p ≡ get (retain_keys account.state.pages (is_beyond first n)) p
      page_then p small = elim (in-or-out first n p) [
        | inl within ↦ ap (bytes_in new) (next-within p within.0 within.1)
            ∙ sym (get-beyond account.state.pages first n p ∙ ap (λ b. cond b (get account.state.pages p) None) (beyond-within first n p within.0 within.1))
        | inr outside ↦ reads p small outside ∙ stands.pages p small
            ∙ sym (get-beyond account.state.pages first n p ∙ ap (λ b. cond b (get account.state.pages p) None) (beyond-outside first n p outside))
      ]

      takes-cleared : TakesAccount (Clear first n) before after clear_deals None account
      takes-cleared =
          let course : Course = opening_course account.state.leaves (opening_requests account.made []) in
          takes-by (Clear first n) (λ cell other it. it) before after clear_deals None account (pages_cleared first n course)
          (ap (λ answers. cleared first n (opening_course account.state.leaves (opening_requests account.made answers))) (answers-returned (released.count + gone_if next))
          ∙ ap (λ b. cond b (pages_cleared first n (before_change course)) course) (sym (present-stands before account stands first n) ∙ present)
          ∙ ap (pages_cleared first n) (before_change-none course (meant-unjoined before account stands unjoined)))
          (record {
            name = stands.name;
            leaves = renaming;
            made = λ p v live. stands.made p v (lived p v live);
            pages = page_then;
            snapshots = λ number p kept found unlost small.
                let was : kept_by before.leaves.kept number ≡ Some kept = ap (λ all. kept_by all number) (sym same_kept) ∙ found in
                bytes-kept frames new (version_at kept.versions p) (λ q is. released.kept p q (ap (λ vs. version_at vs p) (sym (found-own places snapshot number kept unjoined was unlost)) ∙ is))
                ∙ stands.snapshots number p kept was unlost small;
            whole = whole-inside next snapshot new inside-cleared;
          })
          (ap (λ k. replicate k Returned) shrunk) refl

    pub made-cleared : MadeAct goes from to (Clear first n) before after None
    made-cleared = record {
      deals = clear_deals;
      led = subst (λ deals. LeadsAlong goes from deals to) (replicate-both Returned released.count (gone_if next))
          (LeadsAlong-append goes (replicate released.count Returned) (replicate (gone_if next) Returned) from middle to released.led left.led);
      follows = λ account stands. takes-cleared account stands;
    }

-- where a range has a page there is a table
pub table-there : (parent : Option TableView) (first n : ℕ) → has_present (table_places parent) first n ≡ true → is_some parent ≡ true
table-there None first n present = absurd (false≢true (sym (has_present-never first n) ∙ present))
table-there (Some table) first n present = refl

-- and a frame for it
pub table-counted : (parent : Option TableView) (snapshot : Option Snapshot) (frames : List (Option FrameView)) → AreInside parent snapshot frames → is_some parent ≡ true → (out : ℕ)
    → held_of (cell_value parent snapshot frames) ≤ out → count_by is_some frames + 1 ≤ out
table-counted parent snapshot frames inside there out held =
    let one : parent_leaves (cell_value parent snapshot frames).leaves ≡ 1 = ap (λ b. cond b 1 0) (old-leaf parent snapshot frames inside ∙ there) in
    omega (arith, held, one)

-- where a range has no page, each page of it is absent
absent-in : (versions : Versions) (first n p : ℕ) → has_present versions first n ≡ false → first ≤ p → p < first + n → version_at versions p ≡ None
absent-in versions first n p none above below = by (version_at versions p) refl
  where
    by : (o : Option ℕ) → version_at versions p ≡ o → o ≡ None
    by None is = refl
    by (Some q) is =
        let at : first + (p - first) ≡ p = omega arith in
        absurd (false≢true (sym none ∙ has_present-there versions first (p - first) n (omega arith) (ap (λ i. is_some (version_at versions i)) at ∙ ap is_some is)))

-- and may not be written to
pub nothing-writable : (parent : Option TableView) (snapshot : Option Snapshot) (frames : List (Option FrameView)) → AreInside parent snapshot frames → (first n : ℕ) → has_present (table_places parent) first n ≡ false
    → table_writable parent ≡ without_writable first n (table_writable parent)
nothing-writable parent snapshot frames inside first n none = with_writable-same (λ page. false) first n (table_writable parent) inside.writable.size (λ p small above below.
    sym (by p (absent-in (table_places parent) first n p none above below) (writable_at (table_writable parent) p) refl))
  where
    by : (p : ℕ) → version_at (table_places parent) p ≡ None → (b : Bool) → writable_at (table_writable parent) p ≡ b → b ≡ false
    by p absent true is = absurd (false≢true (sym (absent-apart (own_places snapshot) (table_places parent) p absent) ∙ inside.writable.apart p is))
    by p absent false is = refl

-- no page of the range is there: nothing is asked for, and nothing goes
pub made-nothing : {State : Type 0} (goes : State → Deal → State → Type 0) (state : State) (view : CellView) (first n : ℕ) → has_present view.leaves.parent first n ≡ false → MadeAct goes state state (Clear first n) view view None
made-nothing {State} goes state view first n none = record {
  deals = [];
  led = refl;
  follows = λ account stands.
      let course : Course = opening_course account.state.leaves (opening_requests account.made []) in
      takes-by (Clear first n) (λ cell other it. it) view view [] None account course
      (ap (λ b. cond b (pages_cleared first n (before_change course)) course) (sym (present-stands view account stands first n) ∙ none))
      (record {
        name = stands.name;
        leaves = stands.leaves;
        made = stands.made;
        pages = λ p small. page-nothing account stands p small;
        snapshots = stands.snapshots;
        whole = stands.whole;
      })
      refl refl;
}
  where
    page-nothing : (account : CellAccount) (stands : StandsFor view account) (p : ℕ) → p < 512 → parent_page view p ≡ get (retain_keys account.state.pages (is_beyond first n)) p
    page-nothing account stands p small = elim (in-or-out first n p) [
      | inl within ↦ ap (bytes_in view.frames) (absent-in view.leaves.parent first n p none within.0 within.1)
          ∙ sym (get-beyond account.state.pages first n p ∙ ap (λ b. cond b (get account.state.pages p) None) (beyond-within first n p within.0 within.1))
      | inr outside ↦ stands.pages p small
          ∙ sym (get-beyond account.state.pages first n p ∙ ap (λ b. cond b (get account.state.pages p) None) (beyond-outside first n p outside))
    ]

-- and the cell has those pages no less than it had
pub nothing-cleared : (view : CellView) (first n : ℕ) → has_present view.leaves.parent first n ≡ false → first + n ≤ length view.leaves.parent → IsCleared first n view view
nothing-cleared view first n none fits = record {
  leaves = λ i. record { parent = same i; kept = view.leaves.kept };
  reads = λ p small outside. refl;
  still = λ p outside alone. alone;
}
  where
    same : view.leaves.parent ≡ without_versions view.leaves.parent first n
    same = same_versions view.leaves.parent (without_versions view.leaves.parent first n) (sym (length-without view.leaves.parent first n fits)) (λ p small. elim (in-or-out first n p) [
      | inl within ↦ absent-in view.leaves.parent first n p none within.0 within.1 ∙ sym (without-within view.leaves.parent first n fits p within.0 within.1)
      | inr outside ↦ sym (without-outside view.leaves.parent first n fits p outside)
    ])
