-- What is read off a list of views, where each owner has one slot alone: at a cell it is what the cell's slot shows, and nothing
-- where no slot is the cell's.
use Rattle.std.proofs.Common.{◌≡◌, ℕ, zero, suc, ◌+◌, ◌*◌, ◌%◌, ◌<◌, List, [], ◌∷◌, cond, eqb, Option, Some, None, refl, sym, ◌∙◌, ap, subst, arith, inl, inr, ◌⊎◌}
use Rattle.std.specs.Prelude.{Bool, true, false, not, ◌&&◌, ◌||◌, IsSome, is_some, unwrap_or, nat_eq, filter, count_by}
use Rattle.std.specs.Ordering.{nat_cmp, eq_by_cmp}
use Rattle.std.specs.Cmp.{nat_cmp_total, unsigned_tied}
use Rattle.std.specs.Option.{option_eq, option_and_then}
use Rattle.std.specs.List.{slice_get, list_any}
use Rattle.std.specs.FinMap.{get, keys, get-empty}
use Rattle.std.specs.FinSet as set
use Rattle.std.proofs.lemmas.Bool.{cases_eq, cond-true, cond-false, eq-eqb, ne_eqb, eqb-true, false≢true, false_from_ne_true, not_from_false, not-true, and_parts, and_from, and_left, or_cases, or_left, or_right}
use Rattle.std.proofs.lemmas.List.Sums.{sum_by-cons}
use Rattle.std.proofs.lemmas.Option.{same_Some}
use Rattle.vm_base.specs.Places.{cell_of}
use Rattle.vm_base.specs.FlatMemory.{Area, PageMap, area_of}
use Rattle.vm_base.specs.FlatStep.{is_read_only}
use Rattle.vm_base.specs.MemoryState.{Numbers}
use Rattle.vm_base.specs.ProcessState.{Found}
use Rattle.vm_base.proofs.NumberedMaps.{get_inserted_here, get_inserted_apart}
use Rattle.kernel_meaning.specs.Leaves.{CellLeaves, Kept, Leaf, Own, Joined, Lost, version_at, is_lost, loss_at, kept_by, IsNamedBy, IsAlone}
use Rattle.page_tables.specs.SlotViews.{SlotView, owner_in, with_some, with_read_pages, with_owned_pages, pages_in, with_owner, used_in, is_named_by, is_unnamed, is_alone_at, is_alone_in, ready_in, lost_there, with_leaf, with_lost, lost_in}
use Rattle.vm_base.proofs.OwnFrames.{member, member-keys}

-- each owner has one slot alone
abbrev pub AreOnce : List SlotView → Type 0
AreOnce views = (s t c : ℕ) → owner_in views s ≡ Some c → owner_in views t ≡ Some c → s ≡ t

-- no slot is the cell's
abbrev pub LacksOwner : List SlotView → ℕ → Type 0
LacksOwner views c = (s : ℕ) → owner_in views s ≡ Some c → ⊥

once-rest : (view : SlotView) (views : List SlotView) → AreOnce (view ∷ views) → AreOnce views
once-rest view views once s t c here there = let same : suc s ≡ suc t = once (suc s) (suc t) c here there in omega arith

-- the cell of the first slot has none behind it
lacks-rest : (view : SlotView) (views : List SlotView) (c : ℕ) → AreOnce (view ∷ views) → view.owner ≡ Some c → LacksOwner views c
lacks-rest view views c once here s there = let same : zero ≡ suc s = once zero (suc s) c here there in absurd (omega arith)

owner-is : (views : List SlotView) (s c : ℕ) (view : SlotView) → slice_get views s ≡ Some view → view.owner ≡ Some c → owner_in views s ≡ Some c
owner-is views s c view there mine = ap (option_and_then (λ it. it.owner)) there ∙ mine

-- ---- what is read at one cell, slot by slot

module _ {A : Type 0} (c : ℕ) (read : List SlotView → A) (gives : SlotView → A) (none : A) (empty : read [] ≡ none)
    (here : (view : SlotView) (views : List SlotView) → view.owner ≡ Some c → read views ≡ none → read (view ∷ views) ≡ gives view)
    (apart : (view : SlotView) (views : List SlotView) → (view.owner ≡ Some c → ⊥) → read (view ∷ views) ≡ read views) where
  read-lacking : (views : List SlotView) → LacksOwner views c → read views ≡ none
  read-lacking [] lacks = empty
  read-lacking (view ∷ views) lacks = apart view views (lacks zero) ∙ read-lacking views (λ s. lacks (suc s))

  read-owned : (views : List SlotView) → AreOnce views → (s : ℕ) (view : SlotView) → slice_get views s ≡ Some view → view.owner ≡ Some c → read views ≡ gives view
  read-owned [] once s view there mine = absurd (false≢true (ap is_some there))
  read-owned (it ∷ views) once zero view there mine =
      let same : it ≡ view = ap (λ o. unwrap_or o it) there in
      let owned : it.owner ≡ Some c = ap (λ view. view.owner) same ∙ mine in
      here it views owned (read-lacking views (lacks-rest it views c once owned)) ∙ ap gives same
  read-owned (it ∷ views) once (suc s) view there mine =
      apart it views (λ owned. lacks-rest it views c once owned s (owner-is views s c view there mine))
      ∙ read-owned views (once-rest it views once) s view there mine

-- ---- pages

some-here : (pages : PageMap) (k : ℕ) (page : Option (List ℕ)) → get pages k ≡ None → get (with_some pages k page) k ≡ page
some-here pages k None none = none
some-here pages k (Some bytes) none = get_inserted_here pages k bytes k refl

some-apart : (pages : PageMap) (k q : ℕ) (page : Option (List ℕ)) → (q ≡ k → ⊥) → get (with_some pages k page) q ≡ get pages q
some-apart pages k q None apart = refl
some-apart pages k q (Some bytes) apart = get_inserted_apart pages k bytes q apart

-- a page that is none of n that are read
read-apart : (first : ℕ) (read : ℕ → Option (List ℕ)) (n : ℕ) (pages : PageMap) (q : ℕ) → ((m : ℕ) → m < n → q ≡ first + m → ⊥)
    → get (with_read_pages first read n pages) q ≡ get pages q
unfolding with_read_pages
read-apart first read zero pages q apart = refl
read-apart first read (suc n) pages q apart =
    some-apart (with_read_pages first read n pages) (first + n) q (read n) (apart n (omega arith))
    ∙ read-apart first read n pages q (λ m below. apart m (omega arith))

-- a page of n that are read
pub read-here : (first : ℕ) (read : ℕ → Option (List ℕ)) (n : ℕ) (pages : PageMap) (p : ℕ) → p < n → get pages (first + p) ≡ None
    → get (with_read_pages first read n pages) (first + p) ≡ read p
unfolding with_read_pages
read-here first read zero pages p below none = absurd (omega arith)
read-here first read (suc n) pages p below none = elim (cases_eq p n) [
  | inl same ↦
      let before : get (with_read_pages first read n pages) (first + n) ≡ None =
      read-apart first read n pages (first + n) (λ m less e. absurd (omega arith)) ∙ ap (λ m. get pages (first + m)) (sym same) ∙ none in
      ap (λ m. get (with_some (with_read_pages first read n pages) (first + n) (read n)) (first + m)) same
      ∙ some-here (with_read_pages first read n pages) (first + n) (read n) before ∙ ap read (sym same)
  | inr apart ↦
      some-apart (with_read_pages first read n pages) (first + n) (first + p) (read n) (λ e. apart (omega arith))
      ∙ read-here first read n pages p (omega arith) none
]

one-read : (first n q : ℕ) (read : ℕ → Option (List ℕ)) (before : PageMap) (o : Option (List ℕ)) → read n ≡ o
    → IsSome (get (with_some before (first + n) o) q) → IsSome (get before q) ⊎ ((p : ℕ) × ((q ≡ first + p) × IsSome (read p)))
one-read first n q read before None is there = inl there
one-read first n q read before (Some bytes) is there = elim (cases_eq q (first + n)) [
  | inl here ↦ inr (n, (here, ap is_some is))
  | inr apart ↦ inl (ap is_some (sym (get_inserted_apart before (first + n) bytes q apart)) ∙ there)
]

-- a page that is there behind a reading was there before, or was read
pub read-or-old : (first : ℕ) (read : ℕ → Option (List ℕ)) (n : ℕ) (pages : PageMap) (q : ℕ) → IsSome (get (with_read_pages first read n pages) q)
    → IsSome (get pages q) ⊎ ((p : ℕ) × ((q ≡ first + p) × IsSome (read p)))
unfolding with_read_pages
read-or-old first read zero pages q there = inl there
read-or-old first read (suc n) pages q there = elim (one-read first n q read (with_read_pages first read n pages) (read n) refl there) [
  | inl before ↦ read-or-old first read n pages q before
  | inr found ↦ inr found
]

owned-apart : (owner : Option ℕ) (cell pages : PageMap) (c p : ℕ) → p < 512 → (owner ≡ Some c → ⊥) → get (with_owned_pages owner cell pages) (c * 512 + p) ≡ get pages (c * 512 + p)
owned-apart None cell pages c p small apart = refl
owned-apart (Some d) cell pages c p small apart = read-apart (d * 512) (get cell) 512 pages (c * 512 + p) (λ m below e. apart (ap Some (omega arith)))

module _ (c p : ℕ) (small : p < 512) where
  abbrev page_in : List SlotView → Option (List ℕ)
  page_in views = get (pages_in views) (c * 512 + p)

  page-here : (view : SlotView) (views : List SlotView) → view.owner ≡ Some c → page_in views ≡ None → page_in (view ∷ views) ≡ get view.state.pages p
  page-here view views mine none =
      ap (λ owner. get (with_owned_pages owner view.state.pages (pages_in views)) (c * 512 + p)) mine
      ∙ read-here (c * 512) (get view.state.pages) 512 (pages_in views) p small none

  page-apart : (view : SlotView) (views : List SlotView) → (view.owner ≡ Some c → ⊥) → page_in (view ∷ views) ≡ page_in views
  page-apart view views apart = owned-apart view.owner view.state.pages (pages_in views) c p small apart

  pub pages-lacking : (views : List SlotView) → LacksOwner views c → get (pages_in views) (c * 512 + p) ≡ None
  pages-lacking = read-lacking c page_in (λ view. get view.state.pages p) None (get-empty nat_cmp (c * 512 + p)) page-here page-apart

  pub pages-owned : (views : List SlotView) → AreOnce views → (s : ℕ) (view : SlotView) → slice_get views s ≡ Some view → view.owner ≡ Some c → get (pages_in views) (c * 512 + p) ≡ get view.state.pages p
  pages-owned = read-owned c page_in (λ view. get view.state.pages p) None (get-empty nat_cmp (c * 512 + p)) page-here page-apart

-- ---- cells

contains-inserted : (c d : ℕ) (cells : Numbers) → set.contains (set.insert cells d) c ≡ (eqb c d || set.contains cells c)
contains-inserted c d cells = set.contains-insert nat_cmp_total cells d c ∙ ap (λ b. b || set.contains cells c) (unsigned_tied c d)

owner-apart : (c : ℕ) (owner : Option ℕ) (cells : Numbers) → (owner ≡ Some c → ⊥) → set.contains (with_owner owner cells) c ≡ set.contains cells c
owner-apart c None cells apart = refl
owner-apart c (Some d) cells apart = contains-inserted c d cells ∙ ap (λ b. b || set.contains cells c) (ne_eqb c d (λ e. apart (ap Some (sym e))))

module _ (c : ℕ) where
  abbrev used : List SlotView → Bool
  used views = set.contains (used_in views) c

  used-here : (view : SlotView) (views : List SlotView) → view.owner ≡ Some c → used views ≡ false → used (view ∷ views) ≡ true
  used-here view views mine none =
      ap (λ owner. set.contains (with_owner owner (used_in views)) c) mine ∙ contains-inserted c c (used_in views)
      ∙ or_left (eqb c c) (set.contains (used_in views) c) (eq-eqb c c refl)

  used-apart : (view : SlotView) (views : List SlotView) → (view.owner ≡ Some c → ⊥) → used (view ∷ views) ≡ used views
  used-apart view views apart = owner-apart c view.owner (used_in views) apart

  pub used-lacking : (views : List SlotView) → LacksOwner views c → set.contains (used_in views) c ≡ false
  used-lacking = read-lacking c used (λ view. true) false (set.contains-empty nat_cmp c) used-here used-apart

  pub used-owned : (views : List SlotView) → AreOnce views → (s : ℕ) (view : SlotView) → slice_get views s ≡ Some view → view.owner ≡ Some c → set.contains (used_in views) c ≡ true
  used-owned = read-owned c used (λ view. true) false (set.contains-empty nat_cmp c) used-here used-apart

one-more : (view : SlotView) (views : List SlotView) (owner : Option ℕ) → AreOnce (view ∷ views) → view.owner ≡ owner → set.len (with_owner owner (used_in views)) ≡ cond (is_some owner) 1 0 + set.len (used_in views)
one-more view views None once mine = omega arith
one-more view views (Some c) once mine =
    let new : set.contains (used_in views) c ≡ false = used-lacking c views (lacks-rest view views c once mine) in
    set.len-insert nat_cmp_total (used_in views) c ∙ cond-false (set.contains (used_in views) c) (set.len (used_in views)) (set.len (used_in views) + 1) new ∙ omega arith

-- as many cells as slots that have an owner
pub used-counted : (views : List SlotView) → AreOnce views → set.len (used_in views) ≡ count_by (λ view. is_some view.owner) views
used-counted [] once = set.len-empty nat_cmp
used-counted (view ∷ views) once =
    one-more view views view.owner once refl ∙ ap (λ n. cond (is_some view.owner) 1 0 + n) (used-counted views (once-rest view views once))
    ∙ sym (sum_by-cons (λ view. cond (is_some view.owner) 1 0) view views)

-- ---- pages that may be stored to

is-version : (o : Option ℕ) (version : ℕ) → option_eq nat_eq o (Some version) ≡ true → o ≡ Some version
is-version None version e = absurd (false≢true e)
is-version (Some other) version e = ap Some (eqb-true other version e)

version-is : (o : Option ℕ) (version : ℕ) → o ≡ Some version → option_eq nat_eq o (Some version) ≡ true
version-is o version e = ap (λ it. option_eq nat_eq it (Some version)) e ∙ eq-eqb version version refl

named-means : (page version : ℕ) (kept : List Kept) → is_named_by page version kept ≡ true → IsNamedBy page version kept
named-means page version [] e = absurd (false≢true e)
named-means page version (it ∷ others) e =
    elim (or_cases (not (is_lost it.leaf) && option_eq nat_eq (version_at it.versions page) (Some version)) (is_named_by page version others) e) [
      | inl here ↦
          let parts : (not (is_lost it.leaf) ≡ true) × (option_eq nat_eq (version_at it.versions page) (Some version) ≡ true) =
          and_parts (not (is_lost it.leaf)) (option_eq nat_eq (version_at it.versions page) (Some version)) here in
          inl (not-true (is_lost it.leaf) parts.0, is-version (version_at it.versions page) version parts.1)
      | inr there ↦ inr (named-means page version others there)
    ]

means-named : (page version : ℕ) (kept : List Kept) → IsNamedBy page version kept → is_named_by page version kept ≡ true
means-named page version [] named = absurd named
means-named page version (it ∷ others) (inl here) =
    or_left (not (is_lost it.leaf) && option_eq nat_eq (version_at it.versions page) (Some version)) (is_named_by page version others)
    (and_from (not (is_lost it.leaf)) (option_eq nat_eq (version_at it.versions page) (Some version)) (not_from_false (is_lost it.leaf) here.0) (version-is (version_at it.versions page) version here.1))
means-named page version (it ∷ others) (inr there) =
    or_right (not (is_lost it.leaf) && option_eq nat_eq (version_at it.versions page) (Some version)) (is_named_by page version others) (means-named page version others there)

-- the test is true of a page that is the parent's alone
pub alone-means : (cell : CellLeaves) (page : ℕ) → is_alone_at cell page ≡ true → IsAlone cell page
alone-means cell page e = by (version_at cell.parent page) refl e
  where
    by : (o : Option ℕ) → version_at cell.parent page ≡ o → is_unnamed page cell.kept o ≡ true → IsAlone cell page
    by None is unnamed = absurd (false≢true unnamed)
    by (Some version) is unnamed = record {
      present = ap is_some is;
      unnamed = λ other there named.
          let same : version ≡ other = same_Some version other (sym is ∙ there) in
          false≢true (sym (not-true (is_named_by page version cell.kept) unnamed) ∙ means-named page version cell.kept (subst (λ v. IsNamedBy page v cell.kept) (sym same) named));
    }

pub means-alone : (cell : CellLeaves) (page : ℕ) → IsAlone cell page → is_alone_at cell page ≡ true
means-alone cell page alone = by (version_at cell.parent page) refl
  where
    by : (o : Option ℕ) → version_at cell.parent page ≡ o → is_unnamed page cell.kept o ≡ true
    by None is = absurd (false≢true (sym (ap is_some is) ∙ alone.present))
    by (Some version) is =
        not_from_false (is_named_by page version cell.kept) (false_from_ne_true (is_named_by page version cell.kept) (λ named. alone.unnamed version is (named-means page version cell.kept named)))

module _ (page : ℕ) where
  alone-here : (view : SlotView) (views : List SlotView) → view.owner ≡ Some (cell_of page) → is_alone_in views page ≡ false → is_alone_in (view ∷ views) page ≡ is_alone_at view.state.leaves (page % 512)
  alone-here view views mine none =
      cond-true (option_eq nat_eq view.owner (Some (cell_of page))) (is_alone_at view.state.leaves (page % 512)) (is_alone_in views page) (version-is view.owner (cell_of page) mine)

  alone-apart : (view : SlotView) (views : List SlotView) → (view.owner ≡ Some (cell_of page) → ⊥) → is_alone_in (view ∷ views) page ≡ is_alone_in views page
  alone-apart view views apart =
      cond-false (option_eq nat_eq view.owner (Some (cell_of page))) (is_alone_at view.state.leaves (page % 512)) (is_alone_in views page)
      (false_from_ne_true (option_eq nat_eq view.owner (Some (cell_of page))) (λ e. apart (is-version view.owner (cell_of page) e)))

  pub alone-lacking : (views : List SlotView) → LacksOwner views (cell_of page) → is_alone_in views page ≡ false
  alone-lacking = read-lacking (cell_of page) (λ views. is_alone_in views page) (λ view. is_alone_at view.state.leaves (page % 512)) false refl alone-here alone-apart

  pub alone-owned : (views : List SlotView) → AreOnce views → (s : ℕ) (view : SlotView) → slice_get views s ≡ Some view → view.owner ≡ Some (cell_of page) → is_alone_in views page ≡ is_alone_at view.state.leaves (page % 512)
  alone-owned = read-owned (cell_of page) (λ views. is_alone_in views page) (λ view. is_alone_at view.state.leaves (page % 512)) false refl alone-here alone-apart

-- a member of those that pass a test
member-filter : (test : ℕ → Bool) (q : ℕ) (xs : List ℕ) → member q (filter test xs) ≡ (test q && member q xs)
member-filter test q [] = elim (test q) as (λ b. false ≡ (b && false)) [ true ↦ refl | false ↦ refl ]
member-filter test q (x ∷ xs) = one (test x) (eqb q x) refl refl (member-filter test q xs)
  where
    one : (passes same : Bool) → test x ≡ passes → eqb q x ≡ same → member q (filter test xs) ≡ (test q && member q xs)
        → member q (cond passes (x ∷ filter test xs) (filter test xs)) ≡ (test q && (eqb q x || member q xs))
    one true true passes same rest =
        or_left (eqb q x) (member q (filter test xs)) same
        ∙ sym (and_from (test q) (eqb q x || member q xs) (ap test (eqb-true q x same) ∙ passes) (or_left (eqb q x) (member q xs) same))
    one true false passes same rest = ap (λ b. b || member q (filter test xs)) same ∙ rest ∙ ap (λ b. test q && (b || member q xs)) (sym same)
    one false true passes same rest =
        let fails : test q ≡ false = ap test (eqb-true q x same) ∙ passes in
        rest ∙ and_left (test q) (member q xs) fails ∙ sym (and_left (test q) (eqb q x || member q xs) fails)
    one false false passes same rest = rest ∙ ap (λ b. test q && (b || member q xs)) (sym same)

members : (q : ℕ) (xs : List ℕ) → list_any (eq_by_cmp nat_cmp q) xs ≡ member q xs
members q [] = refl
members q (x ∷ xs) = (λ i. unsigned_tied q x i || members q xs i)

-- a page is among them where it is the parent's alone, its area may be written, and it is present
pub ready-is : (areas : List Area) (views : List SlotView) (page : ℕ)
    → set.contains (ready_in areas views) page ≡ ((is_alone_in views page && not (is_read_only (area_of areas page))) && is_some (get (pages_in views) page))
ready-is areas views page =
    let test : ℕ → Bool = λ (page : ℕ). is_alone_in views page && not (is_read_only (area_of areas page)) in
    set.contains-from_list nat_cmp_total (filter test (keys (pages_in views))) page ∙ members page (filter test (keys (pages_in views)))
    ∙ member-filter test page (keys (pages_in views)) ∙ ap (λ b. test page && b) (member-keys (pages_in views) page)

-- ---- cells that a snapshot has lost

leaf-here : (c : ℕ) (leaf : Leaf) (found : Found) → get found c ≡ None → get (with_leaf c leaf found) c ≡ loss_at leaf
leaf-here c Own found none = none
leaf-here c Joined found none = none
leaf-here c (Lost at) found none = get_inserted_here found c at c refl

leaf-apart : (c d : ℕ) (leaf : Leaf) (found : Found) → (c ≡ d → ⊥) → get (with_leaf d leaf found) c ≡ get found c
leaf-apart c d Own found apart = refl
leaf-apart c d Joined found apart = refl
leaf-apart c d (Lost at) found apart = get_inserted_apart found d at c apart

lost-here : (c : ℕ) (kept : Option Kept) (found : Found) → get found c ≡ None → get (with_lost (Some c) kept found) c ≡ lost_there kept
lost-here c None found none = none
lost-here c (Some it) found none = leaf-here c it.leaf found none

lost-apart : (c : ℕ) (owner : Option ℕ) (kept : Option Kept) (found : Found) → (owner ≡ Some c → ⊥) → get (with_lost owner kept found) c ≡ get found c
lost-apart c None kept found apart = refl
lost-apart c (Some d) None found apart = refl
lost-apart c (Some d) (Some it) found apart = leaf-apart c d it.leaf found (λ e. apart (ap Some (sym e)))

module _ (n c : ℕ) where
  abbrev loss : List SlotView → Option ℕ
  loss views = get (lost_in n views) c

  loss-here : (view : SlotView) (views : List SlotView) → view.owner ≡ Some c → loss views ≡ None → loss (view ∷ views) ≡ lost_there (kept_by view.state.leaves.kept n)
  loss-here view views mine none =
      ap (λ owner. get (with_lost owner (kept_by view.state.leaves.kept n) (lost_in n views)) c) mine ∙ lost-here c (kept_by view.state.leaves.kept n) (lost_in n views) none

  loss-apart : (view : SlotView) (views : List SlotView) → (view.owner ≡ Some c → ⊥) → loss (view ∷ views) ≡ loss views
  loss-apart view views apart = lost-apart c view.owner (kept_by view.state.leaves.kept n) (lost_in n views) apart

  pub lost-lacking : (views : List SlotView) → LacksOwner views c → get (lost_in n views) c ≡ None
  lost-lacking = read-lacking c loss (λ view. lost_there (kept_by view.state.leaves.kept n)) None (get-empty nat_cmp c) loss-here loss-apart

  pub lost-owned : (views : List SlotView) → AreOnce views → (s : ℕ) (view : SlotView) → slice_get views s ≡ Some view → view.owner ≡ Some c → get (lost_in n views) c ≡ lost_there (kept_by view.state.leaves.kept n)
  lost-owned = read-owned c loss (λ view. lost_there (kept_by view.state.leaves.kept n)) None (get-empty nat_cmp c) loss-here loss-apart
