-- What a drop made.
use Rattle.std.proofs.Common.{◌≡◌, ◌≢◌, ℕ, zero, suc, ◌+◌, ◌-◌, ◌<◌, List, [], ◌∷◌, replicate, Option, Some, None, refl, sym, ◌∙◌, ap, subst, arith, inl, inr, ◌⊎◌}
use Rattle.std.specs.Prelude.{is_some, Bool, true, false, not, cond, unwrap_or, nat_lt, ◌==◌, slice_index_or}
use Rattle.std.specs.Option.{option_map, option_and_then}
use Rattle.std.specs.FinMap.{get, get-remove}
use Rattle.std.specs.Cmp.{nat_cmp_total}
use Rattle.std.specs.Ordering.{nat_cmp, eq_by_cmp, is_eq}
use Rattle.std.proofs.Common.{Less, Equal, Greater}
use Rattle.std.proofs.lemmas.Bool.{cases_eq, ne_eqb, false≢true}
use Rattle.std.proofs.lemmas.List.{length-replicate}
use Rattle.std.proofs.lemmas.List.Sums.{sum_by-cons}
use Rattle.vm_base.specs.Deals.{Deal, Returned}
use Rattle.vm_base.specs.Frames.{FrameView}
use Rattle.kernel_meaning.specs.Requests.{answers_of}
use Rattle.kernel_meaning.specs.Leaves.{Versions, no_versions, version_at, is_lost, is_own, Kept, CellLeaves, kept_by, without_kept, share}
use Rattle.kernel_meaning.specs.CellAccount.{Drop, CellAccount}
use Rattle.leaf_cell.specs.declared.snapshot.Snapshot.{Snapshot}
use Rattle.leaf_cell.specs.Places.{TableView}
use Rattle.leaf_cell.specs.CellView.{CellView, bytes_in, without_snapshot}
use Rattle.leaf_cell.proofs.WritablePages.{apart-alone}
use Rattle.leaf_cell.specs.Inside.{AreInside, table_places, own_places, snapshot_places, leaf_value, kept_value, kept_values, cell_value}
use Rattle.leaf_cell.specs.Renaming.{AreKeptAlike, IsNamedBy, IsLive, IsRenaming}
use Rattle.leaf_cell.specs.Releasing.{IsLeafReleased, own_if}
use Rattle.leaf_cell.specs.Standing.{IsWhole, StandsFor, TakesAccount, MadeAct}
use Rattle.leaf_cell.proofs.NewCell.{none_is_not_some}
use Rattle.leaf_cell.proofs.AllowedActs.{allowed-stands}
use Rattle.leaf_cell.proofs.AbsentPages.{version_at-none}
use Rattle.leaf_cell.proofs.Renamed.{eqb-refl}
use Rattle.leaf_cell.proofs.SameShare.{share-alike}
use Rattle.leaf_cell.proofs.HeldShare.{held-share}
use Rattle.leaf_cell.proofs.WholeCells.{whole-inside}

-- only returned frames bring no answer
pub answers-returned : (n : ℕ) → answers_of (replicate n Returned) ≡ []
answers-returned zero = refl
answers-returned (suc n) = answers-returned n

-- without one snapshot on both sides
alike-without : (name : ℕ → ℕ → ℕ) (n : ℕ) (view meant : List Kept) → AreKeptAlike name view meant → AreKeptAlike name (without_kept n view) (without_kept n meant)
alike-without name n [] [] alike = tt
alike-without name n [] (o ∷ os) alike = absurd alike
alike-without name n (i ∷ is) [] alike = absurd alike
alike-without name n (i ∷ is) (o ∷ os) alike =
    subst (λ b. AreKeptAlike name (cond (not b) (i ∷ without_kept n is) (without_kept n is)) (without_kept n (o ∷ os))) (ap (λ x. x == n) (sym alike.0.number))
    (by (o.number == n) (alike-without name n is os alike.1))
  where
    by : (b : Bool) → AreKeptAlike name (without_kept n is) (without_kept n os)
        → AreKeptAlike name (cond (not b) (i ∷ without_kept n is) (without_kept n is)) (cond (not b) (o ∷ without_kept n os) (without_kept n os))
    by true rest = rest
    by false rest = (alike.0, rest)

named-without : (n page version : ℕ) (kept : List Kept) → IsNamedBy page version (without_kept n kept) → IsNamedBy page version kept
named-without n page version [] named = named
named-without n page version (it ∷ others) named = by (it.number == n) (named-without n page version others) named
  where
    by : (b : Bool) → (IsNamedBy page version (without_kept n others) → IsNamedBy page version others) → IsNamedBy page version (cond (not b) (it ∷ without_kept n others) (without_kept n others)) → IsNamedBy page version (it ∷ others)
    by true rest h = inr (rest h)
    by false rest (inl here) = inl here
    by false rest (inr later) = inr (rest later)

live-without : (n page version : ℕ) (cell : CellLeaves) → IsLive (without_snapshot n cell) page version → IsLive cell page version
live-without n page version cell (inl there) = inl there
live-without n page version cell (inr named) = inr (named-without n page version cell.kept named)

renaming-without : (name : ℕ → ℕ → ℕ) (n : ℕ) (view meant : CellLeaves) → IsRenaming name view meant → IsRenaming name (without_snapshot n view) (without_snapshot n meant)
renaming-without name n view meant alike = record {
  parent = alike.parent;
  kept = alike-without name n view.kept meant.kept alike.kept;
  apart = λ page a b la lb. alike.apart page a b (live-without n page a meant la) (live-without n page b meant lb);
}

-- a snapshot that is left is none of number n
left-number : (n number : ℕ) (kept : List Kept) (it : Kept) → kept_by (without_kept n kept) number ≡ Some it → (number ≢ n) × (kept_by kept number ≡ Some it)
left-number n number [] it found = absurd (false≢true (ap is_some found))
left-number n number (k ∷ others) it found = elim (cases_eq k.number n) [
  | inl same ↦
      let rest : (number ≢ n) × (kept_by others number ≡ Some it) = left-number n number others it (sym (ap (λ b. kept_by (cond (not b) (k ∷ without_kept n others) (without_kept n others)) number) (eqb-is k.number n same)) ∙ found) in
      (rest.0, ap (λ b. cond b (Some k) (kept_by others number)) (ne_eqb k.number number (λ e. rest.0 (sym e ∙ same))) ∙ rest.1)
  | inr apart ↦
      let here : cond (k.number == number) (Some k) (kept_by (without_kept n others) number) ≡ Some it = sym (ap (λ b. kept_by (cond (not b) (k ∷ without_kept n others) (without_kept n others)) number) (ne_eqb k.number n apart)) ∙ found in
      elim (cases_eq k.number number) [
        | inl is ↦ ((λ e. apart (is ∙ e)), ap (λ b. cond b (Some k) (kept_by others number)) (eqb-is k.number number is) ∙ sym (ap (λ b. cond b (Some k) (kept_by (without_kept n others) number)) (eqb-is k.number number is)) ∙ here)
        | inr other ↦
            let rest : (number ≢ n) × (kept_by others number ≡ Some it) = left-number n number others it (sym (ap (λ b. cond b (Some k) (kept_by (without_kept n others) number)) (ne_eqb k.number number other)) ∙ here) in
            (rest.0, ap (λ b. cond b (Some k) (kept_by others number)) (ne_eqb k.number number other) ∙ rest.1)
      ]
]
  where
    eqb-is : (a b : ℕ) → a ≡ b → (a == b) ≡ true
    eqb-is a b e = ap (λ x. x == b) e ∙ eqb-refl b

-- other numbers do not tie
not-tied : (q k : ℕ) → q ≢ k → eq_by_cmp nat_cmp q k ≡ false
not-tied q k apart = ap (λ b. is_eq (cond (nat_lt q k) Less (cond b Equal Greater))) (ne_eqb q k apart) ∙ by (nat_lt q k)
  where
    by : (b : Bool) → is_eq (cond b Less Greater) ≡ false
    by true = refl
    by false = refl

-- what a drop takes an account to: as many frames go back as the share shrinks by
pub takes-dropped : (old new : CellView) (account : CellAccount) (n count : ℕ) (stands : StandsFor old account) → new.leaves ≡ without_snapshot n old.leaves
    → ((page : ℕ) → page < 512 → bytes_in new.frames (version_at new.leaves.parent page) ≡ bytes_in old.frames (version_at old.leaves.parent page))
    → ((number page : ℕ) (kept : Kept) → kept_by new.leaves.kept number ≡ Some kept → is_lost kept.leaf ≡ false → page < 512 → bytes_in new.frames (version_at kept.versions page) ≡ bytes_in old.frames (version_at kept.versions page))
    → share old.leaves ≡ share new.leaves + count → IsWhole new → TakesAccount (Drop n) old new (replicate count Returned) None account
takes-dropped old new account n count stands leaves pages kept less whole =
    let alike : IsRenaming stands.name new.leaves (without_snapshot n account.state.leaves) =
    subst (λ l. IsRenaming stands.name l (without_snapshot n account.state.leaves)) (sym leaves) (renaming-without stands.name n old.leaves account.state.leaves stands.leaves) in
    let shrunk : share account.state.leaves - share (without_snapshot n account.state.leaves) ≡ count =
    omega (arith, less, share-alike stands.name old.leaves account.state.leaves stands.leaves, share-alike stands.name new.leaves (without_snapshot n account.state.leaves) alike) in
    record {
      allowed = allowed-stands old account stands (Drop n);
      stands = record {
        name = stands.name;
        leaves = alike;
        made = λ page version live. stands.made page version (live-without n page version account.state.leaves live);
        pages = λ page small. pages page small ∙ stands.pages page small;
        snapshots = λ number page it found unlost small.
            let left : (number ≢ n) × (kept_by old.leaves.kept number ≡ Some it) = left-number n number old.leaves.kept it (ap (λ l. kept_by l.kept number) (sym leaves) ∙ found) in
            kept number page it found unlost small ∙ stands.snapshots number page it left.1 unlost small
            ∙ ap (option_and_then (λ ps. get ps page)) (sym (get-remove nat_cmp_total account.state.snapshots n number ∙ ap (λ b. cond b None (get account.state.snapshots number)) (not-tied number n left.0)));
        whole = whole;
      };
      asked = ap (λ k. replicate k Returned) shrunk;
      ended = refl;
    }

-- whether a table names a place
pub names-or : (places : Versions) (page place : ℕ) → (version_at places page ≡ Some place) ⊎ (version_at places page ≡ Some place → ⊥)
names-or places page place = by (version_at places page) refl
  where
    by : (o : Option ℕ) → version_at places page ≡ o → (version_at places page ≡ Some place) ⊎ (version_at places page ≡ Some place → ⊥)
    by None is = inr (λ e. false≢true (ap is_some (sym is ∙ e)))
    by (Some q) is = elim (cases_eq q place) [
      | inl same ↦ inl (is ∙ ap Some same)
      | inr apart ↦ inr (λ e. apart (ap (λ o. unwrap_or o q) (sym is ∙ e)))
    ]

-- the order of a cell whose snapshot is gone
pub inside-dropped : {State : Type 0} (goes : State → Deal → State → Type 0) (from to : State) (parent : Option TableView) (it : Snapshot) (frames new : List (Option FrameView)) (tables : ℕ)
    → AreInside parent (Some it) frames → IsLeafReleased goes from to (snapshot_places no_versions it.leaf) (table_places parent) tables frames new → AreInside parent None new
inside-dropped goes from to parent it frames new tables inside released = record {
  room = released.room ∙ inside.room;
  parent_home = λ page place small named. ((inside.parent_home page place small named).0, ap is_some (released.kept page place named) ∙ (inside.parent_home page place small named).1);
  own_home = λ page place small named. none_is_not_some (version_at no_versions page) place (version_at-none page) named;
  named = λ page place small home there. elim (released.each place) [
    | inl same ↦ elim (inside.named page place small home (ap is_some (sym same) ∙ there)) [
      | inl named ↦ inl named
      | inr own ↦ elim (names-or (table_places parent) page place) [
        | inl named ↦ inl named
        | inr unnamed ↦ absurd (false≢true (sym (ap is_some (released.gone page place own unnamed)) ∙ there))
      ]
    ]
    | inr none ↦ absurd (false≢true (sym (ap is_some none) ∙ there))
  ];
  used = inside.used;
  parent_size = inside.parent_size;
  own_size = length-replicate {A = Option ℕ} 512 None;
  writable = record {
    size = inside.writable.size;
    apart = λ page may. apart-alone (own_places (Some it)) (table_places parent) page (inside.writable.apart page may);
  };
  joined = λ is. absurd (false≢true is);
}

pub bytes-kept : (old new : List (Option FrameView)) (o : Option ℕ) → ((q : ℕ) → o ≡ Some q → slice_index_or new q None ≡ slice_index_or old q None) → bytes_in new o ≡ bytes_in old o
bytes-kept old new None same = refl
bytes-kept old new (Some q) same = ap (option_map (λ f. f.bytes)) (same q refl)

-- the one snapshot of the cell is that of the drop
pub made-dropped : {State : Type 0} (goes : State → Deal → State → Type 0) (from to : State) (parent : Option TableView) (it : Snapshot) (frames new : List (Option FrameView)) (n : ℕ)
    → AreInside parent (Some it) frames → it.number ≡ n → IsLeafReleased goes from to (snapshot_places no_versions it.leaf) (table_places parent) (own_if (leaf_value it.leaf)) frames new
    → MadeAct goes from to (Drop n) (cell_value parent (Some it) frames) (cell_value parent None new) None
made-dropped goes from to parent it frames new n inside number released =
    let gone : (it.number == n) ≡ true = ap (λ x. x == n) number ∙ eqb-refl n in
    let after : AreInside parent None new = inside-dropped goes from to parent it frames new (own_if (leaf_value it.leaf)) inside released in
    let less : share (cell_value parent (Some it) frames).leaves ≡ share (cell_value parent None new).leaves + released.count =
    omega (arith, released.taken, sym (held-share parent (Some it) frames inside), sym (held-share parent None new after), sum_by-cons (λ k. cond (is_own k.leaf) 1 0) (kept_value no_versions it) []) in
    record {
      deals = replicate released.count Returned;
      led = released.led;
      follows = λ account stands. takes-dropped (cell_value parent (Some it) frames) (cell_value parent None new) account n released.count stands
          (ap (λ b. record (cell_value parent (Some it) frames).leaves { kept = cond (not b) (kept_value (table_places parent) it ∷ []) [] }) (sym gone))
          (λ page small. bytes-kept frames new (version_at (table_places parent) page) (λ q named. released.kept page q named))
          (λ number page kept found unlost small. absurd (false≢true (ap is_some found)))
          less (whole-inside parent None new after);
    }

-- no snapshot of that number is there
pub made-unmet : {State : Type 0} (goes : State → Deal → State → Type 0) (state : State) (view : CellView) (n : ℕ) → view.leaves ≡ without_snapshot n view.leaves → MadeAct goes state state (Drop n) view view None
made-unmet goes state view n same = record {
  deals = [];
  led = refl;
  follows = λ account stands. takes-dropped view view account n 0 stands same (λ page small. refl) (λ number page kept found unlost small. refl) (omega arith) stands.whole;
}

-- what is without a number that is not there
pub without-other : (parent : Option TableView) (snapshot : Option Snapshot) (frames : List (Option FrameView)) (n : ℕ) → is_some (kept_by (kept_values no_versions snapshot) n) ≡ false
    → (cell_value parent snapshot frames).leaves ≡ without_snapshot n (cell_value parent snapshot frames).leaves
without-other parent None frames n none = refl
without-other parent (Some it) frames n none = by (it.number == n) refl none
  where
    by : (b : Bool) → (it.number == n) ≡ b → is_some (cond b (Some (kept_value no_versions it)) None) ≡ false → (cell_value parent (Some it) frames).leaves ≡ without_snapshot n (cell_value parent (Some it) frames).leaves
    by true is none = absurd (false≢true (sym none))
    by false is none = ap (λ b. record (cell_value parent (Some it) frames).leaves { kept = cond (not b) (kept_value (table_places parent) it ∷ []) [] }) (sym is)

-- the snapshot that is found has the number that was looked for
pub number-of : (it : Snapshot) (n : ℕ) → is_some (kept_by (kept_values no_versions (Some it)) n) ≡ true → it.number ≡ n
number-of it n found = elim (cases_eq it.number n) [
  | inl same ↦ same
  | inr apart ↦ absurd (false≢true (sym (ap (λ b. is_some (cond b (Some (kept_value no_versions it)) None)) (ne_eqb it.number n apart)) ∙ found))
]
