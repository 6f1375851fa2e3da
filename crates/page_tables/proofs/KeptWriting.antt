-- Which pages may be written to behind a call: bits that stay, and bits that go with their pages.
use Rattle.std.proofs.Common.{◌≡◌, ◌≢◌, ℕ, ◌+◌, ◌-◌, ◌*◌, ◌/◌, ◌%◌, ◌<◌, ◌≤◌, List, [], ◌∷◌, ◌++◌, length, Option, Some, None, Result, Ok, Err, cond, eqb, replicate, length-append, refl, sym, ◌∙◌, ap, arith, inl, inr, ◌⊎◌}
use Rattle.std.specs.Prelude.{Bool, true, false, not, ◌&&◌, ◌||◌, OnOk, min, is_some, slice_set, unwrap_or}
use Rattle.std.specs.Option.{option_map, option_and_then}
use Rattle.std.specs.List.{slice_get, list_any}
use Rattle.std.specs.FinMap.{get}
use Rattle.std.proofs.lemmas.Bool.{cases_eq, cases_lt, false≢true}
use Rattle.std.proofs.lemmas.Option.{slice_get_within}
use Rattle.vm_base.specs.declared.refusals.Refused.{Refused}
use Rattle.vm_base.specs.declared.frame_request.Want.TheVariants as want
use Rattle.vm_base.specs.Deals.{Deal}
use Rattle.vm_base.specs.Places.{cell_of}
use Rattle.vm_base.specs.FlatMemory.{PageMap}
use Rattle.vm_base.specs.FlatStep.{is_beyond}
use Rattle.kernel_meaning.specs.Leaves.{version_at, has_pages, has_present}
use Rattle.kernel_meaning.specs.EventRequests.{first_in_cell, count_in_cell}
use Rattle.leaf_cell.specs.CellView.{CellView, parent_page}
use Rattle.leaf_cell.specs.Writable.{writable_at, none_writable, without_writable}
use Rattle.leaf_cell.specs.Permissions.{is_unshared}
use Rattle.leaf_cell.specs.Touching.{needs_copy}
use Rattle.leaf_cell.proofs.AbsentPages.{has_present-there}
use Rattle.leaf_cell.proofs.WritablePages.{writable_at-with, never-writable}
use Rattle.table_levels.specs.Requests.{RefusesOne}
use Rattle.page_tables.specs.declared.slot.Slot.{Slot}
use Rattle.page_tables.specs.declared.tables.PageTables.{PageTables}
use Rattle.page_tables.specs.Sides.{Sides}
use Rattle.page_tables.specs.Standing.{owner_at, TablesStandFor}
use Rattle.page_tables.specs.Ranges.{absent_pages}
use Rattle.page_tables.specs.Forking.{is_forked, forked_bits, same_bits, HaveBits, HaveBitsBefore}
use Rattle.page_tables.specs.Permissions.{parent_cell, may_write, is_there, LetsWrite, KeepsWriting, LetsNoneWrite, StopsWriting, StopsWritingAt, LetsPresentWrite, StopsWritingBefore}
use Rattle.page_tables.proofs.SlotLemmas.{slice_get-set-here, slice_get-set-apart}
use Rattle.page_tables.proofs.OwnedSlots.{owned-slot}
use Rattle.page_tables.proofs.StandingFacts.{none-at}
use Rattle.page_tables.proofs.ForkSlots.{pages-alike}
use Rattle.page_tables.proofs.ParentPages.{account_at, slot-stands, page-absent}
use Rattle.page_tables.proofs.Presence.{bytes-there}
use Rattle.page_tables.proofs.ClearedCell.{beyond-moved, beyond-outside, beyond-within}
use Rattle.page_tables.proofs.FirstCell.{IsFirstFrom}
use Rattle.page_tables.proofs.RangeRoom.{among-range}
use Rattle.page_tables.proofs.RangeEnds.{added-if, added-within, beyond-one}
use Rattle.page_tables.proofs.Permissions.{bit_in, same-range, never-written}
use Rattle.page_tables.proofs.WrittenPages.{cell-known, bit-known, other-slot}

-- ---- bits that stay

-- the cell of a number is as it was where its slot is
same-cell : (old new : PageTables) (q : ℕ) → get new.directory q ≡ get old.directory q
    → ((t : ℕ) → get old.directory q ≡ Some t → slice_get new.slots.items t ≡ slice_get old.slots.items t) → parent_cell new q ≡ parent_cell old q
same-cell old new q directory slots = ap (λ o. option_map (λ it. it.cell) (option_and_then (slice_get new.slots.items) o)) directory ∙ by (get old.directory q) refl
  where
    by : (o : Option ℕ) → get old.directory q ≡ o → option_map (λ it. it.cell) (option_and_then (slice_get new.slots.items) o) ≡ option_map (λ it. it.cell) (option_and_then (slice_get old.slots.items) o)
    by None is = refl
    by (Some t) is = ap (option_map (λ it. it.cell)) (slots t is)

-- where each slot has the bits that it had the same pages may be written to
pub keeps-writing : (old new : PageTables) → new.directory ≡ old.directory → ((c s : ℕ) → get old.directory c ≡ Some s → owner_at old.slots.items s ≡ Some c)
    → HaveBits same_bits old.slots.items new.slots.items → KeepsWriting old new
keeps-writing old new directory named have page = by (get old.directory (cell_of page)) refl
  where
    there : (o : Option ℕ) → get old.directory (cell_of page) ≡ o → get new.directory (cell_of page) ≡ o
    there o is = ap (λ d. get d (cell_of page)) directory ∙ is

    by : (o : Option ℕ) → get old.directory (cell_of page) ≡ o → may_write new page ≡ may_write old page
    by None is = never-written new page (there None is) ∙ sym (never-written old page is)
    by (Some s) is =
        let slot : (slot : Slot) × ((slice_get old.slots.items s ≡ Some slot) × (slot.owner ≡ Some (cell_of page))) = owned-slot old.slots.items s (cell_of page) (named (cell_of page) s is) in
        let it : (it : Slot) × ((slice_get new.slots.items s ≡ Some it) × (it.cell.writable ≡ slot.0.cell.writable)) = have s slot.0 slot.1.0 in
        bit-known new (cell_of page) s it.0 (there (Some s) is) it.1.0 page refl ∙ ap (λ bits. writable_at bits (page % 512)) it.1.1
        ∙ sym (bit-known old (cell_of page) s slot.0 is slot.1.0 page refl)

-- slots of which one is set to one of the same bits
pub bits-set : (slots : List Slot) (s : ℕ) (slot new : Slot) → slice_get slots s ≡ Some slot → new.cell.writable ≡ slot.cell.writable → HaveBits same_bits slots (slice_set slots s new)
bits-set slots s slot new here same t it found = elim (cases_eq t s) [
  | inl is ↦
      let one : it ≡ slot = ap (λ o. unwrap_or o it) (sym found ∙ ap (slice_get slots) is ∙ here) in (
        new,
        (ap (slice_get (slice_set slots s new)) is ∙ slice_get-set-here slots s new (slice_get_within slots s slot here), same ∙ ap (λ it. it.cell.writable) (sym one)),
      )
  | inr apart ↦ (it, (slice_get-set-apart slots s t new apart ∙ found, refl))
]

-- ---- bits that go with their pages

and-cond : (a b : Bool) → cond a b false ≡ (a && b)
and-cond true b = refl
and-cond false b = refl

and-false : (a : Bool) → (a && false) ≡ false
and-false true = refl
and-false false = refl

-- where no page is left none may be written to
pub none-left : (view : CellView) → ((p : ℕ) → writable_at view.writable p ≡ true → is_unshared view.leaves p ≡ true) → has_pages view.leaves.parent ≡ false
    → (p : ℕ) → writable_at view.writable p ≡ false
none-left view unshared none p = by (writable_at view.writable p) refl
  where
    by : (b : Bool) → writable_at view.writable p ≡ b → b ≡ false
    by false e = refl
    by true e = absurd (false≢true (sym (ap (λ o. is_some o && not (needs_copy view.leaves p)) (none-at view.leaves.parent p none)) ∙ unshared p e))

-- beyond a range in a cell lies each page of another
beyond-there : (c first n page : ℕ) → first + n ≤ 512 → cell_of page ≢ c → is_beyond (c * 512 + first) n page ≡ true
beyond-there c first n page fits apart = beyond-outside (c * 512 + first) n page outside
  where
    outside : (page < c * 512 + first) ⊎ (c * 512 + first + n ≤ page)
    outside = elim (cases_lt page (c * 512)) [
      | inl below ↦ inl (omega arith)
      | inr from ↦ elim (cases_lt page (c * 512 + 512)) [
        | inl within ↦ absurd (apart (omega arith))
        | inr above ↦ inr (omega arith)
      ]
    ]

-- and where a page of the cell lies is told by its place there
beyond-here : (c first n page : ℕ) → cell_of page ≡ c → is_beyond first n (page % 512) ≡ is_beyond (c * 512 + first) n page
beyond-here c first n page same =
    let whole : c * 512 + page % 512 ≡ page = omega (arith, same) in
    beyond-moved (c * 512) first n (page % 512) ∙ ap (is_beyond (c * 512 + first) n) whole

module _ (old new : PageTables) (c s first n : ℕ) (slot it : Slot) (known : get old.directory c ≡ Some s) (here : slice_get old.slots.items s ≡ Some slot)
    (named : (q t : ℕ) → get old.directory q ≡ Some t → owner_at old.slots.items t ≡ Some q) (fits : first + n ≤ 512)
    (cleared : it.cell.writable ≡ without_writable first n slot.cell.writable) (set : new.slots.items ≡ slice_set old.slots.items s it)
    (others : (q : ℕ) → q ≢ c → get new.directory q ≡ get old.directory q) where
  others-same : (page : ℕ) → cell_of page ≢ c → may_write new page ≡ (is_beyond (c * 512 + first) n page && may_write old page)
  others-same page apart = ap (λ cell. bit_in cell (page % 512)) (same-cell old new (cell_of page) (others (cell_of page) apart) (λ t is.
      ap (λ slots. slice_get slots t) set ∙ slice_get-set-apart old.slots.items s t it (other-slot old.slots.items s t c (cell_of page) (named c s known) (named (cell_of page) t is) apart)))
      ∙ sym (ap (λ b. b && may_write old page) (beyond-there c first n page fits apart))

  bit-left : (page : ℕ) → cell_of page ≡ c → writable_at it.cell.writable (page % 512) ≡ (is_beyond (c * 512 + first) n page && may_write old page)
  bit-left page same =
      let small : page % 512 < 512 = omega arith in
      ap (λ bits. writable_at bits (page % 512)) cleared ∙ writable_at-with (λ page. false) first n slot.cell.writable (page % 512) small
      ∙ and-cond (is_beyond first n (page % 512)) (writable_at slot.cell.writable (page % 512))
      ∙ (λ i. beyond-here c first n page same i && sym (bit-known old c s slot known here page same) i)

  -- the directory still has the cell
  pub stops-here : get new.directory c ≡ Some s → StopsWriting (c * 512 + first) n old new
  stops-here there page = elim (cases_eq (cell_of page) c) [
    | inl same ↦ bit-known new c s it there (ap (λ slots. slice_get slots s) set ∙ slice_get-set-here old.slots.items s it (slice_get_within old.slots.items s slot here)) page same ∙ bit-left page same
    | inr apart ↦ others-same page apart
  ]

  -- or it lacks it, for no page is left there
  pub stops-gone : get new.directory c ≡ None → ((p : ℕ) → writable_at it.cell.writable p ≡ false) → StopsWriting (c * 512 + first) n old new
  stops-gone missing none page = elim (cases_eq (cell_of page) c) [
    | inl same ↦ never-written new page (ap (get new.directory) same ∙ missing) ∙ sym (none (page % 512)) ∙ bit-left page same
    | inr apart ↦ others-same page apart
  ]

-- a range in a cell where no page of it is present
pub stops-none : (tables : PageTables) (c s first n : ℕ) (slot : Slot) → get tables.directory c ≡ Some s → slice_get tables.slots.items s ≡ Some slot → first + n ≤ 512
    → ((p : ℕ) → writable_at slot.cell.writable p ≡ true → is_unshared slot.cell.leaves p ≡ true) → has_present slot.cell.leaves.parent first n ≡ false
    → StopsWriting (c * 512 + first) n tables tables
stops-none tables c s first n slot known here fits unshared absent page = elim (cases_lt page (c * 512 + first)) [
  | inl below ↦ outside (inl below)
  | inr above ↦ elim (cases_lt page (c * 512 + first + n)) [
    | inl within ↦
        let same : page / 512 ≡ c = omega (arith, above, within, fits) in
        let place : first + (page % 512 - first) ≡ page % 512 = omega (arith, above, same) in
        let near : page % 512 - first < n = omega (arith, above, within, same) in
        bit-known tables c s slot known here page same ∙ unwritten place near (writable_at slot.cell.writable (page % 512)) refl
        ∙ sym (ap (λ b. b && may_write tables page) (beyond-within (c * 512 + first) n page above within))
    | inr past ↦ outside (inr past)
  ]
]
  where
    outside : (page < c * 512 + first) ⊎ (c * 512 + first + n ≤ page) → may_write tables page ≡ (is_beyond (c * 512 + first) n page && may_write tables page)
    outside o = sym (ap (λ b. b && may_write tables page) (beyond-outside (c * 512 + first) n page o))

    unwritten : first + (page % 512 - first) ≡ page % 512 → page % 512 - first < n → (b : Bool) → writable_at slot.cell.writable (page % 512) ≡ b → b ≡ false
    unwritten place near false e = refl
    unwritten place near true e = absurd (false≢true (sym absent ∙ has_present-there slot.cell.leaves.parent first (page % 512 - first) n near
        (ap (λ p. is_some (version_at slot.cell.leaves.parent p)) place ∙ present (is_some (version_at slot.cell.leaves.parent (page % 512))) (not (needs_copy slot.cell.leaves (page % 512))) (unshared (page % 512) e))))
      where
        present : (a b : Bool) → (a && b) ≡ true → a ≡ true
        present true b e = refl
        present false b e = e

-- ---- one cell after another

-- in the cells below a number the pages of the range may not be written to, and of the others just those that might before
pub record AreStopped (first n next : ℕ) (start now : PageTables) : Type 0 where
  pub passed : (page : ℕ) → cell_of page < next → may_write now page ≡ (is_beyond first n page && may_write start page)
  pub ahead : (page : ℕ) → next ≤ cell_of page → may_write now page ≡ may_write start page

pub none-stopped : (first n : ℕ) (start : PageTables) → AreStopped first n (first / 512) start start
none-stopped first n start = record {
  passed = λ page below. sym (ap (λ b. b && may_write start page) (beyond-outside first n page (inl (omega (arith, below)))));
  ahead = λ page reached. refl;
}

module _ (first n next : ℕ) (start now : PageTables) (before : AreStopped first n next start now) where
  -- a cell that the directory lacks has no page to take out
  absent-passed : (page : ℕ) → next ≤ cell_of page → get now.directory (cell_of page) ≡ None → may_write now page ≡ (is_beyond first n page && may_write start page)
  absent-passed page reached absent =
      let none : may_write now page ≡ false = never-written now page absent in
      none ∙ sym (ap (λ b. is_beyond first n page && b) (sym (before.ahead page reached) ∙ none) ∙ and-false (is_beyond first n page))

  module _ (c s : ℕ) (is_first : IsFirstFrom now.directory next c s) where
    -- the next one is passed
    pub one-stopped : (new : PageTables) → first / 512 ≤ next → StopsWriting (c * 512 + first_in_cell c first) (count_in_cell c first n) now new → AreStopped first n (c + 1) start new
    one-stopped new from stops = record {
      passed = λ page below. elim (cases_eq (cell_of page) c) [
        | inl same ↦
            stops page ∙ (λ i. inside page same i && before.ahead page (omega (arith, same, is_first.reached)) i)
        | inr apart ↦ stops page ∙ ap (λ b. b && may_write now page) (beyond-there c (first_in_cell c first) (count_in_cell c first n) page fits apart) ∙ elim (cases_lt (cell_of page) next) [
          | inl old ↦ before.passed page old
          | inr reached ↦ absent-passed page reached (is_first.others (cell_of page) reached (omega (arith, apart, below)))
        ]
      ];
      ahead = λ page beyond. stops page
          ∙ ap (λ b. b && may_write now page) (beyond-there c (first_in_cell c first) (count_in_cell c first n) page fits (λ same. omega (arith, same, beyond)))
          ∙ before.ahead page (omega (arith, beyond, is_first.reached));
    }
      where
        high : ℕ
        high = min (first + n - c * 512) 512

        fits : first_in_cell c first + count_in_cell c first n ≤ 512
        fits = omega (arith, from, is_first.reached)

        count : first + n - first ≡ n
        count = omega arith

        inside : (page : ℕ) → cell_of page ≡ c → is_beyond (c * 512 + first_in_cell c first) (count_in_cell c first n) page ≡ is_beyond first n page
        inside page same = sym (beyond-here c (first_in_cell c first) (count_in_cell c first n) page same)
            ∙ same-range c page first (first + n) (first_in_cell c first) (min (first + n - c * 512) 512) same refl refl ∙ ap (λ k. is_beyond first k page) count

    -- and where it lies past the range all are
    pub stopped-to-end : first + n ≤ c * 512 → StopsWriting first n start now
    stopped-to-end past page = elim (cases_lt (cell_of page) next) [
      | inl old ↦ before.passed page old
      | inr reached ↦ elim (cases_lt (cell_of page) c) [
        | inl between ↦ absent-passed page reached (is_first.others (cell_of page) reached between)
        | inr beyond ↦ before.ahead page reached ∙ sym (ap (λ b. b && may_write start page) (beyond-outside first n page (inr (omega (arith, past, beyond)))))
      ]
    ]

  -- so are they where no cell is left
  pub stopped-all : ((q : ℕ) → next ≤ q → get now.directory q ≡ None) → StopsWriting first n start now
  stopped-all none page = elim (cases_lt (cell_of page) next) [
    | inl old ↦ before.passed page old
    | inr reached ↦ absent-passed page reached (none (cell_of page) reached)
  ]

-- ---- one page after another

pub none-stopped-at : (tables : PageTables) → StopsWritingAt [] tables tables
none-stopped-at tables page = refl

or-false : (a : Bool) → (a || false) ≡ a
or-false true = refl
or-false false = refl

or-apart : (a b c : Bool) → (a || (b || c)) ≡ ((a || b) || c)
or-apart true b c = refl
or-apart false b c = refl

any-push : (q : ℕ) (pages : List ℕ) (page : ℕ) → list_any (eqb q) (pages ++ page ∷ []) ≡ (list_any (eqb q) pages || eqb q page)
any-push q [] page = or-false (eqb q page)
any-push q (first ∷ pages) page = ap (λ b. eqb q first || b) (any-push q pages page) ∙ or-apart (eqb q first) (list_any (eqb q) pages) (eqb q page)

pub one-more-stopped : (pages : List ℕ) (page : ℕ) (old amid new : PageTables) → StopsWritingAt pages old amid → StopsWriting (page / 512 * 512 + page % 512) 1 amid new
    → StopsWritingAt (pages ++ page ∷ []) old new
one-more-stopped pages page old amid new before one q =
    one q ∙ (λ i. beyond-one page q i && before q i) ∙ both (eqb q page) (list_any (eqb q) pages) (may_write old q) ∙ sym (ap (λ b. not b && may_write old q) (any-push q pages page))
  where
    both : (a b may : Bool) → (not a && (not b && may)) ≡ (not (b || a) && may)
    both true true may = refl
    both true false may = refl
    both false true may = refl
    both false false may = refl

-- ---- a touch that was refused

-- whether a page's cell has bytes there
abbrev there_in : Option CellView → ℕ → Bool
there_in cell page = unwrap_or (option_map (λ cell. is_some (parent_page cell page)) cell) false

-- a page is present where the parent has bytes there
pub there-known : (tables : PageTables) (sides : Sides) → TablesStandFor tables sides → (page : ℕ) → is_there tables page ≡ is_some (get sides.pages page)
there-known tables sides st page = by (get tables.directory (cell_of page)) refl
  where
    by : (o : Option ℕ) → get tables.directory (cell_of page) ≡ o → is_there tables page ≡ is_some (get sides.pages page)
    by None missing = ap (λ o. there_in (option_map (λ it. it.cell) (option_and_then (slice_get tables.slots.items) o)) (page % 512)) missing
        ∙ sym (ap is_some (page-absent tables.directory tables.snapshot tables.slots.items sides st page missing))
    by (Some s) known =
        let slot : (slot : Slot) × ((slice_get tables.slots.items s ≡ Some slot) × (slot.owner ≡ Some (cell_of page))) =
        owned-slot tables.slots.items s (cell_of page) (st.named (cell_of page) s known) in
        ap (λ cell. there_in cell (page % 512)) (cell-known tables (cell_of page) s slot.0 known slot.1.0)
        ∙ bytes-there tables.directory tables.snapshot tables.slots.items sides st page s slot.0 known slot.1.0

module _ (first page : ℕ) (start now mid final : PageTables) (added : List ℕ) (lets : LetsWrite first (page - first) start now) (keeps : KeepsWriting now mid)
    (stops : StopsWritingAt added mid final) (pages : PageMap) (new : added ≡ absent_pages pages first (page - first)) (there : (q : ℕ) → is_there start q ≡ is_some (get pages q)) where
  -- of the pages before the refused one those that were present may be written to
  pub refused-writes : LetsPresentWrite first (page - first) start final
  refused-writes q = elim (cases_lt q first) [
    | inl below ↦ outside (inl below)
    | inr above ↦ elim (cases_lt q (first + (page - first))) [
      | inl within ↦
          stops q ∙ (λ i. not (added-if pages first (page - first) added new q i) && (keeps q ∙ lets.within q above within) i)
          ∙ ap (λ b. not (not (is_some (get pages q)) && b) && true) (among-range q first (page - first) above within)
          ∙ twice (is_some (get pages q)) ∙ sym (there q) ∙ sym (ap (λ b. cond b (may_write start q) (is_there start q)) (beyond-within first (page - first) q above within))
      | inr past ↦ outside (inr past)
    ]
  ]
    where
      twice : (a : Bool) → (not (not a && true) && true) ≡ a
      twice true = refl
      twice false = refl

      unadded : (q < first) ⊎ (first + (page - first) ≤ q) → (b : Bool) → list_any (eqb q) added ≡ b → b ≡ false
      unadded o false e = refl
      unadded o true e =
          let within : (first ≤ q) × (q < first + (page - first)) = added-within pages first (page - first) added new q e in
          let low : first ≤ q = within.0 in
          let high : q < first + (page - first) = within.1 in
          absurd (elim o [ inl below ↦ omega (arith, low, below) | inr past ↦ omega (arith, high, past) ])

      outside : (q < first) ⊎ (first + (page - first) ≤ q) → may_write final q ≡ cond (is_beyond first (page - first) q) (may_write start q) (is_there start q)
      outside o = stops q ∙ ap (λ b. not b && may_write mid q) (unadded o (list_any (eqb q) added) refl) ∙ keeps q ∙ lets.apart q (beyond-outside first (page - first) q o)
          ∙ sym (ap (λ b. cond b (may_write start q) (is_there start q)) (beyond-outside first (page - first) q o))

-- ---- forks

-- what holds of an answer that is granted
pub granted-so : (result : Result (Unit {0}) Refused) {P Q : Type 0} → OnOk result P → (P → Q) → OnOk result Q
granted-so (Ok done) p so = so p
granted-so (Err refused) p so = tt

-- a slot whose leaf was refused has a page of the parent
pub asked-forked : {State : Type 0} (goes : State → Deal → State → Type 0) (slot : Slot) (at : ℕ) (from to : State)
    → RefusesOne goes from (replicate (cond (is_forked slot) 1 0) want.Leaf) at to → is_forked slot ≡ true
asked-forked goes slot at from to refused = by (is_forked slot) refl
  where
    by : (b : Bool) → is_forked slot ≡ b → b ≡ true
    by true e = refl
    by false e =
        let order : replicate (cond false 1 0) want.Leaf ≡ refused.front ++ refused.want ∷ refused.rest = sym (ap (λ b. replicate (cond b 1 0) want.Leaf) e) ∙ refused.order in
        let size : 0 ≡ length refused.front + length (refused.want ∷ refused.rest) = ap length order ∙ length-append refused.front (refused.want ∷ refused.rest) in
        absurd (omega (arith, size))

-- a cell that the parent's directory has is forked
pub known-forked : (tables : PageTables) (sides : Sides) → TablesStandFor tables sides → (c s : ℕ) (slot : Slot) → get tables.directory c ≡ Some s → slice_get tables.slots.items s ≡ Some slot
    → is_forked slot ≡ true
known-forked tables sides st c s slot known here =
    pages-alike slot.cell (account_at tables.directory tables.snapshot tables.slots.items sides st c)
    (slot-stands tables.directory tables.snapshot tables.slots.items sides st c s slot here (st.named c s known))
    ∙ ap (λ cell. has_pages cell.parent) (st.each.leaves c) ∙ sym (st.parent c) ∙ ap is_some known

module _ (old new : PageTables) (directory : new.directory ≡ old.directory) (named : (c s : ℕ) → get old.directory c ≡ Some s → owner_at old.slots.items s ≡ Some c)
    (forked : (c s : ℕ) (slot : Slot) → get old.directory c ≡ Some s → slice_get old.slots.items s ≡ Some slot → is_forked slot ≡ true) where
  there-still : (page : ℕ) (o : Option ℕ) → get old.directory (cell_of page) ≡ o → get new.directory (cell_of page) ≡ o
  there-still page o is = ap (λ d. get d (cell_of page)) directory ∙ is

  home : (page s : ℕ) → get old.directory (cell_of page) ≡ Some s → (slot : Slot) × ((slice_get old.slots.items s ≡ Some slot) × (slot.owner ≡ Some (cell_of page)))
  home page s is = owned-slot old.slots.items s (cell_of page) (named (cell_of page) s is)

  none-here : (page s : ℕ) (slot it : Slot) → get old.directory (cell_of page) ≡ Some s → slice_get old.slots.items s ≡ Some slot → slice_get new.slots.items s ≡ Some it
      → it.cell.writable ≡ forked_bits slot → may_write new page ≡ false
  none-here page s slot it is here there bits =
      bit-known new (cell_of page) s it (there-still page (Some s) is) there page refl
      ∙ ap (λ bits. writable_at bits (page % 512)) (bits ∙ ap (λ b. cond b none_writable slot.cell.writable) (forked (cell_of page) s slot is here)) ∙ never-writable (page % 512)

  -- behind a fork no page may be written to
  pub none-written-then : HaveBits forked_bits old.slots.items new.slots.items → LetsNoneWrite new
  none-written-then have page = by (get old.directory (cell_of page)) refl
    where
      by : (o : Option ℕ) → get old.directory (cell_of page) ≡ o → may_write new page ≡ false
      by None is = never-written new page (there-still page None is)
      by (Some s) is =
          let slot = home page s is in
          let it : (it : Slot) × ((slice_get new.slots.items s ≡ Some it) × (it.cell.writable ≡ forked_bits slot.0)) = have s slot.0 slot.1.0 in
          none-here page s slot.0 it.0 is slot.1.0 it.1.0 it.1.1

  -- and behind one that was refused none in the slots before
  pub stops-before : HaveBitsBefore old.slots.items new.slots.items → StopsWritingBefore old new
  stops-before have = record {
    slot = have.slot;
    at = have.at;
    below = λ page s is small.
        let slot = home page s is in
        let it : (it : Slot) × ((slice_get new.slots.items s ≡ Some it) × (it.cell.writable ≡ forked_bits slot.0)) = have.below s slot.0 small slot.1.0 in
        none-here page s slot.0 it.0 is slot.1.0 it.1.0 it.1.1;
    above = λ page s is more.
        let slot = home page s is in
        let it : (it : Slot) × ((slice_get new.slots.items s ≡ Some it) × (it.cell.writable ≡ slot.0.cell.writable)) = have.above s slot.0 more slot.1.0 in
        bit-known new (cell_of page) s it.0 (there-still page (Some s) is) it.1.0 page refl ∙ ap (λ bits. writable_at bits (page % 512)) it.1.1
        ∙ sym (bit-known old (cell_of page) s slot.0 is slot.1.0 page refl);
    absent = λ page is. never-written new page (there-still page None is);
  }
