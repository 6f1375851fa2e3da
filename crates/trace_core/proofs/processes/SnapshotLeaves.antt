-- What the events of the parent leave of the leaves of snapshots: each cell has the snapshots that it had, and what they lose there is lost by a request that was refused.
use Rattle.std.proofs.Common.{◌≡◌, ◌⊎◌, ℕ, zero, suc, ◌+◌, ◌≤◌, ◌^◌, Bool, true, false, cond, List, [], ◌∷◌, ◌++◌, map, length, replicate, Option, Some, None, inl, inr, refl, sym, ◌∙◌, ap, subst, arith}
use Rattle.std.specs.Prelude.{◌-◌, ◌==◌, ◌||◌, ◌&&◌, not, is_some, unwrap_or, filter}
use Rattle.std.proofs.lemmas.List.{length-map}
use Rattle.std.specs.Option.{option_and_then}
use Rattle.std.proofs.lemmas.Bool.{cases_eq, cases_Bool, ne_eqb, false≢true}
use Rattle.vm_base.specs.declared.frame_request.Want.{Want}
use Rattle.vm_base.specs.declared.frame_request.Want.TheVariants as want
use Rattle.vm_base.specs.Counts.{next_count}
use Rattle.vm_base.specs.Deals.{Deal, Granted, Denied, Returned}
use Rattle.vm_base.specs.Places.{cell_of}
use Rattle.kernel_meaning.specs.Requests.{Answer, Yes, No, Requests, deal_of, next_answer, asked, row_end, asked_in_row}
use Rattle.kernel_meaning.specs.Leaves.{Kept, Leaf, Own, Joined, Lost, CellLeaves, loss_at, kept_by, version_at, holds_number, is_own, is_joined, is_async, without_versions, has_pages, has_present, is_shared, is_marked, is_named, names_version, with_leaf}
use Rattle.kernel_meaning.specs.CellActs.{Course, asking, coming_answer, is_number, numbers_where, leaf_copied, leaf_copy_answered, leaves_copied, before_change, page_copy_answered, new_page_answered, new_page_asked, parent_leaf_answered, touched_as, course_touched, pages_cleared, cleared, protected}
use Rattle.kernel_meaning.specs.FrameLaw.{Leaves, cell_at, with_cell, is_used, parent_cells}
use Rattle.kernel_meaning.specs.RefusedRequests.{count_after}
use Rattle.kernel_meaning.specs.EventRequests.{Progress, FrameRefusal, page_in_cell, course_at, with_course, missing_tables, tables_answered, cell_touch_ended, page_touched, without_page, without_pages, touch_goes_on, added_by, pages_touched_behind, pages_touched, first_in_cell, count_in_cell, changed_cells, directory_shrunk, unmapped_at, pages_unmapped, protected_at, pages_protected}
use Rattle.page_tables.proofs.LeafMap.{cell_at-here}
use Rattle.page_tables.proofs.GoneCell.{cell_at-gone}
use Rattle.page_tables.proofs.DroppedLeaves.{left-apart}
use Rattle.trace_core.specs.Answering.{AreCounted}
use Rattle.page_tables.specs.SlotViews.{lost_there}
use Rattle.trace_core.proofs.events.LastRefusals.{count-grows}

-- ---- what is lost, and what deals tell

-- the count at which snapshot n lost a cell, where it has lost it
abbrev pub loss_of : Leaves → ℕ → ℕ → Option ℕ
loss_of leaves n c = option_and_then (λ kept. loss_at kept.leaf) (kept_by (cell_at leaves c).kept n)

-- a request among deals was refused with this count
abbrev pub IsToldBy : List Deal → ℕ → Type 0
IsToldBy [] at = ⊥
IsToldBy (Granted want ∷ deals) at = IsToldBy deals at
IsToldBy (Denied want told ∷ deals) at = (told ≡ at) ⊎ IsToldBy deals at
IsToldBy (Returned ∷ deals) at = IsToldBy deals at

-- each cell has one snapshot at most
abbrev pub AreFew : Leaves → Type 0
AreFew leaves = (c : ℕ) → length (cell_at leaves c).kept ≤ 1

-- each cell has the snapshots that it had, and what they have lost since was lost by a refusal among these deals
pub record KeepsLeaves (before after : Leaves) (deals : List Deal) : Type 0 where
  pub numbers : (c : ℕ) → map (λ it. it.number) (cell_at after c).kept ≡ map (λ it. it.number) (cell_at before c).kept
  -- what was lost stays so, where each cell has one snapshot at most
  pub stays : AreFew before → (n c at : ℕ) → loss_of before n c ≡ Some at → loss_of after n c ≡ Some at
  pub losses : (n c at : ℕ) → loss_of after n c ≡ Some at → (loss_of before n c ≡ Some at) ⊎ IsToldBy deals at

-- what deals tell, they tell with more of them behind
pub told-more : (deals back : List Deal) (at : ℕ) → IsToldBy deals at → IsToldBy (deals ++ back) at
told-more [] back at told = absurd told
told-more (Granted want ∷ deals) back at told = told-more deals back at told
told-more (Denied want here ∷ deals) back at (inl same) = inl same
told-more (Denied want here ∷ deals) back at (inr later) = inr (told-more deals back at later)
told-more (Returned ∷ deals) back at told = told-more deals back at told

told-last : (deals : List Deal) (want : Want) (at : ℕ) → IsToldBy (deals ++ Denied want at ∷ []) at
told-last [] want at = inl refl
told-last (Granted other ∷ deals) want at = told-last deals want at
told-last (Denied other here ∷ deals) want at = inr (told-last deals want at)
told-last (Returned ∷ deals) want at = told-last deals want at

-- a count that counted deals tell lies above the count before them, and not above the one behind them
pub told-between : (count : ℕ) (deals : List Deal) (at : ℕ) → AreCounted count deals → count ≤ 2 ^ 64 - 1 → IsToldBy deals at
    → (next_count count ≤ at) × (at ≤ count_after count deals)
told-between count [] at counted fits told = absurd told
told-between count (Granted want ∷ deals) at counted fits told = told-between count deals at counted fits told
told-between count (Denied want here ∷ deals) at counted fits (inl same) =
    let next : here ≡ next_count count = counted.0 in
    let grows : next_count count ≤ count_after (next_count count) deals = count-grows (next_count count) deals (omega arith) in
    (omega (arith, next, same), omega (arith, next, same, grows))
told-between count (Denied want here ∷ deals) at counted fits (inr later) =
    let rest : (next_count (next_count count) ≤ at) × (at ≤ count_after (next_count count) deals) = told-between (next_count count) deals at counted.1 (omega arith) later in
    (omega (arith, fits, rest.0), rest.1)
told-between count (Returned ∷ deals) at counted fits told = told-between count deals at counted fits told

-- ---- at one cell

-- the cell has the snapshots that it had, what they have lost since was told, and what was told still is
record Changes (from to : Course) : Type 0 where
  numbers : map (λ it. it.number) to.cell.kept ≡ map (λ it. it.number) from.cell.kept
  losses : (n at : ℕ) → lost_there (kept_by to.cell.kept n) ≡ Some at → (lost_there (kept_by from.cell.kept n) ≡ Some at) ⊎ IsToldBy to.requests.deals at
  told : (at : ℕ) → IsToldBy from.requests.deals at → IsToldBy to.requests.deals at

changes-on : (from mid to : Course) → Changes from mid → Changes mid to → Changes from to
changes-on from mid to one two = record {
  numbers = two.numbers ∙ one.numbers;
  losses = λ n at lost. elim (two.losses n at lost) [
    | inl before ↦ elim (one.losses n at before) [ inl first ↦ inl first | inr told ↦ inr (two.told at told) ]
    | inr told ↦ inr told
  ];
  told = λ at there. two.told at (one.told at there);
}

-- and what was lost stays so, where the cell has one snapshot at most
record Acts (from to : Course) : Type 0 where
  changes : Changes from to
  stays : length from.cell.kept ≤ 1 → (n at : ℕ) → lost_there (kept_by from.cell.kept n) ≡ Some at → lost_there (kept_by to.cell.kept n) ≡ Some at

acts-on : (from mid to : Course) → Acts from mid → Acts mid to → Acts from to
acts-on from mid to one two = record {
  changes = changes-on from mid to one.changes two.changes;
  stays = λ few n at lost. two.stays (fewer few) n at (one.stays few n at lost);
}
  where
    fewer : length from.cell.kept ≤ 1 → length mid.cell.kept ≤ 1
    fewer few =
        let same : length (map (λ (it : Kept). it.number) mid.cell.kept) ≡ length (map (λ (it : Kept). it.number) from.cell.kept) = ap length one.changes.numbers in
        omega (arith, few, same, length-map mid.cell.kept (λ (it : Kept). it.number), length-map from.cell.kept (λ (it : Kept). it.number))

-- an act that leaves the snapshots alone
acts-alone : (from to : Course) → to.cell.kept ≡ from.cell.kept → ((at : ℕ) → IsToldBy from.requests.deals at → IsToldBy to.requests.deals at) → Acts from to
acts-alone from to same told = record {
  changes = record {
    numbers = ap (map (λ it. it.number)) same;
    losses = λ n at lost. inl (sym (ap (λ kept. lost_there (kept_by kept n)) same) ∙ lost);
    told = told;
  };
  stays = λ few n at lost. ap (λ kept. lost_there (kept_by kept n)) same ∙ lost;
}

module _ (test : Kept → Bool) (leaf : Leaf) where
  numbers-leaf : (kept : List Kept) → map (λ it. it.number) (with_leaf test leaf kept) ≡ map (λ it. it.number) kept
  numbers-leaf [] = refl
  numbers-leaf (it ∷ others) = λ i. one (test it) i ∷ numbers-leaf others i
    where
      one : (b : Bool) → (cond b (record it { leaf = leaf }) it).number ≡ it.number
      one true = refl
      one false = refl

  loss-leaf : (kept : List Kept) (n at : ℕ) → lost_there (kept_by (with_leaf test leaf kept) n) ≡ Some at → (lost_there (kept_by kept n) ≡ Some at) ⊎ (loss_at leaf ≡ Some at)
  loss-leaf [] n at lost = inl lost
  loss-leaf (it ∷ others) n at lost = by (test it) (loss-leaf others n at) lost
    where
      by : (b : Bool) → (lost_there (kept_by (with_leaf test leaf others) n) ≡ Some at → (lost_there (kept_by others n) ≡ Some at) ⊎ (loss_at leaf ≡ Some at))
          → lost_there (kept_by (cond b (record it { leaf = leaf }) it ∷ with_leaf test leaf others) n) ≡ Some at
          → (lost_there (kept_by (it ∷ others) n) ≡ Some at) ⊎ (loss_at leaf ≡ Some at)
      by true rest = elim (it.number == n) as (λ own. lost_there (cond own (Some (record it { leaf = leaf })) (kept_by (with_leaf test leaf others) n)) ≡ Some at
          → (lost_there (cond own (Some it) (kept_by others n)) ≡ Some at) ⊎ (loss_at leaf ≡ Some at)) [ true ↦ inr | false ↦ rest ]
      by false rest = elim (it.number == n) as (λ own. lost_there (cond own (Some it) (kept_by (with_leaf test leaf others) n)) ≡ Some at
          → (lost_there (cond own (Some it) (kept_by others n)) ≡ Some at) ⊎ (loss_at leaf ≡ Some at)) [ true ↦ inl | false ↦ rest ]

  -- an act that gives some of them another leaf
  changes-leaf : (from to : Course) → to.cell.kept ≡ with_leaf test leaf from.cell.kept → ((at : ℕ) → loss_at leaf ≡ Some at → IsToldBy to.requests.deals at)
      → ((at : ℕ) → IsToldBy from.requests.deals at → IsToldBy to.requests.deals at) → Changes from to
  changes-leaf from to same lost told = record {
    numbers = ap (map (λ it. it.number)) same ∙ numbers-leaf from.cell.kept;
    losses = λ n at there. elim (loss-leaf from.cell.kept n at (sym (ap (λ kept. lost_there (kept_by kept n)) same) ∙ there)) [
      | inl before ↦ inl before
      | inr new ↦ inr (lost at new)
    ];
    told = told;
  }

  -- where none of them has lost the cell, those that have keep their leaf
  stays-leaf : ((it : Kept) (at : ℕ) → loss_at it.leaf ≡ Some at → test it ≡ false) → (kept : List Kept) (n at : ℕ)
      → lost_there (kept_by kept n) ≡ Some at → lost_there (kept_by (with_leaf test leaf kept) n) ≡ Some at
  stays-leaf spares [] n at lost = lost
  stays-leaf spares (it ∷ others) n at lost = by (test it) refl (stays-leaf spares others n at) lost
    where
      by : (b : Bool) → test it ≡ b → (lost_there (kept_by others n) ≡ Some at → lost_there (kept_by (with_leaf test leaf others) n) ≡ Some at)
          → lost_there (kept_by (it ∷ others) n) ≡ Some at
          → lost_there (kept_by (cond b (record it { leaf = leaf }) it ∷ with_leaf test leaf others) n) ≡ Some at
      by true is rest = elim (it.number == n) as (λ own. lost_there (cond own (Some it) (kept_by others n)) ≡ Some at
          → lost_there (cond own (Some (record it { leaf = leaf })) (kept_by (with_leaf test leaf others) n)) ≡ Some at)
          [ true ↦ (λ lost. absurd (false≢true (sym (spares it at lost) ∙ is))) | false ↦ rest ]
      by false is rest = elim (it.number == n) as (λ own. lost_there (cond own (Some it) (kept_by others n)) ≡ Some at
          → lost_there (cond own (Some it) (kept_by (with_leaf test leaf others) n)) ≡ Some at) [ true ↦ (λ lost. lost) | false ↦ rest ]

-- behind the answer to a request
abbrev behind_answer : Want → Answer → Course → Course
behind_answer want answer course = record course {
  requests = record {
    made = (asked want course.requests).made;
    coming = (asked want course.requests).coming;
    deals = course.requests.deals ++ deal_of want answer ∷ [];
  };
}

some-count : (a b : ℕ) → ◌≡◌ {A = Option ℕ} (Some a) (Some b) → a ≡ b
some-count a b same = ap (λ o. unwrap_or o a) same

-- a leaf lost by the refusal that comes last before frames are given back
lost-told : (deals : List Deal) (want : Want) (here n at : ℕ) → ◌≡◌ {A = Option ℕ} (Some here) (Some at)
    → IsToldBy ((deals ++ Denied want here ∷ []) ++ replicate n Returned) at
lost-told deals want here n at same =
    subst (λ at. IsToldBy ((deals ++ Denied want here ∷ []) ++ replicate n Returned) at) (some-count here at same)
    (told-more (deals ++ Denied want here ∷ []) (replicate n Returned) here (told-last deals want here))

changes-answered : (n : ℕ) (answer : Answer) (course : Course) → Changes course (leaf_copy_answered n answer (behind_answer want.Leaf answer course))
changes-answered n Yes course =
    changes-leaf (is_number n) Own course _ refl (λ at none. absurd (false≢true (ap is_some none))) (told-more course.requests.deals _)
changes-answered n (No here) course =
    changes-leaf (is_number n) (Lost here) course _ refl (lost-told course.requests.deals want.Leaf here _)
    (λ at told. told-more (course.requests.deals ++ Denied want.Leaf here ∷ []) _ at (told-more course.requests.deals _ at told))

changes-copied : (ns : List ℕ) (course : Course) → Changes course (leaves_copied ns course)
changes-copied [] course = (acts-alone course course refl (λ at told. told)).changes
changes-copied (n ∷ ns) course = changes-on course (leaf_copied n course) _ (changes-answered n (coming_answer course) course) (changes-copied ns (leaf_copied n course))

-- a leaf that is lost is not copied
abbrev lost-alone : Kept → (Kept → Bool) → Type 0
lost-alone it test = map (λ (it : Kept). it.number) (filter test (it ∷ [])) ≡ []

none-copied : (kept : List Kept) → length kept ≤ 1 → (n at : ℕ) → lost_there (kept_by kept n) ≡ Some at
    → (map (λ (it : Kept). it.number) (filter is_shared kept) ≡ []) × (map (λ (it : Kept). it.number) (filter is_marked kept) ≡ [])
none-copied [] few n at lost = absurd (false≢true (ap is_some lost))
none-copied (it ∷ []) few n at lost = by it.leaf refl
  where
    -- what is found there is its leaf
    found : loss_at it.leaf ≡ None → lost_there (kept_by (it ∷ []) n) ≡ None
    found none = elim (it.number == n) as (λ own. lost_there (cond own (Some it) None) ≡ None) [ true ↦ none | false ↦ refl ]

    by : (leaf : Leaf) → it.leaf ≡ leaf → lost-alone it is_shared × lost-alone it is_marked
    by Own is = absurd (false≢true (ap is_some (sym (found (ap loss_at is)) ∙ lost)))
    by Joined is = absurd (false≢true (ap is_some (sym (found (ap loss_at is)) ∙ lost)))
    by (Lost here) is = (
      ap (λ leaf. map (λ (it : Kept). it.number) (cond (is_joined leaf && not (is_async it.mode)) (it ∷ []) [])) is,
      ap (λ leaf. map (λ (it : Kept). it.number) (cond (is_joined leaf && is_async it.mode) (it ∷ []) [])) is,
    )
none-copied (it ∷ other ∷ others) few n at lost = absurd (many few)
  where
    many : length (it ∷ other ∷ others) ≤ 1 → ⊥
    many few = omega (arith, few)

acts-before : (course : Course) → Acts course (before_change course)
acts-before course = record {
  changes =
      let first : Course = leaves_copied (numbers_where is_shared course.cell) course in
      changes-on course first _ (changes-copied (numbers_where is_shared course.cell) course) (changes-copied (numbers_where is_marked first.cell) first);
  stays = λ few n at lost.
      let none = none-copied course.cell.kept few n at lost in
      let same : leaves_copied (numbers_where is_shared course.cell) course ≡ course = ap (λ ns. leaves_copied ns course) none.0 in
      ap (λ (it : Course). lost_there (kept_by it.cell.kept n))
      (ap (λ (it : Course). leaves_copied (numbers_where is_marked it.cell) it) same ∙ ap (λ ns. leaves_copied ns course) none.1) ∙ lost;
}

-- an own leaf is not lost
own-spares : (page version : ℕ) (it : Kept) (at : ℕ) → loss_at it.leaf ≡ Some at → names_version page version it ≡ false
own-spares page version it at lost = by it.leaf refl
  where
    by : (leaf : Leaf) → it.leaf ≡ leaf → names_version page version it ≡ false
    by Own is = absurd (false≢true (ap is_some (sym (ap loss_at is) ∙ lost)))
    by Joined is = ap (λ leaf. is_own leaf && holds_number (version_at it.versions page) version) is
    by (Lost here) is = ap (λ leaf. is_own leaf && holds_number (version_at it.versions page) version) is

acts-copy : (page version : ℕ) (answer : Answer) (course : Course) → Acts course (page_copy_answered page version answer (behind_answer want.Page answer course))
acts-copy page version Yes course = acts-alone course _ refl (told-more course.requests.deals _)
acts-copy page version (No here) course = record {
  changes = changes-leaf (names_version page version) (Lost here) course _ refl (lost-told course.requests.deals want.Page here _)
      (λ at told. told-more (course.requests.deals ++ Denied want.Page here ∷ []) _ at (told-more course.requests.deals _ at told));
  stays = λ few n at lost. stays-leaf (names_version page version) (Lost here) (own-spares page version) course.cell.kept n at lost;
}

acts-present : (page version : ℕ) (named : Bool) (course : Course)
    → Acts course (cond named (page_copy_answered page version (coming_answer course) (asking want.Page course)) course)
acts-present page version true course = acts-copy page version (coming_answer course) course
acts-present page version false course = acts-alone course course refl (λ at told. told)

acts-new : (page leaves : ℕ) (answer : Answer) (course : Course) → Acts course (new_page_answered page leaves answer (behind_answer want.Page answer course))
acts-new page leaves Yes course = acts-alone course _ refl (told-more course.requests.deals _)
acts-new page leaves (No here) course =
    acts-alone course _ refl (λ at told. told-more (course.requests.deals ++ Denied want.Page here ∷ []) _ at (told-more course.requests.deals _ at told))

acts-page : (page leaves : ℕ) (course : Course) → Acts course (new_page_asked page leaves (before_change course))
acts-page page leaves course =
    acts-on course (before_change course) _ (acts-before course) (acts-new page leaves (coming_answer (before_change course)) (before_change course))

acts-parent : (page : ℕ) (answer : Answer) (course : Course) → Acts course (parent_leaf_answered page answer (behind_answer want.Leaf answer course))
acts-parent page Yes course =
    acts-on course (behind_answer want.Leaf Yes course) _ (acts-alone course _ refl (told-more course.requests.deals _))
    (acts-page page 1 (behind_answer want.Leaf Yes course))
acts-parent page (No here) course =
    acts-alone course _ refl (λ at told. told-more (course.requests.deals ++ Denied want.Leaf here ∷ []) _ at (told-more course.requests.deals _ at told))

acts-touched : (version : Option ℕ) (page : ℕ) (course : Course) → Acts course (touched_as version page course)
acts-touched (Some version) page course =
    acts-on course (before_change course) _ (acts-before course) (acts-present page version (is_named (before_change course).cell page version) (before_change course))
acts-touched None page course = by (has_pages course.cell.parent)
  where
    by : (leaf : Bool) → Acts course (cond leaf (new_page_asked page 0 (before_change course)) (parent_leaf_answered page (coming_answer course) (asking want.Leaf course)))
    by true = acts-page page 0 course
    by false = acts-parent page (coming_answer course) course

acts-cleared : (first n : ℕ) (course : Course) → Acts course (cleared first n course)
acts-cleared first n course = by (has_present course.cell.parent first n)
  where
    by : (b : Bool) → Acts course (cond b (pages_cleared first n (before_change course)) course)
    by true =
        acts-on course (before_change course) _ (acts-before course)
        (acts-alone (before_change course) _ refl (told-more (before_change course).requests.deals _))
    by false = acts-alone course course refl (λ at told. told)

acts-protected : (first n : ℕ) (course : Course) → Acts course (protected first n course)
acts-protected first n course = by (has_present course.cell.parent first n)
  where
    by : (b : Bool) → Acts course (cond b (before_change course) course)
    by true = acts-before course
    by false = acts-alone course course refl (λ at told. told)

-- ---- in the map of the cells

unused-kept : (pages : Bool) (kept : List Kept) → (pages || not (length kept == 0)) ≡ false → kept ≡ []
unused-kept pages [] e = refl
unused-kept true (it ∷ others) e = absurd (false≢true (sym e))
unused-kept false (it ∷ others) e = absurd (false≢true (sym e ∙ ap not (ne_eqb (length (it ∷ others)) 0 (λ l. omega (arith, l)))))

-- a cell that becomes another one has the snapshots of that one
kept-here : (leaves : Leaves) (c : ℕ) (cell : CellLeaves) (q : ℕ) → q ≡ c → (cell_at (with_cell leaves c cell) q).kept ≡ cell.kept
kept-here leaves c cell q here = elim (cases_Bool (is_used cell)) [
  | inl used ↦ ap (λ it. it.kept) (cell_at-here leaves c cell used q here)
  | inr unused ↦ ap (λ it. it.kept) (cell_at-gone leaves c cell unused q here) ∙ sym (unused-kept (has_pages cell.parent) cell.kept unused)
]

-- snapshots keep the leaves of all cells, and what was told still is
record Goes (from to : Progress) : Type 0 where
  keeps : KeepsLeaves from.leaves to.leaves to.requests.deals
  told : (at : ℕ) → IsToldBy from.requests.deals at → IsToldBy to.requests.deals at

goes-on : (from mid to : Progress) → Goes from mid → Goes mid to → Goes from to
goes-on from mid to one two = record {
  keeps = record {
    numbers = λ c. two.keeps.numbers c ∙ one.keeps.numbers c;
    losses = λ n c at lost. elim (two.keeps.losses n c at lost) [
      | inl before ↦ elim (one.keeps.losses n c at before) [ inl first ↦ inl first | inr told ↦ inr (two.told at told) ]
      | inr told ↦ inr told
    ];
    stays = λ few n c at lost. two.keeps.stays (fewer few) n c at (one.keeps.stays few n c at lost);
  };
  told = λ at there. two.told at (one.told at there);
}
  where
    fewer : AreFew from.leaves → AreFew mid.leaves
    fewer few c =
        let same : length (map (λ (it : Kept). it.number) (cell_at mid.leaves c).kept) ≡ length (map (λ (it : Kept). it.number) (cell_at from.leaves c).kept) = ap length (one.keeps.numbers c) in
        omega (arith, few c, same, length-map (cell_at mid.leaves c).kept (λ (it : Kept). it.number), length-map (cell_at from.leaves c).kept (λ (it : Kept). it.number))

-- leaves where each cell has the snapshots that it had, as they were
keeps-same : (before after : Leaves) (deals : List Deal) → ((c : ℕ) → (cell_at after c).kept ≡ (cell_at before c).kept) → KeepsLeaves before after deals
keeps-same before after deals same = record {
  numbers = λ c. ap (map (λ it. it.number)) (same c);
  losses = λ n c at lost. inl (sym (ap (λ kept. lost_there (kept_by kept n)) (same c)) ∙ lost);
  stays = λ few n c at lost. ap (λ kept. lost_there (kept_by kept n)) (same c) ∙ lost;
}

goes-same : (from to : Progress) → ((c : ℕ) → (cell_at to.leaves c).kept ≡ (cell_at from.leaves c).kept)
    → ((at : ℕ) → IsToldBy from.requests.deals at → IsToldBy to.requests.deals at) → Goes from to
goes-same from to same told = record { keeps = keeps-same from.leaves to.leaves to.requests.deals same; told = told }

-- an act at a cell
goes-course : (c : ℕ) (course : Course) (progress : Progress) → Acts (course_at c progress) course → Goes progress (with_course c course progress)
goes-course c course progress acts = record {
  keeps = record {
    numbers = λ q. elim (cases_eq q c) [
      | inl here ↦ ap (map (λ it. it.number)) (kept-here progress.leaves c course.cell q here) ∙ acts.changes.numbers
          ∙ ap (λ q. map (λ it. it.number) (cell_at progress.leaves q).kept) (sym here)
      | inr apart ↦ ap (λ cell. map (λ it. it.number) cell.kept) (left-apart progress.leaves c course.cell q apart)
    ];
    losses = λ n q at lost. elim (cases_eq q c) [
      | inl here ↦ elim (acts.changes.losses n at (sym (ap (λ kept. lost_there (kept_by kept n)) (kept-here progress.leaves c course.cell q here)) ∙ lost)) [
        | inl before ↦ inl (ap (λ q. lost_there (kept_by (cell_at progress.leaves q).kept n)) here ∙ before)
        | inr told ↦ inr told
      ]
      | inr apart ↦ inl (sym (ap (λ cell. lost_there (kept_by cell.kept n)) (left-apart progress.leaves c course.cell q apart)) ∙ lost)
    ];
    stays = λ few n q at lost. elim (cases_eq q c) [
      | inl here ↦ ap (λ kept. lost_there (kept_by kept n)) (kept-here progress.leaves c course.cell q here)
          ∙ acts.stays (few c) n at (sym (ap (λ q. lost_there (kept_by (cell_at progress.leaves q).kept n)) here) ∙ lost)
      | inr apart ↦ ap (λ cell. lost_there (kept_by cell.kept n)) (left-apart progress.leaves c course.cell q apart) ∙ lost
    ];
  };
  told = acts.changes.told;
}

-- ---- touch

goes-ended : (refused : Option ℕ) (page tables : ℕ) (progress : Progress) → Goes progress (cell_touch_ended refused page tables progress)
goes-ended None page tables progress = goes-same progress progress (λ c. refl) (λ at told. told)
goes-ended (Some at) page tables progress = goes-same progress _ (λ c. refl) (told-more progress.requests.deals _)

goes-answered : (refused : Option ℕ) (page tables : ℕ) (progress : Progress) → Goes progress (tables_answered refused page tables progress)
goes-answered None page tables progress =
    let c : ℕ = cell_of page in
    let start : Course = course_at c progress in
    let course : Course = course_touched (page_in_cell page) start in
    goes-on progress (with_course c course progress) _
    (goes-course c course progress (acts-touched (version_at start.cell.parent (page_in_cell page)) (page_in_cell page) start))
    (goes-ended course.refused page tables (with_course c course progress))
goes-answered (Some at) page tables progress = goes-same progress _ (λ c. refl) (told-more progress.requests.deals _)

told-row : (wants : List Want) (requests : Requests) (at : ℕ) → IsToldBy requests.deals at → IsToldBy (asked_in_row wants requests).requests.deals at
told-row [] requests at told = told
told-row (want ∷ wants) requests at told = by (next_answer requests) (told-row wants (asked want requests) at) (told-more requests.deals _ at told)
  where
    by : (answer : Answer) → (IsToldBy (asked want requests).deals at → IsToldBy (asked_in_row wants (asked want requests)).requests.deals at)
        → IsToldBy (asked want requests).deals at → IsToldBy (row_end answer (asked want requests) (asked_in_row wants (asked want requests))).requests.deals at
    by Yes rest now = rest now
    by (No here) rest now = now

goes-page : (page : ℕ) (progress : Progress) → Goes progress (page_touched page progress)
goes-page page progress =
    let wants : List Want = missing_tables (parent_cells progress.leaves) (cell_of page) in
    let row = asked_in_row wants progress.requests in
    goes-on progress (record progress { requests = row.requests }) _
    (goes-same progress _ (λ c. refl) (told-row wants progress.requests))
    (goes-answered row.refused page row.granted (record progress { requests = row.requests }))

kept-without : (page : ℕ) (leaves : Leaves) (c : ℕ) → (cell_at (without_page page leaves) c).kept ≡ (cell_at leaves c).kept
kept-without page leaves c =
    let cell : CellLeaves = cell_at leaves (cell_of page) in
    let gone : CellLeaves = record cell { parent = without_versions cell.parent (page_in_cell page) 1 } in
    elim (cases_eq c (cell_of page)) [
      | inl here ↦ kept-here leaves (cell_of page) gone c here ∙ ap (λ c. (cell_at leaves c).kept) (sym here)
      | inr apart ↦ ap (λ cell. cell.kept) (left-apart leaves (cell_of page) gone c apart)
    ]

kept-without_pages : (pages : List ℕ) (leaves : Leaves) (c : ℕ) → (cell_at (without_pages pages leaves) c).kept ≡ (cell_at leaves c).kept
kept-without_pages [] leaves c = refl
kept-without_pages (page ∷ pages) leaves c = kept-without_pages pages (without_page page leaves) c ∙ kept-without page leaves c

goes-touched : (n first : ℕ) (added : List ℕ) (progress : Progress) → Goes progress (pages_touched_behind added first n progress)
goes-touched zero first added progress = goes-same progress progress (λ c. refl) (λ at told. told)
goes-touched (suc n) first added progress =
    goes-on progress (page_touched first progress) _ (goes-page first progress)
    (by (page_touched first progress).refused (goes-touched n (first + 1) (added ++ added_by progress.leaves first) (page_touched first progress)))
  where
    by : (refused : Option FrameRefusal)
        → Goes (page_touched first progress) (pages_touched_behind (added ++ added_by progress.leaves first) (first + 1) n (page_touched first progress))
        → Goes (page_touched first progress) (touch_goes_on refused added (page_touched first progress)
        (pages_touched_behind (added ++ added_by progress.leaves first) (first + 1) n (page_touched first progress)))
    by None rest = rest
    by (Some refusal) rest =
        goes-same (page_touched first progress) _ (kept-without_pages added (page_touched first progress).leaves) (told-more (page_touched first progress).requests.deals _)

-- a touch keeps the leaves of snapshots, but for what its refused requests lose
pub touched-keeps : (first n : ℕ) (progress : Progress) → KeepsLeaves progress.leaves (pages_touched first n progress).leaves (pages_touched first n progress).requests.deals
touched-keeps first n progress = (goes-touched n first [] progress).keeps

-- ---- unmap and protect

goes-unmapped : (cells : List ℕ) (first n : ℕ) (progress : Progress) → Goes progress (unmapped_at cells first n progress)
goes-unmapped [] first n progress = goes-same progress progress (λ c. refl) (λ at told. told)
goes-unmapped (cell ∷ cells) first n progress =
    let course : Course = cleared (first_in_cell cell first) (count_in_cell cell first n) (course_at cell progress) in
    let next : Progress = with_course cell course progress in
    let shrunk : Progress = directory_shrunk progress.leaves next in
    goes-on progress next _
    (goes-course cell course progress (acts-cleared (first_in_cell cell first) (count_in_cell cell first n) (course_at cell progress)))
    (goes-on next shrunk _ (goes-same next shrunk (λ c. refl) (told-more next.requests.deals _)) (goes-unmapped cells first n shrunk))

-- an unmap too
pub unmapped-keeps : (first n : ℕ) (progress : Progress) → KeepsLeaves progress.leaves (pages_unmapped first n progress).leaves (pages_unmapped first n progress).requests.deals
unmapped-keeps first n progress = (goes-unmapped (changed_cells progress.leaves first n) first n progress).keeps

goes-protected : (cells : List ℕ) (first n : ℕ) (progress : Progress) → Goes progress (protected_at cells first n progress)
goes-protected [] first n progress = goes-same progress progress (λ c. refl) (λ at told. told)
goes-protected (cell ∷ cells) first n progress =
    let course : Course = protected (first_in_cell cell first) (count_in_cell cell first n) (course_at cell progress) in
    goes-on progress (with_course cell course progress) _
    (goes-course cell course progress (acts-protected (first_in_cell cell first) (count_in_cell cell first n) (course_at cell progress)))
    (goes-protected cells first n (with_course cell course progress))

-- and another permission
pub protected-keeps : (first n : ℕ) (progress : Progress) → KeepsLeaves progress.leaves (pages_protected first n progress).leaves (pages_protected first n progress).requests.deals
protected-keeps first n progress = (goes-protected (changed_cells progress.leaves first n) first n progress).keeps

-- leaves that are as they were are kept, whatever the deals
pub same-keeps : (leaves : Leaves) (deals : List Deal) → KeepsLeaves leaves leaves deals
same-keeps leaves deals = keeps-same leaves leaves deals (λ c. refl)
