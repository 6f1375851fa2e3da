-- The touch of a range goes on by one page, and ends.
use Rattle.std.proofs.Common.{◌≡◌, ℕ, ◌+◌, ◌-◌, ◌<◌, ◌≤◌, List, [], ◌∷◌, ◌++◌, None, cond, eqb, refl, sym, ◌∙◌, ap, subst, arith, inl, inr, append_assoc, append-nil}
use Rattle.std.specs.Prelude.{Bool, true, false, not, ◌||◌, is_some, filter, zero, suc}
use Rattle.std.specs.List.{range_with_len, list_any}
use Rattle.std.specs.FinMap.{get}
use Rattle.std.proofs.lemmas.Bool.{cases_eq, ne_eqb}
use Rattle.std.proofs.lemmas.List.Elements.{filter-append}
use Rattle.vm_base.specs.Places.{cell_of}
use Rattle.vm_base.specs.Deals.{Deal}
use Rattle.vm_base.specs.FlatMemory.{PageMap}
use Rattle.vm_base.specs.FlatStep.{with_page, with_pages}
use Rattle.vm_base.proofs.Ranges.{range-split}
use Rattle.kernel_meaning.specs.Requests.{Answer, answers_of}
use Rattle.kernel_meaning.specs.EventRequests.{page_touched, pages_touched, pages_touched_behind, touch_goes_on, added_by, page_version}
use Rattle.page_tables.specs.declared.tables.PageTables.{PageTables}
use Rattle.page_tables.specs.Sides.{Sides}
use Rattle.page_tables.specs.Courses.{progress_between}
use Rattle.page_tables.specs.Standing.{TablesStandFor}
use Rattle.page_tables.specs.Accesses.{IsPageReady}
use Rattle.page_tables.specs.Making.{FollowsTouch}
use Rattle.page_tables.specs.Ranges.{cells_of_pages, absent_pages, IsTouchedUpTo, FollowsRange}
use Rattle.leaf_cell.proofs.TouchRuns.{answers-append}
use Rattle.page_tables.proofs.PageMaps.{with_page-apart}
use Rattle.page_tables.proofs.RangeRoom.{is_among, page-among, room-then}

-- one page more is there
pub with_pages-push : (n : ℕ) (pages : PageMap) (first : ℕ) → with_page (with_pages pages first n) (first + n) ≡ with_pages pages first (n + 1)
with_pages-push zero pages first = ap (with_page pages) (let e : first + 0 ≡ first = omega arith in e)
with_pages-push (suc n) pages first =
    ap (with_page (with_pages (with_page pages first) (first + 1) n)) (let e : first + suc n ≡ first + 1 + n = omega arith in e)
    ∙ with_pages-push n (with_page pages first) (first + 1)
    ∙ ap (with_pages pages first) (let e : suc (n + 1) ≡ suc n + 1 = omega arith in e)

pub get-with_pages_above : (n : ℕ) (pages : PageMap) (first q : ℕ) → first + n ≤ q → get (with_pages pages first n) q ≡ get pages q
get-with_pages_above zero pages first q above = refl
get-with_pages_above (suc n) pages first q above = get-with_pages_above n (with_page pages first) (first + 1) q (omega arith) ∙ with_page-apart pages first q (λ e. omega arith)

absent-push : (pages : PageMap) (first n : ℕ) → absent_pages pages first (n + 1) ≡ absent_pages pages first n ++ cond (is_some (get pages (first + n))) [] ((first + n) ∷ [])
absent-push pages first n =
    ap (filter (λ page. not (is_some (get pages page)))) (range-split first n 1) ∙ filter-append (λ page. not (is_some (get pages page))) (range_with_len first n) ((first + n) ∷ [])
    ∙ ap (λ xs. absent_pages pages first n ++ xs) (elim (is_some (get pages (first + n))) as (λ b. cond (not b) ((first + n) ∷ []) [] ≡ cond b [] ((first + n) ∷ [])) [ true ↦ refl | false ↦ refl ])

any-append : (test : ℕ → Bool) (xs ys : List ℕ) → list_any test xs ≡ false → list_any test ys ≡ false → list_any test (xs ++ ys) ≡ false
any-append test [] ys e f = f
any-append test (x ∷ xs) ys e f = elim (test x) as (λ b. (b || list_any test xs) ≡ false → (b || list_any test (xs ++ ys)) ≡ false) [ true ↦ λ e. e | false ↦ λ e. any-append test xs ys e f ] e

module _ (first n i : ℕ) (small : i < n) (added : List ℕ) (now next : PageTables) (deals more : List Deal) (sides : Sides) (slots : ℕ) (so_far : IsTouchedUpTo first n i added now deals sides slots)
    (page : ℕ) (here : page ≡ first + i) where
  abbrev pub sides_then : Sides
  sides_then = record { leaves = so_far.leaves; pages = with_pages sides.pages first i; snapshots = sides.snapshots; made = so_far.made }

  -- the run as it stands before this page
  pub before-page : (before : List Deal) (rest : List Answer) → pages_touched first n (progress_between sides.leaves sides.made (answers_of (deals ++ more) ++ rest) before)
      ≡ touch_goes_on (page_touched page (progress_between so_far.leaves so_far.made (answers_of more ++ rest) (before ++ deals))).refused added
      (page_touched page (progress_between so_far.leaves so_far.made (answers_of more ++ rest) (before ++ deals)))
      (pages_touched_behind (added ++ added_by so_far.leaves page) (page + 1) (n - (i + 1))
      (page_touched page (progress_between so_far.leaves so_far.made (answers_of more ++ rest) (before ++ deals))))
  before-page before rest =
      let left : n - i ≡ suc (n - (i + 1)) = omega arith in
      ap (λ xs. pages_touched first n (progress_between sides.leaves sides.made xs before)) (ap (λ xs. xs ++ rest) (answers-append deals more) ∙ append_assoc (answers_of deals) (answers_of more) rest)
      ∙ so_far.runs before (answers_of more ++ rest)
      ∙ ap (λ k. pages_touched_behind added (first + i) k (progress_between so_far.leaves so_far.made (answers_of more ++ rest) (before ++ deals))) left
      ∙ ap (λ p. touch_goes_on (page_touched p (progress_between so_far.leaves so_far.made (answers_of more ++ rest) (before ++ deals))).refused added
      (page_touched p (progress_between so_far.leaves so_far.made (answers_of more ++ rest) (before ++ deals)))
      (pages_touched_behind (added ++ added_by so_far.leaves p) (p + 1) (n - (i + 1))
      (page_touched p (progress_between so_far.leaves so_far.made (answers_of more ++ rest) (before ++ deals))))) (sym here)

  -- the page was granted
  module _ (was : Bool) (version : was ≡ is_some (page_version so_far.leaves page)) (bytes : was ≡ is_some (get (with_pages sides.pages first i) page))
      (touch : FollowsTouch page next more None sides_then) where
    abbrev noted : List ℕ
    noted = added ++ cond was [] (page ∷ [])

    runs_on : (before : List Deal) (rest : List Answer) → pages_touched first n (progress_between sides.leaves sides.made (answers_of (deals ++ more) ++ rest) before)
        ≡ pages_touched_behind noted (first + (i + 1)) (n - (i + 1)) (progress_between touch.follows.leaves touch.follows.made rest (before ++ (deals ++ more)))
    runs_on before rest =
        let count : page + 1 ≡ first + (i + 1) = omega (arith, here) in
        before-page before rest
        ∙ ap (λ next. touch_goes_on next.refused added next (pages_touched_behind (added ++ added_by so_far.leaves page) (page + 1) (n - (i + 1)) next))
        (touch.follows.runs.runs (before ++ deals) rest)
        ∙ λ j. pages_touched_behind (added ++ cond (sym version j) [] (page ∷ [])) (count j) (n - (i + 1))
        (progress_between touch.follows.leaves touch.follows.made rest (append_assoc before deals more j))

    pages_on : with_page (with_pages sides.pages first i) page ≡ with_pages sides.pages first (i + 1)
    pages_on = ap (with_page (with_pages sides.pages first i)) here ∙ with_pages-push i sides.pages first

    pub one-page-more : IsTouchedUpTo first n (i + 1) noted next (deals ++ more) sides slots
    one-page-more = record {
      leaves = touch.follows.leaves;
      made = touch.follows.made;
      runs = runs_on;
      stands = subst (λ pages. TablesStandFor next (record { leaves = touch.follows.leaves; pages = pages; snapshots = sides.snapshots; made = touch.follows.made })) pages_on touch.follows.stands;
      ready = λ q low high. elim (cases_eq q page) [
        | inl same ↦ subst (IsPageReady touch.follows.leaves) (sym same) (touch.ready refl)
        | inr apart ↦ touch.still q (so_far.ready q low (omega (arith, apart, high, here)))
      ];
      still = λ q ready. touch.still q (so_far.still q ready);
      new =
          let same : is_some (get (with_pages sides.pages first i) page) ≡ is_some (get sides.pages (first + i)) =
          ap is_some (get-with_pages_above i sides.pages first page (omega (arith, here)) ∙ ap (get sides.pages) here) in
          (λ j. so_far.new j ++ cond ((bytes ∙ same) j) [] (here j ∷ [])) ∙ sym (absent-push sides.pages first i);
      apart = λ q ready.
          any-append (eqb q) added (cond was [] (page ∷ [])) (so_far.apart q ready) (elim (cases_eq q page) [
            | inl same ↦ ap (λ b. list_any (eqb q) (cond b [] (page ∷ []))) (version ∙ subst (λ p. is_some (page_version so_far.leaves p) ≡ true) same (so_far.still q ready).present)
            | inr other ↦ elim was as (λ b. list_any (eqb q) (cond b [] (page ∷ [])) ≡ false) [ true ↦ refl | false ↦ ap (λ b. b || false) (ne_eqb q page other) ]
          ]);
      room = λ room.
          let among : is_among (cell_of page) (cells_of_pages first n) ≡ true = page-among first n page (omega (arith, here)) (omega (arith, here, small)) in
          room-then slots so_far.leaves (cells_of_pages first n) (cell_of page) (so_far.room room) among touch.follows.leaves (touch.found refl) (touch.size refl);
    }

-- all pages were granted
pub range-granted : (first n : ℕ) (added : List ℕ) (now : PageTables) (deals : List Deal) (sides : Sides) (slots : ℕ)
    → IsTouchedUpTo first n n added now deals sides slots → FollowsRange first n now deals None sides
range-granted first n added now deals sides slots so_far = record {
  follows = record {
    leaves = so_far.leaves;
    made = so_far.made;
    runs = record {
      runs = λ before rest. so_far.runs before rest
          ∙ ap (λ k. pages_touched_behind added (first + n) k (progress_between so_far.leaves so_far.made rest (before ++ deals))) (let e : n - n ≡ 0 = omega arith in e);
    };
    stands = so_far.stands;
  };
  ready = λ granted. so_far.ready;
  still = so_far.still;
}

-- no page was touched yet
pub none-touched : (first n : ℕ) (now : PageTables) (sides : Sides) (slots : ℕ) → TablesStandFor now sides → IsTouchedUpTo first n 0 [] now [] sides slots
none-touched first n now sides slots st = record {
  leaves = sides.leaves;
  made = sides.made;
  runs = λ before rest. λ j. pages_touched_behind [] ((let e : first ≡ first + 0 = omega arith in e) j) ((let e : n ≡ n - 0 = omega arith in e) j)
      (progress_between sides.leaves sides.made rest (sym (append-nil before) j));
  stands = st;
  ready = λ q low high. absurd (omega arith);
  still = λ q ready. ready;
  new = refl;
  apart = λ q ready. refl;
  room = λ room. room;
}
