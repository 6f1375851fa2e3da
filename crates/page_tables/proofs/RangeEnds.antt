-- The touch of a range is refused at a page, and what was added is taken out again.
use Rattle.std.proofs.Common.{◌≡◌, ℕ, ◌+◌, ◌-◌, ◌*◌, ◌/◌, ◌%◌, ◌^◌, ◌<◌, ◌≤◌, List, [], ◌∷◌, ◌++◌, length, Option, Some, None, cond, eqb, refl, sym, ◌∙◌, ap, subst, arith, inl, inr, append_assoc, append-nil}
use Rattle.std.specs.Prelude.{Bool, true, false, not, ◌||◌, ◌&&◌, is_some, IsSome, filter, zero, suc, All, slice_index_or}
use Rattle.std.specs.List.{range_with_len, list_any}
use Rattle.std.specs.FinMap.{get, get-retain_keys, nat_cmp-IsAntisymmetric}
use Rattle.std.proofs.lemmas.Bool.{cases_eq, cases_Bool, cases_lt, eq-eqb, ne_eqb, false≢true}
use Rattle.std.proofs.lemmas.Bool.Decides.{nat_tests}
use Rattle.std.proofs.lemmas.List.FromFn.{length-range_with_len}
use Rattle.vm_base.specs.Places.{cell_of}
use Rattle.vm_base.specs.Deals.{Deal}
use Rattle.vm_base.specs.FlatMemory.{PageMap}
use Rattle.vm_base.specs.FlatStep.{with_page, with_pages, is_beyond}
use Rattle.vm_base.proofs.NumberedMaps.{same_numbered}
use Rattle.vm_base.proofs.FlatPages.{get-with_pages_below}
use Rattle.kernel_meaning.specs.Requests.{Answer, answers_of}
use Rattle.kernel_meaning.specs.FrameLaw.{Leaves, held_frames}
use Rattle.kernel_meaning.specs.EventRequests.{FrameRefusal, pages_touched, pages_touched_behind, touch_goes_on, added_by, without_pages, without_page, page_version}
use Rattle.table_levels.specs.Requests.{returned}
use Rattle.table_levels.specs.Cells.{tables_of}
use Rattle.page_tables.specs.declared.tables.PageTables.{PageTables}
use Rattle.page_tables.specs.Sides.{Sides}
use Rattle.page_tables.specs.Courses.{requests_between, progress_between}
use Rattle.page_tables.specs.Standing.{TablesStandFor}
use Rattle.page_tables.specs.Held.{shares_in, snapshot_frames, frames_of}
use Rattle.page_tables.specs.Accesses.{IsPageReady}
use Rattle.page_tables.specs.Clearing.{sides_without}
use Rattle.page_tables.specs.Making.{FollowsTouch}
use Rattle.page_tables.specs.Ranges.{absent_pages, IsTouchedUpTo, FollowsRange, sides_without_pages, AreThere}
use Rattle.page_tables.proofs.HeldFrames.{frames-law}
use Rattle.page_tables.proofs.PageMaps.{present_or_zeros, with_page-apart, with_page-here}
use Rattle.page_tables.proofs.RangeRoom.{among-range}
use Rattle.page_tables.proofs.RangeSteps.{sides_then, before-page, get-with_pages_above}
use Rattle.page_tables.proofs.WithoutPages.{version-left, ready-left}
use Rattle.leaf_cell.proofs.TouchRuns.{answers-append, answers-returned}

-- ---- what is left of the sides

leaves-left : (pages : List ℕ) (sides : Sides) → (sides_without_pages pages sides).leaves ≡ without_pages pages sides.leaves
leaves-left [] sides = refl
leaves-left (page ∷ pages) sides = leaves-left pages (sides_without (cell_of page) (page % 512) 1 sides)

snapshots-left : (pages : List ℕ) (sides : Sides) → (sides_without_pages pages sides).snapshots ≡ sides.snapshots
snapshots-left [] sides = refl
snapshots-left (page ∷ pages) sides = snapshots-left pages (sides_without (cell_of page) (page % 512) 1 sides)

made-left : (pages : List ℕ) (sides : Sides) → (sides_without_pages pages sides).made ≡ sides.made
made-left [] sides = refl
made-left (page ∷ pages) sides = made-left pages (sides_without (cell_of page) (page % 512) 1 sides)

pub beyond-one : (page q : ℕ) → is_beyond (page / 512 * 512 + page % 512) 1 q ≡ not (eqb q page)
beyond-one page q = let whole : page / 512 * 512 + page % 512 ≡ page = omega arith in ap (λ p. is_beyond p 1 q) whole ∙ grind (arith, nat_tests)

pages-left : (pages : List ℕ) (sides : Sides) (q : ℕ) → get (sides_without_pages pages sides).pages q ≡ cond (list_any (eqb q) pages) None (get sides.pages q)
pages-left [] sides q = refl
pages-left (page ∷ pages) sides q =
    pages-left pages (sides_without (cell_of page) (page % 512) 1 sides) q
    ∙ ap (cond (list_any (eqb q) pages) None) (get-retain_keys sides.pages (is_beyond (page / 512 * 512 + page % 512) 1) q
    (λ x e. ap (is_beyond (page / 512 * 512 + page % 512) 1) (sym (nat_cmp-IsAntisymmetric q x e))) ∙ ap (λ b. cond b (get sides.pages q) None) (beyond-one page q))
    ∙ elim (eqb q page) as (λ b. cond (list_any (eqb q) pages) None (cond (not b) (get sides.pages q) None) ≡ cond (b || list_any (eqb q) pages) None (get sides.pages q)) [
      | true ↦ elim (list_any (eqb q) pages) as (λ b. cond {A = Option (List ℕ)} b None None ≡ None) [ true ↦ refl | false ↦ refl ]
      | false ↦ refl
    ]

-- ---- the pages that a touch added

-- a page that is there stays as it is
with_pages-keeps : (n : ℕ) (pages : PageMap) (first q : ℕ) → is_some (get pages q) ≡ true → get (with_pages pages first n) q ≡ get pages q
with_pages-keeps zero pages first q there = refl
with_pages-keeps (suc n) pages first q there = elim (cases_eq q first) [
  | inl here ↦
      let kept : get (with_page pages first) q ≡ get pages q = ap (get (with_page pages first)) here ∙ with_page-here pages first
      ∙ again (get pages first) (ap (λ p. is_some (get pages p)) (sym here) ∙ there) ∙ ap (get pages) (sym here) in
      with_pages-keeps n (with_page pages first) (first + 1) q (ap is_some kept ∙ there) ∙ kept
  | inr apart ↦ with_pages-keeps n (with_page pages first) (first + 1) q (ap is_some (with_page-apart pages first q apart) ∙ there) ∙ with_page-apart pages first q apart
]
  where
    again : (o : Option (List ℕ)) → is_some o ≡ true → Some (present_or_zeros o) ≡ o
    again None e = absurd (false≢true e)
    again (Some bytes) e = refl

any-filter : (test : ℕ → Bool) (q : ℕ) (xs : List ℕ) → list_any (eqb q) (filter test xs) ≡ (test q && list_any (eqb q) xs)
any-filter test q [] = elim (test q) as (λ b. false ≡ (b && false)) [ true ↦ refl | false ↦ refl ]
any-filter test q (x ∷ xs) = elim (cases_eq q x) [
  | inl same ↦
      let yes_here : eqb q x ≡ true = eq-eqb q x same in
      let rest : list_any (eqb q) (filter test xs) ≡ (test q && list_any (eqb q) xs) = any-filter test q xs in
      elim (test x) as (λ b. test x ≡ b → list_any (eqb q) (cond b (x ∷ filter test xs) (filter test xs)) ≡ (test q && (eqb q x || list_any (eqb q) xs))) [
        | true ↦ λ e. ap (λ b. b || list_any (eqb q) (filter test xs)) yes_here ∙ sym ((λ i. (ap test same ∙ e) i && (yes_here i || list_any (eqb q) xs)))
        | false ↦ λ e. rest ∙ ap (λ b. b && list_any (eqb q) xs) (ap test same ∙ e) ∙ sym (ap (λ b. b && (eqb q x || list_any (eqb q) xs)) (ap test same ∙ e))
      ] refl
  | inr apart ↦
      let other : eqb q x ≡ false = ne_eqb q x apart in
      let rest : list_any (eqb q) (filter test xs) ≡ (test q && list_any (eqb q) xs) = any-filter test q xs in
      elim (test x) as (λ b. list_any (eqb q) (cond b (x ∷ filter test xs) (filter test xs))
      ≡ list_any (eqb q) (filter test xs)) [ true ↦ ap (λ b. b || list_any (eqb q) (filter test xs)) other | false ↦ refl ]
      ∙ rest ∙ ap (λ b. test q && (b || list_any (eqb q) xs)) (sym other)
]

in-range : (q a n : ℕ) → list_any (eqb q) (range_with_len a n) ≡ true → (a ≤ q) × (q < a + n)
in-range q a zero e = absurd (false≢true e)
in-range q a (suc n) e = elim (cases_eq q a) [
  | inl here ↦ (omega arith, omega arith)
  | inr apart ↦
      let rest : (a + 1 ≤ q) × (q < a + 1 + n) = in-range q (a + 1) n (sym (ap (λ b. b || list_any (eqb q) (range_with_len (a + 1) n)) (ne_eqb q a apart)) ∙ e) in
      let low : a + 1 ≤ q = rest.0 in let high : q < a + 1 + n = rest.1 in
      (omega arith, omega arith)
]

out-of-range : (q a n : ℕ) → list_any (eqb q) (range_with_len a n) ≡ false → (a ≤ q) → (q < a + n) → ⊥
out-of-range q a n e low high = false≢true (sym e ∙ among-range q a n low high)

module _ (pages : PageMap) (first i : ℕ) (added : List ℕ) (new : added ≡ absent_pages pages first i) where
  pub added-if : (q : ℕ) → list_any (eqb q) added ≡ (not (is_some (get pages q)) && list_any (eqb q) (range_with_len first i))
  added-if q = ap (list_any (eqb q)) new ∙ any-filter (λ page. not (is_some (get pages page))) q (range_with_len first i)

  both-true : (a b : Bool) → (a && b) ≡ true → (a ≡ true) × (b ≡ true)
  both-true true b e = (refl, e)
  both-true false b e = absurd (false≢true e)

  -- a page that was added lies in the range
  pub added-within : (q : ℕ) → list_any (eqb q) added ≡ true → (first ≤ q) × (q < first + i)
  added-within q e = in-range q first i (both-true (not (is_some (get pages q))) (list_any (eqb q) (range_with_len first i)) (sym (added-if q) ∙ e)).1

  not-some : (o : Option (List ℕ)) → not (is_some o) ≡ true → o ≡ None
  not-some None e = refl
  not-some (Some bytes) e = absurd (false≢true e)

  -- without the pages that were added all is as it was
  pub restored : (q : ℕ) → cond (list_any (eqb q) added) None (get (with_pages pages first i) q) ≡ get pages q
  restored q = elim (cases_Bool (list_any (eqb q) added)) [
    | inl yes_in ↦
        ap (λ b. cond b None (get (with_pages pages first i) q)) yes_in
        ∙ sym (not-some (get pages q) (both-true (not (is_some (get pages q))) (list_any (eqb q) (range_with_len first i)) (sym (added-if q) ∙ yes_in)).0)
    | inr not_in ↦ ap (λ b. cond b None (get (with_pages pages first i) q)) not_in ∙ elim (cases_Bool (is_some (get pages q))) [
      | inl there ↦ with_pages-keeps i pages first q there
      | inr lost ↦ elim (cases_lt q first) [
        | inl below ↦ get-with_pages_below i pages first q below
        | inr above ↦ elim (cases_lt q (first + i)) [
          | inl inside ↦ absurd (out-of-range q first i (sym (ap (λ b. not b && list_any (eqb q) (range_with_len first i)) lost) ∙ sym (added-if q) ∙ not_in) above inside)
          | inr beyond ↦ get-with_pages_above i pages first q beyond
        ]
      ]
    ]
  ]

-- ---- what was added is there as it is taken out

there-range : (test : ℕ → Bool) (n a : ℕ) (leaves : Leaves) → ((q : ℕ) → list_any (eqb q) (filter test (range_with_len a n)) ≡ true → IsSome (page_version leaves q))
    → AreThere leaves (filter test (range_with_len a n))
there-range test zero a leaves there = tt
there-range test (suc n) a leaves there =
    elim (test a) as (λ b. ((q : ℕ) → list_any (eqb q) (cond b (a ∷ filter test (range_with_len (a + 1) n)) (filter test (range_with_len (a + 1) n))) ≡ true → IsSome (page_version leaves q))
    → AreThere leaves (cond b (a ∷ filter test (range_with_len (a + 1) n)) (filter test (range_with_len (a + 1) n)))) [
      | true ↦ λ there. (
        there a (ap (λ b. b || list_any (eqb a) (filter test (range_with_len (a + 1) n))) (eq-eqb a a refl)),
        there-range test n (a + 1) (without_page a leaves) (λ q e.
            let above : a + 1 ≤ q = (in-range q (a + 1) n (second (test q) (list_any (eqb q) (range_with_len (a + 1) n)) (sym (any-filter test q (range_with_len (a + 1) n)) ∙ e))).0 in
            ap is_some (version-left leaves a q (λ same. omega (arith, above, same)))
            ∙ there q (ap (λ b. eqb q a || b) e ∙ or-true (eqb q a))),
      )
      | false ↦ λ there. there-range test n (a + 1) leaves there
    ] there
  where
    second : (a b : Bool) → (a && b) ≡ true → b ≡ true
    second true b e = e
    second false b e = absurd (false≢true e)

    or-true : (a : Bool) → (a || true) ≡ true
    or-true true = refl
    or-true false = refl

-- each page that was added is there while all of the range are ready
pub added-there : (pages : PageMap) (first i : ℕ) (added : List ℕ) → added ≡ absent_pages pages first i → (leaves : Leaves)
    → ((q : ℕ) → first ≤ q → q < first + i → IsPageReady leaves q) → AreThere leaves added
added-there pages first i added new leaves ready =
    subst (AreThere leaves) (sym new) (there-range (λ page. not (is_some (get pages page))) i first leaves
    (λ q e. let within : (first ≤ q) × (q < first + i) = added-within pages first i added new q (ap (list_any (eqb q)) new ∙ e) in (ready q within.0 within.1).present))

at-among : (xs : List ℕ) (k d : ℕ) → k < length xs → list_any (eqb (slice_index_or xs k d)) xs ≡ true
at-among [] k d small = absurd (omega arith)
at-among (x ∷ xs) zero d small = ap (λ b. b || list_any (eqb x) xs) (eq-eqb x x refl)
at-among (x ∷ xs) (suc k) d small = elim (eqb (slice_index_or xs k d) x) as (λ b. (b || list_any (eqb (slice_index_or xs k d)) xs) ≡ true) [ true ↦ refl | false ↦ at-among xs k d (omega arith) ]

pub added-below : (pages : PageMap) (first i n : ℕ) (added : List ℕ) → added ≡ absent_pages pages first i → i ≤ n → first + n ≤ 2 ^ 36 → All (λ page. page < 2 ^ 36) added
added-below pages first i n added new few fits = λ k d small.
    let within : (first ≤ slice_index_or added k d) × (slice_index_or added k d < first + i) = added-within pages first i added new (slice_index_or added k d) (at-among added k d small) in
    let high : slice_index_or added k d < first + i = within.1 in
    omega (arith, high, few, fits)

filter-fewer : (test : ℕ → Bool) (xs : List ℕ) → length (filter test xs) ≤ length xs
filter-fewer test [] = omega arith
filter-fewer test (x ∷ xs) =
    let rest : length (filter test xs) ≤ length xs = filter-fewer test xs in
    elim (test x) as (λ b. length (cond b (x ∷ filter test xs) (filter test xs)) ≤ length (x ∷ xs)) [ true ↦ omega arith | false ↦ omega arith ]

-- no more were added than were touched
pub few-absent : (pages : PageMap) (first i : ℕ) (added : List ℕ) → added ≡ absent_pages pages first i → length added ≤ i
few-absent pages first i added new =
    let some : length added ≡ length (absent_pages pages first i) = ap length new in
    let few : length (absent_pages pages first i) ≤ length (range_with_len first i) = filter-fewer (λ page. not (is_some (get pages page))) (range_with_len first i) in
    let whole : length (range_with_len first i) ≡ i = length-range_with_len first i in
    omega (arith, some, few, whole)

-- ---- the end of a refused range

-- pages that are none of those taken out may still be stored to
ready-left-all : (pages : List ℕ) (leaves : Leaves) (q : ℕ) → list_any (eqb q) pages ≡ false → IsPageReady leaves q → IsPageReady (without_pages pages leaves) q
ready-left-all [] leaves q apart ready = ready
ready-left-all (page ∷ pages) leaves q apart ready = elim (cases_eq q page) [
  | inl same ↦ absurd (false≢true (sym apart ∙ ap (λ b. b || list_any (eqb q) pages) (eq-eqb q page same)))
  | inr other ↦ ready-left-all pages (without_page page leaves) q (sym (ap (λ b. b || list_any (eqb q) pages) (ne_eqb q page other)) ∙ apart) (ready-left leaves page q other ready)
]

module _ (first n i : ℕ) (small : i < n) (added : List ℕ) (now mid final : PageTables) (deals more : List Deal) (sides : Sides)
    (slots : ℕ) (so_far : IsTouchedUpTo first n i added now deals sides slots)
    (page : ℕ) (here : page ≡ first + i) (refusal : FrameRefusal) (touch : FollowsTouch page mid more (Some refusal) (sides_then first n i small added now mid deals more sides slots so_far page here))
    (taken : (s : Sides) → TablesStandFor mid s → TablesStandFor final (sides_without_pages added s)) (snapshot : final.snapshot ≡
    mid.snapshot) where
  abbrev back : ℕ
  back = frames_of mid - frames_of final

  abbrev mid_sides : Sides
  mid_sides = record { leaves = touch.follows.leaves; pages = with_pages sides.pages first i; snapshots = sides.snapshots; made = touch.follows.made }

  abbrev final_leaves : Leaves
  final_leaves = without_pages added touch.follows.leaves

  abbrev final_sides : Sides
  final_sides = record { leaves = final_leaves; pages = sides.pages; snapshots = sides.snapshots; made = touch.follows.made }

  same_pages : (sides_without_pages added mid_sides).pages ≡ sides.pages
  same_pages = same_numbered _ _ (λ q. pages-left added mid_sides q ∙ restored sides.pages first i added so_far.new q)

  ends : TablesStandFor final final_sides
  ends = subst (TablesStandFor final)
      (λ j. record { leaves = leaves-left added mid_sides j; pages = same_pages j; snapshots = snapshots-left added mid_sides j; made = made-left added mid_sides j })
      (taken mid_sides touch.follows.stands)

  -- as many frames go back as the law counts
  counted : held_frames touch.follows.leaves - held_frames final_leaves ≡ back
  counted =
      let before : held_frames touch.follows.leaves ≡ tables_of mid.directory + snapshot_frames mid.snapshot + shares_in mid.slots.items =
      frames-law mid.directory mid.snapshot mid.slots.items mid_sides touch.follows.stands in
      let after : held_frames final_leaves ≡ tables_of final.directory + snapshot_frames final.snapshot + shares_in final.slots.items =
      frames-law final.directory final.snapshot final.slots.items final_sides ends in
      let same : snapshot_frames final.snapshot ≡ snapshot_frames mid.snapshot = ap snapshot_frames snapshot in
      omega (arith, before, after, same, mid.even, final.even)

  abbrev all : List Deal
  all = deals ++ (more ++ returned back)

  all_answers : (rest : List Answer) → answers_of all ++ rest ≡ answers_of (deals ++ more) ++ rest
  all_answers rest = ap (λ xs. xs ++ rest) (ap answers_of (sym (append_assoc deals more (returned back))) ∙ answers-append (deals ++ more) (returned back)
      ∙ ap (λ xs. answers_of (deals ++ more) ++ xs) (answers-returned back) ∙ append-nil (answers_of (deals ++ more)))

  runs_all : (before : List Deal) (rest : List Answer) → pages_touched first n (progress_between sides.leaves sides.made (answers_of all ++ rest) before)
      ≡ record { leaves = final_leaves; requests = requests_between touch.follows.made rest (before ++ all); refused = Some refusal }
  runs_all before rest =
      ap (λ xs. pages_touched first n (progress_between sides.leaves sides.made xs before)) (all_answers rest)
      ∙ before-page first n i small added now mid deals more sides slots so_far page here before rest
      ∙ ap (λ next. touch_goes_on next.refused added next (pages_touched_behind (added ++ added_by so_far.leaves page) (page + 1) (n - (i + 1)) next)) (touch.follows.runs.runs (before ++ deals) rest)
      ∙ (λ j. record { leaves = final_leaves; requests = requests_between touch.follows.made rest (((before ++ deals) ++ more) ++ returned (counted j)); refused = Some refusal })
      ∙ ap (λ ds. record { leaves = final_leaves; requests = requests_between touch.follows.made rest ds; refused = Some refusal })
      (append_assoc (before ++ deals) more (returned back) ∙ append_assoc before deals (more ++ returned back))

  pub range-refused : FollowsRange first n final all (Some refusal) sides
  range-refused = record {
    follows = record { leaves = final_leaves; made = touch.follows.made; runs = record { runs = runs_all }; stands = ends };
    ready = λ granted. absurd (false≢true (ap is_some (sym granted)));
    still = λ q ready. ready-left-all added touch.follows.leaves q (so_far.apart q ready) (touch.still q (so_far.still q ready));
  }
