-- Pages of a block of entries, and blocks one behind another.
use Rattle.std.proofs.Common.{◌≡◌, ℕ, zero, suc, ◌+◌, ◌-◌, ◌*◌, ◌<◌, ◌≤◌, List, [], ◌∷◌, ◌++◌, length, take, drop, get_or, replicate, Option, Some, None, refl, sym, ◌∙◌, ap, arith, inl, inr, subst, get_or-drop, get_or-take}
use Rattle.std.specs.Prelude.{is_some, Bool, true, false, ◌||◌, ◌&&◌, nat_eq, cond}
use Rattle.std.specs.Cmp.Lexicographic.{pointwise}
use Rattle.std.proofs.lemmas.Bool.{and_parts, eqb-true, false≢true, cases_lt}
use Rattle.std.proofs.lemmas.List.{get_or-replicate, take_all}
use Rattle.std.specs.List.{list_any}
use Rattle.vm_base.specs.Deals.{Deal, Returned, LeadsAlong}
use Rattle.vm_base.specs.FlatMemory.{zero_page}
use Rattle.vm_base.specs.FlatStep.{is_beyond}
use Rattle.vm_base.specs.Frames.{FrameView}
use Rattle.vm_base.proofs.DealLemmas.{LeadsAlong-append}
use Rattle.kernel_meaning.specs.Leaves.{Versions, no_versions, version_at, has_pages, has_present}
use Rattle.leaf_cell.specs.Inside.{AreWritable, is_apart}
use Rattle.leaf_cell.specs.Permissions.{table_allowed}
use Rattle.leaf_cell.specs.Places.{TableView, word_at, place_in, places_of}
use Rattle.leaf_cell.specs.Releasing.{Releasing}
use Rattle.leaf_cell.specs.Writable.{writable_at, with_writable}
use Rattle.leaf_cell.proofs.AbsentPages.{has_present-more}
use Rattle.leaf_cell.proofs.AllowedPages.{apart-allowed}
use Rattle.leaf_cell.proofs.NewCell.{none_is_not_some}
use Rattle.leaf_cell.proofs.Releases.{replicate-both}
use Rattle.leaf_cell.proofs.TableWords.{little_from-same, zero_word, zero_byte, version_at-places_of}
use Rattle.leaf_cell.proofs.WritablePages.{absent-apart, beyond-within, beyond-outside, length-with_writable, writable_at-with, writable_at-within, writable_at-outside, with_writable-is, with_writable-same}

-- lists that a comparison finds equal have the same bytes
same_bytes : (xs ys : List ℕ) → pointwise nat_eq xs ys ≡ true → (k : ℕ) → get_or xs k 0 ≡ get_or ys k 0
same_bytes [] [] same k = refl
same_bytes [] (y ∷ ys) same k = absurd (false≢true same)
same_bytes (x ∷ xs) [] same k = absurd (false≢true same)
same_bytes (x ∷ xs) (y ∷ ys) same zero = eqb-true x y (and_parts (nat_eq x y) (pointwise nat_eq xs ys) same).0
same_bytes (x ∷ xs) (y ∷ ys) same (suc k) = same_bytes xs ys (and_parts (nat_eq x y) (pointwise nat_eq xs ys) same).1 k

-- eight entries whose bytes are all zero have no page
pub bare_page : (bytes : List ℕ) (first n : ℕ) → n ≡ 64 → first + 8 ≤ 512
    → pointwise nat_eq (take n (drop (8 * first) bytes)) (replicate 64 0) ≡ true
    → (k : ℕ) → first ≤ k → k < first + 8 → version_at (places_of bytes) k ≡ None
bare_page bytes first n size room same k above below =
    version_at-places_of bytes k (omega (arith, room, below))
    ∙ ap place_in (little_from-same (drop (8 * k) bytes) (drop (8 * k) zero_page) 0 8 (λ j from to.
    let small : 8 * k + j - 8 * first < n = omega (arith, size, above, below, to) in
    let place : 8 * first + (8 * k + j - 8 * first) ≡ 8 * k + j = omega (arith, above) in
    get_or-drop (8 * k) bytes j 0
    ∙ ap (λ i. get_or bytes i 0) (sym place)
    ∙ sym (get_or-drop (8 * first) bytes (8 * k + j - 8 * first) 0)
    ∙ sym (get_or-take n (drop (8 * first) bytes) (8 * k + j - 8 * first) 0 small)
    ∙ same_bytes (take n (drop (8 * first) bytes)) (replicate 64 0) same (8 * k + j - 8 * first)
    ∙ get_or-replicate 64 (8 * k + j - 8 * first) 0 0 (omega (arith, size, small))
    ∙ sym (zero_byte (8 * k + j))
    ∙ sym (get_or-drop (8 * k) zero_page j 0))
    ∙ zero_word k)

-- a range of absent pages
pub has_present-absent : (places : Versions) (first n : ℕ) → ((k : ℕ) → first ≤ k → k < first + n → version_at places k ≡ None)
    → has_present places first n ≡ false
has_present-absent places first zero none = refl
has_present-absent places first (suc n) none = has_present-more places first n
    ∙ ap (λ b. b || is_some (version_at places (first + n)))
    (has_present-absent places first n (λ k above below. none k above (omega (arith, below))))
    ∙ ap is_some (none (first + n) (omega arith) (omega arith))

-- a range of pages, and one behind it
pub has_present-both : (places : Versions) (first a n : ℕ)
    → has_present places first (a + n) ≡ (has_present places first a || has_present places (first + a) n)
has_present-both places first a zero = ap (has_present places first) none ∙ sym (or-false (has_present places first a))
  where
    none : a + zero ≡ a
    none = omega arith

    or-false : (b : Bool) → (b || false) ≡ b
    or-false true = refl
    or-false false = refl
has_present-both places first a (suc n) =
    ap (has_present places first) more ∙ has_present-more places first (a + n)
    ∙ ap (λ b. b || is_some (version_at places (first + (a + n)))) (has_present-both places first a n)
    ∙ or-assoc (has_present places first a) (has_present places (first + a) n) (is_some (version_at places (first + (a + n))))
    ∙ ap (λ i. has_present places first a || (has_present places (first + a) n || is_some (version_at places i))) place
    ∙ ap (λ b. has_present places first a || b) (sym (has_present-more places (first + a) n))
  where
    more : a + suc n ≡ suc (a + n)
    more = omega arith

    place : first + (a + n) ≡ first + a + n
    place = omega arith

    or-assoc : (x y z : Bool) → ((x || y) || z) ≡ (x || (y || z))
    or-assoc true y z = refl
    or-assoc false y z = refl

-- a page of a block behind absent pages, or none
pub pages-there : (places : Versions) (a : ℕ) → has_present places 0 a ≡ false → has_present places a 8 ≡ true → has_pages places ≡ true
pages-there places a none there =
    sym (ap (list_any is_some) (take_all (a + 8 + length places) places (omega arith)))
    ∙ has_present-both places 0 (a + 8) (length places)
    ∙ ap (λ b. b || has_present places (0 + (a + 8)) (length places)) (block-more places a ∙ ap (λ b. b || has_present places a 8) none
    ∙ there)
  where
    block-more : (places : Versions) (a : ℕ) → has_present places 0 (a + 8) ≡ (has_present places 0 a || has_present places a 8)
    block-more places a = has_present-both places 0 a 8 ∙ ap (λ i. has_present places 0 a || has_present places i 8) start
      where
        start : 0 + a ≡ a
        start = omega arith

pub block-none : (places : Versions) (a next : ℕ) → next ≡ a + 8 → has_present places 0 a ≡ false → has_present places a 8 ≡ false
    → has_present places 0 next ≡ false
block-none places a next is none absent = ap (has_present places 0) is ∙ has_present-both places 0 a 8
    ∙ ap (λ b. b || has_present places (0 + a) 8) none ∙ ap (λ i. has_present places i 8) start ∙ absent
  where
    start : 0 + a ≡ a
    start = omega arith

pub pages-none : (places : Versions) (a : ℕ) → length places ≤ a → has_present places 0 a ≡ false → has_pages places ≡ false
pages-none places a all none = sym (ap (list_any is_some) (take_all a places all)) ∙ none

-- no frame of a range of absent pages is given back
pub releasing-bare : {State : Type 0} (goes : State → Deal → State
    → Type 0) (state : State) (own other : Versions) (frames : List (Option FrameView)) (first upto : ℕ)
    → ((k : ℕ) → first ≤ k → k < upto → version_at own k ≡ None) → Releasing goes state state own other frames frames first upto
releasing-bare goes state own other frames first upto none = record {
  count = 0;
  led = refl;
  taken = omega arith;
  room = refl;
  each = λ place. inl refl;
  kept = λ page place named. refl;
  apart = λ page place small home outside. refl;
  gone = λ page place above below named unnamed. none_is_not_some (version_at own page) place (none page above below) named;
}

-- the frames of a range are given back, and then those of the range behind it
pub releasing-both : {State : Type 0} (goes : State → Deal → State
    → Type 0) (from middle to : State) (own other : Versions) (old now new : List (Option FrameView)) (first page upto : ℕ)
    → first ≤ page → page ≤ upto → Releasing goes from middle own other old now first page
    → Releasing goes middle to own other now new page upto
    → Releasing goes from to own other old new first upto
releasing-both goes from middle to own other old now new first page upto begun ended before after = record {
  count = before.count + after.count;
  led = subst (λ deals. LeadsAlong goes from deals to) (replicate-both Returned before.count after.count)
      (LeadsAlong-append goes (replicate before.count Returned) (replicate after.count Returned) from middle to before.led after.led);
  taken = omega (arith, before.taken, after.taken);
  room = after.room ∙ before.room;
  each = λ q. elim (after.each q) [
    | inl same ↦ elim (before.each q) [ inl e ↦ inl (same ∙ e) | inr e ↦ inr (same ∙ e) ]
    | inr none ↦ inr none
  ];
  kept = λ p q named. after.kept p q named ∙ before.kept p q named;
  apart = λ p q small home outside. after.apart p q small home
      (elim outside [ inl below ↦ inl (omega (arith, below, begun)) | inr above ↦ inr above ])
      ∙ before.apart p q small home (elim outside [ inl below ↦ inl below | inr above ↦ inr (omega (arith, above, ended)) ]);
  gone = λ p q above below named unnamed. elim (cases_lt p page) [
    | inl earlier ↦ elim (after.each q) [
      | inl same ↦ same ∙ before.gone p q above earlier named unnamed
      | inr none ↦ none
    ]
    | inr later ↦ after.gone p q later below named unnamed
  ];
}

-- a range of absent pages is as it was, whatever is allowed
pub bare-allowed : (may : Bool) (other : Versions) (first n : ℕ) (table : TableView) → AreWritable (Some table) other
    → ((k : ℕ) → first ≤ k → k < first + n → version_at table.places k ≡ None) → table ≡ table_allowed may other first n table
bare-allowed may other first n table writable none = λ i. record {
  places = table.places;
  writable = with_writable-same (λ p. may && is_apart other table.places p) first n table.writable writable.size (λ page small above below.
      let absent : is_apart other table.places page ≡ false = absent-apart other table.places page (none page above below) in
      ap (λ b. may && b) absent ∙ never may ∙ sym (by page (writable_at table.writable page) refl (writable.apart page) absent)) i;
}
  where
    never : (b : Bool) → (b && false) ≡ false
    never true = refl
    never false = refl

    by : (page : ℕ) (b : Bool) → writable_at table.writable page ≡ b
        → (writable_at table.writable page ≡ true → is_apart other table.places page ≡ true)
        → is_apart other table.places page ≡ false → b ≡ false
    by page true may apart absent = absurd (false≢true (sym absent ∙ apart may))
    by page false may apart absent = refl

-- pages that may be written to are apart, whatever was allowed
pub writable-allowed : (may : Bool) (other : Versions) (first n : ℕ) (table : TableView) → AreWritable (Some table) other
    → AreWritable (Some (table_allowed may other first n table)) other
writable-allowed may other first n table writable = record {
  size = length-with_writable (λ p. may && is_apart other table.places p) first n table.writable;
  apart = apart-allowed may other first n table writable.apart;
}

-- a range, and then the range behind it
module _ (test : ℕ → Bool) (first n m : ℕ) (writable : List Bool) where
  abbrev before : List Bool
  before = with_writable test first n writable

  abbrev beside : Bool → ℕ → Bool
  beside b page = cond b (writable_at writable page) (test page)

  with_writable-both : with_writable test (first + n) m before ≡ with_writable test first (n + m) writable
  with_writable-both = with_writable-is test first (n + m) writable (with_writable test (first + n) m before)
      (length-with_writable test (first + n) m before)
      (λ page small. elim (cases_lt page first) [
        | inl below ↦ writable_at-outside test (first + n) m before page small (inl (omega (arith, below)))
            ∙ writable_at-outside test first n writable page small (inl below)
            ∙ sym (ap (λ b. beside b page) (beyond-outside first (n + m) page (inl below)))
        | inr above ↦ elim (cases_lt page (first + n)) [
          | inl early ↦ writable_at-outside test (first + n) m before page small (inl early)
              ∙ writable_at-within test first n writable page small above early
              ∙ sym (ap (λ b. beside b page) (beyond-within first (n + m) page above (omega (arith, early))))
          | inr late ↦ elim (cases_lt page (first + n + m)) [
            | inl within ↦ writable_at-within test (first + n) m before page small late within
                ∙ sym (ap (λ b. beside b page) (beyond-within first (n + m) page above (omega (arith, within))))
            | inr past ↦ writable_at-outside test (first + n) m before page small (inr past)
                ∙ writable_at-outside test first n writable page small (inr late)
                ∙ sym (ap (λ b. beside b page) (beyond-outside first (n + m) page (inr (omega (arith, past)))))
          ]
        ]
      ])

pub both-allowed : (may : Bool) (other : Versions) (first n m : ℕ) (table : TableView)
    → table_allowed may other (first + n) m (table_allowed may other first n table) ≡ table_allowed may other first (n + m) table
both-allowed may other first n m table = λ i. record {
  places = table.places;
  writable = with_writable-both (λ p. may && is_apart other table.places p) first n m table.writable i;
}
