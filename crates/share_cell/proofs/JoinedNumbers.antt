-- The numbers of the snapshots whose leaves are joined, one after another.
use Rattle.std.proofs.Common.{◌≡◌, ℕ, zero, suc, ◌+◌, ◌<◌, ◌≤◌, List, [], ◌∷◌, length, Option, Some, None, refl, sym, ◌∙◌, ap, subst, arith, inl, inr}
use Rattle.std.specs.Prelude.{Bool, true, false, not, ◌&&◌, cond, map, filter, drop, is_some, unwrap_or, ◌==◌}
use Rattle.std.specs.List.{slice_get, AllByRecursion}
use Rattle.std.specs.Option.{option_map}
use Rattle.std.proofs.lemmas.Option.{slice_get_within}
use Rattle.std.proofs.lemmas.Bool.{false≢true, and_parts, eqb-true, ne_eqb, cases_eq}
use Rattle.vm_base.specs.declared.fork_mode.Mode.{Mode}
use Rattle.vm_base.specs.declared.fork_mode.Mode.TheVariants.{Eager, OnDemand, Async}
use Rattle.kernel_meaning.specs.Leaves.{Leaf, Own, Joined, Lost, Kept, is_joined, is_async, has_joined, kept_by, AreAbove, AreRising}
use Rattle.kernel_meaning.specs.CellActs.{is_number}
use Rattle.leaf_cell.specs.States.{leaf_state, state_of, nth_number}
use Rattle.leaf_cell.specs.Renaming.{AreKeptAlike}
use Rattle.leaf_cell.proofs.Renamed.{eqb-refl}
use Rattle.share_cell.specs.declared.joining.Joining.{Joining}
use Rattle.share_cell.specs.declared.joining.Joining.TheVariants.{Shared, Marked}
use Rattle.share_cell.specs.Copies.{AreCopied, IsLeafCopied, is_joined_by, is_state_joined}

-- the numbers of the snapshots that pass a test
abbrev pub numbers : (Kept → Bool) → List Kept → List ℕ
numbers test kept = map (λ it. it.number) (filter test kept)

abbrev head_of : List ℕ → ℕ
head_of [] = 0
head_of (x ∷ xs) = x

abbrev pub tail_of : List ℕ → List ℕ
tail_of [] = []
tail_of (x ∷ xs) = xs

pub nil-cons : (m : ℕ) (rest : List ℕ) → [] ≡ m ∷ rest → ⊥
nil-cons m rest e = let l : 0 ≡ length (m ∷ rest) = ap length e in omega arith

pub joined-by : (joining : Joining) (it : Kept) → is_joined_by joining it ≡ true → is_joined it.leaf ≡ true
joined-by Shared it h = (and_parts (is_joined it.leaf) (not (is_async it.mode)) h).0
joined-by Marked it h = (and_parts (is_joined it.leaf) (is_async it.mode) h).0

-- a test looks at mode and leaf alone
pub same-test : (joining : Joining) (a b : Kept) → b.mode ≡ a.mode → b.leaf ≡ a.leaf → is_joined_by joining b ≡ is_joined_by joining a
same-test Shared a b mode leaf = λ i. is_joined (leaf i) && not (is_async (mode i))
same-test Marked a b mode leaf = λ i. is_joined (leaf i) && is_async (mode i)

pub not-joined : (joining : Joining) (it : Kept) → is_joined it.leaf ≡ false → is_joined_by joining it ≡ false
not-joined Shared it h = ap (λ b. b && not (is_async it.mode)) h
not-joined Marked it h = ap (λ b. b && is_async it.mode) h

-- what a cell says of a leaf tells the test
pub state-tells : (joining : Joining) (it : Kept) → is_state_joined joining (leaf_state it.mode it.leaf) ≡ is_joined_by joining it
state-tells joining it = by joining it.mode it.leaf
  where
    by : (joining : Joining) (mode : Mode) (leaf : Leaf)
        → is_state_joined joining (leaf_state mode leaf) ≡ is_joined_by joining (record it { mode = mode; leaf = leaf })
    by Shared Eager Own = refl
    by Shared Eager Joined = refl
    by Shared Eager (Lost at) = refl
    by Shared OnDemand Own = refl
    by Shared OnDemand Joined = refl
    by Shared OnDemand (Lost at) = refl
    by Shared Async Own = refl
    by Shared Async Joined = refl
    by Shared Async (Lost at) = refl
    by Marked Eager Own = refl
    by Marked Eager Joined = refl
    by Marked Eager (Lost at) = refl
    by Marked OnDemand Own = refl
    by Marked OnDemand Joined = refl
    by Marked OnDemand (Lost at) = refl
    by Marked Async Own = refl
    by Marked Async Joined = refl
    by Marked Async (Lost at) = refl

-- ---- the nth snapshot

pub past-end : (kept : List Kept) (nth : ℕ) → slice_get kept nth ≡ None → drop nth kept ≡ []
past-end [] zero none = refl
past-end [] (suc nth) none = refl
past-end (it ∷ others) zero none = absurd (false≢true (sym (ap is_some none)))
past-end (it ∷ others) (suc nth) none = past-end others nth none

pub one-more : (kept : List Kept) (nth : ℕ) (it : Kept) → slice_get kept nth ≡ Some it → drop nth kept ≡ it ∷ drop (suc nth) kept
one-more [] nth it there = absurd (false≢true (ap is_some there))
one-more (k ∷ others) zero it there = ap (λ o. unwrap_or o k ∷ others) there
one-more (k ∷ others) (suc nth) it there = one-more others nth it there

above-nth : (kept : List Kept) (nth : ℕ) (it : Kept) (n : ℕ) → AreAbove n kept → slice_get kept nth ≡ Some it → n < it.number
above-nth [] nth it n above there = absurd (false≢true (ap is_some there))
above-nth (k ∷ others) zero it n above there = subst (λ x. n < x.number) (ap (λ o. unwrap_or o k) there) above.0
above-nth (k ∷ others) (suc nth) it n above there = above-nth others nth it n above.1 there

-- each number is there once
pub found-nth : (kept : List Kept) (nth : ℕ) (it : Kept) → AreRising kept → slice_get kept nth ≡ Some it → kept_by kept it.number ≡ Some it
found-nth [] nth it rising there = absurd (false≢true (ap is_some there))
found-nth (k ∷ others) zero it rising there =
    let same : k ≡ it = ap (λ o. unwrap_or o k) there in
    ap (λ b. cond b (Some k) (kept_by others it.number)) (ap (λ x. x.number == it.number) same ∙ eqb-refl it.number) ∙ ap Some same
found-nth (k ∷ others) (suc nth) it rising there =
    ap (λ b. cond b (Some k) (kept_by others it.number))
    (ne_eqb k.number it.number (λ e. absurd (omega (arith, e, above-nth others nth it k.number rising.0 there))))
    ∙ found-nth others nth it rising.1 there

-- the nth snapshot, where its number is known
pub record IsNth (kept : List Kept) (nth n : ℕ) : Type 0 where
  pub it : Kept
  pub there : slice_get kept nth ≡ Some it
  pub number : it.number ≡ n

pub is-nth : (kept : List Kept) (nth n : ℕ) → nth_number kept nth ≡ Some n → IsNth kept nth n
is-nth kept nth n e = by (slice_get kept nth) refl e
  where
    by : (o : Option Kept) → slice_get kept nth ≡ o → option_map (λ it. it.number) o ≡ Some n → IsNth kept nth n
    by None is e = absurd (false≢true (ap is_some e))
    by (Some it) is e = record { it = it; there = is; number = ap (λ o. unwrap_or o it.number) e }

module _ (joining : Joining) (kept : List Kept) (nth : ℕ)
    (in-front : numbers (is_joined_by joining) (drop nth kept) ≡ numbers (is_joined_by joining) kept) where
  -- it is the first that passes
  pub found-first : (n : ℕ) → AreRising kept → nth_number kept nth ≡ Some n → is_state_joined joining (state_of (kept_by kept n)) ≡ true
      → Some n ≡ slice_get (numbers (is_joined_by joining) kept) 0
  found-first n rising number told =
      let here : IsNth kept nth n = is-nth kept nth n number in
      let found : kept_by kept n ≡ Some here.it = subst (λ x. kept_by kept x ≡ Some here.it) here.number
      (found-nth kept nth here.it rising here.there) in
      let passes : is_joined_by joining here.it ≡ true =
      sym (state-tells joining here.it) ∙ ap (λ o. is_state_joined joining (state_of o)) (sym found) ∙ told in
      ap Some (sym here.number)
      ∙ ap (λ b. slice_get (map (λ it. it.number) (cond b (here.it ∷ filter (is_joined_by joining) (drop (suc nth) kept))
      (filter (is_joined_by joining) (drop (suc nth) kept)))) 0) (sym passes)
      ∙ ap (λ xs. slice_get (numbers (is_joined_by joining) xs) 0) (sym (one-more kept nth here.it here.there))
      ∙ ap (λ ns. slice_get ns 0) in-front

  -- it does not pass
  pub passed-by : (n : ℕ) → AreRising kept → nth_number kept nth ≡ Some n → is_state_joined joining (state_of (kept_by kept n)) ≡ false
      → (numbers (is_joined_by joining) (drop (suc nth) kept) ≡ numbers (is_joined_by joining) kept) × (nth < length kept)
  passed-by n rising number told =
      let here : IsNth kept nth n = is-nth kept nth n number in
      let found : kept_by kept n ≡ Some here.it = subst (λ x. kept_by kept x ≡ Some here.it) here.number
      (found-nth kept nth here.it rising here.there) in
      let fails : is_joined_by joining here.it ≡ false =
      sym (state-tells joining here.it) ∙ ap (λ o. is_state_joined joining (state_of o)) (sym found) ∙ told in (
        ap (λ b. map (λ it. it.number) (cond b (here.it ∷ filter (is_joined_by joining) (drop (suc nth) kept))
            (filter (is_joined_by joining) (drop (suc nth) kept)))) (sym fails)
            ∙ ap (numbers (is_joined_by joining)) (sym (one-more kept nth here.it here.there))
            ∙ in-front,
        slice_get_within kept nth here.it here.there,
      )

  -- there are no more
  pub none-first : nth_number kept nth ≡ None → None ≡ slice_get (numbers (is_joined_by joining) kept) 0
  none-first none = ap (λ xs. slice_get (numbers (is_joined_by joining) xs) 0) (sym (past-end kept nth (nothing (slice_get kept nth) none)))
      ∙ ap (λ ns. slice_get ns 0) in-front
    where
      nothing : (o : Option Kept) → option_map (λ it. it.number) o ≡ None → o ≡ None
      nothing None e = refl
      nothing (Some it) e = absurd (false≢true (sym (ap is_some e)))

-- ---- the first of them

head-above : (test : Kept → Bool) (n m : ℕ) (kept : List Kept) (rest : List ℕ) → AreAbove n kept → numbers test kept ≡ m ∷ rest → n < m
head-above test n m [] rest above e = absurd (nil-cons m rest e)
head-above test n m (k ∷ others) rest above e = by (test k) e (head-above test n m others rest above.1)
  where
    by : (b : Bool) → map (λ it. it.number) (cond b (k ∷ filter test others) (filter test others)) ≡ m ∷ rest
        → (numbers test others ≡ m ∷ rest → n < m) → n < m
    by true e later = subst (λ x. n < x) (ap head_of e) above.0
    by false e later = later e

pub first-joined : (joining : Joining) (n : ℕ) (kept : List Kept) (rest : List ℕ) → AreRising kept
    → numbers (is_joined_by joining) kept ≡ n ∷ rest → has_joined (kept_by kept n) ≡ true
first-joined joining n [] rest rising e = absurd (nil-cons n rest e)
first-joined joining n (k ∷ others) rest rising e = by (is_joined_by joining k) refl e (first-joined joining n others rest rising.1)
  where
    by : (b : Bool) → is_joined_by joining k ≡ b → map (λ it. it.number)
        (cond b (k ∷ filter (is_joined_by joining) others) (filter (is_joined_by joining) others)) ≡ n ∷ rest
        → (numbers (is_joined_by joining) others ≡ n ∷ rest → has_joined (kept_by others n) ≡ true)
        → has_joined (cond (k.number == n) (Some k) (kept_by others n)) ≡ true
    by true is e later = ap (λ b. has_joined (cond b (Some k) (kept_by others n))) (ap (λ x. x == n) (ap head_of e) ∙ eqb-refl n)
        ∙ joined-by joining k is
    by false is e later = ap (λ b. has_joined (cond b (Some k) (kept_by others n)))
        (ne_eqb k.number n (λ same. absurd (omega (arith, same, head-above (is_joined_by joining) k.number n others rest rising.0 e))))
        ∙ later e

none-above : (joining : Joining) (n : ℕ) (kept : List Kept) → AreAbove n kept
    → AllByRecursion (λ it. (it.number == n) ≡ true → is_joined_by joining it ≡ true) kept
none-above joining n [] above = tt
none-above joining n (it ∷ others) above = (
  (λ same. absurd (omega (arith, eqb-true it.number n same, above.0))),
  none-above joining n others above.1,
)

-- the snapshot of this number passes the test, where one has it
pub first-passes : (joining : Joining) (n : ℕ) (kept : List Kept) (rest : List ℕ) → AreRising kept
    → numbers (is_joined_by joining) kept ≡ n ∷ rest
    → AllByRecursion (λ it. (it.number == n) ≡ true → is_joined_by joining it ≡ true) kept
first-passes joining n [] rest rising e = tt
first-passes joining n (k ∷ others) rest rising e = by (is_joined_by joining k) refl e (first-passes joining n others rest rising.1)
  where
    by : (b : Bool) → is_joined_by joining k ≡ b → map (λ it. it.number)
        (cond b (k ∷ filter (is_joined_by joining) others) (filter (is_joined_by joining) others)) ≡ n ∷ rest
        → (numbers (is_joined_by joining) others ≡ n ∷ rest
        → AllByRecursion (λ it. (it.number == n) ≡ true → is_joined_by joining it ≡ true) others)
        → ((k.number == n) ≡ true → is_joined_by joining k ≡ true)
        × AllByRecursion (λ it. (it.number == n) ≡ true → is_joined_by joining it ≡ true) others
    by true is e later = ((λ same. is), none-above joining n others (subst (λ x. AreAbove x others) (ap head_of e) rising.0))
    by false is e later = (
      (λ same. absurd (omega (
        arith,
        eqb-true k.number n same,
        head-above (is_joined_by joining) k.number n others rest rising.0 e,
      ))),
      later e,
    )

-- a leaf that was copied is not joined
copied-unjoined : (joining : Joining) (before after : ℕ) (old new : Kept) → IsLeafCopied true before after old.leaf new.leaf
    → is_joined_by joining new ≡ false
copied-unjoined joining before after old new (inl own) = not-joined joining new (ap is_joined own)
copied-unjoined joining before after old new (inr lost) = not-joined joining new (ap is_joined lost.1)

-- one snapshot in front that passes as before
pub same-head : (joining : Joining) (o w : Kept) (os ws : List Kept) → w.number ≡ o.number → is_joined_by joining w ≡ is_joined_by joining o
    → numbers (is_joined_by joining) ws ≡ numbers (is_joined_by joining) os
    → numbers (is_joined_by joining) (w ∷ ws) ≡ numbers (is_joined_by joining) (o ∷ os)
same-head joining o w os ws number test rest = ap (λ b. map (λ it. it.number)
    (cond b (w ∷ filter (is_joined_by joining) ws) (filter (is_joined_by joining) ws))) test ∙ by (is_joined_by joining o)
  where
    by : (b : Bool) → map (λ it. it.number) (cond b (w ∷ filter (is_joined_by joining) ws) (filter (is_joined_by joining) ws))
        ≡ map (λ it. it.number) (cond b (o ∷ filter (is_joined_by joining) os) (filter (is_joined_by joining) os))
    by true = λ i. number i ∷ rest i
    by false = rest

-- behind the copy of number n, who has another number passes as before
numbers-above : (joining : Joining) (n before after : ℕ) (olds news : List Kept) → AreAbove n olds
    → AreCopied (is_number n) before after olds news
    → numbers (is_joined_by joining) news ≡ numbers (is_joined_by joining) olds
numbers-above joining n before after [] [] above copied = refl
numbers-above joining n before after [] (w ∷ ws) above copied = absurd copied
numbers-above joining n before after (o ∷ os) [] above copied = absurd copied
numbers-above joining n before after (o ∷ os) (w ∷ ws) above copied =
    let other : (o.number == n) ≡ false = ne_eqb o.number n (λ e. absurd (omega (arith, e, above.0))) in
    let leaf : w.leaf ≡ o.leaf = subst (λ b. IsLeafCopied b before after o.leaf w.leaf) other copied.2 in
    let rest : numbers (is_joined_by joining) ws ≡ numbers (is_joined_by joining) os =
    numbers-above joining n before after os ws above.1 copied.3 in
    same-head joining o w os ws copied.0 (same-test joining o w copied.1 leaf) rest

-- behind the copy of the first, those behind it are left
pub numbers-left : (joining : Joining) (n before after : ℕ) (olds news : List Kept) (rest : List ℕ) → AreRising olds
    → AreCopied (is_number n) before after olds news
    → numbers (is_joined_by joining) olds ≡ n ∷ rest → numbers (is_joined_by joining) news ≡ rest
numbers-left joining n before after [] [] rest rising copied e = absurd (nil-cons n rest e)
numbers-left joining n before after [] (w ∷ ws) rest rising copied e = absurd copied
numbers-left joining n before after (o ∷ os) [] rest rising copied e = absurd copied
numbers-left joining n before after (o ∷ os) (w ∷ ws) rest rising copied e =
    by (is_joined_by joining o) refl e (numbers-left joining n before after os ws rest rising.1 copied.3)
  where
    by : (b : Bool) → is_joined_by joining o ≡ b → map (λ it. it.number)
        (cond b (o ∷ filter (is_joined_by joining) os) (filter (is_joined_by joining) os)) ≡ n ∷ rest
        → (numbers (is_joined_by joining) os ≡ n ∷ rest → numbers (is_joined_by joining) ws ≡ rest)
        → numbers (is_joined_by joining) (w ∷ ws) ≡ rest
    by true is e later =
        let same : o.number ≡ n = ap head_of e in
        let gone : is_joined_by joining w ≡ false = copied-unjoined joining before after o w
        (subst (λ b. IsLeafCopied b before after o.leaf w.leaf) (ap (λ x. x == n) same ∙ eqb-refl n) copied.2) in
        ap (λ b. map (λ it. it.number) (cond b (w ∷ filter (is_joined_by joining) ws) (filter (is_joined_by joining) ws))) gone
        ∙ numbers-above joining n before after os ws (subst (λ x. AreAbove x os) same rising.0) copied.3 ∙ ap tail_of e
    by false is e later =
        let apart : (o.number == n) ≡ false = ne_eqb o.number n
        (λ same. absurd (omega (arith, same, head-above (is_joined_by joining) o.number n os rest rising.0 e))) in
        let leaf : w.leaf ≡ o.leaf = subst (λ b. IsLeafCopied b before after o.leaf w.leaf) apart copied.2 in
        ap (λ b. map (λ it. it.number) (cond b (w ∷ filter (is_joined_by joining) ws) (filter (is_joined_by joining) ws)))
        (same-test joining o w copied.1 leaf ∙ is) ∙ later e

-- the same numbers on both sides
pub numbers-alike : (joining : Joining) (name : ℕ → ℕ → ℕ) (view meant : List Kept) → AreKeptAlike name view meant
    → numbers (is_joined_by joining) meant ≡ numbers (is_joined_by joining) view
numbers-alike joining name [] [] alike = refl
numbers-alike joining name [] (m ∷ ms) alike = absurd alike
numbers-alike joining name (v ∷ vs) [] alike = absurd alike
numbers-alike joining name (v ∷ vs) (m ∷ ms) alike =
    same-head joining v m vs ms (sym alike.0.number) (same-test joining v m (sym alike.0.mode) (sym alike.0.leaf))
    (numbers-alike joining name vs ms alike.1)

-- ---- lists of numbers

pub head-is : (ns : List ℕ) (n : ℕ) → Some n ≡ slice_get ns 0 → ns ≡ n ∷ tail_of ns
head-is [] n e = absurd (false≢true (sym (ap is_some e)))
head-is (m ∷ ns) n e = ap (λ o. unwrap_or o n ∷ ns) (sym e)

pub none-is : (ns : List ℕ) → None ≡ slice_get ns 0 → ns ≡ []
none-is [] e = refl
none-is (m ∷ ns) e = absurd (false≢true (ap is_some e))
