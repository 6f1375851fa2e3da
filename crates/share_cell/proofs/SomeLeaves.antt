-- Leaves of which some were copied, one after another.
use Rattle.std.proofs.Common.{◌≡◌, ◌⊎◌, ℕ, ◌+◌, ◌<◌, ◌≤◌, ◌^◌, List, [], ◌∷◌, ◌++◌, length, refl, sym, ◌∙◌, ap, subst, arith, inl, inr, append_assoc, append-nil}
use Rattle.std.specs.Prelude.{Bool, true, false, cond, map, filter, ◌==◌, Option, Some, None, is_some}
use Rattle.std.specs.List.{AllByRecursion}
use Rattle.std.specs.Option.{option_and_then}
use Rattle.std.proofs.lemmas.Bool.{false≢true, cases_eq, ne_eqb}
use Rattle.vm_base.specs.Counts.{Rose, next_count}
use Rattle.vm_base.specs.Deals.{Deal, LeadsAlong}
use Rattle.kernel_meaning.specs.Requests.{Answer, answers_of}
use Rattle.kernel_meaning.specs.Leaves.{Leaf, Own, Lost, Kept, CellLeaves, is_joined, is_lost, has_leaf_where, kept_by, IsAlone}
use Rattle.kernel_meaning.specs.CellActs.{Course, leaf_copied, leaves_copied, numbers_where, is_number}
use Rattle.kernel_meaning.specs.CellAccount.{CellAccount}
use Rattle.leaf_cell.specs.CellView.{CellView, parent_page, kept_page}
use Rattle.leaf_cell.specs.Writable.{writable_at}
use Rattle.leaf_cell.specs.Courses.{RunsAt, course_between}
use Rattle.leaf_cell.specs.Standing.{StandsFor}
use Rattle.leaf_cell.proofs.Renamed.{eqb-refl}
use Rattle.leaf_cell.proofs.TouchRuns.{answers-append}
use Rattle.share_cell.specs.declared.joining.Joining.{Joining}
use Rattle.share_cell.specs.Parts.{TakesWithin, MadeWithin}
use Rattle.share_cell.specs.Copies.{AreCopied, Copies, IsLeafCopied, is_joined_by, copied_where, snapshot_bytes}
use Rattle.share_cell.proofs.CopiedLeaves.{joined-unlost}
use Rattle.share_cell.proofs.JoinedNumbers.{numbers, joined-by, same-test, not-joined, numbers-alike}

-- ---- parts of an act, one behind another

-- deals that lead along, and more behind them
pub leads-append : {State : Type 0} (goes : State → Deal → State → Type 0) (front back : List Deal) (from middle to : State)
    → LeadsAlong goes from front middle → LeadsAlong goes middle back to → LeadsAlong goes from (front ++ back) to
leads-append goes [] back from middle to first next = subst (λ s. LeadsAlong goes s back to) first next
leads-append goes (deal ∷ front) back from middle to first next =
    (first.0, (first.1.0, leads-append goes front back first.0 middle to first.1.1 next))

-- no part at all
pub made-none : {State : Type 0} (goes : State → Deal → State → Type 0) (from : State) (view : CellView)
    → MadeWithin goes from from (λ course. course) view view
made-none goes from view = record {
  deals = [];
  led = refl;
  follows = λ account stands. record {
    leaves = account.state.leaves;
    made = account.made;
    stands = stands;
    runs = record { runs = λ before rest. ap (course_between account.state.leaves account.made rest) (sym (append-nil before)) };
  };
}

-- two parts
pub made-both : {State : Type 0} (goes : State → Deal → State → Type 0) (from middle to : State) (first next : Course
    → Course) (old between new : CellView)
    → MadeWithin goes from middle first old between → MadeWithin goes middle to next between new
    → MadeWithin goes from to (λ course. next (first course)) old new
made-both goes from middle to first next old between new one two = record {
  deals = one.deals ++ two.deals;
  led = leads-append goes one.deals two.deals from middle to one.led two.led;
  follows = λ account stands. takes account stands;
}
  where
    takes : (account : CellAccount) → StandsFor old account
        → TakesWithin (λ course. next (first course)) old new (one.deals ++ two.deals) account
    takes account stands =
        let a : TakesWithin first old between one.deals account = one.follows account stands in
        let b : TakesWithin next between new two.deals (record { state = record account.state { leaves = a.leaves }; made = a.made }) =
        two.follows (record { state = record account.state { leaves = a.leaves }; made = a.made }) a.stands in
        record {
          leaves = b.leaves;
          made = b.made;
          stands = b.stands;
          runs = record {
            runs = λ before rest.
                ap (λ coming. next (first (course_between account.state.leaves account.made coming before)))
                (ap (λ xs. xs ++ rest) (answers-append one.deals two.deals)
                ∙ append_assoc (answers_of one.deals) (answers_of two.deals) rest)
                ∙ ap next (a.runs.runs before (answers_of two.deals ++ rest))
                ∙ b.runs.runs (before ++ one.deals) rest
                ∙ ap (course_between b.leaves b.made rest) (append_assoc before one.deals two.deals);
          };
        }

-- one more leaf behind those
pub copied-one_more : (done : List ℕ) (n : ℕ) (course : Course)
    → leaves_copied (done ++ n ∷ []) course ≡ leaf_copied n (leaves_copied done course)
copied-one_more [] n course = refl
copied-one_more (d ∷ done) n course = copied-one_more done n (leaf_copied d course)

-- the leaves that pass were copied, where their numbers are these in the cell
pub made-all : {State : Type 0} (goes : State → Deal → State → Type 0) (from to : State) (joining : Joining) (done : List ℕ)
    (old new : CellView)
    → numbers (is_joined_by joining) old.leaves.kept ≡ done → MadeWithin goes from to (leaves_copied done) old new
    → MadeWithin goes from to (copied_where (is_joined_by joining)) old new
made-all goes from to joining done old new all made = record {
  deals = made.deals;
  led = made.led;
  follows = λ account stands.
      let takes : TakesWithin (leaves_copied done) old new made.deals account = made.follows account stands in
      let same : numbers (is_joined_by joining) account.state.leaves.kept ≡ done =
      numbers-alike joining stands.name old.leaves.kept account.state.leaves.kept stands.leaves.kept ∙ all in
      record {
        leaves = takes.leaves;
        made = takes.made;
        stands = takes.stands;
        runs = record {
          runs = λ before rest. ap (λ ns. leaves_copied ns
              (course_between account.state.leaves account.made (answers_of made.deals ++ rest) before)) same ∙ takes.runs.runs before rest;
        };
      };
}

-- ---- what is left, where some leaves that pass were copied

abbrev pub IsLeafSome : Bool → ℕ → ℕ → Leaf → Leaf → Type 0
IsLeafSome passes before after old new = (new ≡ old) ⊎ ((passes ≡ true) × IsLeafCopied true before after old new)

abbrev pub AreSome : (Kept → Bool) → ℕ → ℕ → List Kept → List Kept → Type 0
AreSome test before after [] [] = Unit {0}
AreSome test before after [] (it ∷ news) = ⊥
AreSome test before after (it ∷ olds) [] = ⊥
AreSome test before after (old ∷ olds) (new ∷ news) = (new.number ≡ old.number) × (new.mode ≡ old.mode)
    × IsLeafSome (test old) before after old.leaf new.leaf × AreSome test before after olds news

abbrev pub IsCounted : ℕ → ℕ → Type 0
IsCounted before after = (after ≡ before) ⊎ (Rose before after × (after < 2 ^ 64))

pub some-none : (test : Kept → Bool) (count : ℕ) (kept : List Kept) → AreSome test count count kept kept
some-none test count [] = tt
some-none test count (it ∷ others) = (refl, refl, inl refl, some-none test count others)

rose-on : (before middle at : ℕ) → IsCounted before middle → Rose middle at → Rose before at
rose-on before middle at (inl same) rose = subst (λ x. Rose x at) same rose
rose-on before middle at (inr more) rose = omega (arith, more.0, more.1, rose)

at-most : (at middle after : ℕ) → at ≤ middle → at < 2 ^ 64 → IsCounted middle after → at ≤ after
at-most at middle after most below (inl same) = omega (arith, most, same)
at-most at middle after most below (inr more) = omega (arith, most, below, more.0, more.1)

pub counted-on : (before middle after : ℕ) → IsCounted before middle → IsCounted middle after → IsCounted before after
counted-on before middle after one (inl same) = subst (IsCounted before) (sym same) one
counted-on before middle after one (inr more) = inr (rose-on before middle after one more.0, more.1)

-- a copy counts as one behind others
pub later-copy : (before middle after : ℕ) (old new : Leaf) (was : Leaf) → IsCounted before middle → IsLeafCopied true middle after old new
    → IsLeafCopied true before after was new
later-copy before middle after old new was counted (inl own) = inl own
later-copy before middle after old new was counted (inr lost) =
    inr (lost.0, lost.1, rose-on before middle lost.0 counted lost.2, lost.3, lost.4)

pub earlier-copy : (before middle after : ℕ) (old new : Leaf) → IsCounted middle after → IsLeafCopied true before middle old new
    → IsLeafCopied true before after old new
earlier-copy before middle after old new counted (inl own) = inl own
earlier-copy before middle after old new counted (inr lost) =
    inr (lost.0, lost.1, lost.2, at-most lost.0 middle after lost.3 lost.4 counted, lost.4)

-- one more copy
pub some-more : (joining : Joining) (n before middle after : ℕ) (olds mids news : List Kept) → IsCounted before middle
    → IsCounted middle after
    → AllByRecursion (λ it. (it.number == n) ≡ true → is_joined_by joining it ≡ true) mids
    → AreSome (is_joined_by joining) before middle olds mids → AreCopied (is_number n) middle after mids news
    → AreSome (is_joined_by joining) before after olds news
some-more joining n before middle after [] [] [] one two passes some copied = tt
some-more joining n before middle after [] [] (w ∷ ws) one two passes some copied = absurd copied
some-more joining n before middle after [] (m ∷ ms) news one two passes some copied = absurd some
some-more joining n before middle after (o ∷ os) [] news one two passes some copied = absurd some
some-more joining n before middle after (o ∷ os) (m ∷ ms) [] one two passes some copied = absurd copied
some-more joining n before middle after (o ∷ os) (m ∷ ms) (w ∷ ws) one two passes some copied = (
  copied.0 ∙ some.0,
  copied.1 ∙ some.1,
  by (m.number == n) refl copied.2 some.2,
  some-more joining n before middle after os ms ws one two passes.1 some.3 copied.3,
)
  where
    by : (b : Bool) → (m.number == n) ≡ b → IsLeafCopied b middle after m.leaf w.leaf
        → IsLeafSome (is_joined_by joining o) before middle o.leaf m.leaf
        → IsLeafSome (is_joined_by joining o) before after o.leaf w.leaf
    by true is now (inl same) = inr (
      sym (same-test joining o m some.1 same) ∙ passes.0 is,
      later-copy before middle after m.leaf w.leaf o.leaf one now,
    )
    by true is now (inr was) = inr (was.0, later-copy before middle after m.leaf w.leaf o.leaf one now)
    by false is now (inl same) = inl (now ∙ same)
    by false is now (inr was) = inr (
      was.0,
      subst (IsLeafCopied true before after o.leaf) (sym now) (earlier-copy before middle after o.leaf m.leaf two was.1),
    )

-- none passes any more: all were copied
pub some-all : (joining : Joining) (before after : ℕ) (olds news : List Kept) → numbers (is_joined_by joining) news ≡ []
    → AreSome (is_joined_by joining) before after olds news
    → AreCopied (is_joined_by joining) before after olds news
some-all joining before after [] [] none some = tt
some-all joining before after [] (w ∷ ws) none some = absurd some
some-all joining before after (o ∷ os) [] none some = absurd some
some-all joining before after (o ∷ os) (w ∷ ws) none some = (
  some.0,
  some.1,
  by (is_joined_by joining o) refl some.2,
  some-all joining before after os ws (rest (is_joined_by joining w) none) some.3,
)
  where
    fails : is_joined_by joining w ≡ false
    fails = never (is_joined_by joining w) none
      where
        never : (b : Bool) → map (λ it. it.number) (cond b (w ∷ filter (is_joined_by joining) ws) (filter (is_joined_by joining) ws)) ≡ []
            → b ≡ false
        never true e = let l : length (w.number ∷ numbers (is_joined_by joining) ws) ≡ 0 = ap length e in absurd (omega arith)
        never false e = refl

    rest : (b : Bool) → map (λ it. it.number) (cond b (w ∷ filter (is_joined_by joining) ws) (filter (is_joined_by joining) ws)) ≡ []
        → numbers (is_joined_by joining) ws ≡ []
    rest true e = let l : length (w.number ∷ numbers (is_joined_by joining) ws) ≡ 0 = ap length e in absurd (omega arith)
    rest false e = e

    by : (b : Bool) → is_joined_by joining o ≡ b → IsLeafSome b before after o.leaf w.leaf → IsLeafCopied b before after o.leaf w.leaf
    by true is (inl same) = absurd (false≢true (sym fails ∙ same-test joining o w some.1 same ∙ is))
    by true is (inr was) = was.1
    by false is (inl same) = same
    by false is (inr was) = absurd (false≢true was.0)

-- ---- the pages

-- what a call that copies leaves keeps of the pages
pub record KeepsPages (old new : CellView) : Type 0 where
  pub parent : new.leaves.parent ≡ old.leaves.parent
  pub reads : (p : ℕ) → p < 512 → parent_page new p ≡ parent_page old p
  pub kept : (n p : ℕ) → has_leaf_where is_lost (kept_by new.leaves.kept n) ≡ false → p < 512
      → snapshot_bytes new n p ≡ snapshot_bytes old n p
  pub still : (p : ℕ) → IsAlone old.leaves p → IsAlone new.leaves p
  pub writable : (p : ℕ) → writable_at new.writable p ≡ true → writable_at old.writable p ≡ true

pub keeps-none : (view : CellView) → KeepsPages view view
keeps-none view = record {
  parent = refl;
  reads = λ p small. refl;
  kept = λ n p unlost small. refl;
  still = λ p alone. alone;
  writable = λ p may. may;
}

-- who is not lost behind copies of leaves that were not lost was not before
pub unlost-before : (test : Kept → Bool) (middle after : ℕ) (mids news : List Kept)
    → AllByRecursion (λ it. test it ≡ true → is_lost it.leaf ≡ false) mids
    → AreCopied test middle after mids news → (k : ℕ) → has_leaf_where is_lost (kept_by news k) ≡ false
    → has_leaf_where is_lost (kept_by mids k) ≡ false
unlost-before test middle after [] [] joined copied k unlost = refl
unlost-before test middle after [] (w ∷ ws) joined copied k unlost = absurd copied
unlost-before test middle after (m ∷ ms) [] joined copied k unlost = absurd copied
unlost-before test middle after (m ∷ ms) (w ∷ ws) joined copied k unlost =
    by (m.number == k) (ap (λ x. has_leaf_where is_lost (cond (x == k) (Some w) (kept_by ws k))) (sym copied.0) ∙ unlost)
    (unlost-before test middle after ms ws joined.1 copied.3 k)
  where
    here : (b : Bool) → test m ≡ b → IsLeafCopied b middle after m.leaf w.leaf → is_lost w.leaf ≡ false → is_lost m.leaf ≡ false
    here true is now unlost = joined.0 is
    here false is now unlost = ap is_lost (sym now) ∙ unlost

    by : (b : Bool) → has_leaf_where is_lost (cond b (Some w) (kept_by ws k)) ≡ false
        → (has_leaf_where is_lost (kept_by ws k) ≡ false → has_leaf_where is_lost (kept_by ms k) ≡ false)
        → has_leaf_where is_lost (cond b (Some m) (kept_by ms k)) ≡ false
    by true unlost later = here (test m) refl copied.2 unlost
    by false unlost later = later unlost

pub keeps-more : (test : Kept → Bool) (middle after : ℕ) (old between new : CellView)
    → AllByRecursion (λ it. test it ≡ true → is_lost it.leaf ≡ false) between.leaves.kept
    → KeepsPages old between → Copies test middle after between new → KeepsPages old new
keeps-more test middle after old between new joined first next = record {
  parent = next.parent ∙ first.parent;
  reads = λ p small. next.reads p small ∙ first.reads p small;
  kept = λ k p unlost small. next.kept k p unlost small
      ∙ first.kept k p (unlost-before test middle after between.leaves.kept new.leaves.kept joined next.snapshots k unlost) small;
  still = λ p alone. next.still p (first.still p alone);
  writable = λ p may. first.writable p (next.writable p may);
}

pub passes-unlost : (joining : Joining) (n : ℕ) (kept : List Kept)
    → AllByRecursion (λ it. (it.number == n) ≡ true → is_joined_by joining it ≡ true) kept
    → AllByRecursion (λ it. (it.number == n) ≡ true → is_lost it.leaf ≡ false) kept
passes-unlost joining n [] passes = tt
passes-unlost joining n (it ∷ others) passes = (
  (λ same. joined-unlost it.leaf (joined-by joining it (passes.0 same))),
  passes-unlost joining n others passes.1,
)
