use Rattle.std.proofs.Common.{◌≡◌, ℕ, ◌+◌, ◌<◌, ◌≤◌, List, [], ◌∷◌, ◌++◌, length, Some, None, refl, sym, ◌∙◌, ap, subst, arith, inl, append_assoc, append-nil, length-append}
use Rattle.std.specs.List.{slice_get}
use Rattle.kernel_meaning.specs.CellActs.{is_number, leaf_copied, leaves_copied}
use Rattle.leaf_cell.specs.CellView.{CellView}
use Rattle.share_cell.specs.Parts.{MadeWithin}
use Rattle.share_cell.specs.Copies.{is_joined_by}
use Rattle.share_cell.proofs.JoinedNumbers.{numbers, tail_of, head-is, none-is, first-joined, first-passes, numbers-left}
use Rattle.share_cell.proofs.SomeLeaves.{made-none, made-both, made-all, copied-one_more, some-none, some-more, some-all, keeps-none, keeps-more, passes-unlost, counted-on}
use Rattle.share_cell.proofs.copies.copy_leaves.Invariants.{Standing, CopiedSome}
use Rattle.share_cell.proofs.copies.copy_leaves.Goals as goal

pub loop-number-init : goal.loop-number-init
loop-number-init g c = (
  c.requires.untold,
  record {
    held = c.requires.held;
    balance = refl;
    some = record {
      done = [];
      left = refl;
      made = made-none g.A.Allot.goes (g.A.Allot.state c.args.allot.now) c.args.cell.now;
      snapshots = some-none (is_joined_by c.args.joining) (g.A.Allot.refused (g.A.Allot.state c.args.allot.now))
          c.args.cell.now.leaves.kept;
      pages = keeps-none c.args.cell.now;
      counted = inl refl;
      started = λ none. (refl, refl);
    };
  },
)

pub copy_leaf-requires-clause-joined : goal.copy_leaf-requires-clause-joined
copy_leaf-requires-clause-joined g c = first-joined c.args.joining c.in-Some.number c.loop-number.cell.leaves.kept
    (tail_of (numbers (is_joined_by c.args.joining) c.loop-number.cell.leaves.kept))
    c.in-Some.ensures.rising (head-is (numbers (is_joined_by c.args.joining) c.loop-number.cell.leaves.kept) c.in-Some.number
    c.in-Some.ensures.first)

pub loop-number-smaller : goal.loop-number-smaller
loop-number-smaller g c =
    let now : List ℕ = numbers (is_joined_by c.args.joining) c.loop-number.cell.leaves.kept in
    let head : now ≡ c.in-Some.number ∷ tail_of now = head-is now c.in-Some.number c.in-Some.ensures.first in
    let left : numbers (is_joined_by c.args.joining) c.copy_leaf.new.cell.leaves.kept ≡ tail_of now =
    numbers-left c.args.joining c.in-Some.number (g.A.Allot.refused (g.A.Allot.state c.loop-number.allot))
    (g.A.Allot.refused (g.A.Allot.state c.copy_leaf.new.allot))
    c.loop-number.cell.leaves.kept c.copy_leaf.new.cell.leaves.kept (tail_of now) c.in-Some.ensures.rising
    c.copy_leaf.ensures.copied.snapshots head in
    omega (arith, ap length left, ap length head)

pub loop-number-preserved : goal.loop-number-preserved
loop-number-preserved g c =
    let stood : Standing g.A.Allot.goes g.A.Allot.out g.A.Allot.refused (g.A.Allot.state c.args.allot.now)
    (g.A.Allot.state c.loop-number.allot) c.args.joining c.args.cell.now c.loop-number.cell =
    c.loop-number.invariant.1 in
    let before : ℕ = g.A.Allot.refused (g.A.Allot.state c.args.allot.now) in
    let middle : ℕ = g.A.Allot.refused (g.A.Allot.state c.loop-number.allot) in
    let after : ℕ = g.A.Allot.refused (g.A.Allot.state c.copy_leaf.new.allot) in
    let n : ℕ = c.in-Some.number in
    let now : List ℕ = numbers (is_joined_by c.args.joining) c.loop-number.cell.leaves.kept in
    let head : now ≡ n ∷ tail_of now = head-is now n c.in-Some.ensures.first in
    let left : numbers (is_joined_by c.args.joining) c.copy_leaf.new.cell.leaves.kept ≡ tail_of now =
    numbers-left c.args.joining n middle after c.loop-number.cell.leaves.kept c.copy_leaf.new.cell.leaves.kept (tail_of now)
    c.in-Some.ensures.rising c.copy_leaf.ensures.copied.snapshots head in (
      c.copy_leaf.ensures.untold,
      record {
        held = omega (arith, stood.held, c.copy_leaf.ensures.held);
        balance = omega (arith, stood.balance, c.copy_leaf.ensures.held);
        some = record {
          done = stood.some.done ++ n ∷ [];
          left = stood.some.left ∙ ap (λ ns. stood.some.done ++ ns) head ∙ sym (append_assoc stood.some.done (n ∷ []) (tail_of now))
              ∙ ap (λ ns. (stood.some.done ++ n ∷ []) ++ ns) (sym left);
          made = subst (λ part. MadeWithin g.A.Allot.goes (g.A.Allot.state c.args.allot.now) (g.A.Allot.state c.copy_leaf.new.allot) part
              c.args.cell.now c.copy_leaf.new.cell)
              (λ i course. sym (copied-one_more stood.some.done n course) i)
              (made-both g.A.Allot.goes (g.A.Allot.state c.args.allot.now) (g.A.Allot.state c.loop-number.allot)
              (g.A.Allot.state c.copy_leaf.new.allot)
              (leaves_copied stood.some.done) (leaf_copied n) c.args.cell.now c.loop-number.cell c.copy_leaf.new.cell stood.some.made
              c.copy_leaf.ensures.made);
          snapshots = some-more c.args.joining n before middle after c.args.cell.now.leaves.kept c.loop-number.cell.leaves.kept
              c.copy_leaf.new.cell.leaves.kept
              stood.some.counted c.copy_leaf.ensures.copied.counted
              (first-passes c.args.joining n c.loop-number.cell.leaves.kept (tail_of now) c.in-Some.ensures.rising head)
              stood.some.snapshots c.copy_leaf.ensures.copied.snapshots;
          pages = keeps-more (is_number n) middle after c.args.cell.now c.loop-number.cell c.copy_leaf.new.cell
              (passes-unlost c.args.joining n c.loop-number.cell.leaves.kept
              (first-passes c.args.joining n c.loop-number.cell.leaves.kept (tail_of now) c.in-Some.ensures.rising head))
              stood.some.pages c.copy_leaf.ensures.copied;
          counted = counted-on before middle after stood.some.counted c.copy_leaf.ensures.copied.counted;
          started = λ none. let l : length (stood.some.done ++ n ∷ []) ≡ 0 = ap length none in
              absurd (omega (arith, l, length-append stood.some.done (n ∷ [])));
        };
      },
    )

pub returns-clause-made : goal.returns-clause-made
returns-clause-made g c =
    let some : CopiedSome g.A.Allot.goes (g.A.Allot.state c.args.allot.now) (g.A.Allot.state c.loop-number.allot)
    (g.A.Allot.refused (g.A.Allot.state c.args.allot.now))
    (g.A.Allot.refused (g.A.Allot.state c.loop-number.allot)) c.args.joining c.args.cell.now c.loop-number.cell =
    c.loop-number.invariant.1.some in
    let none : numbers (is_joined_by c.args.joining) c.loop-number.cell.leaves.kept ≡ [] =
    none-is (numbers (is_joined_by c.args.joining) c.loop-number.cell.leaves.kept) (sym c.in_default.is ∙ c.first_joined.ensures.first) in
    made-all g.A.Allot.goes (g.A.Allot.state c.args.allot.now) (g.A.Allot.state c.loop-number.allot) c.args.joining some.done
    c.args.cell.now c.loop-number.cell
    (some.left ∙ ap (λ ns. some.done ++ ns) none ∙ append-nil some.done) some.made

pub returns-clause-copied : goal.returns-clause-copied
returns-clause-copied g c =
    let some : CopiedSome g.A.Allot.goes (g.A.Allot.state c.args.allot.now) (g.A.Allot.state c.loop-number.allot)
    (g.A.Allot.refused (g.A.Allot.state c.args.allot.now))
    (g.A.Allot.refused (g.A.Allot.state c.loop-number.allot)) c.args.joining c.args.cell.now c.loop-number.cell =
    c.loop-number.invariant.1.some in
    record {
      parent = some.pages.parent;
      reads = some.pages.reads;
      kept = some.pages.kept;
      still = some.pages.still;
      writable = some.pages.writable;
      snapshots = some-all c.args.joining (g.A.Allot.refused (g.A.Allot.state c.args.allot.now))
          (g.A.Allot.refused (g.A.Allot.state c.loop-number.allot))
          c.args.cell.now.leaves.kept c.loop-number.cell.leaves.kept
          (none-is (numbers (is_joined_by c.args.joining) c.loop-number.cell.leaves.kept) (sym c.in_default.is
          ∙ c.first_joined.ensures.first)) some.snapshots;
      counted = some.counted;
    }

pub returns-clause-none : goal.returns-clause-none
returns-clause-none g c =
    let some : CopiedSome g.A.Allot.goes (g.A.Allot.state c.args.allot.now) (g.A.Allot.state c.loop-number.allot)
    (g.A.Allot.refused (g.A.Allot.state c.args.allot.now))
    (g.A.Allot.refused (g.A.Allot.state c.loop-number.allot)) c.args.joining c.args.cell.now c.loop-number.cell =
    c.loop-number.invariant.1.some in
    λ none. some.started (nothing some.done (numbers (is_joined_by c.args.joining) c.loop-number.cell.leaves.kept) (sym some.left ∙ none))
  where
    nothing : (done rest : List ℕ) → done ++ rest ≡ [] → done ≡ []
    nothing [] rest e = refl
    nothing (n ∷ done) rest e = let l : length (n ∷ (done ++ rest)) ≡ 0 = ap length e in absurd (omega arith)
