use Rattle.std.proofs.Common.{◌≡◌, ℕ, ◌+◌, ◌≤◌, ◌<◌, length, Some, None, sym, ◌∙◌, ap, arith}
use Rattle.std.specs.Prelude.{drop}
use Rattle.leaf_cell.specs.States.{state_of, nth_number}
use Rattle.kernel_meaning.specs.Leaves.{kept_by}
use Rattle.share_cell.specs.Copies.{is_joined_by, is_state_joined}
use Rattle.share_cell.proofs.JoinedNumbers.{numbers, found-first, passed-by, none-first}
use Rattle.share_cell.proofs.copies.first_joined.Goals as goal

pub returns-then-is_joined-clause-first : goal.returns-then-is_joined-clause-first
returns-then-is_joined-clause-first c = found-first c.args.joining c.args.cell.now.leaves.kept c.loop-number.nth c.loop-number.invariant.0
    c.in-Some.number c.snap.ensures.rising
    (sym c.in-Some.ensures.nth) (ap (is_state_joined c.args.joining) (sym c.state.ensures.state) ∙ sym c.is_joined.ensures
    ∙ c.if-is_joined.true)

pub returns-clause-first : goal.returns-clause-first
returns-clause-first c = none-first c.args.joining c.args.cell.now.leaves.kept c.loop-number.nth c.loop-number.invariant.0
    (sym c.snap.ensures.nth ∙ c.in_default.is)
