-- The frame law, cell by cell.
use Rattle.std.proofs.Common.{◌≡◌, ◌∙◌, ℕ, ◌+◌, List, [], ◌∷◌, length, refl, sym, ap, arith}
use Rattle.std.specs.Prelude.{Bool, true, false, cond, sum_by, filter, map}
use Rattle.std.proofs.lemmas.List.Sums.{sum_by-cons}
use Rattle.vm_base.specs.Places.{directory_frames}
use Rattle.kernel_meaning.specs.Leaves.{CellLeaves, share, has_pages, parent_leaves, own_leaves, named_pairs}
use Rattle.kernel_meaning.specs.FrameLaw.{Leaves, held_frames, parent_cells, snapshot_tables, snapshot_leaves, page_frames}

-- one cell more, where a test passes
one_more_cell : (b : Bool) (entry : ℕ × CellLeaves) (rest : List (ℕ × CellLeaves)) → length (map (λ e. e.0) (cond b (entry ∷ rest) rest)) ≡ cond b 1 0 + length (map (λ e. e.0) rest)
one_more_cell true entry rest = omega arith
one_more_cell false entry rest = omega arith

-- one leaf for each cell of the parent
pub parent_leaves-sum : (leaves : Leaves) → length (parent_cells leaves) ≡ sum_by (λ entry. parent_leaves entry.1) leaves
parent_leaves-sum [] = refl
parent_leaves-sum (entry ∷ leaves) =
    one_more_cell (has_pages entry.1.parent) entry (filter (λ e. has_pages e.1.parent) leaves)
    ∙ ap (λ n. parent_leaves entry.1 + n) (parent_leaves-sum leaves)
    ∙ sym (sum_by-cons (λ e. parent_leaves e.1) entry leaves)

-- the three parts of a share, summed
pub shares-sum : (leaves : Leaves) → sum_by (λ entry. parent_leaves entry.1) leaves + snapshot_leaves leaves + page_frames leaves ≡ sum_by (λ entry. share entry.1) leaves
shares-sum [] = refl
shares-sum (entry ∷ leaves) = omega (arith, shares-sum leaves, sum_by-cons (λ e. parent_leaves e.1) entry leaves, sum_by-cons (λ e. own_leaves e.1) entry leaves, sum_by-cons (λ e. length (named_pairs e.1)) entry leaves, sum_by-cons (λ e. share e.1) entry leaves)

pub held_frames-shares : (leaves : Leaves) → held_frames leaves ≡ directory_frames (parent_cells leaves) + snapshot_tables leaves + sum_by (λ entry. share entry.1) leaves
held_frames-shares leaves = omega (arith, parent_leaves-sum leaves, shares-sum leaves)
