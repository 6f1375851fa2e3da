-- How a cell is stored as numbers and lists, so that a proof can tell two of them apart.
use Rattle.std.specs.Prelude.{◌≡◌, ℕ, ◌==◌, if◌then◌else◌, Bool, List, Option, refl}
use Rattle.std.specs.Coded.{Coded, code_by, coded×, coded_ℕ, coded_bool, coded_list, coded_option}
use Rattle.vm_base.specs.declared.fork_mode.Mode.{Mode}
use Rattle.vm_base.specs.declared.fork_mode.Mode.TheVariants.{Eager, OnDemand, Async}
use Rattle.vm_base.specs.Frames.{FrameView}
use Rattle.kernel_meaning.specs.Leaves.{Versions, Leaf, Own, Joined, Lost, Kept, CellLeaves}
use Rattle.leaf_cell.specs.CellView.{CellView}

-- a mode as a number
abbrev pub mode_number : Mode → ℕ
mode_number Eager = 0
mode_number OnDemand = 1
mode_number Async = 2

-- the mode of a number
abbrev pub mode_of_number : ℕ → Mode
mode_of_number n = if n == 0 then Eager else if n == 1 then OnDemand else Async

pub mode_again : (mode : Mode) → mode_of_number (mode_number mode) ≡ mode
mode_again Eager = refl
mode_again OnDemand = refl
mode_again Async = refl

abbrev pub mode_code : Coded Mode
mode_code = code_by ℕ coded_ℕ mode_number mode_of_number mode_again

-- a leaf as two numbers
abbrev pub leaf_numbers : Leaf → ℕ × ℕ
leaf_numbers Own = (0, 0)
leaf_numbers Joined = (1, 0)
leaf_numbers (Lost at) = (2, at)

-- the leaf of two numbers
abbrev pub leaf_of_numbers : ℕ × ℕ → Leaf
leaf_of_numbers p = if p.0 == 0 then Own else if p.0 == 1 then Joined else Lost p.1

pub leaf_again : (leaf : Leaf) → leaf_of_numbers (leaf_numbers leaf) ≡ leaf
leaf_again Own = refl
leaf_again Joined = refl
leaf_again (Lost at) = refl

abbrev pub leaf_code : Coded Leaf
leaf_code = code_by (ℕ × ℕ) (coded× coded_ℕ coded_ℕ) leaf_numbers leaf_of_numbers leaf_again

abbrev pub versions_code : Coded Versions
versions_code = coded_list (coded_option coded_ℕ)

abbrev pub kept_code : Coded Kept
kept_code = code_by (ℕ × (Mode × (Versions × Leaf))) (coded× coded_ℕ (coded× mode_code (coded× versions_code leaf_code)))
    (λ k. (k.number, (k.mode, (k.versions, k.leaf)))) (λ p. record { number = p.0; mode = p.1.0; versions = p.1.1.0; leaf = p.1.1.1 }) (λ _. refl)

abbrev pub leaves_code : Coded CellLeaves
leaves_code = code_by (Versions × List Kept) (coded× versions_code (coded_list kept_code))
    (λ c. (c.parent, c.kept)) (λ p. record { parent = p.0; kept = p.1 }) (λ _. refl)

abbrev pub frame_code : Coded FrameView
frame_code = code_by (ℕ × List ℕ) (coded× coded_ℕ (coded_list coded_ℕ))
    (λ f. (f.number, f.bytes)) (λ p. record { number = p.0; bytes = p.1 }) (λ _. refl)

abbrev pub cell_view_code : Coded CellView
cell_view_code = code_by (CellLeaves × (List (Option FrameView) × List Bool)) (coded× leaves_code (coded× (coded_list (coded_option frame_code)) (coded_list coded_bool)))
    (λ v. (v.leaves, (v.frames, v.writable))) (λ p. record { leaves = p.0; frames = p.1.0; writable = p.1.1 }) (λ _. refl)
