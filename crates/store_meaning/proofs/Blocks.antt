-- Blocks that fill a heap: each lies between its ends, and two of them lie apart.
use Rattle.std.proofs.Common.{◌≡◌, ℕ, ◌+◌, ◌^◌, ◌<◌, ◌≤◌, ◌⊎◌, ◌==◌, eqb, List, [], ◌∷◌, ◌++◌, refl, ap, arith, inl, inr, pow_pos}
use Rattle.std.specs.Prelude.{if◌then◌else◌}
use Rattle.std.specs.List.{AllByRecursion}
use Rattle.std.proofs.lemmas.Bool.{cases_eq, cond-true, cond-false, eq-eqb, ne_eqb}
use Rattle.vm_base.specs.FlatLaws.{AreApart}
use Rattle.store_meaning.specs.HeapLayout.{Block, block_bytes, Fill}

-- a block has bytes
pub some_bytes : (block : Block) → 0 < block_bytes block
some_bytes block = pow_pos block.class

-- the block lies between these ends
abbrev pub LiesIn : ℕ → ℕ → Block → Type 0
LiesIn from to block = (from ≤ block.at) × (block.at + block_bytes block ≤ to)

-- the two blocks begin at one address, or lie apart
abbrev pub AreStacked : Block → Block → Type 0
AreStacked one two = (two.at ≡ one.at) ⊎ AreApart one.at (block_bytes one) two.at (block_bytes two)

widened : (from to below : ℕ) (blocks : List Block) → below ≤ from → AllByRecursion (LiesIn from to) blocks
    → AllByRecursion (LiesIn below to) blocks
widened from to below [] less all = tt
widened from to below (block ∷ blocks) less all = ((omega (arith, less, all.0.0), all.0.1), widened from to below blocks less all.1)

pub fill_rises : (from to : ℕ) (blocks : List Block) → Fill from blocks to → from ≤ to
fill_rises from to [] fill = omega (arith, fill)
fill_rises from to (block ∷ blocks) fill = omega (arith, fill_rises (from + block_bytes block) to blocks fill.1)

-- each block that fills lies between the ends
pub Fill-within : (from to : ℕ) (blocks : List Block) → Fill from blocks to → AllByRecursion (LiesIn from to) blocks
Fill-within from to [] fill = tt
Fill-within from to (block ∷ blocks) fill =
    let rises = fill_rises (from + block_bytes block) to blocks fill.1 in (
      (omega (arith, fill.0), omega (arith, fill.0, rises)),
      widened (from + block_bytes block) to from blocks (omega arith) (Fill-within (from + block_bytes block) to blocks fill.1),
    )

-- the first block lies below all others
above_first : (block : Block) (from to : ℕ) (blocks : List Block) → block.at + block_bytes block ≤ from
    → AllByRecursion (LiesIn from to) blocks
    → AllByRecursion (AreStacked block) blocks
above_first block from to [] below all = tt
above_first block from to (other ∷ blocks) below all =
    (inr (inl (omega (arith, below, all.0.0))), above_first block from to blocks below all.1)

with_first : (block : Block) (from to : ℕ) (all others : List Block) → block.at + block_bytes block ≤ from
    → AllByRecursion (LiesIn from to) others
    → AllByRecursion (λ one. AllByRecursion (AreStacked one) all) others
    → AllByRecursion (λ one. AllByRecursion (AreStacked one) (block ∷ all)) others
with_first block from to all [] below lie apart = tt
with_first block from to all (other ∷ others) below lie apart =
    ((inr (inr (omega (arith, below, lie.0.0))), apart.0), with_first block from to all others below lie.1 apart.1)

-- two blocks that fill begin at one address, or lie apart
pub Fill-apart : (from to : ℕ) (blocks : List Block) → Fill from blocks to
    → AllByRecursion (λ one. AllByRecursion (AreStacked one) blocks) blocks
Fill-apart from to [] fill = tt
Fill-apart from to (block ∷ blocks) fill =
    let within = Fill-within (from + block_bytes block) to blocks fill.1 in (
      (inl refl, above_first block (from + block_bytes block) to blocks (omega (arith, fill.0)) within),
      with_first block (from + block_bytes block) to blocks blocks (omega (arith, fill.0)) within
          (Fill-apart (from + block_bytes block) to blocks fill.1),
    )

-- 1 for a block at the address
abbrev pub one_at : ℕ → Block → ℕ
one_at at block = if block.at == at then 1 else 0

-- how many of the blocks begin at the address
abbrev pub blocks_at : ℕ → List Block → ℕ
blocks_at at [] = 0
blocks_at at (block ∷ blocks) = one_at at block + blocks_at at blocks

none_at : (at from to : ℕ) (blocks : List Block) → at < from → AllByRecursion (LiesIn from to) blocks → blocks_at at blocks ≡ 0
none_at at from to [] below all = refl
none_at at from to (block ∷ blocks) below all =
    let apart : one_at at block ≡ 0 = cond-false (eqb block.at at) 1 0 (ne_eqb block.at at (λ same. omega (arith, same, below, all.0.0))) in
    omega (arith, apart, none_at at from to blocks below all.1)

-- of the blocks that fill at most one begins at an address
pub Fill-once : (at from to : ℕ) (blocks : List Block) → Fill from blocks to → blocks_at at blocks ≤ 1
Fill-once at from to [] fill = omega arith
Fill-once at from to (block ∷ blocks) fill = elim (cases_eq block.at at) [
  | inl here ↦
      let one : one_at at block ≡ 1 = cond-true (eqb block.at at) 1 0 (eq-eqb block.at at here) in
      let rest =
      none_at at (from + block_bytes block) to blocks (omega (arith, here, fill.0, some_bytes block))
      (Fill-within (from + block_bytes block) to blocks fill.1) in
      omega (arith, one, rest)
  | inr apart ↦
      let zero : one_at at block ≡ 0 = cond-false (eqb block.at at) 1 0 (ne_eqb block.at at apart) in
      omega (arith, zero, Fill-once at (from + block_bytes block) to blocks fill.1)
]

-- a block more behind the others
pub Fill-more : (from to class : ℕ) (blocks : List Block) → Fill from blocks to
    → Fill from (blocks ++ record { at = to; class = class } ∷ []) (to + 2 ^ class)
Fill-more from to class [] fill = (fill, ap (λ a. a + 2 ^ class) fill)
Fill-more from to class (block ∷ blocks) fill = (fill.0, Fill-more (from + block_bytes block) to class blocks fill.1)
