-- A block of a heap that is in use, among its other blocks.
use Rattle.std.proofs.Common.{◌≡◌, ℕ, zero, suc, ◌+◌, ◌≤◌, eqb, List, [], ◌∷◌, ◌++◌, refl, sym, ◌∙◌, ap, subst, arith, inl, inr, IsPermutation, Contains, sum_by}
use Rattle.std.specs.List.{AllByRecursion}
use Rattle.std.proofs.lemmas.Bool.{cases_eq, cond-true, cond-false, eq-eqb, ne_eqb}
use Rattle.std.proofs.lemmas.List.Sums.{sum_by-cons}
use Rattle.std.proofs.lemmas.List.Sorted.{IsPermutation-refl, IsPermutation-cons, IsPermutation-trans, IsPermutation-middle, sum_by-IsPermutation}
use Rattle.vm_base.specs.FlatLaws.{AreApart}
use Rattle.store_meaning.specs.HeapLayout.{Block, Fill, block_bytes, without_block}
use Rattle.store_meaning.proofs.Lists.{all_permuted}
use Rattle.store_meaning.proofs.Blocks.{one_at, blocks_at, Fill-once, Fill-apart, AreStacked}

counted : (at : ℕ) (blocks : List Block) → sum_by (one_at at) blocks ≡ blocks_at at blocks
counted at [] = refl
counted at (block ∷ blocks) = sum_by-cons (one_at at) block blocks ∙ ap (λ n. one_at at block + n) (counted at blocks)

-- in another order as many begin at an address
pub blocks_at-permuted : (at : ℕ) (one two : List Block) → IsPermutation one two → blocks_at at two ≡ blocks_at at one
blocks_at-permuted at one two same = sym (counted at two) ∙ sum_by-IsPermutation (one_at at) one two same ∙ counted at one

here_at : (at : ℕ) (block : Block) → block.at ≡ at → one_at at block ≡ 1
here_at at block here = cond-true (eqb block.at at) 1 0 (eq-eqb block.at at here)

apart_at : (at : ℕ) (block : Block) → (block.at ≡ at → ⊥) → one_at at block ≡ 0
apart_at at block apart = cond-false (eqb block.at at) 1 0 (ne_eqb block.at at apart)

-- a list that contains a block has one at its address
pub some_at : (blocks : List Block) (block : Block) → Contains blocks block → 1 ≤ blocks_at block.at blocks
some_at [] block there = absurd (omega (arith, there.1))
some_at (first ∷ blocks) block (zero, inside, is) = omega (arith, here_at block.at first (ap (λ b. b.at) is))
some_at (first ∷ blocks) block (suc k, inside, is) = omega (arith, some_at blocks block (k, omega (arith, inside), is))

pub blocks_at-append : (at : ℕ) (xs ys : List Block) → blocks_at at (xs ++ ys) ≡ blocks_at at xs + blocks_at at ys
blocks_at-append at [] ys = omega arith
blocks_at-append at (x ∷ xs) ys = let rest = blocks_at-append at xs ys in omega (arith, rest)

-- a block that is taken out stands in front of what is left
pub without_block-front : (blocks : List Block) (block : Block) → Contains blocks block → blocks_at block.at blocks ≤ 1
    → IsPermutation blocks (block ∷ without_block block.at blocks)
without_block-front [] block there once = absurd (omega (arith, there.1))
without_block-front (first ∷ blocks) block there once = elim (cases_eq first.at block.at) [
  | inl here ↦
      let same : first ≡ block = is_first there here in
      let taken = cond-true (eqb first.at block.at) blocks (first ∷ without_block block.at blocks) (eq-eqb first.at block.at here) in
      subst (λ l. IsPermutation (first ∷ blocks) (block ∷ l)) (sym taken)
      (subst (λ b. IsPermutation (first ∷ blocks) (b ∷ blocks)) same (IsPermutation-refl (first ∷ blocks)))
  | inr apart ↦
      let later = without_block-front blocks block (is_later there apart) (omega (arith, once, apart_at block.at first apart)) in
      let moved =
      IsPermutation-trans _ _ _ (IsPermutation-cons first blocks (block ∷ without_block block.at blocks) later)
      (IsPermutation-middle (first ∷ []) block (without_block block.at blocks)) in
      subst (λ l. IsPermutation (first ∷ blocks) (block ∷ l))
      (sym (cond-false (eqb first.at block.at) blocks (first ∷ without_block block.at blocks) (ne_eqb first.at block.at apart))) moved
]
  where
    is_first : Contains (first ∷ blocks) block → first.at ≡ block.at → first ≡ block
    is_first (zero, inside, is) here = is
    is_first (suc k, inside, is) here =
        absurd (omega (arith, once, here_at block.at first here, some_at blocks block (k, omega (arith, inside), is)))

    is_later : Contains (first ∷ blocks) block → (first.at ≡ block.at → ⊥) → Contains blocks block
    is_later (zero, inside, is) apart = absurd (apart (ap (λ b. b.at) is))
    is_later (suc k, inside, is) apart = (k, omega (arith, inside), is)

-- of the blocks that fill a heap, one in use lies apart from each other one
pub others_apart : (order blocks : List Block) (block : Block) (from to : ℕ) → Fill from order to → IsPermutation order (block ∷ blocks)
    → AllByRecursion (λ other. AreApart block.at (block_bytes block) other.at (block_bytes other)) blocks
others_apart order blocks block from to fill same = apart_from blocks
    (omega (
      arith,
      blocks_at-permuted block.at order
          (block ∷ blocks) same,
      Fill-once block.at from to order fill,
      here_at block.at block refl,
    ))
    (all_permuted (AreStacked block) order (block ∷ blocks) same
    (all_permuted (λ one. AllByRecursion (AreStacked one) order) order (block ∷ blocks) same (Fill-apart from to order fill)).0).1
  where
    apart_from : (rest : List Block) → blocks_at block.at rest ≡ 0 → AllByRecursion (AreStacked block) rest
        → AllByRecursion (λ other. AreApart block.at (block_bytes block) other.at (block_bytes other)) rest
    apart_from [] none all = tt
    apart_from (other ∷ rest) none (inl same_at, all) = absurd (omega (arith, none, here_at block.at other same_at))
    apart_from (other ∷ rest) none (inr apart, all) = (apart, apart_from rest (omega (arith, none)) all)
