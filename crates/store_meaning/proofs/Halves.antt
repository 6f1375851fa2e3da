-- Where the first half of each block lies in present pages, at least half of the whole pages below the top are present.
use Rattle.std.proofs.Common.{◌≡◌, ℕ, zero, suc, List, [], ◌∷◌, ◌+◌, ◌-◌, ◌*◌, ◌/◌, ◌^◌, ◌≤◌, ◌<◌, min, arith, Bool, true, refl, ap}
use Rattle.std.specs.Prelude.{if◌then◌else◌}
use Rattle.std.specs.List.{AllByRecursion}
use Rattle.store_meaning.specs.HeapLayout.{Block, block_bytes, Fill}

-- 1 for a page that is here
abbrev pub count_one : Bool → ℕ
count_one here = if here then 1 else 0

-- how many of n pages are here
abbrev pub here_among : (ℕ → Bool) → ℕ → ℕ → ℕ
here_among here first zero = 0
here_among here first (suc n) = count_one (here first) + here_among here (first + 1) n

pub here_among-split : (here : ℕ → Bool) (first m k : ℕ)
    → here_among here first (m + k) ≡ here_among here first m + here_among here (first + m) k
here_among-split here first zero k =
    let none : zero + k ≡ k = omega arith in
    let same : first + zero ≡ first = omega arith in
    let front : here_among here first (zero + k) ≡ here_among here first k = ap (here_among here first) none in
    let place : here_among here (first + zero) k ≡ here_among here first k = ap (λ p. here_among here p k) same in
    omega (arith, front, place)
here_among-split here first (suc m) k =
    let later : here_among here (first + 1) (m + k) ≡ here_among here (first + 1) m + here_among here (first + 1 + m) k =
    here_among-split here (first + 1) m k in
    let next : suc m + k ≡ suc (m + k) = omega arith in
    let place : first + 1 + m ≡ first + suc m = omega arith in
    let front : here_among here first (suc m + k) ≡ count_one (here first) + here_among here (first + 1) (m + k) =
    ap (here_among here first) next in
    let there : here_among here (first + 1 + m) k ≡ here_among here (first + suc m) k = ap (λ p. here_among here p k) place in
    let here_first : here_among here first (suc m) ≡ count_one (here first) + here_among here (first + 1) m = refl in
    omega (arith, later, front, there, here_first)

pub here_among-all : (here : ℕ → Bool) (first n : ℕ) → ((page : ℕ) → first ≤ page → page < first + n → here page ≡ true)
    → here_among here first n ≡ n
here_among-all here first zero all = refl
here_among-all here first (suc n) all =
    let one : count_one (here first) ≡ 1 = ap count_one (all first (omega arith) (omega arith)) in
    let later : here_among here (first + 1) n ≡ n =
    here_among-all here (first + 1) n (λ page le lt. all page (omega (arith, le)) (omega (arith, lt))) in
    omega (arith, one, later)

-- the first half of the block lies in pages that are here
abbrev pub IsHalfHere : (ℕ → Bool) → Block → Type 0
IsHalfHere here block = (page : ℕ) → block.at < (page + 1) * 4096 → page * 4096 < block.at + 2 ^ (block.class - 1) → here page ≡ true

-- one block more
pub one_block : (here : ℕ → Bool) (start at half : ℕ) → start ≤ at / 4096
    → ((page : ℕ) → at < (page + 1) * 4096 → page * 4096 < at + half → here page ≡ true)
    → at / 4096 - start ≤ 2 * here_among here start (at / 4096 - start)
    → (at + 2 * half) / 4096 - start ≤ 2 * here_among here start ((at + 2 * half) / 4096 - start)
one_block here start at half order here_half so_far =
    let first = at / 4096 in
    let last = (at + 2 * half) / 4096 in
    let met = min ((at + half + 4095) / 4096) last - first in
    let rest = last - first - met in
    let whole : last - start ≡ (first - start) + (met + rest) = omega (arith, order) in
    let split : here_among here start ((first - start) + (met + rest)) ≡ here_among here start (first - start) + here_among here
    (start + (first - start)) (met + rest) = here_among-split here start (first - start) (met + rest) in
    let back : start + (first - start) ≡ first = omega (arith, order) in
    let moved : here_among here (start + (first - start)) (met + rest) ≡ here_among here first (met + rest) =
    ap (λ p. here_among here p (met + rest)) back in
    let again : here_among here first (met + rest) ≡ here_among here first met + here_among here (first + met) rest =
    here_among-split here first met rest in
    let all : here_among here first met ≡ met =
    here_among-all here first met (λ page le lt. here_half page (omega (arith, le)) (omega (arith, le, lt))) in
    let length : here_among here start (last - start) ≡ here_among here start ((first - start) + (met + rest)) =
    ap (here_among here start) whole in
    omega (arith, so_far, length, split, moved, again, all, order)

-- the same bound at another name of the place
same_bound : (here : ℕ → Bool) (start from to : ℕ) → to ≡ from → from / 4096 - start ≤ 2 * here_among here start (from / 4096 - start)
    → to / 4096 - start ≤ 2 * here_among here start (to / 4096 - start)
same_bound here start from to is so_far =
    let same : here_among here start (to / 4096 - start) ≡ here_among here start (from / 4096 - start) =
    ap (λ a. here_among here start (a / 4096 - start)) is in
    omega (arith, same, is, so_far)

-- a block is twice its half
twice : (class : ℕ) → 1 ≤ class → 2 ^ class ≡ 2 * 2 ^ (class - 1)
twice zero some = omega (arith, some)
twice (suc class) some =
    let back : suc class - 1 ≡ class = omega arith in
    let power : 2 ^ (suc class - 1) ≡ 2 ^ class = ap (λ n. 2 ^ n) back in
    omega (arith, power)

-- with the first half of each block here, at least half of the whole pages below the top are
pub at_least_half : (here : ℕ → Bool) (start from to : ℕ) (blocks : List Block) → start ≤ from / 4096 → Fill from blocks to
    → AllByRecursion (λ block. (1 ≤ block.class) × IsHalfHere here block) blocks
    → from / 4096 - start ≤ 2 * here_among here start (from / 4096 - start)
    → to / 4096 - start ≤ 2 * here_among here start (to / 4096 - start)
at_least_half here start from to [] order fill halves so_far = same_bound here start from to fill so_far
at_least_half here start from to (block ∷ blocks) order fill halves so_far =
    let half = 2 ^ (block.class - 1) in
    let step = one_block here start from half order
    (λ page above below. halves.0.1 page (omega (arith, above, fill.0)) (omega (arith, below, fill.0))) so_far in
    let double : 2 ^ block.class ≡ 2 * half = twice block.class halves.0.0 in
    let next : from + block_bytes block ≡ from + 2 * half = omega (arith, double) in
    at_least_half here start (from + block_bytes block) to blocks (omega (arith, order)) fill.1 halves.1
    (same_bound here start (from + 2 * half) (from + block_bytes block) next step)
