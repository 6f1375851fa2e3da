-- Counts of 64 bits.
use Rattle.std.specs.Prelude.{ℕ, ◌+◌, ◌-◌, ◌^◌, ◌≤◌, min}

-- the count after one more, which stands still at the largest u64
abbrev pub next_count : ℕ → ℕ
next_count count = min (count + 1) (2 ^ 64 - 1)

-- the count rose; one that stands at the largest u64 stays there, and has then risen
abbrev pub Rose : ℕ → ℕ → Type 0
Rose old new = next_count old ≤ new
