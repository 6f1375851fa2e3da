-- What the current folder counts, and how it names a file that is not published yet.
use Rattle.std.specs.Prelude.{ℕ, List, ◌+◌, ◌-◌, ◌^◌, ◌++◌, min, codes}

-- the count after so many faults more, which stands still at the largest u64
abbrev pub count_after_faults : ℕ → ℕ → ℕ
count_after_faults count more = min (count + more) (2 ^ 64 - 1)

-- the name under which a file is written until it is published
abbrev pub part_name : List ℕ → List ℕ
part_name name = name ++ codes ".part"
