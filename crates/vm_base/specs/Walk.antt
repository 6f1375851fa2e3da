-- The walk of an address through four levels of tables with 512 entries each, as x86-64 does it.
use Rattle.std.specs.Prelude.{ℕ, ◌/◌, ◌%◌, ◌^◌, List, [], ◌∷◌}

-- the index in the top, the upper, the middle and the leaf table, and the offset in the page
abbrev pub walk_of : ℕ → List ℕ
walk_of address =
    (address / 2 ^ 39) ∷ (address / 2 ^ 30 % 512) ∷ (address / 2 ^ 21 % 512) ∷ (address / 2 ^ 12 % 512) ∷ (address % 4096) ∷ []
