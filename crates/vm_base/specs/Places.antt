-- Where an address lies: its page, its place in that page, the cell of a page, and what the directory of some cells costs. Source: the x86-64 walk of four levels, with an offset of 12 bits and indices of 9 bits.
use Rattle.std.specs.Prelude.{ℕ, ◌+◌, ◌-◌, ◌/◌, ◌%◌, ◌^◌, List, [], ◌∷◌, map, length, ◌==◌, if◌then◌else◌}
use Rattle.std.specs.List.{list_any, range_with_len}

-- the page of an address: a page has 4096 bytes
abbrev pub page_of : ℕ → ℕ
page_of address = address / 4096

-- the place of an address in its page
abbrev pub offset_of : ℕ → ℕ
offset_of address = address % 4096

-- the cell of a page: what one leaf table maps, which is 512 pages
abbrev pub cell_of : ℕ → ℕ
cell_of page = page / 512

-- how many pages a range of n bytes from an address meets; one without bytes meets none
abbrev pub page_count : ℕ → ℕ → ℕ
page_count address n = if n == 0 then 0 else page_of (address + n - 1) + 1 - page_of address

-- the cells that a range of n bytes from an address meets, lowest first
abbrev pub cells_of_range : ℕ → ℕ → List ℕ
cells_of_range address n =
    let first = cell_of (page_of address) in
    if n == 0 then [] else range_with_len first (cell_of (page_of (address + n - 1)) + 1 - first)

-- the members of a list, each once
abbrev pub distinct : List ℕ → List ℕ
distinct [] = []
distinct (x ∷ xs) = if list_any (λ y. x == y) xs then distinct xs else x ∷ distinct xs

-- the tables of the directory of these cells: none for no cells; else one top table, an upper table for each 512 times 512 cells, and a middle table for each 512 cells, where there is one of them
abbrev pub directory_frames : List ℕ → ℕ
directory_frames [] = 0
directory_frames (cell ∷ cells) =
    1 + length (distinct (map (λ c. c / 2 ^ 18) (cell ∷ cells))) + length (distinct (map (λ c. c / 2 ^ 9) (cell ∷ cells)))
