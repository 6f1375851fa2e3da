-- Where a store lies in a memory: its regions, and the fields of its header. Numbers in pages stand
-- with their highest byte first.
use Rattle.std.specs.Prelude.{ℕ, ◌+◌, ◌*◌, ◌-◌, ◌/◌, ◌^◌, nat_le, List, [], ◌∷◌, unwrap_or}
use Rattle.std.specs.List.{find, range_with_len, flat_map}
use Rattle.byteorder.specs.Endian.{big_number}
use Rattle.vm_base.specs.declared.permission.Perm.TheVariants.{ReadWrite}
use Rattle.vm_base.specs.FlatMemory.{Area, FlatMemory, bytes_at}

-- the header's page, at hexadecimal 200000
abbrev pub header_at : ℕ
header_at = 2097152

-- where the array of buckets lies: in the first region, at hexadecimal 80000000
abbrev pub array_a : ℕ
array_a = 2147483648

-- or in the second one, at hexadecimal 100000000
abbrev pub array_b : ℕ
array_b = 4294967296

-- the heap's first address, hexadecimal 200000000
abbrev pub heap_at : ℕ
heap_at = 8589934592

-- the heap's pages
abbrev pub heap_pages : ℕ
heap_pages = 131584

-- the end of the heap's area
abbrev pub heap_end : ℕ
heap_end = heap_at + 4096 * heap_pages

-- the header's fields, of 8 bytes each: the heap's top
abbrev pub top_field : ℕ
top_field = header_at

-- the heads of the 17 lists of free blocks, those of class 5 first
abbrev pub list_field : ℕ → ℕ
list_field class = header_at + 8 + 8 * (class - 5)

-- where the array of buckets lies
abbrev pub array_field : ℕ
array_field = header_at + 144

-- how many buckets it has
abbrev pub buckets_field : ℕ
buckets_field = header_at + 152

-- how many pairs there are
abbrev pub pairs_field : ℕ
pairs_field = header_at + 160

-- the number in n bytes of a memory
abbrev pub number_at : FlatMemory → ℕ → ℕ → ℕ
number_at memory address n = big_number n (bytes_at memory.present address n)

-- the number in 8 bytes of a memory
abbrev pub word_at : FlatMemory → ℕ → ℕ
word_at memory address = number_at memory address 8

-- the classes of blocks: class c has those of 2^c bytes
abbrev pub classes : List ℕ
classes = range_with_len 5 17

-- the least class whose blocks hold so many bytes
abbrev pub class_of : ℕ → ℕ
class_of size = unwrap_or (find (λ class. nat_le size (2 ^ class)) classes) 21

-- an area of a store, which may be written
abbrev pub store_area : ℕ → ℕ → Area
store_area address pages = record { first = address / 4096; pages = pages; perm = ReadWrite }

-- the area of the header
abbrev pub header_area : Area
header_area = store_area header_at 1

-- the area of the heap
abbrev pub heap_area : Area
heap_area = store_area heap_at heap_pages

-- the pages of an array of buckets
abbrev pub array_pages : ℕ → ℕ
array_pages buckets = (8 * buckets + 4095) / 4096

-- the areas of a store: the header, the array in use, and the heap
abbrev pub store_areas : ℕ → ℕ → List Area
store_areas array buckets = header_area ∷ store_area array (array_pages buckets) ∷ heap_area ∷ []

-- the cells of a store's regions: the header's, those of the two regions of arrays, and the heap's
abbrev pub store_cells : List ℕ
store_cells =
    1 ∷ flat_map (λ (part : ℕ × ℕ). range_with_len part.0 part.1)
    ((1024, 64) ∷ (2048, 64) ∷ (4096, 257) ∷ [])
