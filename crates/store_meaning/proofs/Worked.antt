-- Small cases that the definitions compute to.
use Rattle.std.proofs.Common.{◌≡◌, refl, [], ◌∷◌, ◌+◌, ◌*◌, ◌^◌, length}
use Rattle.std.specs.Prelude.{codes, ◌%◌}
use Rattle.store_meaning.specs.Layout.{class_of, array_pages, array_a, list_field, header_at, heap_at, heap_area, heap_end, store_cells}
use Rattle.store_meaning.specs.HeapLayout.{Heap, opening_heap, committed, freed, next_at}
use Rattle.store_meaning.specs.HashLayout.{hash_of, other_array, array_after}
use Rattle.store_meaning.specs.Reach.{opening_reach, with_peaks}

-- the hash of no bytes and of `a`, and the bucket of `a` among 512, with its address
hash_nothing : hash_of [] ≡ 14695981039346656037
hash_nothing = refl

hash_a : hash_of (codes "a") ≡ 12638187200555641996
hash_a = refl

bucket_a : hash_of (codes "a") % 512 ≡ 140
bucket_a = refl

bucket_a-address : array_a + 8 * 140 ≡ 2147484768
bucket_a-address = refl

-- classes at their edges
class-least : class_of 1 ≡ 5
class-least = refl

class-full : class_of 32 ≡ 5
class-full = refl

class-next : class_of 33 ≡ 6
class-next = refl

class-greatest_pair : class_of (16 + 65536 + 1048576) ≡ 21
class-greatest_pair = refl

class-greatest : class_of 2097152 ≡ 21
class-greatest = refl

-- the heads of the first class and of the last one, right in front of the array's address
first_head : list_field 5 ≡ header_at + 8
first_head = refl

last_head : list_field 21 + 8 ≡ header_at + 144
last_head = refl

-- the pages of arrays: the first one, and the greatest
array-first : array_pages 512 ≡ 1
array-first = refl

array-greatest : array_pages (2 ^ 24) ≡ 32768
array-greatest = refl

heap-first_page : heap_area.first ≡ 2097152
heap-first_page = refl

heap-end : heap_end ≡ 9128902656
heap-end = refl

cells : length store_cells ≡ 386
cells = refl

-- a first block, given back and taken again
abbrev first_block : Heap
first_block = committed opening_heap 5

first_block-at : next_at opening_heap 5 ≡ heap_at
first_block-at = refl

first_block-top : first_block.top ≡ heap_at + 32
first_block-top = refl

given_back : (freed first_block heap_at 5).free 5 ≡ heap_at ∷ []
given_back = refl

taken_again : next_at (freed first_block heap_at 5) 5 ≡ heap_at
taken_again = refl

other_class : next_at (freed first_block heap_at 5) 6 ≡ heap_at + 32
other_class = refl

-- a doubling goes to the other region, and back
region_b : other_array array_a ≡ 4294967296
region_b = refl

region_a : other_array (other_array array_a) ≡ array_a
region_a = refl

array-greatest_region : array_after 15 ≡ 4294967296
array-greatest_region = refl

-- the bound of a store that begins, and with one small pair
opening_bound : opening_reach.bound ≡ 13
opening_bound = refl

bound-one_pair : (with_peaks 0 (1 ∷ 0 ∷ 0 ∷ 0 ∷ 0 ∷ 0 ∷ 0 ∷ 0 ∷ 0 ∷ 0 ∷ 0 ∷ 0 ∷ 0 ∷ 0 ∷ 0 ∷ 0 ∷ 0 ∷ []) 1).bound ≡ 15
bound-one_pair = refl
