-- The bytes of a range within one page.
use Rattle.std.proofs.Common.{◌≡◌, ℕ, ◌+◌, ◌/◌, ◌%◌, ◌<◌, ◌≤◌, List, [], length, drop, get_or, Option, Some, None, refl, sym, ◌∙◌, ap, arith}
use Rattle.std.specs.Prelude.{unwrap_or}
use Rattle.std.specs.FinMap.{get}
use Rattle.std.proofs.lemmas.List.{same_lists, get_or-take, get_or-drop, get_or-replicate, get_or_default}
use Rattle.std.proofs.lemmas.List.FromFn.{get_or-map-range_with_len}
use Rattle.vm_base.specs.Places.{page_of, offset_of}
use Rattle.vm_base.specs.FlatMemory.{PageMap, byte_at, bytes_at}
use Rattle.vm_base.proofs.FlatBytes.{length-bytes_at}
use Rattle.leaf_cell.specs.CellView.{page_or_zeros, part_of}

-- the byte at an address is that of its page
byte-there : (present : PageMap) (address k : ℕ) (page : Option (List ℕ)) → get present (page_of address) ≡ page → offset_of address + k < 4096
    → byte_at present (address + k) ≡ get_or (unwrap_or page []) (offset_of address + k) 0
byte-there present address k page there room =
    let same_page : (address + k) / 4096 ≡ address / 4096 = omega arith in
    let place : (address + k) % 4096 ≡ address % 4096 + k = omega arith in
    ap (λ p. get_or (unwrap_or (get present p) []) ((address + k) % 4096) 0) same_page
    ∙ ap (λ i. get_or (unwrap_or (get present (address / 4096)) []) i 0) place
    ∙ ap (λ p. get_or (unwrap_or p []) (address % 4096 + k) 0) there

-- what is absent reads as zeros
zeros-there : (page : Option (List ℕ)) (i : ℕ) → i < 4096 → get_or (page_or_zeros page) i 0 ≡ get_or (unwrap_or page []) i 0
zeros-there None i small = get_or-replicate 4096 i 0 0 small
zeros-there (Some bytes) i small = refl

-- bytes of a page, as many as are asked for, are those of the range
pub bytes_at-part : (present : PageMap) (address n : ℕ) (page : Option (List ℕ)) → get present (page_of address) ≡ page → offset_of address + n ≤ 4096
    → length (part_of page (offset_of address) n) ≡ n → part_of page (offset_of address) n ≡ bytes_at present address n
bytes_at-part present address n page there room size = same_lists _ _ (size ∙ sym (length-bytes_at present address n)) (λ k d small.
    let inside : k < n = omega (arith, small, size) in
    get_or_default (part_of page (offset_of address) n) k d 0 small
    ∙ get_or-take n (drop (offset_of address) (page_or_zeros page)) k 0 inside
    ∙ get_or-drop (offset_of address) (page_or_zeros page) k 0
    ∙ zeros-there page (offset_of address + k) (omega arith)
    ∙ sym (byte-there present address k page there (omega arith))
    ∙ sym (get_or-map-range_with_len (byte_at present) address n k (address + k) d inside refl))
