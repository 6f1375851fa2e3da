-- Small cases of walks, table entries and deals, worked out.
use Rattle.std.proofs.Common.{◌≡◌, ℕ, ◌+◌, [], ◌∷◌, refl}
use Rattle.vm_base.specs.Counts.{next_count}
use Rattle.vm_base.specs.Walk.{walk_of}
use Rattle.vm_base.specs.Entries.{named_bits, entry_of, number_of, bits_of}
use Rattle.vm_base.specs.declared.frame_request.Want.TheVariants.{Leaf, Page}
use Rattle.vm_base.specs.Deals.{Deal, Granted, Denied, Returned, LeadsAlong}

-- the last byte below 2 MiB lies in the last page of the first leaf table
walks : (walk_of 0x1fffff ≡ 0 ∷ 0 ∷ 0 ∷ 511 ∷ 4095 ∷ []) × (walk_of 0xffffffffffff ≡ 511 ∷ 511 ∷ 511 ∷ 511 ∷ 4095 ∷ [])
walks = (refl, refl)

-- the number stands above the bits that have a name, and other bits are left out
entries : (named_bits ≡ 0x603) × (entry_of 5 3 ≡ 0x5003) × (entry_of 5 0xfff ≡ 0x5603) × (number_of 0x5603 ≡ 5) × (bits_of 0x5fff ≡ 0x603)
entries = (refl, refl, refl, refl, refl)

-- a count that is full stands still
counts : (next_count 0 ≡ 1) × (next_count 0xffffffffffffffff ≡ 0xffffffffffffffff)
counts = (refl, refl)

-- a leaf is granted, a page refused, and the leaf given back: so many frames are out after each
abbrev Counts : ℕ → Deal → ℕ → Type 0
Counts out (Granted want) later = later ≡ out + 1
Counts out (Denied want at) later = later ≡ out
Counts out Returned later = later + 1 ≡ out

a_refused_page_gives_the_leaf_back : LeadsAlong Counts 4 (Granted Leaf ∷ Denied Page 1 ∷ Returned ∷ []) 4
a_refused_page_gives_the_leaf_back = (5, (refl, (5, (refl, (4, (refl, refl))))))
