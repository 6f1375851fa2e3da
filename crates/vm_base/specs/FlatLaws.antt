-- The laws of a flat memory that all who use one need: what each call leaves of the reads, which ranges no area refuses, how many frames a memory takes, and when the slots suffice.
use Rattle.std.specs.Prelude.{◌≡◌, ℕ, ◌+◌, ◌*◌, ◌≤◌, ◌<◌, IsTrue, IsFalse, IsSome, is_some, false, ◌↔◌, ◌⊎◌, List, [], ◌++◌, length, replicate, Some, None, Ok, unwrap_or, All}
use Rattle.std.specs.FinMap.{get, len, retain_keys}
use Rattle.std.specs.List.{Contains}
use Rattle.vm_base.specs.declared.faults.Fault.TheVariants.{CellsFull}
use Rattle.vm_base.specs.Places.{page_of, cell_of, page_count, cells_of_range, directory_frames, distinct}
use Rattle.vm_base.specs.FlatMemory.{Area, PageMap, FlatMemory, AreInOrder, area_of, zero_page, bytes_at}
use Rattle.vm_base.specs.FlatStep.{outside, taken, unwritable, is_read_only, is_writable, with_pages, with_bytes, is_beyond, read_of, touch_of}
use Rattle.vm_base.specs.MemoryState.{MemoryState, IsIn, IsListed, own_of}
use Rattle.vm_base.specs.MemoryCalls.{IsInRange, faulted, touched, touch_answer, is_out_of_slots, TouchFails}

-- ---- ranges

-- the page is one of n pages
abbrev pub IsAmong : ℕ → ℕ → ℕ → Type 0
IsAmong first n page = (first ≤ page) × (page < first + n)

-- the page lies below n pages, or behind them
abbrev pub IsBeyond : ℕ → ℕ → ℕ → Type 0
IsBeyond first n page = (page < first) ⊎ (first + n ≤ page)

-- of two ranges one ends where the other begins, or before
abbrev pub AreApart : ℕ → ℕ → ℕ → ℕ → Type 0
AreApart first n other size = (first + n ≤ other) ⊎ (other + size ≤ first)

-- the page is present, with its 4096 bytes
abbrev pub IsFullPage : PageMap → ℕ → Type 0
IsFullPage present page = length (unwrap_or (get present page) []) ≡ 4096

-- so is each page of a range of bytes
abbrev pub AreFullPages : PageMap → ℕ → ℕ → Type 0
AreFullPages present address n = (page : ℕ) → IsInRange page address n → IsFullPage present page

-- ---- what a touch leaves

-- touching pages changes no read
abbrev pub TouchesChangeNoRead : Type 0
TouchesChangeNoRead =
    (present : PageMap) (first n address size : ℕ) → bytes_at (with_pages present first n) address size ≡ bytes_at present address size

-- a page that is present keeps its bytes, touched or not
abbrev pub TouchesKeepPages : Type 0
TouchesKeepPages =
    (present : PageMap) (first n page : ℕ) (bytes : List ℕ) → get present page ≡ Some bytes → get (with_pages present first n) page ≡ Some bytes

-- an absent page that is touched has zeros then
abbrev pub TouchesMakeZeros : Type 0
TouchesMakeZeros =
    (present : PageMap) (first n page : ℕ) → IsAmong first n page → get present page ≡ None → get (with_pages present first n) page ≡ Some zero_page

-- a page that is not touched stays as it was
abbrev pub TouchesLeaveOthers : Type 0
TouchesLeaveOthers =
    (present : PageMap) (first n page : ℕ) → IsBeyond first n page → get (with_pages present first n) page ≡ get present page

-- a range without a present page reads as zeros
abbrev pub AbsentPagesReadAsZeros : Type 0
AbsentPagesReadAsZeros =
    (present : PageMap) (address size : ℕ) → ((page : ℕ) → IsInRange page address size → get present page ≡ None) → bytes_at present address size ≡ replicate size 0

-- ---- what a store leaves

-- bytes that were stored are read again
abbrev pub StoredBytesAreRead : Type 0
StoredBytesAreRead =
    (present : PageMap) (address : ℕ) (bytes : List ℕ) → AreFullPages present address (length bytes)
    → bytes_at (with_bytes present address bytes) address (length bytes) ≡ bytes

-- a range apart from them is read as before
abbrev pub StoresChangeNoOtherRead : Type 0
StoresChangeNoOtherRead =
    (present : PageMap) (address : ℕ) (bytes : List ℕ) (other size : ℕ) → AreApart address (length bytes) other size
    → bytes_at (with_bytes present address bytes) other size ≡ bytes_at present other size

-- a page beyond those of the range stays as it was
abbrev pub StoresLeaveOtherPages : Type 0
StoresLeaveOtherPages =
    (present : PageMap) (address : ℕ) (bytes : List ℕ) (page : ℕ) → IsBeyond (page_of address) (page_count address (length bytes)) page
    → get (with_bytes present address bytes) page ≡ get present page

-- where each page of the range is present, the same pages are present behind it
abbrev pub StoresMakeNoPagePresent : Type 0
StoresMakeNoPagePresent =
    (present : PageMap) (address : ℕ) (bytes : List ℕ) → ((page : ℕ) → IsInRange page address (length bytes) → IsSome (get present page))
    → (page : ℕ) → is_some (get (with_bytes present address bytes) page) ≡ is_some (get present page)

-- each page has as many bytes as before
abbrev pub StoresKeepLengths : Type 0
StoresKeepLengths =
    (present : PageMap) (address : ℕ) (bytes : List ℕ) → AreFullPages present address (length bytes)
    → (page : ℕ) → length (unwrap_or (get (with_bytes present address bytes) page) []) ≡ length (unwrap_or (get present page) [])

-- of two stores the one behind the other, both are one store
abbrev pub StoresJoin : Type 0
StoresJoin =
    (present : PageMap) (address : ℕ) (front back : List ℕ)
    → with_bytes (with_bytes present address front) (address + length front) back ≡ with_bytes present address (front ++ back)

-- ---- what an unmap leaves

-- the pages that are left where n pages are unmapped
abbrev pub unmapped : PageMap → ℕ → ℕ → PageMap
unmapped present first n = retain_keys present (is_beyond first n)

-- a range of bytes apart from the pages unmapped is read as before
abbrev pub UnmapsChangeNoOtherRead : Type 0
UnmapsChangeNoOtherRead =
    (present : PageMap) (first n address size : ℕ) → AreApart (first * 4096) (n * 4096) address size
    → bytes_at (unmapped present first n) address size ≡ bytes_at present address size

-- a page beyond them stays as it was
abbrev pub UnmapsLeaveOthers : Type 0
UnmapsLeaveOthers =
    (present : PageMap) (first n page : ℕ) → IsBeyond first n page → get (unmapped present first n) page ≡ get present page

-- a page among them is absent
abbrev pub UnmappedPagesAreAbsent : Type 0
UnmappedPagesAreAbsent =
    (present : PageMap) (first n page : ℕ) → IsAmong first n page → get (unmapped present first n) page ≡ None

-- ---- ranges that no area refuses

-- the area has each of n pages
abbrev pub HasAll : Area → ℕ → ℕ → Type 0
HasAll area first n = (area.first ≤ first) × (first + n ≤ area.first + area.pages)

-- where areas are in order, the area of a page is the one that has it
abbrev pub AreasAreFound : Type 0
AreasAreFound =
    (areas : List Area) (area : Area) (page : ℕ) → AreInOrder areas → Contains areas area → IsAmong area.first area.pages page
    → area_of areas page ≡ Some area

-- no page is outside where one area has them all
abbrev pub AnAreaIsNotMissed : Type 0
AnAreaIsNotMissed =
    (areas : List Area) (area : Area) (first n : ℕ) → Contains areas area → HasAll area first n → outside areas first n ≡ None

-- no page is outside exactly where each has an area
abbrev pub NoneIsOutside : Type 0
NoneIsOutside =
    (areas : List Area) (first n : ℕ) → (outside areas first n ≡ None) ↔ ((page : ℕ) → IsAmong first n page → IsSome (area_of areas page))

-- each page may be written where the area that has them all may
abbrev pub AWritableAreaIsFound : Type 0
AWritableAreaIsFound =
    (areas : List Area) (area : Area) (first n : ℕ) → AreInOrder areas → Contains areas area → HasAll area first n → IsTrue (is_writable area.perm)
    → unwritable areas first n ≡ None

-- each page may be written exactly where none has an area that may only be read
abbrev pub NoneIsReadOnly : Type 0
NoneIsReadOnly =
    (areas : List Area) (first n : ℕ) → (unwritable areas first n ≡ None) ↔ ((page : ℕ) → IsAmong first n page → IsFalse (is_read_only (area_of areas page)))

-- no page is taken where each area is apart from them
abbrev pub AreasApartTakeNone : Type 0
AreasApartTakeNone =
    (areas : List Area) (first n : ℕ) → All (λ area. AreApart area.first area.pages first n) areas → taken areas first n ≡ None

-- no page is taken exactly where none has an area
abbrev pub NoneIsTaken : Type 0
NoneIsTaken =
    (areas : List Area) (first n : ℕ) → (taken areas first n ≡ None) ↔ ((page : ℕ) → IsAmong first n page → area_of areas page ≡ None)

-- the area has each byte of a range
abbrev pub HasBytes : Area → ℕ → ℕ → Type 0
HasBytes area address n = (area.first * 4096 ≤ address) × (address + n ≤ (area.first + area.pages) * 4096)

-- a range of bytes of one area is read
abbrev pub RangesOfAnAreaAreRead : Type 0
RangesOfAnAreaAreRead =
    (memory : FlatMemory) (area : Area) (address n : ℕ) → Contains memory.areas area → HasBytes area address n
    → read_of memory address n ≡ Ok (bytes_at memory.present address n)

-- and touched where the area may be written
abbrev pub RangesOfAnAreaAreTouched : Type 0
RangesOfAnAreaAreTouched =
    (memory : FlatMemory) (area : Area) (address n : ℕ) → AreInOrder memory.areas → Contains memory.areas area → HasBytes area address n
    → IsTrue (is_writable area.perm) → touch_of memory address n ≡ Ok (touched memory address n)

-- ---- frames of its own

-- each page of the one memory is a page of the other
abbrev pub HasPagesOf : FlatMemory → FlatMemory → Type 0
HasPagesOf large small = (page : ℕ) → IsSome (get small.present page) → IsSome (get large.present page)

-- each number of the one list is in the other
abbrev pub HasNumbersOf : List ℕ → List ℕ → Type 0
HasNumbersOf large small = (n : ℕ) → IsListed n small → IsListed n large

-- with more pages a memory takes no fewer frames
abbrev pub MorePagesTakeMoreFrames : Type 0
MorePagesTakeMoreFrames = (small large : FlatMemory) → HasPagesOf large small → own_of small ≤ own_of large

-- a touch takes none away
abbrev pub TouchesTakeNoFrameAway : Type 0
TouchesTakeNoFrameAway = (memory : FlatMemory) (address n : ℕ) → own_of memory ≤ own_of (touched memory address n)

-- the directory of more cells has no fewer tables
abbrev pub MoreCellsTakeMoreTables : Type 0
MoreCellsTakeMoreTables = (small large : List ℕ) → HasNumbersOf large small → directory_frames small ≤ directory_frames large

-- of more numbers no fewer are distinct
abbrev pub MoreNumbersAreMoreDistinct : Type 0
MoreNumbersAreMoreDistinct = (small large : List ℕ) → HasNumbersOf large small → length (distinct small) ≤ length (distinct large)

-- each present page takes a frame
abbrev pub PagesTakeFrames : Type 0
PagesTakeFrames = (memory : FlatMemory) → len memory.present ≤ own_of memory

-- ---- slots

-- the slots suffice where all cells that use one, and all of the range, lie among as many cells as there are slots
abbrev pub SlotsSufficeAmong : Type 0
SlotsSufficeAmong =
    (state : MemoryState) (address n : ℕ) (cells : List ℕ) → ((cell : ℕ) → IsIn cell state.used → IsListed cell cells)
    → HasNumbersOf cells (cells_of_range address n) → length cells ≤ state.slots → is_out_of_slots state address n ≡ false

-- they suffice where all those cells have numbers below that of the slots
abbrev pub SlotsSufficeBelow : Type 0
SlotsSufficeBelow =
    (state : MemoryState) (address n limit : ℕ) → ((cell : ℕ) → IsIn cell state.used → cell < limit)
    → ((cell : ℕ) → IsListed cell (cells_of_range address n) → cell < limit) → limit ≤ state.slots → is_out_of_slots state address n ≡ false

-- where the slots suffice a touch is answered as the areas answer it
abbrev pub OnlyAreasRefuse : Type 0
OnlyAreasRefuse =
    (state : MemoryState) (address n : ℕ) → is_out_of_slots state address n ≡ false → touch_answer state address n ≡ faulted (touch_of state.mem address n)

-- and never for want of slots
abbrev pub SlotsAreNeverFull : Type 0
SlotsAreNeverFull =
    (old new : MemoryState) (address n : ℕ) → is_out_of_slots old address n ≡ false → TouchFails old new address n CellsFull → ⊥

-- the cells of a range are those of its pages
abbrev pub CellsAreThoseOfPages : Type 0
CellsAreThoseOfPages =
    (address n cell : ℕ) → IsListed cell (cells_of_range address n) ↔ ((page : ℕ) × (IsInRange page address n × (cell_of page ≡ cell)))
