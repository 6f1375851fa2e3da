-- Reading the text of a script from left to right: what each step of the reader answers. That this is the grammar read backwards is proved of it.
use Rattle.std.specs.Prelude.{ℕ, ◌+◌, ◌-◌, ◌*◌, ◌/◌, ◌%◌, ◌^◌, nat_lt, nat_le, ◌==◌, Bool, true, ◌&&◌, not, if◌then◌else◌, List, [], ◌∷◌, length, codes, Option, Some, None}
use Rattle.std.specs.List.{list_any}
use Rattle.std.specs.Str.{bytes_eq}
use Rattle.vm_base.specs.declared.permission.Perm.{Perm}
use Rattle.vm_base.specs.declared.permission.Perm.TheVariants.{ReadWrite as read_write, Read as read_only}
use Rattle.vm_base.specs.declared.fork_mode.Mode.{Mode}
use Rattle.vm_base.specs.declared.fork_mode.Mode.TheVariants.{Eager, OnDemand, Async}
use Rattle.trace_events.specs.declared.event.Event.{Event}
use Rattle.trace_events.specs.declared.event.Event.TheVariants.{Map, Unmap, Protect, Read, Write, Fill, Fork, Copy, Drop, SnapRead, Frames, ListAreas, Refuse}
use Rattle.trace_events.specs.EventBounds.{is_fork_mode}
use Rattle.trace_text.specs.declared.machine.Machine.{Machine}

-- the next step, where the step before it answered
infixl 10 ◌>>=◌
abbrev pub ◌>>=◌ : {A B : Type 0} → Option A → (A → Option B) → Option B
None >>= f = None
(Some x) >>= f = f x

-- a value, where a test holds
abbrev pub only_if : {A : Type 0} → Bool → A → Option A
only_if holds x = if holds then Some x else None

-- ---- tokens

-- what stands before the first such byte, and what stands behind it
abbrev pub parts_at : ℕ → List ℕ → Option (List ℕ × List ℕ)
parts_at byte [] = None
parts_at byte (x ∷ xs) =
    if x == byte then Some ([], xs) else (parts_at byte xs >>= λ parts. Some (x ∷ parts.0, parts.1))

-- the value of a hexadecimal digit of lower case
abbrev pub digit_of : ℕ → Option ℕ
digit_of c =
    if nat_le 48 c && nat_le c 57 then Some (c - 48)
    else if nat_le 97 c && nat_le c 102 then Some (c - 87)
    else None

-- the number n with these digits behind it, where it stays below 2 ^ 48
abbrev pub digits_read : ℕ → ℕ → List ℕ → Option ℕ
digits_read base n [] = Some n
digits_read base n (c ∷ cs) = digit_of c >>= λ d.
    if nat_lt d base && nat_lt (n * base + d) (2 ^ 48) then digits_read base (n * base + d) cs else None

-- the number that a token spells: it has a digit, and no zero before its other digits
abbrev pub spelled_number : ℕ → List ℕ → Option ℕ
spelled_number base [] = None
spelled_number base (c ∷ []) = digits_read base 0 (c ∷ [])
spelled_number base (c ∷ d ∷ cs) = if c == 48 then None else digits_read base 0 (c ∷ d ∷ cs)

-- a decimal number of 32 bits
unfoldable pub count_of : List ℕ → Option ℕ
count_of token = spelled_number 10 token >>= λ number. only_if (nat_lt number (2 ^ 32)) number

-- the page of a page address
unfoldable pub page_at : List ℕ → Option ℕ
page_at token =
    spelled_number 16 token >>= λ address. only_if (address % 4096 == 0) (address / 4096)

-- the byte that two digits spell
abbrev pub byte_of : List ℕ → Option ℕ
byte_of [] = None
byte_of (c ∷ []) = None
byte_of (c ∷ d ∷ []) = digit_of c >>= λ high. digit_of d >>= λ low. Some (high * 16 + low)
byte_of (c ∷ d ∷ e ∷ cs) = None

-- the bytes that pairs of digits spell
abbrev pub bytes_of : List ℕ → Option (List ℕ)
bytes_of [] = Some []
bytes_of (c ∷ []) = None
bytes_of (c ∷ d ∷ cs) = byte_of (c ∷ d ∷ []) >>= λ byte. bytes_of cs >>= λ bytes. Some (byte ∷ bytes)

-- the permission of that spelling
unfoldable pub perm_of : List ℕ → Option Perm
perm_of token =
    if bytes_eq token (codes "r") then Some read_only else only_if (bytes_eq token (codes "rw")) read_write

-- the mode of that name
unfoldable pub mode_of : List ℕ → Option Mode
mode_of token =
    if bytes_eq token (codes "eager") then Some Eager
    else if bytes_eq token (codes "ondemand") then Some OnDemand
    else only_if (bytes_eq token (codes "async")) Async

-- ---- bounds

-- at least one page, and none beyond the last
abbrev pub are_pages : ℕ → ℕ → Bool
are_pages first pages = nat_lt 0 pages && nat_le (first + pages) (2 ^ 36)

-- at least one byte and at most so many, and none beyond the last address
abbrev pub is_range : ℕ → ℕ → ℕ → Bool
is_range most addr len = nat_lt 0 len && nat_le len most && nat_le (addr + len) (2 ^ 48)

-- at least 1, in 32 bits
abbrev pub is_counted : ℕ → Bool
is_counted number = nat_lt 0 number && nat_lt number (2 ^ 32)

-- the test for the bounds of an event's fields
abbrev pub is_within : Event → Bool
is_within (Map first pages perm) = are_pages first pages
is_within (Unmap first pages) = are_pages first pages
is_within (Protect first pages perm) = are_pages first pages
is_within (Read addr len) = is_range 65536 addr len
is_within (Write addr bytes) = is_range 4096 addr (length bytes) && not (list_any (λ byte. nat_le (2 ^ 8) byte) bytes)
is_within (Fill addr len byte) = is_range 2097152 addr len && nat_lt byte (2 ^ 8)
is_within (Fork number mode) = is_counted number && is_fork_mode mode
is_within (Copy number cell) = is_counted number && nat_lt cell (2 ^ 27)
is_within (Drop number) = is_counted number
is_within (SnapRead number addr len) = is_counted number && is_range 65536 addr len
is_within Frames = true
is_within ListAreas = true
is_within (Refuse nth) = is_counted nth

-- ---- lines, without the line feed

-- two tokens: an address and a decimal number
unfoldable pub range_of : List ℕ → Option (ℕ × ℕ)
range_of fields = do
  parts ← parts_at 32 fields
  addr ← spelled_number 16 parts.0
  len ← count_of parts.1
  Some (addr, len)

-- the event of what stands behind `unmap `
unfoldable pub unmap_event : List ℕ → Option Event
unmap_event fields = do
  parts ← parts_at 32 fields
  first ← page_at parts.0
  pages ← spelled_number 10 parts.1
  Some (Unmap first pages)

-- pages and a permission, behind `map ` and `protect `
unfoldable pub spelled_area : List ℕ → Option (ℕ × ℕ × Perm)
spelled_area fields = do
  parts ← parts_at 32 fields
  others ← parts_at 32 parts.1
  first ← page_at parts.0
  pages ← spelled_number 10 others.0
  perm ← perm_of others.1
  Some (first, pages, perm)

-- the event of what stands behind `write `
unfoldable pub write_event : List ℕ → Option Event
write_event fields = do
  parts ← parts_at 32 fields
  addr ← spelled_number 16 parts.0
  bytes ← bytes_of parts.1
  Some (Write addr bytes)

-- the event of what stands behind `fill `
unfoldable pub fill_event : List ℕ → Option Event
fill_event fields = do
  parts ← parts_at 32 fields
  others ← parts_at 32 parts.1
  addr ← spelled_number 16 parts.0
  len ← count_of others.0
  byte ← byte_of others.1
  Some (Fill addr len byte)

-- the event of what stands behind `fork `
unfoldable pub fork_event : List ℕ → Option Event
fork_event fields = do
  parts ← parts_at 32 fields
  number ← count_of parts.0
  mode ← mode_of parts.1
  Some (Fork number mode)

-- the event of what stands behind `copy `
unfoldable pub copy_event : List ℕ → Option Event
copy_event fields = do
  parts ← parts_at 32 fields
  number ← count_of parts.0
  cell ← count_of parts.1
  Some (Copy number cell)

-- the event of what stands behind `sread `
unfoldable pub snap_read_event : List ℕ → Option Event
snap_read_event fields = do
  parts ← parts_at 32 fields
  number ← count_of parts.0
  range ← range_of parts.1
  Some (SnapRead number range.0 range.1)

-- the event of what stands behind `map `
unfoldable pub map_event : List ℕ → Option Event
map_event fields = spelled_area fields >>= λ a. Some (Map a.0 a.1 a.2)

-- the event of what stands behind `protect `
unfoldable pub protect_event : List ℕ → Option Event
protect_event fields = spelled_area fields >>= λ a. Some (Protect a.0 a.1 a.2)

-- the event of what stands behind `read `
unfoldable pub read_event : List ℕ → Option Event
read_event fields = range_of fields >>= λ range. Some (Read range.0 range.1)

-- the event of what stands behind `drop `
unfoldable pub drop_event : List ℕ → Option Event
drop_event fields = count_of fields >>= λ number. Some (Drop number)

-- the event of what stands behind `refuse `
unfoldable pub refuse_event : List ℕ → Option Event
refuse_event fields = count_of fields >>= λ nth. Some (Refuse nth)

-- the event of a first word that names a snapshot, and of what stands behind it
unfoldable pub snapshot_event : List ℕ → List ℕ → Option Event
snapshot_event word fields =
    if bytes_eq word (codes "fork") then fork_event fields
    else if bytes_eq word (codes "copy") then copy_event fields
    else if bytes_eq word (codes "drop") then drop_event fields
    else if bytes_eq word (codes "sread") then snap_read_event fields
    else None

-- the event of a first word and of what stands behind it
unfoldable pub word_event : List ℕ → List ℕ → Option Event
word_event word fields =
    if bytes_eq word (codes "map") then map_event fields
    else if bytes_eq word (codes "unmap") then unmap_event fields
    else if bytes_eq word (codes "protect") then protect_event fields
    else if bytes_eq word (codes "read") then read_event fields
    else if bytes_eq word (codes "write") then write_event fields
    else if bytes_eq word (codes "fill") then fill_event fields
    else if bytes_eq word (codes "refuse") then refuse_event fields
    else snapshot_event word fields

-- the event of a line of one word
unfoldable pub lone_event : List ℕ → Option Event
lone_event line =
    if bytes_eq line (codes "frames") then Some Frames else only_if (bytes_eq line (codes "areas")) ListAreas

-- the event of a line of more words, or of one
abbrev pub event_by : List ℕ → Option (List ℕ × List ℕ) → Option Event
event_by line None = lone_event line
event_by line (Some parts) = word_event parts.0 parts.1

-- the event of a line
unfoldable pub event_of : List ℕ → Option Event
event_of line = event_by line (parts_at 32 line) >>= λ event. only_if (is_within event) event

-- the frames and the slots behind the first word of a machine's line; without slots they are 256
abbrev pub machine_by : List ℕ → Option (List ℕ × List ℕ) → Option Machine
machine_by fields None = count_of fields >>= λ frames. Some (record { frames = frames; cells = 256 })
machine_by fields (Some parts) =
    count_of parts.0 >>= λ frames. count_of parts.1 >>= λ cells. Some (record { frames = frames; cells = cells })

-- the same, with the fields cut at their first space
unfoldable pub machine_fields : List ℕ → Option Machine
machine_fields fields = machine_by fields (parts_at 32 fields)

-- 8 to 65,536 frames, and 1 to 512 slots
abbrev pub is_machine : Machine → Bool
is_machine m = nat_le 8 m.frames && nat_le m.frames 65536 && nat_le 1 m.cells && nat_le m.cells 512

-- the frames and the slots of a machine's line
unfoldable pub spelled_machine : List ℕ → Option Machine
spelled_machine line = do
  parts ← parts_at 32 line
  machine ← (if bytes_eq parts.0 (codes "machine") then machine_fields parts.1 else None)
  only_if (is_machine machine) machine
