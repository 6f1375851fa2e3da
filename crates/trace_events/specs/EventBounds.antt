-- The bounds of an event's fields, and the numbers of forks. What keeps them may be handed to the kernel, and may stand in a script.
use Rattle.std.specs.Prelude.{◌≡◌, ℕ, ◌+◌, ◌^◌, ◌≤◌, ◌<◌, Bool, true, false, length, All, Option, Some, None, IfSome}
use Rattle.vm_base.specs.declared.fork_mode.Mode.{Mode}
use Rattle.vm_base.specs.declared.fork_mode.Mode.TheVariants.{Eager, OnDemand, Async}
use Rattle.trace_events.specs.declared.event.Event.{Event}
use Rattle.trace_events.specs.declared.event.Event.TheVariants.{Map, Unmap, Protect, Read, Write, Fill, Fork, Copy, Drop, SnapRead, Frames, ListAreas, Refuse}

-- the modes in which an event may fork: the two lazy ones are no modes of events yet
abbrev pub is_fork_mode : Mode → Bool
is_fork_mode Eager = true
is_fork_mode OnDemand = false
is_fork_mode Async = false

-- a number that a snapshot may have, or a count of requests: at least 1, in 32 bits
abbrev pub IsCounted : ℕ → Type 0
IsCounted number = (0 < number) × (number < 2 ^ 32)

-- at least one page, and none beyond the last address, which is 2^48 - 1
abbrev pub ArePages : ℕ → ℕ → Type 0
ArePages first pages = (0 < pages) × (first + pages ≤ 2 ^ 36)

-- at least one byte and at most so many, and none beyond the last address
abbrev pub IsRange : ℕ → ℕ → ℕ → Type 0
IsRange most addr len = (0 < len) × (len ≤ most) × (addr + len ≤ 2 ^ 48)

-- the fields of an event lie within their bounds
abbrev pub IsWithinBounds : Event → Type 0
IsWithinBounds (Map first pages perm) = ArePages first pages
IsWithinBounds (Unmap first pages) = ArePages first pages
IsWithinBounds (Protect first pages perm) = ArePages first pages
IsWithinBounds (Read addr len) = IsRange 65536 addr len
IsWithinBounds (Write addr bytes) = IsRange 4096 addr (length bytes) × All (λ byte. byte < 2 ^ 8) bytes
IsWithinBounds (Fill addr len byte) = IsRange 2097152 addr len × (byte < 2 ^ 8)
IsWithinBounds (Fork number mode) = IsCounted number × (is_fork_mode mode ≡ true)
IsWithinBounds (Copy number cell) = IsCounted number × (cell < 2 ^ 27)
IsWithinBounds (Drop number) = IsCounted number
IsWithinBounds (SnapRead number addr len) = IsCounted number × IsRange 65536 addr len
IsWithinBounds Frames = Unit {0}
IsWithinBounds ListAreas = Unit {0}
IsWithinBounds (Refuse nth) = IsCounted nth

-- the number that an event gives to a snapshot, if it forks
abbrev pub fork_number : Event → Option ℕ
fork_number (Map first pages perm) = None
fork_number (Unmap first pages) = None
fork_number (Protect first pages perm) = None
fork_number (Read addr len) = None
fork_number (Write addr bytes) = None
fork_number (Fill addr len byte) = None
fork_number (Fork number mode) = Some number
fork_number (Copy number cell) = None
fork_number (Drop number) = None
fork_number (SnapRead number addr len) = None
fork_number Frames = None
fork_number ListAreas = None
fork_number (Refuse nth) = None

-- where the event forks, its number lies above the last one
abbrev pub IsAboveLast : ℕ → Event → Type 0
IsAboveLast last event = IfSome (fork_number event) (λ number. last < number)
