-- The text of a script: which lines it has, and what they say. Each number, each address and each event has one spelling.
use Rattle.std.specs.Prelude.{◌≡◌, ℕ, ◌+◌, ◌-◌, ◌*◌, ◌≤◌, ◌<◌, ◌==◌, ◌⊎◌, Bool, true, false, if◌then◌else◌, List, [], ◌∷◌, ◌++◌, length, take, map, codes, All, unwrap_or}
use Rattle.std.specs.Fmt.{decimal, digits}
use Rattle.hex.specs.Hex.{encode_lower}
use Rattle.vm_base.specs.declared.permission.Perm.{Perm}
use Rattle.vm_base.specs.declared.permission.Perm.TheVariants.{ReadWrite as read_write, Read as read_only}
use Rattle.vm_base.specs.declared.fork_mode.Mode.{Mode}
use Rattle.vm_base.specs.declared.fork_mode.Mode.TheVariants.{Eager, OnDemand, Async}
use Rattle.trace_events.specs.declared.event.Event.{Event}
use Rattle.trace_events.specs.declared.event.Event.TheVariants.{Map, Unmap, Protect, Read, Write, Fill, Fork, Copy, Drop, SnapRead, Frames, ListAreas, Refuse}
use Rattle.trace_events.specs.EventBounds.{IsWithinBounds, IsAboveLast, fork_number}

-- ---- lines

-- the lines with a byte in front of the first
abbrev pub in_front : ℕ → List (List ℕ) → List (List ℕ)
in_front c [] = (c ∷ []) ∷ []
in_front c (line ∷ lines) = (c ∷ line) ∷ lines

-- the lines of a text, without their line feeds: one at its end opens no further line
abbrev pub lines_of : List ℕ → List (List ℕ)
lines_of [] = []
lines_of (c ∷ text) = if c == 10 then [] ∷ lines_of text else in_front c (lines_of text)

-- a line that says nothing: it has no byte, or begins with a number sign
abbrev pub is_skipped : List ℕ → Bool
is_skipped [] = true
is_skipped (c ∷ line) = c == 35

-- the lines that say something
abbrev pub kept_lines : List (List ℕ) → List (List ℕ)
kept_lines [] = []
kept_lines (line ∷ lines) = if is_skipped line then kept_lines lines else line ∷ kept_lines lines

-- ---- the line of an event

-- a number in hexadecimal digits of lower case, without a leading zero; zero is one digit
abbrev pub hexadecimal : ℕ → List ℕ
hexadecimal n = digits 16 false n

-- a permission by its letters
abbrev pub perm_text : Perm → List ℕ
perm_text read_only = codes "r"
perm_text read_write = codes "rw"

-- a mode by its name
abbrev pub mode_text : Mode → List ℕ
mode_text Eager = codes "eager"
mode_text OnDemand = codes "ondemand"
mode_text Async = codes "async"

-- pages: the address of the first one's first byte, and how many
abbrev pub pages_text : ℕ → ℕ → List ℕ
pages_text first pages = hexadecimal (first * 4096) ++ codes " " ++ decimal pages

-- a range: its first address, and how many bytes
abbrev pub range_text : ℕ → ℕ → List ℕ
range_text addr len = hexadecimal addr ++ codes " " ++ decimal len

-- the line of an event, without its line feed
abbrev pub event_line : Event → List ℕ
event_line (Map first pages perm) = codes "map " ++ pages_text first pages ++ codes " " ++ perm_text perm
event_line (Unmap first pages) = codes "unmap " ++ pages_text first pages
event_line (Protect first pages perm) = codes "protect " ++ pages_text first pages ++ codes " " ++ perm_text perm
event_line (Read addr len) = codes "read " ++ range_text addr len
event_line (Write addr bytes) = codes "write " ++ hexadecimal addr ++ codes " " ++ encode_lower bytes
event_line (Fill addr len byte) = codes "fill " ++ range_text addr len ++ codes " " ++ encode_lower (byte ∷ [])
event_line (Fork number mode) = codes "fork " ++ decimal number ++ codes " " ++ mode_text mode
event_line (Copy number cell) = codes "copy " ++ decimal number ++ codes " " ++ decimal cell
event_line (Drop number) = codes "drop " ++ decimal number
event_line (SnapRead number addr len) = codes "sread " ++ decimal number ++ codes " " ++ range_text addr len
event_line Frames = codes "frames"
event_line ListAreas = codes "areas"
event_line (Refuse nth) = codes "refuse " ++ decimal nth

-- ---- the events of a script

-- the number of each fork lies above that of the fork before it, and that of the first above `last`
abbrev pub AreForksRising : ℕ → List Event → Type 0
AreForksRising last [] = Unit {0}
AreForksRising last (event ∷ events) =
    IsAboveLast last event × AreForksRising (unwrap_or (fork_number event) last) events

-- ---- scripts

-- what a script says: the frames and the slots of its machine, and its events in order
pub record ScriptParts : Type 0 where
  pub frames : ℕ
  pub cells : ℕ
  pub events : List Event

-- the machine's line has the frames and the slots, or the frames alone, and the slots are 256
abbrev pub IsMachineLine : List ℕ → ℕ → ℕ → Type 0
IsMachineLine line frames cells =
    (line ≡ codes "machine " ++ decimal frames ++ codes " " ++ decimal cells) ⊎ ((line ≡ codes "machine " ++ decimal frames) × (cells ≡ 256))

-- the lines are those of a script: of those that say something the first is the machine's and the others are the events'; numbers lie within their bounds
pub record AreLinesOf (lines : List (List ℕ)) (script : ScriptParts) : Type 0 where
  pub first : List ℕ
  pub machine : IsMachineLine first script.frames script.cells
  pub spelled : kept_lines lines ≡ first ∷ map event_line script.events
  pub frames_within : (8 ≤ script.frames) × (script.frames ≤ 65536)
  pub cells_within : (1 ≤ script.cells) × (script.cells ≤ 512)
  pub bounds : All IsWithinBounds script.events
  pub rising : AreForksRising 0 script.events

-- the text is the script that says this
abbrev pub IsScript : List ℕ → ScriptParts → Type 0
IsScript text script = AreLinesOf (lines_of text) script

-- ---- faults

-- the lines break no rule so far: none of them says anything, or they are those of a script
abbrev pub MayBegin : List (List ℕ) → Type 0
MayBegin lines = (kept_lines lines ≡ []) ⊎ ((script : ScriptParts) × AreLinesOf lines script)

-- the text is no script, and the line, counted from 1, is the first that breaks a rule, or the one that is missing behind the last: the lines above break none
pub record IsFaultAt (text : List ℕ) (line : ℕ) : Type 0 where
  pub counted : 0 < line
  pub above : MayBegin (take (line - 1) (lines_of text))
  pub fault : ((line ≤ length (lines_of text)) × (MayBegin (take line (lines_of text)) → ⊥)) ⊎ ((line ≡ length (lines_of text) + 1) × (kept_lines (lines_of text) ≡ []))
