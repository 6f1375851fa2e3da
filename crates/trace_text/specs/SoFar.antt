-- Reading the lines of a script one after another: what was read so far, and what each line adds.
use Rattle.std.specs.Prelude.{◌≡◌, ℕ, suc, nat_lt, Bool, true, if◌then◌else◌, List, [], ◌∷◌, ◌++◌, length, Option, Some, None, unwrap_or, Result, Ok, Err}
use Rattle.std.specs.Option.{option_map, ok_or}
use Rattle.trace_events.specs.declared.event.Event.{Event}
use Rattle.trace_events.specs.EventBounds.{fork_number}
use Rattle.trace_text.specs.declared.machine.Machine.{Machine}
use Rattle.trace_text.specs.declared.script.Script.{Script}
use Rattle.trace_text.specs.declared.reader.Reading.{Reading}
use Rattle.trace_text.specs.declared.fault.ScriptFault.{ScriptFault}
use Rattle.trace_text.specs.declared.fault.ScriptFault.TheVariants.{Bad, NoMemory}
use Rattle.trace_text.specs.ScriptGrammar.{ScriptParts, IsFaultAt, is_skipped, lines_of}
use Rattle.trace_text.specs.ScriptReading.{◌>>=◌, only_if, event_of, spelled_machine}

-- what was read: the machine's line if it has come, the events, and the number of the last fork, 0 before the first
pub record SoFar : Type 0 where
  pub machine : Option Machine
  pub events : List Event
  pub last : ℕ

-- nothing was read
abbrev pub no_lines_read : SoFar
no_lines_read = record { machine = None; events = []; last = 0 }

-- the number lies above the last one
abbrev pub is_above : ℕ → Option ℕ → Bool
is_above last None = true
is_above last (Some number) = nat_lt last number

-- the event of a line that comes behind a fork of that number
unfoldable pub next_event : ℕ → List ℕ → Option Event
next_event last line = event_of line >>= λ event. only_if (is_above last (fork_number event)) event

-- what was read, with the machine's line
abbrev pub with_machine : SoFar → Machine → SoFar
with_machine so_far machine = record so_far { machine = Some machine }

-- what was read, with one event more
abbrev pub with_event : SoFar → Event → SoFar
with_event so_far event =
    record so_far { events = so_far.events ++ event ∷ []; last = unwrap_or (fork_number event) so_far.last }

-- what was read, with a line that is not skipped: the machine's, where that has not come, and otherwise an event's
abbrev pub with_kept_line : SoFar → List ℕ → Option Machine → Option SoFar
with_kept_line so_far line None =
    spelled_machine line >>= λ machine. Some (with_machine so_far machine)
with_kept_line so_far line (Some machine) = next_event so_far.last line >>= λ event. Some (with_event so_far event)

-- what was read, with one line more, or that this line is at fault
unfoldable pub line_taken : ℕ → SoFar → List ℕ → Result SoFar ℕ
line_taken at so_far line =
    if is_skipped line then Ok so_far else ok_or (with_kept_line so_far line so_far.machine) at

-- the next step, where the step before it found no fault
abbrev pub and_then : {A B : Type 0} → Result A ℕ → (A → Result B ℕ) → Result B ℕ
and_then (Ok x) f = f x
and_then (Err line) f = Err line

-- what was read, with more lines, or the first line at fault, where the first one has the number `at`
abbrev pub lines_taken : ℕ → SoFar → List (List ℕ) → Result SoFar ℕ
lines_taken at so_far [] = Ok so_far
lines_taken at so_far (line ∷ lines) = and_then (line_taken at so_far line) (λ next. lines_taken (suc at) next lines)

-- what a script of this machine and these events says
abbrev pub said : Machine → List Event → ScriptParts
said machine events = record { frames = machine.frames; cells = machine.cells; events = events }

-- what the script says once its lines have ended, or that the line is missing that would have the machine
abbrev pub ended : ℕ → SoFar → Result ScriptParts ℕ
ended at so_far = ok_or (option_map (λ machine. said machine so_far.events) so_far.machine) at

-- what the text says, or the first line at fault
unfoldable pub script_of : List ℕ → Result ScriptParts ℕ
script_of text =
    and_then (lines_taken 1 no_lines_read (lines_of text)) (λ so_far. ended (suc (length (lines_of text))) so_far)

-- ---- what the code has

-- what a reading has read
abbrev pub so_far : Reading → SoFar
so_far reading = record { machine = reading.machine; events = reading.events.items; last = reading.last_fork }

-- what a script says
abbrev pub script_parts : Script → ScriptParts
script_parts script = said script.machine script.events.items

-- a fault is the one that was found; want of memory is free
abbrev pub Faults : {Y : Type 0} → ScriptFault → Result Y ℕ → Type 0
Faults (Bad line) found = found ≡ Err line
Faults NoMemory found = Unit {0}

-- the answer is what was found
abbrev pub GivesFound : {X Y : Type 0} → (X → Y) → Result X ScriptFault → Result Y ℕ → Type 0
GivesFound view (Ok x) found = found ≡ Ok (view x)
GivesFound view (Err fault) found = Faults fault found

-- why a text is no script; want of memory is free
abbrev pub RefusesText : List ℕ → ScriptFault → Type 0
RefusesText text (Bad line) = IsFaultAt text line
RefusesText text NoMemory = Unit {0}
