-- What a run of `trace` read and wrote, by its status.
use Rattle.std.specs.Prelude.{◌≡◌, ◌⊎◌, ℕ, ◌+◌, ◌^◌, ◌≤◌, List, ◌++◌, Option, Some, None, length}
use Rattle.std.specs.List.{flat_map}
use Rattle.io_face.specs.Told.{Takes, TakesAtMost, TakesCount, IsAtEnd, Adds, AddsPrefix}
use Rattle.trace_events.specs.declared.event.Event.{Event}
use Rattle.trace_events.specs.declared.outcome.Outcome.{Outcome}
use Rattle.trace_text.specs.ScriptGrammar.{ScriptParts, IsScript, IsFaultAt}
use Rattle.trace_text.specs.PrintedLines.{outcome_line}
use Rattle.kernel_meaning.specs.RefusedRequests.{PolicySum}
use Rattle.trace_core.specs.KernelState.{Machine, KernelState}
use Rattle.trace_core.specs.RunMeaning.{IsRun}
use Rattle.server_top.specs.declared.status.Status.{Status}
use Rattle.server_top.specs.declared.status.Status.TheVariants.{Done, Usage, BadScript, ReadFault, WriteFault, Protocol, TooLong, NoMemory}

-- the most bytes of a script
abbrev pub script_limit : ℕ
script_limit = 2 ^ 24

-- what an input had left and what an output had written, before a run and after it; None where it is not told
pub record Streams : Type 0 where
  pub left : Option (List ℕ)
  pub left_after : Option (List ℕ)
  pub written : Option (List ℕ)
  pub written_after : Option (List ℕ)

-- nothing was written
abbrev pub WroteNothing : Streams → Type 0
WroteNothing streams = streams.written_after ≡ streams.written

-- the input was read to its end, and its text keeps this limit
pub record WasRead (streams : Streams) (limit : ℕ) (text : List ℕ) : Type 0 where
  pub taken : Takes streams.left streams.left_after text
  pub to_the_end : IsAtEnd streams.left_after
  pub within : length text ≤ limit

-- the machine that a script runs on: its frames, its slots, and one snapshot at a time
abbrev pub script_machine : ScriptParts → Machine
script_machine script = record { frames = script.frames; slots = script.cells; limit = 1 }

-- the lines of outcomes, one after another
abbrev pub outcome_lines : List Outcome → List ℕ
outcome_lines outcomes = flat_map outcome_line outcomes

-- all events of a script ran, under policies of which this was known as the run began, and their lines were written
pub record WroteLines (script : ScriptParts) (policies : PolicySum) (written after : Option (List ℕ)) : Type 0 where
  pub outcomes : List Outcome
  pub refused : List ℕ
  pub end : KernelState
  pub run : IsRun (script_machine script) 0 policies script.events outcomes refused end
  pub lines : Adds written after (outcome_lines outcomes)

-- some first events of a script ran, none or all of them too, and a prefix of their lines was written
pub record WroteSomeLines (script : ScriptParts) (policies : PolicySum) (written after : Option (List ℕ)) : Type 0 where
  pub first : List Event
  pub later : List Event
  pub are_first : script.events ≡ first ++ later
  pub outcomes : List Outcome
  pub refused : List ℕ
  pub end : KernelState
  pub run : IsRun (script_machine script) 0 policies first outcomes refused end
  pub lines : AddsPrefix written after (outcome_lines outcomes)

-- the text is the script of these parts, and its lines were written
abbrev pub RanWhole : List ℕ → PolicySum → Option (List ℕ) → Option (List ℕ) → Type 0
RanWhole text policies written after =
    (script : ScriptParts) × (IsScript text script × WroteLines script policies written after)

-- the text is the script of these parts, and a prefix of its lines was written
abbrev pub RanInPart : List ℕ → PolicySum → Option (List ℕ) → Option (List ℕ) → Type 0
RanInPart text policies written after =
    (script : ScriptParts) × (IsScript text script × WroteSomeLines script policies written after)

-- what was written for a text that was read, by status
abbrev pub RanText : List ℕ → PolicySum → Option (List ℕ) → Option (List ℕ) → Status → Type 0
RanText text policies written after Done = RanWhole text policies written after
RanText text policies written after (Usage place) = ⊥
RanText text policies written after (BadScript line) = IsFaultAt text line × (after ≡ written)
RanText text policies written after ReadFault = ⊥
RanText text policies written after WriteFault = RanInPart text policies written after
RanText text policies written after (Protocol place) = ⊥
RanText text policies written after TooLong = ⊥
RanText text policies written after NoMemory = (after ≡ written) ⊎ RanInPart text policies written after

-- the input was read to its end, and this was written for its text
abbrev pub ReadAndRanText : PolicySum → Streams → Status → Type 0
ReadAndRanText policies streams status = (text : List ℕ)
    × (WasRead streams script_limit text × RanText text policies streams.written streams.written_after status)

-- what `trace` read and wrote, by status, under policies of which this was known; words and requests are not what it may fail by
abbrev pub RanTrace : PolicySum → Streams → Status → Type 0
RanTrace policies streams Done = ReadAndRanText policies streams Done
RanTrace policies streams (Usage place) = ⊥
RanTrace policies streams (BadScript line) = ReadAndRanText policies streams (BadScript line)
RanTrace policies streams ReadFault =
    TakesAtMost streams.left streams.left_after script_limit × WroteNothing streams
RanTrace policies streams WriteFault = ReadAndRanText policies streams WriteFault
RanTrace policies streams (Protocol place) = ⊥
RanTrace policies streams TooLong =
    TakesCount streams.left streams.left_after (script_limit + 1) × WroteNothing streams
RanTrace policies streams NoMemory =
    (TakesAtMost streams.left streams.left_after script_limit × WroteNothing streams) ⊎ ReadAndRanText policies streams NoMemory

-- the place of a bad word
abbrev pub usage_of : Status → Option ℕ
usage_of Done = None
usage_of (Usage place) = Some place
usage_of (BadScript line) = None
usage_of ReadFault = None
usage_of WriteFault = None
usage_of (Protocol place) = None
usage_of TooLong = None
usage_of NoMemory = None
