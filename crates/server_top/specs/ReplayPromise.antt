-- What a run of a top call read, wrote and published, by its words and its status.
use Rattle.std.specs.Prelude.{◌≡◌, ◌⊎◌, ℕ, Bool, true, false, ◌+◌, ◌-◌, ◌^◌, ◌≤◌, List, [], ◌++◌, Option, Some, None, Result, Ok, Err, min}
use Rattle.std.specs.FinMap.{empty}
use Rattle.io_face.specs.Told.{TakesAtMost, TakesCount, Adds, AddsPrefix}
use Rattle.io_face.specs.Folder.{Files}
use Rattle.resp_text.specs.Grammar.{IsStream}
use Rattle.service_meaning.specs.declared.command.Command.{Command}
use Rattle.service_meaning.specs.declared.command.Command.TheVariants as command
use Rattle.service_meaning.specs.History.{Moment, Entry, opening, LeadAlong, IsLegal, refusals, calls_of, ends_of}
use Rattle.service_meaning.specs.SessionText.{requests_asked, replies_text}
use Rattle.service_meaning.specs.SaveEnd.{report_text, ArePairsCounted, FilesOf, faults_of, refused_saves}
use Rattle.kernel_meaning.specs.RefusedRequests.{PolicySum}
use Rattle.server_top.specs.declared.words.Plan.{Plan}
use Rattle.server_top.specs.declared.words.Plan.TheVariants.{Trace, Replay}
use Rattle.server_top.specs.declared.status.Status.{Status}
use Rattle.server_top.specs.declared.status.Status.TheVariants.{Done, Usage, BadScript, ReadFault, WriteFault, Protocol, TooLong, NoMemory}
use Rattle.server_top.specs.RunPromise.{Streams, WasRead, RanTrace}

-- the most bytes of a stream of requests
abbrev pub replay_limit : ℕ
replay_limit = 2 ^ 28

-- what an output had written and what a folder's files were, None where they are not told, and the folder's count of faults, before a run and after it
pub record Outside : Type 0 where
  pub written : Option (List ℕ)
  pub written_after : Option (List ℕ)
  pub files : Option Files
  pub files_after : Option Files
  pub faults : ℕ
  pub faults_after : ℕ

-- what stands on all sides of a run: what an input had left, before it and after it, and what lies outside besides
pub record RunSides : Type 0 where
  pub left : Option (List ℕ)
  pub left_after : Option (List ℕ)
  pub outside : Outside

-- the input and the output
abbrev pub streams_of : RunSides → Streams
streams_of sides = record {
  left = sides.left;
  left_after = sides.left_after;
  written = sides.outside.written;
  written_after = sides.outside.written_after;
}

-- nothing was written, and no file changed
abbrev pub IsUntouched : Outside → Type 0
IsUntouched outside =
    (outside.written_after ≡ outside.written) × (outside.files_after ≡ outside.files)

-- the commands that `replay` serves
abbrev pub replay_serves : Command → Bool
replay_serves command.Set = true
replay_serves command.Get = true
replay_serves command.BgSave = true
replay_serves other = false

-- the moment before the first request: no pairs and no snapshot, of which one may live at a time
abbrev pub replay_opening : Moment
replay_opening = opening empty 0 1 replay_serves

-- all saves are taken and ended behind the last request
pub record IsSavedLast (history : List Entry) : Type 0 where
  pub calls : List Entry
  pub saves : List Entry
  pub is : history ≡ calls ++ saves
  pub no_end : ends_of calls ≡ []
  pub no_call : calls_of saves ≡ []

-- a history of these requests: it is legal, its saves come last, and no request was refused a frame
pub record IsHistoryOf (requests : List (List (List ℕ))) (history : List Entry) : Type 0 where
  pub saved_last : IsSavedLast history
  pub legal : IsLegal replay_opening history
  pub granted : refusals history ≡ 0
  pub asked : requests_asked (calls_of history) ≡ requests

-- each snapshot that was started has ended
abbrev pub HasEnded : List Entry → Type 0
HasEnded history =
    (end : Moment) × (LeadAlong replay_opening history end × (end.service.live ≡ []))

-- what a history sends: the replies, and then the report of its saves
abbrev pub sent_text : List Entry → List ℕ
sent_text history = replies_text (calls_of history) ++ report_text (ends_of history)

-- each save that ended well has published its image, and no other name changed, where the files are told
abbrev pub Published : List Entry → Option Files → Option Files → Type 0
Published history None after = after ≡ None
Published history (Some old) after =
    (new : Files) × ((after ≡ Some new) × FilesOf replay_opening history (ends_of history) old new)

-- these requests were served in this history, as far as the folder shows: its files are what the saves left
-- each save that ended well tells the pairs at its fork, none was refused a frame, and the folder's count rose for each that ended by a fault
pub record Served (outside : Outside) (requests : List (List (List ℕ))) (history : List Entry) : Type 0 where
  pub is_history : IsHistoryOf requests history
  pub files : Published history outside.files outside.files_after
  pub counted : ArePairsCounted replay_opening history (ends_of history)
  pub unrefused : refused_saves (ends_of history) ≡ 0
  pub faults : min (outside.faults + faults_of (ends_of history)) (2 ^ 64 - 1) ≤ outside.faults_after

-- these requests were served, each save has ended, and all replies and report lines were written
pub record ServedAll (outside : Outside) (requests : List (List (List ℕ))) : Type 0 where
  pub history : List Entry
  pub served : Served outside requests history
  pub ended : HasEnded history
  pub sent : Adds outside.written outside.written_after (sent_text history)

-- a prefix of the replies to these requests and of the report lines was written
pub record ServedSome (outside : Outside) (requests : List (List (List ℕ))) : Type 0 where
  pub history : List Entry
  pub served : Served outside requests history
  pub sent : AddsPrefix outside.written outside.written_after (sent_text history)

-- the text is a stream, of which all was served
abbrev pub Replayed : List ℕ → Outside → Type 0
Replayed text outside =
    (requests : List (List (List ℕ))) × (IsStream text requests × ServedAll outside requests)

-- the text is a stream, of whose replies and report lines a prefix was written
abbrev pub ReplayedSome : List ℕ → Outside → Type 0
ReplayedSome text outside =
    (requests : List (List (List ℕ))) × (IsStream text requests × ServedSome outside requests)

-- the text is no list of whole requests
abbrev pub IsNoStream : List ℕ → Type 0
IsNoStream text = (requests : List (List (List ℕ))) → IsStream text requests → ⊥

-- what came of a text that was read, by status
abbrev pub RanStream : List ℕ → Outside → Status → Type 0
RanStream text outside Done = Replayed text outside
RanStream text outside (Usage place) = ⊥
RanStream text outside (BadScript line) = ⊥
RanStream text outside ReadFault = ⊥
RanStream text outside WriteFault = ReplayedSome text outside
RanStream text outside (Protocol place) = (place ≡ 0) × IsNoStream text × IsUntouched outside
RanStream text outside TooLong = ⊥
RanStream text outside NoMemory = IsUntouched outside ⊎ ReplayedSome text outside

-- the input was read to its end, and this came of its text
abbrev pub ReadAndRan : RunSides → Status → Type 0
ReadAndRan sides status = (text : List ℕ)
    × (WasRead (streams_of sides) replay_limit text × RanStream text sides.outside status)

-- what `replay` read, wrote and published, by status; words and scripts are not what it may fail by
abbrev pub RanReplay : RunSides → Status → Type 0
RanReplay sides Done = ReadAndRan sides Done
RanReplay sides (Usage place) = ⊥
RanReplay sides (BadScript line) = ⊥
RanReplay sides ReadFault =
    TakesAtMost sides.left sides.left_after replay_limit × IsUntouched sides.outside
RanReplay sides WriteFault = ReadAndRan sides WriteFault
RanReplay sides (Protocol place) = ReadAndRan sides (Protocol place)
RanReplay sides TooLong =
    TakesCount sides.left sides.left_after (replay_limit + 1) × IsUntouched sides.outside
RanReplay sides NoMemory =
    (TakesAtMost sides.left sides.left_after replay_limit × IsUntouched sides.outside)
    ⊎ ReadAndRan sides NoMemory

-- what a top call read, wrote and published, by the command of its words; of the policies that it was handed this was known
abbrev pub RanBy : Result Plan ℕ → PolicySum → RunSides → Status → Type 0
RanBy (Err place) policies sides status =
    (status ≡ Usage place) × (sides.left_after ≡ sides.left) × IsUntouched sides.outside
RanBy (Ok Trace) policies sides status =
    RanTrace policies (streams_of sides) status × (sides.outside.files_after ≡ sides.outside.files)
RanBy (Ok Replay) policies sides status = RanReplay sides status
