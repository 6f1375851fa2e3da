-- The run of a session's requests, one after another, on a book that keeps a map and the pairs of one snapshot.
use Rattle.std.specs.Prelude.{◌≡◌, ℕ, ◌≤◌, ◌<◌, List, [], ◌∷◌, ◌++◌, length, map, Option, Some, None, option_to_list}
use Rattle.std.specs.Option.{option_or, option_map}
use Rattle.std.specs.List.{AllByRecursion}
use Rattle.std.specs.FinMap.{entries, from_entries, insert, len}
use Rattle.std.specs.declared.vec.Vec.{Vec}
use Rattle.resp_text.specs.declared.reply.Reply.{Reply}
use Rattle.resp_text.specs.declared.reply.Reply.TheVariants as reply
use Rattle.resp_text.specs.Replies.{text_of_reply}
use Rattle.image_text.specs.Image.{FitsImage, pairs_text}
use Rattle.io_face.specs.Folder.{Files}
use Rattle.service_meaning.specs.declared.saved.Saved.{Saved}
use Rattle.service_meaning.specs.declared.saved.Saved.TheVariants as saved
use Rattle.service_meaning.specs.SaveEnd.{file_name, report_line}
use Rattle.io_face.specs.Faults.{Rose}
use Rattle.io_face.specs.Told.{Adds, AddsPrefix}
use Rattle.server_top.specs.ReplayPromise.{Outside, replay_serves}
use Rattle.service_meaning.specs.MapMachine.{Pairs, Service, ServiceAnswer, answer}
use Rattle.service_meaning.specs.History.{Entry, Call}
use Rattle.server_top.specs.declared.replay.book.Book.{Book}
use Rattle.server_top.specs.declared.replay.book.Snapshot.{Snapshot}

-- the pairs of an ordered map of vectors
abbrev pub pairs_in : {A : Type 0} → List (Vec ℕ A × Vec ℕ A) → List (List ℕ × List ℕ)
pairs_in entries = map (λ entry. (entry.0.items, entry.1.items)) entries

-- an ordered map of vectors as a finite map
abbrev pub stored_pairs : {A : Type 0} → List (Vec ℕ A × Vec ℕ A) → Pairs
stored_pairs entries = from_entries (pairs_in entries)

-- what a book keeps: the state of the service, and the snapshot that lives, if there is one
pub record BookState : Type 0 where
  pub service : Service
  pub snapshot : Option Snapshot

-- the number of a snapshot
abbrev pub snapshot_number : Snapshot → ℕ
snapshot_number snapshot = snapshot.number

-- what this book keeps; one snapshot may live
abbrev pub book_state : Book → BookState
book_state book = record {
  service = record {
    pairs = stored_pairs book.pairs.entries;
    live = option_to_list (option_map snapshot_number book.snapshot);
    last = book.last;
    limit = 1;
    serves = replay_serves;
  };
  snapshot = book.snapshot;
}

-- the snapshot that a reply says was started of these pairs
abbrev pub started_snapshot : Reply → Pairs → Option Snapshot
started_snapshot reply.Ok pairs = None
started_snapshot reply.Pong pairs = None
started_snapshot (reply.Started number) pairs =
    Some (record { number = number; pairs = entries pairs })
started_snapshot reply.Empty pairs = None
started_snapshot reply.Null pairs = None
started_snapshot (reply.Number value) pairs = None
started_snapshot (reply.Bulk bytes) pairs = None
started_snapshot (reply.Error kind) pairs = None

-- a book that kept this gave this reply, as the answer to a request has it, and then keeps what the answer leaves
abbrev pub GivesReply : BookState → ServiceAnswer → Reply → BookState → Type 0
GivesReply old given reply new = (reply ≡ given.0) × (new ≡ record {
  service = given.1;
  snapshot = option_or (started_snapshot given.0 old.service.pairs) old.snapshot;
})

-- the reply to a request
abbrev pub reply_to : BookState → List (List ℕ) → Reply
reply_to kept words = (answer kept.service words).0

-- what is kept behind a request
abbrev pub kept_after : BookState → List (List ℕ) → BookState
kept_after kept words = record {
  service = (answer kept.service words).1;
  snapshot = option_or (started_snapshot (reply_to kept words) kept.service.pairs) kept.snapshot;
}

-- what is kept behind some requests
abbrev pub kept_behind : BookState → List (List (List ℕ)) → BookState
kept_behind kept [] = kept
kept_behind kept (words ∷ requests) = kept_behind (kept_after kept words) requests

-- the texts of the replies to some requests
abbrev pub replies_from : BookState → List (List (List ℕ)) → List ℕ
replies_from kept [] = []
replies_from kept (words ∷ requests) =
    text_of_reply (reply_to kept words) ++ replies_from (kept_after kept words) requests

-- the entries of some requests, all made by the one session
abbrev pub calls_from : BookState → List (List (List ℕ)) → List Entry
calls_from kept [] = []
calls_from kept (words ∷ requests) =
    Call 0 words (reply_to kept words) ∷ calls_from (kept_after kept words) requests

-- a request has a word, and each word is short enough for a value
pub record IsServable (words : List (List ℕ)) : Type 0 where
  pub some : 0 < length words
  pub short : AllByRecursion (λ word. length word ≤ 1048576) words

-- the pairs are at most so many, and each fits an image
pub record AreStorable (most : ℕ) (pairs : Pairs) : Type 0 where
  pub few : len pairs ≤ most
  pub each : AllByRecursion FitsImage (entries pairs)

-- how the save of a snapshot ended, and what it made of the files, where they are told: an image was published, or nothing changed
abbrev pub Saves : Snapshot → Saved → Option Files → Option Files → Type 0
Saves snapshot (saved.Ok count) old new = (count ≡ length snapshot.pairs)
    × (new ≡ option_map (λ files. insert files (file_name snapshot.number) (pairs_text snapshot.pairs)) old)
Saves snapshot (saved.Lost at) old new = ⊥
Saves snapshot (saved.Refused at) old new = ⊥
Saves snapshot saved.SinkFault old new = new ≡ old
Saves snapshot saved.NoMemory old new = new ≡ old

-- a snapshot was saved so, which the folder's count shows where the save ended by a fault
pub record SavedSo (snapshot : Snapshot) (end : Saved) (outside : Outside) : Type 0 where
  pub saves : Saves snapshot end outside.files outside.files_after
  pub faults : outside.faults ≤ outside.faults_after
  pub cause : end ≡ saved.SinkFault → Rose outside.faults outside.faults_after

-- a snapshot was saved, and the line of the save was written
abbrev pub Reports : Snapshot → Outside → Type 0
Reports snapshot outside = (end : Saved) × (SavedSo snapshot end outside
    × Adds outside.written outside.written_after (report_line (snapshot.number, end)))

-- a snapshot was saved, and a prefix of the line of the save was written
abbrev pub ReportsSome : Snapshot → Outside → Type 0
ReportsSome snapshot outside = (end : Saved) × (SavedSo snapshot end outside
    × AddsPrefix outside.written outside.written_after (report_line (snapshot.number, end)))
