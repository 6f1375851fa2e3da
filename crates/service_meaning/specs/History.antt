-- Legal histories: one order of all calls, and of the takings and the ends of saves, in which each reply is the machine's at its place.
use Rattle.std.specs.Prelude.{◌≡◌, ℕ, ◌+◌, if◌then◌else◌, Bool, true, false, not, ◌==◌, List, [], ◌∷◌, ◌++◌, Contains, filter}
use Rattle.std.specs.List.{flat_map}
use Rattle.resp_text.specs.declared.reply.Reply.{Reply}
use Rattle.resp_text.specs.declared.reply.Reply.TheVariants as reply
use Rattle.resp_text.specs.declared.reply.ErrorKind.TheVariants as kind
use Rattle.service_meaning.specs.declared.command.Command.{Command}
use Rattle.service_meaning.specs.declared.saved.Saved.{Saved}
use Rattle.service_meaning.specs.MapMachine.{Pairs, Service, MayAnswer}

-- a caller's request with its reply; a caller takes a started save; it ends that save; a caller leaves, which bars nothing
pub data Entry : Type 0 where
  Call : ℕ → List (List ℕ) → Reply → Entry
  Taken : ℕ → ℕ → Entry
  Ended : ℕ → ℕ → Saved → Entry
  Left : ℕ → Entry

-- a moment of a history: the state, the numbers that were started and not taken, and those that were taken and not ended
pub record Moment : Type 0 where
  pub service : Service
  pub waiting : List ℕ
  pub saving : List ℕ

-- the moment before the first entry: these pairs, no live snapshot, the last number and the limit of the process, and the commands that are served
abbrev pub opening : Pairs → ℕ → ℕ → (Command → Bool) → Moment
opening pairs last limit serves = record {
  service = record { pairs = pairs; live = []; last = last; limit = limit; serves = serves };
  waiting = [];
  saving = [];
}

-- the numbers without this one
abbrev pub without : ℕ → List ℕ → List ℕ
without number numbers = filter (λ n. not (n == number)) numbers

-- the number of the snapshot that a reply says was started
abbrev pub started : Reply → List ℕ
started reply.Ok = []
started reply.Pong = []
started (reply.Started number) = number ∷ []
started reply.Empty = []
started reply.Null = []
started (reply.Number value) = []
started (reply.Bulk bytes) = []
started (reply.Error kind) = []

-- an entry may come at a moment and leads to another: a reply is the machine's, a save is taken once it was started and ends once it was taken
abbrev pub EntryLeads : Moment → Entry → Moment → Type 0
EntryLeads old (Call caller words reply) new =
    MayAnswer old.service words (reply, new.service)
    × (new.waiting ≡ old.waiting ++ started reply) × (new.saving ≡ old.saving)
EntryLeads old (Taken caller number) new = Contains old.waiting number × (new ≡ record old {
  waiting = without number old.waiting;
  saving = old.saving ++ number ∷ [];
})
EntryLeads old (Ended caller number saved) new = Contains old.saving number × (new ≡ record old {
  service = record old.service { live = without number old.service.live };
  saving = without number old.saving;
})
EntryLeads old (Left caller) new = new ≡ old

-- entries lead from a moment to another, one after another
abbrev pub LeadAlong : Moment → List Entry → Moment → Type 0
LeadAlong old [] new = new ≡ old
LeadAlong old (entry ∷ entries) new =
    (next : Moment) × (EntryLeads old entry next × LeadAlong next entries new)

-- a history is legal from an opening moment on
abbrev pub IsLegal : Moment → List Entry → Type 0
IsLegal from history = (end : Moment) × LeadAlong from history end

-- a snapshot of this number was started in the history, and these were the pairs right behind its start
pub record IsForked (from : Moment) (history : List Entry) (number : ℕ) (pairs : Pairs) : Type 0 where
  pub before : List Entry
  pub caller : ℕ
  pub words : List (List ℕ)
  pub after : List Entry
  pub at : history ≡ (before ++ Call caller words (reply.Started number) ∷ []) ++ after
  pub moment : Moment
  pub leads : LeadAlong from (before ++ Call caller words (reply.Started number) ∷ []) moment
  pub same : pairs ≡ moment.service.pairs

-- an entry is a call that was refused a frame
abbrev pub is_refusal : Entry → Bool
is_refusal (Call caller words (reply.Error kind.NoFrame)) = true
is_refusal (Call caller words (reply.Error kind.ForkRefused)) = true
is_refusal entry = false

-- how many calls of a history were refused a frame
abbrev pub refusals : List Entry → ℕ
refusals [] = 0
refusals (entry ∷ entries) = (if is_refusal entry then 1 else 0) + refusals entries

-- a call as its request and its reply
abbrev pub calls_in : Entry → List (List (List ℕ) × Reply)
calls_in (Call caller words reply) = (words, reply) ∷ []
calls_in (Taken caller number) = []
calls_in (Ended caller number saved) = []
calls_in (Left caller) = []

-- the calls of a history, in order
abbrev pub calls_of : List Entry → List (List (List ℕ) × Reply)
calls_of = flat_map calls_in

-- an end of a save as its number and how it ended
abbrev pub ends_in : Entry → List (ℕ × Saved)
ends_in (Call caller words reply) = []
ends_in (Taken caller number) = []
ends_in (Ended caller number saved) = (number, saved) ∷ []
ends_in (Left caller) = []

-- the ends of saves in a history, in order
abbrev pub ends_of : List Entry → List (ℕ × Saved)
ends_of = flat_map ends_in
