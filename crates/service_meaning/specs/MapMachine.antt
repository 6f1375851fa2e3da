-- The machine of the commands: what each request is answered and what it leaves of a finite map. Commands are executed one after another, as a Redis server does.
use Rattle.std.specs.Prelude.{◌≡◌, ◌⊎◌, ℕ, ◌+◌, ◌-◌, ◌^◌, nat_le, nat_lt, ◌==◌, Bool, true, false, ℤ, pos, neg_ℤ, ◌+ℤ◌, List, [], ◌∷◌, ◌++◌, length, drop, count_by, codes, decimal, bytes_eq, Option, Some, None, unwrap_or, if◌then◌else◌}
use Rattle.std.specs.Fmt.{signed_decimal}
use Rattle.std.specs.Option.{option_map}
use Rattle.std.specs.FinMap.{FinMap, get, insert, remove, contains_key, len, empty}
use Rattle.resp_text.specs.declared.reply.Reply.{Reply}
use Rattle.resp_text.specs.declared.reply.Reply.TheVariants as reply
use Rattle.resp_text.specs.declared.reply.ErrorKind.{ErrorKind}
use Rattle.resp_text.specs.declared.reply.ErrorKind.TheVariants as kind
use Rattle.image_text.specs.Image.{bytes_cmp}
use Rattle.service_meaning.specs.declared.command.Command.{Command}
use Rattle.service_meaning.specs.declared.command.Command.TheVariants as command
use Rattle.service_meaning.specs.declared.shape.Frames.{Frames}
use Rattle.service_meaning.specs.declared.shape.Frames.TheVariants as frames
use Rattle.service_meaning.specs.Commands.{command_in, fault_of, shape_of, value_limit, word_at}
use Rattle.service_meaning.specs.Integers.{integer_of, is_in_range}

-- a finite map from keys to values
abbrev pub Pairs : Type 0
Pairs = FinMap bytes_cmp (List ℕ)

-- the state of the service
pub record Service : Type 0 where
  pub pairs : Pairs
  -- the numbers of the snapshots that live, in the order of their starts
  pub live : List ℕ
  -- the number of the last snapshot, 0 before the first
  pub last : ℕ
  -- how many snapshots may live at once, which no step changes
  pub limit : ℕ
  -- which commands are served, which no step changes either; the name of any other is unknown
  pub serves : Command → Bool

-- a reply, and the state after it
abbrev pub ServiceAnswer : Type 0
ServiceAnswer = Reply × Service

-- a request is answered with an error, and changes nothing
abbrev pub refused : Service → ErrorKind → ServiceAnswer
refused service kind = (reply.Error kind, service)

-- a request is answered, and changes nothing
abbrev pub told : Service → Reply → ServiceAnswer
told service given = (given, service)

-- a request is answered, and leaves other pairs
abbrev pub changed : Service → Reply → Pairs → ServiceAnswer
changed service given pairs = (given, record service { pairs = pairs })

-- a value, or that there is none
abbrev pub value_reply : Option (List ℕ) → Reply
value_reply None = reply.Null
value_reply (Some value) = reply.Bulk value

-- a count, as a reply
abbrev pub count_reply : ℕ → Reply
count_reply count = reply.Number (pos count)

-- PING: its word, if it has one
abbrev pub ping_reply : List (List ℕ) → Reply
ping_reply words = if length words == 2 then reply.Bulk (word_at words 1) else reply.Pong

-- the pairs without these keys
abbrev pub without_keys : Pairs → List (List ℕ) → Pairs
without_keys pairs [] = pairs
without_keys pairs (key ∷ keys) = without_keys (remove pairs key) keys

-- DEL: the keys stand for nothing, and as many pairs went as there are fewer
abbrev pub delete_answer : Service → List (List ℕ) → ServiceAnswer
delete_answer service keys = changed service
    (count_reply (len service.pairs - len (without_keys service.pairs keys)))
    (without_keys service.pairs keys)

-- the value of a key; a missing one has no bytes
abbrev pub value_or_none : Pairs → List ℕ → List ℕ
value_or_none pairs key = unwrap_or (get pairs key) []

-- APPEND: the key stands for this value, which has the new bytes at its end
abbrev pub append_answer : Service → List ℕ → List ℕ → ServiceAnswer
append_answer service key value =
    if nat_lt value_limit (length value) then refused service kind.LongValue
    else changed service (count_reply (length value)) (insert service.pairs key value)

-- INCR and DECR: the key stands for the sum, in decimal, if it is in range
abbrev pub sum_answer : Service → List ℕ → ℤ → ServiceAnswer
sum_answer service key sum =
    if is_in_range sum
    then changed service (reply.Number sum) (insert service.pairs key (signed_decimal sum))
    else refused service kind.Overflow

-- INCR and DECR: the number that the key stands for and one that is added to it
abbrev pub add_answer : Service → List ℕ → ℤ → Option ℤ → ServiceAnswer
add_answer service key added None = refused service kind.NotNumber
add_answer service key added (Some number) = sum_answer service key (number +ℤ added)

-- INCR and DECR: a missing key has 0
abbrev pub step_answer : Service → List ℕ → ℤ → ServiceAnswer
step_answer service key added =
    add_answer service key added (integer_of (unwrap_or (get service.pairs key) (codes "0")))

-- the state after the start of a snapshot with the next number
abbrev pub with_snapshot : Service → Service
with_snapshot service = record service {
  live = service.live ++ (service.last + 1) ∷ [];
  last = service.last + 1;
}

-- BGSAVE: a snapshot with the next number is started, where one more may live and there is a number left
abbrev pub save_answer : Service → ServiceAnswer
save_answer service =
    if nat_le service.limit (length service.live) then refused service kind.InProgress
    else if nat_le (2 ^ 32 - 1) service.last then refused service kind.Spent
    else (reply.Started (service.last + 1), with_snapshot service)

-- INFO: how many pairs there are, how many snapshots live, and the number of the last
abbrev pub info_text : Service → List ℕ
info_text service =
    codes "pairs:" ++ decimal (len service.pairs)
    ++ codes "\r\nsnapshots:" ++ decimal (length service.live)
    ++ codes "\r\nlast:" ++ decimal service.last ++ codes "\r\n"

-- SELECT: there is one index, 0
abbrev pub select_reply : List ℕ → Reply
select_reply index = if bytes_eq index (codes "0") then reply.Ok else reply.Error kind.BadIndex

-- what a command answers to words that are as many as it may have, with no key that is too long
abbrev pub served_answer : Service → Command → List (List ℕ) → ServiceAnswer
served_answer service command.Ping words = told service (ping_reply words)
served_answer service command.Echo words = told service (reply.Bulk (word_at words 1))
served_answer service command.Set words =
    changed service reply.Ok (insert service.pairs (word_at words 1) (word_at words 2))
served_answer service command.Get words =
    told service (value_reply (get service.pairs (word_at words 1)))
served_answer service command.Del words = delete_answer service (drop 1 words)
served_answer service command.Exists words =
    told service (count_reply (count_by (contains_key service.pairs) (drop 1 words)))
served_answer service command.StrLen words =
    told service (count_reply (length (value_or_none service.pairs (word_at words 1))))
served_answer service command.Append words = append_answer service (word_at words 1)
    (value_or_none service.pairs (word_at words 1) ++ word_at words 2)
served_answer service command.Incr words = step_answer service (word_at words 1) (pos 1)
served_answer service command.Decr words = step_answer service (word_at words 1) (neg_ℤ (pos 1))
served_answer service command.DbSize words = told service (count_reply (len service.pairs))
served_answer service command.FlushAll words = changed service reply.Ok empty
served_answer service command.BgSave words = save_answer service
served_answer service command.Info words = told service (reply.Bulk (info_text service))
served_answer service command.CommandList words = told service reply.Empty
served_answer service command.Select words = told service (select_reply (word_at words 1))
served_answer service command.Client words = told service reply.Ok
served_answer service command.Quit words = told service reply.Ok

-- what a command answers, by what is wrong with its words
abbrev pub checked_answer : Service → Command → List (List ℕ) → Option ErrorKind → ServiceAnswer
checked_answer service given words (Some kind) = refused service kind
checked_answer service given words None = served_answer service given words

-- what a command answers to the words of a request: they are looked at before anything else
abbrev pub command_answer : Service → Command → List (List ℕ) → ServiceAnswer
command_answer service given words = checked_answer service given words (fault_of given words)

-- what a request is answered whose name is that of this command, if of any
abbrev pub answer_by : Service → Option Command → List (List ℕ) → ServiceAnswer
answer_by service None words = refused service kind.Unknown
answer_by service (Some given) words =
    if service.serves given then command_answer service given words
    else refused service kind.Unknown

-- what a request is answered where no frame is refused; its first word is the command's name
abbrev pub answer : Service → List (List ℕ) → ServiceAnswer
answer service words = answer_by service (command_in words) words

-- the reply is an error
abbrev pub is_error : Reply → Bool
is_error (reply.Error kind) = true
is_error reply.Ok = false
is_error reply.Pong = false
is_error (reply.Started number) = false
is_error reply.Empty = false
is_error reply.Null = false
is_error (reply.Number value) = false
is_error (reply.Bulk bytes) = false

-- the error of a command whose frames are refused, if it wants any
abbrev pub refusal_of : Frames → Option ErrorKind
refusal_of frames.None = None
refusal_of frames.Pair = Some kind.NoFrame
refusal_of frames.Fork = Some kind.ForkRefused

-- the error that may come in place of a command's reply where a frame was refused: frames are asked for behind all checks
abbrev pub frame_error : Option Command → Reply → Option ErrorKind
frame_error None given = None
frame_error (Some command) given =
    if is_error given then None else refusal_of (shape_of command).frames

-- a request may be answered so, and then leaves this state
abbrev pub MayAnswer : Service → List (List ℕ) → ServiceAnswer → Type 0
MayAnswer service words given =
    (given ≡ answer service words)
    ⊎ ((Some given.0 ≡ option_map reply.Error (frame_error (command_in words) (answer service words).0)) × (given.1 ≡ service))
