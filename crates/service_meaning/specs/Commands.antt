-- The table of the commands: names, numbers of words, keys, and what frames are wanted for.
use Rattle.std.specs.Prelude.{ℕ, Bool, nat_lt, not, List, [], ◌∷◌, length, slice_index_or, codes, Option, Some, None, if◌then◌else◌}
use Rattle.std.specs.Str.{str_eq_ignore_ascii_case}
use Rattle.std.specs.List.{find, list_any}
use Rattle.resp_text.specs.declared.reply.ErrorKind.{ErrorKind}
use Rattle.resp_text.specs.declared.reply.ErrorKind.TheVariants as kind
use Rattle.service_meaning.specs.declared.command.Command.{Command}
use Rattle.service_meaning.specs.declared.command.Command.TheVariants as command
use Rattle.service_meaning.specs.declared.shape.Keys.TheVariants as keys
use Rattle.service_meaning.specs.declared.shape.Frames.TheVariants as frames
use Rattle.service_meaning.specs.declared.shape.Shape.{Shape}
use Rattle.service_meaning.specs.Shapes.{shape, has_words, keys_among}

-- all commands
abbrev pub commands : List Command
commands =
    command.Ping ∷ command.Echo ∷ command.Set ∷ command.Get ∷ command.Del ∷ command.Exists
    ∷ command.StrLen ∷ command.Append ∷ command.Incr ∷ command.Decr ∷ command.DbSize
    ∷ command.FlushAll ∷ command.BgSave ∷ command.Info ∷ command.CommandList
    ∷ command.Select ∷ command.Client ∷ command.Quit ∷ []

-- the name of a command, in capital letters
abbrev pub name_of : Command → List ℕ
name_of command.Ping = codes "PING"
name_of command.Echo = codes "ECHO"
name_of command.Set = codes "SET"
name_of command.Get = codes "GET"
name_of command.Del = codes "DEL"
name_of command.Exists = codes "EXISTS"
name_of command.StrLen = codes "STRLEN"
name_of command.Append = codes "APPEND"
name_of command.Incr = codes "INCR"
name_of command.Decr = codes "DECR"
name_of command.DbSize = codes "DBSIZE"
name_of command.FlushAll = codes "FLUSHALL"
name_of command.BgSave = codes "BGSAVE"
name_of command.Info = codes "INFO"
name_of command.CommandList = codes "COMMAND"
name_of command.Select = codes "SELECT"
name_of command.Client = codes "CLIENT"
name_of command.Quit = codes "QUIT"

-- how many words a command has, which of them are keys, and what it wants frames for
abbrev pub shape_of : Command → Shape
shape_of command.Ping = shape 1 (Some 2) keys.None frames.None
shape_of command.Echo = shape 2 (Some 2) keys.None frames.None
shape_of command.Set = shape 3 (Some 3) keys.First frames.Pair
shape_of command.Get = shape 2 (Some 2) keys.First frames.None
shape_of command.Del = shape 2 None keys.All frames.None
shape_of command.Exists = shape 2 None keys.All frames.None
shape_of command.StrLen = shape 2 (Some 2) keys.First frames.None
shape_of command.Append = shape 3 (Some 3) keys.First frames.Pair
shape_of command.Incr = shape 2 (Some 2) keys.First frames.Pair
shape_of command.Decr = shape 2 (Some 2) keys.First frames.Pair
shape_of command.DbSize = shape 1 (Some 1) keys.None frames.None
shape_of command.FlushAll = shape 1 (Some 1) keys.None frames.None
shape_of command.BgSave = shape 1 (Some 1) keys.None frames.Fork
shape_of command.Info = shape 1 None keys.None frames.None
shape_of command.CommandList = shape 1 None keys.None frames.None
shape_of command.Select = shape 2 (Some 2) keys.None frames.None
shape_of command.Client = shape 2 None keys.None frames.None
shape_of command.Quit = shape 1 (Some 1) keys.None frames.None

-- the command of a name, whose letters may be of either case; any other name has none
abbrev pub command_of : List ℕ → Option Command
command_of name = find (λ given. str_eq_ignore_ascii_case name (name_of given)) commands

-- the word at a place of a request, counted from 0, where the name stands; no bytes behind the last
abbrev pub word_at : List (List ℕ) → ℕ → List ℕ
word_at words place = slice_index_or words place []

-- the command of a request
abbrev pub command_in : List (List ℕ) → Option Command
command_in words = command_of (word_at words 0)

-- the most bytes of a key
abbrev pub key_limit : ℕ
key_limit = 65536

-- the most bytes of a value
abbrev pub value_limit : ℕ
value_limit = 1048576

-- the key is too long
abbrev pub is_long : List ℕ → Bool
is_long key = nat_lt key_limit (length key)

-- a key among these words of a command is too long
abbrev pub has_long_key : Command → List (List ℕ) → Bool
has_long_key given words = list_any is_long (keys_among (shape_of given).keys words)

-- what is wrong with the number of words, and then with the lengths of the keys
abbrev pub fault_of : Command → List (List ℕ) → Option ErrorKind
fault_of given words =
    if not (has_words (shape_of given) (length words)) then Some kind.Arity
    else if has_long_key given words then Some kind.LongKey
    else None
