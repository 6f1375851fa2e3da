-- Small cases that the definitions compute to.
use Rattle.std.proofs.Common.{◌≡◌, ℕ, List, refl, [], ◌∷◌, true, false}
use Rattle.std.specs.Prelude.{codes, Some, None, pos, neg_ℤ}
use Rattle.std.specs.Fmt.{digits}
use Rattle.resp_text.specs.declared.reply.Reply.TheVariants as reply
use Rattle.resp_text.specs.declared.reply.ErrorKind.TheVariants as kind
use Rattle.service_meaning.specs.declared.saved.Saved.TheVariants as saved
use Rattle.service_meaning.specs.declared.command.Command.TheVariants.{Set}
use Rattle.service_meaning.specs.Commands.{command_of}
use Rattle.service_meaning.specs.Integers.{integer_of}
use Rattle.service_meaning.specs.MapMachine.{Pairs, Service, refused, answer, frame_error}
use Rattle.service_meaning.specs.SaveEnd.{report_line, file_name, faults_of}

-- a name in letters of both cases
either_case : command_of (codes "sEt") ≡ Some Set
either_case = refl

-- a name that only begins like a command
longer_name : command_of (codes "bgsaves") ≡ None
longer_name = refl

-- bytes that differ from letters by the bit of their case are no letters
no_letters : command_of (codes "BGS\u{1}VE") ≡ None
no_letters = refl

-- a service that serves all commands
abbrev serving_all : Pairs → List ℕ → ℕ → ℕ → Service
serving_all pairs live last limit = record { pairs = pairs; live = live; last = last; limit = limit; serves = λ command. true }

-- a name that is not in the table, and one that is and is not served
unknown : (service : Service) → answer service (codes "PONG" ∷ []) ≡ refused service kind.Unknown
unknown service = refl

unserved : (pairs : Pairs) → (serving : Service) → serving ≡ record (serving_all pairs [] 0 1) { serves = λ command. false }
    → answer serving (codes "PING" ∷ []) ≡ refused serving kind.Unknown
unserved pairs serving is = rw is refl

-- a word too few, and a word too many; the name is looked at before the number of words
few_words : (pairs : Pairs) → answer (serving_all pairs [] 0 1) (codes "SET" ∷ codes "k" ∷ [])
    ≡ refused (serving_all pairs [] 0 1) kind.Arity
few_words pairs = refl

many_words : (pairs : Pairs) → answer (serving_all pairs [] 0 1) (codes "quit" ∷ codes "now" ∷ [])
    ≡ refused (serving_all pairs [] 0 1) kind.Arity
many_words pairs = refl

-- PING with a word, and an index that is not there
ping_word : (pairs : Pairs) → answer (serving_all pairs [] 0 1) (codes "Ping" ∷ codes "x" ∷ [])
    ≡ (reply.Bulk (codes "x"), serving_all pairs [] 0 1)
ping_word pairs = refl

other_index : (pairs : Pairs) → answer (serving_all pairs [] 0 1) (codes "SELECT" ∷ codes "1" ∷ [])
    ≡ refused (serving_all pairs [] 0 1) kind.BadIndex
other_index pairs = refl

-- a save is started where none lives, and not where as many live as may
first_save : (pairs : Pairs) → answer (serving_all pairs [] 0 1) (codes "BGSAVE" ∷ []) ≡ (reply.Started 1, serving_all pairs (1 ∷ []) 1 1)
first_save pairs = refl

second_save : (pairs : Pairs) → answer (serving_all pairs (1 ∷ []) 1 1) (codes "BGSAVE" ∷ [])
    ≡ refused (serving_all pairs (1 ∷ []) 1 1) kind.InProgress
second_save pairs = refl

-- no number is left, which is told only where one more snapshot may live
spent : (pairs : Pairs) → answer (serving_all pairs [] 4294967295 1) (codes "BGSAVE" ∷ [])
    ≡ refused (serving_all pairs [] 4294967295 1) kind.Spent
spent pairs = refl

-- a frame that is refused is told in place of no error, and only by a command that wants frames
no_second_error : frame_error (Some Set) (reply.Error kind.LongKey) ≡ None
no_second_error = refl

-- numbers that are kept as text: no leading zero, no negative zero, and both ends of 64 bits
leading_zero : integer_of (codes "07") ≡ None
leading_zero = refl

negative_zero : integer_of (codes "-0") ≡ None
negative_zero = refl

no_digit : integer_of (codes "-") ≡ None
no_digit = refl

least : integer_of (codes "-9223372036854775808") ≡ Some (neg_ℤ (pos 9223372036854775808))
least = refl

past_greatest : integer_of (codes "9223372036854775808") ≡ None
past_greatest = refl

-- lines of the report
saved_line : report_line (1, saved.Ok 1) ≡ codes "save 1 ok 1\n"
unfolding digits
saved_line = refl

lost_line : report_line (7, saved.Lost 12) ≡ codes "save 7 lost 12\n"
unfolding digits
lost_line = refl

fault_line : report_line (10, saved.SinkFault) ≡ codes "save 10 fault\n"
unfolding digits
fault_line = refl

-- the name of a file
name_of_file : file_name 4294967295 ≡ codes "save-4294967295.img"
unfolding digits
name_of_file = refl

-- two faults among three ends
two_faults : faults_of ((1, saved.SinkFault) ∷ (2, saved.Ok 0) ∷ (3, saved.SinkFault) ∷ []) ≡ 2
two_faults = refl
