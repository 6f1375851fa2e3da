-- The bytes of a reply: RESP2's simple strings, errors, integers, bulk strings and empty array.
use Rattle.std.specs.Prelude.{◌≡◌, ℕ, List, [], ◌∷◌, ◌++◌, length, codes, decimal}
use Rattle.std.specs.Fmt.{signed_decimal}
use Rattle.resp_text.specs.Grammar.{line_end}
use Rattle.resp_text.specs.declared.reply.Reply.{Reply}
use Rattle.resp_text.specs.declared.reply.Reply.TheVariants as reply
use Rattle.resp_text.specs.declared.reply.ErrorKind.{ErrorKind}
use Rattle.resp_text.specs.declared.reply.ErrorKind.TheVariants as kind
use Rattle.resp_text.specs.declared.fault.ProtocolKind.{ProtocolKind}
use Rattle.resp_text.specs.declared.fault.ProtocolKind.TheVariants as part

-- the text of an error, which stands between `-` and the line end
abbrev pub error_text : ErrorKind → List ℕ
error_text kind.Unknown = codes "ERR unknown command"
error_text kind.Arity = codes "ERR wrong number of arguments"
error_text kind.LongKey = codes "ERR key is too long"
error_text kind.LongValue = codes "ERR value is too long"
error_text kind.NotNumber = codes "ERR value is not an integer or out of range"
error_text kind.Overflow = codes "ERR increment or decrement would overflow"
error_text kind.BadIndex = codes "ERR DB index is out of range"
error_text kind.NoFrame = codes "OOM no frame for this value"
error_text kind.InProgress = codes "ERR Background save already in progress"
error_text kind.Spent = codes "ERR No snapshot number left"
error_text kind.ForkRefused = codes "ERR Background save refused, no frame"

-- the text of a reply
abbrev pub text_of_reply : Reply → List ℕ
text_of_reply reply.Ok = codes "+OK\r\n"
text_of_reply reply.Pong = codes "+PONG\r\n"
text_of_reply (reply.Started number) = codes "+Background saving started\r\n"
text_of_reply reply.Empty = codes "*0\r\n"
text_of_reply reply.Null = codes "$-1\r\n"
text_of_reply (reply.Number value) = (58 ∷ []) ++ signed_decimal value ++ line_end
text_of_reply (reply.Bulk bytes) =
    (36 ∷ []) ++ decimal (length bytes) ++ line_end ++ bytes ++ line_end
text_of_reply (reply.Error kind) = (45 ∷ []) ++ error_text kind ++ line_end

-- what is told of a break, between `-` and the line end
abbrev pub protocol_error : ProtocolKind → List ℕ
protocol_error part.Start = codes "ERR Protocol error: expected '*'"
protocol_error part.Count = codes "ERR Protocol error: invalid multibulk length"
protocol_error part.Dollar = codes "ERR Protocol error: expected '$'"
protocol_error part.Length = codes "ERR Protocol error: invalid bulk length"
protocol_error part.Ending = codes "ERR Protocol error: expected line end"

-- the text that is sent where a stream breaks
abbrev pub text_of_break : ProtocolKind → List ℕ
text_of_break kind = (45 ∷ []) ++ protocol_error kind ++ line_end

-- a front of the text stands at the end of what was there
abbrev pub AppendsFront : List ℕ → List ℕ → List ℕ → Type 0
AppendsFront old new text = (front rest : List ℕ) × (text ≡ front ++ rest) × (new ≡ old ++ front)
