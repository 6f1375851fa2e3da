-- What a session is sent: the replies to its requests, in order.
use Rattle.std.specs.Prelude.{ℕ, List, map}
use Rattle.std.specs.List.{flat_map}
use Rattle.resp_text.specs.declared.reply.Reply.{Reply}
use Rattle.resp_text.specs.Replies.{text_of_reply}

-- the requests of some calls
abbrev pub requests_asked : List (List (List ℕ) × Reply) → List (List (List ℕ))
requests_asked calls = map (λ call. call.0) calls

-- the texts of the replies, one behind another
abbrev pub replies_text : List (List (List ℕ) × Reply) → List ℕ
replies_text calls = flat_map (λ call. text_of_reply call.1) calls
