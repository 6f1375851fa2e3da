use Rattle.std.proofs.Common.{◌≡◌, List, ℕ, ◌++◌, length}
use Rattle.resp_text.specs.Grammar.{AreWords, IsRequest}
use Rattle.resp_text.proofs.spelled.request_of.Given as goal

abbrev pub decreases-loop-rest : goal.decreases-loop-rest
decreases-loop-rest l = length l.rest

abbrev pub invariant-loop-rest : goal.invariant-loop-rest
invariant-loop-rest l = (words : List (List ℕ)) → IsRequest l.text words →
    (left : List (List ℕ)) × AreWords l.rest left × (words ≡ l.request ++ left)
