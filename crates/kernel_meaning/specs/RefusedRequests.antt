-- Which requests are refused: a run has one list of their numbers, counted from 1. A forced one is among them, and which others may be is said by the policies alone.
use Rattle.std.specs.Prelude.{◌≡◌, ℕ, zero, suc, ◌+◌, ◌-◌, ◌≤◌, ◌==◌, Bool, true, false, not, ◌&&◌, ◌||◌, if◌then◌else◌, IsTrue, List, [], ◌∷◌, fold, count_by, nat_lt, Option, IfSome}
use Rattle.std.specs.List.{list_any, AllByRecursion}
use Rattle.vm_base.specs.declared.frame_request.Want.{Want}
use Rattle.vm_base.specs.declared.frame_request.Asker.{Asker}
use Rattle.vm_base.specs.declared.frame_request.Asker.TheVariants.{Parent, Snapshot}
use Rattle.vm_base.specs.Counts.{next_count}
use Rattle.vm_base.specs.Deals.{Deal, Granted, Denied, Returned}
use Rattle.kernel_meaning.specs.Requests.{Answer, Yes, No}
use Rattle.kernel_meaning.specs.Leaves.{holds_number}

-- The list of a run's refused requests
--
-- What it is for. A run is not a function of its script: a policy may refuse a request or not. One
-- list of numbers says all that is open, so that whoever has it knows every answer.
--
-- How it goes. Each request for a frame has a number, counted from 1 over the whole run and over
-- all who ask. A request is forced where all frames made are out at that moment, or where a refuse
-- line names it. The list has each forced one. With no policy it has no other; with policies at
-- most as many others as they had denials left, and none of the parent where all of them spare it.
--
-- What a refusal does is said by the acts: it raises the count of who asked, and then a touch is
-- taken back, a snapshot loses a cell, or a fork is not made. So an answer that comes later may
-- differ, and the numbers of later requests too.
--
-- Limits. The list names no cause: which request a policy denies is said by the policy's own
-- clauses, where the pool is asked.

-- a number is in the list
abbrev pub is_in : List ℕ → ℕ → Bool
is_in numbers number = list_any (λ other. other == number) numbers

-- the greatest of the numbers, 0 for none
abbrev pub greatest : List ℕ → ℕ
greatest numbers = fold (λ most number. if nat_lt most number then number else most) 0 numbers

-- the answer to a request, and the asker's count behind it
abbrev pub answer_to : Bool → ℕ → Answer
answer_to is_refused count = if is_refused then No (next_count count) else Yes

-- the asker's count behind a request
abbrev pub count_behind : Bool → ℕ → ℕ
count_behind is_refused count = if is_refused then next_count count else count

-- the answers to n requests of one asker behind so many, where those of the list are refused; the asker has this count of refused requests
abbrev pub answers_behind : List ℕ → ℕ → ℕ → ℕ → List Answer
answers_behind refused made count zero = []
answers_behind refused made count (suc n) =
    let is_refused = is_in refused (made + 1) in
    answer_to is_refused count ∷ answers_behind refused (made + 1) (count_behind is_refused count) n

-- the answers to all requests of one asker behind so many: past the greatest number of the list each is granted
abbrev pub answers_from : List ℕ → ℕ → ℕ → List Answer
answers_from refused made count = answers_behind refused made count (greatest refused - made)

-- the numbers of the requests that were refused among deals, behind so many requests
abbrev pub refused_numbers : ℕ → List Deal → List ℕ
refused_numbers made [] = []
refused_numbers made (Granted want ∷ deals) = refused_numbers (made + 1) deals
refused_numbers made (Denied want at ∷ deals) = (made + 1) ∷ refused_numbers (made + 1) deals
refused_numbers made (Returned ∷ deals) = refused_numbers made deals

-- the asker's count of refused requests behind deals of its own
abbrev pub count_after : ℕ → List Deal → ℕ
count_after count [] = count
count_after count (Granted want ∷ deals) = count_after count deals
count_after count (Denied want at ∷ deals) = count_after (next_count count) deals
count_after count (Returned ∷ deals) = count_after count deals

-- a request as it stood when it was made
pub record Request : Type 0 where
  -- counted from 1 over the run
  pub number : ℕ
  pub asker : Asker
  pub want : Want
  -- the frames that were out of the pool at that moment
  pub out : ℕ
  -- a refuse line names it
  pub is_named : Bool
  pub is_refused : Bool

-- the requests among deals of one asker, behind so many requests and with so many frames out; a refuse line may name one of them
abbrev pub requests_of : Asker → Option ℕ → ℕ → ℕ → List Deal → List Request
requests_of asker named made out [] = []
requests_of asker named made out (Granted want ∷ deals) =
    record { number = made + 1; asker = asker; want = want; out = out; is_named = holds_number named (made + 1); is_refused = false }
    ∷ requests_of asker named (made + 1) (out + 1) deals
requests_of asker named made out (Denied want at ∷ deals) =
    record { number = made + 1; asker = asker; want = want; out = out; is_named = holds_number named (made + 1); is_refused = true }
    ∷ requests_of asker named (made + 1) out deals
requests_of asker named made out (Returned ∷ deals) = requests_of asker named made (out - 1) deals

-- the frames out behind deals
abbrev pub out_after : ℕ → List Deal → ℕ
out_after out [] = out
out_after out (Granted want ∷ deals) = out_after (out + 1) deals
out_after out (Denied want at ∷ deals) = out_after out deals
out_after out (Returned ∷ deals) = out_after (out - 1) deals

-- a request is forced to be refused: all the frames made are out, or a refuse line names it
abbrev pub is_forced : ℕ → Request → Bool
is_forced frames request = (request.out == frames) || request.is_named

-- it was refused, and was not forced to be
abbrev pub is_by_policy : ℕ → Request → Bool
is_by_policy frames request = request.is_refused && not (is_forced frames request)

-- it was made by the parent
abbrev pub is_parents : Asker → Bool
is_parents Parent = true
is_parents (Snapshot n) = false

-- what is known of the policies of a pool as it is made: whether there are none; how many denials they still have together, where each tells it; and whether each of them grants all that the parent asks for
pub record PolicySum : Type 0 where
  pub is_empty : Bool
  pub left : Option ℕ
  pub spares : Bool

-- the requests of a run over so many frames were refused as they may be: each forced one, no other where no policy was handed in, as many others as the policies have denials left, and none of the parent where they spare it
pub record AreAnswered (frames : ℕ) (policies : PolicySum) (requests : List Request) : Type 0 where
  pub forced : AllByRecursion (λ request. IsTrue (is_forced frames request) → IsTrue request.is_refused) requests
  pub none : IsTrue policies.is_empty → count_by (is_by_policy frames) requests ≡ 0
  pub left : IfSome policies.left (λ left. count_by (is_by_policy frames) requests ≤ left)
  pub spared : IsTrue policies.spares → count_by (λ request. is_by_policy frames request && is_parents request.asker) requests ≡ 0
