-- Requests for frames, one after another, each with its answer.
use Rattle.std.specs.Prelude.{ℕ, ◌+◌, List, [], ◌∷◌, ◌++◌, replicate, Option, Some, None}
use Rattle.vm_base.specs.declared.frame_request.Want.{Want}
use Rattle.vm_base.specs.Deals.{Deal, Granted, Denied, Returned}

-- the answer to a request for a frame: yes; or no, with the asker's count of refused requests, this one counted
pub data Answer : Type 0 where
  Yes : Answer
  No : ℕ → Answer

-- how the requests stand in the course of an act
pub record Requests : Type 0 where
  -- how many were made so far; the next one has the number above
  pub made : ℕ
  -- the answers to those that follow, in order; past their end each request is granted
  pub coming : List Answer
  -- what this act was granted and refused, and what it gave back
  pub deals : List Deal

-- requests of an act that begins: so many were made before, and these answers come
abbrev pub opening_requests : ℕ → List Answer → Requests
opening_requests made coming = record { made = made; coming = coming; deals = [] }

-- the first of the answers that come
abbrev pub first_answer : List Answer → Answer
first_answer [] = Yes
first_answer (answer ∷ coming) = answer

-- the answers behind it
abbrev pub later_answers : List Answer → List Answer
later_answers [] = []
later_answers (answer ∷ coming) = coming

-- the answer to the request that comes next
abbrev pub next_answer : Requests → Answer
next_answer requests = first_answer requests.coming

-- a request and its answer, as a deal
abbrev pub deal_of : Want → Answer → Deal
deal_of want Yes = Granted want
deal_of want (No at) = Denied want at

-- a frame is asked for; the number of this request is `made` afterwards
abbrev pub asked : Want → Requests → Requests
asked want requests = record {
  made = requests.made + 1;
  coming = later_answers requests.coming;
  deals = requests.deals ++ deal_of want (next_answer requests) ∷ [];
}

-- so many frames are given back, at once
abbrev pub given_back : ℕ → Requests → Requests
given_back n requests = record requests { deals = requests.deals ++ replicate n Returned }

-- how a row of requests ended: how many were granted, and the count of the one that was refused, behind which none is made
pub record RowEnd : Type 0 where
  pub requests : Requests
  pub granted : ℕ
  pub refused : Option ℕ

-- behind one request of a row: where it was granted, the rest of the row
abbrev pub row_end : Answer → Requests → RowEnd → RowEnd
row_end Yes requests rest = record rest { granted = rest.granted + 1 }
row_end (No at) requests rest = record { requests = requests; granted = 0; refused = Some at }

-- frames are asked for one after another, up to the first that is refused
abbrev pub asked_in_row : List Want → Requests → RowEnd
asked_in_row [] requests = record { requests = requests; granted = 0; refused = None }
asked_in_row (want ∷ wants) requests =
    row_end (next_answer requests) (asked want requests) (asked_in_row wants (asked want requests))

-- the answers among deals, in order
abbrev pub answers_of : List Deal → List Answer
answers_of [] = []
answers_of (Granted want ∷ deals) = Yes ∷ answers_of deals
answers_of (Denied want at ∷ deals) = No at ∷ answers_of deals
answers_of (Returned ∷ deals) = answers_of deals
