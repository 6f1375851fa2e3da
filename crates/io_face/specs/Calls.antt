-- Calls that are counted from 1, some of which are to fail.
use Rattle.std.specs.Prelude.{ℕ, List, Contains}
use Rattle.io_face.specs.Faults.{next_count}

-- the numbers of the calls that fail, how many calls were made, and how many faults there were
pub record CallLog : Type 0 where
  pub fails : List ℕ
  pub made : ℕ
  pub faults : ℕ

-- the next call is one of those that fail
abbrev pub IsDue : CallLog → Type 0
IsDue log = Contains log.fails (next_count log.made)

-- one more call was made
abbrev pub after_call : CallLog → CallLog
after_call log = record log { made = next_count log.made }

-- one more fault was met
abbrev pub after_fault : CallLog → CallLog
after_fault log = record log { faults = next_count log.faults }
