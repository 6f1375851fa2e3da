use Rattle.std.proofs.Common.{◌≡◌, ◌-◌, ◌≤◌, ◌++◌, List, ℕ, length, take}
use Rattle.resp_text.specs.Grammar.{IsStream}
use Rattle.resp_text.proofs.requests.read_items.Given as goal

abbrev pub decreases-items : goal.decreases-items
decreases-items l = length l.bytes - l.whole

abbrev pub invariant-items : goal.invariant-items
invariant-items l = record {
  within : l.whole ≤ length l.bytes;
  read : (came : List (List (List ℕ))) × IsStream (take l.whole l.bytes) came
      × (l.queue ≡ l.fn.queue ++ came);
}
