use Rattle.std.proofs.Common.{◌≡◌, suc, ◌+◌, ◌≤◌, length}
use Rattle.trace_text.specs.ScriptGrammar.{lines_of}
use Rattle.trace_text.specs.SoFar.{lines_taken, no_lines_read, so_far}
use Rattle.trace_text.proofs.reader.script_of.Given as goal

-- reading the rest goes on from the lines that were taken
abbrev pub invariant-loop-rest : goal.invariant-loop-rest
invariant-loop-rest l = record {
  reads : lines_taken l.at (so_far l.reading) (lines_of l.rest) ≡ lines_taken 1 no_lines_read (lines_of l.text);
  counts : l.at + length (lines_of l.rest) ≡ suc (length (lines_of l.text));
  fits : l.at + length l.rest ≤ suc (length l.text);
}

abbrev pub decreases-loop-rest : goal.decreases-loop-rest
decreases-loop-rest l = length l.rest
