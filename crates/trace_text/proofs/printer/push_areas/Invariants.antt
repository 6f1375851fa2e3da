use Rattle.std.proofs.Common.{◌≡◌, ◌++◌, take}
use Rattle.std.specs.List.{flat_map}
use Rattle.trace_text.specs.PrintedLines.{next_area_text}
use Rattle.trace_text.proofs.printer.push_areas.Given as goal

-- the areas so far stand behind the first one
abbrev pub invariant-loop-area : goal.invariant-loop-area
invariant-loop-area l = l.line ≡ l.initial.line ++ flat_map next_area_text (take l.area-index l.others)
