use Rattle.std.proofs.Common.{sym}
use Rattle.trace_text.proofs.LinesOf.{lines_of-parts, lines_of-last, parts_at-shorter}
use Rattle.trace_text.proofs.reader.first_line.Goals as goal

pub returns-in-Some-clause-lines : goal.returns-in-Some-clause-lines
returns-in-Some-clause-lines c =
    lines_of-parts c.args.text.now (c.in-Some.parts.0.now, c.in-Some.parts.1.now) (sym c.in-Some.ensures)

pub returns-in-Some-clause-shorter : goal.returns-in-Some-clause-shorter
returns-in-Some-clause-shorter c =
    parts_at-shorter c.args.text.now (c.in-Some.parts.0.now, c.in-Some.parts.1.now) (sym c.in-Some.ensures)

pub returns-in-None-clause-lines : goal.returns-in-None-clause-lines
returns-in-None-clause-lines c = lines_of-last c.args.text.now c.requires (sym c.in-None.ensures)
