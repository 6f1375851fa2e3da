use Rattle.std.proofs.Common.{[], ◌∷◌}
use Rattle.turn_cell.proofs.turns.Turn.back.Given as goal

abbrev pub ghosts-give_noted : goal.ghosts-give_noted
ghosts-give_noted g a = record { added = g.N.Note.entry a.note.now ∷ [] }
