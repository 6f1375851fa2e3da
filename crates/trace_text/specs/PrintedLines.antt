-- What an outcome prints: one line, with a line feed at its end. Pages are printed by the address of their first byte.
use Rattle.std.specs.Prelude.{ℕ, ◌*◌, List, [], ◌∷◌, ◌++◌, codes}
use Rattle.std.specs.Fmt.{decimal}
use Rattle.std.specs.List.{flat_map}
use Rattle.hex.specs.Hex.{encode_lower}
use Rattle.vm_base.specs.FlatMemory.{Area}
use Rattle.trace_events.specs.declared.outcome.Outcome.{Outcome}
use Rattle.trace_events.specs.declared.outcome.Outcome.TheVariants.{Done, Bytes, Held, AreaRow, Copied, Nothing, Refused, Lost, NoArea, NoWrite, Overlap, AreasFull, CellsFull, NoFrame, TooMany, NoSnap}
use Rattle.trace_text.specs.ScriptGrammar.{hexadecimal, pages_text, perm_text}

-- an area: its pages and its permission
abbrev pub area_text : Area → List ℕ
area_text area = pages_text area.first area.pages ++ codes " " ++ perm_text area.perm

-- an area behind another
abbrev pub next_area_text : Area → List ℕ
next_area_text area = codes ", " ++ area_text area

-- areas in a row
abbrev pub areas_text : List Area → List ℕ
areas_text [] = codes "none"
areas_text (area ∷ areas) = area_text area ++ flat_map next_area_text areas

-- the line of an outcome
abbrev pub outcome_line : Outcome → List ℕ
outcome_line Done = codes "ok\n"
outcome_line (Bytes bytes) = encode_lower bytes ++ codes "\n"
outcome_line (Held held free) = codes "held " ++ decimal held ++ codes " free " ++ decimal free ++ codes "\n"
outcome_line (AreaRow areas) = codes "areas " ++ areas_text areas ++ codes "\n"
outcome_line Copied = codes "copied\n"
outcome_line Nothing = codes "nothing\n"
outcome_line (Refused at) = codes "refused " ++ decimal at ++ codes "\n"
outcome_line (Lost at) = codes "lost " ++ decimal at ++ codes "\n"
outcome_line (NoArea page) = codes "noarea " ++ hexadecimal (page * 4096) ++ codes "\n"
outcome_line (NoWrite page) = codes "nowrite " ++ hexadecimal (page * 4096) ++ codes "\n"
outcome_line (Overlap page) = codes "overlap " ++ hexadecimal (page * 4096) ++ codes "\n"
outcome_line AreasFull = codes "areasfull\n"
outcome_line CellsFull = codes "cellsfull\n"
outcome_line (NoFrame at) = codes "noframe " ++ decimal at ++ codes "\n"
outcome_line TooMany = codes "toomany\n"
outcome_line NoSnap = codes "nosnap\n"
