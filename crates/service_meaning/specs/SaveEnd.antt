-- What the end of a save leaves: its line in the report, and its file where the image was finished.
use Rattle.std.specs.Prelude.{◌≡◌, ℕ, ◌+◌, List, [], ◌∷◌, ◌++◌, codes, decimal}
use Rattle.std.specs.List.{flat_map}
use Rattle.std.specs.FinMap.{insert, len}
use Rattle.io_face.specs.Folder.{Files}
use Rattle.image_text.specs.Image.{image_text}
use Rattle.service_meaning.specs.declared.saved.Saved.{Saved}
use Rattle.service_meaning.specs.declared.saved.Saved.TheVariants as saved
use Rattle.service_meaning.specs.MapMachine.{Pairs}
use Rattle.service_meaning.specs.History.{Moment, Entry, IsForked}

-- how an end is told, behind the number
abbrev pub end_text : Saved → List ℕ
end_text (saved.Ok pairs) = codes "ok " ++ decimal pairs
end_text (saved.Lost at) = codes "lost " ++ decimal at
end_text (saved.Refused at) = codes "refused " ++ decimal at
end_text saved.SinkFault = codes "fault"
end_text saved.NoMemory = codes "memory"

-- the line of a save in the report
abbrev pub report_line : ℕ × Saved → List ℕ
report_line end = codes "save " ++ decimal end.0 ++ codes " " ++ end_text end.1 ++ codes "\n"

-- the lines of some ends, one behind another
abbrev pub report_text : List (ℕ × Saved) → List ℕ
report_text ends = flat_map report_line ends

-- the name of the file of a snapshot
abbrev pub file_name : ℕ → List ℕ
file_name number = codes "save-" ++ decimal number ++ codes ".img"

-- what one end makes of the files: a save that ended well has published the image of the pairs at its fork, and tells how many they are; any other end leaves the files
abbrev pub FileOf : Moment → List Entry → ℕ × Saved → Files → Files → Type 0
FileOf from history (number, saved.Ok count) old new = (pairs : Pairs)
    × IsForked from history number pairs × (count ≡ len pairs)
    × (new ≡ insert old (file_name number) (image_text pairs))
FileOf from history (number, saved.Lost at) old new = new ≡ old
FileOf from history (number, saved.Refused at) old new = new ≡ old
FileOf from history (number, saved.SinkFault) old new = new ≡ old
FileOf from history (number, saved.NoMemory) old new = new ≡ old

-- what some ends make of the files, one after another
abbrev pub FilesOf : Moment → List Entry → List (ℕ × Saved) → Files → Files → Type 0
FilesOf from history [] old new = new ≡ old
FilesOf from history (end ∷ ends) old new =
    (next : Files) × (FileOf from history end old next × FilesOf from history ends next new)

-- each save that ended well tells how many pairs there were at its fork
abbrev pub ArePairsCounted : Moment → List Entry → List (ℕ × Saved) → Type 0
ArePairsCounted from history [] = Unit {0}
ArePairsCounted from history ((number, saved.Ok count) ∷ ends) = ((pairs : Pairs)
    × (IsForked from history number pairs × (count ≡ len pairs)))
    × ArePairsCounted from history ends
ArePairsCounted from history ((number, saved.Lost at) ∷ ends) = ArePairsCounted from history ends
ArePairsCounted from history ((number, saved.Refused at) ∷ ends) = ArePairsCounted from history ends
ArePairsCounted from history ((number, saved.SinkFault) ∷ ends) = ArePairsCounted from history ends
ArePairsCounted from history ((number, saved.NoMemory) ∷ ends) = ArePairsCounted from history ends

-- how many of some saves ended by a fault of the folder or of a file
abbrev pub faults_of : List (ℕ × Saved) → ℕ
faults_of [] = 0
faults_of ((number, saved.Ok count) ∷ ends) = faults_of ends
faults_of ((number, saved.Lost at) ∷ ends) = faults_of ends
faults_of ((number, saved.Refused at) ∷ ends) = faults_of ends
faults_of ((number, saved.SinkFault) ∷ ends) = 1 + faults_of ends
faults_of ((number, saved.NoMemory) ∷ ends) = faults_of ends

-- how many of some saves ended at a lost cell or by a refused copy
abbrev pub refused_saves : List (ℕ × Saved) → ℕ
refused_saves [] = 0
refused_saves ((number, saved.Ok count) ∷ ends) = refused_saves ends
refused_saves ((number, saved.Lost at) ∷ ends) = 1 + refused_saves ends
refused_saves ((number, saved.Refused at) ∷ ends) = 1 + refused_saves ends
refused_saves ((number, saved.SinkFault) ∷ ends) = refused_saves ends
refused_saves ((number, saved.NoMemory) ∷ ends) = refused_saves ends
