-- Pieces of each area of a list, pushed one after another.
use Rattle.std.proofs.Common.{◌≡◌, ℕ, ◌+◌, ◌<◌, ◌≤◌, List, ◌++◌, length, take, drop, get_or, sym, ◌∙◌, ap, arith, append_assoc, take-append-drop}
use Rattle.std.specs.List.{flat_map}
use Rattle.std.proofs.lemmas.List.{take_more, flat_map_more}
use Rattle.std.proofs.lemmas.List.Concat.{flat_map-append}
use Rattle.vm_base.specs.FlatMemory.{Area}
use Rattle.vm_base.specs.FlatStep.{joined}
use Rattle.area_list.proofs.Joining.{length-joined}

-- the pieces of one area more
pub pieces_more : (f : Area → List Area) (before areas : List Area) (i : ℕ) (d : Area) → i < length areas
    → (before ++ flat_map f (take i areas)) ++ f (get_or areas i d) ≡ before ++ flat_map f (take (i + 1) areas)
pieces_more f before areas i d inside =
    flat_map_more f before (take i areas) (get_or areas i d) ∙ ap (λ l. before ++ flat_map f l) (sym (take_more areas i d inside))

-- the pieces of the first areas, and of the others
pieces_split : (f : Area → List Area) (before areas : List Area) (i : ℕ) → (before ++ flat_map f (take i areas)) ++ flat_map f (drop i areas) ≡ before ++ flat_map f areas
pieces_split f before areas i =
    append_assoc before (flat_map f (take i areas)) (flat_map f (drop i areas))
    ∙ ap (λ l. before ++ l) (sym (flat_map-append f (take i areas) (drop i areas)) ∙ ap (flat_map f) (take-append-drop i areas))

-- too many after some areas are too many after all
pub too_many : (f : Area → List Area) (before areas : List Area) (i : ℕ) (d : Area) → i < length areas
    → 128 < length (joined ((before ++ flat_map f (take i areas)) ++ f (get_or areas i d))) → 128 < length (joined (before ++ flat_map f areas))
too_many f before areas i d inside many =
    let more : length (joined (before ++ flat_map f (take (i + 1) areas))) ≤ length (joined ((before ++ flat_map f (take (i + 1) areas)) ++ flat_map f (drop (i + 1) areas))) =
    length-joined (before ++ flat_map f (take (i + 1) areas)) (flat_map f (drop (i + 1) areas)) in
    omega (arith, ap (λ l. length (joined l)) (pieces_more f before areas i d inside), ap (λ l. length (joined l)) (pieces_split f before areas (i + 1)))
