-- Bytes taken or added in several steps.
use Rattle.std.proofs.Common.{◌≡◌, ℕ, ◌+◌, ◌≤◌, List, [], ◌++◌, take, drop, Option, Some, None, refl, sym, ap, ◌∙◌, append_assoc, arith}
use Rattle.std.specs.Option.{option_map}
use Rattle.std.proofs.lemmas.List.{append-nil}
use Rattle.std.proofs.Math.Seq.{take-add}
use Rattle.io_face.specs.Faults.{Rose}
use Rattle.io_face.specs.Told.{Takes, Adds}

-- taking nothing
pub Takes-nothing : (left : Option (List ℕ)) → Takes left left []
Takes-nothing None = refl
Takes-nothing (Some bytes) = refl

-- two pieces taken one after the other
pub Takes-again : (old mid new : Option (List ℕ)) (first second : List ℕ) → Takes old mid first → Takes mid new second → Takes old new (first ++ second)
Takes-again old mid None first second h k = h ∙ ap (option_map (λ rest. first ++ rest)) k
Takes-again old mid (Some rest) first second h k =
    h ∙ ap (option_map (λ bytes. first ++ bytes)) k ∙ ap Some (sym (append_assoc first second rest))

-- adding nothing
pub Adds-nothing : (written : Option (List ℕ)) → Adds written written []
Adds-nothing None = refl
Adds-nothing (Some text) = ap Some (sym (append-nil text))

-- two pieces added one after the other
pub Adds-again : (old mid new : Option (List ℕ)) (first second : List ℕ) → Adds old mid first → Adds mid new second → Adds old new (first ++ second)
Adds-again None mid new first second h k = k ∙ ap (option_map (λ text. text ++ second)) h
Adds-again (Some before) mid new first second h k =
    k ∙ ap (option_map (λ text. text ++ second)) h ∙ ap Some (append_assoc before first second)

-- the next part of a text is added behind its front
pub Adds-next : (old mid new : Option (List ℕ)) (text : List ℕ) (done count : ℕ) → Adds old mid (take done text) → Adds mid new (take count (drop done text)) → Adds old new (take (done + count) text)
Adds-next old mid new text done count h k =
    let e : take (done + count) text ≡ take done text ++ take count (drop done text) = take-add done count text in
    let both = Adds-again old mid new (take done text) (take count (drop done text)) h k in
    new_is both e
  where
    new_is : Adds old new (take done text ++ take count (drop done text)) → take (done + count) text ≡ take done text ++ take count (drop done text) → Adds old new (take (done + count) text)
    new_is both e = both ∙ ap (λ piece. option_map (λ before. before ++ piece) old) (sym e)

-- a count that rose in a part of the time rose in the whole
pub Rose-within : (start before after end : ℕ) → start ≤ before → Rose before after → after ≤ end → Rose start end
Rose-within start before after end h k l = omega arith
