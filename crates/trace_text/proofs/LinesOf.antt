-- The lines of a text, cut off one by one.
use Rattle.std.proofs.Common.{◌≡◌, ℕ, ◌<◌, Bool, true, false, cond, eqb, List, [], ◌∷◌, length, Option, Some, None, refl, ap, ◌∙◌, arith}
use Rattle.std.proofs.lemmas.List.{length-append}
use Rattle.trace_text.specs.ScriptGrammar.{in_front, lines_of}
use Rattle.trace_text.specs.ScriptReading.{◌>>=◌, parts_at}
use Rattle.trace_text.proofs.Parts.{parts_at_takes}

-- the parts of a text, where there are some
abbrev Parts : Type 0
Parts = Option (List ℕ × List ℕ)

front_first : (c : ℕ) (text : List ℕ) (parts : List ℕ × List ℕ) (r : Parts)
    → ((p : List ℕ × List ℕ) → r ≡ Some p → lines_of text ≡ p.0 ∷ lines_of p.1)
    → (here : Bool) → cond here (Some ([], text)) (r >>= λ p. Some (c ∷ p.0, p.1)) ≡ Some parts
    → cond here ([] ∷ lines_of text) (in_front c (lines_of text)) ≡ parts.0 ∷ lines_of parts.1
front_first c text parts r behind true e =
    let is : ([], text) ≡ parts = cc in
    ap (λ (p : List ℕ × List ℕ). p.0 ∷ lines_of p.1) is
front_first c text parts None behind false e = absurd cc
front_first c text parts (Some p) behind false e =
    let is : (c ∷ p.0, p.1) ≡ parts = cc in
    ap (in_front c) (behind p refl) ∙ ap (λ (q : List ℕ × List ℕ). q.0 ∷ lines_of q.1) is

-- a line that has a line feed
pub lines_of-parts : (text : List ℕ) (parts : List ℕ × List ℕ) → parts_at 10 text ≡ Some parts → lines_of text ≡ parts.0 ∷ lines_of parts.1
lines_of-parts [] parts e = absurd cc
lines_of-parts (c ∷ text) parts e =
    front_first c text parts (parts_at 10 text) (λ p h. lines_of-parts text p h) (eqb c 10) e

abbrev is_none : Parts → Bool
is_none None = true
is_none (Some parts) = false

last_alone : (c : ℕ) (text : List ℕ) (r : Parts) → (is_none r ≡ true → in_front c (lines_of text) ≡ (c ∷ text) ∷ [])
    → (here : Bool) → is_none (cond here (Some ([], text)) (r >>= λ p. Some (c ∷ p.0, p.1))) ≡ true
    → cond here ([] ∷ lines_of text) (in_front c (lines_of text)) ≡ (c ∷ text) ∷ []
last_alone c text r behind true e = absurd cc
last_alone c text None behind false e = behind refl
last_alone c text (Some p) behind false e = absurd cc

last_front : (c : ℕ) (text : List ℕ) → is_none (parts_at 10 text) ≡ true → in_front c (lines_of text) ≡ (c ∷ text) ∷ []
last_front c [] e = refl
last_front c (d ∷ text) e =
    ap (in_front c) (last_alone d text (parts_at 10 text) (λ h. last_front d text h) (eqb d 10) e)

-- a line that has none
pub lines_of-last : (text : List ℕ) → 0 < length text → parts_at 10 text ≡ None → lines_of text ≡ text ∷ []
lines_of-last [] some e = absurd (omega arith)
lines_of-last (c ∷ text) some e =
    last_alone c text (parts_at 10 text) (λ h. last_front c text h) (eqb c 10) (ap is_none e)

-- what stands behind a line is shorter than the text
pub parts_at-shorter : (text : List ℕ) (parts : List ℕ × List ℕ) → parts_at 10 text ≡ Some parts → length parts.1 < length text
parts_at-shorter text parts e =
    omega (arith, ap length (parts_at_takes 10 text parts e), length-append parts.0 (10 ∷ parts.1))
