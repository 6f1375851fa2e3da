-- What several writes, one behind another, leave of a sink.
use Rattle.std.proofs.Common.{◌≡◌, ℕ, ◌+◌, ◌<◌, ◌≤◌, List, [], ◌∷◌, ◌++◌, length, take, drop, get_or, Option, Some, None, Result, Ok, Err, OnErr, OnOk, refl, sym, ap, subst, ◌∙◌, arith, length-append}
use Rattle.std.specs.List.{flat_map}
use Rattle.std.specs.Option.{option_map}
use Rattle.std.proofs.lemmas.List.{append_assoc, append-nil, take-append-le, take_more, take_all, take-append-drop}
use Rattle.std.proofs.Math.Seq.{take-append-add}
use Rattle.io_face.specs.Told.{Adds, AddsPrefix}
use Rattle.image_text.specs.Image.{pair_text}

-- one text behind another
pub Adds-append : (old mid new : Option (List ℕ)) (a b : List ℕ) → Adds old mid a →
    Adds mid new b → Adds old new (a ++ b)
Adds-append None mid new a b first second = second ∙ ap (option_map (λ before. before ++ b)) first
Adds-append (Some x) mid new a b first second = second
    ∙ ap (option_map (λ before. before ++ b)) first
    ∙ ap (λ (t : List ℕ). Some t) (append_assoc x a b)

-- nothing was added
pub Adds-nil : (old : Option (List ℕ)) → Adds old old []
Adds-nil None = refl
Adds-nil (Some x) = ap (λ (t : List ℕ). Some t) (sym (append-nil x))

-- a prefix behind a text
pub AddsPrefix-behind : (old mid new : Option (List ℕ)) (a b : List ℕ) → Adds old mid a →
    AddsPrefix mid new b → AddsPrefix old new (a ++ b)
AddsPrefix-behind old mid new a b first (count, (within, second)) = (
  length a + count,
  (
    omega (arith, within, length-append a b),
    subst (Adds old new) (sym
        (take-append-add a b count)) (Adds-append old mid new a (take count b) first second),
  ),
)

-- a prefix of a text is one of a longer text
pub AddsPrefix-front : (old new : Option (List ℕ)) (a b text : List ℕ) → text ≡ a ++ b →
    AddsPrefix old new a → AddsPrefix old new text
AddsPrefix-front old new a b text e (count, (within, first)) = (
  count,
  (
    omega (arith, within, ap length e, length-append a b),
    subst (Adds old new) (sym (ap
        (take count) e ∙ take-append-le count a b within)) first,
  ),
)

-- the text of pairs behind pairs
flat_map-append : (f : List ℕ × List ℕ → List ℕ) (xs ys : List (List ℕ × List ℕ)) →
    flat_map f (xs ++ ys) ≡ flat_map f xs ++ flat_map f ys
flat_map-append f [] ys = refl
flat_map-append f (x ∷ xs) ys = ap (λ (t : List ℕ). f x ++ t) (flat_map-append f xs ys)
    ∙ sym (append_assoc (f x) (flat_map f xs) (flat_map f ys))

-- the text of one pair more
pub text_more : (pairs : List (List ℕ × List ℕ)) (i : ℕ) (d : List ℕ × List ℕ) →
    i < length pairs → flat_map pair_text (take (i + 1) pairs) ≡ flat_map pair_text
    (take i pairs) ++ pair_text (get_or pairs i d)
text_more pairs i d within =
    ap (flat_map pair_text) (take_more pairs i d within)
    ∙ flat_map-append pair_text (take i pairs) (get_or pairs i d ∷ [])
    ∙ ap (λ (t : List ℕ). flat_map pair_text (take i pairs) ++ t) (append-nil (pair_text
    (get_or pairs i d)))

-- the text of all pairs, and those up to a place at its front
pub text_split : (pairs : List (List ℕ × List ℕ)) (i : ℕ) (d : List ℕ × List ℕ) → i < length pairs →
    flat_map pair_text pairs ≡ (flat_map pair_text (take i pairs) ++ pair_text
    (get_or pairs i d)) ++ flat_map pair_text (drop (i + 1) pairs)
text_split pairs i d within =
    ap (flat_map pair_text) (sym (take-append-drop (i + 1) pairs))
    ∙ flat_map-append pair_text (take (i + 1) pairs) (drop (i + 1) pairs)
    ∙ ap (λ (t : List ℕ). t ++ flat_map pair_text (drop (i + 1) pairs)) (text_more pairs i d within)

pub text_all : (pairs : List (List ℕ × List ℕ)) (i : ℕ) → length pairs ≤ i →
    flat_map pair_text (take i pairs) ≡ flat_map pair_text pairs
text_all pairs i all = ap (flat_map pair_text) (take_all i pairs all)

-- a failure behind a text that was written whole
pub failed_behind : {T E : Type 0} (r : Result T E) (old mid new : Option (List ℕ))
    (a b : List ℕ) → Adds old mid a → OnErr r (AddsPrefix mid new b) →
    OnErr r (AddsPrefix old new (a ++ b))
failed_behind (Ok x) old mid new a b first h = tt
failed_behind (Err e) old mid new a b first h = AddsPrefix-behind old mid new a b first h

-- a success behind one
pub ok_behind : {T E : Type 0} (r : Result T E) (old mid new : Option (List ℕ)) (a b : List ℕ) →
    Adds old mid a → OnOk r (Adds mid new b) → OnOk r (Adds old new (a ++ b))
ok_behind (Ok x) old mid new a b first h = Adds-append old mid new a b first h
ok_behind (Err e) old mid new a b first h = tt

-- a failure before the rest of a text
pub failed_front : {T E : Type 0} (r : Result T E) (old new : Option (List ℕ))
    (a b text : List ℕ) → text ≡ a ++ b → AddsPrefix old new a → OnErr r (AddsPrefix old new text)
failed_front (Ok x) old new a b text e h = tt
failed_front (Err y) old new a b text e h = AddsPrefix-front old new a b text e h
