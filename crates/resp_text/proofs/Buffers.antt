-- Laws of words that lie in one buffer.
use Rattle.std.proofs.Common.{◌≡◌, ℕ, ◌-◌, ◌<◌, ◌≤◌, zero, suc, List, [], ◌∷◌, ◌++◌, length, get_or, take, drop, refl, sym, ap, subst, ◌∙◌, arith, length-append}
use Rattle.std.proofs.lemmas.List.{take_all, drop_at, drop-append-le, take-append-le, take-append-drop, length-drop, length-take-le}
use Rattle.resp_text.specs.Words.{bytes_at, words_at, AreWithin}
use Rattle.resp_text.specs.declared.request.Span.{Span}

-- there are as many words as places
pub length-words_at : (bytes : List ℕ) (spans : List Span) →
    length (words_at bytes spans) ≡ length spans
length-words_at bytes [] = refl
length-words_at bytes (span ∷ spans) = ap suc (length-words_at bytes spans)

-- places within fewer bytes are within more
pub AreWithin-le : (spans : List Span) (n m : ℕ) → n ≤ m → AreWithin spans n → AreWithin spans m
AreWithin-le [] n m more h = tt
AreWithin-le (span ∷ spans) n m more h = (
  h.0,
  omega (arith, h.1, more),
  AreWithin-le spans n m more h.2,
)

-- one more place
pub AreWithin-push : (spans : List Span) (span : Span) (n : ℕ) → span.start ≤ span.end →
    span.end ≤ n → AreWithin spans n → AreWithin (spans ++ span ∷ []) n
AreWithin-push [] span n order within h = (order, within, tt)
AreWithin-push (first ∷ spans) span n order within h = (
  h.0,
  h.1,
  AreWithin-push spans span n order within h.2,
)

-- a word's place is within
pub AreWithin-at : (spans : List Span) (n i : ℕ) (d : Span) → i < length spans →
    AreWithin spans n → ((get_or spans i d).start ≤ (get_or spans i d).end)
    × ((get_or spans i d).end ≤ n)
AreWithin-at [] n i d lt h = absurd (omega (arith, lt))
AreWithin-at (span ∷ spans) n zero d lt h = (h.0, h.1)
AreWithin-at (span ∷ spans) n (suc i) d lt h = AreWithin-at spans n i d (omega (arith, lt)) h.2

-- bytes behind a buffer change no word of it
bytes_at-append : (bytes more : List ℕ) (span : Span) → span.start ≤ span.end →
    span.end ≤ length bytes → bytes_at (bytes ++ more) span ≡ bytes_at bytes span
bytes_at-append bytes more span order within =
    ap (take (span.end - span.start)) (drop-append-le span.start bytes more (omega
    (arith, order, within)))
    ∙ take-append-le (span.end - span.start) (drop span.start bytes) more (omega
    (arith, length-drop span.start bytes, order, within))

pub words_at-append : (bytes more : List ℕ) (spans : List Span) →
    AreWithin spans (length bytes) → words_at (bytes ++ more) spans ≡ words_at bytes spans
words_at-append bytes more [] h = refl
words_at-append bytes more (span ∷ spans) h =
    ap (λ (w : List ℕ). w ∷ words_at (bytes ++ more) spans) (bytes_at-append bytes more span h.0
    h.1) ∙ ap (λ (ws : List (List ℕ)). bytes_at bytes span ∷ ws)
    (words_at-append bytes more spans h.2)

-- the words lie in the front that has all the places
pub words_at-take : (bytes : List ℕ) (spans : List Span) (n : ℕ) → n ≤ length bytes →
    AreWithin spans n → words_at (take n bytes) spans ≡ words_at bytes spans
words_at-take bytes spans n fits h =
    let len : length (take n bytes) ≡ n = length-take-le n bytes fits in
    sym (words_at-append (take n bytes) (drop n bytes) spans (subst (AreWithin spans) (sym len) h))
    ∙ ap (λ (bs : List ℕ). words_at bs spans) (take-append-drop n bytes)

-- the word of one more place
pub words_at-push : (bytes : List ℕ) (spans : List Span) (span : Span) →
    words_at bytes (spans ++ span ∷ []) ≡ words_at bytes spans ++ bytes_at bytes span ∷ []
words_at-push bytes [] span = refl
words_at-push bytes (first ∷ spans) span = ap (λ (ws : List (List ℕ)). bytes_at bytes first ∷ ws)
    (words_at-push bytes spans span)

-- the word that was put behind a buffer
pub words_at-add : (bytes word : List ℕ) (spans : List Span) (span : Span) →
    span.start ≡ length bytes → span.end ≡ length (bytes ++ word) →
    AreWithin spans (length bytes) →
    words_at (bytes ++ word) (spans ++ span ∷ []) ≡ words_at bytes spans ++ word ∷ []
words_at-add bytes word spans span start end h =
    let behind : drop span.start (bytes ++ word) ≡ word = drop_at bytes word span.start (sym start) in
    let enough : length word ≤ span.end - span.start = omega
    (arith, start, end, length-append bytes word) in
    words_at-push (bytes ++ word) spans span
    ∙ ap (λ (ws : List (List ℕ)). ws ++ bytes_at (bytes ++ word) span ∷ []) (words_at-append bytes
    word spans h)
    ∙ ap (λ (w : List ℕ). words_at bytes spans ++ w ∷ []) (ap (take (span.end - span.start)) behind
    ∙ take_all (span.end - span.start) word enough)

-- the word at a place
pub get_or-words_at : (bytes : List ℕ) (spans : List Span) (i : ℕ) (d : Span) →
    i < length spans → get_or (words_at bytes spans) i [] ≡ bytes_at bytes (get_or spans i d)
get_or-words_at bytes [] i d lt = absurd (omega (arith, lt))
get_or-words_at bytes (span ∷ spans) zero d lt = refl
get_or-words_at bytes (span ∷ spans) (suc i) d lt = get_or-words_at bytes spans i d (omega
    (arith, lt))
