-- The bytes of an item before a byte tell in which part of it the byte stands.
use Rattle.std.proofs.Common.{◌≡◌, ℕ, ◌≤◌, ◌⊎◌, inl, inr, List, [], ◌∷◌, ◌++◌, length, refl, sym, ap, subst, ◌∙◌, arith, length-append}
use Rattle.std.proofs.lemmas.List.{append_assoc}
use Rattle.resp_text.specs.Grammar.{line_end, IsLine, AreWords}
use Rattle.resp_text.specs.Lines.{HasLine}
use Rattle.resp_text.specs.Breaks.{HasNoLineFeed, HasWords, IsInWord, IsPartBehind}
use Rattle.resp_text.specs.declared.fault.ProtocolKind.{ProtocolKind}
use Rattle.resp_text.specs.declared.fault.ProtocolKind.TheVariants.{Start, Count, Dollar, Length, Ending}
use Rattle.resp_text.proofs.Residuals.{tail_is}
use Rattle.resp_text.proofs.Texts.{word_first, line_behind}
use Rattle.resp_text.proofs.Grammars.{one_line, line_longer, one_first}

-- no whole word stands at the front
abbrev BeginsNoWord : List ℕ → Type 0
BeginsNoWord behind = (text x word : List ℕ) (words : List (List ℕ)) → AreWords text (word ∷ words) →
    behind ≡ text ++ x → ⊥

-- a line has a line feed
feed_in : (digits more : List ℕ) → HasNoLineFeed (digits ++ 13 ∷ 10 ∷ more) → ⊥
feed_in [] more h = h.1.0 refl
feed_in (d ∷ ds) more h = feed_in ds more h.1

-- what a line begins
line_first : (line more : List ℕ) (first n : ℕ) (h : IsLine first line n) →
    line ++ more ≡ first ∷ (h.0 ++ 13 ∷ 10 ∷ more)
line_first line more first n (digits, number, is) = ap (λ (t : List ℕ). t ++ more) is
    ∙ ap (λ (t : List ℕ). first ∷ t) (append_assoc digits line_end more)

no_word_in : (kind : ProtocolKind) (behind : List ℕ) → IsInWord behind kind → BeginsNoWord behind
no_word_in Start behind h text x word words p e = h
no_word_in Count behind h text x word words p e = h
no_word_in Dollar behind h text x word words p e =
    let line = line_behind text (length word) _ _ (word_first text word words p).line in
    omega (arith, line.1, ap length e, ap length h, length-append text x)
no_word_in Length behind (more, is, none) text x word words p e =
    let line = line_longer text _ _ _ x (word_first text word words p).line in
    feed_in (word_first text word words p).digits _ (subst HasNoLineFeed
    (tail_is 36 line.first _ _ (sym is ∙ e ∙ line.is)) none)
no_word_in Ending behind (line, word', ending, is_line, is, short) text x word words p e =
    let f = word_first text word words p in
    let own : HasLine behind (length word') is_line.0 (word' ++ ending) = record {
      first = 36;
      number = is_line.1;
      is = is ∙ line_first line (word' ++ ending) 36 (length word') is_line;
    } in
    let one = one_line behind (text ++ x) (length word') (length word) _ _ _ _ e own
    (line_longer text _ _ _ x f.line) in
    too_long ending short (omega (
      arith,
      one.number,
      ap length one.more,
      length-append word' ending,
      length-append (word ++ 13 ∷ 10 ∷ f.after) x,
      length-append word (13 ∷ 10 ∷ f.after),
    )) where
      too_long : (ending : List ℕ) → ((ending ≡ []) ⊎ (ending ≡ 13 ∷ [])) → 2 ≤ length ending → ⊥
      too_long ending (inl e) long = omega (arith, long, ap length e)
      too_long ending (inr e) long = omega (arith, long, ap length e)

-- behind whole words the same bytes are left, where they begin no word
same_behind : (a b x y : List ℕ) (ws vs : List (List ℕ)) → AreWords a ws → AreWords b vs →
    BeginsNoWord x → BeginsNoWord y → a ++ x ≡ b ++ y → x ≡ y
same_behind a b x y [] [] p q in_x in_y e = ap (λ (t : List ℕ). t ++ x) (sym p) ∙ e
    ∙ ap (λ (t : List ℕ). t ++ y) q
same_behind a b x y [] (v ∷ vs) p q in_x in_y e = absurd (in_x b y v vs q
    (ap (λ (t : List ℕ). t ++ x) (sym p) ∙ e))
same_behind a b x y (w ∷ ws) [] p q in_x in_y e = absurd (in_y a x w ws p
    (sym (e ∙ ap (λ (t : List ℕ). t ++ y) q)))
same_behind a b x y (w ∷ ws) (v ∷ vs) p q in_x in_y e =
    same_behind (word_first a w ws p).after (word_first b v vs q).after x y ws vs
    (word_first a w ws p).more (word_first b v vs q).more in_x in_y
    (one_first a b x y w v ws vs p q e).1

-- behind the line of `*` the words, and what is left
words_line : (rest behind : List ℕ) (due : ℕ) (w : HasWords rest due behind) →
    HasLine rest w.count w.first.0 (w.text ++ behind)
words_line rest behind due w = record {
  first = 42;
  number = w.first.1;
  is = w.is ∙ line_first w.line (w.text ++ behind) 42 w.count w.first;
}

one_behind : (rest x y : List ℕ) (n m : ℕ) → HasWords rest n x → HasWords rest m y →
    BeginsNoWord x → BeginsNoWord y → x ≡ y
one_behind rest x y n m w v in_x in_y =
    let one = one_line rest rest w.count v.count _ _ _ _ refl (words_line rest x n w)
    (words_line rest y m v) in
    same_behind w.text v.text x y w.words v.words w.spelled v.spelled in_x in_y one.more

-- a line feed stands before the words
words_some : (rest behind : List ℕ) (due : ℕ) → HasWords rest due behind → rest ≡ [] → ⊥
words_some rest behind due w none = let line = words_line rest behind due w in
    omega (arith, ap length none, ap length line.is)

words_feed : (rest behind more : List ℕ) (due : ℕ) → HasWords rest due behind →
    rest ≡ 42 ∷ more → HasNoLineFeed more → ⊥
words_feed rest behind more due w is none = let line = words_line rest behind due w in
    feed_in w.first.0 _ (subst HasNoLineFeed (tail_is 42 line.first _ _ (sym is ∙ line.is)) none)

-- a line feed stands before the bytes of a word
ending_line : (behind : List ℕ) (h : IsInWord behind Ending) →
    behind ≡ 36 ∷ (h.3.0 ++ 13 ∷ 10 ∷ (h.1 ++ h.2))
ending_line behind (line, word, ending, is_line, is, short) = is
    ∙ line_first line (word ++ ending) 36 (length word) is_line

ending_some : (behind : List ℕ) → IsInWord behind Ending → behind ≡ [] → ⊥
ending_some behind h none = omega (arith, ap length (sym none ∙ ending_line behind h))

ending_feed : (behind : List ℕ) → IsInWord behind Ending → IsInWord behind Length → ⊥
ending_feed behind h (more, is, none) = feed_in h.3.0 _ (subst HasNoLineFeed
    (tail_is 36 36 _ _ (sym is ∙ ending_line behind h)) none)

-- a word's bytes tell the part
one_in_word : (kind second : ProtocolKind) (behind : List ℕ) → IsInWord behind kind →
    IsInWord behind second → kind ≡ second
one_in_word Start second behind h k = absurd h
one_in_word Count second behind h k = absurd h
one_in_word Dollar Start behind h k = absurd k
one_in_word Dollar Count behind h k = absurd k
one_in_word Dollar Dollar behind h k = refl
one_in_word Dollar Length behind h k = absurd (omega (arith, ap length h, ap length k.1))
one_in_word Dollar Ending behind h k = absurd (ending_some behind k h)
one_in_word Length Start behind h k = absurd k
one_in_word Length Count behind h k = absurd k
one_in_word Length Dollar behind h k = absurd (omega (arith, ap length k, ap length h.1))
one_in_word Length Length behind h k = refl
one_in_word Length Ending behind h k = absurd (ending_feed behind k h)
one_in_word Ending Start behind h k = absurd k
one_in_word Ending Count behind h k = absurd k
one_in_word Ending Dollar behind h k = absurd (ending_some behind h k)
one_in_word Ending Length behind h k = absurd (ending_feed behind h k)
one_in_word Ending Ending behind h k = refl

-- the bytes behind whole words tell it too
one_of_word : (rest : List ℕ) (kind second : ProtocolKind) (n m : ℕ) (x y : List ℕ) →
    HasWords rest n x → IsInWord x kind → HasWords rest m y → IsInWord y second → kind ≡ second
one_of_word rest kind second n m x y w h v k =
    one_in_word kind second x h (subst (λ (t : List ℕ). IsInWord t second)
    (sym (one_behind rest x y n m w v (no_word_in kind x h) (no_word_in second y k))) k)

-- the bytes of an item before a byte tell in which part the byte stands
pub one_part : (rest : List ℕ) (kind second : ProtocolKind) → IsPartBehind rest kind →
    IsPartBehind rest second → kind ≡ second
one_part rest Start Start h k = refl
one_part rest Start Count h k = absurd (omega (arith, ap length h, ap length k.1))
one_part rest Start Dollar h k = absurd (words_some rest k.1 k.0 k.3 h)
one_part rest Start Length h k = absurd (words_some rest k.1 k.0 k.3 h)
one_part rest Start Ending h k = absurd (words_some rest k.1 k.0 k.3 h)
one_part rest Count Start h k = absurd (omega (arith, ap length k, ap length h.1))
one_part rest Count Count h k = refl
one_part rest Count Dollar h k = absurd (words_feed rest k.1 h.0 k.0 k.3 h.1 h.2)
one_part rest Count Length h k = absurd (words_feed rest k.1 h.0 k.0 k.3 h.1 h.2)
one_part rest Count Ending h k = absurd (words_feed rest k.1 h.0 k.0 k.3 h.1 h.2)
one_part rest Dollar Start h k = absurd (words_some rest h.1 h.0 h.3 k)
one_part rest Dollar Count h k = absurd (words_feed rest h.1 k.0 h.0 h.3 k.1 k.2)
one_part rest Dollar Dollar h k = refl
one_part rest Dollar Length h k = one_of_word rest Dollar Length h.0 k.0 h.1 k.1 h.3 h.4 k.3 k.4
one_part rest Dollar Ending h k = one_of_word rest Dollar Ending h.0 k.0 h.1 k.1 h.3 h.4 k.3 k.4
one_part rest Length Start h k = absurd (words_some rest h.1 h.0 h.3 k)
one_part rest Length Count h k = absurd (words_feed rest h.1 k.0 h.0 h.3 k.1 k.2)
one_part rest Length Dollar h k = one_of_word rest Length Dollar h.0 k.0 h.1 k.1 h.3 h.4 k.3 k.4
one_part rest Length Length h k = refl
one_part rest Length Ending h k = one_of_word rest Length Ending h.0 k.0 h.1 k.1 h.3 h.4 k.3 k.4
one_part rest Ending Start h k = absurd (words_some rest h.1 h.0 h.3 k)
one_part rest Ending Count h k = absurd (words_feed rest h.1 k.0 h.0 h.3 k.1 k.2)
one_part rest Ending Dollar h k = one_of_word rest Ending Dollar h.0 k.0 h.1 k.1 h.3 h.4 k.3 k.4
one_part rest Ending Length h k = one_of_word rest Ending Length h.0 k.0 h.1 k.1 h.3 h.4 k.3 k.4
one_part rest Ending Ending h k = refl
