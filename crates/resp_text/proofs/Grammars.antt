-- Laws of the request grammar: no item begins another, so each text has one reading.
use Rattle.std.proofs.Common.{◌≡◌, ℕ, ◌+◌, ◌-◌, ◌*◌, ◌<◌, ◌≤◌, ◌≢◌, ◌⊎◌, inl, inr, List, [], ◌∷◌, ◌++◌, length, take, drop, refl, sym, ap, subst, ◌∙◌, arith, length-append, Option, Some, None, option_to_list}
use Rattle.std.proofs.lemmas.List.{append_assoc, append-nil, append_cancel_left, append_cancel_right, take_at, drop_at}
use Rattle.resp_text.specs.Grammar.{line_end, DigitsGoOn, IsNumber, AreWords, IsRequest, IsSkipped, IsItem, AreItems, item_requests, IsStream, IsBegun, IsWholeItem, IsUnfinished}
use Rattle.resp_text.specs.Lines.{HasLine}
use Rattle.resp_text.proofs.Residuals.{head_is, tail_is}
use Rattle.resp_text.proofs.Texts.{DigitsGoOn-number, word_first, line_behind, request_line}

-- digits end at the first byte that is none
one_end : (h k m n : ℕ) (ds es x y : List ℕ) → DigitsGoOn h ds m → DigitsGoOn k es n →
    ds ++ 13 ∷ x ≡ es ++ 13 ∷ y → (ds ≡ es) × (x ≡ y)
one_end h k m n [] [] x y a b e = (refl, tail_is 13 13 x y e)
one_end h k m n [] (d ∷ es) x y a b e = absurd (omega (arith, b.0, head_is 13 d _ _ e))
one_end h k m n (d ∷ ds) [] x y a b e = absurd (omega (arith, a.0, head_is d 13 _ _ e))
one_end h k m n (d ∷ ds) (c ∷ es) x y a b e =
    let rest = one_end (h * 10 + (d - 48)) (k * 10 + (c - 48)) m n ds es x y a.2 b.2
    (tail_is d c _ _ e) in
    let first : d ≡ c = head_is d c _ _ e in
    let others : ds ≡ es = rest.0 in
    (cc, rest.1)

-- the same digits make one number
DigitsGoOn-one : (h m n : ℕ) (ds : List ℕ) → DigitsGoOn h ds m → DigitsGoOn h ds n → m ≡ n
DigitsGoOn-one h m n [] a b = a ∙ sym b
DigitsGoOn-one h m n (d ∷ ds) a b = DigitsGoOn-one (h * 10 + (d - 48)) m n ds a.2 b.2

-- one line stands at the front of a text
pub record OneLine (m n : ℕ) (ds es x y : List ℕ) : Type 0 where
  pub number : m ≡ n
  pub digits : ds ≡ es
  pub more : x ≡ y

pub one_line : (s t : List ℕ) (m n : ℕ) (ds es x y : List ℕ) → s ≡ t → HasLine s m ds x →
    HasLine t n es y → OneLine m n ds es x y
one_line s t m n ds es x y e a b =
    let same : a.first ∷ (ds ++ 13 ∷ 10 ∷ x) ≡ b.first ∷ (es ++ 13 ∷ 10 ∷ y) = sym a.is ∙ e
    ∙ b.is in
    let ends = one_end 0 0 m n ds es (10 ∷ x) (10 ∷ y) (DigitsGoOn-number ds m a.number)
    (DigitsGoOn-number es n b.number) (tail_is _ _ _ _ same) in
    record {
      number = DigitsGoOn-one 0 m n es (subst (λ (ds : List ℕ). DigitsGoOn 0 ds m) ends.0
          (DigitsGoOn-number ds m a.number)) (DigitsGoOn-number es n b.number);
      digits = ends.0;
      more = tail_is 10 10 x y ends.1;
    }

-- a line with more behind it
pub line_longer : (text : List ℕ) (n : ℕ) (digits more x : List ℕ) → HasLine text n digits more →
    HasLine (text ++ x) n digits (more ++ x)
line_longer text n digits more x line = record {
  first = line.first;
  number = line.number;
  is = ap (λ (t : List ℕ). t ++ x) line.is ∙ ap (λ (t : List ℕ). line.first ∷ t)
      (append_assoc digits (13 ∷ 10 ∷ more) x);
}

-- one word stands at the front of a text
pub one_first : (a b x y w v : List ℕ) (ws vs : List (List ℕ)) (p : AreWords a (w ∷ ws))
    (q : AreWords b (v ∷ vs)) → a ++ x ≡ b ++ y →
    (w ≡ v) × ((word_first a w ws p).after ++ x ≡ (word_first b v vs q).after ++ y)
one_first a b x y w v ws vs p q e =
    let f = word_first a w ws p in
    let g = word_first b v vs q in
    let one = one_line (a ++ x) (b ++ y) (length w) (length v) _ _ _ _ e
    (line_longer a _ _ _ x f.line) (line_longer b _ _ _ y g.line) in
    let same : w ++ (13 ∷ 10 ∷ (f.after ++ x)) ≡ v ++ (13 ∷ 10 ∷ (g.after ++ y)) =
    sym (append_assoc w (13 ∷ 10 ∷ f.after) x) ∙ one.more ∙ append_assoc v (13 ∷ 10 ∷ g.after) y in
    let word : w ≡ v = sym (take_at w _ (length w) refl) ∙ ap (take (length w)) same
    ∙ take_at v _ (length w) (sym one.number) in
    let behind : 13 ∷ 10 ∷ (f.after ++ x) ≡ 13 ∷ 10 ∷ (g.after ++ y) = sym (drop_at w _
    (length w) refl) ∙ ap (drop (length w)) same ∙ drop_at v _ (length w) (sym one.number) in
    (word, tail_is 10 10 _ _ (tail_is 13 13 _ _ behind))

-- as many words at the front of a text are the same words
pub one_words : (a b x y : List ℕ) (ws vs : List (List ℕ)) → AreWords a ws → AreWords b vs →
    length ws ≡ length vs → a ++ x ≡ b ++ y → (ws ≡ vs) × (x ≡ y)
one_words a b x y [] [] p q n e = (
  refl,
  ap (λ (t : List ℕ). t ++ x) (sym p) ∙ e
      ∙ ap (λ (t : List ℕ). t ++ y) q,
)
one_words a b x y [] (v ∷ vs) p q n e = absurd (omega (arith, n))
one_words a b x y (w ∷ ws) [] p q n e = absurd (omega (arith, n))
one_words a b x y (w ∷ ws) (v ∷ vs) p q n e =
    let first = one_first a b x y w v ws vs p q e in
    let rest = one_words (word_first a w ws p).after (word_first b v vs q).after x y ws vs
    (word_first a w ws p).more (word_first b v vs q).more (omega (arith, n)) first.1 in
    let word : w ≡ v = first.0 in
    let words : ws ≡ vs = rest.0 in
    (cc, rest.1)

-- a request has a digit from 1 to 9 behind its `*`
number_first : (digits : List ℕ) (n c : ℕ) (x y : List ℕ) → IsNumber digits n → 0 < n →
    digits ++ x ≡ c ∷ y → 49 ≤ c
number_first [] n c x y h some e = absurd h
number_first (d ∷ ds) n c x y h some e =
    let other : d ≢ 48 = λ z. (let none : n ≡ d - 48 = subst (λ (ds : List ℕ). DigitsGoOn
    (d - 48) ds n) (h.2 z) h.3 in omega (arith, none, z, some)) in
    omega (arith, other, h.0, head_is d c _ _ e)

pub request_second : (text : List ℕ) (words : List (List ℕ)) (b c : ℕ) (x y : List ℕ) →
    IsRequest text words → text ++ x ≡ b ∷ c ∷ y → 49 ≤ c
request_second text words b c x y r e =
    let line = line_longer text (length words) r.count.0 r.rest x (request_line text words r) in
    number_first r.count.0 (length words) c _ y r.count.1 r.some (tail_is _ b _ _ (sym line.is ∙ e))

-- the two skipped items
skipped_second : (text x : List ℕ) → IsSkipped text →
    (c : ℕ) × (y : List ℕ) × (text ++ x ≡ 42 ∷ c ∷ y) × (c < 49)
skipped_second text x (inl e) = (48, 13 ∷ 10 ∷ x, ap (λ (t : List ℕ). t ++ x) e, omega arith)
skipped_second text x (inr e) = (45, 49 ∷ 13 ∷ 10 ∷ x, ap (λ (t : List ℕ). t ++ x) e, omega arith)

-- one item at the front of a text
pub record OneItem (i j : Option (List (List ℕ))) (a b x y : List ℕ) : Type 0 where
  pub item : i ≡ j
  pub text : a ≡ b
  pub more : x ≡ y

one_text : (i j : Option (List (List ℕ))) (a b x y : List ℕ) → i ≡ j → x ≡ y → a ++ x ≡ b ++ y →
    OneItem i j a b x y
one_text i j a b x y item more e = record {
  item = item;
  text = append_cancel_right a b y (ap (λ (z : List ℕ). a ++ z) (sym more) ∙ e);
  more = more;
}

one_skipped : (a b x y : List ℕ) → IsSkipped a → IsSkipped b → a ++ x ≡ b ++ y → x ≡ y
one_skipped a b x y (inl p) (inl q) e = let same : (42 ∷ 48 ∷ line_end) ++ x ≡
    (42 ∷ 48 ∷ line_end) ++ y = ap (λ (t : List ℕ). t ++ x) (sym p) ∙ e
    ∙ ap (λ (t : List ℕ). t ++ y) q in append_cancel_left (42 ∷ 48 ∷ line_end) x y same
one_skipped a b x y (inr p) (inr q) e = let same : (42 ∷ 45 ∷ 49 ∷ line_end) ++ x ≡
    (42 ∷ 45 ∷ 49 ∷ line_end) ++ y = ap (λ (t : List ℕ). t ++ x) (sym p) ∙ e
    ∙ ap (λ (t : List ℕ). t ++ y) q in append_cancel_left (42 ∷ 45 ∷ 49 ∷ line_end) x y same
one_skipped a b x y (inl p) (inr q) e = let same : (42 ∷ 48 ∷ line_end) ++ x ≡
    (42 ∷ 45 ∷ 49 ∷ line_end) ++ y = ap (λ (t : List ℕ). t ++ x) (sym p) ∙ e
    ∙ ap (λ (t : List ℕ). t ++ y) q in absurd (omega (
      arith,
      head_is 48 45 _ _
          (tail_is 42 42 _ _ same),
    ))
one_skipped a b x y (inr p) (inl q) e = let same : (42 ∷ 45 ∷ 49 ∷ line_end) ++ x ≡
    (42 ∷ 48 ∷ line_end) ++ y = ap (λ (t : List ℕ). t ++ x) (sym p) ∙ e
    ∙ ap (λ (t : List ℕ). t ++ y) q in absurd (omega (
      arith,
      head_is 45 48 _ _
          (tail_is 42 42 _ _ same),
    ))

pub one_item : (i j : Option (List (List ℕ))) (a b x y : List ℕ) → IsItem a i → IsItem b j →
    a ++ x ≡ b ++ y → OneItem i j a b x y
one_item None None a b x y p q e = one_text None None a b x y refl (one_skipped a b x y p q e) e
one_item None (Some vs) a b x y p q e =
    let s = skipped_second a x p in absurd (omega (
      arith,
      s.3,
      request_second b vs 42 s.0 y s.1 q
          (sym e ∙ s.2),
    ))
one_item (Some ws) None a b x y p q e =
    let s = skipped_second b y q in absurd (omega (
      arith,
      s.3,
      request_second a ws 42 s.0 x s.1 p
          (e ∙ s.2),
    ))
one_item (Some ws) (Some vs) a b x y p q e =
    let one = one_line (a ++ x) (b ++ y) (length ws) (length vs) _ _ _ _ e (line_longer a _ _ _ x
    (request_line a ws p)) (line_longer b _ _ _ y (request_line b vs q)) in
    let words = one_words p.rest q.rest x y ws vs p.spelled q.spelled one.number one.more in
    one_text (Some ws) (Some vs) a b x y (ap Some words.0) words.1 e

-- an item has a byte
pub item_some : (i : Option (List (List ℕ))) (text : List ℕ) → IsItem text i → 4 ≤ length text
item_some None text (inl e) = omega (arith, ap length e)
item_some None text (inr e) = omega (arith, ap length e)
item_some (Some ws) text r = nonempty r.count.0 r.count.1 (line_behind text
    (length ws) r.count.0 r.rest (request_line text ws r)).1 where
      nonempty : (digits : List ℕ) → IsNumber digits (length ws) → length digits + 3 ≤ length text →
          4 ≤ length text
      nonempty [] h l = absurd h
      nonempty (d ∷ ds) h l = omega (arith, l)

-- items behind items
pub AreItems-append : (a b : List ℕ) (is js : List (Option (List (List ℕ)))) → AreItems a is →
    AreItems b js → AreItems (a ++ b) (is ++ js)
AreItems-append a b [] js p q = subst (λ (t : List ℕ). AreItems t js) (ap (λ
    (t : List ℕ). t ++ b) (sym p)) q
AreItems-append a b (i ∷ is) js (front, rest, item, e, more) q = (
  front,
  rest ++ b,
  item,
  ap (λ (t : List ℕ). t ++ b) e
      ∙ append_assoc front rest b,
  AreItems-append rest b is js more q,
)

-- whole items at the front of whole items
pub AreItems-cut : (a z : List ℕ) (is js : List (Option (List (List ℕ)))) → AreItems a is →
    AreItems (a ++ z) js → (ks : List (Option (List (List ℕ)))) × (js ≡ is ++ ks) × AreItems z ks
AreItems-cut a z [] js p q = (
  js,
  refl,
  subst (λ (t : List ℕ). AreItems t js) (ap (λ
      (t : List ℕ). t ++ z) p) q,
)
AreItems-cut a z (i ∷ is) [] (front, rest, item, e, more) q =
    absurd (omega (
      arith,
      item_some i front item,
      ap length e,
      ap length q,
      length-append a z,
      length-append front rest,
    ))
AreItems-cut a z (i ∷ is) (j ∷ js) (front, rest, item, e, more) (front', rest', item', e', more') =
    let one = one_item i j front front' (rest ++ z) rest' item item' (sym
    (append_assoc front rest z) ∙ ap (λ (t : List ℕ). t ++ z) (sym e) ∙ e') in
    let cut = AreItems-cut rest z is js more (subst (λ (t : List ℕ). AreItems t js)
    (sym one.more) more') in
    let same : i ≡ j = one.item in
    let others : js ≡ is ++ cut.0 = cut.1 in
    (cut.0, cc, cut.2)

-- of two fronts of a list one begins the other
pub fronts : (a b x y : List ℕ) → a ++ x ≡ b ++ y →
    ((k : List ℕ) × (a ≡ b ++ k) × (y ≡ k ++ x)) ⊎ ((k : List ℕ) × (b ≡ a ++ k) × (x ≡ k ++ y))
fronts [] b x y e = inr (b, refl, e)
fronts (c ∷ a) [] x y e = inl (c ∷ a, refl, sym e)
fronts (c ∷ a) (d ∷ b) x y e =
    let first : c ≡ d = head_is c d _ _ e in
    elim (fronts a b x y (tail_is c d _ _ e)) [
      | inl (k, p, q) ↦ (let both : a ≡ b ++ k = p in inl (k, cc, q))
      | inr (k, p, q) ↦ (let both : b ≡ a ++ k = p in inr (k, cc, q))
    ]

-- no item begins what is unfinished
pub no_item_in_unfinished : (i : Option (List (List ℕ))) (front x rest : List ℕ) →
    IsItem front i → rest ≡ front ++ x → IsUnfinished rest → ⊥
no_item_in_unfinished i front x rest item e (c, more, (j, whole)) =
    let one = one_item i j front (rest ++ c ∷ more) (x ++ c ∷ more) [] item whole (sym
    (append_assoc front x (c ∷ more)) ∙ ap (λ (t : List ℕ). t ++ c ∷ more) (sym e)
    ∙ sym (append-nil (rest ++ c ∷ more))) in
    omega (
      arith,
      ap length one.text,
      length-append rest
          (c ∷ more),
      ap length e,
      length-append front x,
    )

-- nothing whole stands at the front of what is unfinished
none_in_unfinished : (ks : List (Option (List (List ℕ)))) (k rest rest' : List ℕ) →
    AreItems k ks → rest ≡ k ++ rest' → IsUnfinished rest → (ks ≡ []) × (k ≡ [])
none_in_unfinished [] k rest rest' p e u = (refl, p)
none_in_unfinished (i ∷ is) k rest rest' (front, after, item, is_front, more) e u =
    absurd (no_item_in_unfinished i front (after ++ rest') rest item (e
    ∙ ap (λ (t : List ℕ). t ++ rest') is_front ∙ append_assoc front after rest') u)

pub record OneReading (is js : List (Option (List (List ℕ))))
    (whole whole' rest rest' : List ℕ) : Type 0 where
  pub items : is ≡ js
  pub whole_text : whole ≡ whole'
  pub rest_text : rest ≡ rest'

pub one_reading : (is js : List (Option (List (List ℕ)))) (whole whole' rest rest' : List ℕ) →
    AreItems whole is → AreItems whole' js → IsUnfinished rest → IsUnfinished rest' →
    whole ++ rest ≡ whole' ++ rest' → OneReading is js whole whole' rest rest'
one_reading is js whole whole' rest rest' p q u v e = elim (fronts whole whole' rest rest' e) [
  | inl (k, longer, behind) ↦
      (let cut = AreItems-cut whole' k js is q (subst (λ (t : List ℕ). AreItems t is) longer p) in
      let none = none_in_unfinished cut.0 k rest' rest cut.2 behind v in
      record {
        items = cut.1 ∙ ap (λ (ks : List (Option (List (List ℕ)))). js ++ ks) none.0
            ∙ append-nil js;
        whole_text = longer ∙ ap (λ (k : List ℕ). whole' ++ k) none.1 ∙ append-nil whole';
        rest_text = sym (behind ∙ ap (λ (k : List ℕ). k ++ rest) none.1);
      })
  | inr (k, longer, behind) ↦
      (let cut = AreItems-cut whole k is js p (subst (λ (t : List ℕ). AreItems t js) longer q) in
      let none = none_in_unfinished cut.0 k rest rest' cut.2 behind u in
      record {
        items = sym (cut.1 ∙ ap (λ (ks : List (Option (List (List ℕ)))). is ++ ks) none.0
            ∙ append-nil is);
        whole_text = sym (longer ∙ ap (λ (k : List ℕ). whole ++ k) none.1 ∙ append-nil whole);
        rest_text = behind ∙ ap (λ (k : List ℕ). k ++ rest') none.1;
      })
]

-- a byte with which an unfinished item is none breaks the stream
pub not_begun : (is : List (Option (List (List ℕ)))) (whole t : List ℕ) (b : ℕ) →
    AreItems whole is → IsUnfinished t → ((tail : List ℕ) → IsWholeItem (t ++ b ∷ tail) → ⊥) →
    IsBegun (whole ++ (t ++ b ∷ [])) → ⊥
not_begun is whole t b p u broken (more, requests, (items, q, from_items)) =
    let regrouped : (whole ++ (t ++ b ∷ [])) ++ more ≡ whole ++
    (t ++ b ∷ more) = append_assoc whole (t ++ b ∷ []) more
    ∙ ap (λ (z : List ℕ). whole ++ z) (append_assoc t (b ∷ []) more) in
    let cut = AreItems-cut whole (t ++ b ∷ more) is items p (subst (λ
    (t : List ℕ). AreItems t items) regrouped q) in
    first cut.0 cut.2 where
      compare : (j : Option (List (List ℕ))) (front rest : List ℕ) → IsItem front j →
          ((k : List ℕ) × (t ≡ front ++ k) × (rest ≡ k ++ b ∷ more)) ⊎ ((k : List ℕ)
          × (front ≡ t ++ k) × (b ∷ more ≡ k ++ rest)) → ⊥
      compare j front rest item (inl (k, longer, behind)) = no_item_in_unfinished j front k t item
          longer u
      compare j front rest item (inr ([], longer, behind)) = no_item_in_unfinished j front [] t
          item (sym (append-nil t) ∙ sym longer ∙ sym (append-nil front)) u
      compare j front rest item (inr (c ∷ k, longer, behind)) =
          broken k (
            j,
            subst (λ (z : List ℕ). IsItem z j) (longer
                ∙ ap (λ (c : ℕ). t ++ c ∷ k) (sym (head_is b c _ _ behind))) item,
          )

      first : (ks : List (Option (List (List ℕ)))) → AreItems (t ++ b ∷ more) ks → ⊥
      first [] nil = omega (arith, ap length nil, length-append t (b ∷ more))
      first (j ∷ js) (front, rest, item, e, after) = compare j front rest item (fronts t front
          (b ∷ more) rest e)

-- the requests of items behind items
pub item_requests-append : (is js : List (Option (List (List ℕ)))) →
    item_requests (is ++ js) ≡ item_requests is ++ item_requests js
item_requests-append [] js = refl
item_requests-append (i ∷ is) js = ap (λ (rs : List (List (List ℕ))). option_to_list i ++ rs)
    (item_requests-append is js) ∙ sym (append_assoc (option_to_list i) (item_requests is)
    (item_requests js))

-- a stream behind a stream
pub IsStream-append : (a b : List ℕ) (rs qs : List (List (List ℕ))) → IsStream a rs →
    IsStream b qs → IsStream (a ++ b) (rs ++ qs)
IsStream-append a b rs qs (is, p, rs_are) (js, q, qs_are) = (
  is ++ js,
  AreItems-append a b is js p q,
  ap (λ (rs : List (List
      (List ℕ))). rs ++ qs) rs_are ∙ ap (λ (qs : List (List
      (List ℕ))). item_requests is ++ qs) qs_are ∙ sym (item_requests-append is js),
)

-- one item is a stream
pub IsStream-item : (text : List ℕ) (i : Option (List (List ℕ))) → IsItem text i →
    IsStream text (option_to_list i)
IsStream-item text i item = (
  i ∷ [],
  (text, [], item, sym (append-nil text), refl),
  sym
      (append-nil (option_to_list i)),
)

-- whole items and an unfinished one begin a stream
pub begun : (whole rest : List ℕ) (rs : List (List (List ℕ))) → IsStream whole rs →
    IsUnfinished rest → IsBegun (whole ++ rest)
begun whole rest rs stream (b, more, (j, item)) = (
  b ∷ more,
  rs ++ option_to_list j,
  subst (λ (t : List ℕ). IsStream t
      (rs ++ option_to_list j)) (sym (append_assoc whole rest (b ∷ more))) (IsStream-append whole
      (rest ++ b ∷ more) rs (option_to_list j) stream (IsStream-item (rest ++ b ∷ more) j item)),
)
