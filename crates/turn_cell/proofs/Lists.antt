-- Lists: what begins a list, and the entries of one seat.
use Rattle.std.proofs.Common.{◌≡◌, ℕ, eqb, subst, eq-eqb, ne_eqb, zero, suc, ◌≤◌, ◌≢◌, ◌⊎◌, List, [], ◌∷◌, ◌++◌, length, sym, refl, ap, ◌∙◌, inl, inr, ⊎_elim, arith, true, append_assoc, length-append, get_or, cond}
use Rattle.std.proofs.lemmas.Bool.Decides.{leb_tells}
use Rattle.std.proofs.lemmas.List.{append-nil, nil_from_length}
use Rattle.std.proofs.lemmas.List.Elements.{filter-append}
use Rattle.std.specs.Prelude.{Option, Some, None, is_some}
use mathlib.Core.Option.{some, some-injective, some-ne-none}
use lib.ListN.{get_elem?}
use Rattle.turn_cell.specs.History.{IsPrefix, AllBegin, longer, entries_of, AllMadeBy}

module _ {A : Type 0} where
  -- what stands in a list with one more is in the list, or is that one
  pub at_end : (l : List A) (a b : A) (j : ℕ) → get_elem? (l ++ a ∷ []) j ≡ some b → (get_elem? l j ≡ some b) ⊎ ((j ≡ length l) × (a ≡ b))
  at_end [] a b zero e = inr (refl, some-injective a b e)
  at_end [] a b (suc j) e = absurd (some-ne-none b (sym e))
  at_end (x ∷ xs) a b zero e = inl e
  at_end (x ∷ xs) a b (suc j) e = ⊎_elim inl (λ p. inr (ap suc p.0, p.1)) (at_end xs a b j e)

module _ {A : Type 0} where
  pub same_some : (a b : A) → Some a ≡ Some b → a ≡ b
  same_some a b e = cc

  pub some_of : (x : Option A) → true ≡ is_some x → (a : A) × (x ≡ Some a)
  some_of (Some a) e = (a, refl)
  some_of None e = absurd (cc)

  pub not_both : (x : Option A) (a : A) → x ≡ None → x ≡ Some a → ⊥
  not_both x a e f = let g : None ≡ Some a = sym e ∙ f in cc

module _ {E : Type 0} where
  pub prefix_refl : (xs : List E) → IsPrefix xs xs
  prefix_refl xs = record { rest = []; whole = sym (append-nil xs) }

  pub prefix_nil : (xs : List E) → IsPrefix [] xs
  prefix_nil xs = record { rest = xs; whole = refl }

  pub prefix_more : (xs ys zs : List E) → IsPrefix xs ys → IsPrefix xs (ys ++ zs)
  prefix_more xs ys zs p = record { rest = p.rest ++ zs; whole = ap (λ l. l ++ zs) p.whole ∙ append_assoc xs p.rest zs }

  pub begin_more : (ls : List (List E)) (ys zs : List E) → AllBegin ls ys → AllBegin ls (ys ++ zs)
  begin_more [] ys zs p = tt
  begin_more (l ∷ ls) ys zs p = (prefix_more l ys zs p.0, begin_more ls ys zs p.1)

  pub begin_end : (ls : List (List E)) (l log : List E) → AllBegin ls log → IsPrefix l log → AllBegin (ls ++ l ∷ []) log
  begin_end [] l log p q = (q, tt)
  begin_end (x ∷ ls) l log p q = (p.0, begin_end ls l log p.1 q)

  -- of two beginnings of one list the shorter begins the longer
  pub prefix_shorter : (xs ys log : List E) → IsPrefix xs log → IsPrefix ys log → length xs ≤ length ys → IsPrefix xs ys
  prefix_shorter [] ys log p q h = prefix_nil ys
  prefix_shorter (x ∷ xs) [] log p q h = absurd (omega arith)
  prefix_shorter (x ∷ xs) (y ∷ ys) [] p q h = let e = p.whole in absurd (cc)
  prefix_shorter (x ∷ xs) (y ∷ ys) (z ∷ zs) p q h =
      let a : zs ≡ xs ++ p.rest = let e = p.whole in cc in
      let b : zs ≡ ys ++ q.rest = let e = q.whole in cc in
      let same : x ≡ y = let e = p.whole in let f = q.whole in cc in
      let r : IsPrefix xs ys = prefix_shorter xs ys zs (record { rest = p.rest; whole = a }) (record { rest = q.rest; whole = b }) (omega arith) in
      record { rest = r.rest; whole = let e = r.whole in cc }

  module _ (by : E → ℕ) where
    pub entries-append : (n : ℕ) (xs ys : List E) → entries_of by n (xs ++ ys) ≡ entries_of by n xs ++ entries_of by n ys
    entries-append n xs ys = filter-append (λ e. eqb (by e) n) xs ys

    -- a seat has all of its own entries
    pub own_entries : (n : ℕ) (es : List E) → AllMadeBy by n es → entries_of by n es ≡ es
    own_entries n [] p = refl
    own_entries n (e ∷ es) p = rw (eq-eqb (by e) n p.0) (ap (λ l. e ∷ l) (own_entries n es p.1))

    -- and another seat has none of them
    pub no_entries : (n m : ℕ) (es : List E) → m ≢ n → AllMadeBy by n es → entries_of by m es ≡ []
    no_entries n m [] ne p = refl
    no_entries n m (e ∷ es) ne p = rw (ne_eqb (by e) m (λ q. ne (sym q ∙ p.0))) (no_entries n m es ne p.1)

    pub entries_more : (n : ℕ) (log es : List E) → AllMadeBy by n es → entries_of by n (log ++ es) ≡ entries_of by n log ++ es
    entries_more n log es p = entries-append n log es ∙ ap (λ l. entries_of by n log ++ l) (own_entries n es p)

    pub entries_same : (n m : ℕ) (log es : List E) → m ≢ n → AllMadeBy by n es → entries_of by m (log ++ es) ≡ entries_of by m log
    entries_same n m log es ne p = entries-append m log es ∙ (ap (λ l. entries_of by m log ++ l) (no_entries n m es ne p) ∙ append-nil (entries_of by m log))

    -- a list that lies between two with the same entries of a seat has them too
    pub entries_between : (n : ℕ) (xs ys log m : List E) → IsPrefix xs ys → IsPrefix ys log → m ≡ entries_of by n xs → m ≡ entries_of by n log → m ≡ entries_of by n ys
    entries_between n xs ys log m p q low high =
        let more : List E = entries_of by n p.rest in
        let rest : List E = entries_of by n q.rest in
        let a : entries_of by n ys ≡ m ++ more = ap (entries_of by n) p.whole ∙ (entries-append n xs p.rest ∙ ap (λ l. l ++ more) (sym low)) in
        let b : m ≡ (m ++ more) ++ rest = high ∙ (ap (entries_of by n) q.whole ∙ (entries-append n ys q.rest ∙ ap (λ l. l ++ rest) a)) in
        let none : more ≡ [] = nil_from_length more (let c = ap length b in let d = length-append (m ++ more) rest in let e = length-append m more in omega arith) in
        sym (a ∙ (ap (λ l. m ++ l) none ∙ append-nil m))

  -- the longer of two lists is one of them, and the other is no longer
  pub longer_cases : (xs ys : List E) → ((longer xs ys ≡ ys) × (length xs ≤ length ys)) ⊎ ((longer xs ys ≡ xs) × (length ys ≤ length xs))
  longer_cases xs ys = ⊎_elim
      (λ t. let h = t.1 in inl (ap (λ b. cond b ys xs) t.0, omega arith))
      (λ t. let h = t.1 in inr (ap (λ b. cond b ys xs) t.0, omega arith))
      (leb_tells (suc (length xs)) (length ys))

  -- of two beginnings of one list both begin the longer, which begins that list
  pub longer_begins : (xs ys log : List E) → IsPrefix xs log → IsPrefix ys log → IsPrefix xs (longer xs ys) × IsPrefix ys (longer xs ys) × IsPrefix (longer xs ys) log
  longer_begins xs ys log p q = ⊎_elim
      (λ t. (
        subst (λ l. IsPrefix xs l) (sym t.0) (prefix_shorter xs ys log p q t.1),
        subst (λ l. IsPrefix ys l) (sym t.0) (prefix_refl ys),
        subst (λ l. IsPrefix l log) (sym t.0) q,
      ))
      (λ t. (
        subst (λ l. IsPrefix xs l) (sym t.0) (prefix_refl xs),
        subst (λ l. IsPrefix ys l) (sym t.0) (prefix_shorter ys xs log q p t.1),
        subst (λ l. IsPrefix l log) (sym t.0) p,
      ))
      (longer_cases xs ys)

  -- each of the lists begins the history, by its place
  pub begin_at : (ls : List (List E)) (log : List E) (n : ℕ) → AllBegin ls log → IsPrefix (get_or ls n []) log
  begin_at [] log n p = prefix_nil log
  begin_at (l ∷ ls) log zero p = p.0
  begin_at (l ∷ ls) log (suc n) p = begin_at ls log n p.1
