-- What one more place makes of a reach, and of a memory that stands within it.
use Rattle.std.proofs.Common.{◌≡◌, ℕ, ◌*◌, ◌^◌, ◌≤◌, max, List, [], ◌∷◌, ◌++◌, map, zip, sum, fold, refl, sym, ◌∙◌, ap, ap₂, subst, arith, inl, inr, mul-le-mul_left}
use Rattle.std.specs.FinMap.{len}
use Rattle.std.specs.List.{AllZip}
use Rattle.std.proofs.lemmas.List.Sums.{sum_by-cons}
use Rattle.vm_base.specs.MemoryState.{MemoryState}
use Rattle.store_meaning.specs.Layout.{classes}
use Rattle.store_meaning.specs.HashLayout.{Pairs, Store}
use Rattle.store_meaning.specs.Reach.{Place, At, Reach, reach_of, reach_step, opening_reach, with_peaks, count_of, frames_of_pages, pages_of_peaks}
use Rattle.store_meaning.specs.Standing.{Stands, KeepsWithin, blocks_in}

-- the reach behind one place more
pub reach_of-more : (gone : List Place) (place : Place) → reach_of (gone ++ place ∷ []) ≡ reach_step (reach_of gone) place
reach_of-more gone place = from gone opening_reach
  where
    from : (places : List Place) (reach : Reach) → fold reach_step reach (places ++ place ∷ [])
        ≡ reach_step (fold reach_step reach places) place
    from [] reach = refl
    from (first ∷ places) reach = from places (reach_step reach first)

-- each number, or the greater one of a test
abbrev raised : (ℕ → ℕ) → List ℕ → List ℕ → List ℕ
raised f cs ps = map (λ both. max (f both.0) both.1) (zip cs ps)

raised-twice : (f : ℕ → ℕ) (cs ps : List ℕ) → raised f cs (raised f cs ps) ≡ raised f cs ps
raised-twice f [] ps = refl
raised-twice f (c ∷ cs) [] = refl
raised-twice f (c ∷ cs) (p ∷ ps) =
    let once : max (f c) (max (f c) p) ≡ max (f c) p = omega arith in
    ap₂ (λ x xs. x ∷ xs) once (raised-twice f cs ps)

-- the same place once more changes nothing
pub reach_step-twice : (reach : Reach) (pairs : Pairs) → reach_step (reach_step reach (At pairs)) (At pairs) ≡ reach_step reach (At pairs)
reach_step-twice reach pairs =
    let peaks = raised (count_of pairs) classes reach.peaks in
    let most = max (len pairs) reach.pairs in
    let same_pairs : max (len pairs) most ≡ most = omega arith in
    let bound = max reach.bound (frames_of_pages (pages_of_peaks peaks most)) in
    let same_bound : max bound (frames_of_pages (pages_of_peaks peaks most)) ≡ bound = omega arith in
    ap₂ (with_peaks bound) (raised-twice (count_of pairs) classes reach.peaks) same_pairs
    ∙ ap (λ b. record { peaks = peaks; pairs = most; bound = b }) same_bound

raised-all : (g f : ℕ → ℕ) (cs ps : List ℕ) → AllZip (λ c p. g c ≤ p) cs ps → AllZip (λ c p. g c ≤ p) cs (raised f cs ps)
raised-all g f [] [] all = all
raised-all g f [] (p ∷ ps) all = absurd all
raised-all g f (c ∷ cs) [] all = absurd all
raised-all g f (c ∷ cs) (p ∷ ps) all = (omega (arith, all.0), raised-all g f cs ps all.1)

-- the bytes of blocks at their peaks
abbrev bytes_of : List ℕ → List ℕ → ℕ
bytes_of cs ps = sum (map (λ both. 2 ^ both.0 * both.1) (zip cs ps))

more_blocks : (size one two : ℕ) → one ≤ two → size * one ≤ size * two
more_blocks size one two less = mul-le-mul_left size less

raised-bytes : (f : ℕ → ℕ) (cs ps : List ℕ) → bytes_of cs ps ≤ bytes_of cs (raised f cs ps)
raised-bytes f [] ps = omega arith
raised-bytes f (c ∷ cs) [] = omega arith
raised-bytes f (c ∷ cs) (p ∷ ps) =
    let up : p ≤ max (f c) p = omega arith in
    let one = more_blocks (2 ^ c) p (max (f c) p) up in
    let few = sum_by-cons (λ x. x) (2 ^ c * p) (map (λ both. 2 ^ both.0 * both.1) (zip cs ps)) in
    let many = sum_by-cons (λ x. x) (2 ^ c * max (f c) p) (map (λ both. 2 ^ both.0 * both.1) (zip cs (raised f cs ps))) in
    omega (arith, one, few, many, raised-bytes f cs ps)

-- one place more keeps a store within its reach
pub KeepsWithin-more : (state : MemoryState) (store : Store) (reach : Reach) (pairs : Pairs) → KeepsWithin state store reach
    → KeepsWithin state store (reach_step reach (At pairs))
KeepsWithin-more state store reach pairs within = record {
  blocks = raised-all (blocks_in store.heap) (count_of pairs) classes reach.peaks within.blocks;
  pages = λ page there above. omega (arith, within.pages page there above, raised-bytes (count_of pairs) classes reach.peaks);
  buckets = elim within.buckets [ inl first ↦ inl first | inr more ↦ inr (omega (arith, more)) ];
}

-- and so a memory stands with one place more for the map that it stood for
pub Stands-more : (state : MemoryState) (of pairs : Pairs) (before : ℕ) (gone : List Place) → Stands state of before gone
    → Stands state of before (gone ++ At pairs ∷ [])
Stands-more state of pairs before gone stands =
    let reach = reach_of-more gone (At pairs) in
    record {
      store = stands.store;
      stands = stands.stands;
      within = subst (KeepsWithin state stands.store) (sym reach) (KeepsWithin-more state stands.store (reach_of gone) pairs stands.within);
      most = subst (λ (r : Reach). state.most ≤ max before r.bound) (sym reach) (omega (arith, stands.most));
    }

-- a place that stands twice at the end stands there once
pub Stands-once : (state : MemoryState) (of pairs : Pairs) (before : ℕ) (gone : List Place)
    → Stands state of before ((gone ++ At pairs ∷ []) ++ At pairs ∷ []) → Stands state of before (gone ++ At pairs ∷ [])
Stands-once state of pairs before gone stands =
    let reach : reach_of ((gone ++ At pairs ∷ []) ++ At pairs ∷ []) ≡ reach_of (gone ++ At pairs ∷ []) =
    reach_of-more (gone ++ At pairs ∷ []) (At pairs) ∙ ap (λ r. reach_step r (At pairs)) (reach_of-more gone (At pairs))
    ∙ reach_step-twice (reach_of gone) pairs ∙ sym (reach_of-more gone (At pairs)) in
    record {
      store = stands.store;
      stands = stands.stands;
      within = subst (KeepsWithin state stands.store) reach stands.within;
      most = subst (λ (r : Reach). state.most ≤ max before r.bound) reach stands.most;
    }
