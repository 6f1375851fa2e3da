-- Cells that are alike but for names have the same share.
use Rattle.std.proofs.Common.{◌≡◌, ℕ, suc, ◌+◌, List, [], ◌∷◌, ◌++◌, length, map, Some, None, refl, sym, ◌∙◌, ap, subst, arith, inl, inr}
use Rattle.std.specs.Prelude.{Bool, true, false, cond, ◌||◌, count_by, flat_map}
use Rattle.std.specs.List.{list_any}
use Rattle.std.proofs.lemmas.Bool.{false≢true}
use Rattle.std.proofs.lemmas.List.{map-append}
use Rattle.std.proofs.lemmas.List.Sums.{sum_by-cons}
use Rattle.kernel_meaning.specs.Leaves.{Versions, pairs_from, pairs_of, is_same_pair, distinct_pairs, named_pairs, is_lost, is_own, has_pages, share, parent_leaves, own_leaves, Kept, CellLeaves}
use Rattle.leaf_cell.specs.Renaming.{renamed_from, AreKeptAlike, IsLive, IsRenaming}
use Rattle.leaf_cell.proofs.Renamed.{has_pages-renamed}
use Rattle.leaf_cell.proofs.PairCounts.{IsIn, same-pair, pair-same}
use Rattle.leaf_cell.proofs.LivePairs.{all_pairs, in-live}

-- a pair under its new name
abbrev named_pair : (ℕ → ℕ → ℕ) → ℕ × ℕ → ℕ × ℕ
named_pair name x = (x.0, name x.0 x.1)

pairs-renamed : (name : ℕ → ℕ → ℕ) (page : ℕ) (vs : Versions) → pairs_from page (renamed_from name page vs) ≡ map (named_pair name) (pairs_from page vs)
pairs-renamed name page [] = refl
pairs-renamed name page (None ∷ vs) = pairs-renamed name (page + 1) vs
pairs-renamed name page (Some v ∷ vs) = ap (λ ps. (page, name page v) ∷ ps) (pairs-renamed name (page + 1) vs)

kept-pairs : (name : ℕ → ℕ → ℕ) (view meant : List Kept) → AreKeptAlike name view meant → flat_map pairs_of view ≡ map (named_pair name) (flat_map pairs_of meant)
kept-pairs name [] [] alike = refl
kept-pairs name [] (o ∷ os) alike = absurd alike
kept-pairs name (i ∷ is) [] alike = absurd alike
kept-pairs name (i ∷ is) (o ∷ os) alike =
    ap (λ ps. ps ++ flat_map pairs_of is) (one (is_lost o.leaf) refl) ∙ ap (λ ps. map (named_pair name) (pairs_of o) ++ ps) (kept-pairs name is os alike.1)
    ∙ sym (map-append (named_pair name) (pairs_of o) (flat_map pairs_of os))
  where
    one : (b : Bool) → is_lost o.leaf ≡ b → pairs_of i ≡ map (named_pair name) (pairs_of o)
    one true is = ap (λ l. cond l [] (pairs_from 0 i.versions)) (ap is_lost alike.0.leaf ∙ is) ∙ sym (ap (λ l. map (named_pair name) (cond l [] (pairs_from 0 o.versions))) is)
    one false is = ap (λ l. cond l [] (pairs_from 0 i.versions)) (ap is_lost alike.0.leaf ∙ is) ∙ ap (pairs_from 0) (alike.0.versions is) ∙ pairs-renamed name 0 o.versions
        ∙ sym (ap (λ l. map (named_pair name) (cond l [] (pairs_from 0 o.versions))) is)

-- a test of pairs gives the same under new names
same-test : (g : ℕ × ℕ → ℕ × ℕ) (x y : ℕ × ℕ) → (g x ≡ g y → x ≡ y) → is_same_pair (g x) (g y) ≡ is_same_pair x y
same-test g x y apart = by (is_same_pair x y) refl (is_same_pair (g x) (g y)) refl
  where
    by : (a : Bool) → is_same_pair x y ≡ a → (b : Bool) → is_same_pair (g x) (g y) ≡ b → is_same_pair (g x) (g y) ≡ is_same_pair x y
    by true isa b isb = pair-same (g x) (g y) (ap g (same-pair x y isa)) ∙ sym isa
    by false isa true isb = absurd (false≢true (sym isa ∙ pair-same x y (apart (same-pair (g x) (g y) isb))))
    by false isa false isb = isb ∙ sym isa

any-map : (g : ℕ × ℕ → ℕ × ℕ) (x : ℕ × ℕ) (ys : List (ℕ × ℕ)) → ((y : ℕ × ℕ) → IsIn y ys → g x ≡ g y → x ≡ y) → list_any (is_same_pair (g x)) (map g ys) ≡ list_any (is_same_pair x) ys
any-map g x [] apart = refl
any-map g x (y ∷ ys) apart = ap (λ b. b || list_any (is_same_pair (g x)) (map g ys)) (same-test g x y (apart y (inl refl))) ∙ ap (λ b. is_same_pair x y || b) (any-map g x ys (λ z h. apart z (inr h)))

distinct-map : (g : ℕ × ℕ → ℕ × ℕ) (xs : List (ℕ × ℕ)) → ((x y : ℕ × ℕ) → IsIn x xs → IsIn y xs → g x ≡ g y → x ≡ y) → length (distinct_pairs (map g xs)) ≡ length (distinct_pairs xs)
distinct-map g [] apart = refl
distinct-map g (x ∷ xs) apart =
    ap (λ b. length (cond b (distinct_pairs (map g xs)) (g x ∷ distinct_pairs (map g xs)))) (any-map g x xs (λ y h. apart x y (inl refl) (inr h)))
    ∙ by (list_any (is_same_pair x) xs) (distinct-map g xs (λ a b ha hb. apart a b (inr ha) (inr hb)))
  where
    by : (b : Bool) → length (distinct_pairs (map g xs)) ≡ length (distinct_pairs xs)
        → length (cond b (distinct_pairs (map g xs)) (g x ∷ distinct_pairs (map g xs))) ≡ length (cond b (distinct_pairs xs) (x ∷ distinct_pairs xs))
    by true rest = rest
    by false rest = ap suc rest

own-alike : (name : ℕ → ℕ → ℕ) (view meant : List Kept) → AreKeptAlike name view meant → count_by (λ it. is_own it.leaf) view ≡ count_by (λ it. is_own it.leaf) meant
own-alike name [] [] alike = refl
own-alike name [] (o ∷ os) alike = absurd alike
own-alike name (i ∷ is) [] alike = absurd alike
own-alike name (i ∷ is) (o ∷ os) alike = sum_by-cons (λ it. cond (is_own it.leaf) 1 0) i is
    ∙ ap (λ leaf. cond (is_own leaf) 1 0 + count_by (λ it. is_own it.leaf) is) alike.0.leaf
    ∙ ap (λ n. cond (is_own o.leaf) 1 0 + n) (own-alike name is os alike.1)
    ∙ sym (sum_by-cons (λ it. cond (is_own it.leaf) 1 0) o os)

pub share-alike : (name : ℕ → ℕ → ℕ) (view meant : CellLeaves) → IsRenaming name view meant → share view ≡ share meant
share-alike name view meant alike =
    let pairs : all_pairs view ≡ map (named_pair name) (all_pairs meant) =
    ap (λ vs. pairs_from 0 vs ++ flat_map pairs_of view.kept) alike.parent ∙ ap (λ ps. ps ++ flat_map pairs_of view.kept) (pairs-renamed name 0 meant.parent)
    ∙ ap (λ ps. map (named_pair name) (pairs_from 0 meant.parent) ++ ps) (kept-pairs name view.kept meant.kept alike.kept)
    ∙ sym (map-append (named_pair name) (pairs_from 0 meant.parent) (flat_map pairs_of meant.kept)) in
    let count : length (named_pairs view) ≡ length (named_pairs meant) = ap (λ ps. length (distinct_pairs ps)) pairs ∙ distinct-map (named_pair name) (all_pairs meant) apart in
    let leaf : parent_leaves view ≡ parent_leaves meant = ap (λ b. cond b 1 0) (ap has_pages alike.parent ∙ has_pages-renamed name meant.parent) in
    let own : own_leaves view ≡ own_leaves meant = own-alike name view.kept meant.kept alike.kept in
    omega (arith, count, leaf, own)
  where
    apart : (x y : ℕ × ℕ) → IsIn x (all_pairs meant) → IsIn y (all_pairs meant) → named_pair name x ≡ named_pair name y → x ≡ y
    apart x y hx hy e =
        let page : x.0 ≡ y.0 = ap (λ z. z.0) e in
        let other : IsLive meant x.0 y.1 = subst (λ p. IsLive meant p y.1) (sym page) (in-live meant y hy) in
        let version : x.1 ≡ y.1 = alike.apart x.0 x.1 y.1 (in-live meant x hx) other (ap (λ z. z.1) e ∙ ap (λ p. name p y.1) (sym page)) in
        λ i. (page i, version i)
