-- The policies of a list that are not done, as they are known.
use Rattle.std.proofs.Common.{◌≡◌, Bool, true, false, not, List, [], ◌∷◌, map, filter, All, cond, refl, ◌∙◌, ap}
use Rattle.std.proofs.lemmas.List.Elements.{All-map, filter_passes}
use Rattle.frame_pool.specs.Policies.{PolicyView, NoneIsDone, standing}
use Rattle.frame_pool.proofs.AskLemmas.{is_refused}

map_cond : {X Y : Type 0} (f : X → Y) (passes : Bool) (xs ys : List X) → map f (cond passes xs ys) ≡ cond passes (map f xs) (map f ys)
map_cond f true xs ys = refl
map_cond f false xs ys = refl

-- a filter before a map, and the same filter behind it
map-filter : {X Y : Type 0} (f : X → Y) (test : Y → Bool) (xs : List X) → map f (filter (λ x. test (f x)) xs) ≡ filter test (map f xs)
map-filter f test [] = refl
map-filter f test (x ∷ xs) =
    map_cond f (test (f x)) (x ∷ filter (λ x. test (f x)) xs) (filter (λ x. test (f x)) xs)
    ∙ ap (λ rest. cond (test (f x)) (f x ∷ rest) rest) (map-filter f test xs)

-- policies that were kept for not being done
pub map-standing : {P : Type 0} (told : P → PolicyView) (policies : List P)
    → map told (filter (λ policy. not (told policy).done) policies) ≡ standing (map told policies)
map-standing told policies = map-filter told (λ policy. not policy.done) policies

pub standing_undone : {P : Type 0} (told : P → PolicyView) (policies : List P)
    → All (λ policy. (told policy).done ≡ false) (filter (λ policy. not (told policy).done) policies)
standing_undone told policies k d inside =
    is_refused _ (filter_passes (λ policy. not (told policy).done) policies k d inside)

pub undone_views : {P : Type 0} (told : P → PolicyView) (policies : List P)
    → All (λ policy. (told policy).done ≡ false) policies → NoneIsDone (map told policies)
undone_views told policies undone = All-map (λ policy. policy.done ≡ false) told policies undone
