-- Areas joined one after another, from the front and from the back.
use Rattle.std.proofs.Common.{◌≡◌, ◌+◌, ◌≤◌, Bool, true, false, List, [], ◌∷◌, ◌++◌, length, refl, sym, ◌∙◌, ap, arith, inl, inr, append_assoc, append-nil, length-append}
use Rattle.std.specs.Prelude.{◌&&◌, ◌==◌}
use Rattle.std.proofs.lemmas.Bool.{cases_Bool, cond-true, cond-false, and_parts, eqb-true, false≢true}
use Rattle.vm_base.specs.declared.permission.Perm.{Perm}
use Rattle.vm_base.specs.declared.permission.Perm.TheVariants.{Read, ReadWrite}
use Rattle.vm_base.specs.FlatMemory.{Area}
use Rattle.vm_base.specs.FlatStep.{joined, joined_front, is_same_perm}

-- an area may be made one with the next
abbrev pub joins : Area → Area → Bool
joins area next = (area.first + area.pages == next.first) && is_same_perm area.perm next.perm

-- the two as one
abbrev pub both : Area → Area → Area
both area next = record area { pages = area.pages + next.pages }

-- an area behind the others, made one with the last where they touch and have the same permission
abbrev pub pushed : List Area → Area → List Area
pushed [] area = area ∷ []
pushed (last ∷ []) area = joined_front last (area ∷ [])
pushed (a ∷ b ∷ areas) area = a ∷ pushed (b ∷ areas) area

pub same_perm : (one other : Perm) → is_same_perm one other ≡ true → one ≡ other
same_perm Read Read same = refl
same_perm ReadWrite ReadWrite same = refl
same_perm Read ReadWrite different = absurd (false≢true different)
same_perm ReadWrite Read different = absurd (false≢true different)

pub perm_is_same : (perm : Perm) → is_same_perm perm perm ≡ true
perm_is_same Read = refl
perm_is_same ReadWrite = refl

-- what joins ends where the next begins, and has its permission
pub joins_touches : (a b : Area) → joins a b ≡ true → a.first + a.pages ≡ b.first
joins_touches a b both_true = eqb-true (a.first + a.pages) b.first (and_parts (a.first + a.pages == b.first) (is_same_perm a.perm b.perm) both_true).0

pub joins_alike : (a b : Area) → joins a b ≡ true → a.perm ≡ b.perm
joins_alike a b both_true = same_perm a.perm b.perm (and_parts (a.first + a.pages == b.first) (is_same_perm a.perm b.perm) both_true).1

-- two that are one join what the second joins
joins-both : (a b c : Area) → joins a b ≡ true → joins (both a b) c ≡ joins b c
joins-both a b c one =
    let touches : a.first + a.pages ≡ b.first = joins_touches a b one in
    let ends : a.first + (a.pages + b.pages) ≡ b.first + b.pages = omega arith in
    ap (λ end. (end == c.first) && is_same_perm a.perm c.perm) ends
    ∙ ap (λ perm. (b.first + b.pages == c.first) && is_same_perm perm c.perm) (joins_alike a b one)

both-both : (a b c : Area) → both a (both b c) ≡ both (both a b) c
both-both a b c =
    let sum : a.pages + (b.pages + c.pages) ≡ a.pages + b.pages + c.pages = omega arith in
    ap (λ n. record a { pages = n }) sum

pub front_joins : (a b : Area) (areas : List Area) → joins a b ≡ true → joined_front a (b ∷ areas) ≡ both a b ∷ areas
front_joins a b areas one = cond-true (joins a b) _ _ one

pub front_apart : (a b : Area) (areas : List Area) → joins a b ≡ false → joined_front a (b ∷ areas) ≡ a ∷ b ∷ areas
front_apart a b areas two = cond-false (joins a b) _ _ two

-- an area in front and one behind, in either order
front-pushed_one : (p y a : Area) → joined_front p (joined_front y (a ∷ [])) ≡ pushed (joined_front p (y ∷ [])) a
front-pushed_one p y a = elim (cases_Bool (joins p y)) [
  | inl py ↦ elim (cases_Bool (joins y a)) [
    | inl ya ↦ ap (joined_front p) (front_joins y a [] ya) ∙ front_joins p (both y a) [] py ∙ ap (λ x. x ∷ []) (both-both p y a)
        ∙ sym (ap (λ l. pushed l a) (front_joins p y [] py) ∙ front_joins (both p y) a [] (joins-both p y a py ∙ ya))
    | inr ya ↦ ap (joined_front p) (front_apart y a [] ya) ∙ front_joins p y (a ∷ []) py
        ∙ sym (ap (λ l. pushed l a) (front_joins p y [] py) ∙ front_apart (both p y) a [] (joins-both p y a py ∙ ya))
  ]
  | inr py ↦ elim (cases_Bool (joins y a)) [
    | inl ya ↦ ap (joined_front p) (front_joins y a [] ya) ∙ front_apart p (both y a) [] py
        ∙ sym (ap (λ l. pushed l a) (front_apart p y [] py) ∙ ap (λ l. p ∷ l) (front_joins y a [] ya))
    | inr ya ↦ ap (joined_front p) (front_apart y a [] ya) ∙ front_apart p y (a ∷ []) py
        ∙ sym (ap (λ l. pushed l a) (front_apart p y [] py) ∙ ap (λ l. p ∷ l) (front_apart y a [] ya))
  ]
]

front-pushed : (p : Area) (ys : List Area) (a : Area) → joined_front p (pushed ys a) ≡ pushed (joined_front p ys) a
front-pushed p [] a = refl
front-pushed p (y ∷ []) a = front-pushed_one p y a
front-pushed p (y ∷ z ∷ zs) a = elim (cases_Bool (joins p y)) [
  | inl py ↦ front_joins p y (pushed (z ∷ zs) a) py ∙ sym (ap (λ l. pushed l a) (front_joins p y (z ∷ zs) py))
  | inr py ↦ front_apart p y (pushed (z ∷ zs) a) py ∙ sym (ap (λ l. pushed l a) (front_apart p y (z ∷ zs) py))
]

-- one more area behind those that are joined
pub joined-push : (xs : List Area) (a : Area) → joined (xs ++ a ∷ []) ≡ pushed (joined xs) a
joined-push [] a = refl
joined-push (x ∷ xs) a = ap (joined_front x) (joined-push xs a) ∙ front-pushed x (joined xs) a

pushed-last : (front : List Area) (last a : Area) → pushed (front ++ last ∷ []) a ≡ front ++ joined_front last (a ∷ [])
pushed-last [] last a = refl
pushed-last (x ∷ []) last a = refl
pushed-last (x ∷ y ∷ front) last a = ap (λ l. x ∷ l) (pushed-last (y ∷ front) last a)

-- the first area
pub push_first : (before items front : List Area) (a : Area) → items ≡ joined before → items ≡ front ++ [] → length items ≡ 0 → joined (before ++ a ∷ []) ≡ front ++ a ∷ []
push_first before items [] a same split none = joined-push before a ∙ ap (λ l. pushed l a) (sym same ∙ split)
push_first before items (x ∷ front) a same split none = absurd (omega (arith, ap length split, length-append (x ∷ front) []))

-- an area that is made one with the last
pub push_joins : (before items front : List Area) (last a : Area) → items ≡ joined before → items ≡ front ++ last ∷ [] → joins last a ≡ true → joined (before ++ a ∷ []) ≡ front ++ both last a ∷ []
push_joins before items front last a same split one =
    joined-push before a ∙ ap (λ l. pushed l a) (sym same ∙ split) ∙ pushed-last front last a ∙ ap (λ l. front ++ l) (front_joins last a [] one)

-- an area that is not
pub push_apart : (before items front : List Area) (last a : Area) → items ≡ joined before → items ≡ front ++ last ∷ [] → joins last a ≡ false → joined (before ++ a ∷ []) ≡ (front ++ last ∷ []) ++ a ∷ []
push_apart before items front last a same split two =
    joined-push before a ∙ ap (λ l. pushed l a) (sym same ∙ split) ∙ pushed-last front last a ∙ ap (λ l. front ++ l) (front_apart last a [] two)
    ∙ sym (append_assoc front (last ∷ []) (a ∷ []))

-- more areas make no shorter list
length-front : (a : Area) (xs : List Area) → 1 ≤ length (joined_front a xs)
length-front a [] = omega arith
length-front a (x ∷ xs) = elim (cases_Bool (joins a x)) [
  | inl one ↦ omega (arith, ap length (front_joins a x xs one))
  | inr two ↦ omega (arith, ap length (front_apart a x xs two))
]

length-pushed : (xs : List Area) (a : Area) → length xs ≤ length (pushed xs a)
length-pushed [] a = omega arith
length-pushed (x ∷ []) a = length-front x (a ∷ [])
length-pushed (x ∷ y ∷ xs) a = let rest : length (y ∷ xs) ≤ length (pushed (y ∷ xs) a) = length-pushed (y ∷ xs) a in omega arith

pub length-joined : (xs ys : List Area) → length (joined xs) ≤ length (joined (xs ++ ys))
length-joined xs [] = omega (arith, ap (λ l. length (joined l)) (append-nil xs))
length-joined xs (y ∷ ys) =
    let here : length (joined xs) ≤ length (pushed (joined xs) y) = length-pushed (joined xs) y in
    let more : length (joined (xs ++ y ∷ [])) ≤ length (joined ((xs ++ y ∷ []) ++ ys)) = length-joined (xs ++ y ∷ []) ys in
    omega (arith, ap length (joined-push xs y), ap (λ l. length (joined l)) (append_assoc xs (y ∷ []) ys))
