-- Areas in order are fixed by the permission of each page.
use Rattle.std.proofs.Common.{◌≡◌, ℕ, ◌+◌, ◌<◌, List, [], ◌∷◌, Some, None, refl, sym, ◌∙◌, ap, subst, arith, inl, inr}
use Rattle.std.proofs.lemmas.Bool.{cases_lt, cases_order}
use Rattle.vm_base.specs.FlatMemory.{Area, AreInOrder}
use Rattle.area_list.specs.AreaList.{permission_at}
use Rattle.area_list.proofs.Order.{IsFrom, IsApart, order_parts}
use Rattle.area_list.proofs.Permissions.{holds_inside, holds_before, holds_behind, permission_held, permission_passed}

-- below the first area no page has a permission
nothing_below : (low : ℕ) (areas : List Area) (page : ℕ) → IsFrom low areas → page < low → permission_at areas page ≡ None
nothing_below low [] page from lt = refl
nothing_below low (a ∷ areas) page from lt =
    permission_passed a areas page (holds_before a page (omega (arith, from.0)))
    ∙ nothing_below (a.first + a.pages) areas page from.2 (omega (arith, from.0))

-- the first page of the first area
first_page : (a : Area) (areas : List Area) → 0 < a.pages → permission_at (a ∷ areas) a.first ≡ Some a.perm
first_page a areas some = permission_held a areas a.first (holds_inside a a.first (omega arith) (omega arith))

-- behind the first area a page does not have its permission at once
end_differs : (a : Area) (areas : List Area) → IsFrom (a.first + a.pages) areas → IsApart a areas → permission_at (a ∷ areas) (a.first + a.pages) ≡ Some a.perm → ⊥
end_differs a [] from apart same =
    let none : permission_at (a ∷ []) (a.first + a.pages) ≡ None = permission_passed a [] (a.first + a.pages) (holds_behind a (a.first + a.pages) (omega arith)) in
    cc
end_differs a (b ∷ areas) from apart same =
    let passed : permission_at (a ∷ b ∷ areas) (a.first + a.pages) ≡ permission_at (b ∷ areas) (a.first + a.pages) =
    permission_passed a (b ∷ areas) (a.first + a.pages) (holds_behind a (a.first + a.pages) (omega arith)) in
    elim (cases_lt (a.first + a.pages) b.first) [
      | inl gap ↦
          let none : permission_at (b ∷ areas) (a.first + a.pages) ≡ None =
          nothing_below b.first (b ∷ areas) (a.first + a.pages) (omega arith, from.1, from.2) gap in
          cc
      | inr touch ↦
          let here : a.first + a.pages ≡ b.first = omega (arith, from.0) in
          let other : permission_at (b ∷ areas) (a.first + a.pages) ≡ Some b.perm = ap (permission_at (b ∷ areas)) here ∙ first_page b areas from.1 in
          let alike : a.perm ≡ b.perm = cc in
          apart.1 here alike
    ]

-- an area that has a page less than another with the same first page and permission
not_shorter : (a b : Area) (xs ys : List Area) → a.first ≡ b.first → a.perm ≡ b.perm → IsFrom (a.first + a.pages) xs → IsApart a xs
    → ((page : ℕ) → permission_at (a ∷ xs) page ≡ permission_at (b ∷ ys) page) → a.pages < b.pages → ⊥
not_shorter a b xs ys here alike from apart same shorter =
    end_differs a xs from apart (same (a.first + a.pages)
    ∙ permission_held b ys (a.first + a.pages) (holds_inside b (a.first + a.pages) (omega arith) (omega arith)) ∙ ap Some (sym alike))

-- an area before the first of others has a page that they lack
not_before : (a b : Area) (xs ys : List Area) → 0 < a.pages → 0 < b.pages → IsFrom (b.first + b.pages) ys
    → ((page : ℕ) → permission_at (a ∷ xs) page ≡ permission_at (b ∷ ys) page) → a.first < b.first → ⊥
not_before a b xs ys some other from same lt =
    let there : permission_at (a ∷ xs) a.first ≡ Some a.perm = first_page a xs some in
    let none : permission_at (b ∷ ys) a.first ≡ None = nothing_below b.first (b ∷ ys) a.first (omega arith, other, from) lt in
    let both : permission_at (a ∷ xs) a.first ≡ permission_at (b ∷ ys) a.first = same a.first in
    cc

-- where areas with one first area agree, the others agree
rest_same : (a : Area) (xs ys : List Area) → IsFrom (a.first + a.pages) xs → IsFrom (a.first + a.pages) ys
    → ((page : ℕ) → permission_at (a ∷ xs) page ≡ permission_at (a ∷ ys) page) → (page : ℕ) → permission_at xs page ≡ permission_at ys page
rest_same a xs ys from other same page = elim (cases_lt page (a.first + a.pages)) [
  | inl before ↦ nothing_below (a.first + a.pages) xs page from before ∙ sym (nothing_below (a.first + a.pages) ys page other before)
  | inr behind ↦ sym (permission_passed a xs page (holds_behind a page behind)) ∙ same page ∙ permission_passed a ys page (holds_behind a page behind)
]

same_area : (a b : Area) → a.first ≡ b.first → a.pages ≡ b.pages → a.perm ≡ b.perm → a ≡ b
same_area a b first pages perm =
    ap (λ n. record a { first = n }) first ∙ ap (λ n. record b { pages = n; perm = a.perm }) pages ∙ ap (λ p. record b { perm = p }) perm

pub one_list : (low other : ℕ) (xs ys : List Area) → IsFrom low xs → IsFrom other ys → AreInOrder xs → AreInOrder ys → ((page : ℕ) → permission_at xs page ≡ permission_at ys page) → xs ≡ ys
one_list low other [] [] from_x from_y order_x order_y same = refl
one_list low other [] (b ∷ ys) from_x from_y order_x order_y same =
    let there : permission_at (b ∷ ys) b.first ≡ Some b.perm = first_page b ys from_y.1 in
    let both : permission_at [] b.first ≡ permission_at (b ∷ ys) b.first = same b.first in
    absurd cc
one_list low other (a ∷ xs) [] from_x from_y order_x order_y same =
    let there : permission_at (a ∷ xs) a.first ≡ Some a.perm = first_page a xs from_x.1 in
    let both : permission_at (a ∷ xs) a.first ≡ permission_at [] a.first = same a.first in
    absurd cc
one_list low other (a ∷ xs) (b ∷ ys) from_x from_y order_x order_y same =
    let parts_x = order_parts a xs order_x in
    let parts_y = order_parts b ys order_y in
    let back = λ (page : ℕ). sym (same page) in
    let first : a.first ≡ b.first = elim (cases_order a.first b.first) [
      | inl here ↦ here
      | inr apart ↦ elim apart [
        | inl lt ↦ absurd (not_before a b xs ys from_x.1 from_y.1 from_y.2 same lt)
        | inr gt ↦ absurd (not_before b a ys xs from_y.1 from_x.1 from_x.2 back gt)
      ]
    ] in
    let there_x : permission_at (a ∷ xs) a.first ≡ Some a.perm = first_page a xs from_x.1 in
    let there_y : permission_at (b ∷ ys) a.first ≡ Some b.perm = ap (permission_at (b ∷ ys)) first ∙ first_page b ys from_y.1 in
    let here : permission_at (a ∷ xs) a.first ≡ permission_at (b ∷ ys) a.first = same a.first in
    let perm : a.perm ≡ b.perm = cc in
    let pages : a.pages ≡ b.pages = elim (cases_order a.pages b.pages) [
      | inl alike ↦ alike
      | inr apart ↦ elim apart [
        | inl lt ↦ absurd (not_shorter a b xs ys first perm from_x.2 parts_x.1 same lt)
        | inr gt ↦ absurd (not_shorter b a ys xs (sym first) (sym perm) from_y.2 parts_y.1 back gt)
      ]
    ] in
    let area : a ≡ b = same_area a b first pages perm in
    let end : b.first + b.pages ≡ a.first + a.pages = omega arith in
    let from_rest : IsFrom (a.first + a.pages) ys = subst (λ e. IsFrom e ys) end from_y.2 in
    let at_a = λ (page : ℕ). same page ∙ ap (λ c. permission_at (c ∷ ys) page) (sym area) in
    ap (λ c. c ∷ xs) area
    ∙ ap (λ l. b ∷ l) (one_list (a.first + a.pages) (a.first + a.pages) xs ys from_x.2 from_rest parts_x.2 parts_y.2 (rest_same a xs ys from_x.2 from_rest at_a))
