-- The pages of a cell within all pages.
use Rattle.std.proofs.Common.{◌≡◌, ◌≢◌, ℕ, ◌+◌, ◌*◌, ◌/◌, ◌%◌, ◌<◌, List, Option, Some, None, cond, refl, sym, ◌∙◌, ap, arith, inl, inr}
use Rattle.std.specs.Prelude.{true, false, is_some, unwrap_or}
use Rattle.std.specs.FinMap.{get, insert}
use Rattle.std.proofs.lemmas.Bool.{cases_eq}
use Rattle.vm_base.specs.FlatMemory.{PageMap, zero_page}
use Rattle.vm_base.specs.FlatStep.{with_page}
use Rattle.vm_base.proofs.NumberedMaps.{get_inserted_here, get_inserted_apart}

-- a page of zeros where there is none
abbrev pub present_or_zeros : Option (List ℕ) → List ℕ
present_or_zeros bytes = unwrap_or bytes zero_page

pub with_page-here : (pages : PageMap) (page : ℕ) → get (with_page pages page) page ≡ Some (present_or_zeros (get pages page))
with_page-here pages page =
    elim (get pages page) as (λ o. get pages page ≡ o → get (cond (is_some o) pages (insert pages page zero_page)) page ≡ Some (present_or_zeros o)) [
      | Some bytes ↦ λ e. e
      | None ↦ λ e. get_inserted_here pages page zero_page page refl
    ] refl

pub with_page-apart : (pages : PageMap) (page q : ℕ) → q ≢ page → get (with_page pages page) q ≡ get pages q
with_page-apart pages page q apart =
    elim (is_some (get pages page)) as (λ b. get (cond b pages (insert pages page zero_page)) q ≡ get pages q) [ true ↦ refl | false ↦ get_inserted_apart pages page zero_page q apart ]

-- a page is added on both sides
pub with_page-inside : (cell_pages pages : PageMap) (page : ℕ) → ((p : ℕ) → p < 512 → get cell_pages p ≡ get pages (page / 512 * 512 + p))
    → (p : ℕ) → p < 512 → get (with_page cell_pages (page % 512)) p ≡ get (with_page pages page) (page / 512 * 512 + p)
with_page-inside cell_pages pages page alike p small = elim (cases_eq p (page % 512)) [
  | inl here ↦
      let whole : page / 512 * 512 + p ≡ page = omega arith in
      let low : page % 512 < 512 = omega arith in
      let back : page / 512 * 512 + page % 512 ≡ page = omega arith in
      ap (get (with_page cell_pages (page % 512))) here ∙ with_page-here cell_pages (page % 512)
      ∙ ap (λ o. Some (present_or_zeros o)) (alike (page % 512) low ∙ ap (get pages) back)
      ∙ sym (ap (get (with_page pages page)) whole ∙ with_page-here pages page)
  | inr apart ↦
      let away : page / 512 * 512 + p ≢ page = λ e. apart (omega arith) in
      with_page-apart cell_pages (page % 512) p apart ∙ alike p small ∙ sym (with_page-apart pages page (page / 512 * 512 + p) away)
]

pub with_page-outside : (pages : PageMap) (page q : ℕ) → q / 512 ≢ page / 512 → get (with_page pages page) q ≡ get pages q
with_page-outside pages page q apart = with_page-apart pages page q (λ e. apart (ap (λ n. n / 512) e))
