-- Absent pages of a range, and the zeros that are placed there.
use Rattle.std.proofs.Common.{◌≡◌, ℕ, zero, suc, ◌+◌, ◌-◌, ◌<◌, ◌≤◌, true, false, List, [], ◌∷◌, ◌++◌, length, replicate, cond, refl, sym, ◌∙◌, ap, arith}
use Rattle.std.specs.Prelude.{is_some}
use Rattle.std.specs.FinMap.{get, insert}
use Rattle.std.proofs.lemmas.Bool.{cond-true, cond-false}
use Rattle.std.proofs.lemmas.List.{replicate_more, same_from_push, length-replicate, length_push}
use Rattle.vm_base.specs.FlatMemory.{PageMap, zero_page}
use Rattle.vm_base.specs.FlatStep.{with_page, with_pages}
use Rattle.vm_base.proofs.NumberedMaps.{get_inserted_apart}
use Rattle.vm_base.proofs.FlatPages.{with_page_there, with_page_absent}
use Rattle.plain_kernel.specs.Pages.{absent_count}

-- the first page of a range, and the rest
pub absent_step : (present : PageMap) (page end : ℕ) → page < end → absent_count present page (end - page) ≡ cond (is_some (get present page)) 0 1 + absent_count present (page + 1) (end - (page + 1))
absent_step present page end below = let step : end - page ≡ suc (end - (page + 1)) = omega arith in ap (absent_count present page) step

-- the first page is there
pub absent_there : (present : PageMap) (page end : ℕ) → page < end → is_some (get present page) ≡ true → absent_count present page (end - page) ≡ absent_count present (page + 1) (end - (page + 1))
absent_there present page end below there =
    let none : zero + absent_count present (page + 1) (end - (page + 1)) ≡ absent_count present (page + 1) (end - (page + 1)) = omega arith in
    absent_step present page end below ∙ ap (λ n. n + absent_count present (page + 1) (end - (page + 1))) (cond-true (is_some (get present page)) 0 1 there) ∙ none

-- the first page is absent
pub absent_here : (present : PageMap) (page end : ℕ) → page < end → is_some (get present page) ≡ false → absent_count present page (end - page) ≡ absent_count present (page + 1) (end - (page + 1)) + 1
absent_here present page end below absent =
    let one : suc zero + absent_count present (page + 1) (end - (page + 1)) ≡ absent_count present (page + 1) (end - (page + 1)) + 1 = omega arith in
    absent_step present page end below ∙ ap (λ n. n + absent_count present (page + 1) (end - (page + 1))) (cond-false (is_some (get present page)) 0 1 absent) ∙ one

-- a page placed below a range leaves the count of the range
absent_above : (n : ℕ) (present : PageMap) (page q : ℕ) (bytes : List ℕ) → page < q → absent_count (insert present page bytes) q n ≡ absent_count present q n
absent_above zero present page q bytes above = refl
absent_above (suc n) present page q bytes above =
    let apart : q ≡ page → ⊥ = λ same. omega arith in
    ap (λ found. cond (is_some found) 0 1 + absent_count (insert present page bytes) (q + 1) n) (get_inserted_apart present page bytes q apart)
    ∙ ap (λ m. cond (is_some (get present q)) 0 1 + m) (absent_above n present page (q + 1) bytes (omega arith))

-- touching a range goes on behind its first page
pub touch_step : (present : PageMap) (page end : ℕ) → page < end → with_pages present page (end - page) ≡ with_pages (with_page present page) (page + 1) (end - (page + 1))
touch_step present page end below = let step : end - page ≡ suc (end - (page + 1)) = omega arith in ap (with_pages present page) step

-- zeros for the absent pages from this page on, and the rest is touched
pub record Placing (present : PageMap) (zeros : List (List ℕ)) (page end : ℕ) (all : PageMap) : Type 0 where
  pub alike : zeros ≡ replicate (absent_count present page (end - page)) zero_page
  pub rest : with_pages present page (end - page) ≡ all

-- the page is there
pub placing_there : (present : PageMap) (zeros : List (List ℕ)) (page end : ℕ) (all : PageMap) → page < end → is_some (get present page) ≡ true → Placing present zeros page end all → Placing present zeros (page + 1) end all
placing_there present zeros page end all below there placing = record {
  alike = placing.alike ∙ ap (λ n. replicate n zero_page) (absent_there present page end below there);
  rest = ap (λ m. with_pages m (page + 1) (end - (page + 1))) (sym (with_page_there present page there)) ∙ sym (touch_step present page end below) ∙ placing.rest;
}

-- the page is absent, and gets the last of the zeros
pub placing_here : (present : PageMap) (zeros less : List (List ℕ)) (one : List ℕ) (page end : ℕ) (all : PageMap) → page < end → is_some (get present page) ≡ false
    → zeros ≡ less ++ one ∷ [] → Placing present zeros page end all → Placing (insert present page one) less (page + 1) end all
placing_here present zeros less one page end all below absent last placing =
    let left : ℕ = absent_count present (page + 1) (end - (page + 1)) in
    let pushed : replicate left zero_page ++ zero_page ∷ [] ≡ less ++ one ∷ [] =
    replicate_more left zero_page ∙ ap (λ n. replicate n zero_page) (sym (absent_here present page end below absent)) ∙ sym placing.alike ∙ last in
    let same : (replicate left zero_page ≡ less) × (zero_page ≡ one) = same_from_push (replicate left zero_page) less zero_page one pushed in
    record {
      alike = sym same.0 ∙ ap (λ n. replicate n zero_page) (sym (absent_above (end - (page + 1)) present page (page + 1) one (omega arith)));
      rest = ap (λ m. with_pages m (page + 1) (end - (page + 1))) (ap (insert present page) (sym same.1) ∙ sym (with_page_absent present page absent))
          ∙ sym (touch_step present page end below) ∙ placing.rest;
    }

-- an absent page finds zeros left
pub placing_enough : (present : PageMap) (zeros : List (List ℕ)) (page end : ℕ) (all : PageMap) → page < end → is_some (get present page) ≡ false → zeros ≡ [] → Placing present zeros page end all → ⊥
placing_enough present zeros page end all below absent none placing =
    let count : length (replicate (absent_count present page (end - page)) zero_page) ≡ 0 = ap length (sym placing.alike ∙ none) in
    omega (arith, length-replicate (absent_count present page (end - page)) zero_page, absent_here present page end below absent)

-- zeros so far, with the absent pages of the rest
pub record Counting (present : PageMap) (zeros : List (List ℕ)) (page end all : ℕ) : Type 0 where
  pub alike : zeros ≡ replicate (length zeros) zero_page
  pub count : length zeros + absent_count present page (end - page) ≡ all

pub counting_there : (present : PageMap) (zeros : List (List ℕ)) (page end all : ℕ) → page < end → is_some (get present page) ≡ true → Counting present zeros page end all → Counting present zeros (page + 1) end all
counting_there present zeros page end all below there counting = record {
  alike = counting.alike;
  count = ap (λ n. length zeros + n) (sym (absent_there present page end below there)) ∙ counting.count;
}

pub counting_here : (present : PageMap) (zeros : List (List ℕ)) (page end all : ℕ) → page < end → is_some (get present page) ≡ false → Counting present zeros page end all → Counting present (zeros ++ zero_page ∷ []) (page + 1) end all
counting_here present zeros page end all below absent counting = record {
  alike = ap (λ zs. zs ++ zero_page ∷ []) counting.alike ∙ replicate_more (length zeros) zero_page ∙ ap (λ n. replicate n zero_page) (sym (length_push zeros zero_page));
  count = omega (arith, length_push zeros zero_page, absent_here present page end below absent, counting.count);
}

-- no page is left
pub counting_done : (present : PageMap) (zeros : List (List ℕ)) (page end all : ℕ) → end ≤ page → Counting present zeros page end all → zeros ≡ replicate all zero_page
counting_done present zeros page end all past counting =
    let nothing : end - page ≡ 0 = omega arith in
    let count : length zeros + absent_count present page 0 ≡ all = ap (λ n. length zeros + absent_count present page n) (sym nothing) ∙ counting.count in
    counting.alike ∙ ap (λ n. replicate n zero_page) (omega arith)
