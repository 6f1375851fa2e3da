-- The first cell from a cell on, through the levels.
use Rattle.std.proofs.Common.{◌≡◌, ℕ, ◌+◌, ◌*◌, ◌/◌, ◌%◌, ◌^◌, ◌<◌, Some, None, Option, refl, sym, ◌∙◌, ap, subst, arith, inl, inr}
use Rattle.std.specs.Prelude.{IsSome}
use Rattle.std.proofs.lemmas.Bool.{cases_lt, false≢true}
use Rattle.table_levels.specs.First.{IsFirst}
use Rattle.table_levels.specs.Cells.{first_from}
use Rattle.table_levels.specs.Walks.{Levels, entry_in, table_at, middle_of, slot_of, directory_cells, IsDirectory}
use Rattle.table_levels.proofs.CellLemmas.{get_beyond}
use Rattle.table_levels.proofs.First.{first_from-none, first_from-some}
use Rattle.table_levels.proofs.Walking.{slot_there, slot_absent, get-cells_of}

-- the first slot of a middle table that is there, from one of its cells on
pub beside_some : (levels : Levels) (from place i slot : ℕ) → middle_of levels (from / 512) ≡ Some place → IsFirst 512 (entry_in (table_at levels.middles place)) (from % 512) (Some (i, slot))
    → IsFirst ((from / 512 + 1) * 512) (slot_of levels) from (Some (from / 512 * 512 + i, slot))
beside_some levels from place i slot at first =
    let upper : (from / 512 * 512 + i) / 512 ≡ from / 512 = omega (arith, first.1) in
    let lower : (from / 512 * 512 + i) % 512 ≡ i = omega (arith, first.1) in (
      omega (arith, first.0),
      omega (arith, first.1),
      slot_there levels (from / 512 * 512 + i) place (ap (middle_of levels) upper ∙ at) ∙ ap (entry_in (table_at levels.middles place)) lower ∙ first.2,
      λ c above below.
          let same : c / 512 ≡ from / 512 = omega (arith, first.1) in
          slot_there levels c place (ap (middle_of levels) same ∙ at) ∙ first.3 (c % 512) (omega arith) (omega arith),
    )

pub beside_none : (levels : Levels) (from place : ℕ) → middle_of levels (from / 512) ≡ Some place → IsFirst 512 (entry_in (table_at levels.middles place)) (from % 512) None
    → IsFirst ((from / 512 + 1) * 512) (slot_of levels) from None
beside_none levels from place at none = λ c above below.
    let same : c / 512 ≡ from / 512 = omega arith in
    slot_there levels c place (ap (middle_of levels) same ∙ at) ∙ none (c % 512) (omega arith) (omega arith)

-- the first slot of the next middle table
pub later_some : (levels : Levels) (from index place i slot : ℕ) → IsFirst ((from / 512 + 1) * 512) (slot_of levels) from None → IsFirst (2 ^ 18) (middle_of levels) (from / 512 + 1) (Some (index, place))
    → IsFirst 512 (entry_in (table_at levels.middles place)) 0 (Some (i, slot)) → IsFirst (2 ^ 27) (slot_of levels) from (Some (index * 512 + i, slot))
later_some levels from index place i slot none next first =
    let upper : (index * 512 + i) / 512 ≡ index = omega (arith, first.1) in
    let lower : (index * 512 + i) % 512 ≡ i = omega (arith, first.1) in (
      omega (arith, next.0),
      omega (arith, next.1, first.1),
      slot_there levels (index * 512 + i) place (ap (middle_of levels) upper ∙ next.2) ∙ ap (entry_in (table_at levels.middles place)) lower ∙ first.2,
      λ c above below. elim (cases_lt c ((from / 512 + 1) * 512)) [
        | inl beside ↦ none c above beside
        | inr beyond ↦ elim (cases_lt (c / 512) index) [
          | inl before ↦ slot_absent levels c (next.3 (c / 512) (omega arith) before)
          | inr here ↦
              let same : c / 512 ≡ index = omega (arith, first.1) in
              slot_there levels c place (ap (middle_of levels) same ∙ next.2) ∙ first.3 (c % 512) (omega arith) (omega arith)
        ]
      ],
    )

-- a middle table that is named has a slot
pub middle_filled : (levels : Levels) (n index place : ℕ) → IsDirectory levels n → index < 2 ^ 18 → middle_of levels index ≡ Some place → IsFirst 512 (entry_in (table_at levels.middles place)) 0 None → ⊥
middle_filled levels n index place directory below at none =
    let under = directory.middle_used index below (subst IsSome (sym at) refl) in
    let slot = slot_there levels under.0 place (ap (middle_of levels) under.2 ∙ at) ∙ none (under.0 % 512) (omega arith) (omega arith) in
    false≢true (subst IsSome slot under.3)

-- the walk's first slot is that of the map
pub first_of_cells : (levels : Levels) (from : ℕ) (found : Option (ℕ × ℕ)) → IsFirst (2 ^ 27) (slot_of levels) from found → found ≡ first_from (directory_cells levels) from
first_of_cells levels from None none = sym (first_from-none (directory_cells levels) from (λ c above. elim (cases_lt c (2 ^ 27)) [
  | inl below ↦ get-cells_of levels c below ∙ none c above below
  | inr beyond ↦ get_beyond (2 ^ 27) (slot_of levels) c beyond
]))
first_of_cells levels from (Some (c, slot)) first = sym (first_from-some (directory_cells levels) from c slot first.0 (get-cells_of levels c first.1 ∙ first.2)
    (λ q above lt. get-cells_of levels q (omega (arith, first.1)) ∙ first.3 q above lt))
