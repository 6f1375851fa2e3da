-- Where no page of a range is present, the parent has none there.
use Rattle.std.proofs.Common.{◌≡◌, ℕ, zero, suc, ◌+◌, ◌-◌, ◌*◌, ◌/◌, ◌%◌, ◌<◌, ◌≤◌, [], ◌∷◌, ◌++◌, length, take, drop, replicate, Option, Some, None, cond, refl, sym, ◌∙◌, ap, subst, arith, append_assoc, inl, inr}
use Rattle.std.specs.Prelude.{Bool, true, false, is_some}
use Rattle.std.specs.Ordering.{nat_cmp}
use Rattle.std.specs.List.{slice_get, list_any}
use Rattle.std.specs.Option.{option_map}
use Rattle.std.specs.FinMap.{get, find, retain_keys, get-empty}
use Rattle.std.proofs.lemmas.Bool.{false≢true}
use Rattle.vm_base.specs.FlatStep.{is_beyond}
use Rattle.vm_base.proofs.NumberedMaps.{same_numbered}
use Rattle.kernel_meaning.specs.Leaves.{Versions, version_at, has_present, without_versions}
use Rattle.kernel_meaning.specs.FrameLaw.{cell_at}
use Rattle.kernel_meaning.specs.EventRequests.{first_in_cell, count_in_cell}
use Rattle.leaf_cell.specs.CellView.{CellView, bytes_in}
use Rattle.leaf_cell.specs.Standing.{StandsFor}
use Rattle.leaf_cell.proofs.AbsentPages.{has_present-there}
use Rattle.leaf_cell.proofs.Renamed.{version_at-renamed}
use Rattle.leaf_cell.proofs.Without.{in-or-out}
use Rattle.page_tables.specs.declared.slot.Slot.{Slot}
use Rattle.page_tables.specs.declared.tables.PageTables.{PageTables}
use Rattle.page_tables.specs.Sides.{Sides}
use Rattle.page_tables.specs.Clearing.{has_some}
use Rattle.page_tables.specs.Standing.{owner_at, state_in, TablesStandFor}
use Rattle.page_tables.proofs.OwnedSlots.{owned-slot}
use Rattle.page_tables.proofs.ClearedCell.{get-retained, beyond-within, beyond-outside}

none-taken : (k : ℕ) (rest : Versions) → list_any is_some (take k (replicate k None ++ rest)) ≡ false
none-taken zero rest = refl
none-taken (suc k) rest = none-taken k rest

none-behind-front : (first k : ℕ) (versions rest : Versions) → first ≤ length versions → list_any is_some (take k (drop first (take first versions ++ (replicate k None ++ rest)))) ≡ false
none-behind-front zero k versions rest fits = none-taken k rest
none-behind-front (suc first) k [] rest fits = absurd (omega (arith, fits))
none-behind-front (suc first) k (x ∷ versions) rest fits = none-behind-front first k versions rest (omega (arith, fits))

-- pages that were taken out are there no more
pub none-without : (versions : Versions) (first k : ℕ) → first ≤ length versions → has_present (without_versions versions first k) first k ≡ false
none-without versions first k fits =
    ap (λ vs. has_present vs first k) (append_assoc (take first versions) (replicate k None) (drop (first + k) versions))
    ∙ none-behind-front first k versions (drop (first + k) versions) fits

-- a page of the range is absent
absent-there : (versions : Versions) (first n p : ℕ) → has_present versions first n ≡ false → first ≤ p → p < first + n → version_at versions p ≡ None
absent-there versions first n p none above below = by (version_at versions p) refl
  where
    by : (o : Option ℕ) → version_at versions p ≡ o → o ≡ None
    by None is = refl
    by (Some v) is =
        let at : first + (p - first) ≡ p = omega (arith, above) in
        absurd (false≢true (sym none ∙ has_present-there versions first (p - first) n (omega (arith, above, below)) (ap (λ i. is_some (version_at versions i)) at ∙ ap is_some is)))

module _ (tables : PageTables) (sides : Sides) (st : TablesStandFor tables sides) where
  -- a page without a version has no bytes
  no-bytes : (c p : ℕ) → p < 512 → version_at (cell_at sides.leaves c).parent p ≡ None → get (st.cells c).pages p ≡ None
  no-bytes c p small none = by (is_some (find nat_cmp c sides.leaves)) refl
    where
      view-none : (view : CellView) → StandsFor view (record { state = st.cells c; made = sides.made }) → get (st.cells c).pages p ≡ None
      view-none view stands =
          sym (stands.pages p small)
          ∙ ap (bytes_in view.frames) (ap (λ versions. version_at versions p) stands.leaves.parent ∙ version_at-renamed stands.name (st.cells c).leaves.parent p
          ∙ ap (option_map (stands.name p)) (ap (λ cell. version_at cell.parent p) (st.each.leaves c) ∙ none))

      by : (b : Bool) → is_some (find nat_cmp c sides.leaves) ≡ b → get (st.cells c).pages p ≡ None
      by false gone = ap (λ state. get state.pages p) (st.blank c gone) ∙ get-empty nat_cmp p
      by true there =
          let owned : (s : ℕ) × (owner_at tables.slots.items s ≡ Some c) = st.slots_of.owned c there in
          let home : (slot : Slot) × ((slice_get tables.slots.items owned.0 ≡ Some slot) × (slot.owner ≡ Some c)) = owned-slot tables.slots.items owned.0 c owned.1 in
          view-none home.0.cell (subst (λ owner. StandsFor home.0.cell (record { state = state_in st.cells owner; made = sides.made })) home.1.1 (st.slots_of.stands owned.0 home.0 home.1.0))

  module _ (first n : ℕ) (none : (c : ℕ) → has_some first n c (cell_at sides.leaves c) ≡ false) where
    absent-page : (q : ℕ) → first ≤ q → q < first + n → get sides.pages q ≡ None
    absent-page q above below =
        let c : ℕ = q / 512 in
        let p : ℕ = q % 512 in
        let whole : q / 512 * 512 + q % 512 ≡ q = omega arith in
        let small : q % 512 < 512 = omega arith in
        ap (get sides.pages) (sym whole) ∙ sym (st.each.pages (q / 512) (q % 512) small)
        ∙ no-bytes (q / 512) (q % 512) small
        (absent-there (cell_at sides.leaves (q / 512)).parent (first_in_cell (q / 512) first) (count_in_cell (q / 512) first n) (q % 512) (none (q / 512)) (omega (arith, above, below)) (omega (arith, above, below)))

    -- the parent has no page of the range
    pub none-left : sides.pages ≡ retain_keys sides.pages (is_beyond first n)
    none-left = same_numbered _ _ (λ q. elim (in-or-out first n q) [
      | inl within ↦ absent-page q within.0 within.1 ∙ sym (get-retained sides.pages first n q ∙ ap (λ b. cond b (get sides.pages q) None) (beyond-within first n q within.0 within.1))
      | inr outside ↦ sym (get-retained sides.pages first n q ∙ ap (λ b. cond b (get sides.pages q) None) (beyond-outside first n q outside))
    ])
