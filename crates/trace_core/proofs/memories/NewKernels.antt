-- A new kernel: the memory that it begins with, and that no policy is there where it tells how many frames are enough.
use Rattle.std.proofs.Common.{◌≡◌, ℕ, ◌+◌, ◌/◌, List, [], ◌∷◌, map, length, Option, Some, None, refl, sym, ◌∙◌, ap, arith, cond, eqb}
use Rattle.std.specs.Prelude.{Bool, true, false, ◌==◌, is_some}
use Rattle.std.specs.Option.{ForSome}
use Rattle.std.specs.Ordering.{nat_cmp}
use Rattle.std.specs.Cmp.{nat_cmp_total}
use Rattle.std.specs.FinMap.{get-empty, nat_cmp-IsAntisymmetric}
use Rattle.std.specs.FinSet as set
use Rattle.std.proofs.lemmas.Bool.{false≢true}
use Rattle.std.proofs.lemmas.Bool.Decides.{nat_tests}
use Rattle.std.proofs.lemmas.List.{length-map}
use Rattle.frame_pool.specs.Policies.{PolicyView, standing}
use Rattle.trace_core.specs.KernelState.{Machine, opening_state}
use Rattle.trace_core.specs.KernelStanding.{KernelParts, KernelStands, sides_of}
use Rattle.page_tables.specs.SlotViews.{used_in, ready_in}
use Rattle.trace_core.specs.KernelSeen.{KernelNotes, IsSound, kernel_memory, opening_memory, enough_of, parent_of}
use Rattle.page_tables.proofs.view.ViewSides.{seen-used, seen-ready}
use Rattle.trace_core.proofs.memories.KernelMemories.{seen-parent}
use Rattle.page_tables.specs.TablesView.{views_of}

-- no page may be stored to where none is there
none-ready : (b : Bool) → (b ≡ true → true ≡ false) → b ≡ false
none-ready false never = refl
none-ready true never = absurd (false≢true (sym (never refl)))

-- the memory that a kernel begins with
pub opening-seen : (parts : KernelParts) (notes : KernelNotes) (machine : Machine) (last : ℕ) → IsSound parts notes machine (opening_state last) → notes.most ≡ 0
    → kernel_memory parts notes ≡ opening_memory machine.frames machine.slots notes.enough
opening-seen parts notes machine last sound none =
    let st : KernelStands parts machine (opening_state last) = sound.stands in
    let used : used_in (views_of parts.tables) ≡ set.empty =
    set.same_set nat_cmp_total nat_cmp-IsAntisymmetric _ _ (λ c. seen-used parts.tables (sides_of (opening_state last) st.pages) st.tables c ∙ sym (set.contains-empty nat_cmp c)) in
    let ready : ready_in parts.areas (views_of parts.tables) ≡ set.empty =
    set.same_set nat_cmp_total nat_cmp-IsAntisymmetric _ _ (λ page.
    none-ready (set.contains (ready_in parts.areas (views_of parts.tables)) page)
    (λ is. sym (seen-ready parts.tables (sides_of (opening_state last) st.pages) st.tables parts.areas page is).1 ∙ ap is_some (get-empty nat_cmp page)) ∙ sym (set.contains-empty nat_cmp page)) in
    let parent : parent_of parts ≡ (opening_state last).world.parent = seen-parent parts notes machine (opening_state last) sound in
    λ i. record {
      mem = parent i;
      refused = st.supply.refused i;
      room = st.supply.frames i;
      slots = st.slots i;
      used = used i;
      ready = ready i;
      most = none i;
      enough = notes.enough;
    }

zero-told : (n : ℕ) → (n == 0) ≡ true → n ≡ 0
zero-told n zero-is = (let t : eqb n 0 ≡ true = zero-is in grind (arith, nat_tests))

-- no policy stands where none was handed in
pub none-stand : {A B : Type 0} (f : A → PolicyView) (g : B → PolicyView) (items : List A) (policies : List B)
    → (length (map f items) == 0) ≡ (length (standing (map g policies)) == 0) → length policies ≡ 0 → length items ≡ 0
none-stand f g items [] same none = sym (length-map items f) ∙ zero-told (length (map f items)) same
none-stand f g items (policy ∷ policies) same none = omega (arith, none)

-- where it is told how many frames are enough, there is no policy
pub plain-when-told : (enough : Option ℕ) (frames policies items : ℕ) → enough ≡ enough_of frames policies → (policies ≡ 0 → items ≡ 0) → ForSome enough (λ enough. items ≡ 0)
plain-when-told enough frames policies items is none = λ value told. by (policies == 0) refl (sym is ∙ told)
  where
    by : {value : ℕ} (b : Bool) → (policies == 0) ≡ b → cond b (Some (frames / 2 + 1)) None ≡ Some value → items ≡ 0
    by true zero-is told = none (zero-told policies zero-is)
    by false other told = absurd (false≢true (ap is_some told))
