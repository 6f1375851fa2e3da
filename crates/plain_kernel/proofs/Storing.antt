-- Storing bytes piece by piece.
use Rattle.std.proofs.Common.{◌≡◌, ℕ, ◌+◌, ◌*◌, ◌<◌, ◌≤◌, true, List, ◌++◌, length, Option, Some, None, refl, sym, ◌∙◌, ap, arith, inl, inr}
use Rattle.std.specs.Prelude.{is_some}
use Rattle.std.specs.Option.{IfSome}
use Rattle.std.proofs.lemmas.Bool.{cases_eq, false≢true}
use Rattle.std.proofs.lemmas.List.{length-append}
use Rattle.vm_base.proofs.NumberedMaps.{get_inserted_here, get_inserted_apart}
use Rattle.vm_base.proofs.FlatPages.{with_bytes_in, with_bytes-append}
use Rattle.std.specs.FinMap.{get, insert}
use Rattle.vm_base.specs.Places.{page_of, offset_of}
use Rattle.vm_base.specs.FlatMemory.{PageMap, spliced}
use Rattle.vm_base.specs.FlatStep.{with_bytes}

-- each page from an address up to an end is present
abbrev pub ArePresent : PageMap → ℕ → ℕ → Type 0
ArePresent present at end = (page : ℕ) → page_of at ≤ page → page * 4096 < end → is_some (get present page) ≡ true

-- the bytes that are left go from an address to the end; storing them gives all
pub record Storing (present : PageMap) (at : ℕ) (rest : List ℕ) (end : ℕ) (all : PageMap) : Type 0 where
  pub ends : at + length rest ≡ end
  pub there : ArePresent present at end
  pub given : with_bytes present at rest ≡ all

stored_piece : (present next : PageMap) (at : ℕ) (rest front back : List ℕ) (end : ℕ) (all : PageMap) (found : Option (List ℕ)) → get present (page_of at) ≡ found
    → IfSome found (λ old. length old ≡ 4096) → IfSome found (λ old. next ≡ insert present (page_of at) (spliced old (offset_of at) front)) → is_some found ≡ true
    → offset_of at + length front ≤ 4096 → rest ≡ front ++ back → Storing present at rest end all → Storing next (at + length front) back end all
stored_piece present next at rest front back end all None is whole written there room parts storing = absurd (false≢true there)
stored_piece present next at rest front back end all (Some old) is whole written there room parts storing =
    let new : List ℕ = spliced old (offset_of at) front in
    record {
      ends = omega (arith, ap length parts, length-append front back, storing.ends);
      there = λ page above below. elim (cases_eq page (page_of at)) [
        | inl here ↦ ap (λ m. is_some (get m page)) written ∙ ap is_some (get_inserted_here present (page_of at) new page here)
        | inr apart ↦ ap (λ m. is_some (get m page)) written ∙ ap is_some (get_inserted_apart present (page_of at) new page apart)
            ∙ storing.there page (omega arith) below
      ];
      given = ap (λ m. with_bytes m (at + length front) back) (written ∙ sym (with_bytes_in present at front old is whole room))
          ∙ sym (with_bytes-append present at front back) ∙ ap (with_bytes present at) (sym parts) ∙ storing.given;
    }

-- a piece within one page is written there
pub storing_more : (present next : PageMap) (at : ℕ) (rest front back : List ℕ) (end : ℕ) (all : PageMap)
    → IfSome (get present (page_of at)) (λ old. length old ≡ 4096) → IfSome (get present (page_of at)) (λ old. next ≡ insert present (page_of at) (spliced old (offset_of at) front))
    → 0 < length front → offset_of at + length front ≤ 4096 → rest ≡ front ++ back → Storing present at rest end all → Storing next (at + length front) back end all
storing_more present next at rest front back end all whole written some room parts storing =
    let above : page_of at ≤ page_of at = omega arith in
    let below : page_of at * 4096 < end = omega (arith, ap length parts, length-append front back, storing.ends) in
    stored_piece present next at rest front back end all (get present (page_of at)) refl whole written (storing.there (page_of at) above below) room parts storing
