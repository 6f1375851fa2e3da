-- Tables as they are made stand for no page and no snapshot.
use Rattle.std.proofs.Common.{◌≡◌, ◌≢◌, ℕ, ◌+◌, ◌*◌, ◌≤◌, Option, Some, None, refl, sym, ◌∙◌, ap, subst, arith}
use Rattle.std.specs.Prelude.{false, cond, is_some, replicate, count_by, unwrap_or, zero, suc}
use Rattle.std.specs.Ordering.{nat_cmp}
use Rattle.std.specs.Option.{option_and_then}
use Rattle.std.specs.List.{slice_get}
use Rattle.std.specs.FinMap.{get, empty, get-empty}
use Rattle.std.proofs.lemmas.Bool.{false≢true}
use Rattle.std.proofs.lemmas.List.{length-replicate}
use Rattle.std.proofs.lemmas.List.Folds.{sum_by-replicate}
use Rattle.kernel_meaning.specs.Leaves.{has_pages}
use Rattle.kernel_meaning.specs.CellAccount.{empty_state}
use Rattle.leaf_cell.specs.CellView.{held_of}
use Rattle.leaf_cell.specs.Standing.{StandsFor}
use Rattle.leaf_cell.proofs.NewCell.{stands_new}
use Rattle.page_tables.specs.declared.slot.Slot.{Slot}
use Rattle.page_tables.specs.Sides.{opening_sides}
use Rattle.page_tables.specs.Standing.{owner_at, state_in, free_slot, StandFor}
use Rattle.page_tables.specs.Held.{frames_in}

from-free : (n s : ℕ) (slot : Slot) → slice_get (replicate n free_slot) s ≡ Some slot → slot ≡ free_slot
from-free zero s slot e = absurd (false≢true (ap is_some e))
from-free (suc n) zero slot e = sym (ap (λ o. unwrap_or o free_slot) e)
from-free (suc n) (suc s) slot e = from-free n s slot e

no-owner : (n s c : ℕ) → owner_at (replicate n free_slot) s ≢ Some c
no-owner zero s c e = false≢true (ap is_some e)
no-owner (suc n) zero c e = false≢true (ap is_some e)
no-owner (suc n) (suc s) c e = no-owner n s c e

no-pages : (n : ℕ) → has_pages (replicate n None) ≡ false
no-pages zero = refl
no-pages (suc n) = no-pages n

none-owned : (n : ℕ) → count_by (λ slot. is_some slot.owner) (replicate n free_slot) ≡ 0
none-owned n = sum_by-replicate (λ slot. cond (is_some slot.owner) 1 0) n free_slot ∙ omega arith

module _ (n : ℕ) (few : n ≤ 512) where
  pub opening-stands : StandFor empty None (replicate n free_slot) opening_sides
  opening-stands = record {
    cells = λ c. empty_state;
    kept = record { sorted = tt; in_use = tt; sizes = λ c. length-replicate {A = Option ℕ} 512 None; unjoined = λ c. tt };
    each = record {
      leaves = λ c. refl;
      pages = λ c p small. get-empty nat_cmp p ∙ sym (get-empty nat_cmp (c * 512 + p));
      snapshots = λ m c p small. ap (option_and_then (λ pages. get pages p)) (get-empty nat_cmp m) ∙ sym (ap (option_and_then (λ pages. get pages (c * 512 + p))) (get-empty nat_cmp m));
    };
    slots_of = record {
      stands = λ s slot e. subst (λ it. StandsFor it.cell (record { state = state_in (λ c. empty_state) it.owner; made = 0 })) (sym (from-free n s slot e)) stands_new;
      once = λ s t c e. absurd (no-owner n s c e);
      used = λ s c e. absurd (no-owner n s c e);
      owned = λ c there. absurd (false≢true there);
      counted = none-owned n;
    };
    blank = λ c none. refl;
    few = subst (λ m. m ≤ 512) (sym (length-replicate n free_slot)) few;
    parent = λ c. ap is_some (get-empty nat_cmp c) ∙ sym (no-pages 512);
    named = λ c s e. absurd (false≢true (ap is_some (sym (get-empty nat_cmp c) ∙ e)));
    snapshot_of = record {
      numbers = λ c. refl;
      named = λ c s e. absurd (false≢true (ap is_some e));
      live = λ m. ap is_some (get-empty nat_cmp m);
      absent = λ m c p small none. ap (option_and_then (λ pages. get pages (c * 512 + p))) (get-empty nat_cmp m);
    };
  }

  pub opening-held : frames_in (replicate n free_slot) ≡ 0
  opening-held = sum_by-replicate (λ slot. held_of slot.cell) n free_slot ∙ (let none : n * 0 ≡ 0 = omega arith in none)
