-- The part of an act in which one leaf is copied.
use Rattle.std.proofs.Common.{◌≡◌, ℕ, ◌+◌, List, [], ◌∷◌, ◌++◌, refl, sym, ◌∙◌, ap, subst, arith, append_assoc}
use Rattle.std.specs.Prelude.{◌-◌, replicate, None}
use Rattle.vm_base.specs.Deals.{Deal, Granted, Denied, Returned, LeadsAlong}
use Rattle.vm_base.specs.declared.frame_request.Want.TheVariants as want
use Rattle.kernel_meaning.specs.Requests.{Answer, Yes, No, answers_of}
use Rattle.kernel_meaning.specs.Leaves.{CellLeaves, Own, Lost, share}
use Rattle.kernel_meaning.specs.CellActs.{leaf_copied, leaf_copy_answered, with_leaf_where, is_number}
use Rattle.kernel_meaning.specs.CellAccount.{CellAccount}
use Rattle.leaf_cell.specs.CellView.{CellView}
use Rattle.leaf_cell.specs.Courses.{requests_between, course_between}
use Rattle.leaf_cell.specs.Standing.{StandsFor, TakesPart, MadePart}
use Rattle.leaf_cell.proofs.TouchActs.{stands-made}
use Rattle.leaf_cell.proofs.TouchRuns.{answers-returned}
use Rattle.share_cell.specs.Parts.{TakesWithin, MadeWithin}

-- the account with one request more
abbrev asked_once : CellAccount → CellAccount
asked_once account = record account { made = account.made + 1 }

module _ {State : Type 0} (goes : State → Deal → State → Type 0) (from : State) (n : ℕ) (old new : CellView) where
  -- the frame was granted
  pub made-owned : (to : State) → goes from (Granted want.Leaf) to
      → ((account : CellAccount) → StandsFor old account → TakesPart (leaf_copy_answered n Yes) old new [] account)
      → MadeWithin goes from to (leaf_copied n) old new
  made-owned to granted owned = record {
    deals = Granted want.Leaf ∷ [];
    led = (to, (granted, refl));
    follows = λ account stands. record {
      leaves = with_leaf_where (is_number n) Own account.state.leaves;
      made = account.made + 1;
      stands = (owned (asked_once account) (stands-made old account (account.made + 1) stands (omega arith))).stands;
      runs = record { runs = λ before rest. refl };
    };
  }

  -- it was refused, and the snapshot has lost the cell
  pub made-refused : (middle to : State) (at : ℕ) → goes from (Denied want.Leaf at) middle
      → MadePart goes middle to (leaf_copy_answered n (No at)) old new
      → MadeWithin goes from to (leaf_copied n) old new
  made-refused middle to at denied lost = record {
    deals = Denied want.Leaf at ∷ lost.deals;
    led = (middle, (denied, lost.led));
    follows = λ account stands. takes account stands;
  }
    where
      takes : (account : CellAccount) → StandsFor old account
          → TakesWithin (leaf_copied n) old new (Denied want.Leaf at ∷ lost.deals) account
      takes account stands =
          let part : TakesPart (leaf_copy_answered n (No at)) old new lost.deals (asked_once account) =
          lost.follows (asked_once account) (stands-made old account (account.made + 1) stands (omega arith)) in
          let leaves : CellLeaves = with_leaf_where (is_number n) (Lost at) account.state.leaves in
          let k : ℕ = share account.state.leaves - share leaves in
          let none : answers_of lost.deals ≡ [] = ap answers_of (sym part.asked) ∙ answers-returned k in
          record {
            leaves = leaves;
            made = account.made + 1;
            stands = part.stands;
            runs = record {
              runs = λ before rest.
                  let dealt : (before ++ Denied want.Leaf at ∷ []) ++ replicate k Returned ≡ before ++ Denied want.Leaf at ∷ lost.deals =
                  append_assoc before (Denied want.Leaf at ∷ []) (replicate k Returned)
                  ∙ ap (λ ds. before ++ Denied want.Leaf at ∷ ds) part.asked in
                  λ i. record { cell = leaves; requests = requests_between (account.made + 1) (none i ++ rest) (dealt i); refused = None };
            };
          }
