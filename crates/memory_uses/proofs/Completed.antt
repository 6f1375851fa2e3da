-- No request is refused where the most frames are too few for that.
use Rattle.std.proofs.Common.{◌≡◌, ℕ, ◌+◌, ◌-◌, ◌^◌, min, ◌<◌, ◌≤◌, Some, Ok, Err, Result, IfErr, subst, arith, inl, inr}
use Rattle.std.specs.Prelude.{IfSome, Option}
use Rattle.vm_base.specs.declared.faults.CopyFault.{CopyFault}
use Rattle.vm_base.specs.declared.faults.CopyFault.TheVariants.{Refused, Lost}
use Rattle.vm_base.specs.SnapshotState.{SnapshotState}
use Rattle.memory_uses.specs.Copied.{NotCopied, IsCopyLost}
use Rattle.std.proofs.lemmas.Bool.{cases_lt}
use Rattle.vm_base.specs.MemoryState.{MemoryState, IsMemory}

pub none_refused : (state : MemoryState) (enough : ℕ) → IsMemory state → state.enough ≡ Some enough → state.most < enough → state.refused ≡ 0
none_refused state enough is told less = elim (cases_lt 0 state.refused) [
  | inl some ↦
      let reached : enough ≤ state.most = subst (λ o. IfSome o (λ e. e ≤ state.most)) told (is.reached some) in
      absurd (omega arith)
  | inr none ↦ omega arith
]

-- nor a copy
pub no_copy_refused : (refused most enough : ℕ) (told : Option ℕ) → (0 < refused → IfSome told (λ e. e ≤ most)) → told ≡ Some enough → most < enough → refused ≡ 0
no_copy_refused refused most enough told reached is less = elim (cases_lt 0 refused) [
  | inl some ↦
      let above : enough ≤ most = subst (λ o. IfSome o (λ e. e ≤ most)) is (reached some) in
      absurd (omega arith)
  | inr none ↦ omega arith
]

pub lost_alone : (result : Result ℕ CopyFault) (old new : SnapshotState) (born refused : ℕ) → new.refused ≡ 0
    → IfErr result (λ fault. NotCopied old new born refused fault) → IfErr result IsCopyLost
lost_alone (Ok copies) old new born refused none fails = tt
lost_alone (Err (Refused at)) old new born refused none fails =
    let rose : new.refused ≡ min (old.refused + 1) (2 ^ 64 - 1) = fails.0.0.2 in
    absurd (omega (arith, rose, none))
lost_alone (Err (Lost at)) old new born refused none fails = tt
