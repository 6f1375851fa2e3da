-- Each frame stays at one place, in the pool or out of it.
use Rattle.std.proofs.Common.{arith, ◌≡◌, ◌<◌, ℕ, ◌+◌, List, [], ◌∷◌, ◌++◌, length, sym, ◌∙◌, ap, subst}
use Rattle.std.specs.List.{range_with_len}
use Rattle.std.specs.List.Sorted.{IsPermutation}
use Rattle.std.proofs.lemmas.List.{append-nil, append_assoc, length-append}
use Rattle.std.proofs.lemmas.List.FromFn.{length-range_with_len}
use Rattle.std.proofs.lemmas.List.Sorted.{IsPermutation-refl, IsPermutation-sym, IsPermutation-trans, IsPermutation-middle, IsPermutation-append_right, length_permutation}
use Rattle.vm_base.specs.declared.frame_request.Asker.{Asker}
use Rattle.vm_base.specs.declared.frame_request.Want.{Want}
use Rattle.vm_base.specs.Frames.{FrameView}
use Rattle.frame_pool.specs.Policies.{PolicyView}
use Rattle.frame_pool.specs.Frames.{PoolView, TakesOut, KeepsFrames, AreAtOnePlace}

-- at opening each is in the pool
pub at_one_place-opening : (made asks : ℕ) (policies : List PolicyView)
    → AreAtOnePlace (record { made = made; free = range_with_len 0 made; asks = asks; policies = policies }) []
at_one_place-opening made asks policies =
    subst (λ all. IsPermutation all (range_with_len 0 made)) (sym (append-nil (range_with_len 0 made))) (IsPermutation-refl (range_with_len 0 made))

-- one that is taken is out
pub at_one_place-taken : (asker : Asker) (want : Want) (frame : FrameView) (old new : PoolView) (out : List ℕ)
    → TakesOut asker want frame old new → AreAtOnePlace old out → AreAtOnePlace new (frame.number ∷ out)
at_one_place-taken asker want frame old new out taken apart =
    let moved = ap (λ free. free ++ out) taken.free ∙ append_assoc new.free (frame.number ∷ []) out in
    subst (λ made. IsPermutation (new.free ++ frame.number ∷ out) (range_with_len 0 made)) (sym taken.made)
    (subst (λ all. IsPermutation all (range_with_len 0 old.made)) moved apart)

-- where no frame moved, none has another place
pub at_one_place-kept : (old new : PoolView) (out : List ℕ) → KeepsFrames old new → AreAtOnePlace old out → AreAtOnePlace new out
at_one_place-kept old new out keeps apart =
    subst (λ free. IsPermutation (free ++ out) (range_with_len 0 new.made)) (sym keeps.free)
    (subst (λ made. IsPermutation (old.free ++ out) (range_with_len 0 made)) (sym keeps.made) apart)

-- one that is out and given back is in the pool
pub at_one_place-given : (number : ℕ) (pool : PoolView) (before behind : List ℕ)
    → AreAtOnePlace pool (before ++ number ∷ behind) → AreAtOnePlace (record pool { free = pool.free ++ number ∷ [] }) (before ++ behind)
at_one_place-given number pool before behind apart =
    let first = IsPermutation-sym (before ++ number ∷ behind) (number ∷ (before ++ behind)) (IsPermutation-middle before number behind) in
    let all = IsPermutation-append_right pool.free (number ∷ (before ++ behind)) (before ++ number ∷ behind) first in
    subst (λ all. IsPermutation all (range_with_len 0 pool.made)) (sym (append_assoc pool.free (number ∷ []) (before ++ behind)))
    (IsPermutation-trans (pool.free ++ number ∷ (before ++ behind)) (pool.free ++ (before ++ number ∷ behind)) (range_with_len 0 pool.made) all apart)

-- the frames in the pool are those made less those that are out
pub free_and_out : (pool : PoolView) (out : List ℕ) → AreAtOnePlace pool out → length pool.free + length out ≡ pool.made
free_and_out pool out apart =
    sym (length-append pool.free out)
    ∙ sym (length_permutation (pool.free ++ out) (range_with_len 0 pool.made) apart)
    ∙ length-range_with_len 0 pool.made

-- where a frame is out, the pool has room for it
pub room-out : (number : ℕ) (pool : PoolView) (before behind : List ℕ) → AreAtOnePlace pool (before ++ number ∷ behind) → length pool.free < pool.made
room-out number pool before behind apart =
    omega (arith, free_and_out pool (before ++ number ∷ behind) apart, length-append before (number ∷ behind))
