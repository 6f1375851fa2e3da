-- What the stores of a pair leave.
use Rattle.std.proofs.Common.{◌≡◌, ℕ, ◌+◌, List, [], ◌++◌, length, take, refl, sym, ◌∙◌, ap, arith, length-append, inl}
use Rattle.std.proofs.Math.Seq.{take-append_seam}
use Rattle.vm_base.specs.MemoryState.{MemoryState, IsMemory, IsKept}
use Rattle.vm_base.specs.MemoryCalls.{after_store}
use Rattle.vm_base.proofs.FlatPages.{with_bytes-append}
use Rattle.page_hash.specs.PairStores.{head_bytes}

-- of two stores the one behind the other, both are one
pub stores_join : (state : MemoryState) (address : ℕ) (front back : List ℕ)
    → after_store (after_store state address front) (address + length front) back ≡ after_store state address (front ++ back)
stores_join state address front back =
    ap (λ p. record state { mem = record state.mem { present = p } }) (sym (with_bytes-append state.mem.present address front back))

pub head_size : (next key_length value_length : ℕ) → length (head_bytes next key_length value_length) ≡ 16
unfolding head_bytes
head_size next key_length value_length = refl

-- nothing was called
pub kept_same : (state : MemoryState) → IsMemory state → IsKept state state []
kept_same state sound = record {
  before = sound;
  after = sound;
  room = refl;
  slots = refl;
  used = λ cell there. inl there;
  enough = refl;
  counted = omega arith;
  grown = omega arith;
}

-- the front of a buffer that was filled
pub front_taken : (head key buffer rest : List ℕ) → length head ≡ 16 → buffer ≡ (head ++ key) ++ rest
    → take (16 + length key) buffer ≡ head ++ key
front_taken head key buffer rest size filled =
    let count : 16 + length key ≡ length (head ++ key) = omega (arith, size, length-append head key) in
    ap (take (16 + length key)) filled ∙ ap (λ n. take n ((head ++ key) ++ rest)) count ∙ take-append_seam (head ++ key) rest
