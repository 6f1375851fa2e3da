use Rattle.std.proofs.Common.{◌≡◌, ℕ, ◌+◌, [], ◌∷◌, refl, sym, ◌∙◌, ap, subst, arith}
use Rattle.store_meaning.specs.Layout.{heap_at}
use Rattle.store_meaning.specs.HeapLayout.{Heap, opening_heap, committed, freed, next_at}
use Rattle.page_heap.specs.HeapCalls.{HasInUse}
use Rattle.store_uses.proofs.heap.again.Goals as goal

-- the heaps behind each step
abbrev one_block : Heap
one_block = committed opening_heap 5

abbrev two_blocks : Heap
two_blocks = committed one_block 6

first_used : (at : ℕ) → at ≡ heap_at → HasInUse two_blocks at 5
first_used at here = subst (λ a. HasInUse two_blocks a 5) (sym here) (1, omega arith, refl)

pub take-requires-2-clause-heap : goal.take-requires-2-clause-heap
take-requires-2-clause-heap g c = record {
  room = omega (arith, c.in_ok-first.ensures.room, c.in_ok-init.ensures.begun.may.room);
  heap = one_block;
  is = (c.in_ok-first.ensures.taken opening_heap c.in_ok-init.ensures.begun.heap).1;
}

pub give-requires : goal.give-requires
give-requires g c =
    let one = c.in_ok-first.ensures.taken opening_heap c.in_ok-init.ensures.begun.heap in
    record {
      used = record {
        heap = two_blocks;
        is = (c.in_ok-second.ensures.taken one_block one.1).1;
        used = first_used c.in_ok-first.first one.0;
      };
    }

pub take-requires-3-clause-heap : goal.take-requires-3-clause-heap
take-requires-3-clause-heap g c =
    let one = c.in_ok-first.ensures.taken opening_heap c.in_ok-init.ensures.begun.heap in
    let two = c.in_ok-second.ensures.taken one_block one.1 in
    record {
      room = omega
          (arith, c.in_ok-give.ensures.room, c.in_ok-second.ensures.room, c.in_ok-first.ensures.room, c.in_ok-init.ensures.begun.may.room);
      heap = freed two_blocks c.in_ok-first.first 5;
      is = c.in_ok-give.ensures.given two_blocks two.1 (first_used c.in_ok-first.first one.0);
    }

pub returns : goal.returns
returns g c =
    let one = c.in_ok-first.ensures.taken opening_heap c.in_ok-init.ensures.begun.heap in
    let two = c.in_ok-second.ensures.taken one_block one.1 in
    let three = c.in_ok-give.ensures.given two_blocks two.1 (first_used c.in_ok-first.first one.0) in
    let four = c.in_ok-third.ensures.taken (freed two_blocks c.in_ok-first.first 5) three in
    ap (λ a. a ∷ c.in_ok-second.second ∷ c.in_ok-third.third ∷ []) one.0
    ∙ ap (λ b. heap_at ∷ b ∷ c.in_ok-third.third ∷ []) two.0
    ∙ ap (λ d. heap_at ∷ (heap_at + 32) ∷ d ∷ []) (four.0 ∙ ap (λ a. next_at (freed two_blocks a 5) 5) one.0)
