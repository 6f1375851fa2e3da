use Rattle.std.proofs.Common.{arith, inl, inr}
use Rattle.std.proofs.lemmas.Result.{err_from_is_err_and}
use Rattle.page_heap.proofs.Plans.{use_within}
use Rattle.store_uses.proofs.Heaps.{heap_touched}
use Rattle.store_uses.proofs.heap.give.Goals as goal

pub touch-requires-clause-within : goal.touch-requires-clause-within
touch-requires-clause-within g c =
    let used = c.requires.used in
    omega (arith, (use_within (g.M.Memory.state c.args.m.now).mem used.heap c.args.addr c.args.class used.is used.used).1.1)

pub free-requires-clause-used : goal.free-requires-clause-used
free-requires-clause-used g c = record {
  heap = c.requires.used.heap;
  is = heap_touched _ _ _ _ c.requires.used.heap c.in_ok-touch-2.ensures.touched
      (heap_touched _ _ _ _ c.requires.used.heap c.in_ok-touch.ensures.touched c.requires.used.is);
  used = c.requires.used.used;
}

pub free-requires-clause-block : goal.free-requires-clause-block
free-requires-clause-block g c page inside = c.in_ok-touch-2.ensures.touched.keeps page (c.in_ok-touch.ensures.touched.ready page inside)

pub returns-clause-given : goal.returns-clause-given
returns-clause-given g c heap is used =
    c.free.ensures.heap heap
    (heap_touched _ _ _ _ heap c.in_ok-touch-2.ensures.touched (heap_touched _ _ _ _ heap c.in_ok-touch.ensures.touched is)) used

pub returns-in_err-touch-clause-refused : goal.returns-in_err-touch-clause-refused
returns-in_err-touch-clause-refused g c =
    let exit = err_from_is_err_and c.from_residual.result c.from_residual.ensures.1 in
    rw (exit.1, exit.2) (inl c.in_err-touch.ensures.fault)

pub returns-in_err-touch-2-clause-refused : goal.returns-in_err-touch-2-clause-refused
returns-in_err-touch-2-clause-refused g c =
    let exit = err_from_is_err_and c.from_residual-in_err-touch-2.result c.from_residual-in_err-touch-2.ensures.1 in
    rw (exit.1, exit.2) (inr (g.M.Memory.state c.touch.new.self, (c.in_ok-touch.ensures.touched, c.in_err-touch-2.ensures.fault)))
