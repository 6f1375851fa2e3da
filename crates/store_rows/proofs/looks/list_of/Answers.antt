use Rattle.std.proofs.Common.{◌∙◌, sym, ap}
use Rattle.store_rows.proofs.WantedMemory.{lists-standing}
use Rattle.store_rows.proofs.looks.list_of.Goals as goal

-- the memory that is read is the one that was handed in, and its state is as it was
pub returns : goal.returns
returns g c = record {
  list = c.pairs.ensures.pairs;
  fault = lists-standing _ c.requires.stands _ _ c.pairs.ensures.lost;
  same = sym (sym (ap (λ it. it.0.1) c.pairs.ensures.aside)
      ∙ ap g.M.Memory.state (sym (c.m-1.given.1 (sym (ap (λ it. it.1) c.pairs.ensures.aside)))));
}
