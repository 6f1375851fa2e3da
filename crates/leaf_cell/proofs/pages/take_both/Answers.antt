use Rattle.std.proofs.Common.{refl, inl, inr, [], ◌∷◌}
use Rattle.vm_base.specs.declared.frame_request.Want.TheVariants as want
use Rattle.vm_base.specs.Deals.{Granted, Denied, Returned}
use Rattle.leaf_cell.proofs.pages.take_both.Goals as goal

pub returns-in-Err-take-clause-led : goal.returns-in-Err-take-clause-led
returns-in-Err-take-clause-led g c = record {
  deals = Granted want.Leaf ∷ Denied want.Page c.in-Err-take.refused.at ∷ Returned ∷ [];
  led = (g.A.Allot.state c.take.new.self, (c.in-Ok.ensures.granted, (g.A.Allot.state c.take-in-Ok.new.self, (c.in-Err-take.ensures.denied, (g.A.Allot.state c.give.new.self, (c.give.ensures.returned, refl))))));
  two = inr refl;
}

pub returns-in-Err-clause-led : goal.returns-in-Err-clause-led
returns-in-Err-clause-led g c = record {
  deals = Denied want.Leaf c.in-Err.refused.at ∷ [];
  led = (g.A.Allot.state c.take.new.self, (c.in-Err.ensures.denied, refl));
  two = inl refl;
}
