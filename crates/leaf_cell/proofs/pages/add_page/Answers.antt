use Rattle.std.proofs.Common.{refl, [], ◌∷◌, subst, sym}
use Rattle.std.specs.Prelude.{Ok, Err, is_some}
use Rattle.vm_base.specs.declared.frame_request.Want.TheVariants as want
use Rattle.vm_base.specs.Deals.{Granted, Denied}
use Rattle.leaf_cell.specs.Adding.{AddingDeals}
use Rattle.leaf_cell.proofs.pages.add_page.Goals as goal

pub returns-in-Ok-clause-led : goal.returns-in-Ok-clause-led
returns-in-Ok-clause-led g c = record {
  deals = Granted want.Page ∷ [];
  led = (g.A.Allot.state c.take.new.self, (c.in-Ok.ensures.granted, refl));
  adding = subst (λ parent. AddingDeals (is_some parent) (Ok tt) (Granted want.Page ∷ [])) (sym c.in-Some.is) refl;
}

pub returns-in-Err-clause-led : goal.returns-in-Err-clause-led
returns-in-Err-clause-led g c = record {
  deals = Denied want.Page c.in-Err.refused.at ∷ [];
  led = (g.A.Allot.state c.take.new.self, (c.in-Err.ensures.denied, refl));
  adding = subst (λ parent. AddingDeals (is_some parent) (Err c.in-Err.refused) (Denied want.Page c.in-Err.refused.at ∷ [])) (sym c.in-Some.is) refl;
}
