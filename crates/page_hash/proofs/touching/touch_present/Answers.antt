use Rattle.page_hash.proofs.Touched.{ready_by}
use Rattle.page_hash.proofs.touching.touch_present.Goals as goal

pub returns-clause-ready : goal.returns-clause-ready
returns-clause-ready g c = ready_by _ _ _ _ c.touch_range-touched.result (λ refused. refused.at)
    c.touch_range-touched.ensures.keeps.before
    c.requires.present.0 c.requires.present.1 c.touch_range-touched.ensures.touched c.touch_range-touched.ensures.refused
