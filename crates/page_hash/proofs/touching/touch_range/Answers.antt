use Rattle.page_hash.proofs.Touched.{makes_present, lacks_page, keeps_cells}
use Rattle.page_hash.proofs.touching.touch_range.Goals as goal

pub returns-in-Ok-clause-touched : goal.returns-in-Ok-clause-touched
returns-in-Ok-clause-touched g c =
    makes_present _ _ _ _ c.touch.ensures.keeps.before c.requires.may c.requires.range c.in-Ok.ensures.touched

pub returns-in-Ok-clause-keeps : goal.returns-in-Ok-clause-keeps
returns-in-Ok-clause-keeps g c = keeps_cells _ _ _ _ c.requires.range c.touch.ensures.keeps

pub returns-in-Err-clause-keeps : goal.returns-in-Err-clause-keeps
returns-in-Err-clause-keeps g c = keeps_cells _ _ _ _ c.requires.range c.touch.ensures.keeps

pub returns-in-Err-clause-refused : goal.returns-in-Err-clause-refused
returns-in-Err-clause-refused g c =
    lacks_page _ _ _ _ _ _ c.touch.ensures.keeps.before c.requires.may c.requires.range c.in-Err.ensures.fault c.refused_by.ensures.at
