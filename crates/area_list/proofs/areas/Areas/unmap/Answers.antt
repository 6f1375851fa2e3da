-- The pieces with nothing between them are the areas without the pages.
use Rattle.std.proofs.Common.{subst}
use Rattle.area_list.specs.Answers.{ChangesAreas}
use Rattle.area_list.proofs.Made.{made_unmapped}
use Rattle.area_list.proofs.areas.Areas.unmap.Goals as goal

pub returns-clause-answer : goal.returns-clause-answer
returns-clause-answer c =
    subst (ChangesAreas c.args.self.now c.replace.new.self c.replace.result)
    (made_unmapped c.args.self.now c.args.first c.args.pages c.requires.some c.replace.ensures.form.in_order) c.replace.ensures.answer
