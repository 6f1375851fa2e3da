-- The area that is found, with what is known of it.
use Rattle.std.proofs.Common.{◌∙◌, ap}
use Rattle.vm_base.specs.FlatMemory.{area_of}
use Rattle.area_list.proofs.Found.{area_found}
use Rattle.area_list.proofs.areas.Areas.find.Goals as goal

pub returns-clause-found : goal.returns-clause-found
returns-clause-found c =
    area_found c.args.self.now c.args.page c.area_at.result c.list.ensures.form
    (c.area_at.ensures ∙ ap (λ areas. area_of areas c.args.page) c.list.ensures.areas)
