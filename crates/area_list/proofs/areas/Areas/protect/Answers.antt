-- Each page lies in an area, so the pieces with the area are those that the definition joins.
use Rattle.std.proofs.Common.{◌≡◌, ◌+◌, ◌-◌, sym, ◌∙◌, ap, subst, arith, None}
use Rattle.vm_base.specs.FlatStep.{outside}
use Rattle.area_list.specs.Answers.{ChangesAreas}
use Rattle.area_list.proofs.Made.{made_protected}
use Rattle.area_list.proofs.areas.Areas.protect.Goals as goal

pub returns-clause-answer : goal.returns-clause-answer
returns-clause-answer c =
    let old = c.args.self.now in
    let count : c.args.first + c.args.pages - c.args.first ≡ c.args.pages = omega arith in
    let held : outside old c.args.first c.args.pages ≡ None =
    sym (ap (outside old c.args.first) count) ∙ ap (λ l. outside l c.args.first (c.args.first + c.args.pages - c.args.first)) (sym c.list.ensures.areas) ∙ sym c.in_default.ensures in
    subst (ChangesAreas old c.replace.new.self c.replace.result)
    (made_protected old c.args.first c.args.pages c.args.perm c.replace.ensures.form.in_order held) c.replace.ensures.answer
