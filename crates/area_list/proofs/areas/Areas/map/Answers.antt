-- No page is taken, so the pieces with the area are those that the definition joins.
use Rattle.std.proofs.Common.{◌≡◌, ◌+◌, ◌-◌, sym, ◌∙◌, ap, subst, arith, None}
use Rattle.vm_base.specs.FlatStep.{taken}
use Rattle.area_list.specs.Answers.{ChangesAreas}
use Rattle.area_list.proofs.Made.{made_mapped}
use Rattle.area_list.proofs.areas.Areas.map.Goals as goal

pub returns-clause-answer : goal.returns-clause-answer
returns-clause-answer c =
    let old = c.args.self.now in
    let count : c.args.first + c.args.pages - c.args.first ≡ c.args.pages = omega arith in
    let free : taken old c.args.first c.args.pages ≡ None =
    sym (ap (taken old c.args.first) count) ∙ ap (λ l. taken l c.args.first (c.args.first + c.args.pages - c.args.first)) (sym c.list.ensures.areas) ∙ sym c.in_default.ensures in
    subst (ChangesAreas old c.replace.new.self c.replace.result)
    (made_mapped old c.args.first c.args.pages c.args.perm c.requires.some c.replace.ensures.form.in_order free) c.replace.ensures.answer
