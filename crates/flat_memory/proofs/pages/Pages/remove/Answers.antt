-- The entries beyond the pages are left.
use Rattle.std.proofs.Common.{sym, ◌∙◌, ap, subst, arith}
use Rattle.std.specs.FinMap.{retain_keys}
use Rattle.vm_base.specs.FlatStep.{is_beyond}
use Rattle.flat_memory.specs.Entries.{AreSorted}
use Rattle.flat_memory.proofs.PageLemmas.{map_of, sorted-where, map-where, same_table}
use Rattle.flat_memory.proofs.pages.Pages.remove.Goals as goal

pub invariant_of-self : goal.invariant_of-self
invariant_of-self c = (
  subst AreSorted (sym c.take_out.ensures.entries)
      (sorted-where c.self.inside.entries.items c.self.invariant.0 (is_beyond c.args.first c.args.pages)),
  omega (arith, c.take_out.ensures.all, c.take_out.ensures.room, c.self.invariant.1),
  omega (arith, c.take_out.ensures.all, c.take_out.ensures.spare_room, c.self.invariant.2),
)

pub returns : goal.returns
returns c =
    same_table _ _ (ap map_of c.take_out.ensures.entries ∙ map-where c.self.inside.entries.items c.self.invariant.0
    (is_beyond c.args.first c.args.pages)
    ∙ ap (λ t. retain_keys t.present (is_beyond c.args.first c.args.pages)) c.self.view_is)
    (c.take_out.ensures.all ∙ ap (λ t. t.room) c.self.view_is)
