-- The pieces joined are areas in order, at most 128 and within bounds, with the permissions that are wanted.
use Rattle.std.proofs.Common.{◌≡◌, ℕ, ◌+◌, ◌^◌, ◌<◌, ◌≤◌, List, Option, Result, Ok, Err, ap, sym, ◌∙◌, subst}
use Rattle.std.specs.Prelude.{OnOk}
use Rattle.std.specs.Option.{option_map}
use Rattle.vm_base.specs.FlatMemory.{Area, AreInOrder}
use Rattle.vm_base.specs.FlatStep.{joined}
use Rattle.area_list.specs.AreaList.{AreWithin, IsAreaList, Sets}
use Rattle.area_list.specs.Pieces.{pieces, IsOver, Rejoins}
use Rattle.area_list.specs.declared.fault.AreaFault.{AreaFault}
use Rattle.area_list.proofs.Order.{IsFrom-in_order, joined_in_order}
use Rattle.area_list.proofs.Parts.{pieces_from}
use Rattle.area_list.proofs.Permissions.{pieces_set}
use Rattle.area_list.proofs.Within.{pieces_end}
use Rattle.area_list.proofs.areas.Areas.replace.Goals as goal

module _ (first n : ℕ) (area : Option Area) (old new : List Area) (over : IsOver first n area) where
  -- a list that was changed in place is one of areas, and so is one that stays
  rejoined-form : (result : Result (Unit {0}) AreaFault) → 0 < n → first + n ≤ 2 ^ 36 → IsAreaList old
      → Rejoins old new result (pieces first (first + n) area old) → IsAreaList new
  rejoined-form (Ok done) some within form rejoins = record {
    in_order = subst AreInOrder (sym rejoins.0) (joined_in_order 0 (pieces first (first + n) area old)
        (pieces_from first n area old some over (IsFrom-in_order old form.in_order)));
    few = rejoins.1;
    within = subst AreWithin (sym rejoins.0) (pieces_end (2 ^ 36) first n area old over within form.within);
  }
  rejoined-form (Err fault) some within form rejoins = subst IsAreaList (sym rejoins.1.1) form

  -- with the permissions that are wanted
  rejoined-pages : (result : Result (Unit {0}) AreaFault) → Rejoins old new result (pieces first (first + n) area old)
      → OnOk result (Sets old new first n (option_map (λ area. area.perm) area))
  rejoined-pages (Ok done) rejoins = pieces_set first n area old new over rejoins.0
  rejoined-pages (Err fault) rejoins = tt

pub invariant_of-self : goal.invariant_of-self
invariant_of-self c =
    rejoined-form c.args.first c.args.pages c.args.area c.self.inside.list.items c.replace_few.new.list.items c.requires.over
    c.replace_few.result c.requires.some c.requires.within c.self.invariant c.replace_few.ensures

pub returns-then-list-le-FEW_AREAS-clause-pages : goal.returns-then-list-le-FEW_AREAS-clause-pages
returns-then-list-le-FEW_AREAS-clause-pages c =
    subst (λ old. OnOk c.replace_few.result (Sets old c.replace_few.new.list.items c.args.first c.args.pages
    (option_map (λ area. area.perm) c.args.area))) c.self.view_is
    (rejoined-pages c.args.first c.args.pages c.args.area c.self.inside.list.items c.replace_few.new.list.items c.requires.over
    c.replace_few.result c.replace_few.ensures)

pub invariant_of-self-2 : goal.invariant_of-self-2
invariant_of-self-2 c =
    let old = c.args.self.now in
    let parts = pieces c.args.first (c.args.first + c.args.pages) c.args.area old in
    let made : c.in_ok-self-inside.field-0.items ≡ joined parts =
    c.in_ok-self-inside.ensures.0 ∙ ap (λ l. joined (pieces c.args.first (c.args.first + c.args.pages) c.args.area l))
    c.list-2.ensures.areas in
    record {
      in_order = subst AreInOrder (sym made)
          (joined_in_order 0 parts (pieces_from c.args.first c.args.pages c.args.area old c.requires.some c.requires.over
          (IsFrom-in_order old c.list-2.ensures.form.in_order)));
      few = c.in_ok-self-inside.ensures.1;
      within = subst AreWithin (sym made) (pieces_end (2 ^ 36) c.args.first c.args.pages c.args.area old c.requires.over c.requires.within
          c.list-2.ensures.form.within);
    }

pub returns-clause-pages : goal.returns-clause-pages
returns-clause-pages c =
    pieces_set c.args.first c.args.pages c.args.area c.args.self.now c.in_ok-self-inside.field-0.items c.requires.over
    (c.in_ok-self-inside.ensures.0 ∙ ap (λ l. joined (pieces c.args.first (c.args.first + c.args.pages) c.args.area l))
    c.list-2.ensures.areas)
