-- With a middle table on the way the slot is named in it, else the fresh tables are linked.
use Rattle.std.proofs.Common.{◌≡◌, ◌/◌, ◌^◌, ◌<◌, Some, refl, sym, ◌∙◌, ap, subst, arith}
use Rattle.std.specs.Prelude.{IsSome}
use Rattle.table_levels.specs.Walks.{levels_of, middle_of, middle_at, NamesUppers}
use Rattle.table_levels.proofs.Linked.{slot_linked, unwanted_upper}
use Rattle.table_levels.proofs.Sharing.{upper_of_middle}
use Rattle.table_levels.proofs.linking.link.Goals as goal

pub place_of-requires-clause-there : goal.place_of-requires-clause-there
place_of-requires-clause-there c =
    subst (λ l. NamesUppers c.args.top.now l) (sym c.deref.ensures.value) c.requires.directory.upper_there

pub link_middle-requires-clause-place : goal.link_middle-requires-clause-place
link_middle-requires-clause-place c =
    let there : middle_of (levels_of c.args.top.now c.args.uppers.now.items c.args.middles.now.items) (c.args.cell / 512) ≡ Some c.in-Some.middle =
    ap (λ l. middle_at c.args.top.now l (c.args.cell / 512)) (sym c.deref.ensures.value) ∙ sym c.place_of.ensures ∙ c.in-Some.is in
    let below : c.args.cell / 512 < 2 ^ 18 = omega (arith, c.requires.cell) in
    omega (arith, (c.requires.directory.middle_there (c.args.cell / 512) c.in-Some.middle below there).0, c.requires.directory.middles)

pub returns-in-Some : goal.returns-in-Some
returns-in-Some c =
    let there : middle_of (levels_of c.args.top.now c.args.uppers.now.items c.args.middles.now.items) (c.args.cell / 512) ≡ Some c.in-Some.middle =
    ap (λ l. middle_at c.args.top.now l (c.args.cell / 512)) (sym c.deref.ensures.value) ∙ sym c.place_of.ensures ∙ c.in-Some.is in
    record {
      linked = slot_linked c.args.top.now c.args.uppers.now.items c.args.middles.now.items c.link_middle.new.middles.items c.args.cell c.args.slot c.in-Some.middle
          c.requires.cell c.requires.directory there c.requires.absent c.link_middle.ensures.put c.link_middle.ensures.places c.link_middle.ensures.counted;
      upper_counted =
          let levels = levels_of c.args.top.now c.args.uppers.now.items c.args.middles.now.items in
          let upper = upper_of_middle levels (c.args.cell / 512) (subst IsSome (sym there) refl) in
          omega (arith, unwanted_upper levels c.args.cell c.args.fresh upper c.requires.fresh);
    }
