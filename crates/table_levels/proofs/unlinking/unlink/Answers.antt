-- The slot goes, and the tables that are left without an entry.
use Rattle.std.proofs.Common.{◌≡◌, ◌+◌, ◌/◌, ◌%◌, ◌^◌, ◌<◌, ◌∷◌, [], None, Some, sym, ◌∙◌, ap, subst, arith}
use Rattle.std.proofs.Math.ListN.{set}
use Rattle.std.specs.Prelude.{IsSome}
use Rattle.table_levels.specs.Walks.{Place, levels_of, middle_of, middle_at, slot_of, table_at, tables_at, NamesUppers}
use Rattle.table_levels.specs.Links.{SetsIn, UnlinksCell}
use Rattle.table_levels.proofs.Walking.{table_at-get}
use Rattle.table_levels.proofs.Unlinked.{counted_there, counted_none}
use Rattle.table_levels.proofs.LessCells.{some_is, more_at, slot_unlinked, cell_unlinked}
use Rattle.table_levels.proofs.unlinking.unlink.Goals as goal

pub place_of-requires-clause-there : goal.place_of-requires-clause-there
place_of-requires-clause-there c =
    subst (λ l. NamesUppers c.args.top.now l) (sym c.deref.ensures.value) c.requires.directory.upper_there

pub index_mut-requires : goal.index_mut-requires
index_mut-requires c =
    let there : middle_of (levels_of c.args.top.now c.args.uppers.now.items c.args.middles.now.items) (c.args.cell / 512) ≡ Some c.in-Some.place =
    ap (λ l. middle_at c.args.top.now l (c.args.cell / 512)) (sym c.deref.ensures.value) ∙ sym c.place_of.ensures ∙ c.in-Some.is in
    let below : c.args.cell / 512 < 2 ^ 18 = omega (arith, c.requires.cell) in
    omega (arith, (c.requires.directory.middle_there (c.args.cell / 512) c.in-Some.place below there).0, c.requires.directory.middles)

pub take_entry-requires-clause-there : goal.take_entry-requires-clause-there
take_entry-requires-clause-there c =
    let middles = c.args.middles.now.items in
    let there : middle_of (levels_of c.args.top.now c.args.uppers.now.items middles) (c.args.cell / 512) ≡ Some c.in-Some.place =
    ap (λ l. middle_at c.args.top.now l (c.args.cell / 512)) (sym c.deref.ensures.value) ∙ sym c.place_of.ensures ∙ c.in-Some.is in
    let below : c.args.cell / 512 < 2 ^ 18 = omega (arith, c.requires.cell) in
    let known = c.requires.directory.middle_there (c.args.cell / 512) c.in-Some.place below there in
    let was : c.index_mut.result.now ≡ table_at middles c.in-Some.place =
    c.index_mut.ensures.value ∙ sym (table_at-get middles c.in-Some.place c.index_mut.result.now (omega (arith, known.0, c.requires.directory.middles))) in
    subst IsSome (sym was) known.1

pub returns-in-Some-take_entry : goal.returns-in-Some-take_entry
returns-in-Some-take_entry c =
    let top = c.args.top.now in
    let uppers = c.args.uppers.now.items in
    let middles = c.args.middles.now.items in
    let there : middle_of (levels_of top uppers middles) (c.args.cell / 512) ≡ Some c.in-Some.place =
    ap (λ l. middle_at top l (c.args.cell / 512)) (sym c.deref.ensures.value) ∙ sym c.place_of.ensures ∙ c.in-Some.is in
    let below : c.args.cell / 512 < 2 ^ 18 = omega (arith, c.requires.cell) in
    let known = c.requires.directory.middle_there (c.args.cell / 512) c.in-Some.place below there in
    let was : c.index_mut.result.now ≡ table_at middles c.in-Some.place =
    c.index_mut.ensures.value ∙ sym (table_at-get middles c.in-Some.place c.index_mut.result.now (omega (arith, known.0, c.requires.directory.middles))) in
    let slot = some_is (slot_of (levels_of top uppers middles) c.args.cell) c.requires.there in
    let one : tables_at (c.take_entry.new.place ∷ []) + 1 ≡ 1 = c.in-Some-take_entry.ensures.counted in
    let unused = tables_at (c.unlink_middle-top.result.0 ∷ c.unlink_middle-top.result.1 ∷ []) in
    let all : tables_at (c.unlink_middle-top.result.0 ∷ c.unlink_middle-top.result.1 ∷ Some c.in-Some-take_entry.middle ∷ []) ≡ unused + 1 =
    more_at c.unlink_middle-top.result.0 c.unlink_middle-top.result.1 c.in-Some-take_entry.middle in
    record {
      unlinked = subst (λ n. UnlinksCell (levels_of top uppers middles) (levels_of c.unlink_middle-top.new.top c.unlink_middle-top.new.uppers.items (set middles c.in-Some.place c.take_entry.new.place)) c.args.cell n) (sym all)
          (cell_unlinked top c.unlink_middle-top.new.top uppers c.unlink_middle-top.new.uppers.items middles c.take_entry.new.place c.args.cell slot.0 c.in-Some.place unused
          c.requires.cell c.requires.directory there slot.1 (subst (λ p. SetsIn p c.take_entry.new.place (c.args.cell % 512) None) was c.take_entry.ensures.taken)
          (counted_none c.take_entry.new.place (omega arith)) c.unlink_middle-top.ensures.dropped c.unlink_middle-top.ensures.places
          (sym c.unlink_middle-top.ensures.counted.all) c.unlink_middle-top.ensures.unused);
      upper_counted = c.unlink_middle-top.ensures.counted.uppers;
    }

pub returns-in-None : goal.returns-in-None
returns-in-None c =
    let top = c.args.top.now in
    let uppers = c.args.uppers.now.items in
    let middles = c.args.middles.now.items in
    let there : middle_of (levels_of top uppers middles) (c.args.cell / 512) ≡ Some c.in-Some.place =
    ap (λ l. middle_at top l (c.args.cell / 512)) (sym c.deref.ensures.value) ∙ sym c.place_of.ensures ∙ c.in-Some.is in
    let below : c.args.cell / 512 < 2 ^ 18 = omega (arith, c.requires.cell) in
    let known = c.requires.directory.middle_there (c.args.cell / 512) c.in-Some.place below there in
    let was : c.index_mut.result.now ≡ table_at middles c.in-Some.place =
    c.index_mut.ensures.value ∙ sym (table_at-get middles c.in-Some.place c.index_mut.result.now (omega (arith, known.0, c.requires.directory.middles))) in
    let slot = some_is (slot_of (levels_of top uppers middles) c.args.cell) c.requires.there in
    let one : tables_at (c.take_entry.new.place ∷ []) + 0 ≡ 1 = c.in-None.ensures.counted in
    record {
      unlinked = subst (λ n. UnlinksCell (levels_of top uppers middles) (levels_of top uppers (set middles c.in-Some.place c.take_entry.new.place)) c.args.cell n)
          (sym c.none-in-None.ensures.tables)
          (slot_unlinked top uppers middles c.take_entry.new.place c.args.cell slot.0 c.in-Some.place
          c.requires.cell c.requires.directory there slot.1 (subst (λ p. SetsIn p c.take_entry.new.place (c.args.cell % 512) None) was c.take_entry.ensures.taken)
          c.take_entry.ensures.used (counted_there c.take_entry.new.place (omega arith)));
      upper_counted =
          let none = ap (λ (p : Place). tables_at (p ∷ [])) c.none-in-None.ensures.upper in
          omega (arith, none);
    }
