-- The walk ends at the slot that the map has.
use Rattle.std.proofs.Common.{◌≡◌, ◌/◌, ◌%◌, ◌^◌, ◌<◌, Some, None, sym, ◌∙◌, ap, arith}
use Rattle.std.specs.FinMap.{get}
use Rattle.table_levels.specs.Walks.{Levels, middle_at, middle_of, entry_in}
use Rattle.table_levels.proofs.Walking.{table_at-get, get-cells_of, slot_there, slot_absent}
use Rattle.table_levels.proofs.directory.Directory.find.Goals as goal

pub index-requires : goal.index-requires
index-requires c =
    let levels : Levels = record { top = c.self.inside.top; uppers = c.self.inside.uppers.items; middles = c.self.inside.middles.items } in
    let there : middle_of levels (c.args.cell / 512) ≡ Some c.in_ok-middle.middle =
    ap (λ l. middle_at c.self.inside.top l (c.args.cell / 512)) (sym c.deref.ensures.value) ∙ sym c.place_of.ensures ∙ c.in_ok-middle.was in
    let below : c.args.cell / 512 < 2 ^ 18 = omega (arith, c.requires) in
    let directory = c.self.invariant.directory in
    omega (arith, (directory.middle_there (c.args.cell / 512) c.in_ok-middle.middle below there).0, directory.middles)

pub returns : goal.returns
returns c =
    let levels : Levels = record { top = c.self.inside.top; uppers = c.self.inside.uppers.items; middles = c.self.inside.middles.items } in
    let there : middle_of levels (c.args.cell / 512) ≡ Some c.in_ok-middle.middle =
    ap (λ l. middle_at c.self.inside.top l (c.args.cell / 512)) (sym c.deref.ensures.value) ∙ sym c.place_of.ensures ∙ c.in_ok-middle.was in
    let below : c.args.cell / 512 < 2 ^ 18 = omega (arith, c.requires) in
    let inside = (c.self.invariant.directory.middle_there (c.args.cell / 512) c.in_ok-middle.middle below there).0 in
    let size = c.self.invariant.directory.middles in
    let table = c.index.ensures ∙ sym (table_at-get levels.middles c.in_ok-middle.middle c.index.result.now (omega (arith, inside, size))) in
    c.named_by.ensures ∙ ap (λ t. entry_in t (c.args.cell % 512)) table
    ∙ sym (slot_there levels c.args.cell c.in_ok-middle.middle there) ∙ sym (get-cells_of levels c.args.cell c.requires) ∙ ap (λ m. get m c.args.cell) c.self.view_is

pub returns-in_err-middle : goal.returns-in_err-middle
returns-in_err-middle c =
    let levels : Levels = record { top = c.self.inside.top; uppers = c.self.inside.uppers.items; middles = c.self.inside.middles.items } in
    let absent : middle_of levels (c.args.cell / 512) ≡ None =
    ap (λ l. middle_at c.self.inside.top l (c.args.cell / 512)) (sym c.deref.ensures.value) ∙ sym c.place_of.ensures ∙ c.in_err-middle.was in
    c.from_residual.ensures ∙ sym (slot_absent levels c.args.cell absent) ∙ sym (get-cells_of levels c.args.cell c.requires) ∙ ap (λ m. get m c.args.cell) c.self.view_is
