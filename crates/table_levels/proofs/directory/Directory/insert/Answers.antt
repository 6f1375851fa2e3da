-- The tables that are missing are asked for, and linked where all were granted.
use Rattle.std.proofs.Common.{◌≡◌, ◌+◌, ◌/◌, ◌<◌, ◌∷◌, [], length, sym, ◌∙◌, ap, subst, arith}
use Rattle.std.specs.Prelude.{is_some}
use Rattle.std.specs.FinMap as map
use Rattle.vm_base.specs.Deals.{LeadsAlong}
use Rattle.std.proofs.lemmas.Result.{err_from_is_err_and}
use Rattle.table_levels.specs.declared.frames.Wanted.{Wanted}
use Rattle.table_levels.specs.Cells.{tables_of}
use Rattle.table_levels.specs.Requests.{granted, missing_tables, wanted_tables, RefusesOne}
use Rattle.table_levels.specs.Walks.{Levels, middle_at, directory_cells, tables_at, tables_in, NamesUppers, IsDirectory}
use Rattle.table_levels.proofs.Counting.{middle_tables_of-le}
use Rattle.table_levels.proofs.Walking.{get-cells_of}
use Rattle.table_levels.proofs.Linked.{wanted_for_missing, few_tables, few_wanted, wanted_same}
use Rattle.table_levels.proofs.directory.Directory.insert.Goals as goal

pub place_of-requires-clause-there : goal.place_of-requires-clause-there
place_of-requires-clause-there g c =
    subst (λ l. NamesUppers c.self.inside.top l) (sym c.deref.ensures.value) c.self.invariant.directory.upper_there

pub overflow_add-self : goal.overflow_add-self
overflow_add-self g c =
    let known = c.self.invariant.directory in
    let wanted : Wanted = record { top = c.is_none.result; upper = c.is_none-2.result; middle = c.is_none-3.result } in
    let total : c.self.inside.tables ≡ tables_at (c.self.inside.top ∷ c.self.inside.uppers.items) + tables_at c.self.inside.middles.items = known.counted in
    omega (arith, total, few_tables (c.self.inside.top ∷ c.self.inside.uppers.items), few_tables c.self.inside.middles.items, known.uppers, known.middles, few_wanted wanted, c.count.ensures)

pub overflow_add-self-2 : goal.overflow_add-self-2
overflow_add-self-2 g c =
    let uppers = few_tables c.self.inside.uppers.items in
    let size = c.self.invariant.directory.uppers in
    omega (arith, c.self.invariant.upper_counted, uppers, size, few_tables (c.in_ok-fresh.fresh.upper ∷ []), c.count_of.ensures)

pub link-requires-clause-absent : goal.link-requires-clause-absent
link-requires-clause-absent g c =
    let levels : Levels = record { top = c.self.inside.top; uppers = c.self.inside.uppers.items; middles = c.self.inside.middles.items } in
    sym (get-cells_of levels c.args.cell c.requires.cell) ∙ ap (λ m. map.get m c.args.cell) c.self.view_is ∙ c.requires.absent

pub link-requires-clause-fewer : goal.link-requires-clause-fewer
link-requires-clause-fewer g c =
    let levels : Levels = record { top = c.self.inside.top; uppers = c.self.inside.uppers.items; middles = c.self.inside.middles.items } in
    let few : map.len (directory_cells levels) < 512 = subst (λ m. map.len m < 512) (sym c.self.view_is) c.requires.fewer in
    omega (arith, c.self.invariant.directory.middles_taken, middle_tables_of-le (directory_cells levels), few)

pub invariant_of-self : goal.invariant_of-self
invariant_of-self g c =
    let known = c.self.invariant.directory in
    let levels : Levels = record { top = c.self.inside.top; uppers = c.self.inside.uppers.items; middles = c.self.inside.middles.items } in
    let new : Levels = record { top = c.link.new.top; uppers = c.link.new.uppers.items; middles = c.link.new.middles.items } in
    let asked = wanted_same levels c.args.cell c.is_none.result c.is_none-2.result c.is_none-3.result c.is_none.ensures (ap is_some (sym c.named_by.ensures) ∙ c.is_none-2.ensures)
    (ap is_some (sym (c.place_of.ensures ∙ ap (λ l. middle_at c.self.inside.top l (c.args.cell / 512)) c.deref.ensures.value)) ∙ c.is_none-3.ensures) in
    let missing = ap length (ap wanted_tables asked ∙ wanted_for_missing levels c.self.inside.tables known c.args.cell c.requires.cell) in
    let total : tables_in new ≡ c.self.inside.tables + c.count.result = c.link.ensures.linked.counted ∙ ap (λ n. n + length (missing_tables (map.keys (directory_cells levels)) c.args.cell)) (sym known.counted)
    ∙ ap (λ n. c.self.inside.tables + n) (sym (c.count.ensures ∙ missing)) in
    record {
      directory = subst (IsDirectory new) total c.link.ensures.linked.directory;
      upper_counted = omega (arith, c.self.invariant.upper_counted, c.count_of.ensures, c.link.ensures.upper_counted);
    }

pub returns-clause-requests : goal.returns-clause-requests
returns-clause-requests g c =
    let known = c.self.invariant.directory in
    let levels : Levels = record { top = c.self.inside.top; uppers = c.self.inside.uppers.items; middles = c.self.inside.middles.items } in
    let asked = wanted_same levels c.args.cell c.is_none.result c.is_none-2.result c.is_none-3.result c.is_none.ensures (ap is_some (sym c.named_by.ensures) ∙ c.is_none-2.ensures)
    (ap is_some (sym (c.place_of.ensures ∙ ap (λ l. middle_at c.self.inside.top l (c.args.cell / 512)) c.deref.ensures.value)) ∙ c.is_none-3.ensures) in
    let missing = ap wanted_tables asked ∙ wanted_for_missing levels c.self.inside.tables known c.args.cell c.requires.cell
    ∙ ap (λ m. missing_tables (map.keys m) c.args.cell) c.self.view_is in
    subst (λ wants. LeadsAlong g.A.Allot.goes (g.A.Allot.state c.args.allot.now) (granted wants) (g.A.Allot.state c.take_fresh.new.allot)) missing c.in_ok-fresh.ensures.requests

pub returns-clause-out : goal.returns-clause-out
returns-clause-out g c =
    let known = c.self.invariant.directory in
    let levels : Levels = record { top = c.self.inside.top; uppers = c.self.inside.uppers.items; middles = c.self.inside.middles.items } in
    let new : Levels = record { top = c.link.new.top; uppers = c.link.new.uppers.items; middles = c.link.new.middles.items } in
    let asked = wanted_same levels c.args.cell c.is_none.result c.is_none-2.result c.is_none-3.result c.is_none.ensures (ap is_some (sym c.named_by.ensures) ∙ c.is_none-2.ensures)
    (ap is_some (sym (c.place_of.ensures ∙ ap (λ l. middle_at c.self.inside.top l (c.args.cell / 512)) c.deref.ensures.value)) ∙ c.is_none-3.ensures) in
    let missing = ap length (ap wanted_tables asked ∙ wanted_for_missing levels c.self.inside.tables known c.args.cell c.requires.cell) in
    let before : tables_of c.args.self.now ≡ tables_in levels = ap tables_of (sym c.self.view_is) ∙ sym known.taken ∙ known.counted in
    let after : tables_of (directory_cells new) ≡ tables_in new = sym c.link.ensures.linked.directory.taken in
    omega (arith, c.in_ok-fresh.ensures.out, before, after, c.link.ensures.linked.counted, missing)

pub returns-in_err-fresh-clause-requests : goal.returns-in_err-fresh-clause-requests
returns-in_err-fresh-clause-requests g c =
    let known = c.self.invariant.directory in
    let levels : Levels = record { top = c.self.inside.top; uppers = c.self.inside.uppers.items; middles = c.self.inside.middles.items } in
    let asked = wanted_same levels c.args.cell c.is_none.result c.is_none-2.result c.is_none-3.result c.is_none.ensures (ap is_some (sym c.named_by.ensures) ∙ c.is_none-2.ensures)
    (ap is_some (sym (c.place_of.ensures ∙ ap (λ l. middle_at c.self.inside.top l (c.args.cell / 512)) c.deref.ensures.value)) ∙ c.is_none-3.ensures) in
    let missing = ap wanted_tables asked ∙ wanted_for_missing levels c.self.inside.tables known c.args.cell c.requires.cell
    ∙ ap (λ m. missing_tables (map.keys m) c.args.cell) c.self.view_is in
    let exit = err_from_is_err_and c.from_residual.result c.from_residual.ensures.1 in
    rw (exit.1, exit.2) (subst (λ wants. RefusesOne g.A.Allot.goes (g.A.Allot.state c.args.allot.now) wants c.in_err-fresh.field-0.0.at (g.A.Allot.state c.take_fresh.new.allot)) missing c.in_err-fresh.ensures.requests)
