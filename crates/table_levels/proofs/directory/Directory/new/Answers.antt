-- No table is there, and so no cell.
use Rattle.std.proofs.Common.{sym, ◌∙◌, ap}
use Rattle.table_levels.specs.Walks.{tables_at}
use Rattle.table_levels.proofs.Walking.{bare_directory, no_levels, tables_at-free}
use Rattle.table_levels.proofs.directory.Directory.new.Goals as goal

pub invariant_of-result : goal.invariant_of-result
invariant_of-result c = record {
  directory = bare_directory c.in_ok-empty_places.field-0.items c.in_ok-empty_places-2.field-0.items c.in_ok-empty_places.ensures c.in_ok-empty_places-2.ensures;
  upper_counted = sym (ap tables_at c.in_ok-empty_places.ensures ∙ tables_at-free 512);
}

pub returns : goal.returns
returns c = no_levels c.in_ok-empty_places.field-0.items c.in_ok-empty_places-2.field-0.items
