use Rattle.std.proofs.Common.{◌∙◌, sym, ap}
use Rattle.std.specs.Prelude.{is_some}
use Rattle.std.proofs.lemmas.Bool.{false≢true}
use Rattle.page_tables.proofs.ClearedCell.{present-pages}
use Rattle.page_tables.proofs.Known.{known-impossible}
use Rattle.page_tables.proofs.tables.PageTables.clear_in_cell.Goals as goal

pub unreachable-requires : goal.unreachable-requires
unreachable-requires g c =
    known-impossible c.requires.stands (λ stands.
    false≢true (ap is_some (sym c.in-None.is ∙ c.find.ensures) ∙ stands.1.0.parent c.args.cell ∙ present-pages _ c.args.first c.args.count stands.1.1))
