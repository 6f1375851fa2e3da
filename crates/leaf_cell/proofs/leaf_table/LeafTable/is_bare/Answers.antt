use Rattle.std.proofs.Common.{◌≡◌, ◌∙◌, ◌+◌, ◌-◌, ◌*◌, sym, ap, arith}
use Rattle.kernel_meaning.specs.Leaves.{version_at}
use Rattle.leaf_cell.specs.Places.{places_of}
use Rattle.leaf_cell.proofs.BlockPages.{bare_page}
use Rattle.leaf_cell.proofs.leaf_table.LeafTable.is_bare.Goals as goal

pub returns : goal.returns
returns c = λ is k above below.
    ap (λ table. version_at table.places k) (sym c.self.view_is)
    ∙ ap (λ bytes. version_at (places_of bytes) k) (sym c.bytes.ensures.bytes)
    ∙ bare_page c.bytes.result.now c.args.first (8 * c.args.first + 64 - 8 * c.args.first) (omega arith) c.requires (sym c.eq.ensures
    ∙ is) k above below
