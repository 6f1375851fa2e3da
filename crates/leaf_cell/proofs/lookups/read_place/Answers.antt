use Rattle.std.proofs.Common.{sym, ap, ◌∙◌, length}
use Rattle.std.specs.Option.{option_map}
use Rattle.leaf_cell.specs.CellView.{part_of}
use Rattle.leaf_cell.proofs.AbsentPages.{part_of-none}
use Rattle.leaf_cell.proofs.lookups.read_place.Goals as goal

pub returns-in-None : goal.returns-in-None
returns-in-None c = c.fill.ensures.after (λ y h. h)
    ∙ sym (part_of-none c.args.at (length c.args.buf.now) c.requires)
    ∙ ap (λ bytes. part_of bytes c.args.at (length c.args.buf.now)) (sym (ap (option_map (λ frame. frame.now.bytes)) c.in-None.is) ∙ c.frame_at.ensures)
