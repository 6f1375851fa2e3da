use Rattle.vm_base.proofs.FlatLaws.{bytes_at-unmapped, get-unmapped_beyond, get-unmapped_among}
use Rattle.vm_base.proofs.laws.an_unmap_changes_no_other_read.Goals as goal

pub returns : goal.returns
returns c = record { reads = bytes_at-unmapped; others = get-unmapped_beyond; gone = get-unmapped_among }
