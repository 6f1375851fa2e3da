use Rattle.std.proofs.Common.{◌∙◌, subst, sym}
use Rattle.vm_base.specs.Places.{cells_of_range}
use Rattle.page_hash.specs.Listing.{AreNotLost}
use Rattle.page_hash.proofs.Fronts.{head_read}
use Rattle.page_hash.proofs.block_read.read_head.Goals as goal

pub returns-clause-read : goal.returns-clause-read
returns-clause-read g c entry is =
    let old = g.Z.Frozen.snapshot c.args.z.now in
    let told = head_read old.mem c.args.at c.read_frozen.new.buf entry is c.in_ok-read_frozen.ensures.read.is in
    record {
      next = c.read_u64.ensures ∙ told.0;
      key = c.read_u32.ensures ∙ told.1;
      value = c.read_u32-2.ensures ∙ told.2;
      kept = subst (λ a. AreNotLost old (cells_of_range a 16)) (sym is.here) c.in_ok-read_frozen.ensures.read.kept;
    }
