use Rattle.vm_base.proofs.FlatLaws.{bytes_at-with_pages, get-with_pages_there, get-with_pages_absent, get-with_pages_beyond, bytes_at-none}
use Rattle.vm_base.proofs.laws.a_touch_changes_no_read.Goals as goal

pub returns : goal.returns
returns c = record {
  reads = bytes_at-with_pages;
  kept = get-with_pages_there;
  zeros = get-with_pages_absent;
  others = get-with_pages_beyond;
  absent = bytes_at-none;
}
