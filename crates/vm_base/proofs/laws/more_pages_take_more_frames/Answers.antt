use Rattle.vm_base.proofs.FlatFrames.{own-more, own-touched_range, directory_frames-more, distinct-more, own-pages}
use Rattle.vm_base.proofs.laws.more_pages_take_more_frames.Goals as goal

pub returns : goal.returns
returns c = record {
  own = own-more;
  touched = own-touched_range;
  directory = directory_frames-more;
  distinct = distinct-more;
  pages = own-pages;
}
