use Rattle.kernel_meaning.proofs.Shares.{held_frames-shares}
use Rattle.kernel_meaning.proofs.laws.frames_lie_in_directories_and_cells.Goals as goal

pub returns : goal.returns
returns c = held_frames-shares
