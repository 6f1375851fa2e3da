use Rattle.page_hash.proofs.StoredPairs.{kept_same}
use Rattle.page_hash.proofs.pair_stores.store_length.Goals as goal

pub returns-then-value_length-old_length-clause-keeps : goal.returns-then-value_length-old_length-clause-keeps
returns-then-value_length-old_length-clause-keeps g c = kept_same _ c.requires.sound
