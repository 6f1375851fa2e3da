use Rattle.vm_base.proofs.FlatLaws.{bytes_at-with_bytes, bytes_at-with_bytes_apart, get-with_bytes_beyond, is_some-with_bytes, length-with_bytes, with_bytes-join}
use Rattle.vm_base.proofs.laws.a_store_changes_its_own_bytes_alone.Goals as goal

pub returns : goal.returns
returns c = record {
  stored = bytes_at-with_bytes;
  reads = bytes_at-with_bytes_apart;
  others = get-with_bytes_beyond;
  present = is_some-with_bytes;
  lengths = length-with_bytes;
  joined = with_bytes-join;
}
