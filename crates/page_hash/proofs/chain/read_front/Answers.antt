use Rattle.std.proofs.Common.{◌∙◌, length, take, ap}
use Rattle.vm_base.proofs.FlatBytes.{length-bytes_at}
use Rattle.page_hash.proofs.Fronts.{front_read}
use Rattle.page_hash.proofs.chain.read_front.Goals as goal

pub returns-clause-front : goal.returns-clause-front
returns-clause-front g c =
    let mem = (g.M.Memory.state c.args.m.now).mem in
    let size = c.front_size-size.result in
    front_read mem c.args.at c.args.key_length size c.args.front.now c.read_area.new.buf c.requires.room.0 c.front_size-size.ensures.head
    c.front_size-size.ensures.few c.front_size-size.ensures.key c.read_area.ensures.bytes
    (ap length c.read_area.ensures.bytes ∙ length-bytes_at mem.present c.args.at (length (take size c.args.front.now)))
