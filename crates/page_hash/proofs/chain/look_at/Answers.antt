use Rattle.std.proofs.Common.{◌≡◌, ◌∙◌, ◌+◌, length, ap, arith}
use Rattle.std.specs.Str.{bytes_eq}
use Rattle.vm_base.specs.FlatMemory.{bytes_at}
use Rattle.store_meaning.specs.Layout.{number_at}
use Rattle.page_hash.proofs.Fronts.{front_next, front_number, seen_other, seen_block, key_within}
use Rattle.page_hash.proofs.chain.look_at.Goals as goal

pub returns-then-key_length-key-clause-value : goal.returns-then-key_length-key-clause-value
returns-then-key_length-key-clause-value g c entry is =
    let mem = (g.M.Memory.state c.args.m.now).mem in
    let key = c.args.key.now in
    let front = c.read_front.new.front in
    let read : c.read_u32-key_length.result ≡ number_at mem (c.args.at + 8) 4 =
    c.read_u32-key_length.ensures ∙ front_number mem c.args.at _ 8 264 front c.read_front.ensures.front (omega arith) (omega arith) in
    seen_other mem c.args.at c.read_u32-key_length.result key entry is read c.if-key_length-key.true

pub has_key-has-requires-clause-within : goal.has_key-has-requires-clause-within
has_key-has-requires-clause-within g c =
    let mem = (g.M.Memory.state c.args.m.now).mem in
    let key = c.args.key.now in
    let front = c.read_front.new.front in
    let read : c.read_u32-key_length.result ≡ number_at mem (c.args.at + 8) 4 =
    c.read_u32-key_length.ensures ∙ front_number mem c.args.at _ 8 264 front c.read_front.ensures.front (omega arith) (omega arith) in
    key_within mem c.args.at c.read_u32-key_length.result key c.requires.block.0 c.requires.block.1 read c.if-key_length-key.false

pub returns-clause-next : goal.returns-clause-next
returns-clause-next g c =
    c.read_u64-next.ensures
    ∙ front_next (g.M.Memory.state c.args.m.now).mem c.args.at _ c.read_front.new.front c.read_front.ensures.front

pub returns-clause-value : goal.returns-clause-value
returns-clause-value g c entry is =
    let mem = (g.M.Memory.state c.args.m.now).mem in
    let key = c.args.key.now in
    let front = c.read_front.new.front in
    let read : c.read_u32-key_length.result ≡ number_at mem (c.args.at + 8) 4 =
    c.read_u32-key_length.ensures ∙ front_number mem c.args.at _ 8 264 front c.read_front.ensures.front (omega arith) (omega arith) in
    let value : c.read_u32-value_length.result ≡ number_at mem (c.args.at + 12) 4 =
    c.read_u32-value_length.ensures ∙ front_number mem c.args.at _ 12 260 front c.read_front.ensures.front (omega arith) (omega arith) in
    let has : c.has_key-has.result ≡ bytes_eq (bytes_at mem.present (c.args.at + 16) (length key)) key =
    c.has_key-has.ensures.has ∙ ap (λ s. bytes_eq (bytes_at s.mem.present (c.args.at + 16) (length key)) key) c.read_front.ensures.same in
    c.then_some.ensures
    ∙ seen_block mem c.args.at c.read_u32-key_length.result c.read_u32-value_length.result c.has_key-has.result key entry is read
    c.if-key_length-key.false value has

pub returns-clause-went : goal.returns-clause-went
returns-clause-went g c = g.met.M.Memory.went_on _ _ _ c.read_front.ensures.went c.has_key-has.ensures.went
