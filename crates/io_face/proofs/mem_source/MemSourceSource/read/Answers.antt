use Rattle.std.proofs.Common.{◌≡◌, ◌+◌, arith, length, min}
use Rattle.std.specs.Vec.{vec_capacity}
use Rattle.io_face.proofs.MemoryLemmas.{after_read-moved}
use Rattle.io_face.proofs.mem_source.MemSourceSource.read.Goals as goal

pub returns-clause-ok : goal.returns-clause-ok
returns-clause-ok c =
    let s = c.self.inside in
    let moved : c.min-self-inside.result ≡ min (length s.cuts.items) (s.used + 1) = omega (arith, s.cuts.ok.0) in
    rw (← c.self.view_is) (after_read-moved s.bytes.items s.cuts.items (vec_capacity s.bytes) s.at s.used c.next_size-size.result _ s.calls c.begin.new.self moved c.begin.ensures.counted)
