use Rattle.std.proofs.Common.{◌<◌, IsTrue, sym, ◌∙◌, ap, subst}
use Rattle.memory_uses.proofs.Completed.{none_refused, no_copy_refused, lost_alone}
use Rattle.memory_uses.proofs.Living.{lives_there}
use Rattle.memory_uses.specs.Written.{WritesOrFails}
use Rattle.memory_uses.proofs.Writing.{written_or_refused, fails_copying}
use Rattle.memory_uses.proofs.complete.copy_within.Goals as goal

pub returns-clause-written : goal.returns-clause-written
returns-clause-written g c =
    subst (λ s. WritesOrFails (g.P.Memory.state c.args.process.now) s c.args.addr c.args.bytes.now) (sym c.copy_child.ensures.process.0)
    (written_or_refused c.write_at-written.result (g.P.Memory.state c.args.process.now)
    (g.P.Memory.state c.write_at-written.new.memory)
    c.args.addr c.args.bytes.now c.write_at-written.ensures.ready c.write_at-written.ensures.cause)

pub returns-clause-copied : goal.returns-clause-copied
returns-clause-copied g c =
    let beside = g.met.P.Process.beside_memory c.args.process.now c.write_at-written.new.memory (sym c.write_at-written.ensures.aside) in
    record {
      behind = g.P.Nest.nested c.write_at-written.new.memory c.args.child.now;
      goes_on = g.met.P.Housing.went_child c.args.process.now c.write_at-written.new.memory c.args.child.now
          c.write_at-written.ensures.went c.requires.lives
          ((g.met.P.Housing.lives_numbered c.write_at-written.new.memory c.args.child.now).1
          (lives_there _ _ (g.P.Process.child_number c.args.child.now) (g.P.Process.child_home c.args.child.now)
          g.P.Process.home g.P.Process.children beside
          ((g.met.P.Housing.lives_numbered c.args.process.now c.args.child.now).0 c.requires.lives)));
      copied = c.copy_child.ensures.copied;
      fault = fails_copying c.copy_child.result _ _ _ _ c.copy_child.ensures.fault;
    }

pub returns-clause-complete : goal.returns-clause-complete
returns-clause-complete g c enough told less =
    let beside = g.met.P.Process.beside_memory c.args.process.now c.write_at-written.new.memory (sym c.write_at-written.ensures.aside) in
    let lives = (g.met.P.Housing.lives_numbered c.write_at-written.new.memory c.args.child.now).1
    (lives_there _ _ (g.P.Process.child_number c.args.child.now) (g.P.Process.child_home c.args.child.now) g.P.Process.home g.P.Process.children beside
    ((g.met.P.Housing.lives_numbered c.args.process.now c.args.child.now).0 c.requires.lives)) in
    let same = c.copy_child.ensures.process.0 in
    let memory = none_refused (g.P.Memory.state c.write_at-written.new.memory) enough c.write_at-written.ensures.keeps.after
    (ap (λ s. s.enough) (sym same) ∙ told) (subst (λ s. s.most < enough) same less) in
    let copies = no_copy_refused (g.P.Nest.nested c.copy_child.new.process c.copy_child.new.child).refused (g.P.Memory.state c.copy_child.new.process).most enough
    (g.P.Memory.state c.copy_child.new.process).enough
    (g.met.P.Housing.copies_reached c.copy_child.new.process c.copy_child.new.child (subst (λ b. IsTrue (g.P.Nest.lives b)) (sym c.copy_child.ensures.beside) lives)) told less in
    (ap (λ s. s.refused) same ∙ memory, copies, lost_alone c.copy_child.result _ _ _ _ copies c.copy_child.ensures.fault)
