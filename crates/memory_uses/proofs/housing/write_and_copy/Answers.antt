use Rattle.std.proofs.Common.{ap, sym, ◌∙◌, subst, length}
use Rattle.std.specs.Prelude.{unwrap_or}
use Rattle.vm_base.specs.Places.{cells_of_range}
use Rattle.vm_base.specs.MemoryState.{IsKept}
use Rattle.memory_uses.proofs.Living.{GoesOn-on, lives_there, since-same}
use Rattle.memory_uses.proofs.housing.write_and_copy.Goals as goal

pub returns-clause-copied : goal.returns-clause-copied
returns-clause-copied g c =
    let beside = g.met.P.Process.beside_memory c.args.process.now c.write_at-written.new.memory (sym c.write_at-written.ensures.aside) in
    record {
      behind = g.P.Nest.nested c.write_at-written.new.memory c.args.child.now;
      goes_on = g.met.P.Housing.went_child c.args.process.now c.write_at-written.new.memory c.args.child.now c.write_at-written.ensures.went c.requires.lives
          ((g.met.P.Housing.lives_numbered c.write_at-written.new.memory c.args.child.now).1
          (lives_there _ _ (g.P.Process.child_number c.args.child.now) (g.P.Process.child_home c.args.child.now) g.P.Process.home g.P.Process.children beside
          ((g.met.P.Housing.lives_numbered c.args.process.now c.args.child.now).0 c.requires.lives)));
      step = c.child_copy.ensures.step;
      fault = c.child_copy.ensures.fault;
    }

pub returns-clause-goes_on : goal.returns-clause-goes_on
returns-clause-goes_on g c =
    let beside = g.met.P.Process.beside_memory c.args.process.now c.write_at-written.new.memory (sym c.write_at-written.ensures.aside) in
    let behind = g.met.P.Housing.went_child c.args.process.now c.write_at-written.new.memory c.args.child.now c.write_at-written.ensures.went c.requires.lives
    ((g.met.P.Housing.lives_numbered c.write_at-written.new.memory c.args.child.now).1
    (lives_there _ _ (g.P.Process.child_number c.args.child.now) (g.P.Process.child_home c.args.child.now) g.P.Process.home g.P.Process.children beside
    ((g.met.P.Housing.lives_numbered c.args.process.now c.args.child.now).0 c.requires.lives))) in
    let all = GoesOn-on _ _ _ behind c.child_copy.ensures.keeps.goes_on in
    (all, all.mem ∙ g.met.P.Housing.kept_nested c.args.process.now c.args.child.now)

pub returns-clause-since : goal.returns-clause-since
returns-clause-since g c =
    let beside = g.met.P.Process.beside_memory c.args.process.now c.write_at-written.new.memory (sym c.write_at-written.ensures.aside) in
    let told = sym (g.met.P.Housing.born_beside c.write_at-written.new.memory c.args.child.now)
    ∙ ap (λ b. g.P.Process.born b c.args.child.now) (sym beside) ∙ g.met.P.Housing.born_beside c.args.process.now c.args.child.now in
    let same = g.met.P.Housing.state_beside c.child_copy.new.self c.write_at-written.new.memory c.child_copy.new.child c.args.child.now c.child_copy.ensures.beside in
    since-same _ _ _ _ (g.P.Nest.nested c.child_copy.new.self c.child_copy.new.child) (ap (λ o. unwrap_or o 0) told)
    (g.met.P.Housing.refused_beside c.write_at-written.new.memory c.args.child.now ∙ ap (λ s. s.refused) (sym same)) c.child_copy.ensures.since

pub returns-clause-keeps : goal.returns-clause-keeps
returns-clause-keeps g c =
    subst (λ s. IsKept (g.P.Memory.state c.args.process.now) s (cells_of_range c.args.addr (length c.args.bytes.now)))
    (sym (g.met.P.Housing.state_beside c.child_copy.new.self c.write_at-written.new.memory c.child_copy.new.child c.args.child.now c.child_copy.ensures.beside))
    c.write_at-written.ensures.keeps

pub returns-clause-aside : goal.returns-clause-aside
returns-clause-aside g c =
    g.met.P.Housing.aside_beside c.child_copy.new.self c.write_at-written.new.memory c.child_copy.new.child c.args.child.now c.child_copy.ensures.beside
    ∙ c.write_at-written.ensures.aside
