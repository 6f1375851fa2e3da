use Rattle.std.proofs.Common.{[], refl, sym, ◌∙◌, subst, length}
use Rattle.std.proofs.lemmas.Bool.{false≢true}
use Rattle.vm_base.specs.Places.{cells_of_range}
use Rattle.vm_base.specs.MemoryState.{IsListed}
use Rattle.vm_base.proofs.IsKeptOn.{IsKept-on}
use Rattle.memory_uses.proofs.Living.{since-same, unlisted-removed}
use Rattle.memory_uses.proofs.housing.write_copy_and_reap.Goals as goal

pub returns-clause-written : goal.returns-clause-written
returns-clause-written g c = record {
  written = g.P.Memory.state c.write_and_copy-copied.new.process;
  write = c.write_and_copy-copied.ensures.written;
  reap = c.reap.ensures.memory.0;
  kept = IsKept-on _ _ _ (cells_of_range c.args.addr (length c.args.bytes.now)) [] (cells_of_range c.args.addr (length c.args.bytes.now))
      c.write_and_copy-copied.ensures.keeps c.reap.ensures.memory.1 (λ cell is. is) (λ cell none. absurd (false≢true none));
}

pub returns-clause-copied : goal.returns-clause-copied
returns-clause-copied g c = (
  g.P.Nest.nested c.write_and_copy-copied.new.process c.write_and_copy-copied.new.child,
  (
    c.write_and_copy-copied.ensures.copied,
    c.write_and_copy-copied.ensures.goes_on.1,
    since-same _ _ _ _ (g.P.Nest.nested c.write_and_copy-copied.new.process c.write_and_copy-copied.new.child) refl (sym c.reap.ensures.memory.0.refused) c.write_and_copy-copied.ensures.since,
  ),
)

pub returns-clause-ended : goal.returns-clause-ended
returns-clause-ended g c lives =
    let listed = ((g.met.P.Housing.lives_numbered c.reap.new.self c.write_and_copy-copied.new.child).0 lives).0 in
    unlisted-removed (g.P.Process.remains c.args.gone).number _ _ c.reap.ensures.reaped.numbers
    (subst (λ n. IsListed n (g.P.Process.children (g.P.Process.beside c.reap.new.self)).numbers)
    (c.write_and_copy-copied.ensures.lives.1 ∙ sym c.requires.gone.1) listed)
