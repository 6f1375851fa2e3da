use Rattle.std.proofs.Common.{subst}
use Rattle.vm_base.specs.MemoryState.{IsKept}
use Rattle.memory_uses.proofs.putting.put_three.Goals as goal

pub returns-clause-keeps : goal.returns-clause-keeps
returns-clause-keeps g c cells one two three =
    subst (λ s. IsKept s (g.M.Memory.state c.touch_three.new.memory) cells) c.read.ensures.same (c.touch_three.ensures.keeps cells one two three)

pub returns-clause-went : goal.returns-clause-went
returns-clause-went g c = g.met.M.Memory.went_on _ _ _ c.read.ensures.went c.touch_three.ensures.went
