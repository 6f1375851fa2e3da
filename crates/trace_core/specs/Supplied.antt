-- A supply that a run of the kernel draws its frames from.
use Rattle.std.specs.Prelude.{◌≡◌}
use Rattle.vm_base.specs.declared.frame_request.Asker.TheVariants.{Parent}
use Rattle.kernel_meaning.specs.FrameLaw.{held_frames}
use Rattle.trace_core.specs.SupplyState.{SupplyState}
use Rattle.trace_core.specs.Answering.{pending_of}
use Rattle.trace_core.specs.KernelState.{Machine, KernelState}

-- the supply has made the machine's frames, and those that are out are those of the frame law; the parent asks, and has the count of the world; and the request that a refuse line names is pending, unless it was made
pub record IsSupplied (machine : Machine) (state : KernelState) (supply : SupplyState) : Type 0 where
  pub frames : supply.made ≡ machine.frames
  pub held : supply.out ≡ held_frames state.leaves
  pub asker : supply.asker ≡ Parent
  pub refused : supply.refused ≡ state.world.refused
  pub pending : supply.pending ≡ pending_of state.named state.made
