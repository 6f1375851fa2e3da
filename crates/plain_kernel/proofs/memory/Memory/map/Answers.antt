-- The first area finds no other.
use Rattle.std.proofs.Common.{Ok, sym, ◌∙◌, ap, ◌∷◌, []}
use Rattle.vm_base.specs.FlatMemory.{FlatMemory}
use Rattle.plain_kernel.proofs.FirstArea.{map_of-first}
use Rattle.plain_kernel.proofs.memory.Memory.map.Goals as goal

pub returns : goal.returns
returns c =
    map_of-first c.args.self.now c.args.first c.args.pages c.args.perm c.requires.unmapped
    ∙ ap (λ (m : FlatMemory). Ok (record { areas = record { first = c.args.first; pages = c.args.pages; perm = c.args.perm } ∷ []; present = m.present })) (sym c.self.view_is)
