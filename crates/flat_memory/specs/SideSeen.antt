-- One side as a flat memory.
use Rattle.vm_base.specs.FlatMemory.{FlatMemory}
use Rattle.flat_memory.specs.declared.side.Side.{Side}

-- its areas, and the pages that are present
abbrev pub mem_of : Side → FlatMemory
mem_of side = record { areas = side.areas; present = side.pages.present }
