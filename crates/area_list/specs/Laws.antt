-- Laws of lists of areas.
use Rattle.std.specs.Prelude.{◌≡◌, ℕ, List}
use Rattle.std.specs.FinMap.{retain_keys}
use Rattle.vm_base.specs.declared.permission.Perm.{Perm}
use Rattle.vm_base.specs.FlatMemory.{Area, FlatMemory, AreInOrder}
use Rattle.vm_base.specs.FlatStep.{map_of, unmap_of, protect_of, is_beyond}
use Rattle.area_list.specs.AreaList.{permission_at}
use Rattle.area_list.specs.Calls.{areas_mapped, areas_unmapped, areas_protected, on_memory}

-- the permission of each page fixes the list
abbrev pub PagesFixAreas : Type 0
PagesFixAreas = (one other : List Area) → AreInOrder one → AreInOrder other
    → ((page : ℕ) → permission_at one page ≡ permission_at other page) → one ≡ other

-- the calls change the areas of a memory as they change the list, or are refused alike; unmapping takes the pages out besides
abbrev pub CallsAreThoseOnMemory : Type 0
CallsAreThoseOnMemory = (memory : FlatMemory) (first n : ℕ) (perm : Perm)
    → (map_of memory first n perm ≡ on_memory memory (areas_mapped memory.areas first n perm))
    × (unmap_of memory first n ≡ on_memory (record memory { present = retain_keys memory.present (is_beyond first n) }) (areas_unmapped memory.areas first n))
    × (protect_of memory first n perm ≡ on_memory memory (areas_protected memory.areas first n perm))
