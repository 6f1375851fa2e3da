-- How a memory and a world are stored as numbers and lists, so that a proof can tell two of them apart.
use Rattle.std.specs.Prelude.{◌≡◌, ℕ, Bool, true, false, List, refl}
use Rattle.std.specs.Coded.{Coded, code_by, coded×, coded_ℕ, coded_bool, coded_list}
use Rattle.std.specs.Ordering.{nat_cmp}
use Rattle.std.specs.FinMap as map
use Rattle.vm_base.specs.declared.permission.Perm.{Perm}
use Rattle.vm_base.specs.declared.permission.Perm.TheVariants.{Read, ReadWrite}
use Rattle.vm_base.specs.FlatMemory.{Area, PageMap, FlatMemory}
use Rattle.vm_base.specs.FlatStep.{is_writable}
use Rattle.vm_base.specs.TwoSides.{Loss, World}

-- the permission that may, or may not, write
abbrev pub perm_of_bool : Bool → Perm
perm_of_bool true = ReadWrite
perm_of_bool false = Read

pub perm_again : (perm : Perm) → perm_of_bool (is_writable perm) ≡ perm
perm_again Read = refl
perm_again ReadWrite = refl

abbrev pub perm_code : Coded Perm
perm_code = code_by Bool coded_bool is_writable perm_of_bool perm_again

abbrev pub area_code : Coded Area
area_code = code_by (ℕ × (ℕ × Perm)) (coded× coded_ℕ (coded× coded_ℕ perm_code))
    (λ a. (a.first, (a.pages, a.perm))) (λ p. record { first = p.0; pages = p.1.0; perm = p.1.1 }) (λ _. refl)

abbrev pub page_map_code : Coded PageMap
page_map_code = map.code coded_ℕ (coded_list coded_ℕ)

abbrev pub flat_memory_code : Coded FlatMemory
flat_memory_code = code_by (List Area × PageMap) (coded× (coded_list area_code) page_map_code)
    (λ m. (m.areas, m.present)) (λ p. record { areas = p.0; present = p.1 }) (λ _. refl)

abbrev pub loss_code : Coded Loss
loss_code = code_by (ℕ × (ℕ × ℕ)) (coded× coded_ℕ (coded× coded_ℕ coded_ℕ))
    (λ l. (l.snapshot, (l.cell, l.at))) (λ p. record { snapshot = p.0; cell = p.1.0; at = p.1.1 }) (λ _. refl)

abbrev pub world_code : Coded World
world_code =
    code_by (FlatMemory × (map.FinMap nat_cmp FlatMemory × (List Loss × (ℕ × (ℕ × map.FinMap nat_cmp ℕ)))))
    (coded× flat_memory_code (coded× (map.code coded_ℕ flat_memory_code)
    (coded× (coded_list loss_code) (coded× coded_ℕ (coded× coded_ℕ (map.code coded_ℕ coded_ℕ))))))
    (λ w. (w.parent, (w.snapshots, (w.losses, (w.last, (w.refused, w.refused_copies))))))
    (λ p. record { parent = p.0; snapshots = p.1.0; losses = p.1.1.0; last = p.1.1.1.0; refused = p.1.1.1.1.0; refused_copies = p.1.1.1.1.1 })
    (λ _. refl)
