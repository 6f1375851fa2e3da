use Rattle.std.proofs.Common.{◌≡◌, ◌+◌, ◌-◌, ◌/◌, ◌≤◌, ◌^◌, None}
use Rattle.page_tables.specs.Standing.{slot_count}
use Rattle.page_tables.specs.Held.{frames_of}
use Rattle.page_tables.proofs.UnmapSteps.{IsUnmappedUpTo}
use Rattle.page_tables.proofs.KeptWriting.{AreStopped}
use Rattle.page_tables.proofs.tables.PageTables.unmap.Given as goal

abbrev pub invariant-loop-cell : goal.invariant-loop-cell
invariant-loop-cell g l =
    (l.end ≡ l.fn.first + l.fn.count)
    × ((l.fn.first / 512 ≤ l.next) × (l.next ≤ 2 ^ 27))
    × IsUnmappedUpTo g.A.Allot.goes (g.A.Allot.state l.fn.allot) (g.A.Allot.state l.allot) l.fn.first l.fn.count l.next l.fn.self l.self
    × (g.A.Allot.out (g.A.Allot.state l.allot) + frames_of l.fn.self ≡ g.A.Allot.out (g.A.Allot.state l.fn.allot) + frames_of l.self)
    × (g.A.Allot.grants l.allot ≡ None)
    × (slot_count l.self ≡ slot_count l.fn.self)
    × (g.A.Allot.refused (g.A.Allot.state l.allot) ≡ g.A.Allot.refused (g.A.Allot.state l.fn.allot))
    × (l.self.snapshot ≡ l.fn.self.snapshot)
    × AreStopped l.fn.first l.fn.count l.next l.fn.self l.self

abbrev pub decreases-loop-cell : goal.decreases-loop-cell
decreases-loop-cell g l = 2 ^ 27 - l.next
