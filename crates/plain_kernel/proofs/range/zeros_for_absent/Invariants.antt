-- The zeros so far, and as many as are absent in the rest, are as many as are absent in all.
use Rattle.plain_kernel.specs.Pages.{absent_count}
use Rattle.plain_kernel.proofs.Absent.{Counting}
use Rattle.plain_kernel.proofs.range.zeros_for_absent.Given as goal

abbrev pub invariant-loop-page : goal.invariant-loop-page
invariant-loop-page l = Counting l.pages l.zeros.items l.page l.page-end (absent_count l.fn.pages l.first l.count)
