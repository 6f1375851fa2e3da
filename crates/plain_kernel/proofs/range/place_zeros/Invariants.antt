-- As many zeros are left as pages of the rest are absent, and touching the rest gives what touching all gives.
use Rattle.vm_base.specs.FlatStep.{with_pages}
use Rattle.plain_kernel.proofs.Absent.{Placing}
use Rattle.plain_kernel.proofs.range.place_zeros.Given as goal

abbrev pub invariant-loop-page : goal.invariant-loop-page
invariant-loop-page l = Placing l.pages l.zeros.items l.page l.page-end (with_pages l.fn.pages l.first l.count)
