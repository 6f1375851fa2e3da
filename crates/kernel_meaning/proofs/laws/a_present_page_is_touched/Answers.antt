use Rattle.kernel_meaning.specs.Leaves.{version_at}
use Rattle.kernel_meaning.proofs.NeverRefused.{touched_as-refused}
use Rattle.kernel_meaning.proofs.laws.a_present_page_is_touched.Goals as goal

pub returns : goal.returns
returns c = λ page course is_present. touched_as-refused (version_at course.cell.parent page) page course is_present
