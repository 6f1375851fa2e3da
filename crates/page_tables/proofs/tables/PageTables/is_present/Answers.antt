use Rattle.std.proofs.Common.{sym, ◌∙◌}
use Rattle.page_tables.proofs.WrittenPages.{alone-ready}
use Rattle.page_tables.proofs.KeptWriting.{there-known}
use Rattle.page_tables.proofs.Known.{known-test}
use Rattle.page_tables.proofs.tables.PageTables.is_present.Goals as goal

pub returns-clause-alone : goal.returns-clause-alone
returns-clause-alone c = λ sides st. alone-ready c.args.self.now sides st c.args.page

pub returns-clause-there : goal.returns-clause-there
returns-clause-there c = known-test c.requires.stands (λ it. c.has_page.ensures.page it.0 it.1 ∙ sym (there-known c.args.self.now it.0 it.1 c.args.page))
