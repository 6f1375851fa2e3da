use Rattle.resp_text.proofs.Scans.{passes_over}
use Rattle.resp_text.proofs.scan.Scan.pass_over.Goals as goal

pub returns : goal.returns
returns c = passes_over c.args.self c.in-Body.left c.args.available c.min-taken.result c.in-Body.is
    c.min-taken.ensures
