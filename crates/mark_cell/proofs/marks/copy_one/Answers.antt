use Rattle.std.proofs.Common.{◌≡◌, refl, sym, ◌∙◌, ap}
use Rattle.mark_cell.proofs.CopyOnes.{is_mark, no-mark, made-copied, made-denied, made-nothing, made-lost}
use Rattle.mark_cell.proofs.marks.copy_one.Goals as goal

pub returns-in-Ok-clause-made : goal.returns-in-Ok-clause-made
returns-in-Ok-clause-made g c = made-copied g.A.Allot.goes (g.A.Allot.state c.args.allot.now) c.args.number c.args.cell.now
    (g.A.Allot.state c.take.new.self) c.own_leaf.new.self
    c.in-Ok.ensures.granted (λ account stands. ap is_mark (sym (c.state.ensures.account account stands) ∙ c.in-Marked.is))
    c.own_leaf.ensures.owned

pub returns-in-Err-clause-made : goal.returns-in-Err-clause-made
returns-in-Err-clause-made g c = made-denied g.A.Allot.goes (g.A.Allot.state c.args.allot.now) c.args.number c.args.cell.now
    (g.A.Allot.state c.take.new.self) c.in-Err.refused
    c.in-Err.ensures.denied (λ account stands. ap is_mark (sym (c.state.ensures.account account stands) ∙ c.in-Marked.is))

pub returns-in-Lost-clause-made : goal.returns-in-Lost-clause-made
returns-in-Lost-clause-made g c = made-lost g.A.Allot.goes (g.A.Allot.state c.args.allot.now) c.args.number c.args.cell.now c.in-Lost.at
    (λ account stands. sym c.in-Lost.is ∙ c.state.ensures.account account stands)

pub returns-in-Absent : goal.returns-in-Absent
returns-in-Absent g c = record {
  made = made-nothing g.A.Allot.goes (g.A.Allot.state c.args.allot.now) c.args.number c.args.cell.now c.state.result
      (no-mark c.state.result c.in-Absent.is).0 (no-mark c.state.result c.in-Absent.is).1 c.state.ensures.account;
  held = refl;
  spent = refl;
  leaves = (refl, refl);
}

pub take-requires : goal.take-requires
take-requires g c = c.requires.granted (sym c.state.ensures.state ∙ c.in-Marked.is)
