use Rattle.std.proofs.Common.{◌∙◌}
use Rattle.page_hash.proofs.AreaTouch.{front_more, front_fails, front_fails_keeps, front_end}
use Rattle.page_hash.proofs.doubling.touch_area.Goals as goal

pub loop-done-preserved : goal.loop-done-preserved
loop-done-preserved g c = record {
  front = λ is. front_more (g.M.Memory.state c.args.m.now) (g.M.Memory.state c.loop-done.m) (g.M.Memory.state c.touch.new.self) c.args.addr
      c.args.size c.loop-done.done c.min-piece.result is (c.loop-done.invariant.front is) c.min-piece.ensures
      c.in_default.ensures.touched c.in_default.ensures.keeps;
  aside = c.in_default.ensures.aside ∙ c.loop-done.invariant.aside;
  went = g.met.M.Memory.went_on _ _ _ c.loop-done.invariant.went c.in_default.ensures.went;
}

pub returns-in-Err-clause-left : goal.returns-in-Err-clause-left
returns-in-Err-clause-left g c never =
    front_fails (g.M.Memory.state c.args.m.now) (g.M.Memory.state c.loop-done.m) (g.M.Memory.state c.touch.new.self) c.args.addr
    c.args.size c.loop-done.done c.min-piece.result c.in-Err._fault c.requires.fresh (c.loop-done.invariant.front c.requires.fresh)
    c.loop-done-test.true c.min-piece.ensures c.in-Err.ensures.fault c.in-Err.ensures.keeps

pub returns-in-Err-clause-keeps : goal.returns-in-Err-clause-keeps
returns-in-Err-clause-keeps g c =
    (front_fails_keeps (g.M.Memory.state c.args.m.now) (g.M.Memory.state c.loop-done.m) (g.M.Memory.state c.touch.new.self) c.args.addr
    c.args.size c.loop-done.done c.min-piece.result c.requires.fresh (c.loop-done.invariant.front c.requires.fresh)
    c.min-piece.ensures c.in-Err.ensures.keeps)

pub returns-in-Err-clause-went : goal.returns-in-Err-clause-went
returns-in-Err-clause-went g c = g.met.M.Memory.went_on _ _ _ c.loop-done.invariant.went c.in-Err.ensures.went

pub returns-clause-touched : goal.returns-clause-touched
returns-clause-touched g c always =
    front_end (g.M.Memory.state c.args.m.now) (g.M.Memory.state c.loop-done.m) c.args.addr c.args.size c.loop-done.done c.requires.fresh
    (c.loop-done.invariant.front c.requires.fresh) c.loop-done-test.false

pub returns-clause-keeps : goal.returns-clause-keeps
returns-clause-keeps g c = (c.loop-done.invariant.front c.requires.fresh).kept
