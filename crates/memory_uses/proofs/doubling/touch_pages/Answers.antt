use Rattle.std.proofs.Common.{◌+◌, ◌≤◌, arith, ◌∙◌}
use Rattle.std.proofs.lemmas.Result.{err_from_is_err_and}
use Rattle.memory_uses.proofs.Pieces.{pages_more, kept_more}
use Rattle.memory_uses.proofs.doubling.touch_pages.Goals as goal

pub returns-in_err-touch-clause-failed : goal.returns-in_err-touch-clause-failed
returns-in_err-touch-clause-failed g c =
    let exit = err_from_is_err_and c.from_residual.result c.from_residual.ensures.1 in
    rw (exit.1, exit.2) (record {
      done = c.loop-done.done;
      piece = c.min-piece.result;
      within = omega (arith, c.loop-done.invariant.within, c.min-piece.ensures);
      before = g.M.Memory.state c.loop-done.memory;
      front = c.loop-done.invariant.front;
      fails = c.in_err-touch.ensures.fault;
    })

pub returns-in_err-touch-clause-keeps : goal.returns-in_err-touch-clause-keeps
returns-in_err-touch-clause-keeps g c =
    kept_more (g.M.Memory.state c.args.memory.now) (g.M.Memory.state c.loop-done.memory) (g.M.Memory.state c.touch.new.self) c.args.first c.args.pages
    c.loop-done.done c.min-piece.result (omega (arith, c.loop-done.invariant.within, c.min-piece.ensures)) c.loop-done.invariant.kept c.touch.ensures.keeps

pub loop-done-preserved : goal.loop-done-preserved
loop-done-preserved g c =
    let within : c.loop-done.done + c.min-piece.result ≤ c.args.pages = omega (arith, c.loop-done.invariant.within, c.min-piece.ensures) in
    record {
      within = within;
      front = pages_more (g.M.Memory.state c.args.memory.now) (g.M.Memory.state c.loop-done.memory) (g.M.Memory.state c.touch.new.self) c.args.first
          c.loop-done.done c.min-piece.result c.loop-done.invariant.front c.in_ok-touch.ensures.touched c.touch.ensures.keeps.counted;
      kept = kept_more (g.M.Memory.state c.args.memory.now) (g.M.Memory.state c.loop-done.memory) (g.M.Memory.state c.touch.new.self) c.args.first c.args.pages
          c.loop-done.done c.min-piece.result within c.loop-done.invariant.kept c.touch.ensures.keeps;
      aside = c.touch.ensures.aside ∙ c.loop-done.invariant.aside;
      went = g.met.M.Memory.went_on _ _ _ c.loop-done.invariant.went c.touch.ensures.went;
    }
