use Rattle.std.proofs.Common.{◌∙◌, arith, length-drop}
use Rattle.std.proofs.lemmas.List.{take_rest}
use Rattle.io_face.proofs.ToldLemmas.{Adds-next}
use Rattle.io_face.proofs.sink.write_all.Goals as goal

pub loop-done-preserved : goal.loop-done-preserved
loop-done-preserved g c =
    let text = c.args.text.now in
    let done = c.loop-done.done in
    let count = rw take_rest at c.in_ok-done.ensures.count in
    let added = rw take_rest at c.in_ok-done.ensures.added in
    record {
      within = omega (arith, length-drop done text, count, c.loop-done-test.true);
      written = Adds-next _ _ _ text done c.in_ok-done.field-0 c.loop-done.invariant.written added;
      faults = c.in_ok-done.ensures.quiet ∙ c.loop-done.invariant.faults;
    }
