use Rattle.std.proofs.Common.{◌≡◌, length, max, ap, sym, ◌∙◌, arith}
use Rattle.std.specs.VecDeque.Iter.{deque_iter_rest}
use Rattle.io_face.specs.Memory.{longest}
use Rattle.io_face.proofs.ShelfLemmas.{longest-more}
use Rattle.io_face.proofs.mem_folder.longest.Goals as goal

pub loop-entry-preserved : goal.loop-entry-preserved
loop-entry-preserved c =
    let entry = c.in-Some.entry.now in
    let text : entry.1 ≡ c.entry.inside.text.items = sym (ap (λ e. e.1) c.entry.view_is) in
    let size : c.len.result ≡ length entry.1 = omega (arith, ap length text, c.entry.inside.text.ok.0, c.len.ensures) in
    let most : c.max-most.result ≡ max c.loop-entry.most (length entry.1) = c.max-most.ensures ∙ ap (max c.loop-entry.most) size in
    ap (λ n. longest n (deque_iter_rest c.next.new.self)) most ∙ longest-more _ entry _ _ c.in-Some.ensures.steps ∙ c.loop-entry.invariant
