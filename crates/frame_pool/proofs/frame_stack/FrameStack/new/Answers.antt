use Rattle.std.proofs.Common.{◌≡◌, ◌+◌, [], ◌∷◌, ◌++◌, map, All, sym, ◌∙◌, ap, subst, refl}
use Rattle.std.proofs.lemmas.List.{map-append}
use Rattle.std.proofs.lemmas.List.Elements.{All-push}
use Rattle.vm_base.specs.FlatMemory.{zero_page}
use Rattle.vm_base.specs.Frames.{new_frame}
use Rattle.frame_pool.proofs.ListLemmas.{range-push}
use Rattle.frame_pool.proofs.frame_stack.FrameStack.new.Goals as goal

pub loop-number-preserved : goal.loop-number-preserved
loop-number-preserved c =
    let so_far = c.loop-number.invariant in
    let number = c.loop-number.number in
    let items : c.push_reserved.new.self.items ≡ c.loop-number.frames.items ++ new_frame number ∷ [] =
    c.push_reserved.ensures.items ∙ ap (λ frame. c.loop-number.frames.items ++ frame ∷ []) c.in_ok-new.ensures in (
      ap (map (λ frame. frame.number)) items ∙ map-append (λ frame. frame.number) c.loop-number.frames.items (new_frame number ∷ [])
          ∙ ap (λ front. front ++ number ∷ []) so_far.0 ∙ sym (range-push number),
      c.push_reserved.ensures.len ∙ ap (λ n. n + 1) so_far.1,
      c.push_reserved.ensures.capacity ∙ so_far.2,
      subst (All (λ frame. frame.bytes ≡ zero_page)) (sym items)
          (All-push (λ frame. frame.bytes ≡ zero_page) c.loop-number.frames.items (new_frame number) so_far.3 refl),
    )
