use Rattle.std.proofs.Common.{◌≡◌, ◌≤◌, ◌++◌, ◌∷◌, [], ℕ, List, length, sym, ap, subst, ◌∙◌, arith, length-append}
use Rattle.resp_text.specs.Words.{words_at, AreWithin}
use Rattle.resp_text.specs.declared.request.Span.{Span}
use Rattle.resp_text.proofs.Buffers.{words_at-add, AreWithin-le, AreWithin-push}
use Rattle.resp_text.proofs.request.Request.add.Goals as goal

-- the places behind a push of the new word's
spans_are : (bytes bytes' word : List ℕ) (spans spans' : List Span) (span : Span) →
    bytes' ≡ bytes ++ word → spans' ≡ spans ++ span ∷ [] → span.start ≡ length bytes →
    span.end ≡ length bytes' → AreWithin spans (length bytes) → AreWithin spans' (length bytes')
spans_are bytes bytes' word spans spans' span b p start end were =
    let longer : length bytes ≤ length bytes' = omega (arith, ap length b, length-append bytes word)
    in
    subst (λ (ps : List Span). AreWithin ps (length bytes')) (sym p)
    (AreWithin-push spans span (length bytes') (omega (arith, start, end, longer)) (omega
    (arith, end)) (AreWithin-le spans (length bytes) (length bytes') longer were))

words_are : (bytes bytes' word : List ℕ) (spans spans' : List Span) (span : Span) →
    bytes' ≡ bytes ++ word → spans' ≡ spans ++ span ∷ [] → span.start ≡ length bytes →
    span.end ≡ length bytes' → AreWithin spans (length bytes) →
    words_at bytes' spans' ≡ words_at bytes spans ++ word ∷ []
words_are bytes bytes' word spans spans' span b p start end were =
    ap (λ (bs : List ℕ). words_at bs spans') b ∙ ap (words_at (bytes ++ word)) p
    ∙ words_at-add bytes word spans span start (end ∙ ap length b) were

pub invariant_of-self-2 : goal.invariant_of-self-2
invariant_of-self-2 c =
    spans_are c.self.inside.bytes.items _ c.args.word.now c.self.inside.words.items _
    (record { start = c.len-start.result; end = c.len-end.result })
    c.in_ok-extend_from_slice.ensures.items
    (c.push_reserved.ensures.items ∙ ap (λ (ps : List Span). ps ++ (record {
      start = c.len-start.result;
      end = c.len-end.result;
    }) ∷ []) c.in_ok-reserve.ensures.items)
    (c.len-start.ensures ∙ c.self.inside.bytes.ok.0)
    (c.len-end.ensures ∙ c.extend_from_slice.new.self.ok.0) c.self.invariant

pub returns-clause-added : goal.returns-clause-added
returns-clause-added c =
    words_are c.self.inside.bytes.items _ c.args.word.now c.self.inside.words.items _
    (record { start = c.len-start.result; end = c.len-end.result })
    c.in_ok-extend_from_slice.ensures.items
    (c.push_reserved.ensures.items ∙ ap (λ (ps : List Span). ps ++ (record {
      start = c.len-start.result;
      end = c.len-end.result;
    }) ∷ []) c.in_ok-reserve.ensures.items)
    (c.len-start.ensures ∙ c.self.inside.bytes.ok.0)
    (c.len-end.ensures ∙ c.extend_from_slice.new.self.ok.0) c.self.invariant
    ∙ ap (λ (ws : List (List ℕ)). ws ++ c.args.word.now ∷ []) c.self.view_is
