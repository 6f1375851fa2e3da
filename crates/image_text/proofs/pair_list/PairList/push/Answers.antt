use Rattle.std.proofs.Common.{◌≡◌, ◌+◌, ℕ, List, [], ◌∷◌, ◌++◌, length, sym, ap, subst, ◌∙◌, arith, length-append}
use Rattle.std.proofs.lemmas.List.{append_assoc}
use Rattle.image_text.specs.Pairs.{pairs_between, ArePairEnds}
use Rattle.image_text.specs.Image.{HasImage, IsBehind}
use Rattle.image_text.specs.declared.pair_end.PairEnd.{PairEnd}
use Rattle.image_text.proofs.Buffers.{pairs_between-push, ArePairEnds-push}
use Rattle.image_text.proofs.Rising.{HasImage-push}
use Rattle.image_text.proofs.pair_list.PairList.push.Goals as goal

-- the buffer and the ends behind a push
record Pushed (bytes bytes' key value : List ℕ) (ends ends' : List PairEnd)
    (end : PairEnd) : Type 0 where
  bytes_are : bytes' ≡ bytes ++ (key ++ value)
  ends_are : ends' ≡ ends ++ end ∷ []
  key_ends : end.key ≡ length bytes + length key
  value_ends : end.value ≡ length bytes + length key + length value
  were : ArePairEnds 0 ends (length bytes)

ends_after : (bytes bytes' key value : List ℕ) (ends ends' : List PairEnd) (end : PairEnd) →
    Pushed bytes bytes' key value ends ends' end → ArePairEnds 0 ends' (length bytes')
ends_after bytes bytes' key value ends ends' end p =
    let size : end.value ≡ length bytes' = omega (
      arith,
      p.value_ends,
      ap length p.bytes_are,
      length-append bytes
          (key ++ value),
      length-append key value,
    ) in
    subst (λ (es : List PairEnd). ArePairEnds 0 es (length bytes')) (sym p.ends_are)
    (subst (ArePairEnds 0 (ends ++ end ∷ [])) size (ArePairEnds-push 0 ends (length bytes) end
    (omega (arith, p.key_ends)) (omega (arith, p.key_ends, p.value_ends)) p.were))

pairs_after : (bytes bytes' key value : List ℕ) (ends ends' : List PairEnd) (end : PairEnd) →
    Pushed bytes bytes' key value ends ends' end →
    pairs_between 0 bytes' ends' ≡ pairs_between 0 bytes ends ++ (key, value) ∷ []
pairs_after bytes bytes' key value ends ends' end p =
    ap (λ (bs : List ℕ). pairs_between 0 bs ends') p.bytes_are
    ∙ ap (pairs_between 0 (bytes ++ (key ++ value))) p.ends_are
    ∙ pairs_between-push 0 bytes key value ends end p.key_ends p.value_ends p.were

pub invariant_of-self-2 : goal.invariant_of-self-2
invariant_of-self-2 c =
    let inside = c.self.inside in
    let end : PairEnd = record { key = c.len-key.result; value = c.len-value.result } in
    let first = c.in_ok-extend_from_slice.ensures.items
    ∙ ap (λ (bs : List ℕ). bs ++ c.args.key.now) c.in_ok-reserve-2.ensures.items in
    let pushed : Pushed inside.bytes.items c.extend_from_slice-2.new.self.items c.args.key.now
    c.args.value.now inside.ends.items c.push_reserved.new.self.items end = record {
      bytes_are = c.in_ok-extend_from_slice-2.ensures.items
          ∙ ap (λ (bs : List ℕ). bs ++ c.args.value.now) first
          ∙ append_assoc inside.bytes.items c.args.key.now c.args.value.now;
      ends_are = c.push_reserved.ensures.items
          ∙ ap (λ (es : List PairEnd). es ++ end ∷ []) c.in_ok-reserve.ensures.items;
      key_ends = c.len-key.ensures ∙ c.extend_from_slice.new.self.ok.0 ∙ ap length first
          ∙ length-append inside.bytes.items c.args.key.now;
      value_ends = omega (
        arith,
        c.len-value.ensures,
        c.extend_from_slice-2.new.self.ok.0,
        ap
            length c.in_ok-extend_from_slice-2.ensures.items,
        length-append
            c.extend_from_slice.new.self.items c.args.value.now,
        ap length first,
        length-append
            inside.bytes.items c.args.key.now,
      );
      were = c.self.invariant.0;
    } in
    let image = HasImage-push (pairs_between 0 inside.bytes.items inside.ends.items) c.args.key.now
    c.args.value.now c.self.invariant.1
    (omega (arith, ap length c.self.view_is, c.requires.fewer)) (subst (λ (ps : List (List ℕ
    × List ℕ)). IsBehind ps c.args.key.now)
    (sym c.self.view_is) c.requires.greater) c.requires.key_fits c.requires.value_fits in (
      ends_after _ _ _ _ _ _ end pushed,
      subst HasImage (sym
          (pairs_after _ _ _ _ _ _ end pushed)) image,
    )

pub returns-clause-added : goal.returns-clause-added
returns-clause-added c =
    let inside = c.self.inside in
    let end : PairEnd = record { key = c.len-key.result; value = c.len-value.result } in
    let first = c.in_ok-extend_from_slice.ensures.items
    ∙ ap (λ (bs : List ℕ). bs ++ c.args.key.now) c.in_ok-reserve-2.ensures.items in
    let pushed : Pushed inside.bytes.items c.extend_from_slice-2.new.self.items c.args.key.now
    c.args.value.now inside.ends.items c.push_reserved.new.self.items end = record {
      bytes_are = c.in_ok-extend_from_slice-2.ensures.items
          ∙ ap (λ (bs : List ℕ). bs ++ c.args.value.now) first
          ∙ append_assoc inside.bytes.items c.args.key.now c.args.value.now;
      ends_are = c.push_reserved.ensures.items
          ∙ ap (λ (es : List PairEnd). es ++ end ∷ []) c.in_ok-reserve.ensures.items;
      key_ends = c.len-key.ensures ∙ c.extend_from_slice.new.self.ok.0 ∙ ap length first
          ∙ length-append inside.bytes.items c.args.key.now;
      value_ends = omega (
        arith,
        c.len-value.ensures,
        c.extend_from_slice-2.new.self.ok.0,
        ap
            length c.in_ok-extend_from_slice-2.ensures.items,
        length-append
            c.extend_from_slice.new.self.items c.args.value.now,
        ap length first,
        length-append
            inside.bytes.items c.args.key.now,
      );
      were = c.self.invariant.0;
    } in
    pairs_after _ _ _ _ _ _ end pushed ∙ ap (λ (ps : List (List ℕ
    × List ℕ)). ps ++ (c.args.key.now, c.args.value.now) ∷ []) c.self.view_is
