-- What a feed leaves, for whatever bytes were fed before it.
use Rattle.std.proofs.Common.{◌≡◌, ℕ, ◌+◌, ◌≤◌, List, [], ◌∷◌, ◌++◌, length, take, drop, get_or, sym, ap, subst, ◌∙◌, arith, length-append, Some, None}
use Rattle.std.proofs.lemmas.List.{append_assoc, take_all, length-take-le, take-append-drop, take-take, take_more, drop-append-le}
use Rattle.std.proofs.Math.Seq.{take-append-add}
use Rattle.resp_text.specs.Grammar.{IsStream, IsBegun, IsWholeItem, IsUnfinished}
use Rattle.resp_text.specs.Reading.{Reading, StandsForBytes, BreaksAt}
use Rattle.resp_text.specs.Breaks.{IsPartBehind}
use Rattle.resp_text.specs.Pieces.{EndsFor, Reads}
use Rattle.resp_text.specs.declared.requests.Reached.{Reached}
use Rattle.resp_text.specs.declared.fault.ProtocolKind.{ProtocolKind}
use Rattle.resp_text.proofs.Grammars.{IsStream-append, begun, not_begun}
use Rattle.resp_text.proofs.Completions.{unfinished}

-- what a read of the bytes behind the last whole item leaves
pub record Follows (old new : Reading) (piece : List ℕ) (r : Reached) : Type 0 where
  pub reads : Reads old.waiting new.waiting (old.rest ++ piece) r
  pub rest : new.rest ≡ drop r.whole (take r.end (old.rest ++ piece))
  pub before : new.before ≡ old.before + r.whole

-- the bytes read are whole items and those that are left
split : (whole all : List ℕ) (n from to : ℕ) → n ≡ length whole → from ≤ to → to ≤ length all →
    take (n + to) (whole ++ all) ≡ (whole ++ take from all) ++ drop from (take to all)
split whole all n from to len order within =
    ap (λ (k : ℕ). take (k + to) (whole ++ all)) len ∙ take-append-add whole all to
    ∙ ap (λ (t : List ℕ). whole ++ t) (sym (take-append-drop from (take to all))
    ∙ ap (λ (t : List ℕ). t ++ drop from (take to all)) (take-take from to all order))
    ∙ sym (append_assoc whole (take from all) (drop from (take to all)))

-- the fed bytes, in two parts
regrouped : (old : Reading) (taken piece : List ℕ) (given : List (List (List ℕ)))
    (s : StandsForBytes old taken given) → taken ++ piece ≡ s.whole ++ (old.rest ++ piece)
regrouped old taken piece given s = ap (λ (t : List ℕ). t ++ piece) s.is
    ∙ append_assoc s.whole old.rest piece

-- the reader stands for the bytes that it read
pub stands_for : (old new : Reading) (taken piece : List ℕ) (given : List (List (List ℕ)))
    (r : Reached) → Follows old new piece r → StandsForBytes old taken given →
    StandsForBytes new (take (old.before + r.end) (taken ++ piece)) given
stands_for old new taken piece given r f s =
    let all : List ℕ = old.rest ++ piece in
    record {
      whole = s.whole ++ take r.whole all;
      is = ap (take (old.before + r.end)) (regrouped old taken piece given s)
          ∙ split s.whole all old.before r.whole r.end s.before f.reads.order f.reads.within
          ∙ ap (λ (t : List ℕ). (s.whole ++ take r.whole all) ++ t) (sym f.rest);
      stream = subst (IsStream (s.whole ++ take r.whole all))
          (append_assoc given old.waiting f.reads.came
          ∙ ap (λ (rs : List (List (List ℕ))). given ++ rs) (sym f.reads.waiting))
          (IsStream-append s.whole (take r.whole all)
          (given ++ old.waiting) f.reads.came s.stream f.reads.stream);
      before = omega (
        arith,
        f.before,
        s.before,
        length-append s.whole
            (take r.whole all),
        length-take-le r.whole all (omega
            (arith, f.reads.order, f.reads.within)),
      );
      unfinished = subst IsUnfinished (sym f.rest) (unfinished r.scan (drop r.whole
          (take r.end all)) f.reads.stands);
    }

-- all that was fed was read
pub stands_for_all : (old new : Reading) (taken piece : List ℕ) (given : List (List (List ℕ)))
    (r : Reached) → r.kind ≡ None → Follows old new piece r → StandsForBytes old taken given →
    StandsForBytes new (taken ++ piece) given
stands_for_all old new taken piece given r none f s =
    let ends : r.end ≡ length (old.rest ++ piece) = subst (EndsFor
    (old.rest ++ piece) r.whole r.end) none f.reads.ends in
    let all : length (taken ++ piece) ≤ old.before + r.end = omega (
      arith,
      ends,
      ap length
          (regrouped old taken piece given s),
      length-append s.whole (old.rest ++ piece),
      s.before,
    ) in
    subst (λ (t : List ℕ). StandsForBytes new t given) (take_all (old.before + r.end)
    (taken ++ piece) all) (stands_for old new taken piece given r f s)

-- the byte behind those that were read breaks the stream
pub breaks_at : (old new : Reading) (taken piece : List ℕ) (given : List (List (List ℕ)))
    (r : Reached) (kind : ProtocolKind) → r.kind ≡ Some kind → Follows old new piece r →
    StandsForBytes old taken given → BreaksAt (taken ++ piece) (old.before + r.end) kind
breaks_at old new taken piece given r kind some f s =
    let all : List ℕ = old.rest ++ piece in
    let ends : EndsFor all r.whole r.end (Some kind) = subst
    (EndsFor all r.whole r.end) some f.reads.ends in
    let after = stands_for old new taken piece given r f s in
    let stream : IsStream (s.whole ++ take r.whole all) ((given ++ old.waiting) ++ f.reads.came) =
    IsStream-append s.whole (take r.whole all)
    (given ++ old.waiting) f.reads.came s.stream f.reads.stream in
    let byte : ℕ = get_or all r.end 0 in
    let room : r.whole ≤ length (take r.end all) = omega
    (arith, length-take-le r.end all f.reads.within, f.reads.order) in
    let longer : drop r.whole (take (r.end + 1) all) ≡ new.rest ++ byte ∷ [] =
    ap (drop r.whole) (take_more all r.end 0 ends.0)
    ∙ drop-append-le r.whole (take r.end all) (byte ∷ []) room
    ∙ ap (λ (t : List ℕ). t ++ byte ∷ []) (sym f.rest) in
    let text : take (old.before + r.end + 1) (taken ++ piece) ≡ (s.whole ++ take r.whole all) ++
    (new.rest ++ byte ∷ []) =
    ap (λ (k : ℕ). take k (taken ++ piece)) (omega arith)
    ∙ ap (take (old.before + (r.end + 1))) (regrouped old taken piece given s)
    ∙ split s.whole all old.before r.whole (r.end + 1) s.before (omega (arith, f.reads.order))
    (omega (arith, ends.0))
    ∙ ap (λ (t : List ℕ). (s.whole ++ take r.whole all) ++ t) longer in
    record {
      within = omega (
        arith,
        ends.0,
        ap length
            (regrouped old taken piece given s),
        length-append s.whole all,
        s.before,
      );
      begun = subst IsBegun (sym after.is) (begun after.whole new.rest
          (given ++ new.waiting) after.stream after.unfinished);
      broken = λ h. not_begun stream.0 (s.whole ++ take r.whole all) new.rest byte stream.1
          after.unfinished
          (λ tail whole. ends.1 tail (subst IsWholeItem (sym (append_assoc new.rest
          (byte ∷ []) tail) ∙ ap (λ (t : List ℕ). t ++ tail) (sym longer)) whole))
          (subst IsBegun text h);
      part = record {
        whole = after.whole;
        rest = new.rest;
        requests = given ++ new.waiting;
        is = after.is;
        stream = after.stream;
        unfinished = after.unfinished;
        part = subst (λ (t : List ℕ). IsPartBehind t kind) (sym f.rest) ends.2;
      };
    }
