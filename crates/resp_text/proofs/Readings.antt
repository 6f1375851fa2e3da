-- Bytes have one reading, and a break is final.
use Rattle.std.proofs.Common.{◌≡◌, ℕ, ◌+◌, ◌<◌, ◌≤◌, ◌↔◌, List, [], ◌∷◌, ◌++◌, length, length-append, take, drop, refl, sym, ap, subst, ◌∙◌, arith, inl, Option, Some, None, Result, Ok, Err}
use Rattle.std.proofs.lemmas.List.{append_assoc, append-nil, take-append-drop, take-append-le, take-take, take_all, nil_from_length}
use Rattle.resp_text.specs.Grammar.{IsStream, IsBegun, IsUnfinished, item_requests}
use Rattle.resp_text.specs.Breaks.{EndsIn, IsPartBehind}
use Rattle.resp_text.specs.Reading.{Reading, StandsForBytes, BreaksAt, FeedsOn, HasTaken, WasFed, FeedsBehind, ReadAlike, answer_of}
use Rattle.resp_text.specs.declared.fault.FeedFault.{FeedFault}
use Rattle.resp_text.specs.declared.fault.FeedFault.TheVariants.{Protocol, NoMemory}
use Rattle.resp_text.specs.declared.fault.ProtocolKind.{ProtocolKind}
use Rattle.resp_text.proofs.Grammars.{one_reading, begun}
use Rattle.resp_text.proofs.Breaks.{one_part}

-- no bytes begin an item
pub nothing_unfinished : IsUnfinished []
nothing_unfinished = (42, 48 ∷ 13 ∷ 10 ∷ [], (None, inl refl))

pub one_stream : (whole other rest behind : List ℕ) (requests others : List (List (List ℕ))) →
    IsStream whole requests → IsStream other others → IsUnfinished rest → IsUnfinished behind →
    whole ++ rest ≡ other ++ behind →
    (requests ≡ others) × (whole ≡ other) × (rest ≡ behind)
one_stream whole other rest behind requests others (is, p, r) (js, q, o) u v e =
    let one = one_reading is js whole other rest behind p q u v e in
    (r ∙ ap item_requests one.items ∙ sym o, one.whole_text, one.rest_text)

-- the bytes taken are whole items exactly where none are left
pub all_whole : (reader : Reading) (taken : List ℕ) (given : List (List (List ℕ))) →
    StandsForBytes reader taken given → (length reader.rest ≡ 0) ↔ ((requests : List (List (List ℕ)))
    × IsStream taken requests)
all_whole reader taken given s = (
  λ none. (
    given ++ reader.waiting,
    subst (λ (t : List ℕ). IsStream t (given ++ reader.waiting))
        (sym (append-nil s.whole) ∙ ap (λ (t : List ℕ). s.whole ++ t) (sym
        (nil_from_length reader.rest none)) ∙ sym s.is) s.stream,
  ),
  λ h. ap length (one_stream s.whole taken reader.rest [] _ _ s.stream h.1 s.unfinished
      nothing_unfinished (sym s.is ∙ sym (append-nil taken))).2,
)

-- no bytes behind a break mend it
pub break_is_final : (bytes more : List ℕ) (place : ℕ) (requests : List (List (List ℕ))) →
    (kind : ProtocolKind) → BreaksAt bytes place kind → IsStream (bytes ++ more) requests → ⊥
break_is_final bytes more place requests kind b stream =
    b.broken (
      drop (place + 1) bytes ++ more,
      requests,
      subst (λ
          (t : List ℕ). IsStream t requests) (ap (λ (t : List ℕ). t ++ more) (sym (take-append-drop
          (place + 1) bytes)) ∙ append_assoc (take (place + 1) bytes) (drop
          (place + 1) bytes) more) stream,
    )

-- what begins a stream begins one at each place before
begun_before : (bytes : List ℕ) (n m : ℕ) → n ≤ m → IsBegun (take m bytes) →
    IsBegun (take n bytes)
begun_before bytes n m order (more, requests, stream) = (
  drop n (take m bytes) ++ more,
  requests,
  subst (λ (t : List ℕ). IsStream t requests) (ap (λ (t : List ℕ). t ++ more)
      (sym (take-append-drop n (take m bytes))
      ∙ ap (λ (t : List ℕ). t ++ drop n (take m bytes)) (take-take n m bytes order))
      ∙ append_assoc (take n bytes) (drop n (take m bytes)) more) stream,
)

no_later : (bytes : List ℕ) (place other : ℕ) (kind second : ProtocolKind) →
    BreaksAt bytes place kind → BreaksAt bytes other second → place < other → ⊥
no_later bytes place other kind second b o later = b.broken (begun_before bytes (place + 1) other
    (omega (arith, later)) o.begun)

-- the bytes end in one part
ends_in_one : (bytes : List ℕ) (kind second : ProtocolKind) → EndsIn bytes kind →
    EndsIn bytes second → kind ≡ second
ends_in_one bytes kind second a b =
    let one = one_stream a.whole b.whole a.rest b.rest _ _ a.stream b.stream a.unfinished
    b.unfinished (sym a.is ∙ b.is) in
    one_part a.rest kind second a.part (subst (λ (t : List ℕ). IsPartBehind t second)
    (sym one.2) b.part)

-- bytes break at one place at most, and in one part
pub one_break : (bytes : List ℕ) (place other : ℕ) (kind second : ProtocolKind) →
    BreaksAt bytes place kind → BreaksAt bytes other second → (place ≡ other) × (kind ≡ second)
one_break bytes place other kind second b o =
    let not_before : place < other → ⊥ = no_later bytes place other kind second b o in
    let not_behind : other < place → ⊥ = no_later bytes other place second kind o b in
    let same : place ≡ other = omega (arith, not_before, not_behind) in (
      same,
      ends_in_one (take other bytes) kind second (subst (λ (n : ℕ). EndsIn (take n bytes) kind)
          same b.part) o.part,
    )

-- a break stays where more bytes follow
BreaksAt-append : (bytes more : List ℕ) (place : ℕ) (kind : ProtocolKind) →
    BreaksAt bytes place kind → BreaksAt (bytes ++ more) place kind
BreaksAt-append bytes more place kind b =
    let before : take place (bytes ++ more) ≡ take place bytes = take-append-le place bytes more
    (omega (arith, b.within)) in
    let with : take (place + 1) (bytes ++ more) ≡ take (place + 1) bytes = take-append-le
    (place + 1) bytes more (omega (arith, b.within)) in
    record {
      within = omega (arith, b.within, length-append bytes more);
      begun = subst IsBegun (sym before) b.begun;
      broken = λ h. b.broken (subst IsBegun with h);
      part = subst (λ (t : List ℕ). EndsIn t kind) (sym before) b.part;
    }

-- readers that took the same bytes have the same
taken_alike : (reader other : Reading) (taken : List ℕ) (given others : List (List (List ℕ))) →
    reader.fault ≡ other.fault → StandsForBytes reader taken given →
    StandsForBytes other taken others → ReadAlike reader other given others
taken_alike reader other taken given others same s o =
    let one = one_stream s.whole o.whole reader.rest other.rest _ _ s.stream o.stream s.unfinished
    o.unfinished (sym s.is ∙ o.is) in
    record {
      requests = one.0;
      rest = one.2;
      before = s.before ∙ ap length one.1 ∙ sym o.before;
      fault = same;
    }

-- bytes that were all taken break nowhere
taken_unbroken : (reader : Reading) (taken : List ℕ) (given : List (List (List ℕ))) (place : ℕ)
    (kind : ProtocolKind) → StandsForBytes reader taken given → BreaksAt taken place kind → ⊥
taken_unbroken reader taken given place kind s b =
    let all : IsBegun (take (length taken) taken) = subst IsBegun
    (sym s.is ∙ sym (take_all (length taken) taken (omega arith)))
    (begun s.whole reader.rest (given ++ reader.waiting) s.stream s.unfinished) in
    b.broken (begun_before taken (place + 1) (length taken) (omega (arith, b.within)) all)

alike : (reader other : Reading) (fed : List ℕ) (given others : List (List (List ℕ)))
    (fault second : Option FeedFault) → reader.fault ≡ fault → other.fault ≡ second →
    HasTaken fault reader fed given → HasTaken second other fed others →
    ReadAlike reader other given others
alike reader other fed given others None None e f s o = taken_alike reader other fed given others
    (e ∙ sym f) s o
alike reader other fed given others None (Some NoMemory) e f s o = absurd o
alike reader other fed given others None (Some (Protocol place kind)) e f s o = absurd
    (taken_unbroken reader fed given place kind s o.0)
alike reader other fed given others (Some NoMemory) second e f s o = absurd s
alike reader other fed given others (Some (Protocol place kind)) None e f s o = absurd
    (taken_unbroken other fed others place kind o s.0)
alike reader other fed given others (Some (Protocol place kind)) (Some NoMemory) e f s o = absurd o
alike reader other fed given others (Some (Protocol place kind)) (Some (Protocol at second)) e f s
    o =
    let one = one_break fed place at kind second s.0 o.0 in
    let same : Some (Protocol place kind) ≡ Some (Protocol at second) =
    ap (λ (n : ℕ). Some (Protocol n kind)) one.0 ∙ ap (λ (k : ProtocolKind). Some (Protocol at k))
    one.1 in
    taken_alike reader other (take at fed) given others (e ∙ same ∙ sym f)
    (subst (λ (n : ℕ). StandsForBytes reader (take n fed) given) one.0 s.1) o.1

pub one_reading_in_any_pieces : (reader other : Reading) (fed : List ℕ)
    (given others : List (List (List ℕ))) → WasFed reader fed given → WasFed other fed others →
    ReadAlike reader other given others
one_reading_in_any_pieces reader other fed given others s o = alike reader other fed given others
    reader.fault other.fault refl refl s o

-- a feed of a reader that is broken
on_broken : (reader : Reading) (fed piece : List ℕ) (given : List (List (List ℕ)))
    (fault : FeedFault) → HasTaken (Some fault) reader fed given →
    HasTaken (Some fault) reader (fed ++ piece) given
on_broken reader fed piece given NoMemory s = s
on_broken reader fed piece given (Protocol place kind) s = (
  BreaksAt-append fed piece place kind s.0,
  subst (λ (t : List ℕ). StandsForBytes reader t given) (sym (take-append-le place fed piece
      (omega (arith, s.0.within)))) s.1,
)

answers_broken : (old new : Reading) (fed piece : List ℕ) (given : List (List (List ℕ)))
    (fault : FeedFault) → new.fault ≡ Some fault → WasFed new (fed ++ piece) given →
    HasTaken (Some fault) new fed given → FeedsBehind old new fed piece given (Err fault)
answers_broken old new fed piece given NoMemory is was h = absurd h
answers_broken old new fed piece given (Protocol place kind) is was h = (was, ap answer_of (sym is))

pub feeds_broken : (reader : Reading) (fed piece : List ℕ) (given : List (List (List ℕ)))
    (fault : FeedFault) → reader.fault ≡ Some fault → WasFed reader fed given →
    FeedsBehind reader reader fed piece given (Err fault)
feeds_broken reader fed piece given fault is was =
    let broken : HasTaken (Some fault) reader fed given = subst (λ (f : Option FeedFault). HasTaken
    f reader fed given) is was in
    answers_broken reader reader fed piece given fault is (subst (λ (f : Option FeedFault). HasTaken
    f reader (fed ++ piece) given) (sym is) (on_broken reader fed piece given fault broken)) broken

-- a feed of a reader that is not
pub feeds_on : (old new : Reading) (fed piece : List ℕ) (given : List (List (List ℕ)))
    (result : Result (Unit {0}) FeedFault) → FeedsOn old new (fed ++ piece) given result →
    FeedsBehind old new fed piece given result
feeds_on old new fed piece given (Ok tt) h = (
  subst (λ (f : Option FeedFault). HasTaken f new (fed ++ piece) given) (sym h.1) h.0,
  ap answer_of (sym h.1),
)
feeds_on old new fed piece given (Err NoMemory) h = h
feeds_on old new fed piece given (Err (Protocol place kind)) h = (
  subst (λ (f : Option FeedFault). HasTaken f new (fed ++ piece) given) (sym h.2) (h.0, h.1),
  ap answer_of (sym h.2),
)

-- the first request that waits is given
next_stands : (old new : Reading) (taken : List ℕ) (given more : List (List (List ℕ))) →
    old.waiting ≡ more ++ new.waiting → old.rest ≡ new.rest → old.before ≡ new.before →
    StandsForBytes old taken given → StandsForBytes new taken (given ++ more)
next_stands old new taken given more waiting rest before s = record {
  whole = s.whole;
  is = s.is ∙ ap (λ (t : List ℕ). s.whole ++ t) rest;
  stream = subst (IsStream s.whole) (ap (λ (rs : List (List (List ℕ))). given ++ rs) waiting
      ∙ sym (append_assoc given more new.waiting)) s.stream;
  before = sym before ∙ s.before;
  unfinished = subst IsUnfinished rest s.unfinished;
}

pub gives : (fault : Option FeedFault) (old new : Reading) (fed : List ℕ)
    (given more : List (List (List ℕ))) → old.waiting ≡ more ++ new.waiting →
    old.rest ≡ new.rest → old.before ≡ new.before → HasTaken fault old fed given →
    HasTaken fault new fed (given ++ more)
gives None old new fed given more waiting rest before h = next_stands old new fed given more
    waiting rest before h
gives (Some NoMemory) old new fed given more waiting rest before h = h
gives (Some (Protocol place kind)) old new fed given more waiting rest before h = (
  h.0,
  next_stands old new (take place fed) given more waiting rest before h.1,
)
