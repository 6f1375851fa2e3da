-- How what is read of one list of bytes goes on with what is read of the next.
use Rattle.std.proofs.Common.{◌≡◌, ℕ, ◌+◌, ◌<◌, ◌≤◌, List, [], ◌++◌, length, take, drop, refl, sym, ap, subst, ◌∙◌, arith, length-append, Option, Some, None, option_to_list}
use Rattle.std.proofs.lemmas.List.{append_assoc, append-nil, take_all, drop-take, length-drop, length-take-le, take-append-drop}
use Rattle.std.proofs.Math.Seq.{take-add, take-append-add, drop-append-add}
use Rattle.resp_text.specs.Grammar.{IsItem, IsStream, IsWholeItem}
use Rattle.resp_text.specs.Breaks.{IsPartBehind}
use Rattle.resp_text.specs.Residual.{IsSoundScan, Finishes, LeadsOn, ReadsOn}
use Rattle.resp_text.specs.Pieces.{StandsBehind, EndsFor, Reads}
use Rattle.resp_text.specs.declared.scan.Scan.{Scan}
use Rattle.resp_text.specs.declared.requests.Reached.{Reached}
use Rattle.resp_text.specs.declared.fault.ProtocolKind.{ProtocolKind}
use Rattle.resp_text.proofs.Grammars.{IsStream-append, IsStream-item}

-- the requests of whole items came
abbrev pub Came : List (List (List ℕ)) → List (List (List ℕ)) → List ℕ → Type 0
Came old new text = (came : List (List (List ℕ))) × IsStream text came × (new ≡ old ++ came)

-- an item came
abbrev pub ItemCame : List (List (List ℕ)) → List (List (List ℕ)) → List ℕ → Type 0
ItemCame old new text = (item : Option (List (List ℕ))) × IsItem text item
    × (new ≡ old ++ option_to_list item)

pub came_item : (old new : List (List (List ℕ))) (text : List ℕ) → ItemCame old new text →
    Came old new text
came_item old new text (i, item, e) = (option_to_list i, IsStream-item text i item, e)

pub came_append : (old mid new : List (List (List ℕ))) (a b : List ℕ) → Came old mid a →
    Came mid new b → Came old new (a ++ b)
came_append old mid new a b (x, first, e) (y, second, f) = (
  x ++ y,
  IsStream-append a b x y first second,
  f
      ∙ ap (λ (rs : List (List (List ℕ))). rs ++ y) e ∙ append_assoc old x y,
)

pub came_more : (old mid new : List (List (List ℕ))) (bytes text : List ℕ) (whole taken : ℕ) →
    whole + taken ≤ length bytes → text ≡ take taken (drop whole bytes) →
    Came old mid (take whole bytes) → ItemCame mid new text →
    Came old new (take (whole + taken) bytes)
came_more old mid new bytes text whole taken fits e before item =
    subst (Came old new) (ap (λ (t : List ℕ). take whole bytes ++ t) e
    ∙ sym (take-add whole taken bytes)) (came_append old mid new (take whole bytes) text before
    (came_item mid new text item))

pub reads_open : (old new : List (List (List ℕ))) (bytes behind : List ℕ) (scan : Scan)
    (whole : ℕ) → whole ≤ length bytes → behind ≡ drop whole bytes →
    Came old new (take whole bytes) → StandsBehind scan behind →
    Reads old new bytes (record { scan = scan; whole = whole; end = length bytes; kind = None })
reads_open old new bytes behind scan whole fits e (came, stream, is) stands = record {
  came = came;
  stream = stream;
  waiting = is;
  order = fits;
  within = omega arith;
  stands = subst (StandsBehind scan) (e ∙ ap (drop whole) (sym (take_all (length bytes) bytes
      (omega arith)))) stands;
  ends = refl;
}

pub reads_broken : (old new : List (List (List ℕ))) (bytes behind : List ℕ) (scan : Scan)
    (kind : ProtocolKind) (whole at : ℕ) → whole ≤ length bytes → behind ≡ drop whole bytes →
    Came old new (take whole bytes) →
    at < length behind → StandsBehind scan (take at behind) → ((tail : List ℕ) →
    IsWholeItem (take (at + 1) behind ++ tail) → ⊥) → IsPartBehind (take at behind) kind →
    Reads old new bytes (record { scan = scan; whole = whole; end = whole + at; kind = Some kind })
reads_broken old new bytes behind scan kind whole at fits e
    (came, stream, is) within stands broken part =
    let inside : whole + at < length bytes = omega
    (arith, within, ap length e, length-drop whole bytes) in
    let byte : drop whole (take (whole + at + 1) bytes) ≡ take (at + 1) behind =
    ap (λ (n : ℕ). drop whole (take n bytes)) (omega arith) ∙ drop-take whole (at + 1) bytes
    ∙ ap (take (at + 1)) (sym e) in
    let before : take at behind ≡ drop whole (take (whole + at) bytes) = ap (take at) e
    ∙ sym (drop-take whole at bytes) in
    record {
      came = came;
      stream = stream;
      waiting = is;
      order = omega arith;
      within = omega (arith, inside);
      stands = subst (StandsBehind scan) before stands;
      ends = (
        inside,
        λ tail h. broken tail (subst IsWholeItem (ap (λ
            (t : List ℕ). t ++ tail) byte) h),
        subst (λ (t : List ℕ). IsPartBehind t kind) before part,
      );
    }

-- a reader that stood behind some bytes stands behind those that follow
pub stands_on : (scan next : Scan) (rest x : List ℕ) → StandsBehind scan rest → IsSoundScan next →
    LeadsOn scan x next → ReadsOn scan x next → StandsBehind next (rest ++ x)
stands_on scan next rest x stands sound leads reads = record {
  sound = sound;
  leads = λ tail. (
    λ h. (leads tail).0 ((stands.leads (x ++ tail)).0 (subst IsWholeItem (append_assoc rest x tail) h)),
    λ h. subst IsWholeItem (sym (append_assoc rest x tail)) ((stands.leads (x ++ tail)).1
        ((leads tail).1 h)),
  );
  read = reads rest stands.read;
}

-- what finishes the item
pub ends_on : (scan : Scan) (rest x : List ℕ) → StandsBehind scan rest → Finishes scan x →
    IsWholeItem (rest ++ x)
ends_on scan rest x stands finishes = (stands.leads x).1 finishes

pub breaks_on : (scan : Scan) (rest x : List ℕ) → StandsBehind scan rest → ((tail : List ℕ) →
    Finishes scan (x ++ tail) → ⊥) → (tail : List ℕ) → IsWholeItem ((rest ++ x) ++ tail) → ⊥
breaks_on scan rest x stands broken tail h = broken tail ((stands.leads (x ++ tail)).0
    (subst IsWholeItem (append_assoc rest x tail) h))

-- what is read behind a whole item
between : (text more : List ℕ) (n from to : ℕ) → n ≡ length text →
    drop (n + from) (take (n + to) (text ++ more)) ≡ drop from (take to more)
between text more n from to len =
    ap (λ (k : ℕ). drop (k + from) (take (k + to) (text ++ more))) len
    ∙ ap (drop (length text + from)) (take-append-add text more to)
    ∙ drop-append-add text (take to more) from

-- all bytes of a list, or those before a break, behind a whole item
ends_after : (kind : Option ProtocolKind) (text more : List ℕ) (n whole end : ℕ) →
    n ≡ length text → EndsFor more whole end kind →
    EndsFor (text ++ more) (n + whole) (n + end) kind
ends_after None text more n whole end len e = omega (arith, e, len, length-append text more)
ends_after (Some kind) text more n whole end len (within, broken, part) = (
  omega (arith, within, len, length-append text more),
  λ tail h. broken tail (subst IsWholeItem (ap (λ (t : List ℕ). t ++ tail) (ap (λ (k : ℕ). drop
      (n + whole) (take k (text ++ more))) (omega arith)
      ∙ between text more n whole (end + 1) len)) h),
  subst (λ (t : List ℕ). IsPartBehind t kind) (sym (between text more n whole end len)) part,
)

pub reads_after : (old mid new : List (List (List ℕ))) (text more : List ℕ) (n : ℕ)
    (r : Reached) → n ≡ length text → ItemCame old mid text → Reads mid new more r →
    Reads old new (text ++ more) (record {
      scan = r.scan;
      whole = n + r.whole;
      end = n + r.end;
      kind = r.kind;
    })
reads_after old mid new text more n r len item reads =
    let front : take (n + r.whole) (text ++ more) ≡ text ++ take r.whole more = ap (λ
    (k : ℕ). take (k + r.whole) (text ++ more)) len ∙ take-append-add text more r.whole in
    let came = came_append old mid new text (take r.whole more) (came_item old mid text item)
    (reads.came, reads.stream, reads.waiting) in
    record {
      came = came.0;
      stream = subst (λ (t : List ℕ). IsStream t came.0) (sym front) came.1;
      waiting = came.2;
      order = omega (arith, reads.order);
      within = omega (arith, reads.within, len, length-append text more);
      stands = subst (StandsBehind r.scan) (sym
          (between text more n r.whole r.end len)) reads.stands;
      ends = ends_after r.kind text more n r.whole r.end len reads.ends;
    }

-- nothing came
came_none : (old : List (List (List ℕ))) → Came old old []
came_none old = ([], ([], refl, refl), sym (append-nil old))

-- an item that began before the piece goes on behind it, or breaks in it
pub reads_open_first : (old new : List (List (List ℕ))) (rest piece : List ℕ) (scan : Scan)
    (end : ℕ) → new ≡ old → end ≡ length rest + length piece → StandsBehind scan (rest ++ piece) →
    Reads old new (rest ++ piece) (record { scan = scan; whole = 0; end = end; kind = None })
reads_open_first old new rest piece scan end same len stands =
    subst (λ (k : ℕ). Reads old new (rest ++ piece)
    (record { scan = scan; whole = 0; end = k; kind = None })) (length-append rest piece
    ∙ sym len)
    (reads_open old new (rest ++ piece) (rest ++ piece) scan 0 (omega arith) refl (subst (λ
    (n : List (List (List ℕ))). Came old n []) (sym same) (came_none old)) stands)

pub reads_broken_first : (old new : List (List (List ℕ))) (rest piece : List ℕ) (scan : Scan)
    (kind : ProtocolKind) (at end : ℕ) → new ≡ old → end ≡ length rest + at → at < length piece →
    StandsBehind scan (rest ++ take at piece) →
    ((tail : List ℕ) → IsWholeItem ((rest ++ take (at + 1) piece) ++ tail) → ⊥) →
    IsPartBehind (rest ++ take at piece) kind →
    Reads old new (rest ++ piece) (record { scan = scan; whole = 0; end = end; kind = Some kind })
reads_broken_first old new rest piece scan kind at end same len within stands broken part =
    subst (λ (k : ℕ). Reads old new (rest ++ piece)
    (record { scan = scan; whole = 0; end = k; kind = Some kind })) (omega (arith, len))
    (reads_broken old new (rest ++ piece) (rest ++ piece) scan kind 0 (length rest + at)
    (omega arith) refl (subst (λ (n : List (List (List ℕ))). Came old n []) (sym same)
    (came_none old))
    (omega (arith, within, length-append rest piece))
    (subst (StandsBehind scan) (sym (take-append-add rest piece at)) stands)
    (λ tail h. broken tail (subst IsWholeItem (ap (λ (t : List ℕ). t ++ tail) (ap (λ (k : ℕ). take k
    (rest ++ piece)) (omega arith) ∙ take-append-add rest piece (at + 1))) h))
    (subst (λ (t : List ℕ). IsPartBehind t kind) (sym (take-append-add rest piece at)) part))

-- the bytes of the item in which the reader then stands
pub rest_after : (rest piece : List ℕ) (taken from to n : ℕ) → taken ≤ length piece →
    n ≡ length rest + taken → drop from (take to (drop taken piece)) ≡ drop (n + from) (take
    (n + to) (rest ++ piece))
rest_after rest piece taken from to n fits len =
    let text : List ℕ = rest ++ take taken piece in
    let size : n ≡ length text = omega (
      arith,
      len,
      length-append rest
          (take taken piece),
      length-take-le taken piece fits,
    ) in
    sym (between text (drop taken piece) n from to size)
    ∙ ap (λ (t : List ℕ). drop (n + from) (take (n + to) t)) (append_assoc rest
    (take taken piece) (drop taken piece) ∙ ap (λ (t : List ℕ). rest ++ t)
    (take-append-drop taken piece))

pub reads_behind_item : (old mid new : List (List (List ℕ))) (rest piece : List ℕ) (taken n : ℕ)
    (r : Reached) → taken ≤ length piece → n ≡ length rest + taken →
    ItemCame old mid (rest ++ take taken piece) → Reads mid new (drop taken piece) r →
    Reads old new (rest ++ piece) (record {
      scan = r.scan;
      whole = n + r.whole;
      end = n + r.end;
      kind = r.kind;
    })
reads_behind_item old mid new rest piece taken n r fits len item reads =
    let size : n ≡ length (rest ++ take taken piece) = omega (
      arith,
      len,
      length-append rest
          (take taken piece),
      length-take-le taken piece fits,
    ) in
    subst (λ (t : List ℕ). Reads old new t
    (record { scan = r.scan; whole = n + r.whole; end = n + r.end; kind = r.kind }))
    (append_assoc rest (take taken piece) (drop taken piece)
    ∙ ap (λ (t : List ℕ). rest ++ t) (take-append-drop taken piece))
    (reads_after old mid new (rest ++ take taken piece) (drop taken piece) n r size item reads)
