-- How several bytes change what may follow.
use Rattle.std.proofs.Common.{◌≡◌, ℕ, ◌+◌, ◌-◌, ◌<◌, ◌≤◌, min, List, [], ◌∷◌, ◌++◌, length, take, drop, get_or, refl, sym, ap, subst, ◌∙◌, arith, length-append}
use Rattle.std.proofs.lemmas.List.{append_assoc, append-nil, drop_at, drop-append-le, length-drop, length-take-le, take_more, take_all, nil_from_length}
use Rattle.std.proofs.Math.Seq.{take-add}
use Rattle.resp_text.specs.Residual.{FinishesBody, Finishes, IsSoundScan, IsAtByte, StepMeans, StepReads, LeadsOn, HasRead, ReadsOn, PassesOver}
use Rattle.resp_text.specs.declared.scan.Scan.{Scan}
use Rattle.resp_text.specs.declared.scan.Run.{Run}
use Rattle.resp_text.specs.declared.scan.Part.{Part}
use Rattle.resp_text.specs.declared.scan.Part.TheVariants.{Body}
use Rattle.resp_text.specs.declared.scan.Step.TheVariants.{Go, Whole, Break}
use Rattle.resp_text.specs.declared.fault.ProtocolKind.{ProtocolKind}
use Rattle.resp_text.proofs.Histories.{body_longer}

-- no bytes lead nowhere else
pub LeadsOn-nil : (scan : Scan) → LeadsOn scan [] scan
LeadsOn-nil scan tail = (λ h. h, λ h. h)

pub ReadsOn-nil : (scan : Scan) → ReadsOn scan [] scan
ReadsOn-nil scan front h = subst (HasRead scan) (sym (append-nil front)) h

-- one list of bytes behind another
pub LeadsOn-append : (a b c : Scan) (x y : List ℕ) → LeadsOn a x b → LeadsOn b y c → LeadsOn a (x ++ y) c
LeadsOn-append a b c x y first second tail = (
  λ h. (second tail).0 ((first (y ++ tail)).0 (subst (Finishes a) (append_assoc x y tail) h)),
  λ h. subst (Finishes a) (sym (append_assoc x y tail)) ((first (y ++ tail)).1 ((second tail).1 h)),
)

pub ReadsOn-append : (a b c : Scan) (x y : List ℕ) → ReadsOn a x b → ReadsOn b y c →
    ReadsOn a (x ++ y) c
ReadsOn-append a b c x y first second front h = subst (HasRead c) (append_assoc front x y)
    (second (front ++ x) (first front h))

-- some bytes of a word
pub body_leads : (left words room : ℕ) (bytes : List ℕ) → length bytes ≤ left →
    LeadsOn (record { part = Body left; words = words; room = room }) bytes (record {
      part = Body
          (left - length bytes);
      words = words;
      room = room;
    })
body_leads left words room bytes fits tail = (λ h. shorter h, λ h. longer h) where
  shorter : FinishesBody left words room (bytes ++ tail) →
      FinishesBody (left - length bytes) words room tail
  shorter (word, rest, len, is, ws) = (
    drop (length bytes) word,
    rest,
    length-drop (length bytes) word ∙ ap (λ (n : ℕ). n - length bytes) len,
    sym (drop_at bytes tail (length bytes) refl) ∙ ap (drop (length bytes)) is
        ∙ drop-append-le (length bytes) word (13 ∷ 10 ∷ rest) (omega (arith, len, fits)),
    ws,
  )

  longer : FinishesBody (left - length bytes) words room tail →
      FinishesBody left words room (bytes ++ tail)
  longer (word, rest, len, is, ws) = (
    bytes ++ word,
    rest,
    omega (arith, length-append bytes word, len, fits),
    ap (λ (t : List ℕ). bytes ++ t) is ∙ sym (append_assoc bytes word (13 ∷ 10 ∷ rest)),
    ws,
  )

-- bytes of a word are passed over
pub passes_over : (scan : Scan) (left available taken : ℕ) → scan.part ≡ Body left →
    taken ≡ min available left →
    PassesOver scan available (record {
      scan = record {
        part = Body
            (left - taken);
        words = scan.words;
        room = scan.room;
      };
      taken = taken;
    })
passes_over scan left available taken is least = record {
  within = omega (arith, least);
  sound = tt;
  leads = λ bytes len. subst (λ (part : Part). LeadsOn
      (record { part = part; words = scan.words; room = scan.room }) bytes (record {
        part = Body
            (left - taken);
        words = scan.words;
        room = scan.room;
      })) (sym is)
      (subst (λ (n : ℕ). LeadsOn (record { part = Body left; words = scan.words; room = scan.room })
      bytes (record { part = Body (left - n); words = scan.words; room = scan.room })) len
      (body_leads left scan.words scan.room bytes (omega (arith, len, least))));
  reads = λ bytes len. subst (λ (part : Part). ReadsOn
      (record { part = part; words = scan.words; room = scan.room }) bytes (record {
        part = Body
            (left - taken);
        words = scan.words;
        room = scan.room;
      })) (sym is)
      (subst (λ (n : ℕ). ReadsOn (record { part = Body left; words = scan.words; room = scan.room })
      bytes (record { part = Body (left - n); words = scan.words; room = scan.room })) len
      (λ front h. body_longer front bytes left scan.words (omega (arith, len, least)) h));
  due = λ more. omega (arith, least, more);
}

-- a reader that is no word's passes nothing over
pub passes_none : (scan : Scan) (available : ℕ) → IsSoundScan scan → IsAtByte scan.part →
    PassesOver scan available (record { scan = scan; taken = 0 })
passes_none scan available sound due = record {
  within = omega arith;
  sound = sound;
  leads = λ bytes none. subst (λ (bs : List ℕ). LeadsOn scan bs scan) (sym
      (nil_from_length bytes none)) (LeadsOn-nil scan);
  reads = λ bytes none. subst (λ (bs : List ℕ). ReadsOn scan bs scan) (sym
      (nil_from_length bytes none)) (ReadsOn-nil scan);
  due = λ _. due;
}

-- the front of a list, and what is passed over behind it
pub leads_over : (first scan : Scan) (run : Run) (available at : ℕ) (bytes : List ℕ) →
    at + run.taken ≤ length bytes → LeadsOn first (take at bytes) scan →
    PassesOver scan available run → LeadsOn first (take (at + run.taken) bytes) run.scan
leads_over first scan run available at bytes fits leads over =
    let passed : length (take run.taken (drop at bytes)) ≡ run.taken = length-take-le run.taken
    (drop at bytes) (omega (arith, length-drop at bytes, fits)) in
    subst (λ (bs : List ℕ). LeadsOn first bs run.scan) (sym (take-add at run.taken bytes))
    (LeadsOn-append first scan run.scan _ _ leads (over.leads (take run.taken
    (drop at bytes)) passed))

pub reads_over : (first scan : Scan) (run : Run) (available at : ℕ) (bytes : List ℕ) →
    at + run.taken ≤ length bytes → ReadsOn first (take at bytes) scan →
    PassesOver scan available run → ReadsOn first (take (at + run.taken) bytes) run.scan
reads_over first scan run available at bytes fits reads over =
    let passed : length (take run.taken (drop at bytes)) ≡ run.taken = length-take-le run.taken
    (drop at bytes) (omega (arith, length-drop at bytes, fits)) in
    subst (λ (bs : List ℕ). ReadsOn first bs run.scan) (sym (take-add at run.taken bytes))
    (ReadsOn-append first scan run.scan _ _ reads (over.reads (take run.taken
    (drop at bytes)) passed))

-- one byte behind a front
pub leads_step : (first scan next : Scan) (at : ℕ) (bytes : List ℕ) → at < length bytes →
    LeadsOn first (take at bytes) scan → StepMeans scan (get_or bytes at 0) (Go next) →
    LeadsOn first (take (at + 1) bytes) next
leads_step first scan next at bytes fits leads step =
    subst (λ (bs : List ℕ). LeadsOn first bs next) (sym (take_more bytes at 0 fits))
    (LeadsOn-append first scan next (take at bytes) (get_or bytes at 0 ∷ []) leads step.1)

pub reads_step : (first scan next : Scan) (at : ℕ) (bytes : List ℕ) → at < length bytes →
    ReadsOn first (take at bytes) scan → StepReads scan (get_or bytes at 0) (Go next) →
    ReadsOn first (take (at + 1) bytes) next
reads_step first scan next at bytes fits reads step =
    subst (λ (bs : List ℕ). ReadsOn first bs next) (sym (take_more bytes at 0 fits))
    (ReadsOn-append first scan next (take at bytes) (get_or bytes at 0 ∷ []) reads step)

-- a byte that ends the item
pub ends_step : (first scan : Scan) (at : ℕ) (bytes : List ℕ) → at < length bytes →
    LeadsOn first (take at bytes) scan → StepMeans scan (get_or bytes at 0) Whole →
    Finishes first (take (at + 1) bytes)
ends_step first scan at bytes fits leads step =
    subst (Finishes first) (sym (take_more bytes at 0 fits)) ((leads (get_or bytes at 0 ∷ [])).1
    ((step []).1 refl))

-- a byte with which the item is none
pub breaks_step : (first scan : Scan) (kind : ProtocolKind) (at : ℕ) (bytes : List ℕ) →
    at < length bytes → LeadsOn first (take at bytes) scan →
    StepMeans scan (get_or bytes at 0) (Break kind) → (tail : List ℕ) →
    Finishes first (take (at + 1) bytes ++ tail) → ⊥
breaks_step first scan kind at bytes fits leads step tail h =
    step tail ((leads (get_or bytes at 0 ∷ tail)).0 (subst (Finishes first) (ap (λ
    (bs : List ℕ). bs ++ tail) (take_more bytes at 0 fits)
    ∙ append_assoc (take at bytes) (get_or bytes at 0 ∷ []) tail) h))

-- the whole list
pub leads_all : (first scan : Scan) (at : ℕ) (bytes : List ℕ) → length bytes ≤ at →
    LeadsOn first (take at bytes) scan → LeadsOn first bytes scan
leads_all first scan at bytes all leads = subst (λ (bs : List ℕ). LeadsOn first bs scan)
    (take_all at bytes all) leads

pub reads_all : (first scan : Scan) (at : ℕ) (bytes : List ℕ) → length bytes ≤ at →
    ReadsOn first (take at bytes) scan → ReadsOn first bytes scan
reads_all first scan at bytes all reads = subst (λ (bs : List ℕ). ReadsOn first bs scan)
    (take_all at bytes all) reads
