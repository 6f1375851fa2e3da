-- Lines that are written in pieces.
use Rattle.std.proofs.Common.{◌≡◌, ℕ, List, [], ◌++◌, length, take, drop, refl, sym, ◌∙◌, ap, subst, arith}
use Rattle.std.specs.Prelude.{Option, Some, None, Result, Ok, Err, OnErr, OnOk}
use Rattle.std.specs.Option.{option_map}
use Rattle.std.proofs.lemmas.List.{append_assoc, append-nil, length-append, take_at, take-append-drop}
use Rattle.io_face.specs.Told.{Adds, AddsPrefix}

-- nothing added
pub adds_nothing : (old : Option (List ℕ)) → Adds old old []
adds_nothing None = refl
adds_nothing (Some before) = ap Some (sym (append-nil before))

-- one text added behind another
pub adds_more : (old mid new : Option (List ℕ)) (front back : List ℕ) → Adds old mid front → Adds mid new back → Adds old new (front ++ back)
adds_more None mid new front back first second = second ∙ ap (λ o. option_map (λ before. before ++ back) o) first
adds_more (Some before) mid new front back first second =
    second ∙ ap (λ o. option_map (λ before. before ++ back) o) first ∙ ap Some (append_assoc before front back)

-- the texts so far, those that wait, and those to come are all
pub record Writing (old now : Option (List ℕ)) (waiting coming all : List ℕ) : Type 0 where
  pub done : List ℕ
  pub added : Adds old now done
  pub whole : done ++ waiting ++ coming ≡ all

-- before the first
pub writing_none : (old : Option (List ℕ)) (all : List ℕ) → Writing old old [] all all
writing_none old all = record { done = []; added = adds_nothing old; whole = refl }

-- one more text waits
pub writing_more : (old now : Option (List ℕ)) (waiting line coming all : List ℕ) → Writing old now waiting (line ++ coming) all → Writing old now (waiting ++ line) coming all
writing_more old now waiting line coming all writing = record {
  done = writing.done;
  added = writing.added;
  whole = ap (λ front. front ++ coming) (sym (append_assoc writing.done waiting line))
      ∙ append_assoc (writing.done ++ waiting) line coming ∙ writing.whole;
}

-- what waited is written
pub writing_written : (old now new : Option (List ℕ)) (waiting coming all : List ℕ) → Writing old now waiting coming all → Adds now new waiting → Writing old new [] coming all
writing_written old now new waiting coming all writing adds = record {
  done = writing.done ++ waiting;
  added = adds_more old now new writing.done waiting writing.added adds;
  whole = ap (λ front. front ++ coming) (append-nil (writing.done ++ waiting)) ∙ writing.whole;
}

-- what was written and what waits, by other names
pub writing_renamed : (old now other : Option (List ℕ)) (waiting same coming all : List ℕ) → other ≡ now → same ≡ waiting → Writing old now waiting coming all → Writing old other same coming all
writing_renamed old now other waiting same coming all now_is waiting_is writing =
    subst (λ o. Writing old o same coming all) (sym now_is) (subst (λ w. Writing old now w coming all) (sym waiting_is) writing)

-- all is written
pub writing_all : (old now new : Option (List ℕ)) (waiting all : List ℕ) → Writing old now waiting [] all → Adds now new waiting → Adds old new all
writing_all old now new waiting all writing adds =
    adds_more old now new writing.done waiting writing.added adds ∙ ap (λ text. option_map (λ before. before ++ text) old) (sym (append-nil (writing.done ++ waiting)) ∙ writing.whole)

-- a front of all was written, at a want of memory
pub writing_front : (old now : Option (List ℕ)) (waiting coming all : List ℕ) → Writing old now waiting coming all → AddsPrefix old now all
writing_front old now waiting coming all writing =
    let parts : writing.done ++ (waiting ++ coming) ≡ all = sym (append_assoc writing.done waiting coming) ∙ writing.whole in
    let front : take (length writing.done) all ≡ writing.done = ap (take (length writing.done)) (sym parts) ∙ take_at writing.done (waiting ++ coming) (length writing.done) refl in
    (length writing.done, (omega (arith, ap length parts, length-append writing.done (waiting ++ coming)), writing.added ∙ ap (λ text. option_map (λ before. before ++ text) old) (sym front)))

-- a front of what waited was written, at a fault
pub writing_part : (old now new : Option (List ℕ)) (waiting coming all : List ℕ) → Writing old now waiting coming all → AddsPrefix now new waiting → AddsPrefix old new all
writing_part old now new waiting coming all writing part =
    let count : ℕ = part.0 in
    let text : List ℕ = writing.done ++ take count waiting in
    let rest : List ℕ = drop count waiting ++ coming in
    let parts : text ++ rest ≡ all =
    append_assoc writing.done (take count waiting) rest
    ∙ ap (λ back. writing.done ++ back) (sym (append_assoc (take count waiting) (drop count waiting) coming) ∙ ap (λ w. w ++ coming) (take-append-drop count waiting))
    ∙ sym (append_assoc writing.done waiting coming) ∙ writing.whole in
    let front : take (length text) all ≡ text = ap (take (length text)) (sym parts) ∙ take_at text rest (length text) refl in (
      length text,
      (
        omega (arith, ap length parts, length-append text rest),
        adds_more old now new writing.done (take count waiting) writing.added part.1.1 ∙ ap (λ t. option_map (λ before. before ++ t) old) (sym front),
      ),
    )

-- what holds anyway holds on an error
pub on_err : {X E : Type 0} (result : Result X E) (P : Type 0) → P → OnErr result P
on_err (Ok value) P holds = tt
on_err (Err error) P holds = holds

-- what follows from what holds on an error
pub on_err_then : {X E : Type 0} (result : Result X E) (P Q : Type 0) → OnErr result P → (P → Q) → OnErr result Q
on_err_then (Ok value) P Q holds f = tt
on_err_then (Err error) P Q holds f = f holds

-- what follows from what holds at a success
pub on_ok_then : {X E : Type 0} (result : Result X E) (P Q : Type 0) → OnOk result P → (P → Q) → OnOk result Q
on_ok_then (Ok value) P Q holds f = f holds
on_ok_then (Err error) P Q holds f = tt
