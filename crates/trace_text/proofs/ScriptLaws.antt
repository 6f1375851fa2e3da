-- A text is read exactly where it is a script, and a fault is told exactly where the grammar has it.
use Rattle.std.proofs.Common.{◌≡◌, ℕ, suc, ◌+◌, ◌-◌, ◌<◌, ◌≤◌, List, [], length, take, Option, Some, None, Result, Ok, Err, refl, sym, ap, subst, ◌∙◌, arith, ◌⊎◌, inl, inr}
use Rattle.std.proofs.lemmas.List.{length-take}
use Rattle.std.proofs.lemmas.Bool.{cases_lt}
use Rattle.std.proofs.lemmas.List.Elements.{recursion_from_All}
use Rattle.std.proofs.Math.Seq.{take-length}
use Rattle.trace_events.specs.EventBounds.{IsWithinBounds}
use Rattle.trace_text.specs.declared.machine.Machine.{Machine}
use Rattle.trace_text.specs.ScriptGrammar.{ScriptParts, AreLinesOf, IsScript, IsFaultAt, MayBegin, kept_lines, lines_of}
use Rattle.std.specs.Prelude.{IfOk, IfErr}
use Rattle.trace_text.specs.declared.fault.ScriptFault.{ScriptFault}
use Rattle.trace_text.specs.declared.fault.ScriptFault.TheVariants.{Bad, NoMemory}
use Rattle.trace_text.specs.declared.script.Script.{Script}
use Rattle.trace_text.specs.SoFar.{GivesFound, RefusesText, SoFar, and_then, ended, lines_taken, no_lines_read, script_parts, said, script_of}
use Rattle.trace_text.proofs.Readings.{and_then_ok, broken, broken_is, not_both, ok_is, none_again, script_again, Stands, stands_empty, stands_lines, whole}
use Rattle.trace_text.proofs.Faults.{Breaks, breaks, fault_of_take, take-take}

-- the lines are read without a fault
abbrev Reads : List (List ℕ) → Type 0
Reads lines = (t : SoFar) × (lines_taken 1 no_lines_read lines ≡ Ok t)

lines_again : (lines : List (List ℕ)) (script : ScriptParts) → AreLinesOf lines script → lines_taken 1 no_lines_read lines ≡ Ok (whole script)
lines_again lines script are =
    script_again lines 1 are.first script are.machine (record {
      few_frames = are.frames_within.0;
      many_frames = are.frames_within.1;
      few_cells = are.cells_within.0;
      many_cells = are.cells_within.1;
    }) are.spelled (recursion_from_All IsWithinBounds script.events are.bounds) are.rising

reads_again : (lines : List (List ℕ)) → MayBegin lines → Reads lines
reads_again lines (inl none) = (no_lines_read, none_again lines 1 no_lines_read none)
reads_again lines (inr script) = (whole script.0, lines_again lines script.0 script.1)

begins_by : (lines : List (List ℕ)) (t : SoFar) (machine : Option Machine) → t.machine ≡ machine → Stands lines t → MayBegin lines
begins_by lines t None is stands = inl (rw is at stands).0
begins_by lines t (Some m) is stands = inr (said m t.events, (rw is at stands).0)

begins : (lines : List (List ℕ)) (t : SoFar) → lines_taken 1 no_lines_read lines ≡ Ok t → MayBegin lines
begins lines t h = begins_by lines t t.machine refl (stands_lines [] 1 no_lines_read lines t h stands_empty)

-- ---- scripts

ended_ok : (at : ℕ) (lines : List (List ℕ)) (t : SoFar) (script : ScriptParts) → ended at t ≡ Ok script → Stands lines t → AreLinesOf lines script
ended_ok at lines t script h stands = by t.machine refl h
  where
    by : (machine : Option Machine) → t.machine ≡ machine → ended at (record { machine = machine; events = t.events; last = t.last }) ≡ Ok script → AreLinesOf lines script
    by None is e = absurd cc
    by (Some m) is e = subst (AreLinesOf lines) (ok_is (said m t.events) script e) (rw is at stands).0

-- what is read of a text is the script
pub script_of_takes : (text : List ℕ) (script : ScriptParts) → script_of text ≡ Ok script → IsScript text script
unfolding script_of
script_of_takes text script h =
    let lines : List (List ℕ) = lines_of text in
    let step = and_then_ok (lines_taken 1 no_lines_read lines) (λ s. ended (suc (length lines)) s) script h in
    ended_ok (suc (length lines)) lines step.0 script step.2 (stands_lines [] 1 no_lines_read lines step.0 step.1 stands_empty)

-- a script is read
pub script_of_again : (text : List ℕ) (script : ScriptParts) → IsScript text script → script_of text ≡ Ok script
unfolding script_of
script_of_again text script is = rw (lines_again (lines_of text) script is) refl

-- ---- faults

abbrev answer : Type 0
answer = Result SoFar ℕ

no_both : (lines : List (List ℕ)) (line : ℕ) → lines_taken 1 no_lines_read lines ≡ Err line → MayBegin lines → ⊥
no_both lines line fault may =
    let reads = reads_again lines may in
    not_both reads.0 line (sym reads.1 ∙ fault)

fault_inside : (text : List ℕ) (line : ℕ) → Breaks 1 no_lines_read (lines_of text) line → IsFaultAt text line
fault_inside text line b =
    let is = b.is in
    let within = b.within in
    let above : line - 1 ≡ b.above = omega arith in
    let through : line ≡ suc b.above = omega arith in
    let front : MayBegin (take b.above (lines_of text)) = begins (take b.above (lines_of text)) b.so_far b.before in
    record {
      counted = omega arith;
      above = subst (λ (n : ℕ). MayBegin (take n (lines_of text))) (sym above) front;
      fault = inl (omega arith, subst (λ (n : ℕ). MayBegin (take n (lines_of text)) → ⊥) (sym through) (no_both (take (suc b.above) (lines_of text)) line b.fault));
    }

fault_behind : (text : List ℕ) (line : ℕ) → line ≡ suc (length (lines_of text)) → kept_lines (lines_of text) ≡ [] → IsFaultAt text line
fault_behind text line is none =
    let above : line - 1 ≡ length (lines_of text) = omega arith in
    let all : MayBegin (take (length (lines_of text)) (lines_of text)) = inl (ap kept_lines (take-length (lines_of text)) ∙ none) in
    record {
      counted = omega arith;
      above = subst (λ (n : ℕ). MayBegin (take n (lines_of text))) (sym above) all;
      fault = inr (omega arith, none);
    }

fault_by : (text : List ℕ) (line : ℕ) (r : answer) → lines_taken 1 no_lines_read (lines_of text) ≡ r → and_then r (λ s. ended (suc (length (lines_of text))) s) ≡ Err line → IsFaultAt text line
fault_by text line (Err other) is h = fault_inside text line (breaks (lines_of text) 1 no_lines_read line (is ∙ cc))
fault_by text line (Ok t) is h = by t.machine refl h
  where
    by : (machine : Option Machine) → t.machine ≡ machine → ended (suc (length (lines_of text))) (record { machine = machine; events = t.events; last = t.last }) ≡ Err line → IsFaultAt text line
    by None none e =
        let last : line ≡ suc (length (lines_of text)) = cc in
        let stands = stands_lines [] 1 no_lines_read (lines_of text) t is stands_empty in
        fault_behind text line last (rw none at stands).0
    by (Some m) some e = absurd cc

-- the line that is told is at fault
pub script_of_faults : (text : List ℕ) (line : ℕ) → script_of text ≡ Err line → IsFaultAt text line
unfolding script_of
script_of_faults text line h = fault_by text line (lines_taken 1 no_lines_read (lines_of text)) refl h

-- what breaks at a line above breaks before the line at fault
too_early : (lines : List (List ℕ)) (line : ℕ) (n : ℕ) → n ≤ line → MayBegin (take line lines) → (other : ℕ) → lines_taken 1 no_lines_read (take n lines) ≡ Err other → ⊥
too_early lines line n below may other fault =
    let shorter : lines_taken 1 no_lines_read (take n (take line lines)) ≡ Err other = ap (lines_taken 1 no_lines_read) (take-take n line lines below) ∙ fault in
    no_both (take line lines) other (fault_of_take n (take line lines) 1 no_lines_read other shorter) may

same_line : (lines : List (List ℕ)) (line other : ℕ) → 0 < line → MayBegin (take (line - 1) lines) → Breaks 1 no_lines_read (take line lines) other → other ≡ line
same_line lines line other counted above b =
    let is = b.is in
    let within = b.within in
    let short = length-take line lines in
    let below : suc b.above ≤ line = omega arith in
    elim (cases_lt (suc b.above) line) [
      | inl early ↦
          let told : lines_taken 1 no_lines_read (take (suc b.above) lines) ≡ Err other = ap (lines_taken 1 no_lines_read) (sym (take-take (suc b.above) line lines below)) ∙ b.fault in
          absurd (too_early lines (line - 1) (suc b.above) (omega arith) above other told)
      | inr late ↦ omega arith
    ]

breaks_there : (lines : List (List ℕ)) (line : ℕ) → 0 < line → MayBegin (take (line - 1) lines) → (MayBegin (take line lines) → ⊥) → lines_taken 1 no_lines_read lines ≡ Err line
breaks_there lines line counted above fault = by (lines_taken 1 no_lines_read (take line lines)) refl
  where
    by : (r : answer) → lines_taken 1 no_lines_read (take line lines) ≡ r → lines_taken 1 no_lines_read lines ≡ Err line
    by (Ok t) is = absurd (fault (begins (take line lines) t is))
    by (Err other) is =
        let same = same_line lines line other counted above (breaks (take line lines) 1 no_lines_read other is) in
        fault_of_take line lines 1 no_lines_read line (is ∙ ap (λ (n : ℕ). broken {A = SoFar} n) same)

-- a line at fault is told
pub script_of_faults_again : (text : List ℕ) (line : ℕ) → IsFaultAt text line → script_of text ≡ Err line
unfolding script_of
script_of_faults_again text line is = by is.fault
  where
    by : ((line ≤ length (lines_of text)) × (MayBegin (take line (lines_of text)) → ⊥)) ⊎ ((line ≡ length (lines_of text) + 1) × (kept_lines (lines_of text) ≡ [])) → script_of text ≡ Err line
    by (inl inside) = rw (breaks_there (lines_of text) line is.counted is.above inside.1) refl
    by (inr behind) =
        let last : suc (length (lines_of text)) ≡ line = omega (arith, behind.0) in
        rw (none_again (lines_of text) 1 no_lines_read behind.1, last) refl

-- ---- laws

pub one_script : (text : List ℕ) (one other : ScriptParts) → IsScript text one → IsScript text other → one ≡ other
one_script text one other first second = ok_is one other (sym (script_of_again text one first) ∙ script_of_again text other second)

pub one_fault : (text : List ℕ) (line other : ℕ) → IsFaultAt text line → IsFaultAt text other → line ≡ other
one_fault text line other first second =
    broken_is line other (sym (script_of_faults_again text line first) ∙ script_of_faults_again text other second)

pub script_or_fault : (text : List ℕ) → ((script : ScriptParts) × IsScript text script) ⊎ ((line : ℕ) × IsFaultAt text line)
script_or_fault text = by (script_of text) refl
  where
    by : (r : Result ScriptParts ℕ) → script_of text ≡ r → ((script : ScriptParts) × IsScript text script) ⊎ ((line : ℕ) × IsFaultAt text line)
    by (Ok script) is = inl (script, script_of_takes text script is)
    by (Err line) is = inr (line, script_of_faults text line is)

pub no_script_with_fault : (text : List ℕ) (script : ScriptParts) (line : ℕ) → IsScript text script → IsFaultAt text line → ⊥
no_script_with_fault text script line is fault =
    not_both script line (sym (script_of_again text script is) ∙ script_of_faults_again text line fault)

-- ---- the reader's answer

pub gives_script : (text : List ℕ) (r : Result Script ScriptFault) → GivesFound script_parts r (script_of text) → IfOk r (λ script. IsScript text (script_parts script))
gives_script text (Ok script) h = script_of_takes text (script_parts script) h
gives_script text (Err fault) h = tt

pub gives_fault : (text : List ℕ) (r : Result Script ScriptFault) → GivesFound script_parts r (script_of text) → IfErr r (λ fault. RefusesText text fault)
gives_fault text (Ok script) h = tt
gives_fault text (Err (Bad line)) h = script_of_faults text line h
gives_fault text (Err NoMemory) h = tt
