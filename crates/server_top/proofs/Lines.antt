-- A loop over events whose lines are written.
use Rattle.std.proofs.Common.{◌≡◌, Bool, ℕ, ◌+◌, ◌<◌, arith, List, [], ◌∷◌, ◌++◌, length, take, drop, get_or, refl, sym, ◌∙◌, ap, subst}
use Rattle.std.specs.Prelude.{Option, Some, None}
use Rattle.std.proofs.lemmas.List.{take_more, append-nil, append_assoc, take-append-drop}
use Rattle.std.proofs.lemmas.List.Concat.{flat_map-cons}
use Rattle.std.proofs.lemmas.Grind.{flat_map-append}
use Rattle.io_face.specs.Told.{Adds, AddsPrefix}
use Rattle.kernel_meaning.specs.RefusedRequests.{PolicySum, AreAnswered}
use Rattle.trace_events.specs.declared.event.Event.{Event}
use Rattle.trace_events.specs.declared.outcome.Outcome.{Outcome}
use Rattle.trace_text.specs.ScriptGrammar.{ScriptParts}
use Rattle.trace_text.specs.PrintedLines.{outcome_line}
use Rattle.trace_core.specs.KernelState.{Machine, opening_state}
use Rattle.trace_core.specs.KernelStanding.{KernelParts}
use Rattle.trace_core.specs.KernelRun.{HasRun}
use Rattle.trace_core.specs.RunMeaning.{IsRun, numbers_refused}
use Rattle.server_top.specs.RunPromise.{WroteLines, WroteSomeLines, script_machine, outcome_lines}
use Rattle.server_top.proofs.Written.{Writing, writing_all, writing_front, writing_part, writing_renamed, writing_written, adds_nothing}

-- one event more, and its line waits
pub more_lines : (outcomes : List Outcome) (outcome : Outcome) → outcome_lines (outcomes ++ outcome ∷ []) ≡ outcome_lines outcomes ++ outcome_line outcome
more_lines outcomes outcome =
    flat_map-append outcome_line outcomes (outcome ∷ [])
    ∙ ap (λ line. outcome_lines outcomes ++ line) (flat_map-cons outcome_line outcome [] ∙ append-nil (outcome_line outcome))

pub writing_longer : (old now : Option (List ℕ)) (waiting all line : List ℕ) → Writing old now waiting [] all → Writing old now (waiting ++ line) [] (all ++ line)
writing_longer old now waiting all line writing = record {
  done = writing.done;
  added = writing.added;
  whole = append-nil (writing.done ++ (waiting ++ line)) ∙ sym (append_assoc writing.done waiting line)
      ∙ ap (λ front. front ++ line) (sym (append-nil (writing.done ++ waiting)) ∙ writing.whole);
}

-- a kernel has gone on from where it was: it has run these events more, and of their lines these wait
pub record HasGoneOn (from now : KernelParts) (machine : Machine) (events : List Event) (old new : Option (List ℕ)) (waiting : List ℕ) : Type 0 where
  pub outcomes : List Outcome
  pub run : (policies : PolicySum) → HasRun from machine 0 policies [] [] → HasRun now machine 0 policies events outcomes
  pub writing : Writing old new waiting [] (outcome_lines outcomes)

-- it has not begun
pub gone_nowhere : (from : KernelParts) (machine : Machine) (old : Option (List ℕ)) → HasGoneOn from from machine [] old old []
gone_nowhere from machine old = record {
  outcomes = [];
  run = λ policies has. has;
  writing = record { done = []; added = adds_nothing old; whole = refl };
}

-- a kernel ran one event more, whatever was run before, and its line was appended
abbrev pub RanOne : KernelParts → KernelParts → Event → List ℕ → List ℕ → Type 0
RanOne before after event lines longer = (outcome : Outcome) × ((longer ≡ lines ++ outcome_line outcome)
    × ((machine : Machine) (last : ℕ) (policies : PolicySum) (events : List Event) (outcomes : List Outcome)
    → HasRun before machine last policies events outcomes
    → HasRun after machine last policies (events ++ event ∷ []) (outcomes ++ outcome ∷ [])))

pub gone_further : (from now next : KernelParts) (machine : Machine) (events : List Event) (i : ℕ) (event : Event) (old new : Option (List ℕ)) (waiting longer : List ℕ)
    → i < length events → event ≡ get_or events i event → RanOne now next event waiting longer
    → HasGoneOn from now machine (take i events) old new waiting → HasGoneOn from next machine (take (i + 1) events) old new longer
gone_further from now next machine events i event old new waiting longer inside read ran gone =
    let outcome : Outcome = ran.0 in
    let front : take (i + 1) events ≡ take i events ++ event ∷ [] = take_more events i event inside ∙ ap (λ e. take i events ++ e ∷ []) (sym read) in
    record {
      outcomes = gone.outcomes ++ outcome ∷ [];
      run = λ policies has. subst (λ first. HasRun next machine 0 policies first (gone.outcomes ++ outcome ∷ [])) (sym front)
          (ran.1.1 machine 0 policies (take i events) gone.outcomes (gone.run policies has));
      writing = subst (λ waits. Writing old new waits [] (outcome_lines (gone.outcomes ++ outcome ∷ []))) (sym ran.1.0)
          (subst (λ all. Writing old new (waiting ++ outcome_line outcome) [] all) (sym (more_lines gone.outcomes outcome))
          (writing_longer old new waiting (outcome_lines gone.outcomes) (outcome_line outcome) gone.writing));
    }

-- what waited is written
pub gone_written : (from now : KernelParts) (machine : Machine) (events : List Event) (old new end : Option (List ℕ)) (waiting : List ℕ)
    → HasGoneOn from now machine events old new waiting → Adds new end waiting → HasGoneOn from now machine events old end []
gone_written from now machine events old new end waiting gone adds = record {
  outcomes = gone.outcomes;
  run = gone.run;
  writing = writing_written old new end waiting [] (outcome_lines gone.outcomes) gone.writing adds;
}

-- what was written and what waits, by other names
pub gone_renamed : (from now : KernelParts) (machine : Machine) (events : List Event) (old new other : Option (List ℕ)) (waiting same : List ℕ)
    → other ≡ new → same ≡ waiting → HasGoneOn from now machine events old new waiting → HasGoneOn from now machine events old other same
gone_renamed from now machine events old new other waiting same now_is waiting_is gone = record {
  outcomes = gone.outcomes;
  run = gone.run;
  writing = writing_renamed old new other waiting same [] (outcome_lines gone.outcomes) now_is waiting_is gone.writing;
}

-- what was run is a run
pub run_of : (now : KernelParts) (machine : Machine) (policies : PolicySum) (events : List Event) (outcomes : List Outcome)
    → (has : HasRun now machine 0 policies events outcomes) → IsRun machine 0 policies events outcomes (numbers_refused has.requests) has.state
run_of now machine policies events outcomes has = record {
  requests = has.requests;
  run = has.run;
  answered = has.led.answered;
  numbers = refl;
}

-- a prefix of the lines of first events was written
pub some_lines : (from now : KernelParts) (script : ScriptParts) (i : ℕ) (old new : Option (List ℕ)) (waiting : List ℕ)
    → (gone : HasGoneOn from now (script_machine script) (take i script.events) old new waiting) → (end : Option (List ℕ)) → AddsPrefix old end (outcome_lines gone.outcomes)
    → (policies : PolicySum) → HasRun from (script_machine script) 0 policies [] [] → WroteSomeLines script policies old end
some_lines from now script i old new waiting gone end lines policies begun =
    let has : HasRun now (script_machine script) 0 policies (take i script.events) gone.outcomes = gone.run policies begun in
    record {
      first = take i script.events;
      later = drop i script.events;
      are_first = sym (take-append-drop i script.events);
      outcomes = gone.outcomes;
      refused = numbers_refused has.requests;
      end = has.state;
      run = run_of now (script_machine script) policies (take i script.events) gone.outcomes has;
      lines = lines;
    }

-- at a want of memory
pub lines_in_front : (from now : KernelParts) (script : ScriptParts) (i : ℕ) (old new : Option (List ℕ)) (waiting : List ℕ)
    → HasGoneOn from now (script_machine script) (take i script.events) old new waiting
    → (policies : PolicySum) → HasRun from (script_machine script) 0 policies [] [] → WroteSomeLines script policies old new
lines_in_front from now script i old new waiting gone =
    some_lines from now script i old new waiting gone new (writing_front old new waiting [] (outcome_lines gone.outcomes) gone.writing)

-- at a fault
pub lines_in_part : (from now : KernelParts) (script : ScriptParts) (i : ℕ) (old new end : Option (List ℕ)) (waiting : List ℕ)
    → HasGoneOn from now (script_machine script) (take i script.events) old new waiting → AddsPrefix new end waiting
    → (policies : PolicySum) → HasRun from (script_machine script) 0 policies [] [] → WroteSomeLines script policies old end
lines_in_part from now script i old new end waiting gone part =
    some_lines from now script i old new waiting gone end (writing_part old new end waiting [] (outcome_lines gone.outcomes) gone.writing part)

-- all lines were written
pub all_lines : (from now : KernelParts) (script : ScriptParts) (i : ℕ) (old new end : Option (List ℕ)) (waiting : List ℕ)
    → take i script.events ≡ script.events → HasGoneOn from now (script_machine script) (take i script.events) old new waiting → Adds new end waiting
    → (policies : PolicySum) → HasRun from (script_machine script) 0 policies [] [] → WroteLines script policies old end
all_lines from now script i old new end waiting whole gone adds policies begun =
    let has : HasRun now (script_machine script) 0 policies (take i script.events) gone.outcomes = gone.run policies begun in
    record {
      outcomes = gone.outcomes;
      refused = numbers_refused has.requests;
      end = has.state;
      run = subst (λ events. IsRun (script_machine script) 0 policies events gone.outcomes (numbers_refused has.requests) has.state) whole
          (run_of now (script_machine script) policies (take i script.events) gone.outcomes has);
      lines = writing_all old new end waiting (outcome_lines gone.outcomes) gone.writing adds;
    }

-- a run that has begun on a machine of these numbers has begun on the script's
pub begun_on : (parts : KernelParts) (script : ScriptParts) (frames cells : ℕ) (told given : PolicySum) → frames ≡ script.frames → cells ≡ script.cells → told ≡ given
    → HasRun parts (record { frames = frames; slots = cells; limit = 1 }) 0 told [] [] → HasRun parts (script_machine script) 0 given [] []
begun_on parts script frames cells told given frames_are cells_are told_is begun =
    subst (λ n. HasRun parts (record { frames = n; slots = script.cells; limit = 1 }) 0 given [] []) frames_are
    (subst (λ n. HasRun parts (record { frames = frames; slots = n; limit = 1 }) 0 given [] []) cells_are
    (subst (λ sum. HasRun parts (record { frames = frames; slots = cells; limit = 1 }) 0 sum [] []) told_is begun))

-- what holds under whatever the run began under holds under what it did begin under
pub for_begun : (from : KernelParts) (script : ScriptParts) (policies : PolicySum) (P : PolicySum → Type 0) → HasRun from (script_machine script) 0 policies [] []
    → ((given : PolicySum) → HasRun from (script_machine script) 0 given [] [] → P given) → P policies
for_begun from script policies P begun holds = holds policies begun

-- before a kernel was there
none_answered : (frames : ℕ) (empty spares : Bool) (left : Option ℕ) → AreAnswered frames (record { is_empty = empty; left = left; spares = spares }) []
none_answered frames empty spares None = record { forced = tt; none = λ _. refl; left = tt; spared = λ _. refl }
none_answered frames empty spares (Some left) = record { forced = tt; none = λ _. refl; left = omega arith; spared = λ _. refl }

pub no_lines : (script : ScriptParts) (policies : PolicySum) (old : Option (List ℕ)) → WroteSomeLines script policies old old
no_lines script policies old = record {
  first = [];
  later = script.events;
  are_first = refl;
  outcomes = [];
  refused = [];
  end = opening_state 0;
  run = record {
    requests = [];
    run = (refl, refl);
    answered = none_answered script.frames policies.is_empty policies.spares policies.left;
    numbers = refl;
  };
  lines = (0, (omega arith, adds_nothing old));
}
