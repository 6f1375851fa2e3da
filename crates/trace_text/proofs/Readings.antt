-- Lines that were read without a fault are those of a script, and those of a script are read without a fault.
use Rattle.std.proofs.Common.{◌≡◌, ℕ, suc, ◌<◌, Bool, true, false, cond, List, [], ◌∷◌, ◌++◌, map, Option, Some, None, Result, Ok, Err, refl, sym, ap, subst, ◌∙◌, append_assoc}
use Rattle.std.specs.Prelude.{IfSome, unwrap_or}
use Rattle.std.specs.Option.{ok_or}
use Rattle.std.specs.List.{AllByRecursion}
use Rattle.std.proofs.lemmas.Bool.{lt-ltb, ltb-true}
use Rattle.std.proofs.lemmas.List.{append-nil, map-append}
use Rattle.std.proofs.lemmas.List.Elements.{All-push, All-from_recursion}
use Rattle.trace_events.specs.declared.event.Event.{Event}
use Rattle.trace_events.specs.EventBounds.{IsWithinBounds, fork_number}
use Rattle.trace_text.specs.declared.machine.Machine.{Machine}
use Rattle.trace_text.specs.ScriptGrammar.{ScriptParts, AreForksRising, AreLinesOf, IsMachineLine, event_line, is_skipped, kept_lines}
use Rattle.trace_text.specs.ScriptReading.{event_of, spelled_machine}
use Rattle.trace_text.specs.SoFar.{SoFar, and_then, is_above, line_taken, lines_taken, next_event, no_lines_read, said, with_kept_line, with_machine}
use Rattle.trace_text.proofs.Steps.{bind_some, only_if_some, some_is}
use Rattle.trace_text.proofs.LineLaws.{IsLine, event_of_takes, event_of_again}
use Rattle.trace_text.proofs.MachineLaws.{IsMachine, IsWithin, spelled_machine_takes, spelled_machine_again}

-- ---- steps that answered

pub and_then_ok : {A B : Type 0} (r : Result A ℕ) (f : A → Result B ℕ) (y : B) → and_then r f ≡ Ok y → (x : A) × (r ≡ Ok x) × (f x ≡ Ok y)
and_then_ok (Ok x) f y e = (x, refl, e)
and_then_ok (Err line) f y e = absurd cc

ok_or_some : {A : Type 0} (o : Option A) (at : ℕ) (y : A) → ok_or o at ≡ Ok y → o ≡ Some y
ok_or_some None at y e = absurd cc
ok_or_some (Some x) at y e = cc

abbrev pub fine : {A : Type 0} → A → Result A ℕ
fine x = Ok x

-- the line is at fault
abbrev pub broken : {A : Type 0} → ℕ → Result A ℕ
broken line = Err line

pub broken_is : {A : Type 0} (line other : ℕ) → broken {A = A} line ≡ broken other → line ≡ other
broken_is line other e = cc

pub not_both : {A : Type 0} (x : A) (line : ℕ) → fine x ≡ broken line → ⊥
not_both x line e = absurd cc

pub ok_is : {A : Type 0} (x y : A) → fine x ≡ fine y → x ≡ y
ok_is x y e = cc

-- ---- lines one behind another

kept_lines-append : (xs ys : List (List ℕ)) → kept_lines (xs ++ ys) ≡ kept_lines xs ++ kept_lines ys
kept_lines-append [] ys = refl
kept_lines-append (x ∷ xs) ys = by (is_skipped x) (kept_lines-append xs ys)
  where
    by : (skipped : Bool) → kept_lines (xs ++ ys) ≡ kept_lines xs ++ kept_lines ys
        → cond skipped (kept_lines (xs ++ ys)) (x ∷ kept_lines (xs ++ ys))
        ≡ cond skipped (kept_lines xs) (x ∷ kept_lines xs) ++ kept_lines ys
    by true e = e
    by false e = ap (λ (lines : List (List ℕ)). x ∷ lines) e

kept_alone : (line : List ℕ) → is_skipped line ≡ false → kept_lines (line ∷ []) ≡ line ∷ []
kept_alone line is = rw is refl

kept_none : (line : List ℕ) → is_skipped line ≡ true → kept_lines (line ∷ []) ≡ []
kept_none line is = rw is refl

kept_push : (lines : List (List ℕ)) (line : List ℕ) → is_skipped line ≡ false
    → kept_lines (lines ++ line ∷ []) ≡ kept_lines lines ++ line ∷ []
kept_push lines line is = kept_lines-append lines (line ∷ []) ∙ ap (λ (back : List (List ℕ)). kept_lines lines ++ back) (kept_alone line is)

kept_skip : (lines : List (List ℕ)) (line : List ℕ) → is_skipped line ≡ true → kept_lines (lines ++ line ∷ []) ≡ kept_lines lines
kept_skip lines line is =
    kept_lines-append lines (line ∷ []) ∙ ap (λ (back : List (List ℕ)). kept_lines lines ++ back) (kept_none line is)
    ∙ append-nil (kept_lines lines)

-- ---- forks one behind another

-- the number of the last fork
abbrev pub last_of : ℕ → List Event → ℕ
last_of last [] = last
last_of last (event ∷ events) = last_of (unwrap_or (fork_number event) last) events

last_of_push : (last : ℕ) (events : List Event) (e : Event) → last_of last (events ++ e ∷ []) ≡ unwrap_or (fork_number e) (last_of last events)
last_of_push last [] e = refl
last_of_push last (f ∷ events) e = last_of_push (unwrap_or (fork_number f) last) events e

rising_push : (last : ℕ) (events : List Event) (e : Event) → AreForksRising last events → IfSome (fork_number e) (λ number. last_of last events < number) → AreForksRising last (events ++ e ∷ [])
rising_push last [] e rising above = (above, tt)
rising_push last (f ∷ events) e rising above = (rising.0, rising_push (unwrap_or (fork_number f) last) events e rising.1 above)

above_true : (last : ℕ) (number : Option ℕ) → is_above last number ≡ true → IfSome number (λ n. last < n)
above_true last None e = tt
above_true last (Some n) e = ltb-true last n e

true_above : (last : ℕ) (number : Option ℕ) → IfSome number (λ n. last < n) → is_above last number ≡ true
true_above last None h = refl
true_above last (Some n) h = lt-ltb last n h

-- the event of a line that comes behind that fork
record IsNext (last : ℕ) (line : List ℕ) (e : Event) : Type 0 where
  pub own : IsLine line e
  pub above : IfSome (fork_number e) (λ number. last < number)

next_event_takes : (last : ℕ) (line : List ℕ) (e : Event) → next_event last line ≡ Some e → IsNext last line e
unfolding next_event
next_event_takes last line e h =
    let read = bind_some (event_of line) _ e h in
    let g = only_if_some (is_above last (fork_number read.0)) read.0 e read.2 in
    subst (IsNext last line) g.1 (record { own = event_of_takes line read.0 read.1; above = above_true last (fork_number read.0) g.0 })

next_event_again : (last : ℕ) (e : Event) → IsWithinBounds e → IfSome (fork_number e) (λ number. last < number) → next_event last (event_line e) ≡ Some e
unfolding next_event
next_event_again last e bounds above = rw (event_of_again e bounds, true_above last (fork_number e) above) refl

-- ---- what was read of lines

-- without the machine's line no line says anything; with it the lines are those of a script
abbrev StandsBy : List (List ℕ) → Option Machine → List Event → ℕ → Type 0
StandsBy lines None events last = (kept_lines lines ≡ []) × (events ≡ []) × (last ≡ 0)
StandsBy lines (Some machine) events last = AreLinesOf lines (said machine events) × (last ≡ last_of 0 events)

abbrev pub Stands : List (List ℕ) → SoFar → Type 0
Stands lines s = StandsBy lines s.machine s.events s.last

pub stands_empty : Stands [] no_lines_read
stands_empty = (refl, refl, refl)

stands_skip : (lines : List (List ℕ)) (line : List ℕ) (machine : Option Machine) (events : List Event) (last : ℕ) → is_skipped line ≡ true → StandsBy lines machine events last → StandsBy (lines ++ line ∷ []) machine events last
stands_skip lines line None events last is h = (kept_skip lines line is ∙ h.0, h.1, h.2)
stands_skip lines line (Some m) events last is h =
    let are = h.0 in (
      record {
        first = are.first;
        machine = are.machine;
        spelled = kept_skip lines line is ∙ are.spelled;
        frames_within = are.frames_within;
        cells_within = are.cells_within;
        bounds = are.bounds;
        rising = are.rising;
      },
      h.1,
    )

-- with the machine's line
stands_machine : (lines : List (List ℕ)) (line : List ℕ) (m : Machine) (events : List Event) (last : ℕ) → is_skipped line ≡ false → IsMachine line m
    → StandsBy lines None events last → StandsBy (lines ++ line ∷ []) (Some m) events last
stands_machine lines line m events last is machine h =
    let none : events ≡ [] = h.1 in
    let spelled : kept_lines (lines ++ line ∷ []) ≡ line ∷ [] = kept_push lines line is ∙ ap (λ (front : List (List ℕ)). front ++ line ∷ []) h.0 in
    let first : AreLinesOf (lines ++ line ∷ []) (said m []) = record {
      first = line;
      machine = machine.spelled;
      spelled = spelled;
      frames_within = (machine.within.few_frames, machine.within.many_frames);
      cells_within = (machine.within.few_cells, machine.within.many_cells);
      bounds = All-from_recursion IsWithinBounds [] tt;
      rising = tt;
    } in
    subst (λ (es : List Event). StandsBy (lines ++ line ∷ []) (Some m) es last) (sym none) (first, h.2)

-- with one event more
stands_event : (lines : List (List ℕ)) (line : List ℕ) (m : Machine) (events : List Event) (last : ℕ) (e : Event) → is_skipped line ≡ false → IsNext last line e
    → StandsBy lines (Some m) events last → StandsBy (lines ++ line ∷ []) (Some m) (events ++ e ∷ []) (unwrap_or (fork_number e) last)
stands_event lines line m events last e is next h =
    let are = h.0 in
    let pushed : map event_line (events ++ e ∷ []) ≡ map event_line events ++ line ∷ [] =
    map-append event_line events (e ∷ []) ∙ ap (λ (l : List ℕ). map event_line events ++ l ∷ []) (sym next.own.spelled) in
    let spelled : kept_lines (lines ++ line ∷ []) ≡ are.first ∷ map event_line (events ++ e ∷ []) =
    kept_push lines line is ∙ ap (λ (front : List (List ℕ)). front ++ line ∷ []) are.spelled ∙ ap (λ (back : List (List ℕ)). are.first ∷ back) (sym pushed) in
    let above = subst (λ (n : ℕ). IfSome (fork_number e) (λ number. n < number)) h.1 next.above in (
      record {
        first = are.first;
        machine = are.machine;
        spelled = spelled;
        frames_within = are.frames_within;
        cells_within = are.cells_within;
        bounds = All-push IsWithinBounds events e are.bounds next.own.bounds;
        rising = rising_push 0 events e are.rising above;
      },
      ap (unwrap_or (fork_number e)) h.1 ∙ sym (last_of_push 0 events e),
    )

stands_kept : (lines : List (List ℕ)) (line : List ℕ) (machine : Option Machine) (events : List Event) (last : ℕ) (t : SoFar) → is_skipped line ≡ false
    → with_kept_line (record { machine = machine; events = events; last = last }) line machine ≡ Some t → StandsBy lines machine events last → Stands (lines ++ line ∷ []) t
stands_kept lines line None events last t is h stands =
    let m = bind_some (spelled_machine line) _ t h in
    subst (Stands (lines ++ line ∷ [])) (some_is _ t m.2) (stands_machine lines line m.0 events last is (spelled_machine_takes line m.0 m.1) stands)
stands_kept lines line (Some m) events last t is h stands =
    let e = bind_some (next_event last line) _ t h in
    subst (Stands (lines ++ line ∷ [])) (some_is _ t e.2) (stands_event lines line m events last e.0 is (next_event_takes last line e.0 e.1) stands)

stands_line : (lines : List (List ℕ)) (at : ℕ) (s : SoFar) (line : List ℕ) (t : SoFar) → line_taken at s line ≡ Ok t → Stands lines s → Stands (lines ++ line ∷ []) t
unfolding line_taken
stands_line lines at s line t h stands = by (is_skipped line) refl h
  where
    by : (skipped : Bool) → is_skipped line ≡ skipped → cond skipped (fine s) (ok_or (with_kept_line s line s.machine) at) ≡ Ok t → Stands (lines ++ line ∷ []) t
    by true is e = subst (Stands (lines ++ line ∷ [])) (ok_is s t e) (stands_skip lines line s.machine s.events s.last is stands)
    by false is e = stands_kept lines line s.machine s.events s.last t is (ok_or_some (with_kept_line s line s.machine) at t e) stands

-- what was read of lines stands for them
pub stands_lines : (lines : List (List ℕ)) (at : ℕ) (s : SoFar) (more : List (List ℕ)) (t : SoFar) → lines_taken at s more ≡ Ok t → Stands lines s → Stands (lines ++ more) t
stands_lines lines at s [] t h stands =
    subst (λ (all : List (List ℕ)). Stands all t) (sym (append-nil lines)) (subst (Stands lines) (ok_is s t h) stands)
stands_lines lines at s (line ∷ more) t h stands =
    let step = and_then_ok (line_taken at s line) (λ next. lines_taken (suc at) next more) t h in
    let behind = stands_lines (lines ++ line ∷ []) (suc at) step.0 more t step.2 (stands_line lines at s line step.0 step.1 stands) in
    subst (λ (all : List (List ℕ)). Stands all t) (append_assoc lines (line ∷ []) more) behind

-- ---- lines of a script are read

taken_skip : (at : ℕ) (s : SoFar) (line : List ℕ) → is_skipped line ≡ true → line_taken at s line ≡ Ok s
unfolding line_taken
taken_skip at s line is = rw is refl

taken_machine : (at : ℕ) (line : List ℕ) (m : Machine) → is_skipped line ≡ false → spelled_machine line ≡ Some m → line_taken at no_lines_read line ≡ Ok (with_machine no_lines_read m)
unfolding line_taken
taken_machine at line m is read = rw (is, read) refl

-- a script of this machine was read so far
abbrev begun : Machine → List Event → ℕ → SoFar
begun m events last = record { machine = Some m; events = events; last = last }

taken_event : (at : ℕ) (m : Machine) (events : List Event) (last : ℕ) (line : List ℕ) (e : Event) → is_skipped line ≡ false → next_event last line ≡ Some e
    → line_taken at (begun m events last) line ≡ Ok (begun m (events ++ e ∷ []) (unwrap_or (fork_number e) last))
unfolding line_taken
taken_event at m events last line e is read = rw (is, read) refl

taken_first : (at : ℕ) (s t : SoFar) (line : List ℕ) (lines : List (List ℕ)) → line_taken at s line ≡ Ok t → lines_taken at s (line ∷ lines) ≡ lines_taken (suc at) t lines
taken_first at s t line lines e = rw e refl

-- lines that say nothing change nothing
pub none_again : (lines : List (List ℕ)) (at : ℕ) (s : SoFar) → kept_lines lines ≡ [] → lines_taken at s lines ≡ Ok s
none_again [] at s e = refl
none_again (line ∷ lines) at s e = by (λ others. none_again lines (suc at) s others) (is_skipped line) refl e
  where
    by : (kept_lines lines ≡ [] → lines_taken (suc at) s lines ≡ Ok s) → (skipped : Bool) → is_skipped line ≡ skipped
        → cond skipped (kept_lines lines) (line ∷ kept_lines lines) ≡ [] → lines_taken at s (line ∷ lines) ≡ Ok s
    by others true is e = taken_first at s s line lines (taken_skip at s line is) ∙ others e
    by others false is e = absurd cc

head_is : (x y : List ℕ) (xs ys : List (List ℕ)) → x ∷ xs ≡ y ∷ ys → x ≡ y
head_is x y xs ys e = cc

tail_is : (x y : List ℕ) (xs ys : List (List ℕ)) → x ∷ xs ≡ y ∷ ys → xs ≡ ys
tail_is x y xs ys e = cc

-- the lines of events
events_again : (lines : List (List ℕ)) (at : ℕ) (m : Machine) (before : List Event) (last : ℕ) (events : List Event) → kept_lines lines ≡ map event_line events
    → AllByRecursion IsWithinBounds events → AreForksRising last events → lines_taken at (begun m before last) lines ≡ Ok (begun m (before ++ events) (last_of last events))
events_again [] at m before last [] spelled within rising = ap (λ (es : List Event). fine (begun m es last)) (sym (append-nil before))
events_again [] at m before last (e ∷ events) spelled within rising = absurd cc
events_again (line ∷ lines) at m before last events spelled within rising =
    by (λ b n es e w r. events_again lines (suc at) m b n es e w r) (is_skipped line) events refl spelled within rising
  where
    by : ((b : List Event) (n : ℕ) (es : List Event) → kept_lines lines ≡ map event_line es → AllByRecursion IsWithinBounds es → AreForksRising n es
        → lines_taken (suc at) (begun m b n) lines ≡ Ok (begun m (b ++ es) (last_of n es)))
        → (skipped : Bool) (events : List Event) → is_skipped line ≡ skipped → cond skipped (kept_lines lines) (line ∷ kept_lines lines) ≡ map event_line events
        → AllByRecursion IsWithinBounds events → AreForksRising last events → lines_taken at (begun m before last) (line ∷ lines) ≡ Ok (begun m (before ++ events) (last_of last events))
    by more true events is spelled within rising =
        taken_first at (begun m before last) (begun m before last) line lines (taken_skip at (begun m before last) line is)
        ∙ more before last events spelled within rising
    by more false [] is spelled within rising = absurd cc
    by more false (e ∷ events) is spelled within rising =
        let first : line ≡ event_line e = head_is line (event_line e) (kept_lines lines) (map event_line events) spelled in
        let others : kept_lines lines ≡ map event_line events =
        tail_is line (event_line e) (kept_lines lines) (map event_line events) spelled in
        let next = ap (next_event last) first ∙ next_event_again last e within.0 rising.0 in
        let last-is : ℕ = unwrap_or (fork_number e) last in
        taken_first at (begun m before last) (begun m (before ++ e ∷ []) last-is) line lines (taken_event at m before last line e is next)
        ∙ more (before ++ e ∷ []) last-is events others within.1 rising.1
        ∙ ap (λ (es : List Event). fine (begun m es (last_of last-is events))) (append_assoc before (e ∷ []) events)

-- what is read of a script
abbrev pub whole : ScriptParts → SoFar
whole script = record {
  machine = Some (record { frames = script.frames; cells = script.cells });
  events = script.events;
  last = last_of 0 script.events;
}

-- the lines of a script
pub script_again : (lines : List (List ℕ)) (at : ℕ) (first : List ℕ) (script : ScriptParts) → IsMachineLine first script.frames script.cells → IsWithin script.frames script.cells
    → kept_lines lines ≡ first ∷ map event_line script.events → AllByRecursion IsWithinBounds script.events → AreForksRising 0 script.events → lines_taken at no_lines_read lines ≡ Ok (whole script)
script_again [] at first script machine within spelled bounds rising = absurd cc
script_again (line ∷ lines) at first script machine within spelled bounds rising =
    by (λ e. script_again lines (suc at) first script machine within e bounds rising) (is_skipped line) refl spelled
  where
    by : (kept_lines lines ≡ first ∷ map event_line script.events → lines_taken (suc at) no_lines_read lines ≡ Ok (whole script)) → (skipped : Bool) → is_skipped line ≡ skipped → cond skipped (kept_lines lines) (line ∷ kept_lines lines) ≡ first ∷ map event_line script.events
        → lines_taken at no_lines_read (line ∷ lines) ≡ Ok (whole script)
    by more true is spelled =
        taken_first at no_lines_read no_lines_read line lines (taken_skip at no_lines_read line is)
        ∙ more spelled
    by more false is spelled =
        let same : line ≡ first = head_is line first (kept_lines lines) (map event_line script.events) spelled in
        let others : kept_lines lines ≡ map event_line script.events =
        tail_is line first (kept_lines lines) (map event_line script.events) spelled in
        let m : Machine = record { frames = script.frames; cells = script.cells } in
        let read = ap spelled_machine same ∙ spelled_machine_again first script.frames script.cells machine within in
        taken_first at no_lines_read (begun m [] 0) line lines (taken_machine at line m is read)
        ∙ events_again lines (suc at) m [] 0 script.events others bounds rising
