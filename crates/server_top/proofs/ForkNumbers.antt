-- Forks rise above the kernel's last number, event after event.
use Rattle.std.proofs.Common.{◌≡◌, ℕ, ◌+◌, ◌≤◌, ◌<◌, List, [], ◌∷◌, length, drop, get_or, Option, Some, None, refl, sym, ◌∙◌, ap, subst, arith}
use Rattle.std.specs.Prelude.{IfSome, unwrap_or, Result, Ok, Err, OnOk, IfOk}
use Rattle.std.proofs.lemmas.List.{drop_more}
use Rattle.trace_events.specs.declared.event.Event.{Event}
use Rattle.trace_events.specs.declared.event.Event.TheVariants.{Map, Unmap, Protect, Read, Write, Fill, Fork, Copy, Drop, SnapRead, Frames, ListAreas, Refuse}
use Rattle.trace_events.specs.declared.outcome.Outcome.{Outcome}
use Rattle.trace_events.specs.declared.outcome.Outcome.TheVariants as outcome
use Rattle.trace_events.specs.EventBounds.{IsAboveLast, fork_number}
use Rattle.trace_text.specs.ScriptGrammar.{AreForksRising}
use Rattle.trace_core.specs.KernelRun.{last_behind}

-- what lies above a number lies above a lower one
above-lower : (low high : ℕ) (number : Option ℕ) → low ≤ high → IfSome number (λ n. high < n) → IfSome number (λ n. low < n)
above-lower low high None below above = tt
above-lower low high (Some n) below above = omega (arith, below, above)

lower-or : (low high : ℕ) (number : Option ℕ) → low ≤ high → unwrap_or number low ≤ unwrap_or number high
lower-or low high None below = below
lower-or low high (Some n) below = omega arith

rising-lower : (low high : ℕ) (events : List Event) → low ≤ high → AreForksRising high events → AreForksRising low events
rising-lower low high [] below rising = tt
rising-lower low high (event ∷ events) below rising = (
  above-lower low high (fork_number event) below rising.0,
  rising-lower (unwrap_or (fork_number event) low) (unwrap_or (fork_number event) high) events (lower-or low high (fork_number event) below) rising.1,
)

-- the events from a place on, the first of them apart
rising-from : (last : ℕ) (events : List Event) (i : ℕ) (event : Event) → i < length events → event ≡ get_or events i event → AreForksRising last (drop i events) → AreForksRising last (event ∷ drop (i + 1) events)
rising-from last events i event inside read rising =
    subst (AreForksRising last) (drop_more events i event inside ∙ ap (λ e. e ∷ drop (i + 1) events) (sym read)) rising

pub first-above : (last : ℕ) (events : List Event) (i : ℕ) (event : Event) → i < length events → event ≡ get_or events i event → AreForksRising last (drop i events) → IsAboveLast last event
first-above last events i event inside read rising = (rising-from last events i event inside read rising).0

pub rising-behind : (last next : ℕ) (events : List Event) (i : ℕ) (event : Event) → i < length events → event ≡ get_or events i event → next ≤ unwrap_or (fork_number event) last
    → AreForksRising last (drop i events) → AreForksRising next (drop (i + 1) events)
rising-behind last next events i event inside read below rising =
    rising-lower next (unwrap_or (fork_number event) last) (drop (i + 1) events) below (rising-from last events i event inside read rising).1

-- behind an event the last number is at most that of a fork, granted or not
last-at-most : (event : Event) (told : Outcome) (last : ℕ) → IsAboveLast last event → last_behind event told last ≤ unwrap_or (fork_number event) last
last-at-most (Map first n perm) told last above = omega arith
last-at-most (Unmap first n) told last above = omega arith
last-at-most (Protect first n perm) told last above = omega arith
last-at-most (Read address n) told last above = omega arith
last-at-most (Write address bytes) told last above = omega arith
last-at-most (Fill address n byte) told last above = omega arith
last-at-most (Copy n cell) told last above = omega arith
last-at-most (Drop n) told last above = omega arith
last-at-most (SnapRead n address size) told last above = omega arith
last-at-most Frames told last above = omega arith
last-at-most ListAreas told last above = omega arith
last-at-most (Refuse nth) told last above = omega arith
last-at-most (Fork n mode) outcome.Done last above = omega arith
last-at-most (Fork n mode) (outcome.Bytes bytes) last above = omega (arith, above)
last-at-most (Fork n mode) (outcome.Held held free) last above = omega (arith, above)
last-at-most (Fork n mode) (outcome.AreaRow row) last above = omega (arith, above)
last-at-most (Fork n mode) outcome.Copied last above = omega (arith, above)
last-at-most (Fork n mode) outcome.Nothing last above = omega (arith, above)
last-at-most (Fork n mode) (outcome.Refused at) last above = omega (arith, above)
last-at-most (Fork n mode) (outcome.Lost at) last above = omega (arith, above)
last-at-most (Fork n mode) (outcome.NoArea page) last above = omega (arith, above)
last-at-most (Fork n mode) (outcome.NoWrite page) last above = omega (arith, above)
last-at-most (Fork n mode) (outcome.Overlap page) last above = omega (arith, above)
last-at-most (Fork n mode) outcome.AreasFull last above = omega (arith, above)
last-at-most (Fork n mode) outcome.CellsFull last above = omega (arith, above)
last-at-most (Fork n mode) (outcome.NoFrame at) last above = omega (arith, above)
last-at-most (Fork n mode) outcome.TooMany last above = omega (arith, above)
last-at-most (Fork n mode) outcome.NoSnap last above = omega (arith, above)

pub at-most-behind : (event : Event) (told : Outcome) (last now : ℕ) → IsAboveLast last event → now ≡ last_behind event told last → now ≤ unwrap_or (fork_number event) last
at-most-behind event told last now above is = omega (arith, last-at-most event told last above, is)
