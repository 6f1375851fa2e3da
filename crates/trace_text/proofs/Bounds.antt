-- The test for the bounds of an event's fields decides them.
use Rattle.std.proofs.Common.{◌≡◌, ℕ, ◌+◌, ◌^◌, ◌<◌, Bool, true, false, ◌&&◌, ltb, leb, not, List, [], ◌∷◌, length, refl, sym, ap, arith}
use Rattle.std.specs.List.{list_any, AllByRecursion}
use Rattle.std.proofs.lemmas.Bool.{lt-ltb, ltb-true, le-leb, leb-true, leb-false, lt-leb, and_parts}
use Rattle.std.proofs.lemmas.List.Elements.{All-from_recursion, recursion_from_All}
use Rattle.trace_events.specs.declared.event.Event.{Event}
use Rattle.trace_events.specs.declared.event.Event.TheVariants.{Map, Unmap, Protect, Read, Write, Fill, Fork, Copy, Drop, SnapRead, Frames, ListAreas, Refuse}
use Rattle.trace_events.specs.EventBounds.{is_fork_mode, IsWithinBounds, ArePages, IsRange, IsCounted}
use Rattle.std.specs.Bool.{then_some}
use Rattle.trace_text.specs.ScriptReading.{are_pages, is_counted, is_range, is_within, only_if}
use Rattle.trace_text.proofs.Steps.{or_parts}

both : (a b : Bool) → a ≡ true → b ≡ true → (a && b) ≡ true
both true b p q = q
both false b p q = absurd cc

pages_true : (first pages : ℕ) → are_pages first pages ≡ true → ArePages first pages
pages_true first pages e =
    let t = and_parts (ltb 0 pages) (leb (first + pages) (2 ^ 36)) e in
    (ltb-true 0 pages t.0, leb-true (first + pages) (2 ^ 36) t.1)

true_pages : (first pages : ℕ) → ArePages first pages → are_pages first pages ≡ true
true_pages first pages h = rw (lt-ltb 0 pages h.0, le-leb (first + pages) (2 ^ 36) h.1) refl

range_true : (most addr len : ℕ) → is_range most addr len ≡ true → IsRange most addr len
range_true most addr len e =
    let t = and_parts (ltb 0 len && leb len most) (leb (addr + len) (2 ^ 48)) e in
    let u = and_parts (ltb 0 len) (leb len most) t.0 in
    (ltb-true 0 len u.0, leb-true len most u.1, leb-true (addr + len) (2 ^ 48) t.1)

true_range : (most addr len : ℕ) → IsRange most addr len → is_range most addr len ≡ true
true_range most addr len h = rw (lt-ltb 0 len h.0, le-leb len most h.1, le-leb (addr + len) (2 ^ 48) h.2) refl

counted_true : (number : ℕ) → is_counted number ≡ true → IsCounted number
counted_true number e =
    let t = and_parts (ltb 0 number) (ltb number (2 ^ 32)) e in
    (ltb-true 0 number t.0, ltb-true number (2 ^ 32) t.1)

true_counted : (number : ℕ) → IsCounted number → is_counted number ≡ true
true_counted number h = rw (lt-ltb 0 number h.0, lt-ltb number (2 ^ 32) h.1) refl

-- a number that is no byte
abbrev is_wide : ℕ → Bool
is_wide byte = leb (2 ^ 8) byte

not_true : (b : Bool) → not b ≡ true → b ≡ false
not_true true e = absurd cc
not_true false e = refl

bytes_true : (bytes : List ℕ) → list_any is_wide bytes ≡ false → AllByRecursion (λ byte. byte < 2 ^ 8) bytes
bytes_true [] e = tt
bytes_true (byte ∷ bytes) e =
    let t = or_parts (is_wide byte) (list_any is_wide bytes) e in
    let small = leb-false (2 ^ 8) byte t.0 in
    (omega arith, bytes_true bytes t.1)

true_bytes : (bytes : List ℕ) → AllByRecursion (λ byte. byte < 2 ^ 8) bytes → list_any is_wide bytes ≡ false
true_bytes [] h = refl
true_bytes (byte ∷ bytes) h = rw (lt-leb (2 ^ 8) byte h.0, true_bytes bytes h.1) refl

-- an event that passes the test is within the bounds
pub within_true : (e : Event) → is_within e ≡ true → IsWithinBounds e
within_true (Map first pages perm) e = pages_true first pages e
within_true (Unmap first pages) e = pages_true first pages e
within_true (Protect first pages perm) e = pages_true first pages e
within_true (Read addr len) e = range_true 65536 addr len e
within_true (Write addr bytes) e =
    let t = and_parts (is_range 4096 addr (length bytes)) (not (list_any is_wide bytes)) e in
    (range_true 4096 addr (length bytes) t.0, All-from_recursion (λ byte. byte < 2 ^ 8) bytes (bytes_true bytes (not_true _ t.1)))
within_true (Fill addr len byte) e =
    let t = and_parts (is_range 2097152 addr len) (ltb byte (2 ^ 8)) e in
    (range_true 2097152 addr len t.0, ltb-true byte (2 ^ 8) t.1)
within_true (Fork number mode) e =
    let t = and_parts (is_counted number) (is_fork_mode mode) e in
    (counted_true number t.0, t.1)
within_true (Copy number cell) e =
    let t = and_parts (is_counted number) (ltb cell (2 ^ 27)) e in
    (counted_true number t.0, ltb-true cell (2 ^ 27) t.1)
within_true (Drop number) e = counted_true number e
within_true (SnapRead number addr len) e =
    let t = and_parts (is_counted number) (is_range 65536 addr len) e in
    (counted_true number t.0, range_true 65536 addr len t.1)
within_true Frames e = tt
within_true ListAreas e = tt
within_true (Refuse nth) e = counted_true nth e

-- an event within the bounds passes the test
pub true_within : (e : Event) → IsWithinBounds e → is_within e ≡ true
true_within (Map first pages perm) h = true_pages first pages h
true_within (Unmap first pages) h = true_pages first pages h
true_within (Protect first pages perm) h = true_pages first pages h
true_within (Read addr len) h = true_range 65536 addr len h
true_within (Write addr bytes) h =
    let narrow = true_bytes bytes (recursion_from_All (λ byte. byte < 2 ^ 8) bytes h.1) in
    both _ _ (true_range 4096 addr (length bytes) h.0) (ap not narrow)
true_within (Fill addr len byte) h = both _ _ (true_range 2097152 addr len h.0) (lt-ltb byte (2 ^ 8) h.1)
true_within (Fork number mode) h = both _ _ (true_counted number h.0) h.1
true_within (Copy number cell) h = both _ _ (true_counted number h.0) (lt-ltb cell (2 ^ 27) h.1)
true_within (Drop number) h = true_counted number h
true_within (SnapRead number addr len) h = both _ _ (true_counted number h.0) (true_range 65536 addr len h.1)
true_within Frames h = refl
true_within ListAreas h = refl
true_within (Refuse nth) h = true_counted nth h

-- tests that hold together are one
pub same_truth : (a b : Bool) → (a ≡ true → b ≡ true) → (b ≡ true → a ≡ true) → a ≡ b
same_truth true b to back = sym (to refl)
same_truth false true to back = back refl
same_truth false false to back = refl

-- a value that a test lets through
pub then_some-only_if : {A : Type 0} (holds : Bool) (x : A) → then_some holds x ≡ only_if holds x
then_some-only_if true x = refl
then_some-only_if false x = refl
