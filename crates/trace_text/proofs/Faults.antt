-- The first line at fault: the lines above it are read, and with it they are not.
use Rattle.std.proofs.Common.{◌≡◌, ℕ, zero, suc, ◌+◌, ◌<◌, ◌≤◌, Bool, true, false, cond, List, [], ◌∷◌, length, take, Option, Some, None, Result, Ok, Err, refl, ap, ◌∙◌, arith}
use Rattle.std.specs.Option.{ok_or}
use Rattle.trace_text.specs.ScriptGrammar.{is_skipped}
use Rattle.trace_text.specs.SoFar.{SoFar, and_then, line_taken, lines_taken, with_kept_line}
use Rattle.trace_text.proofs.Readings.{broken}

abbrev answer : Type 0
answer = Result SoFar ℕ

-- the lines break at this one
pub record Breaks (at : ℕ) (s : SoFar) (lines : List (List ℕ)) (line : ℕ) : Type 0 where
  pub above : ℕ
  pub is : line ≡ at + above
  pub within : above < length lines
  pub so_far : SoFar
  pub before : lines_taken at s (take above lines) ≡ Ok so_far
  pub fault : lines_taken at s (take (suc above) lines) ≡ Err line

ok_or_fault : (o : Option SoFar) (at line : ℕ) → ok_or o at ≡ Err line → line ≡ at
ok_or_fault None at line e = cc
ok_or_fault (Some x) at line e = absurd cc

-- a line at fault is told by its own number
line_fault : (at : ℕ) (s : SoFar) (l : List ℕ) (line : ℕ) → line_taken at s l ≡ Err line → line ≡ at
unfolding line_taken
line_fault at s l line h = by (is_skipped l) h
  where
    by : (skipped : Bool) → cond skipped (Ok s) (ok_or (with_kept_line s l s.machine) at) ≡ Err line → line ≡ at
    by true e = absurd cc
    by false e = ok_or_fault (with_kept_line s l s.machine) at line e

breaks_first : (at : ℕ) (s : SoFar) (l : List ℕ) (lines : List (List ℕ)) (line other : ℕ) → line_taken at s l ≡ Err other → broken {A = SoFar} other ≡ broken line → Breaks at s (l ∷ lines) line
breaks_first at s l lines line other found same =
    let told : line_taken at s l ≡ Err line = found ∙ same in
    let own = line_fault at s l line told in
    record {
      above = 0;
      is = omega arith;
      within = omega arith;
      so_far = s;
      before = refl;
      fault = rw told refl;
    }

breaks_behind : (at : ℕ) (s n : SoFar) (l : List ℕ) (lines : List (List ℕ)) (line : ℕ) → line_taken at s l ≡ Ok n → Breaks (suc at) n lines line → Breaks at s (l ∷ lines) line
breaks_behind at s n l lines line found b =
    let is = b.is in
    let within = b.within in
    record {
      above = suc b.above;
      is = omega arith;
      within = omega arith;
      so_far = b.so_far;
      before = rw found b.before;
      fault = rw found b.fault;
    }

pub breaks : (lines : List (List ℕ)) (at : ℕ) (s : SoFar) (line : ℕ) → lines_taken at s lines ≡ Err line → Breaks at s lines line
breaks [] at s line h = absurd cc
breaks (l ∷ lines) at s line h = by (λ n e. breaks lines (suc at) n line e) (line_taken at s l) refl h
  where
    by : ((n : SoFar) → lines_taken (suc at) n lines ≡ Err line → Breaks (suc at) n lines line) → (r : answer) → line_taken at s l ≡ r → and_then r (λ next. lines_taken (suc at) next lines) ≡ Err line → Breaks at s (l ∷ lines) line
    by more (Ok n) found e = breaks_behind at s n l lines line found (more n e)
    by more (Err other) found e = breaks_first at s l lines line other found e

-- a fault among the first lines is one of all
pub fault_of_take : (n : ℕ) (lines : List (List ℕ)) (at : ℕ) (s : SoFar) (line : ℕ) → lines_taken at s (take n lines) ≡ Err line → lines_taken at s lines ≡ Err line
fault_of_take zero lines at s line h = absurd cc
fault_of_take (suc n) [] at s line h = absurd cc
fault_of_take (suc n) (l ∷ lines) at s line h = by (λ next e. fault_of_take n lines (suc at) next line e) (line_taken at s l) h
  where
    by : ((next : SoFar) → lines_taken (suc at) next (take n lines) ≡ Err line → lines_taken (suc at) next lines ≡ Err line) → (r : answer) → and_then r (λ next. lines_taken (suc at) next (take n lines)) ≡ Err line → and_then r (λ next. lines_taken (suc at) next lines) ≡ Err line
    by more (Ok next) e = more next e
    by more (Err other) e = e

-- the first lines of some first lines
pub take-take : (n m : ℕ) (lines : List (List ℕ)) → n ≤ m → take n (take m lines) ≡ take n lines
take-take zero m lines h = refl
take-take (suc n) zero lines h = absurd (omega arith)
take-take (suc n) (suc m) [] h = refl
take-take (suc n) (suc m) (l ∷ lines) h = ap (λ (ls : List (List ℕ)). l ∷ ls) (take-take n m lines (omega arith))
