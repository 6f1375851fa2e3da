-- What is said of an outcome whose error was told as another, and of counts that rose.
use Rattle.std.proofs.Common.{◌≡◌, ℕ, ◌≤◌, Result, Ok, Err, arith}
use Rattle.std.specs.Prelude.{IfOk, OnErr}
use Rattle.std.specs.Result.{result_ok}
use Rattle.io_face.specs.Faults.{Rose}

-- a fact of the value stays where the value does
pub value_kept : {T E F : Type 0} (told : Result T E) (given : Result T F) (P : T → Type 0) → result_ok told ≡ result_ok given → IfOk given P → IfOk told P
value_kept (Ok x) (Ok y) P h k = grind arith
value_kept (Ok x) (Err e) P h k = grind arith
value_kept (Err e) given P h k = grind arith

-- a count that rose at an error rose in a longer time too
pub rose_longer : {T E : Type 0} (told : Result T E) (start before end : ℕ) → start ≤ before → OnErr told (Rose before end) → OnErr told (Rose start end)
rose_longer (Ok x) start before end h k = grind arith
rose_longer (Err e) start before end h k = omega arith
