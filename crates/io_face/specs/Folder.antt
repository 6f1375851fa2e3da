-- Files under names, and what a folder may tell of them.
use Rattle.std.specs.Prelude.{◌≡◌, ℕ, List, Option, None, Some, IfSome, IsSome}
use Rattle.std.specs.Option.{option_map}
use Rattle.std.specs.Ordering.{nat_cmp}
use Rattle.std.specs.Cmp.Lexicographic.{slice_cmp}
use Rattle.std.specs.FinMap.{FinMap, get, insert}

-- a finite map from names, each the bytes of its text, to the bytes of their files
abbrev pub Files : Type 0
Files = FinMap (slice_cmp nat_cmp) (List ℕ)

-- what was found is what stands under the name, and its bytes are told, where the files are
abbrev pub Loads : Option Files → List ℕ → Option (Option (List ℕ)) → Type 0
Loads files name found = IfSome files (λ m. found ≡ option_map Some (get m name))

-- the name stands for what was written and each other name for what it did, where both are told
abbrev pub Publishes : Option Files → Option Files → List ℕ → Option (List ℕ) → Type 0
Publishes None new name written = new ≡ None
Publishes (Some old) new name None = IsSome new
Publishes (Some old) new name (Some text) = new ≡ Some (insert old name text)
