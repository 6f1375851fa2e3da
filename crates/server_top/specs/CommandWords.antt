-- The words that a top call takes: `trace`, or `replay --every 0`.
use Rattle.std.specs.Prelude.{ℕ, Bool, nat_eq, List, [], ◌∷◌, codes, Option, Some, None, Result, Ok, Err, if◌then◌else◌}
use Rattle.std.specs.Cmp.Lexicographic.{pointwise}
use Rattle.server_top.specs.declared.words.Plan.{Plan}
use Rattle.server_top.specs.declared.words.Plan.TheVariants.{Trace, Replay}

-- two words are the same
abbrev pub is_word : List ℕ → List ℕ → Bool
is_word word other = pointwise nat_eq word other

-- no word follows the last one of the plan; the place is that of the next
abbrev pub end_of_plan : ℕ → Plan → List (List ℕ) → Result Plan ℕ
end_of_plan place plan [] = Ok plan
end_of_plan place plan (word ∷ words) = Err place

-- `0` follows `--every`
abbrev pub every_plan : List (List ℕ) → Result Plan ℕ
every_plan [] = Err 2
every_plan (word ∷ words) = if is_word word (codes "0") then end_of_plan 3 Replay words else Err 2

-- `--every` follows `replay`
abbrev pub replay_plan : List (List ℕ) → Result Plan ℕ
replay_plan [] = Err 1
replay_plan (word ∷ words) = if is_word word (codes "--every") then every_plan words else Err 1

-- the command of the words; or the index of the first word that no accepted list of words has there, or the number of words where one is missing
abbrev pub plan_of : List (List ℕ) → Result Plan ℕ
plan_of [] = Err 0
plan_of (word ∷ words) =
    if is_word word (codes "trace") then end_of_plan 1 Trace words
    else if is_word word (codes "replay") then replay_plan words
    else Err 0

-- the place of a bad word
abbrev pub bad_place : Result Plan ℕ → Option ℕ
bad_place (Ok plan) = None
bad_place (Err place) = Some place

-- the place of the first bad word, if there is one
abbrev pub bad_word : List (List ℕ) → Option ℕ
bad_word words = bad_place (plan_of words)
