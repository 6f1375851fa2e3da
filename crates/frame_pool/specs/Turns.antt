-- Policies of a list that are asked one after another, while the list is changed in place.
use Rattle.std.specs.Prelude.{◌≡◌, ℕ, ◌+◌, Bool, false, IsTrue, List, [], ◌++◌, ◌∷◌, length, map}
use Rattle.frame_pool.specs.declared.ask.Ask.{Ask}
use Rattle.frame_pool.specs.Policies.{PolicyView, Grants, Denies, AllGrant, kept}

-- the policy at a place was asked this, and has left the list where it is done then
pub record TakesTurn {P : Type 0} (told : P → PolicyView) (ask : Ask) (at : ℕ) (answer : Bool) (next : ℕ) (old new : List P) : Type 0 where
  pub before : List P
  pub policy : P
  pub behind : List P
  pub was : old ≡ before ++ policy ∷ behind
  pub here : length before ≡ at
  pub after : P
  pub granted : IsTrue answer → Grants ask (told policy) (told after)
  pub denied : answer ≡ false → Denies ask (told policy) (told after)
  pub stays : List P
  pub is : new ≡ before ++ (stays ++ behind)
  pub kept_or_gone : map told stays ≡ kept (told after) []
  pub there : next ≡ at + length stays

-- the first policies of a list were asked this and granted, and those behind them stand as they were
pub record HaveGranted {P : Type 0} (told : P → PolicyView) (ask : Ask) (place at : ℕ) (old now : List P) : Type 0 where
  pub asked : List P
  pub stays : List P
  pub rest : List P
  pub was : old ≡ asked ++ rest
  pub is : now ≡ stays ++ rest
  pub here : length asked ≡ place
  pub there : length stays ≡ at
  pub granted : AllGrant ask (map told asked) (map told stays)
