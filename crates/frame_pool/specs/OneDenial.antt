-- A policy that denies one ask, counted from 1 among those that reach it.
use Rattle.std.specs.Prelude.{ℕ, ◌==◌, nat_le, Bool, true, false, not, Some}
use Rattle.vm_base.specs.Counts.{next_count}
use Rattle.frame_pool.specs.Policies.{PolicyView}

-- which ask it denies, and how many have reached it
pub record OneDenial : Type 0 where
  pub nth : ℕ
  pub reached : ℕ

-- whether it grants the next ask, whatever that is
abbrev pub grants_next : OneDenial → Bool
grants_next policy = not (next_count policy.reached == policy.nth)

-- what is known of it before it has denied, and then
abbrev pub told_when : Bool → OneDenial → PolicyView
told_when false policy = record {
  reached = policy.reached;
  denials = 0;
  left = Some 1;
  spares = false;
  done = false;
  answers = λ ask. grants_next policy;
}
told_when true policy = record {
  reached = policy.reached;
  denials = 1;
  left = Some 0;
  spares = false;
  done = true;
  answers = λ ask. grants_next policy;
}

-- it is done once the ask that it denies has reached it
abbrev pub told_of : OneDenial → PolicyView
told_of policy = told_when (nat_le policy.nth policy.reached) policy
