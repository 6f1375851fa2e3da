-- A policy that grants so many asks of snapshots, and all of the parent.
use Rattle.std.specs.Prelude.{ℕ, ◌-◌, nat_lt, Bool, true, false, None, if◌then◌else◌}
use Rattle.vm_base.specs.Counts.{next_count}
use Rattle.vm_base.specs.declared.frame_request.Asker.{Asker}
use Rattle.vm_base.specs.declared.frame_request.Asker.TheVariants.{Parent, Snapshot}
use Rattle.frame_pool.specs.Policies.{PolicyView}

-- how many asks of snapshots it still grants, how many asks have reached it, and how many it has denied
pub record Quota : Type 0 where
  pub room : ℕ
  pub reached : ℕ
  pub denied : ℕ

-- whether it grants the next ask
abbrev pub quota_grants : Asker → Quota → Bool
quota_grants Parent quota = true
quota_grants (Snapshot number) quota = nat_lt 0 quota.room

-- it spares the parent, tells no end of its denials, and is never done
abbrev pub quota_told : Quota → PolicyView
quota_told quota = record {
  reached = quota.reached;
  denials = quota.denied;
  left = None;
  spares = true;
  done = false;
  answers = λ ask. quota_grants ask.asker quota;
}

-- what it is after the next ask
abbrev pub after_quota : Asker → Quota → Quota
after_quota Parent quota = record quota { reached = next_count quota.reached }
after_quota (Snapshot number) quota =
    (if nat_lt 0 quota.room
    then record quota { reached = next_count quota.reached; room = quota.room - 1 }
    else record quota { reached = next_count quota.reached; denied = next_count quota.denied })
