-- The account of the pool: what the entries that were told under its lock leave, and the load that they put on it.
use Rattle.std.specs.Prelude.{◌≡◌, ℕ, ◌+◌, ◌-◌, ◌<◌, ◌≤◌, ◌==◌, ◌⊎◌, if◌then◌else◌, Bool, true, false, not, List, [], ◌∷◌, ◌++◌, map, sum_by, count_by, filter, Option, IfSome, IsSome, IsNone}
use Rattle.std.specs.List.{find, AllByRecursion}
use Rattle.vm_base.specs.declared.frame_request.Want.{Want}

-- what the pool answers to a take: a frame; that none is free; or that the policy at this place of its list denied
pub data PoolAnswer : Type 0 where
  Lent : PoolAnswer
  NoneFree : PoolAnswer
  DeniedBy : ℕ → PoolAnswer

-- one act on the pool
pub data PoolAct : Type 0 where
  Take : Want → PoolAnswer → PoolAct
  Give : PoolAct
  -- a snapshot may take frames from now on: its number, the seat that takes them, how many at most
  Allow : ℕ → ℕ → ℕ → PoolAct
  -- the snapshot has given back what it will
  Parted : ℕ → PoolAct
  -- the parent has taken note of it
  Reaped : ℕ → PoolAct

-- an entry: the act, and the number of the seat that made it
pub record PoolEntry : Type 0 where
  pub act : PoolAct
  pub seat : ℕ

-- a seat's takes and gives
pub record Traffic : Type 0 where
  pub taken : ℕ
  pub given : ℕ

-- the stretch of a snapshot at a seat, from its allowance to its reaping
pub record Stretch : Type 0 where
  pub seat : ℕ
  pub number : ℕ
  pub amount : ℕ
  pub traffic : Traffic
  pub has_parted : Bool

-- the account of the pool
pub record PoolAccount : Type 0 where
  -- the takes and gives of the parent's seat
  pub parent : Traffic
  -- the stretches of the snapshots that are allowed and not reaped, at most one a seat
  pub stretches : List Stretch
  -- the takes and gives of all snapshots that are reaped
  pub reaped : Traffic

-- neither takes nor gives
abbrev pub no_traffic : Traffic
no_traffic = record { taken = 0; given = 0 }

-- the account of no entries
abbrev pub empty_pool_account : PoolAccount
empty_pool_account = record { parent = no_traffic; stretches = []; reaped = no_traffic }

-- one granted take more, where it was granted
abbrev pub with_take : PoolAnswer → Traffic → Traffic
with_take Lent traffic = record traffic { taken = traffic.taken + 1 }
with_take NoneFree traffic = traffic
with_take (DeniedBy place) traffic = traffic

-- one give more
abbrev pub with_give : Traffic → Traffic
with_give traffic = record traffic { given = traffic.given + 1 }

-- both together
abbrev pub traffic_sum : Traffic → Traffic → Traffic
traffic_sum a b = record { taken = a.taken + b.taken; given = a.given + b.given }

-- the stretches of a seat become others
abbrev pub with_stretch : (Stretch → Stretch) → ℕ → List Stretch → List Stretch
with_stretch change seat stretches = map (λ it. if it.seat == seat then change it else it) stretches

-- the traffic of a seat becomes another: the parent's, which is number 0, or that of its stretch
abbrev pub with_traffic : (Traffic → Traffic) → ℕ → PoolAccount → PoolAccount
with_traffic change seat account =
    if seat == 0 then record account { parent = change account.parent }
    else record account {
      stretches = with_stretch (λ it. record it { traffic = change it.traffic }) seat account.stretches;
    }

-- a stretch that begins
abbrev pub opening_stretch : ℕ → ℕ → ℕ → Stretch
opening_stretch seat n amount =
    record { seat = seat; number = n; amount = amount; traffic = no_traffic; has_parted = false }

-- the traffic of snapshot n
abbrev pub traffic_of : ℕ → List Stretch → Traffic
traffic_of n [] = no_traffic
traffic_of n (it ∷ others) = if it.number == n then it.traffic else traffic_of n others

-- the stretch of snapshot n is over, and its traffic is with that of the others that are
abbrev pub with_reaped : ℕ → PoolAccount → PoolAccount
with_reaped n account = record account {
  stretches = filter (λ it. not (it.number == n)) account.stretches;
  reaped = traffic_sum account.reaped (traffic_of n account.stretches);
}

-- the account after an act of a seat
abbrev pub pool_act : PoolAct → ℕ → PoolAccount → PoolAccount
pool_act (Take want answer) seat account = with_traffic (with_take answer) seat account
pool_act Give seat account = with_traffic with_give seat account
pool_act (Allow n other amount) seat account =
    record account { stretches = account.stretches ++ opening_stretch other n amount ∷ [] }
pool_act (Parted n) seat account =
    record account { stretches = with_stretch (λ it. record it { has_parted = true }) seat account.stretches }
pool_act (Reaped n) seat account = with_reaped n account

-- the account with one entry more
abbrev pub pool_account_after : PoolAccount → PoolEntry → PoolAccount
pool_account_after account entry = pool_act entry.act entry.seat account

-- the account behind another one, of these entries
abbrev pub pool_account_behind : PoolAccount → List PoolEntry → PoolAccount
pool_account_behind account [] = account
pool_account_behind account (entry ∷ log) = pool_account_behind (pool_account_after account entry) log

-- the account of a list of entries
abbrev pub pool_account_of : List PoolEntry → PoolAccount
pool_account_of log = pool_account_behind empty_pool_account log

-- the granted takes of all seats
abbrev pub all_taken : PoolAccount → ℕ
all_taken account = account.parent.taken + sum_by (λ it. it.traffic.taken) account.stretches + account.reaped.taken

-- the gives of all seats
abbrev pub all_given : PoolAccount → ℕ
all_given account = account.parent.given + sum_by (λ it. it.traffic.given) account.stretches + account.reaped.given

-- the frames out: the granted takes less the gives
abbrev pub frames_out : PoolAccount → ℕ
frames_out account = all_taken account - all_given account

-- what the snapshots may take that are allowed and not reaped
abbrev pub all_allowed : PoolAccount → ℕ
all_allowed account = sum_by (λ it. it.amount) account.stretches

-- the load: the parent's granted takes less its gives, the amount of each snapshot that is allowed and not reaped, and the granted takes less the gives of each that is reaped.
-- A snapshot also gives back what the parent took for it, so the gives are taken off the sum of all three
abbrev pub load : PoolAccount → ℕ
load account =
    (account.parent.taken + all_allowed account + account.reaped.taken) - (account.parent.given + account.reaped.given)

-- a granted take fits the amount of the stretch
abbrev pub FitsAmount : PoolAnswer → Stretch → Type 0
FitsAmount Lent stretch = stretch.traffic.taken < stretch.amount
FitsAmount NoneFree stretch = Unit {0}
FitsAmount (DeniedBy place) stretch = Unit {0}

-- the stretch of a seat
abbrev pub stretch_at : PoolAccount → ℕ → Option Stretch
stretch_at account seat = find (λ it. it.seat == seat) account.stretches

-- the stretch of snapshot n
abbrev pub stretch_of : PoolAccount → ℕ → Option Stretch
stretch_of account n = find (λ it. it.number == n) account.stretches

-- the seat is in a stretch that has not parted, and the stretch meets a condition
abbrev pub IsInStretch : PoolAccount → ℕ → (Stretch → Type 0) → Type 0
IsInStretch account seat condition =
    IfSome (stretch_at account seat) (λ it. (it.has_parted ≡ false) × condition it) × IsSome (stretch_at account seat)

-- a seat may take or give: the parent's at any time, another in a stretch of its own
abbrev pub MayDeal : PoolAccount → ℕ → (Stretch → Type 0) → Type 0
MayDeal account seat condition = (seat ≡ 0) ⊎ IsInStretch account seat condition

-- the frames out fit an answer, where so many were made and so many policies handed in: a frame is
-- lent and a policy asked only while one is free, and none is free only once all are out
abbrev pub FitsFrames : ℕ → ℕ → ℕ → PoolAnswer → Type 0
FitsFrames made policies out Lent = out < made
FitsFrames made policies out NoneFree = out ≡ made
FitsFrames made policies out (DeniedBy place) = (out < made) × (place < policies)

-- an act of a seat may stand behind an account, where the pool made so many frames and was handed so
-- many policies: a give only while a frame is out, an allowance only of a number and a seat that are
-- in no stretch
abbrev pub MayStandIn : ℕ → ℕ → PoolAccount → PoolAct → ℕ → Type 0
MayStandIn made policies account (Take want answer) seat =
    FitsFrames made policies (frames_out account) answer × MayDeal account seat (FitsAmount answer)
MayStandIn made policies account Give seat = (0 < frames_out account) × MayDeal account seat (λ it. Unit {0})
MayStandIn made policies account (Allow n other amount) seat =
    (seat ≡ 0) × (0 < other) × IsNone (stretch_at account other) × IsNone (stretch_of account n)
MayStandIn made policies account (Parted n) seat = IsInStretch account seat (λ it. it.number ≡ n)
MayStandIn made policies account (Reaped n) seat =
    (seat ≡ 0) × IfSome (stretch_of account n) (λ it. it.has_parted ≡ true) × IsSome (stretch_of account n)

-- each of the entries may stand behind those before it
abbrev pub ArePoolEntriesBehind : ℕ → ℕ → PoolAccount → List PoolEntry → Type 0
ArePoolEntriesBehind made policies account [] = Unit {0}
ArePoolEntriesBehind made policies account (entry ∷ log) =
    MayStandIn made policies account entry.act entry.seat
    × ArePoolEntriesBehind made policies (pool_account_after account entry) log

-- a list of entries of the lock of a pool that made so many frames and was handed so many policies
abbrev pub ArePoolEntries : ℕ → ℕ → List PoolEntry → Type 0
ArePoolEntries made policies log = ArePoolEntriesBehind made policies empty_pool_account log

-- how many stretches of snapshot n are open
abbrev pub times_open : ℕ → List Stretch → ℕ
times_open n stretches = count_by (λ it. it.number == n) stretches

-- how many stretches a seat is in
abbrev pub times_seated : ℕ → List Stretch → ℕ
times_seated seat stretches = count_by (λ it. it.seat == seat) stretches

-- what holds of the account of a pool that made so many frames: no more was given than taken, no more is out than was made or than the load, each number and each seat is in one stretch at most, and each stretch has taken its amount at most
pub record IsPoolAccount (made : ℕ) (account : PoolAccount) : Type 0 where
  pub given : all_given account ≤ all_taken account
  pub out : frames_out account ≤ made
  pub loaded : frames_out account ≤ load account
  pub numbers : (n : ℕ) → times_open n account.stretches ≤ 1
  pub seats : (seat : ℕ) → times_seated seat account.stretches ≤ 1
  pub amounts : AllByRecursion (λ it. it.traffic.taken ≤ it.amount) account.stretches
