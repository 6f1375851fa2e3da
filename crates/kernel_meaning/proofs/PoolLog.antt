-- What holds of the account of the pool holds behind each entry that may stand there.
use Rattle.std.proofs.Common.{◌≡◌, ◌∙◌, ℕ, ◌+◌, ◌-◌, ◌<◌, ◌≤◌, ◌==◌, inl, inr, Bool, true, false, cond, List, [], ◌∷◌, ◌++◌, map, refl, sym, ap, subst, arith}
use mathlib.Core.Bool.{true≢false}
use Rattle.std.specs.Prelude.{not, sum_by, count_by, filter, Some, IfSome, IsSome, IsNone}
use Rattle.std.specs.List.{find, AllByRecursion}
use Rattle.std.proofs.lemmas.List.Sums.{sum_by-cons, sum_by-append}
use Rattle.kernel_meaning.specs.PoolAccount.{PoolAnswer, Lent, NoneFree, DeniedBy, PoolAct, Take, Give, Allow, Parted, Reaped, PoolEntry, Traffic, no_traffic, with_take, with_give, Stretch, PoolAccount, empty_pool_account, with_stretch, opening_stretch, traffic_of, pool_act, pool_account_after, pool_account_behind, pool_account_of, all_taken, all_given, frames_out, load, FitsAmount, stretch_at, stretch_of, IsInStretch, FitsFrames, MayStandIn, ArePoolEntriesBehind, ArePoolEntries, times_open, times_seated, IsPoolAccount}

-- ---- lists of stretches

-- those that pass a test become others
abbrev changed : (Stretch → Bool) → (Stretch → Stretch) → List Stretch → List Stretch
changed test change stretches = map (λ it. cond (test it) (change it) it) stretches

-- what a stretch has taken and given
abbrev taken_by : Stretch → ℕ
taken_by it = it.traffic.taken

abbrev given_by : Stretch → ℕ
given_by it = it.traffic.given

-- a stretch has taken its amount at most
abbrev IsWithin : Stretch → Type 0
IsWithin it = it.traffic.taken ≤ it.amount

one_same : (m : Stretch → ℕ) (b : Bool) (x y : Stretch) → m x ≡ m y → m (cond b x y) ≡ m y
one_same m true x y same = same
one_same m false x y same = refl

one_more : (m : Stretch → ℕ) (b : Bool) (x y : Stretch) → m x ≡ m y + 1 → m (cond b x y) ≡ m y + cond b 1 0
one_more m true x y more = more
one_more m false x y more = omega arith

changed-sum : (m : Stretch → ℕ) (test : Stretch → Bool) (change : Stretch → Stretch) → ((it : Stretch) → m (change it) ≡ m it)
    → (stretches : List Stretch) → sum_by m (changed test change stretches) ≡ sum_by m stretches
changed-sum m test change same [] = refl
changed-sum m test change same (it ∷ others) =
    omega (
      arith,
      changed-sum m test change same others,
      one_same m (test it) (change it) it (same it),
      sum_by-cons m it others,
      sum_by-cons m (cond (test it) (change it) it) (changed test change others),
    )

changed-more : (m : Stretch → ℕ) (test : Stretch → Bool) (change : Stretch → Stretch) → ((it : Stretch) → m (change it) ≡ m it + 1)
    → (stretches : List Stretch) → sum_by m (changed test change stretches) ≡ sum_by m stretches + count_by test stretches
changed-more m test change more [] = refl
changed-more m test change more (it ∷ others) =
    omega (
      arith,
      changed-more m test change more others,
      one_more m (test it) (change it) it (more it),
      sum_by-cons m it others,
      sum_by-cons m (cond (test it) (change it) it) (changed test change others),
      sum_by-cons (λ x. cond (test x) 1 0) it others,
    )

one_of : (P : Stretch → Type 0) (b : Bool) (x y : Stretch) → P x → P y → P (cond b x y)
one_of P true x y here there = here
one_of P false x y here there = there

changed-all : (test : Stretch → Bool) (change : Stretch → Stretch) → ((it : Stretch) → IsWithin it → IsWithin (change it))
    → (stretches : List Stretch) → AllByRecursion IsWithin stretches → AllByRecursion IsWithin (changed test change stretches)
changed-all test change keeps [] all = tt
changed-all test change keeps (it ∷ others) all =
    (one_of IsWithin (test it) (change it) it (keeps it all.0) all.0, changed-all test change keeps others all.1)

-- none of them passes
none_passes : (test : Stretch → Bool) (it : Stretch) (others : List Stretch) → count_by test (it ∷ others) ≡ 0 → (test it ≡ false) × (count_by test others ≡ 0)
none_passes test it others none = by (test it) refl
  where
    by : (b : Bool) → test it ≡ b → (test it ≡ false) × (count_by test others ≡ 0)
    by b is =
        let sum : cond b 1 0 + count_by test others ≡ 0 = subst (λ b. cond b 1 0 + count_by test others ≡ 0) is (sym (sum_by-cons (λ x. cond (test x) 1 0) it others) ∙ none) in
        shown b is sum
      where
        shown : (b : Bool) → test it ≡ b → cond b 1 0 + count_by test others ≡ 0 → (test it ≡ false) × (count_by test others ≡ 0)
        shown true is sum = absurd (omega (arith, sum))
        shown false is sum = (is, omega (arith, sum))

changed-none : (test : Stretch → Bool) (change : Stretch → Stretch) (stretches : List Stretch) → count_by test stretches ≡ 0 → changed test change stretches ≡ stretches
changed-none test change [] none = refl
changed-none test change (it ∷ others) none =
    let apart = none_passes test it others none in
    ap (λ b. cond b (change it) it ∷ changed test change others) apart.0 ∙ ap (λ rest. it ∷ rest) (changed-none test change others apart.1)

-- a frame is lent to the only one that passes, which had not taken its amount
lent-all : (test : Stretch → Bool) (change : Stretch → Stretch) → ((it : Stretch) → it.traffic.taken < it.amount → IsWithin (change it))
    → (stretches : List Stretch) → count_by test stretches ≤ 1 → IfSome (find test stretches) (λ it. (it.has_parted ≡ false) × (it.traffic.taken < it.amount))
    → AllByRecursion IsWithin stretches → AllByRecursion IsWithin (changed test change stretches)
lent-all test change lent [] once here all = tt
lent-all test change lent (it ∷ others) once here all = by (test it) refl (λ counted found. lent-all test change lent others counted found all.1)
  where
    sum : count_by test (it ∷ others) ≡ cond (test it) 1 0 + count_by test others
    sum = sum_by-cons (λ x. cond (test x) 1 0) it others

    by : (b : Bool) → test it ≡ b → (count_by test others ≤ 1 → IfSome (find test others) (λ it. (it.has_parted ≡ false) × (it.traffic.taken < it.amount)) → AllByRecursion IsWithin (changed test change others))
        → AllByRecursion IsWithin (changed test change (it ∷ others))
    by true is later =
        let found : (it.has_parted ≡ false) × (it.traffic.taken < it.amount) =
        subst (λ b. IfSome (cond b (Some it) (find test others)) (λ it. (it.has_parted ≡ false) × (it.traffic.taken < it.amount))) is here in
        let counted : 1 + count_by test others ≤ 1 = subst (λ b. cond b 1 0 + count_by test others ≤ 1) is (subst (λ n. n ≤ 1) sum once) in
        subst (λ rest. AllByRecursion IsWithin (cond (test it) (change it) it ∷ rest)) (sym (changed-none test change others (omega (arith, counted))))
        (subst (λ b. IsWithin (cond b (change it) it)) (sym is) (lent it found.1), all.1)
    by false is later =
        let found : IfSome (find test others) (λ it. (it.has_parted ≡ false) × (it.traffic.taken < it.amount)) =
        subst (λ b. IfSome (cond b (Some it) (find test others)) (λ it. (it.has_parted ≡ false) × (it.traffic.taken < it.amount))) is here in
        let counted : 0 + count_by test others ≤ 1 = subst (λ b. cond b 1 0 + count_by test others ≤ 1) is (subst (λ n. n ≤ 1) sum once) in
        (subst (λ b. IsWithin (cond b (change it) it)) (sym is) all.0, later (omega (arith, counted)) found)

-- where one is found, one at least passes
found-counted : (test : Stretch → Bool) (stretches : List Stretch) → IsSome (find test stretches) → 1 ≤ count_by test stretches
found-counted test [] found = absurd (true≢false (sym found))
found-counted test (it ∷ others) found = by (test it) refl (found-counted test others)
  where
    sum : count_by test (it ∷ others) ≡ cond (test it) 1 0 + count_by test others
    sum = sum_by-cons (λ x. cond (test x) 1 0) it others

    by : (b : Bool) → test it ≡ b → (IsSome (find test others) → 1 ≤ count_by test others) → 1 ≤ count_by test (it ∷ others)
    by true is later = omega (arith, sum ∙ ap (λ b. cond b 1 0 + count_by test others) is)
    by false is later =
        let rest = later (subst (λ b. IsSome (cond b (Some it) (find test others))) is found) in
        omega (arith, rest, sum ∙ ap (λ b. cond b 1 0 + count_by test others) is)

-- where none is found, none passes
lacking-counted : (test : Stretch → Bool) (stretches : List Stretch) → IsNone (find test stretches) → count_by test stretches ≡ 0
lacking-counted test [] lacking = refl
lacking-counted test (it ∷ others) lacking = by (test it) refl (lacking-counted test others)
  where
    sum : count_by test (it ∷ others) ≡ cond (test it) 1 0 + count_by test others
    sum = sum_by-cons (λ x. cond (test x) 1 0) it others

    by : (b : Bool) → test it ≡ b → (IsNone (find test others) → count_by test others ≡ 0) → count_by test (it ∷ others) ≡ 0
    by true is later = absurd (true≢false (subst (λ b. IsNone (cond b (Some it) (find test others))) is lacking))
    by false is later =
        sum ∙ ap (λ b. cond b 1 0 + count_by test others) is
        ∙ omega (arith, later (subst (λ b. IsNone (cond b (Some it) (find test others))) is lacking))

-- ---- stretches that go

one_gone : (m : Stretch → ℕ) (b : Bool) (it : Stretch) (rest : List Stretch) → sum_by m (cond b (it ∷ rest) rest) ≡ cond b (m it) 0 + sum_by m rest
one_gone m true it rest = sum_by-cons m it rest
one_gone m false it rest = omega arith

filtered-sum : (m : Stretch → ℕ) (test : Stretch → Bool) (stretches : List Stretch) → sum_by m (filter test stretches) ≤ sum_by m stretches
filtered-sum m test [] = omega arith
filtered-sum m test (it ∷ others) =
    omega (arith, filtered-sum m test others, one_gone m (test it) it (filter test others), sum_by-cons m it others, at_most (test it) (m it))
  where
    at_most : (b : Bool) (n : ℕ) → cond b n 0 ≤ n
    at_most true n = omega arith
    at_most false n = omega arith

filtered-all : (test : Stretch → Bool) (stretches : List Stretch) → AllByRecursion IsWithin stretches → AllByRecursion IsWithin (filter test stretches)
filtered-all test [] all = tt
filtered-all test (it ∷ others) all = by (test it) (filtered-all test others all.1)
  where
    by : (b : Bool) → AllByRecursion IsWithin (filter test others) → AllByRecursion IsWithin (cond b (it ∷ filter test others) (filter test others))
    by true later = (all.0, later)
    by false later = later

-- none goes where none has the number
none_gone : (m : Stretch → ℕ) (n : ℕ) (stretches : List Stretch) → times_open n stretches ≡ 0 → sum_by m (filter (λ it. not (it.number == n)) stretches) ≡ sum_by m stretches
none_gone m n [] none = refl
none_gone m n (it ∷ others) none =
    let apart = none_passes (λ it. it.number == n) it others none in
    let one : sum_by m (filter (λ it. not (it.number == n)) (it ∷ others)) ≡ cond (not (it.number == n)) (m it) 0 + sum_by m (filter (λ it. not (it.number == n)) others) =
    one_gone m (not (it.number == n)) it (filter (λ it. not (it.number == n)) others) in
    one ∙ ap (λ b. cond (not b) (m it) 0 + sum_by m (filter (λ it. not (it.number == n)) others)) apart.0
    ∙ ap (λ k. m it + k) (none_gone m n others apart.1) ∙ sym (sum_by-cons m it others)

-- a number of a stretch's traffic
abbrev count_of : (Traffic → ℕ) → Stretch → ℕ
count_of m it = m it.traffic

-- the stretches of other numbers
abbrev others_than : ℕ → List Stretch → List Stretch
others_than n stretches = filter (λ it. not (it.number == n)) stretches

-- what goes with the only stretch of a number is what that has
only_gone : (m : Traffic → ℕ) → m no_traffic ≡ 0 → (n : ℕ) (stretches : List Stretch) → times_open n stretches ≤ 1
    → sum_by (count_of m) (others_than n stretches) + m (traffic_of n stretches) ≡ sum_by (count_of m) stretches
only_gone m nothing n [] once = omega (arith, nothing)
only_gone m nothing n (it ∷ others) once = by (it.number == n) refl (only_gone m nothing n others)
  where
    sum : times_open n (it ∷ others) ≡ cond (it.number == n) 1 0 + times_open n others
    sum = sum_by-cons (λ x. cond (x.number == n) 1 0) it others

    one : sum_by (count_of m) (others_than n (it ∷ others)) ≡ cond (not (it.number == n)) (m it.traffic) 0 + sum_by (count_of m) (others_than n others)
    one = one_gone (count_of m) (not (it.number == n)) it (others_than n others)

    by : (b : Bool) → (it.number == n) ≡ b
        → (times_open n others ≤ 1 → sum_by (count_of m) (others_than n others) + m (traffic_of n others) ≡ sum_by (count_of m) others)
        → sum_by (count_of m) (others_than n (it ∷ others)) + m (traffic_of n (it ∷ others)) ≡ sum_by (count_of m) (it ∷ others)
    by true is rest =
        let counted : 1 + times_open n others ≤ 1 = subst (λ b. cond b 1 0 + times_open n others ≤ 1) is (subst (λ k. k ≤ 1) sum once) in
        let first : m (traffic_of n (it ∷ others)) ≡ m it.traffic = ap (λ b. m (cond b it.traffic (traffic_of n others))) is in
        let gone : sum_by (count_of m) (others_than n (it ∷ others)) ≡ 0 + sum_by (count_of m) (others_than n others) =
        one ∙ ap (λ b. cond (not b) (m it.traffic) 0 + sum_by (count_of m) (others_than n others)) is in
        omega (arith, gone, first, none_gone (count_of m) n others (omega (arith, counted)), sum_by-cons (count_of m) it others)
    by false is rest =
        let counted : 0 + times_open n others ≤ 1 = subst (λ b. cond b 1 0 + times_open n others ≤ 1) is (subst (λ k. k ≤ 1) sum once) in
        let later : m (traffic_of n (it ∷ others)) ≡ m (traffic_of n others) = ap (λ b. m (cond b it.traffic (traffic_of n others))) is in
        let stays : sum_by (count_of m) (others_than n (it ∷ others)) ≡ m it.traffic + sum_by (count_of m) (others_than n others) =
        one ∙ ap (λ b. cond (not b) (m it.traffic) 0 + sum_by (count_of m) (others_than n others)) is in
        omega (arith, stays, later, rest (omega (arith, counted)), sum_by-cons (count_of m) it others)

-- ---- the account

-- what is taken fits what may be taken
taken-allowed : (stretches : List Stretch) → AllByRecursion IsWithin stretches → sum_by taken_by stretches ≤ sum_by (λ it. it.amount) stretches
taken-allowed [] all = omega arith
taken-allowed (it ∷ others) all =
    let here : it.traffic.taken ≤ it.amount = all.0 in
    omega (arith, here, taken-allowed others all.1, sum_by-cons taken_by it others, sum_by-cons (λ it. it.amount) it others)

-- the frames out are in the load
loaded : (account : PoolAccount) → AllByRecursion IsWithin account.stretches → frames_out account ≤ load account
loaded account all = omega (arith, taken-allowed account.stretches all)

-- the stretches of an account become others, which have taken and given so many more
record StretchesGo (taken given : ℕ) (old new : List Stretch) : Type 0 where
  takes : sum_by taken_by new ≡ sum_by taken_by old + taken
  gives : sum_by given_by new ≡ sum_by given_by old + given
  numbers : (n : ℕ) → times_open n new ≤ 1
  seats : (seat : ℕ) → times_seated seat new ≤ 1
  amounts : AllByRecursion IsWithin new

stretches-go : (made taken given : ℕ) (account : PoolAccount) (new : List Stretch) → StretchesGo taken given account.stretches new
    → all_given account + given ≤ all_taken account + taken → (all_taken account + taken) - (all_given account + given) ≤ made
    → IsPoolAccount made (record account { stretches = new })
stretches-go made taken given account new goes less fits = record {
  given = omega (arith, less, goes.takes, goes.gives);
  out = omega (arith, fits, goes.takes, goes.gives);
  loaded = loaded (record account { stretches = new }) goes.amounts;
  numbers = goes.numbers;
  seats = goes.seats;
  amounts = goes.amounts;
}

-- a change of the stretches of a seat that keeps their numbers, their seats and what they have taken
module _ (made : ℕ) (account : PoolAccount) (is : IsPoolAccount made account) (seat : ℕ) where
  abbrev here : Stretch → Bool
  here it = it.seat == seat

  same-go : (change : Stretch → Stretch) → ((it : Stretch) → (change it).number ≡ it.number) → ((it : Stretch) → (change it).seat ≡ it.seat)
      → (given : ℕ) → sum_by taken_by (changed here change account.stretches) ≡ sum_by taken_by account.stretches
      → sum_by given_by (changed here change account.stretches) ≡ sum_by given_by account.stretches + given
      → ((it : Stretch) → IsWithin it → IsWithin (change it))
      → StretchesGo 0 given account.stretches (changed here change account.stretches)
  same-go change number seated given takes gives within = record {
    takes = omega (arith, takes);
    gives = gives;
    numbers = λ n. subst (λ k. k ≤ 1) (sym (changed-sum (λ x. cond (x.number == n) 1 0) here change (λ it. ap (λ k. cond (k == n) 1 0) (number it)) account.stretches)) (is.numbers n);
    seats = λ s. subst (λ k. k ≤ 1) (sym (changed-sum (λ x. cond (x.seat == s) 1 0) here change (λ it. ap (λ k. cond (k == s) 1 0) (seated it)) account.stretches)) (is.seats s);
    amounts = changed-all here change within account.stretches is.amounts;
  }

  -- the parent takes
  parent-takes : (policies : ℕ) (answer : PoolAnswer) → FitsFrames made policies (frames_out account) answer
      → IsPoolAccount made (record account { parent = with_take answer account.parent })
  parent-takes policies Lent fits = record {
    given = omega (arith, is.given);
    out = omega (arith, fits, is.given);
    loaded = loaded (record account { parent = with_take Lent account.parent }) is.amounts;
    numbers = is.numbers;
    seats = is.seats;
    amounts = is.amounts;
  }
  parent-takes policies NoneFree fits = is
  parent-takes policies (DeniedBy place) fits = is

  -- the parent gives
  parent-gives : 0 < frames_out account → IsPoolAccount made (record account { parent = with_give account.parent })
  parent-gives out = record {
    given = omega (arith, out, is.given);
    out = omega (arith, is.out);
    loaded = loaded (record account { parent = with_give account.parent }) is.amounts;
    numbers = is.numbers;
    seats = is.seats;
    amounts = is.amounts;
  }

  -- the seat is in one stretch
  in_one : (condition : Stretch → Type 0) → IsInStretch account seat condition → times_seated seat account.stretches ≡ 1
  in_one condition in_stretch = omega (arith, found-counted here account.stretches in_stretch.1, is.seats seat)

  -- the stretches where nothing was taken or given
  still-go : (change : Stretch → Stretch) → ((it : Stretch) → (change it).number ≡ it.number) → ((it : Stretch) → (change it).seat ≡ it.seat)
      → ((it : Stretch) → (change it).traffic ≡ it.traffic) → ((it : Stretch) → (change it).amount ≡ it.amount)
      → IsPoolAccount made (record account { stretches = changed here change account.stretches })
  still-go change number seated traffic amount =
      stretches-go made 0 0 account (changed here change account.stretches)
      (same-go change number seated 0 (changed-sum taken_by here change (λ it. ap (λ t. t.taken) (traffic it)) account.stretches)
      (omega (arith, changed-sum given_by here change (λ it. ap (λ t. t.given) (traffic it)) account.stretches))
      (λ it within. omega (arith, within, ap (λ t. t.taken) (traffic it), amount it)))
      (omega (arith, is.given)) (omega (arith, is.out))

  -- a seat takes in its stretch
  stretch-takes : (policies : ℕ) (answer : PoolAnswer) → FitsFrames made policies (frames_out account) answer
      → IsInStretch account seat (FitsAmount answer)
      → IsPoolAccount made (record account { stretches = with_stretch (λ it. record it { traffic = with_take answer it.traffic }) seat account.stretches })
  stretch-takes policies Lent fits in_stretch =
      let change : Stretch → Stretch = λ it. record it { traffic = with_take Lent it.traffic } in
      stretches-go made 1 0 account (changed here change account.stretches) (record {
        takes = changed-more taken_by here change (λ it. refl) account.stretches ∙ ap (λ k. sum_by taken_by account.stretches + k) (in_one (FitsAmount Lent) in_stretch);
        gives = omega (arith, changed-sum given_by here change (λ it. refl) account.stretches);
        numbers = λ n. subst (λ k. k ≤ 1) (sym (changed-sum (λ x. cond (x.number == n) 1 0) here change (λ it. refl) account.stretches)) (is.numbers n);
        seats = λ s. subst (λ k. k ≤ 1) (sym (changed-sum (λ x. cond (x.seat == s) 1 0) here change (λ it. refl) account.stretches)) (is.seats s);
        amounts = lent-all here change (λ it less. omega (arith, less)) account.stretches (is.seats seat) in_stretch.0 is.amounts;
      }) (omega (arith, is.given)) (omega (arith, fits, is.given))
  stretch-takes policies NoneFree fits in_stretch = still-go (λ it. record it { traffic = with_take NoneFree it.traffic }) (λ it. refl) (λ it. refl) (λ it. refl) (λ it. refl)
  stretch-takes policies (DeniedBy place) fits in_stretch = still-go (λ it. record it { traffic = with_take (DeniedBy place) it.traffic }) (λ it. refl) (λ it. refl) (λ it. refl) (λ it. refl)

  -- a seat gives in its stretch
  stretch-gives : 0 < frames_out account → IsInStretch account seat (λ it. Unit {0})
      → IsPoolAccount made (record account { stretches = with_stretch (λ it. record it { traffic = with_give it.traffic }) seat account.stretches })
  stretch-gives out in_stretch =
      let change : Stretch → Stretch = λ it. record it { traffic = with_give it.traffic } in
      stretches-go made 0 1 account (changed here change account.stretches)
      (same-go change (λ it. refl) (λ it. refl) 1 (changed-sum taken_by here change (λ it. refl) account.stretches)
      (changed-more given_by here change (λ it. refl) account.stretches ∙ ap (λ k. sum_by given_by account.stretches + k) (in_one (λ it. Unit {0}) in_stretch))
      (λ it within. within))
      (omega (arith, out, is.given)) (omega (arith, is.out))

  -- a stretch begins
  begins : (n other amount : ℕ) → IsNone (stretch_at account other) → IsNone (stretch_of account n)
      → IsPoolAccount made (record account { stretches = account.stretches ++ opening_stretch other n amount ∷ [] })
  begins n other amount free_seat free_number =
      stretches-go made 0 0 account (account.stretches ++ opening_stretch other n amount ∷ []) (record {
        takes = sum_by-append taken_by account.stretches (opening_stretch other n amount ∷ []);
        gives = sum_by-append given_by account.stretches (opening_stretch other n amount ∷ []);
        numbers = λ k. once (λ it. it.number == k) n k refl (is.numbers k) (λ same. subst (λ k. times_open k account.stretches ≡ 0) same (lacking-counted (λ it. it.number == n) account.stretches free_number));
        seats = λ s. once (λ it. it.seat == s) other s refl (is.seats s) (λ same. subst (λ s. times_seated s account.stretches ≡ 0) same (lacking-counted (λ it. it.seat == other) account.stretches free_seat));
        amounts = pushed account.stretches is.amounts;
      }) (omega (arith, is.given)) (omega (arith, is.out))
    where
      once : (test : Stretch → Bool) (a b : ℕ) → test (opening_stretch other n amount) ≡ (a == b) → count_by test account.stretches ≤ 1 → (a ≡ b → count_by test account.stretches ≡ 0)
          → count_by test (account.stretches ++ opening_stretch other n amount ∷ []) ≤ 1
      once test a b is_here before lacks =
          let sum : count_by test (account.stretches ++ opening_stretch other n amount ∷ []) ≡ count_by test account.stretches + cond (test (opening_stretch other n amount)) 1 0 =
          sum_by-append (λ x. cond (test x) 1 0) account.stretches (opening_stretch other n amount ∷ [])
          ∙ ap (λ k. count_by test account.stretches + k) (sum_by-cons (λ x. cond (test x) 1 0) (opening_stretch other n amount) [] ∙ omega arith) in
          by (a == b) refl (sum ∙ ap (λ c. count_by test account.stretches + cond c 1 0) is_here)
        where
          by : (c : Bool) → (a == b) ≡ c → count_by test (account.stretches ++ opening_stretch other n amount ∷ []) ≡ count_by test account.stretches + cond (a == b) 1 0
              → count_by test (account.stretches ++ opening_stretch other n amount ∷ []) ≤ 1
          by true same sum = omega (arith, sum ∙ ap (λ c. count_by test account.stretches + cond c 1 0) same, lacks (grind (arith, same)))
          by false apart sum = omega (arith, sum ∙ ap (λ c. count_by test account.stretches + cond c 1 0) apart, before)

      pushed : (stretches : List Stretch) → AllByRecursion IsWithin stretches → AllByRecursion IsWithin (stretches ++ opening_stretch other n amount ∷ [])
      pushed [] all = (omega arith, tt)
      pushed (it ∷ others) all = (all.0, pushed others all.1)

  -- a stretch is reaped
  reaped : (n : ℕ) → IsPoolAccount made (pool_act (Reaped n) seat account)
  reaped n =
      let taken : sum_by taken_by (others_than n account.stretches) + (traffic_of n account.stretches).taken ≡ sum_by taken_by account.stretches =
      only_gone (λ t. t.taken) refl n account.stretches (is.numbers n) in
      let given : sum_by given_by (others_than n account.stretches) + (traffic_of n account.stretches).given ≡ sum_by given_by account.stretches =
      only_gone (λ t. t.given) refl n account.stretches (is.numbers n) in
      record {
        given = omega (arith, is.given, taken, given);
        out = omega (arith, is.out, taken, given);
        loaded = loaded (pool_act (Reaped n) seat account) (filtered-all (λ it. not (it.number == n)) account.stretches is.amounts);
        numbers = λ k. omega (arith, filtered-sum (λ x. cond (x.number == k) 1 0) (λ it. not (it.number == n)) account.stretches, is.numbers k);
        seats = λ s. omega (arith, filtered-sum (λ x. cond (x.seat == s) 1 0) (λ it. not (it.number == n)) account.stretches, is.seats s);
        amounts = filtered-all (λ it. not (it.number == n)) account.stretches is.amounts;
      }

dealt-either : (made : ℕ) (b : Bool) (x y : PoolAccount) → IsPoolAccount made x → (b ≡ false → IsPoolAccount made y) → IsPoolAccount made (cond b x y)
dealt-either made true x y parents others = parents
dealt-either made false x y parents others = others refl

not_parent : (seat : ℕ) → (seat == 0) ≡ false → seat ≡ 0 → ⊥
not_parent seat apart same = grind (arith, apart, same)

-- one entry more
keeps : (made policies : ℕ) (account : PoolAccount) → IsPoolAccount made account → (act : PoolAct) (seat : ℕ) → MayStandIn made policies account act seat → IsPoolAccount made (pool_act act seat account)
keeps made policies account is (Take want answer) seat may =
    dealt-either made (seat == 0) _ _ (parent-takes made account is seat policies answer may.0)
    (λ apart. elim may.1 as (λ _. IsPoolAccount made (record account { stretches = with_stretch (λ it. record it { traffic = with_take answer it.traffic }) seat account.stretches })) [
      | inl parents ↦ absurd (not_parent seat apart parents)
      | inr in_stretch ↦ stretch-takes made account is seat policies answer may.0 in_stretch
    ])
keeps made policies account is Give seat may =
    dealt-either made (seat == 0) _ _ (parent-gives made account is seat may.0)
    (λ apart. elim may.1 as (λ _. IsPoolAccount made (record account { stretches = with_stretch (λ it. record it { traffic = with_give it.traffic }) seat account.stretches })) [
      | inl parents ↦ absurd (not_parent seat apart parents)
      | inr in_stretch ↦ stretch-gives made account is seat may.0 in_stretch
    ])
keeps made policies account is (Allow n other amount) seat may = begins made account is seat n other amount may.2 may.3
keeps made policies account is (Parted n) seat may = still-go made account is seat (λ it. record it { has_parted = true }) (λ it. refl) (λ it. refl) (λ it. refl) (λ it. refl)
keeps made policies account is (Reaped n) seat may = reaped made account is seat n

behind : (made policies : ℕ) (account : PoolAccount) (log : List PoolEntry) → IsPoolAccount made account → ArePoolEntriesBehind made policies account log → IsPoolAccount made (pool_account_behind account log)
behind made policies account [] is are = is
behind made policies account (entry ∷ log) is are = behind made policies (pool_account_after account entry) log (keeps made policies account is entry.act entry.seat are.0) are.1

empty_is_one : (made : ℕ) → IsPoolAccount made empty_pool_account
empty_is_one made = record {
  given = omega arith;
  out = omega arith;
  loaded = omega arith;
  numbers = λ n. omega arith;
  seats = λ seat. omega arith;
  amounts = tt;
}

-- a list of entries leaves such an account
pub pool_log-kept : (made policies : ℕ) (log : List PoolEntry) → ArePoolEntries made policies log → IsPoolAccount made (pool_account_of log)
pool_log-kept made policies log are = behind made policies empty_pool_account log (empty_is_one made) are

-- ---- the load

-- a change of the stretches that keeps their amounts keeps the load
load-stretches : (account : PoolAccount) (test : Stretch → Bool) (change : Stretch → Stretch) → ((it : Stretch) → (change it).amount ≡ it.amount)
    → load (record account { stretches = changed test change account.stretches }) ≡ load account
load-stretches account test change same =
    ap (λ allowed. (account.parent.taken + allowed + account.reaped.taken) - (account.parent.given + account.reaped.given))
    (changed-sum (λ it. it.amount) test change same account.stretches)

-- of two accounts the one that a test chooses
chosen : (b : Bool) (x y : PoolAccount) (n : ℕ) → b ≡ false → load y ≡ n → load (cond b x y) ≡ n
chosen true x y n apart there = absurd (true≢false apart)
chosen false x y n apart there = there

other_seat : (seat : ℕ) → (seat ≡ 0 → ⊥) → (seat == 0) ≡ false
other_seat seat apart = grind (arith, apart)

-- only an entry of the parent changes the load
pub other-load : (made policies : ℕ) (account : PoolAccount) (act : PoolAct) (seat : ℕ) → MayStandIn made policies account act seat → (seat ≡ 0 → ⊥) → load (pool_act act seat account) ≡ load account
other-load made policies account (Take want answer) seat may apart =
    chosen (seat == 0) _ _ (load account) (other_seat seat apart)
    (load-stretches account (λ it. it.seat == seat) (λ it. record it { traffic = with_take answer it.traffic }) (λ it. refl))
other-load made policies account Give seat may apart =
    chosen (seat == 0) _ _ (load account) (other_seat seat apart)
    (load-stretches account (λ it. it.seat == seat) (λ it. record it { traffic = with_give it.traffic }) (λ it. refl))
other-load made policies account (Allow n other amount) seat may apart = absurd (apart may.0)
other-load made policies account (Parted n) seat may apart = load-stretches account (λ it. it.seat == seat) (λ it. record it { has_parted = true }) (λ it. refl)
other-load made policies account (Reaped n) seat may apart = absurd (apart may.0)
