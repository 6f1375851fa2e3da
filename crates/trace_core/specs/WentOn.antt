-- No call makes nothing of a kernel, and calls one after another make of it what calls may.
use Rattle.std.proofs.Common.{◌≡◌, ℕ, ◌≤◌, ◌<◌, List, [], ◌∷◌, ◌++◌, inl, inr, ◌⊎◌, refl, sym, ◌∙◌, ap, subst, arith, append_assoc}
use Rattle.std.proofs.lemmas.List.{append-nil}
use Rattle.std.specs.Prelude.{is_some, unwrap_or, Option, Some, None}
use Rattle.std.specs.FinMap.{get}
use Rattle.std.proofs.lemmas.Bool.{cases_lt, false≢true}
use Rattle.vm_base.specs.Counts.{next_count}
use Rattle.vm_base.specs.declared.frame_request.Asker.{Asker}
use Rattle.trace_core.specs.SupplyState.{SupplyState}
use Rattle.vm_base.specs.declared.frame_request.Asker.TheVariants.{Parent, Snapshot}
use Rattle.vm_base.specs.MemoryState.{IsListed}
use Rattle.vm_base.specs.SnapshotState.{SnapshotState, GoesOn}
use Rattle.kernel_meaning.specs.FrameLaw.{held_frames}
use Rattle.kernel_meaning.specs.RefusedRequests.{Request}
use Rattle.kernel_meaning.specs.Stretches.{Dealing, By, requests_among, made_among, out_among, requested_among, IsCountedFrom}
use Rattle.kernel_meaning.proofs.DealingLemmas.{requests_among-append, made_among-append, out_among-append, requested_among-append, counted_from-on, unasked}
use Rattle.trace_core.specs.Answering.{HaveLed}
use Rattle.trace_core.specs.KernelState.{Machine, KernelState}
use Rattle.trace_core.specs.KernelStanding.{KernelParts, KernelStands, copies_refused_in}
use Rattle.trace_core.specs.KernelSeen.{KernelNotes, live_numbers, nest_of}
use Rattle.trace_core.specs.DealtSupply.{as_asker, DealtAlong}
use Rattle.trace_core.specs.KernelWent.{IsStretch, KernelWent, AreGiven}

-- ---- no call

-- what is told of a snapshot goes on where nothing happens
pub goes_on-none : (snap : SnapshotState) → GoesOn snap snap
goes_on-none snap = record {
  mem = refl;
  found = λ cell at lost. lost;
  counted = omega arith;
  todo = omega arith;
  passed = λ passed. passed;
  whole = λ whole. whole;
}

stretch-none : (parts : KernelParts) → AreGiven parts → (machine : Machine) (state : KernelState) → KernelStands parts machine state → IsStretch parts parts machine state []
stretch-none parts given machine state stands = record {
  after = state;
  dealt = refl;
  led = λ opening earlier led. subst (λ requests. HaveLed machine.frames opening requests parts.supply.policies) (sym (append-nil earlier)) led;
  made = refl;
  named = refl;
  out = refl;
  refused = record { told = tt; rose = refl };
  kept = λ n old lives. record { told = tt; rose = refl };
  fresh = λ n new lives. let old : n ≤ parts.last = given n lives in absurd (omega (arith, new, old));
  askers = λ n some. absurd (none-asked some);
  stands = stands;
}
  where
    none-asked : 0 < 0 → ⊥
    none-asked some = omega (arith, some)

-- no call makes nothing of a kernel
pub went-none : (parts : KernelParts) (notes : KernelNotes) → AreGiven parts → KernelWent parts notes parts notes
went-none parts notes given = record {
  children = record {
    last = omega arith;
    lived = λ n old lives. lives;
    goes_on = λ n old lives. goes_on-none (nest_of parts notes n);
    counted = omega arith;
    lost = λ n old lives cell at none some. absurd (false≢true (ap is_some (sym none ∙ some)));
  };
  dealt = λ machine state stands. ([], stretch-none parts given machine state stands);
}

-- ---- one call after another

goes_on-on : (one two three : SnapshotState) → GoesOn one two → GoesOn two three → GoesOn one three
goes_on-on one two three a b = record {
  mem = b.mem ∙ a.mem;
  found = λ cell at lost. b.found cell at (a.found cell at lost);
  counted = omega (arith, a.counted, b.counted);
  todo = omega (arith, a.todo, b.todo);
  passed = λ passed. b.passed (a.passed passed);
  whole = λ whole. b.whole (a.whole whole);
}

-- dealings go on from a supply whoever asks it
dealt-as : (asker : Asker) (refused : ℕ) (old new : SupplyState) (dealings : List Dealing) → DealtAlong old dealings new → DealtAlong (as_asker asker refused old) dealings new
dealt-as asker refused old new [] dealt = ap (as_asker asker refused) dealt
dealt-as asker refused old new (By other deal ∷ dealings) dealt = dealt

dealt-on : (one two three : SupplyState) (xs ys : List Dealing) → DealtAlong one xs two → DealtAlong two ys three → DealtAlong one (xs ++ ys) three
dealt-on one two three [] ys a b = subst (λ supply. DealtAlong supply ys three) a (dealt-as one.asker one.refused two three ys b)
dealt-on one two three (By asker deal ∷ xs) ys a b = (a.0, (a.1.0, (a.1.1.0, (a.1.1.1.0, dealt-on a.0 two three xs ys a.1.1.1.1 b))))

module _ (p q r : KernelParts) (machine : Machine) (state : KernelState) (first second : List Dealing) (a : IsStretch p q machine state first) (b : IsStretch q r machine a.after second)
    (started : AreGiven p) (given : AreGiven q) (last : p.last ≤ q.last) (rises : q.last ≤ r.last)
    (lived : (n : ℕ) → n ≤ q.last → IsListed n (live_numbers r.snapshot) → IsListed n (live_numbers q.snapshot))
    (stood : (n : ℕ) → n ≤ p.last → IsListed n (live_numbers q.snapshot) → IsListed n (live_numbers p.snapshot)) where
  abbrev earlier_requests : List Request
  earlier_requests = requests_among state.named state.made (held_frames state.leaves) first

  abbrev later_requests : List Request
  later_requests = requests_among state.named (made_among state.made first) (out_among (held_frames state.leaves) first) second

  later-are : requests_among a.after.named a.after.made (held_frames a.after.leaves) second ≡ later_requests
  later-are = λ i. requests_among (a.named i) (a.made i) (a.out i) second

  -- a snapshot that was not forked yet did not ask
  unborn : (n : ℕ) → q.last < n → requested_among (Snapshot n) first ≡ 0
  unborn n later = elim (cases_lt 0 (requested_among (Snapshot n) first)) [
    | inl some ↦ elim (a.askers n some) [
      | inl lives ↦ let old : n ≤ p.last = started n lives in absurd (omega (arith, old, last, later))
      | inr forked ↦ let within : n ≤ q.last = forked.1 in absurd (omega (arith, within, later))
    ]
    | inr none ↦ omega (arith, none)
  ]

  fresh-on : (n : ℕ) → p.last < n → IsListed n (live_numbers r.snapshot) → IsCountedFrom (Snapshot n) 0 (first ++ second) (copies_refused_in r.snapshot)
  fresh-on n new lives = elim (cases_lt q.last n) [
    | inl later ↦ counted_from-on (Snapshot n) 0 0 (copies_refused_in r.snapshot) first second (unasked (Snapshot n) 0 first (unborn n later)) (b.fresh n later lives)
    | inr old ↦ counted_from-on (Snapshot n) 0 (copies_refused_in q.snapshot) (copies_refused_in r.snapshot) first second (a.fresh n new (lived n old lives)) (b.kept n old lives)
  ]

  askers-on : (n : ℕ) → 0 < requested_among (Snapshot n) (first ++ second) → IsListed n (live_numbers p.snapshot) ⊎ ((p.last < n) × (n ≤ r.last))
  askers-on n some = elim (cases_lt 0 (requested_among (Snapshot n) first)) [
    | inl here ↦ elim (a.askers n here) [
      | inl lives ↦ inl lives
      | inr forked ↦ let within : n ≤ q.last = forked.1 in inr (forked.0, omega (arith, within, rises))
    ]
    | inr none ↦
        let there : 0 < requested_among (Snapshot n) second = omega (arith, some, none, requested_among-append (Snapshot n) first second) in
        elim (b.askers n there) [
          | inl lives ↦ elim (cases_lt p.last n) [
            | inl above ↦ let within : n ≤ q.last = given n lives in inr (above, omega (arith, within, rises))
            | inr below ↦ inl (stood n below lives)
          ]
          | inr forked ↦ let above : q.last < n = forked.0 in inr (omega (arith, above, last), forked.1)
        ]
  ]

  pub stretch-on : IsStretch p r machine state (first ++ second)
  stretch-on = record {
    after = b.after;
    dealt = dealt-on p.supply q.supply r.supply first second a.dealt b.dealt;
    led = λ opening earlier led. subst (λ requests. HaveLed machine.frames opening requests r.supply.policies)
        (append_assoc earlier earlier_requests _ ∙ ap (λ later. earlier ++ (earlier_requests ++ later)) later-are
        ∙ ap (λ requests. earlier ++ requests) (sym (requests_among-append state.named state.made (held_frames state.leaves) first second)))
        (b.led opening (earlier ++ earlier_requests) (a.led opening earlier led));
    made = b.made ∙ ap (λ made. made_among made second) a.made ∙ sym (made_among-append state.made first second);
    named = b.named ∙ a.named;
    out = b.out ∙ ap (λ out. out_among out second) a.out ∙ sym (out_among-append (held_frames state.leaves) first second);
    refused = counted_from-on Parent p.supply.refused q.supply.refused r.supply.refused first second a.refused b.refused;
    kept = λ n old lives. let then : n ≤ q.last = omega (arith, old, last) in
        counted_from-on (Snapshot n) (copies_refused_in p.snapshot) (copies_refused_in q.snapshot) (copies_refused_in r.snapshot) first second (a.kept n old (lived n then lives)) (b.kept n then lives);
    fresh = fresh-on;
    askers = askers-on;
    stands = b.stands;
  }

-- what a snapshot has lost behind two stretches it lost in one of them
lost-on : (at old mid : ℕ) (one two three : Option ℕ) → old ≤ mid → one ≡ None → three ≡ Some at
    → ((at : ℕ) → one ≡ None → two ≡ Some at → next_count old ≤ at) → (two ≡ None → next_count mid ≤ at) → ((at : ℕ) → two ≡ Some at → three ≡ Some at) → next_count old ≤ at
lost-on at old mid one None three rose none some first second stays = let later : next_count mid ≤ at = second refl in omega (arith, later, rose)
lost-on at old mid one (Some here) three rose none some first second stays =
    let same : here ≡ at = ap (λ o. unwrap_or o here) (sym (stays here refl) ∙ some) in
    let before : next_count old ≤ here = first here none refl in
    omega (arith, same, before)

-- calls one after another make of a kernel what calls may
pub went-on : (p q r : KernelParts) (notes mid later : KernelNotes) → AreGiven p → AreGiven q → KernelWent p notes q mid → KernelWent q mid r later → KernelWent p notes r later
went-on p q r notes mid later started given one two = record {
  children = record {
    last = omega (arith, one.children.last, two.children.last);
    lived = λ n old lives. one.children.lived n old (two.children.lived n (omega (arith, old, one.children.last)) lives);
    goes_on = λ n old lives. let then : n ≤ q.last = omega (arith, old, one.children.last) in
        goes_on-on (nest_of p notes n) (nest_of q mid n) (nest_of r later n)
        (one.children.goes_on n old (two.children.lived n then lives)) (two.children.goes_on n then lives);
    counted = omega (arith, one.children.counted, two.children.counted);
    lost = λ n old lives cell at none some. let then : n ≤ q.last = omega (arith, old, one.children.last) in
        lost-on at p.supply.refused q.supply.refused (get (nest_of p notes n).found cell) (get (nest_of q mid n).found cell) (get (nest_of r later n).found cell) one.children.counted none some
        (λ at. one.children.lost n old (two.children.lived n then lives) cell at) (λ none. two.children.lost n then lives cell at none some)
        (λ at lost. (two.children.goes_on n then lives).found cell at lost);
  };
  dealt = λ machine state stands.
      let first = one.dealt machine state stands in
      let second = two.dealt machine first.1.after first.1.stands in
      (first.0 ++ second.0, stretch-on p q r machine state first.0 second.0 first.1 second.1 started given one.children.last two.children.last two.children.lived one.children.lived);
}
