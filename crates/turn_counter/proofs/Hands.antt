-- Seats out to jobs, and back.
use Rattle.std.proofs.Common.{◌≡◌, ℕ, ◌+◌, ◌<◌, ◌≤◌, ◌≢◌, List, [], ◌∷◌, ◌++◌, length, get_or, set, sym, refl, ap, ◌∙◌, subst, arith, length-append, get_or-set_other, get_or-set_same, le_refl, ◌%◌, ◌^◌}
use Rattle.std.specs.Prelude.{Option, Some, None}
use Rattle.std.proofs.lemmas.List.{get_or_append_left}
use Rattle.std.proofs.Math.Seq.{get_or-append_seam}
use Rattle.std.proofs.Math.ListN.{get_or-eq_default}
use mathlib.Core.Logic.{dite}
use native.Mathlib.Decide.{ℕ_discrete, dec_lt}
use Rattle.turn_cell.specs.declared.seat.Seat.{Seat}
use Rattle.turn_cell.specs.declared.seat.SeatList.{SeatList}
use Rattle.turn_cell.specs.Seats.{CellId, IsSeatOf, mine}
use Rattle.turn_cell.specs.Lists.{list_id, list_slots, slot_at, IsList, IsNew, IsNewList, IsLeastOf, IsWhole, IsWholeHistory}
use Rattle.turn_counter.specs.declared.counter.Addition.{Addition}
use Rattle.turn_counter.specs.declared.counter.Counter.{Counter}
use Rattle.turn_counter.specs.declared.race.Job.{Job}
use Rattle.turn_counter.specs.Additions.{made_by, IsSumOf, CountsTurns}
use Rattle.turn_counter.specs.Jobs.{HaveMade, HasMadeAdditions}

abbrev Adder : Type 0
Adder = Seat Counter Addition

abbrev Adders : Type 0
Adders = SeatList Counter Addition

not_both : {A : Type 0} (x : Option A) (a : A) → x ≡ None → x ≡ Some a → ⊥
not_both x a e f = let g : None ≡ Some a = sym e ∙ f in cc

same_some : {A : Type 0} (a b : A) → Some a ≡ Some b → a ≡ b
same_some a b e = cc

-- the seats below k are out, each at its job
pub record Handing (c : CellId Counter) (k : ℕ) (l : Adders) (jobs : List Job) : Type 0 where
  pub list : IsList made_by l
  pub same : list_id l ≡ c
  pub out : (n : ℕ) → n < k → slot_at l n ≡ None
  pub left : (n : ℕ) → k ≤ n → n < c.seats → (s : Adder) × (slot_at l n ≡ Some s) × IsNew s
  pub long : length jobs ≡ k
  pub each : (n : ℕ) (d : Job) → n < k → IsSeatOf made_by c (get_or jobs n d).seat × ((get_or jobs n d).seat.number ≡ n) × (length (mine (get_or jobs n d).seat) ≡ 0)

pub handing_none : (l : Adders) → IsList made_by l → IsNewList l → Handing (list_id l) 0 l []
handing_none l is new = record {
  list = is;
  same = refl;
  out = λ n h. absurd (omega arith);
  left = λ n _ h. new n h;
  long = refl;
  each = λ n d h. absurd (omega arith);
}

module _ (c : CellId Counter) (k : ℕ) (l : Adders) (jobs : List Job) (r : Handing c k l jobs) (small : k < c.seats) where
  -- the seat that is taken next has the next number
  taken_number : (s : Adder) → IsLeastOf l s → s.number ≡ k
  taken_number s of = dite (ℕ_discrete s.number k) (λ e. e) (λ other. dite (dec_lt s.number k)
      (λ low. absurd (not_both (slot_at l s.number) s (r.out s.number low) of.here))
      (λ high. let t = r.left k (le_refl k) small in absurd (not_both (slot_at l k) t.0 (of.least k (omega arith)) t.1)))

  pub handing_more : (l' : Adders) (s : Adder) (b : _) → IsLeastOf l s → IsList made_by l' → list_id l' ≡ list_id l → list_slots l' ≡ set (list_slots l) s.number None
      → Handing c (k + 1) l' (jobs ++ record { seat = s; rising = b } ∷ [])
  handing_more l' s b of is id slots =
      let number = taken_number s of in
      let long = r.long in
      let slot : (n : ℕ) → n ≢ k → slot_at l' n ≡ slot_at l n = λ n ne. ap (λ (z : List (Option Adder)). get_or z n None) slots ∙ get_or-set_other (list_slots l) s.number n None None (λ e. ne (e ∙ number)) in
      let new = r.left k (le_refl k) small in
      let is_new : new.0 ≡ s = same_some new.0 s (sym new.1 ∙ (ap (slot_at l) (sym number) ∙ of.here)) in
      let size : length (list_slots l) ≡ c.seats = r.list.size ∙ ap (λ (z : CellId Counter). z.seats) r.same in record {
        list = is;
        same = id ∙ r.same;
        out = λ n h. dite (ℕ_discrete n k)
            (λ e. ap (λ (z : List (Option Adder)). get_or z n None) slots ∙ (ap (λ (z : ℕ). get_or (set (list_slots l) s.number None) z None) (e ∙ sym number) ∙ get_or-set_same (list_slots l) s.number None None (omega arith)))
            (λ e. slot n e ∙ r.out n (omega arith));
        left = λ n h m. let t = r.left n (omega arith) m in (t.0, slot n (λ e. omega arith) ∙ t.1, t.2);
        long = length-append jobs (record { seat = s; rising = b } ∷ []) ∙ ap (λ (z : ℕ). z + 1) long;
        each = λ n d h. dite (ℕ_discrete n k)
            (λ e.
            let here : get_or (jobs ++ record { seat = s; rising = b } ∷ []) n d ≡ record { seat = s; rising = b } = ap (λ (z : ℕ). get_or (jobs ++ record { seat = s; rising = b } ∷ []) z d) (e ∙ sym long) ∙ get_or-append_seam jobs (record { seat = s; rising = b }) [] d in
            subst (λ (j : Job). IsSeatOf made_by c j.seat × (j.seat.number ≡ n) × (length (mine j.seat) ≡ 0)) (sym here)
            (subst (λ (z : CellId Counter). IsSeatOf made_by z s) r.same (r.list.each s.number s of.here).0, number ∙ sym e, ap length (ap mine (sym is_new) ∙ new.2.mine_none)))
            (λ e. subst (λ (j : Job). IsSeatOf made_by c j.seat × (j.seat.number ≡ n) × (length (mine j.seat) ≡ 0)) (sym (get_or_append_left jobs (record { seat = s; rising = b } ∷ []) d n (omega arith))) (r.each n d (omega arith)));
      }

  -- there is a seat to take
  pub one_left : slot_at l k ≡ None → ⊥
  one_left none = let t = r.left k (le_refl k) small in not_both (slot_at l k) t.0 none t.1

pub handed_out : (c : CellId Counter) (k : ℕ) (l : Adders) (jobs : List Job) → k ≡ c.seats → Handing c k l jobs → HaveMade c 0 jobs
handed_out c k l jobs all r = let long = r.long in record { long = long ∙ all; each = λ n d h. r.each n d (omega arith) }

-- the jobs from some number on gave their seats back
pub record Handed (c : CellId Counter) (jobs0 : List Job) (l : Adders) (jobs : List Job) : Type 0 where
  pub list : IsList made_by l
  pub same : list_id l ≡ c
  pub short : length jobs ≤ length jobs0
  pub front : (n : ℕ) (d : Job) → n < length jobs → get_or jobs n d ≡ get_or jobs0 n d
  pub back : (n : ℕ) (d : Job) → length jobs ≤ n → n < length jobs0 → slot_at l n ≡ Some (get_or jobs0 n d).seat

pub handed_none : (l : Adders) (jobs : List Job) → IsList made_by l → Handed (list_id l) jobs l jobs
handed_none l jobs is = record { list = is; same = refl; short = le_refl (length jobs); front = λ n d h. refl; back = λ n d h m. absurd (omega arith) }

module _ (c : CellId Counter) (jobs0 jobs jobs' : List Job) (l : Adders) (j : Job) (r : Handed c jobs0 l jobs) (popped : jobs ≡ jobs' ++ j ∷ []) where
  long_is : length jobs ≡ length jobs' + 1
  long_is = ap length popped ∙ length-append jobs' (j ∷ [])

  pub last_job : (d : Job) → get_or jobs0 (length jobs') d ≡ j
  last_job d = let long = long_is in sym (r.front (length jobs') d (omega arith)) ∙ (ap (λ (z : List Job). get_or z (length jobs') d) popped ∙ get_or-append_seam jobs' j [] d)

  pub last_seat : (count : ℕ) → HaveMade c count jobs0 → IsSeatOf made_by c j.seat × (j.seat.number ≡ length jobs')
  last_seat count have =
      let long = long_is in let short = r.short in
      let e = have.each (length jobs') j (omega arith) in
      subst (λ (z : Job). IsSeatOf made_by c z.seat × (z.seat.number ≡ length jobs')) (last_job j) (e.0, e.1)

  pub handed_more : (l' : Adders) (count : ℕ) → HaveMade c count jobs0 → IsList made_by l' → list_id l' ≡ list_id l → list_slots l' ≡ set (list_slots l) j.seat.number (Some j.seat) → Handed c jobs0 l' jobs'
  handed_more l' count have is id slots =
      let long = long_is in let short = r.short in
      let number = (last_seat count have).1 in
      let all = have.long in
      let size : length (list_slots l) ≡ c.seats = r.list.size ∙ ap (λ (z : CellId Counter). z.seats) r.same in record {
        list = is;
        same = id ∙ r.same;
        short = omega arith;
        front = λ n d h. sym (ap (λ (z : List Job). get_or z n d) popped ∙ get_or_append_left jobs' (j ∷ []) d n h) ∙ r.front n d (omega arith);
        back = λ n d h m. ap (λ (z : List (Option Adder)). get_or z n None) slots ∙ dite (ℕ_discrete n (length jobs'))
            (λ e.
            ap (λ (z : ℕ). get_or (set (list_slots l) j.seat.number (Some j.seat)) z None) (e ∙ sym number)
            ∙ (get_or-set_same (list_slots l) j.seat.number (Some j.seat) None (omega arith)
            ∙ ap (λ (z : Job). Some z.seat) (sym (ap (λ (z : ℕ). get_or jobs0 z d) e ∙ last_job d))))
            (λ e. get_or-set_other (list_slots l) j.seat.number n (Some j.seat) None (λ q. e (q ∙ number)) ∙ r.back n d (omega arith) m);
      }

-- some job, where there is one
some_job : (jobs : List Job) (n : ℕ) → n < length jobs → Job
some_job [] n h = absurd (omega arith)
some_job (j ∷ js) n h = j

-- every seat is back, and each has made what its job had
pub handed_in : (c : CellId Counter) (jobs0 jobs : List Job) (l : Adders) (count0 : ℕ) → Handed c jobs0 l jobs → length jobs ≡ 0 → HaveMade c count0 jobs0
    → IsWhole l × ((count : ℕ) → HaveMade c count jobs0 → HasMadeAdditions l count)
handed_in c jobs0 jobs l count0 r none have0 =
    let seats : (list_id l).seats ≡ c.seats = ap (λ (z : CellId Counter). z.seats) r.same in
    let all = have0.long in (
      (λ n h. let d : Job = some_job jobs0 n (omega arith) in ((get_or jobs0 n d).seat, r.back n d (omega arith) (omega arith))),
      (λ count have n s e.
          let inside : n < length (list_slots l) = dite (dec_lt n (length (list_slots l))) (λ h. h) (λ h. absurd (not_both (slot_at l n) s (get_or-eq_default (list_slots l) None (omega arith)) e)) in
          let size = r.list.size in
          let d : Job = some_job jobs0 n (omega arith) in
          let is : s ≡ (get_or jobs0 n d).seat = same_some s (get_or jobs0 n d).seat (sym e ∙ r.back n d (omega arith) (omega arith)) in
          ap (λ (z : Adder). length (mine z)) is ∙ (have.each n d (omega arith)).2),
    )

-- what the value at the end stands for, by counts
pub counted : (l : Adders) (turns seats : ℕ) (v : Counter) → IsWhole l → HasMadeAdditions l turns → (list_id l).seats ≡ seats → (first : Counter) → (list_id l).first ≡ Some first → first.sum ≡ 0
    → IsWholeHistory (λ (z : Counter). z.sum) IsSumOf made_by l v → CountsTurns seats turns v.sum
counted l turns seats v whole run count first is zero h = record {
  log = h.log;
  sum_is = h.means first is ∙ ap (λ (n : ℕ). n % 2 ^ 64) (let z : first.sum ≡ 0 = zero in omega arith);
  each = λ n m. let s = whole n (omega arith) in ap length (sym (h.made n s.0 s.1)) ∙ run n s.0 s.1;
  others = λ n m. h.others n (omega arith);
}
