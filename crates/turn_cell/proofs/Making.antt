-- How the seats are numbered as a lock is made, and taken in as it is taken apart.
use Rattle.std.proofs.Common.{◌≡◌, ℕ, ◌+◌, ◌<◌, ◌≤◌, List, [], ◌∷◌, ◌++◌, length, get_or, set, sym, refl, ap, ◌∙◌, subst, arith, length-append, length-set, get_or-set_other}
use Rattle.std.specs.Prelude.{Option, Some, None}
use Rattle.std.proofs.lemmas.List.{get_or_append_left, get_or_default}
use Rattle.std.proofs.Math.Seq.{get_or-append_seam}
use Rattle.std.proofs.Math.ListN.{get_or-eq_default}
use mathlib.Core.Logic.{dite}
use native.Mathlib.Decide.{ℕ_discrete, dec_lt}
use Rattle.atomic_table.specs.declared.shared.Seat as table
use Rattle.turn_cell.specs.declared.known.Known.{Known}
use Rattle.turn_cell.specs.declared.known.Role.TheVariants.{Maker}
use Rattle.turn_cell.specs.declared.cell.Start.{Start}
use Rattle.turn_cell.specs.declared.seat.Seat.{Seat}
use Rattle.turn_cell.specs.declared.seat.SeatList.{SeatList}
use Rattle.turn_cell.specs.History.{IsPrefix, entries_of}
use Rattle.turn_cell.specs.Rule.{first_value, first_view, Standing}
use Rattle.turn_cell.specs.Steps.{Holder, numbering, numbered, gathered}
use Rattle.turn_cell.specs.Seats.{CellId, IsSeatOf, seen, mine}
use Rattle.turn_cell.specs.Lists.{list_slots, list_id, slot_at, IsList, IsNew, IsNewList, IsGathered, IsWholeHistory}
use Rattle.turn_cell.proofs.Lists.{same_some, not_both, begin_at}
use Rattle.turn_cell.proofs.Keeps.{ends}
use mathlib.Core.Option.{some, some-injective}
use lib.ListN.{get_elem?}
use Rattle.atomic_table.specs.Table.{Final, Seen}

abbrev pub Place : Type 0 → Type 0 → Type 0
Place T E = table.Seat (Option T) (Known T E)

-- the last of a list of lists
at_last : {A : Type 0} (xs : List (List A)) (l : List A) (i n : ℕ) → length xs ≡ i → n ≡ i → get_or (xs ++ l ∷ []) n [] ≡ l
at_last xs l i n long here = ap (λ (z : ℕ). get_or (xs ++ l ∷ []) z []) (here ∙ sym long) ∙ get_or-append_seam xs l [] []

-- what a place had, once it was read through a loan
pub slot_read : {A : Type 0} (slots : List (Option A)) (i : ℕ) (now r : Option A) → i < length slots → now ≡ get_or slots i now → r ≡ now → get_or slots i None ≡ r
slot_read slots i now r inside read gave = get_or_default slots i None now inside ∙ (sym read ∙ sym gave)

module _ {T E : Type 0} (by : E → ℕ) where
  -- the maker has given the numbers below k, each to a new seat at its place
  pub record Seating (c : CellId T) (key : Start T) (k : ℕ) (maker : Place T E) (slots : List (Option (Seat T E))) : Type 0 where
    pub table_is : maker.table_id ≡ c.table
    pub view : maker.me ≡ (record (first_view key) { number = k }, [])
    pub long : length slots ≡ k
    pub each : (n : ℕ) → n < k → (s : Seat T E) × (get_or slots n None ≡ Some s) × IsSeatOf by c s × (s.number ≡ n) × IsNew s

  module _ (c : CellId T) (key : Start T) (first : c.first ≡ Some (first_value key)) (seats : c.seats ≡ key.seats) where
    new_seat : (k : ℕ) (p : Place T E) → k < key.seats → p.table_id ≡ c.table → p.me ≡ (numbered (record (first_view key) { number = k }), [])
        → IsSeatOf by c (record { place = p; number = k }) × IsNew {T = T} {E = E} (record { place = p; number = k })
    new_seat k p small at is = (
      record {
        cell = λ i. record { table = at i; first = (ap (λ (m : Holder T E). m.0.first) is ∙ sym first) i; seats = (ap (λ (m : Holder T E). m.0.seats) is ∙ sym seats) i };
        numbered = record {
          role = ap (λ (m : Holder T E). m.0.role) is;
          number = ap (λ (m : Holder T E). m.0.number) is;
          small = subst (λ (n : ℕ). k < n) (sym (ap (λ (m : Holder T E). m.0.seats) is)) small;
          own = ap (λ (m : Holder T E). m.0.mine) is ∙ sym (ap (λ (m : Holder T E). entries_of by k m.0.seen) is);
        };
        slots = ap (λ (m : Holder T E). m.1) is;
        resting = ap (λ (m : Holder T E). m.0.holds) is;
      },
      record {
        seen_none = ap (λ (m : Holder T E). m.0.seen) is;
        mine_none = ap (λ (m : Holder T E). m.0.mine) is;
        found_none = ap (λ (m : Holder T E). m.0.met) is;
      },
    )

    pub seating_more : (k : ℕ) (maker maker' p : Place T E) (slots : List (Option (Seat T E))) → Seating c key k maker slots → k < key.seats
        → maker'.table_id ≡ maker.table_id → maker'.me ≡ (numbering maker.me.0, maker.me.1)
        → p.table_id ≡ maker.table_id → p.me ≡ (numbered maker.me.0, [])
        → Seating c key (k + 1) maker' (slots ++ Some (record { place = p; number = k }) ∷ [])
    seating_more k maker maker' p slots r small at is pat pis =
        let long = r.long in
        let last : get_or (slots ++ Some (record { place = p; number = k }) ∷ []) k None ≡ Some (record { place = p; number = k }) =
        ap (λ (z : ℕ). get_or (slots ++ Some (record { place = p; number = k }) ∷ []) z None) (sym long) ∙ get_or-append_seam slots (Some (record { place = p; number = k })) [] None in
        let s = new_seat k p small (pat ∙ r.table_is) (pis ∙ ap (λ (m : Holder T E). (numbered m.0, [])) r.view) in record {
          table_is = at ∙ r.table_is;
          view = is ∙ ap (λ (m : Holder T E). (numbering m.0, m.1)) r.view;
          long = length-append slots (Some (record { place = p; number = k }) ∷ []) ∙ ap (λ (z : ℕ). z + 1) long;
          each = λ n h. dite (ℕ_discrete n k)
              (λ here. subst (λ (z : ℕ). (t : Seat T E) × (get_or (slots ++ Some (record { place = p; number = k }) ∷ []) z None ≡ Some t) × IsSeatOf by c t × (t.number ≡ z) × IsNew t)
              (sym here) (record { place = p; number = k }, last, s.0, refl, s.1))
              (λ other. let o = r.each n (omega arith) in (o.0, get_or_append_left slots (Some (record { place = p; number = k }) ∷ []) None n (omega arith) ∙ o.1, o.2, o.3, o.4));
        }

    -- the list as it is made
    pub seated : (k : ℕ) (l : SeatList T E) → k ≡ key.seats → Seating c key k l.maker (list_slots l) → IsList by l × IsNewList l × (list_id l ≡ c)
    seated k l all r =
        let id : list_id l ≡ c = λ i. record { table = r.table_is i; first = (ap (λ (m : Holder T E). m.0.first) r.view ∙ sym first) i; seats = (ap (λ (m : Holder T E). m.0.seats) r.view ∙ sym seats) i } in
        let size : (list_id l).seats ≡ k = ap (λ (z : CellId T). z.seats) id ∙ (seats ∙ sym all) in (
          record {
            role = ap (λ (m : Holder T E). m.0.role) r.view;
            made = ap (λ (m : Holder T E). m.0.number) r.view ∙ sym size;
            parts = ap (λ (m : Holder T E). m.0.parts) r.view;
            heard = ap (λ (m : Holder T E). m.0.heard) r.view;
            none = ap (λ (m : Holder T E). m.1) r.view;
            size = r.long ∙ sym size;
            each = λ n s e. dite (dec_lt n k)
                (λ h. let o = r.each n h in
                let same : o.0 ≡ s = same_some o.0 s (sym o.1 ∙ e) in
                subst (λ (z : Seat T E). IsSeatOf by (list_id l) z × (z.number ≡ n)) same (subst (λ (z : CellId T). IsSeatOf by z o.0) (sym id) o.2, o.3))
                (λ h. let long = r.long in absurd (not_both (slot_at l n) s (get_or-eq_default (list_slots l) None (omega arith)) e));
          },
          (λ n h. let o = r.each n (omega arith) in (o.0, o.1, o.4)),
          id,
        )

  -- the maker has taken in the seats below i, and the others are still at their places
  pub record Gathering (maker0 : Place T E) (slots0 : List (Option (Seat T E))) (i : ℕ) (maker : Place T E) (slots : List (Option (Seat T E))) : Type 0 where
    pub table_is : maker.table_id ≡ maker0.table_id
    pub none : maker.me.1 ≡ []
    pub role : maker.me.0.role ≡ Maker
    pub number : maker.me.0.number ≡ maker0.me.0.number
    pub first : maker.me.0.first ≡ maker0.me.0.first
    pub count : length maker.me.0.parts ≡ i
    pub long : length maker.me.0.heard ≡ i
    pub made : (n : ℕ) (s : Seat T E) → n < i → get_or slots0 n None ≡ Some s → get_or maker.me.0.parts n [] ≡ mine s
    pub told : (n : ℕ) (s : Seat T E) → n < i → get_or slots0 n None ≡ Some s → get_or maker.me.0.heard n [] ≡ seen s
    pub size : length slots ≡ length slots0
    pub rest : (n : ℕ) → i ≤ n → get_or slots n None ≡ get_or slots0 n None

  pub gathering_none : (l : SeatList T E) → IsList by l → Gathering l.maker (list_slots l) 0 l.maker (list_slots l)
  gathering_none l r = record {
    table_is = refl;
    none = r.none;
    role = r.role;
    number = refl;
    first = refl;
    count = ap length r.parts;
    long = ap length r.heard;
    made = λ n s h. absurd (omega arith);
    told = λ n s h. absurd (omega arith);
    size = refl;
    rest = λ n h. refl;
  }

  pub gathering_more : (maker0 : Place T E) (slots0 : List (Option (Seat T E))) (i : ℕ) (maker maker' : Place T E) (slots : List (Option (Seat T E))) (s : Seat T E) (left : Option (Seat T E))
      → Gathering maker0 slots0 i maker slots → get_or slots0 i None ≡ Some s
      → maker'.table_id ≡ maker.table_id → maker'.me ≡ (gathered maker.me.0 s.place.me.0, maker.me.1)
      → Gathering maker0 slots0 (i + 1) maker' (set slots i left)
  gathering_more maker0 slots0 i maker maker' slots s left r here at is = record {
    table_is = at ∙ r.table_is;
    none = ap (λ (m : Holder T E). m.1) is ∙ r.none;
    role = ap (λ (m : Holder T E). m.0.role) is ∙ r.role;
    number = ap (λ (m : Holder T E). m.0.number) is ∙ r.number;
    first = ap (λ (m : Holder T E). m.0.first) is ∙ r.first;
    count = ap (λ (m : Holder T E). length m.0.parts) is ∙ (length-append maker.me.0.parts (mine s ∷ []) ∙ ap (λ (z : ℕ). z + 1) r.count);
    long = ap (λ (m : Holder T E). length m.0.heard) is ∙ (length-append maker.me.0.heard (seen s ∷ []) ∙ ap (λ (z : ℕ). z + 1) r.long);
    made = λ n t h e. ap (λ (m : Holder T E). get_or m.0.parts n []) is ∙ dite (ℕ_discrete n i)
        (λ same. at_last maker.me.0.parts (mine s) i n r.count same ∙ ap mine (same_some s t (sym here ∙ (ap (λ (z : ℕ). get_or slots0 z None) (sym same) ∙ e))))
        (λ other. let long = r.count in get_or_append_left maker.me.0.parts (mine s ∷ []) [] n (omega arith) ∙ r.made n t (omega arith) e);
    told = λ n t h e. ap (λ (m : Holder T E). get_or m.0.heard n []) is ∙ dite (ℕ_discrete n i)
        (λ same. at_last maker.me.0.heard (seen s) i n r.long same ∙ ap seen (same_some s t (sym here ∙ (ap (λ (z : ℕ). get_or slots0 z None) (sym same) ∙ e))))
        (λ other. let long = r.long in get_or_append_left maker.me.0.heard (seen s ∷ []) [] n (omega arith) ∙ r.told n t (omega arith) e);
    size = length-set slots i left ∙ r.size;
    rest = λ n h. get_or-set_other slots i n left None (λ e. omega arith) ∙ r.rest n (omega arith);
  }

  -- what is found in a list stands at one of its places
  pub in_list : (slots : List (Option (Seat T E))) (n : ℕ) (s : Seat T E) → get_or slots n None ≡ Some s → n < length slots
  in_list slots n s e = dite (dec_lt n (length slots)) (λ h. h) (λ h. absurd (not_both (get_or slots n None) s (get_or-eq_default slots None (omega arith)) e))

  pub gathered_all : (maker0 maker : Place T E) (slots0 slots : List (Option (Seat T E))) (i : ℕ) → i ≡ length slots0 → Gathering maker0 slots0 i maker slots → IsGathered maker0 slots0 maker
  gathered_all maker0 maker slots0 slots i all r = record {
    table = r.table_is;
    none = r.none;
    role = r.role;
    number = r.number;
    first = r.first;
    count = r.count ∙ all;
    long = r.long ∙ all;
    made = λ n s e. r.made n s (subst (λ (z : ℕ). n < z) (sym all) (in_list slots0 n s e)) e;
    told = λ n s e. r.told n s (subst (λ (z : ℕ). n < z) (sym all) (in_list slots0 n s e)) e;
  }

module _ {T E Opening : Type 0} (opening : T → Opening) (stands : Opening → List E → T → Type 0) (by : E → ℕ) (key : Start T) where
  -- what is in the slot once every seat was taken in
  pub closed : (l : SeatList T E) (m : Place T E) (ws : List ℕ) (xs : List (Option T)) (r : Option T) → IsList by l → (list_id l).first ≡ Some (first_value key) → IsGathered l.maker (list_slots l) m
      → length xs ≡ 1 → Final (Seen (Standing opening stands by key) m.id m.me.0) ws xs → get_elem? xs 0 ≡ some r
      → (x : T) × (r ≡ Some x) × IsWholeHistory opening stands by l x
  closed l m ws xs r is first all one final read =
      let e = ends opening stands by key m.id m.me.0 ws xs one all.role (all.number ∙ (is.made ∙ (sym is.size ∙ sym all.count))) final in (
        e.0,
        some-injective r (Some e.0) (sym read ∙ e.2),
        record {
          log = e.1;
          means = λ f g. subst (λ (z : T). stands (opening z) e.1 e.0) (same_some (first_value key) f (sym first ∙ g)) e.3;
          begins = λ n s at. subst (λ z. IsPrefix z e.1) (all.told n s at) (begin_at m.me.0.heard e.1 n e.4);
          made = λ n s at. sym (all.made n s at) ∙ sym (e.5 n (subst (λ (z : ℕ). n < z) (sym all.count) (in_list by (list_slots l) n s at)));
          others = λ n h. e.6 n (let size = is.size in let count = all.count in omega arith);
        },
      )
