-- What a contract says of a seat, from what the steps told it.
use Rattle.std.proofs.Common.{◌≡◌, ℕ, ◌<◌, List, [], ◌∷◌, ◌++◌, sym, refl, ap, ◌∙◌, subst, false, set, get_or, length, length-set, get_or-set_same, get_or-set_other}
use Rattle.std.specs.Prelude.{Option, Some, None, MatchOption}
use Rattle.atomic_table.specs.declared.shared.Seat as table
use Rattle.turn_cell.specs.declared.known.Known.{Known}
use Rattle.turn_cell.specs.declared.seat.Seat.{Seat}
use Rattle.turn_cell.specs.declared.seat.SeatList.{SeatList}
use Rattle.turn_cell.specs.History.{IsPrefix, longer, entries_of, AllMadeBy}
use Rattle.turn_cell.specs.Steps.{Heard}
use Rattle.turn_cell.specs.Seats.{CellId, seat_id, seen, IsSeatOf, IsHolder, GaveBack, WasTold}
use Rattle.turn_cell.specs.Lists.{list_slots, list_id, HasNone, IsSeatIn, IsLeastOf, IsList}
use mathlib.Core.Logic.{dite}
use native.Mathlib.Decide.{ℕ_discrete}
use Rattle.turn_cell.proofs.Lists.{entries_more}
use Rattle.std.proofs.lemmas.List.{get_or_default}

module _ {T E : Type 0} (by : E → ℕ) (c : CellId T) (s : Seat T E) where
  abbrev v : Known T E
  v = s.place.me.0

  -- a seat that gave the turn back
  pub gave_back : (p : table.Seat (Option T) (Known T E)) (es : List E) → IsHolder by c s → AllMadeBy by s.number es
      → p.table_id ≡ s.place.table_id → p.me.0 ≡ record v { holds = false; seen = v.seen ++ es; mine = v.mine ++ es } → p.me.1 ≡ []
      → GaveBack by c s es (record { place = p; number = s.number })
  gave_back p es held all table is none =
      let first : p.me.0.first ≡ v.first = ap (λ (z : Known T E). z.first) is in
      let seats : p.me.0.seats ≡ v.seats = ap (λ (z : Known T E). z.seats) is in
      let same : seat_id (record { place = p; number = s.number }) ≡ seat_id s = λ i. record { table = table i; first = first i; seats = seats i } in record {
        seat = record {
          cell = same ∙ held.cell;
          numbered = record {
            role = ap (λ (z : Known T E). z.role) is ∙ held.numbered.role;
            number = ap (λ (z : Known T E). z.number) is ∙ held.numbered.number;
            small = subst (λ (n : ℕ). s.number < n) (sym seats) held.numbered.small;
            own = ap (λ (z : Known T E). z.mine) is ∙ (ap (λ l. l ++ es) held.numbered.own ∙ (sym (entries_more by s.number v.seen es all) ∙ sym (ap (λ (z : Known T E). entries_of by s.number z.seen) is)));
          };
          slots = none;
          resting = ap (λ (z : Known T E). z.holds) is;
        };
        same = record { cell = same; number = refl };
        seen_is = ap (λ (z : Known T E). z.seen) is;
        mine_is = ap (λ (z : Known T E). z.mine) is;
      }

  -- a seat that was told what another has seen
  pub was_told : (from : Seat T E) (p : table.Seat (Option T) (Known T E)) → IsSeatOf by c s → p.table_id ≡ s.place.table_id
      → Heard by (seen from) (record v { heard = seen from ∷ [] }, s.place.me.1) p.me
      → WasTold by c from s (record { place = p; number = s.number })
  was_told from p of table h =
      let is = h.view in
      let first : p.me.0.first ≡ v.first = ap (λ (z : Known T E). z.first) is in
      let seats : p.me.0.seats ≡ v.seats = ap (λ (z : Known T E). z.seats) is in
      let now : p.me.0.seen ≡ longer v.seen (seen from) = ap (λ (z : Known T E). z.seen) is in
      let same : seat_id (record { place = p; number = s.number }) ≡ seat_id s = λ i. record { table = table i; first = first i; seats = seats i } in record {
        seat = record {
          cell = same ∙ of.cell;
          numbered = record {
            role = ap (λ (z : Known T E). z.role) is ∙ of.numbered.role;
            number = ap (λ (z : Known T E). z.number) is ∙ of.numbered.number;
            small = subst (λ (n : ℕ). s.number < n) (sym seats) of.numbered.small;
            own = ap (λ (z : Known T E). z.mine) is ∙ (h.own ∙ (ap (λ (n : ℕ). entries_of by n (longer v.seen (seen from))) of.numbered.number ∙ sym (ap (entries_of by s.number) now)));
          };
          slots = h.slot ∙ of.slots;
          resting = ap (λ (z : Known T E). z.holds) is ∙ of.resting;
        };
        same = record { cell = same; number = refl };
        longer_is = now;
        begins = subst (λ l. IsPrefix v.seen l) (sym now) h.begins;
        other_begins = subst (λ l. IsPrefix (seen from) l) (sym now) h.other;
        mine_is = ap (λ (z : Known T E). z.mine) is;
        found_is = ap (λ (z : Known T E). z.met) is;
      }

module _ {T E : Type 0} (by : E → ℕ) where
  -- a list of which one place was changed
  pub list_kept : (l l' : SeatList T E) (k : ℕ) (x : Option (Seat T E)) → l'.maker ≡ l.maker → list_slots l' ≡ set (list_slots l) k x → k < length (list_slots l)
      → ((s : Seat T E) → x ≡ Some s → IsSeatOf by (list_id l) s × (s.number ≡ k)) → IsList by l → IsList by l'
  list_kept l l' k x same slots inside right old =
      let id : list_id l' ≡ list_id l = ap (λ (m : table.Seat (Option T) (Known T E)). record { table = m.table_id; first = m.me.0.first; seats = m.me.0.seats }) same in record {
        role = ap (λ (m : table.Seat (Option T) (Known T E)). m.me.0.role) same ∙ old.role;
        made = ap (λ (m : table.Seat (Option T) (Known T E)). m.me.0.number) same ∙ (old.made ∙ sym (ap (λ (m : table.Seat (Option T) (Known T E)). m.me.0.seats) same));
        parts = ap (λ (m : table.Seat (Option T) (Known T E)). m.me.0.parts) same ∙ old.parts;
        heard = ap (λ (m : table.Seat (Option T) (Known T E)). m.me.0.heard) same ∙ old.heard;
        none = ap (λ (m : table.Seat (Option T) (Known T E)). m.me.1) same ∙ old.none;
        size = ap length slots ∙ (length-set (list_slots l) k x ∙ (old.size ∙ sym (ap (λ (z : CellId T). z.seats) id)));
        each = λ n s e.
            let at : get_or (set (list_slots l) k x) n None ≡ Some s = sym (ap (λ (z : List (Option (Seat T E))). get_or z n None) slots) ∙ e in
            subst (λ (z : CellId T). IsSeatOf by z s × (s.number ≡ n)) (sym id) (dite (ℕ_discrete n k)
            (λ here. let r = right s (sym (get_or-set_same (list_slots l) k x None inside) ∙ (sym (ap (λ (z : ℕ). get_or (set (list_slots l) k x) z None) here) ∙ at)) in (r.0, r.1 ∙ sym here))
            (λ other. old.each n s (sym (get_or-set_other (list_slots l) k n x None other) ∙ at)));
      }

  -- what the take of a place gave, which is the first that is not empty
  pub list_taken : (P : Type 0) (l : SeatList T E) (at : ℕ) (r x left : Option (Seat T E)) → IsList by l → at < length (list_slots l) → HasNone (list_slots l) at → IsSeatIn (list_slots l) at
      → r ≡ x → x ≡ get_or (list_slots l) at x → left ≡ None
      → MatchOption r P (λ s. IsLeastOf l s × (set (list_slots l) at left ≡ set (list_slots l) s.number None))
  list_taken P l at r x left is inside none some gave read empty =
      let s : Seat T E = some.0 in
      let number : s.number ≡ at = (is.each at s some.1).1 in
      let got : Some s ≡ r = sym (gave ∙ (read ∙ (get_or_default (list_slots l) at x None inside ∙ some.1))) in
      subst (λ (z : Option (Seat T E)). MatchOption z P (λ t. IsLeastOf l t × (set (list_slots l) at left ≡ set (list_slots l) t.number None))) got (
        record {
          here = ap (λ (n : ℕ). get_or (list_slots l) n None) number ∙ some.1;
          least = subst (λ (n : ℕ). HasNone (list_slots l) n) (sym number) none;
        },
        (λ i. set (list_slots l) (sym number i) (empty i)),
      )
