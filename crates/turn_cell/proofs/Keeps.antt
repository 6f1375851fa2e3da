-- Each step of a lock keeps its rule.
use Rattle.std.proofs.Common.{◌≡◌, ℕ, ◌+◌, ◌<◌, ◌≤◌, eqb, ◌≢◌, List, [], ◌∷◌, ◌++◌, length, get_or, set, sym, refl, ap, ◌∙◌, subst, ⊎_elim, arith, length-set, length-append, cond, ◌-◌, get_or-set_same, get_or-set_other, eq-eqb, ne_eqb, true, false}
use Rattle.std.specs.Prelude.{Option, Some}
use mathlib.Core.Logic.{dite}
use mathlib.Core.Option.{some, some-ne-none}
use native.Mathlib.Decide.{ℕ_discrete}
use lib.ListN.{get_elem?}
use prog.Atomic.{either}
use Rattle.atomic_table.specs.Table.{State, Me, Act, keeps, takes, gives, Valid, homes_after, carried_after, stepped, Allows, Splits, Joins}
use Rattle.atomic_table.specs.Table as table
use Rattle.atomic_table.proofs.Lists.{at_set, set_again, set_else, set_here}
use Rattle.std.proofs.lemmas.List.{get_or_append_left}
use Rattle.std.proofs.Math.Seq.{get_or-append_seam}
use Rattle.turn_cell.specs.declared.known.Known.{Known}
use Rattle.turn_cell.specs.declared.known.Role.TheVariants.{Maker, Numbered}
use Rattle.turn_cell.specs.declared.cell.Start.{Start}
use Rattle.turn_cell.specs.History.{IsPrefix, AllBegin, longer, entries_of, AllMadeBy}
use Rattle.turn_cell.specs.Rule.{first_value, first_view, Fits, Standing}
use Rattle.turn_cell.specs.Steps.{Holder, StandsSince, tried, Heard, looked, gave, numbering, numbered, guest, told, gathered, spent}
use Rattle.turn_cell.proofs.Lists.{at_end, prefix_refl, prefix_nil, prefix_more, begin_more, begin_end, entries_more, entries_same, entries_between, longer_begins}

module _ {T E Opening : Type 0} (opening : T → Opening) (stands : Opening → List E → T → Type 0) (by : E → ℕ) (key : Start T) where
  abbrev St : Type 0
  St = State (Option T) (Known T E)

  abbrev Rule : St → Type 0
  Rule = Standing opening stands by key

  abbrev word : St → ℕ
  word s = get_or s.words 0 0

  abbrev Fit : ℕ → ℕ → ℕ → (ℕ → ℕ) → List E → ℕ → Known T E → Type 0
  Fit = Fits opening stands by key

  -- a change of the word by one seat, after which the others know what they knew
  moved : (s : St) (r : Rule s) (n id : ℕ) (c : List (ℕ × Option T)) (w : Known T E) (a : Act (Option T)) (log : List E)
      → n ≤ r.made
      → (n ≡ 0 → (x : T) × (get_elem? (homes_after s.homes c a) 0 ≡ some (some (Some x))) × stands (opening (first_value key)) log x)
      → ((m : ℕ) → r.made ≤ m → entries_of by m log ≡ [])
      → Fit n r.made r.maker r.place log id w
      → ((j : ℕ) (d : Known T E) → j ≢ id → Fit (word s) r.made r.maker r.place r.log j d → Fit n r.made r.maker r.place log j d)
      → Rule (stepped s 0 n id c w a)
  moved s r n id c w a log most free none own rest =
      let wide = r.wide in
      let now : get_or (set s.words 0 n) 0 0 ≡ n = get_or-set_same s.words 0 n 0 (omega arith) in record {
        log = log;
        made = r.made;
        maker = r.maker;
        place = r.place;
        wide = length-set s.words 0 n ∙ r.wide;
        within = r.within;
        word = rw now most;
        free = λ z. free (sym now ∙ z);
        others = none;
        each = λ j d at. subst (λ (z : ℕ). Fit z r.made r.maker r.place log j d) (sym now) (⊎_elim
            (λ t. subst (λ (z : ℕ). Fit n r.made r.maker r.place log z d) (sym t.0) (subst (λ (z : Known T E). Fit n r.made r.maker r.place log id z) t.1 own))
            (λ t. rest j d t.0 (r.each j d t.1))
            (at_set s.views id j w d at));
      }

  -- what another seat knows, when a seat takes the turn
  others_take : (made maker : ℕ) (place : ℕ → ℕ) (log : List E) (k id j : ℕ) (d : Known T E) → place k ≡ id → j ≢ id
      → Fit 0 made maker place log j d → Fit (k + 1) made maker place log j d
  others_take made maker place log k id j d mine ne f = record {
    begins = f.begins;
    heard = f.heard;
    same = f.same;
    numbered = f.numbered;
    holding = λ h. let p = f.holding h in let q = p.1 in absurd (omega arith);
    resting = λ is rests eq. let same : d.number ≡ k = omega arith in ne (sym (f.numbered is).1 ∙ (ap place same ∙ mine));
    making = λ is. let p = f.making is in (
      p.0,
      p.1,
      λ n h. let q = p.2 n h in
          (q.0, (λ eq. let same : n ≡ k = omega arith in ne (p.0 ∙ (sym (p.0) ∙ (sym q.0 ∙ (ap place same ∙ mine))))), q.2),
    );
  }

  -- what another seat knows, when a seat gives the turn back with its entries
  others_give : (made maker : ℕ) (place : ℕ → ℕ) (log es : List E) (k id j : ℕ) (d : Known T E) → place k ≡ id → j ≢ id → AllMadeBy by k es
      → Fit (k + 1) made maker place log j d → Fit 0 made maker place (log ++ es) j d
  others_give made maker place log es k id j d mine ne all f = record {
    begins = prefix_more d.seen log es f.begins;
    heard = begin_more d.heard log es f.heard;
    same = f.same;
    numbered = λ is. let p = f.numbered is in
        let other : d.number ≢ k = λ eq. ne (sym p.1 ∙ (ap place eq ∙ mine)) in
        (p.0, p.1, p.2 ∙ sym (entries_same by k d.number log es other all));
    holding = λ h. let p = f.holding h in
        let same : d.number ≡ k = let q = p.1 in omega arith in absurd (ne (sym (f.numbered p.0).1 ∙ (ap place same ∙ mine)));
    resting = λ is rests eq. omega arith;
    making = λ is. let p = f.making is in (
      p.0,
      p.1,
      λ n h. let q = p.2 n h in
          let other : n ≢ k = λ eq. ne (sym q.0 ∙ (ap place eq ∙ mine)) in
          (q.0, (λ eq. omega arith), entries_same by k n log es other all ∙ q.2),
    );
  }

  -- an exchange of the word takes the turn where it is free
  pub takes_turn : (id : ℕ) (v : Known T E) → v.role ≡ Numbered → v.holds ≡ false
      → Allows Rule 1 id (v, []) 0 (λ n. either (eqb n 0) (v.number + 1) n) (tried opening stands by (v, []))
  takes_turn id v is rests s r one at small =
      let f = r.each id v at in
      let num = f.numbered is in dite (ℕ_discrete (word s) 0)
      (λ hit.
      let f0 : Fit 0 r.made r.maker r.place r.log id v = subst (λ (z : ℕ). Fit z r.made r.maker r.place r.log id v) hit f in
      let here = r.free hit in
      let w : Known T E = record v { holds = true; seen = r.log; met = v.met ++ 0 ∷ [] } in
      let below = num.0 in (
        w,
        takes 0 (Some here.0),
        here.1,
        subst (λ b. Rule (stepped s 0 (either b (v.number + 1) (word s)) id [] w (takes 0 (Some here.0)))) (sym (eq-eqb (word s) 0 hit))
            (moved s r (v.number + 1) id [] w (takes 0 (Some here.0)) r.log (omega arith) (λ z. absurd (omega arith)) r.others
            (record {
              begins = prefix_refl r.log;
              heard = f.heard;
              same = f.same;
              numbered = f.numbered;
              holding = λ _. (is, refl, refl);
              resting = λ _ no. absurd (cc);
              making = λ m. absurd (cc);
            })
            (λ j d ne o. others_take r.made r.maker r.place r.log v.number id j d num.1 ne (subst (λ (z : ℕ). Fit z r.made r.maker r.place r.log j d) hit o))),
        (
          (λ _. record {
            log = r.log;
            value = here.0;
            view = refl;
            slot = refl;
            begins = f.begins;
            own = num.2;
            meaning = λ g e. let same : first_value key ≡ g = let a = (f.same (λ z. absurd (cc))).0 in cc in
                subst (λ (z : T). stands (opening z) r.log here.0) same here.2;
          }),
          (λ no. absurd (no hit)),
        ),
      ))
      (λ miss.
      let w : Known T E = record v { met = v.met ++ word s ∷ [] } in
      let most = r.word in let bound = r.within in (
        w,
        keeps,
        tt,
        subst (λ b. Rule (stepped s 0 (either b (v.number + 1) (word s)) id [] w keeps)) (sym (ne_eqb (word s) 0 miss))
            (moved s r (word s) id [] w keeps r.log r.word r.free r.others
            (record { begins = f.begins; heard = f.heard; same = f.same; numbered = f.numbered; holding = f.holding; resting = f.resting; making = f.making })
            (λ j d ne o. o)),
        (
          (λ hit. absurd (miss hit)),
          (λ _. record {
            view = refl;
            slot = refl;
            within = let a : v.seats ≡ key.seats = (f.same (λ z. absurd (cc))).1 in omega arith;
            other = f.resting is rests;
          }),
        ),
      ))

  -- a store of 0 gives the turn back, with a value that stands for the history and the entries
  pub gives_turn : (id : ℕ) (v : Known T E) (x : T) (es : List E) → v.holds ≡ true → AllMadeBy by v.number es
      → StandsSince opening stands by v.first (v.seen ++ es) x
      → Allows Rule 1 id (v, (0, Some x) ∷ []) 0 (λ _. 0) (λ _ m'. gave es (v, (0, Some x) ∷ []) m')
  gives_turn id v x es holds all means s r one at small =
      let f = r.each id v at in
      let h = f.holding holds in
      let num = f.numbered h.0 in
      let first : v.first ≡ Some (first_value key) = (f.same (λ z. let a = h.0 in absurd (cc))).0 in
      let w : Known T E = record v { holds = false; seen = v.seen ++ es; mine = v.mine ++ es } in
      let log : v.seen ++ es ≡ r.log ++ es = ap (λ l. l ++ es) h.2 in (
        w,
        gives,
        tt,
        moved s r 0 id ((0, Some x) ∷ []) w gives (r.log ++ es) (omega arith)
            (λ _. (x, set_here s.homes 0 (some (Some x)) (omega arith), subst (λ l. stands (opening (first_value key)) l x) log (means (first_value key) first)))
            (λ m le. let below = num.0 in entries_same by v.number m r.log es (λ eq. omega arith) all ∙ r.others m le)
            (record {
              begins = subst (λ l. IsPrefix l (r.log ++ es)) (sym log) (prefix_refl (r.log ++ es));
              heard = begin_more v.heard r.log es f.heard;
              same = f.same;
              numbered = λ _. (num.0, num.1, ap (λ l. l ++ es) num.2 ∙ sym (entries_more by v.number r.log es all));
              holding = λ no. absurd (cc);
              resting = λ _ _ eq. omega arith;
              making = λ m. let a = h.0 in absurd (cc);
            })
            (λ j d ne o. others_give r.made r.maker r.place r.log es v.number id j d num.1 ne all (subst (λ (z : ℕ). Fit z r.made r.maker r.place r.log j d) h.1 o)),
        (refl, refl),
      )

  -- the same at a seat that holds no slot
  pub takes_slot : (slots id own : ℕ) (m : Holder T E) → slots ≡ 1 → own ≡ m.0.number + 1 → m.1 ≡ [] → m.0.role ≡ Numbered → m.0.holds ≡ false
      → Allows Rule slots id m 0 (λ n. either (eqb n 0) own n) (tried opening stands by m)
  takes_slot slots id own m one is none role rests =
      subst (λ (z : ℕ × ℕ × List (ℕ × Option T)). Allows Rule z.0 id (m.0, z.2) 0 (λ n. either (eqb n 0) z.1 n) (tried opening stands by (m.0, z.2)))
      (λ i. (sym one i, sym is i, sym none i)) (takes_turn id m.0 role rests)

  -- the same at a seat that holds the slot with this value
  pub gives_back : (slots id : ℕ) (m : Holder T E) (v : Known T E) (x : T) (es : List E) → slots ≡ 1 → m ≡ (v, (0, Some x) ∷ []) → v.holds ≡ true → AllMadeBy by v.number es
      → StandsSince opening stands by v.first (v.seen ++ es) x
      → Allows Rule slots id m 0 (λ _. 0) (λ _ m'. gave es m m')
  gives_back slots id m v x es one is holds all means =
      subst (λ (z : ℕ × Holder T E). Allows Rule z.0 id z.1 0 (λ _. 0) (λ _ m'. gave es z.1 m'))
      (λ i. (sym one i, sym is i)) (gives_turn id v x es holds all means)

  -- a view that has told nothing, of a seat with no number and no turn, is fit wherever it stands
  fits_guest : (n made maker id : ℕ) (place : ℕ → ℕ) (log : List E) (v : Known T E) → IsPrefix v.seen log
      → (v.first ≡ Some (first_value key)) × (v.seats ≡ key.seats) → Fit n made maker place log id (guest v)
  fits_guest n made maker id place log v seen same = record {
    begins = seen;
    heard = tt;
    same = λ _. same;
    numbered = λ e. absurd (cc);
    holding = λ e. absurd (cc);
    resting = λ e. absurd (cc);
    making = λ e. absurd (cc);
  }

  fits_spent : (n made maker id : ℕ) (place : ℕ → ℕ) (log : List E) → Fit n made maker place log id spent
  fits_spent n made maker id place log = record {
    begins = prefix_nil log;
    heard = tt;
    same = λ e. absurd (e refl);
    numbered = λ e. absurd (cc);
    holding = λ e. absurd (cc);
    resting = λ e. absurd (cc);
    making = λ e. absurd (cc);
  }

  -- a seat may be cut off that tells what this one has seen
  pub splits_guest : (id : ℕ) (v : Known T E) → v.role ≡ Numbered → Splits Rule id v v (guest v)
  splits_guest id v is s r at =
      let f = r.each id v at in
      let same : set s.views id v ≡ s.views = set_again s.views id v at in record {
        log = r.log;
        made = r.made;
        maker = r.maker;
        place = r.place;
        wide = r.wide;
        within = r.within;
        word = r.word;
        free = r.free;
        others = r.others;
        each = λ j d there. ⊎_elim
            (λ old. r.each j d (subst (λ (l : List (Known T E)). get_elem? l j ≡ some d) same old))
            (λ new. subst (λ (z : Known T E). Fit (word s) r.made r.maker r.place r.log j z) new.1
            (fits_guest (word s) r.made r.maker j r.place r.log v f.begins (f.same (λ z. absurd (cc)))))
            (at_end (set s.views id v) (guest v) d j there);
      }

  -- a seat may be told what another has seen, which is spent
  pub joins_told : (id other : ℕ) (v w : Known T E) → Joins Rule id v other w (told v w) spent
  joins_told id other v w s r at apart there =
      let f = r.each id v at in
      let g = r.each other w (sym (set_else s.views id other (told v w) apart) ∙ there) in record {
        log = r.log;
        made = r.made;
        maker = r.maker;
        place = r.place;
        wide = r.wide;
        within = r.within;
        word = r.word;
        free = r.free;
        others = r.others;
        each = λ j d e. ⊎_elim
            (λ t. subst (λ (z : Known T E). Fit (word s) r.made r.maker r.place r.log j z) t.1 (fits_spent (word s) r.made r.maker j r.place r.log))
            (λ t. ⊎_elim
            (λ u. subst (λ (z : Known T E). Fit (word s) r.made r.maker r.place r.log j z) u.1
            (subst (λ (z : ℕ). Fit (word s) r.made r.maker r.place r.log z (told v w)) (sym u.0) (record {
              begins = f.begins;
              heard = (g.begins, tt);
              same = f.same;
              numbered = f.numbered;
              holding = f.holding;
              resting = f.resting;
              making = f.making;
            })))
            (λ u. r.each j d u.1)
            (at_set s.views id j (told v w) d t.1))
            (at_set (set s.views id (told v w)) other j spent d e);
      }

  -- a look shows that what the seat had seen and what it was told begin one history
  pub looks : (slots id : ℕ) (m : Holder T E) (l : List E) → m.0.heard ≡ l ∷ [] → m.0.role ≡ Numbered → m.0.holds ≡ false → m.0.mine ≡ entries_of by m.0.number m.0.seen
      → Allows Rule slots id m 0 (λ n. n) (λ _ m'. looked by m m')
  looks slots id m l heard is rests own s r one at small =
      let v : Known T E = m.0 in
      let f = r.each id v at in
      let num = f.numbered is in
      let told_is : IsPrefix l r.log = (subst (λ ls. AllBegin ls r.log) heard f.heard).0 in
      let all = longer_begins v.seen l r.log f.begins told_is in
      let w : Known T E = record v { seen = longer v.seen l; heard = [] } in (
        w,
        keeps,
        tt,
        moved s r (word s) id m.1 w keeps r.log r.word r.free r.others
            (record {
              begins = all.2;
              heard = tt;
              same = f.same;
              numbered = f.numbered;
              holding = λ h. absurd (cc);
              resting = f.resting;
              making = f.making;
            })
            (λ j d ne o. o),
        (λ k e.
            let same : k ≡ l = cc in
            subst (λ z. Heard by z m (w, m.1)) (sym same) (record {
              view = refl;
              slot = refl;
              begins = all.0;
              other = all.1;
              own = entries_between by v.number v.seen (longer v.seen l) r.log v.mine all.0 all.2 own num.2;
            })),
      )

  -- the maker may give the next number to a new seat
  pub splits_numbered : (id : ℕ) (v : Known T E) → v.role ≡ Maker → v.holds ≡ false → v.number < v.seats → v.parts ≡ [] → v.seen ≡ [] → Splits Rule id v (numbering v) (numbered v)
  splits_numbered id v is rests room none unseen s r at =
      let f = r.each id v at in
      let mk = f.making is in
      let same = f.same (λ z. absurd (cc)) in
      let len : length (set s.views id (numbering v)) ≡ length s.views = length-set s.views id (numbering v) in
      let fresh_place : ℕ → ℕ = λ n. cond (eqb n r.made) (length s.views) (r.place n) in
      let old_place : (n : ℕ) → n < r.made → fresh_place n ≡ r.place n = λ n h. ap (λ b. cond b (length s.views) (r.place n)) (ne_eqb n r.made (λ e. omega arith)) in
      let new_place : fresh_place r.made ≡ length s.views = ap (λ b. cond b (length s.views) (r.place r.made)) (eq-eqb r.made r.made refl) in record {
        log = r.log;
        made = r.made + 1;
        maker = r.maker;
        place = fresh_place;
        wide = r.wide;
        within = let a = same.1 in let b = mk.1 in omega arith;
        word = let a = r.word in omega arith;
        free = r.free;
        others = λ n h. r.others n (omega arith);
        each = λ j d e. ⊎_elim
            (λ t. ⊎_elim
            (λ u. subst (λ (z : Known T E). Fit (word s) (r.made + 1) r.maker fresh_place r.log j z) u.1 (record {
              begins = f.begins;
              heard = f.heard;
              same = f.same;
              numbered = λ q. absurd (cc);
              holding = λ q. absurd (cc);
              resting = λ q. absurd (cc);
              making = λ _. (u.0 ∙ mk.0, ap (λ (n : ℕ). n + 1) mk.1, λ n h. let z : length v.parts ≡ 0 = ap length none in absurd (omega arith));
            }))
            (λ u. let o = r.each j d u.1 in record {
              begins = o.begins;
              heard = o.heard;
              same = o.same;
              numbered = λ q. let p = o.numbered q in let below = p.0 in (omega arith, old_place d.number p.0 ∙ p.1, p.2);
              holding = o.holding;
              resting = o.resting;
              making = λ q. absurd (u.0 ((o.making q).0 ∙ sym mk.0));
            })
            (at_set s.views id j (numbering v) d t))
            (λ t. subst (λ (z : Known T E). Fit (word s) (r.made + 1) r.maker fresh_place r.log j z) t.1 (record {
              begins = f.begins;
              heard = tt;
              same = λ _. same;
              numbered = λ _. (
                let a = mk.1 in omega arith,
                ap fresh_place mk.1 ∙ (new_place ∙ (sym len ∙ sym t.0)),
                sym (r.others v.number (let a = mk.1 in omega arith)),
              );
              holding = λ q. absurd (cc);
              resting = λ _ _ q. let a = r.word in let b = mk.1 in omega arith;
              making = λ q. absurd (cc);
            }))
            (at_end (set s.views id (numbering v)) (numbered v) d j e);
      }

  -- the maker may take in the seat of the next number
  pub joins_gathered : (id other : ℕ) (v w : Known T E) → v.role ≡ Maker → w.role ≡ Numbered → w.holds ≡ false → w.number ≡ length v.parts → Joins Rule id v other w (gathered v w) spent
  joins_gathered id other v w is num rests next s r at apart there =
      let f = r.each id v at in
      let g = r.each other w (sym (set_else s.views id other (gathered v w) apart) ∙ there) in
      let mk = f.making is in
      let nm = g.numbered num in
      let k : ℕ = w.number in
      let fresh_place : ℕ → ℕ = λ n. cond (eqb n k) id (r.place n) in
      let old_place : (n : ℕ) → n ≢ k → fresh_place n ≡ r.place n = λ n h. ap (λ b. cond b id (r.place n)) (ne_eqb n k h) in
      let new_place : fresh_place k ≡ id = ap (λ b. cond b id (r.place k)) (eq-eqb k k refl) in record {
        log = r.log;
        made = r.made;
        maker = r.maker;
        place = fresh_place;
        wide = r.wide;
        within = r.within;
        word = r.word;
        free = r.free;
        others = r.others;
        each = λ j d e. ⊎_elim
            (λ t. subst (λ (z : Known T E). Fit (word s) r.made r.maker fresh_place r.log j z) t.1 (fits_spent (word s) r.made r.maker j fresh_place r.log))
            (λ t. ⊎_elim
            (λ u. subst (λ (z : Known T E). Fit (word s) r.made r.maker fresh_place r.log j z) u.1 (record {
              begins = f.begins;
              heard = begin_end v.heard w.seen r.log f.heard g.begins;
              same = f.same;
              numbered = λ q. absurd (cc);
              holding = λ q. let z = (f.holding q).0 in absurd (cc);
              resting = λ q. absurd (cc);
              making = λ _. (
                u.0 ∙ mk.0,
                mk.1,
                λ n h. dite (ℕ_discrete n k)
                    (λ same. (
                      ap fresh_place same ∙ (new_place ∙ sym u.0),
                      (λ eq. g.resting num rests (eq ∙ ap (λ (z : ℕ). z + 1) same)),
                      ap (λ (z : ℕ). entries_of by z r.log) same ∙ (sym nm.2 ∙ sym (ap (λ (z : ℕ). get_or (v.parts ++ w.mine ∷ []) z []) (same ∙ next) ∙ get_or-append_seam v.parts w.mine [] [])),
                    ))
                    (λ other_n.
                    let long : length (v.parts ++ w.mine ∷ []) ≡ length v.parts + 1 = length-append v.parts (w.mine ∷ []) in
                    let low : n < length v.parts = omega arith in
                    let p = mk.2 n low in (
                      old_place n other_n ∙ (p.0 ∙ sym u.0),
                      p.1,
                      p.2 ∙ sym (get_or_append_left v.parts (w.mine ∷ []) [] n low),
                    )),
              );
            }))
            (λ u. let o = r.each j d u.1 in record {
              begins = o.begins;
              heard = o.heard;
              same = o.same;
              numbered = λ q. let p = o.numbered q in
                  (p.0, old_place d.number (λ eq. t.0 (sym p.1 ∙ (ap r.place eq ∙ nm.1))) ∙ p.1, p.2);
              holding = o.holding;
              resting = o.resting;
              making = λ q. absurd (u.0 ((o.making q).0 ∙ sym mk.0));
            })
            (at_set s.views id j (gathered v w) d t.1))
            (at_set (set s.views id (gathered v w)) other j spent d e);
      }

  -- the lock as it is made
  pub opens : (x : T) → x ≡ first_value key → stands (opening (first_value key)) [] x → Rule (table.opening (0 ∷ 0 ∷ []) (Some x ∷ []) (first_view key))
  opens x is means = record {
    log = [];
    made = 0;
    maker = 0;
    place = λ _. 0;
    wide = refl;
    within = omega arith;
    word = omega arith;
    free = λ _. (x, refl, means);
    others = λ _ _. refl;
    each = λ j d e. ⊎_elim
        (λ none. absurd (some-ne-none d (sym none)))
        (λ t. subst (λ (z : Known T E). Fit 0 0 0 (λ _. 0) [] j z) t.1 (record {
          begins = prefix_nil [];
          heard = tt;
          same = λ _. (refl, refl);
          numbered = λ q. absurd (cc);
          holding = λ q. absurd (cc);
          resting = λ q. absurd (cc);
          making = λ _. (t.0, refl, λ n h. absurd (omega arith));
        }))
        (at_end [] (first_view key) d j e);
  }

  -- the lock as it is taken apart: once every number was taken in, the turn is free
  pub ends : (id : ℕ) (v : Known T E) (ws : List ℕ) (xs : List (Option T)) → length xs ≡ 1 → v.role ≡ Maker → v.number ≡ length v.parts → table.Final (table.Seen Rule id v) ws xs
      → (x : T) × (log : List E) × (get_elem? xs 0 ≡ some (Some x)) × stands (opening (first_value key)) log x × AllBegin v.heard log
      × ((n : ℕ) → n < length v.parts → entries_of by n log ≡ get_or v.parts n []) × ((n : ℕ) → length v.parts ≤ n → entries_of by n log ≡ [])
  ends id v ws xs one is all final =
      let s : St = final.0 in
      let r = final.1.0 in
      let f = r.each id v final.1.1 in
      let mk = f.making is in
      let free : word s ≡ 0 = dite (ℕ_discrete (word s) 0) (λ z. z) (λ some_seat.
      let most = r.word in let made = mk.1 in
      absurd ((mk.2 (word s - 1) (omega arith)).1 (omega arith))) in
      let here = r.free free in
      (here.0, r.log, final.4 0 (Some here.0) here.1, here.2, f.heard, (λ n h. (mk.2 n h).2), (λ n h. r.others n (let made = mk.1 in omega arith)))

  -- a change of the count of calls changes nothing of the rule
  pub calls : (slots id : ℕ) (m : Holder T E) (f : ℕ → ℕ) → Allows Rule slots id m 1 f (λ _ m'. m' ≡ m)
  calls slots id m f s r one at small =
      let v : Known T E = m.0 in
      let n : ℕ = f (get_or s.words 1 0) in
      let same : get_or (set s.words 1 n) 0 0 ≡ word s = get_or-set_other s.words 1 0 n 0 (λ e. omega arith) in
      let views : set s.views id v ≡ s.views = set_again s.views id v at in (
        v,
        keeps,
        tt,
        record {
          log = r.log;
          made = r.made;
          maker = r.maker;
          place = r.place;
          wide = length-set s.words 1 n ∙ r.wide;
          within = r.within;
          word = rw same r.word;
          free = λ z. r.free (sym same ∙ z);
          others = r.others;
          each = λ j d there. subst (λ (z : ℕ). Fit z r.made r.maker r.place r.log j d) (sym same)
              (r.each j d (subst (λ (l : List (Known T E)). get_elem? l j ≡ some d) views there));
        },
        refl,
      )
