use Rattle.std.proofs.Common.{rules, ap, sym, ◌∙◌, ◌+◌, ◌∷◌, ℕ}
use Rattle.std.specs.Prelude.{Some}
use Rattle.atomic_table.specs.Table.{rest}
use Rattle.turn_cell.proofs.Keeps.{takes_slot}
use Rattle.turn_cell.proofs.cell.TurnCell.take.Goals as goal

pub compare_exchange-found-requires : goal.compare_exchange-found-requires
compare_exchange-found-requires g c =
    let s = c.requires in (
      search rules,
      search rules,
      takes_slot g.T.Told.opening g.T.Told.stands g.T.Told.seat_of _ _ _ _ _ (search rules)
          (ap (λ (n : ℕ). n + 1) (c.from-own.ensures ∙ sym s.numbered.number)) s.slots s.numbered.role s.resting,
    )

pub exchange-value-requires : goal.exchange-value-requires
exchange-value-requires g c =
    let t = c.compare_exchange-found.ensures.2.0 c.if-found-ne0.false in
    (search rules, (Some t.value, t.slot ∙ sym (ap (λ l. (0, Some t.value) ∷ rest l) t.slot)))
