use Rattle.std.proofs.Common.{◌≡◌, ◌∙◌, ◌+◌, ℕ, true, false, sym, ap, subst, arith, length, nat_lt}
use Rattle.std.proofs.lemmas.Bool.Decides.{nat_tests}
use Rattle.std.specs.Prelude.{◌&&◌, not, is_some, count_by}
use Rattle.page_tables.proofs.Vacancies.{lacking-free, lacking-none}
use Rattle.page_tables.proofs.tables.PageTables.lacks_slots.Goals as goal

pub returns-then-missing-gt0 : goal.returns-then-missing-gt0
returns-then-missing-gt0 c = λ sides st.
    let some : nat_lt 0 c.missing_slots-missing.result ≡ true = grind (arith, nat_tests, c.if-missing-gt0.true) in
    sym (ap (λ b. b && not c.has_free.result) some)
    ∙ lacking-free c.args.self.now sides st c.args.first c.args.count c.missing_slots-missing.result c.requires.some
    (c.missing_slots-missing.ensures sides st) c.has_free.result
    (subst (λ slots. (free : ℕ) → free + count_by (λ slot. is_some slot.owner) slots ≡ length slots
    → c.has_free.result ≡ not (nat_lt free c.missing_slots-missing.result)) c.deref.ensures.value
    c.has_free.ensures)

pub returns-else-missing-gt0 : goal.returns-else-missing-gt0
returns-else-missing-gt0 c = λ sides st.
    let none : nat_lt 0 c.missing_slots-missing.result ≡ false = grind (arith, nat_tests, c.if-missing-gt0.false) in
    lacking-none c.args.self.now sides st c.args.first c.args.count c.missing_slots-missing.result c.requires.some
    (c.missing_slots-missing.ensures sides st) none
