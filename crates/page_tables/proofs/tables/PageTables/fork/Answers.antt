use Rattle.std.proofs.Common.{◌≡◌, refl, ◌∙◌, ap, subst, arith}
use Rattle.table_levels.specs.Cells.{tables_of}
use Rattle.table_levels.proofs.Counting.{tables_of-empty}
use Rattle.page_tables.specs.Standing.{StandFor}
use Rattle.page_tables.proofs.StandingFacts.{alone-slots, known-slots}
use Rattle.page_tables.proofs.ForkedTables.{fork-made, fork-refused}
use Rattle.std.proofs.Math.Logic.{∥∥₁_map}
use Rattle.page_tables.proofs.KeptWriting.{known-forked, none-written-then, stops-before}
use Rattle.page_tables.proofs.ClearedSlot.{still-even}
use Rattle.page_tables.proofs.Known.{known-kept, known-test, known-owner}
use Rattle.page_tables.proofs.tables.PageTables.fork.Goals as goal

pub fork_into-requires-clause-alone : goal.fork_into-requires-clause-alone
fork_into-requires-clause-alone g c =
    λ s slot here. known-kept c.requires.stands (λ it.
    alone-slots c.args.self.now.directory c.args.self.now.slots.items it.0
    (subst (λ snapshot. StandFor c.args.self.now.directory snapshot c.args.self.now.slots.items it.0) c.requires.alone it.1) s slot here)

pub fork_into-requires-clause-known : goal.fork_into-requires-clause-known
fork_into-requires-clause-known g c = ∥∥₁_map c.requires.stands (λ it. known-slots c.args.self.now.directory c.args.self.now.snapshot c.args.self.now.slots.items it.0 it.1)

pub returns-in-Ok-clause-made : goal.returns-in-Ok-clause-made
returns-in-Ok-clause-made g c =
    fork-made c.args.self.now c.requires.alone g.A.Allot.goes _ _ c.args.number c.fork_into.new.child _ c.in-Ok.ensures.requests c.in-Ok.ensures.forked c.in-Ok.ensures.copied refl refl

pub returns-in-Err-clause-made : goal.returns-in-Err-clause-made
returns-in-Err-clause-made g c =
    fork-refused c.args.self.now c.requires.alone g.A.Allot.goes _ _ c.args.number _ c.in-Err.refused.at c.in-Err.ensures.requests c.in-Err.ensures.undone refl c.requires.alone

pub returns-in-Err-clause-held : goal.returns-in-Err-clause-held
returns-in-Err-clause-held g c =
    let none : tables_of c.fork_into.new.child ≡ 0 = ap tables_of c.in-Err.ensures.kept ∙ tables_of-empty in
    omega (arith, none, c.in-Err.ensures.held)

pub returns-in-Ok-clause-writable : goal.returns-in-Ok-clause-writable
returns-in-Ok-clause-writable g c = λ page.
    known-test c.requires.stands (λ it.
    none-written-then c.args.self.now (record c.args.self.now {
      slots = c.fork_into.new.slots;
      even = still-even _ _ _ _
          c.fork_into.ensures.even c.args.self.now.even;
    }) refl it.1.named (known-forked c.args.self.now it.0 it.1) c.in-Ok.ensures.bits page)

pub returns-in-Err-clause-writable : goal.returns-in-Err-clause-writable
returns-in-Err-clause-writable g c =
    stops-before c.args.self.now _ refl (known-owner c.args.self.now c.requires.stands)
    (λ q s slot there here. known-test c.requires.stands (λ it. known-forked c.args.self.now it.0 it.1 q s slot there here)) c.in-Err.ensures.bits
