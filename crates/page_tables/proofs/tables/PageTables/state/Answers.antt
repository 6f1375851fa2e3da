-- The cell tells what the snapshot has there, and a snapshot has no other cell.
use Rattle.std.proofs.Common.{sym, ◌∙◌, ap}
use Rattle.kernel_meaning.specs.Leaves.{kept_by}
use Rattle.leaf_cell.specs.States.{state_of}
use Rattle.page_tables.proofs.ParentPages.{account_at, slot-stands, owned-here, owned-index}
use Rattle.page_tables.proofs.SnapshotPages.{kept-lacking}
use Rattle.page_tables.proofs.Known.{known-snapshot-owner}
use Rattle.page_tables.proofs.tables.PageTables.state.Goals as goal

pub index-requires : goal.index-requires
index-requires c =
    owned-index c.args.self.now.slots.items _ c.in-Some.slot c.args.cell c.args.self.now.slots.ok.0
    (known-snapshot-owner c.args.self.now c.requires.stands c.args.cell c.in-Some.slot (sym c.snapshot_slot.ensures ∙ c.in-Some.is))

pub returns-in-Some : goal.returns-in-Some
returns-in-Some c = record {
  state = λ sides st.
      let owned = st.snapshot_of.named c.args.cell c.in-Some.slot (sym c.snapshot_slot.ensures ∙ c.in-Some.is) in
      c.state.ensures.account (account_at c.args.self.now.directory c.args.self.now.snapshot c.args.self.now.slots.items sides st c.args.cell)
      (slot-stands c.args.self.now.directory c.args.self.now.snapshot c.args.self.now.slots.items sides st c.args.cell c.in-Some.slot c.index.result.now
      (owned-here c.args.self.now.slots.items c.in-Some.slot c.args.cell c.index.result.now owned c.index.ensures) owned)
      ∙ ap (λ cell. state_of (kept_by cell.kept c.args.number)) (st.each.leaves c.args.cell);
}

pub returns-in-None : goal.returns-in-None
returns-in-None c = record {
  state = λ sides st. sym (ap state_of (kept-lacking c.args.self.now sides st c.args.cell c.args.number (sym c.snapshot_slot.ensures ∙ c.in-None.is)));
}
