-- A cell that the snapshot lacks is not lost, and reads zeros.
use Rattle.std.proofs.Common.{◌≡◌, ◌+◌, ◌-◌, length, None, sym, ◌∙◌, ap, subst, arith}
use Rattle.vm_base.specs.Places.{page_of, cell_of}
use Rattle.kernel_meaning.specs.FrameLaw.{losses_of}
use Rattle.page_tables.specs.Standing.{slot_in}
use Rattle.page_tables.proofs.RangeLosses.{one-cell}
use Rattle.page_tables.proofs.SnapshotPages.{bytes_at-nothing, unlost-lacking, snapshot-lacking}
use Rattle.page_tables.proofs.tables.PageTables.snap_read_cell.Goals as goal

pub returns-in-None : goal.returns-in-None
returns-in-None c = record {
  read = λ sides st.
      let none : slot_in c.args.self.now.snapshot (cell_of (page_of c.args.addr)) ≡ None =
      ap (slot_in c.args.self.now.snapshot) (sym c.location_of.ensures.cell) ∙ sym c.snapshot_slot.ensures ∙ c.in-None.is in
      let last : cell_of (page_of (c.args.addr + length c.args.buf.now - 1)) ≡ cell_of (page_of c.args.addr) = omega arith in
      record {
        unlost = one-cell (losses_of sides.leaves) c.args.number c.args.addr (length c.args.buf.now) c.requires.some last
            ∙ unlost-lacking c.args.self.now sides st (cell_of (page_of c.args.addr)) c.args.number none;
        read = λ pages lives. c.fill.ensures.after (λ y h. h) ∙ bytes_at-nothing pages c.args.addr (length c.args.buf.now) (λ k small.
            let same : cell_of (page_of c.args.addr) ≡ cell_of (page_of (c.args.addr + k)) = omega arith in
            snapshot-lacking c.args.self.now sides st c.args.number (page_of (c.args.addr + k)) pages
            (subst (λ q. slot_in c.args.self.now.snapshot q ≡ None) same none) lives);
        lost = tt;
      };
}
