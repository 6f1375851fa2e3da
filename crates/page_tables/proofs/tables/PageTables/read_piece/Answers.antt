-- The cell of the page reads what the parent has there, and a page of no cell is absent.
use Rattle.std.proofs.Common.{length, sym, ◌∙◌, ap}
use Rattle.std.specs.FinMap.{get}
use Rattle.vm_base.specs.Places.{page_of, cell_of}
use Rattle.vm_base.proofs.FlatBytes.{bytes_at-absent}
use Rattle.page_tables.proofs.ParentPages.{owned-index, parent-read, page-absent}
use Rattle.page_tables.proofs.Known.{known-owner}
use Rattle.page_tables.proofs.tables.PageTables.read_piece.Goals as goal

pub index-requires : goal.index-requires
index-requires c =
    let known = ap (get c.args.self.now.directory) (sym c.location_of-location.ensures.cell) ∙ sym c.find.ensures ∙ c.in-Some.is in
    owned-index c.args.self.now.slots.items _ c.in-Some.slot (cell_of (page_of c.args.addr)) c.args.self.now.slots.ok.0 (known-owner c.args.self.now c.requires.stands (cell_of (page_of c.args.addr)) c.in-Some.slot known)

pub returns-in-Some : goal.returns-in-Some
returns-in-Some c = record {
  read = λ sides st.
      let known = ap (get c.args.self.now.directory) (sym c.location_of-location.ensures.cell) ∙ sym c.find.ensures ∙ c.in-Some.is in
      parent-read c.args.self.now sides st c.in-Some.slot c.args.addr (length c.args.buf.now) c.index.result.now known c.index.ensures c.requires.room c.read.new.buf c.read.auto.buf
      c.location_of-location.result.page c.location_of-location.result.at c.location_of-location.ensures.page c.location_of-location.ensures.at c.read.ensures.account;
}

pub returns-in-None : goal.returns-in-None
returns-in-None c = record {
  read = λ sides st.
      let missing = ap (get c.args.self.now.directory) (sym c.location_of-location.ensures.cell) ∙ sym c.find.ensures ∙ c.in-None.is in
      c.fill.ensures.after (λ y h. h) ∙ sym (bytes_at-absent sides.pages c.args.addr (length c.args.buf.now)
      (page-absent c.args.self.now.directory c.args.self.now.snapshot c.args.self.now.slots.items sides st (page_of c.args.addr) missing) c.requires.room);
}
