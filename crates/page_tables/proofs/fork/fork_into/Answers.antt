use Rattle.std.proofs.Common.{◌≡◌, replicate, refl, sym, ◌∙◌, ap, arith, inl}
use Rattle.std.specs.FinMap.{keys}
use Rattle.vm_base.specs.declared.frame_request.Want.TheVariants as want
use Rattle.table_levels.specs.Cells.{tables_of}
use Rattle.table_levels.specs.Requests.{directory_wants}
use Rattle.table_levels.proofs.Counting.{tables_of-empty}
use Rattle.table_levels.proofs.Asking.{refuses_after}
use Rattle.table_levels.proofs.Copied.{grants_more}
use Rattle.page_tables.specs.Forking.{forked_count}
use Rattle.page_tables.proofs.ForkWants.{wants-counted}
use Rattle.page_tables.proofs.fork.fork_into.Goals as goal

pub returns-in-Err-clause-held : goal.returns-in-Err-clause-held
returns-in-Err-clause-held g c =
    let none : tables_of c.copy_from.new.self ≡ 0 = ap tables_of (c.in-Err.ensures.kept ∙ c.requires.empty) ∙ tables_of-empty in
    omega (arith, none, c.in-Err.ensures.out)

pub returns-in-Ok-fork_cells-clause-requests : goal.returns-in-Ok-fork_cells-clause-requests
returns-in-Ok-fork_cells-clause-requests g c =
    grants_more g.A.Allot.goes (directory_wants (keys c.args.parent.now)) (replicate (forked_count c.args.slots.now.items) want.Leaf) _ _ _ c.in-Ok.ensures.requests c.in-Ok-fork_cells.ensures.requests

pub returns-in-Err-fork_cells-clause-requests : goal.returns-in-Err-fork_cells-clause-requests
returns-in-Err-fork_cells-clause-requests g c =
    refuses_after g.A.Allot.goes (directory_wants (keys c.args.parent.now)) (replicate (forked_count c.args.slots.now.items) want.Leaf) c.in-Err-fork_cells.refused.at
    (tables_of c.copy_from.new.self) _ _ _ _
    c.in-Ok.ensures.requests c.in-Err-fork_cells.ensures.requests c.release.ensures.given (ap tables_of c.in-Ok.ensures.copied ∙ sym (wants-counted (keys c.args.parent.now)))

pub returns-in-Err-fork_cells-clause-held : goal.returns-in-Err-fork_cells-clause-held
returns-in-Err-fork_cells-clause-held g c =
    let none : tables_of c.release.new.self ≡ 0 = ap tables_of c.release.ensures.empty ∙ tables_of-empty in
    let copied : tables_of c.copy_from.new.self ≡ tables_of c.args.parent.now = ap tables_of c.in-Ok.ensures.copied in
    omega (arith, none, copied, c.in-Ok.ensures.out, c.in-Err-fork_cells.ensures.held, c.release.ensures.out)

pub returns-in-Err-clause-bits : goal.returns-in-Err-clause-bits
returns-in-Err-clause-bits g c = record {
  slot = 0;
  at = inl refl;
  below = λ s it small found. absurd (omega (arith, small));
  above = λ s it more found. (it, (found, refl));
}
