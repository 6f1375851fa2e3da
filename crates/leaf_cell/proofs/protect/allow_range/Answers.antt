use Rattle.std.proofs.Common.{◌≡◌, ◌∙◌, ◌+◌, ◌-◌, ◌*◌, ◌/◌, ℕ, sym, ap, subst, arith, Some}
use Rattle.leaf_cell.specs.Inside.{AreWritable, own_places}
use Rattle.leaf_cell.specs.Permissions.{table_allowed, with_allowed}
use Rattle.leaf_cell.proofs.AllowedPages.{no-allowed}
use Rattle.leaf_cell.proofs.BlockPages.{writable-allowed, both-allowed}
use Rattle.leaf_cell.proofs.protect.allow_range.Goals as goal

pub loop-block-init : goal.loop-block-init
loop-block-init c = no-allowed c.args.is_writable (own_places c.args.snapshot.now) c.args.first c.in-Some.table
    (subst (λ parent. AreWritable parent (own_places c.args.snapshot.now)) c.in-Some.is c.requires.writable).size

pub allow_block-requires-clause-writable : goal.allow_block-requires-clause-writable
allow_block-requires-clause-writable c =
    subst (λ table. AreWritable (Some table) (own_places c.args.snapshot.now)) (sym c.loop-block.invariant)
    (writable-allowed c.args.is_writable (own_places c.args.snapshot.now) c.args.first (8 * c.loop-block.block) c.in-Some.table
    (subst (λ parent. AreWritable parent (own_places c.args.snapshot.now)) c.in-Some.is c.requires.writable))

pub loop-block-preserved : goal.loop-block-preserved
loop-block-preserved c =
    let next : 8 * c.loop-block.block + 8 ≡ 8 * (c.loop-block.block + 1) = omega arith in
    c.allow_block.ensures
    ∙ ap (table_allowed c.args.is_writable (own_places c.args.snapshot.now) (c.args.first + 8 * c.loop-block.block) 8) c.loop-block.invariant
    ∙ both-allowed c.args.is_writable (own_places c.args.snapshot.now) c.args.first (8 * c.loop-block.block) 8 c.in-Some.table
    ∙ ap (λ n. table_allowed c.args.is_writable (own_places c.args.snapshot.now) c.args.first n c.in-Some.table) next

pub allow_pages-requires-clause-writable : goal.allow_pages-requires-clause-writable
allow_pages-requires-clause-writable c =
    subst (λ table. AreWritable (Some table) (own_places c.args.snapshot.now)) (sym c.loop-block.invariant)
    (writable-allowed c.args.is_writable (own_places c.args.snapshot.now) c.args.first (8 * c.loop-block.block) c.in-Some.table
    (subst (λ parent. AreWritable parent (own_places c.args.snapshot.now)) c.in-Some.is c.requires.writable))

pub returns-after-loop-block : goal.returns-after-loop-block
returns-after-loop-block c =
    let blocks : ℕ = c.args.pages / 8 in
    let all : 8 * c.loop-block.block ≡ 8 * blocks = omega (arith, c.loop-block.auto.block-end, c.loop-block-test.false) in
    let whole : 8 * blocks + (c.args.pages - 8 * blocks) ≡ c.args.pages = omega arith in
    let done : c.loop-block.table ≡ table_allowed c.args.is_writable (own_places c.args.snapshot.now) c.args.first (8 * blocks) c.in-Some.table = c.loop-block.invariant
    ∙ ap (λ n. table_allowed c.args.is_writable (own_places c.args.snapshot.now) c.args.first n c.in-Some.table) all in
    ap Some (c.allow_pages.ensures
    ∙ ap (table_allowed c.args.is_writable (own_places c.args.snapshot.now) (c.args.first + 8 * blocks) (c.args.pages - 8 * blocks)) done
    ∙ both-allowed c.args.is_writable (own_places c.args.snapshot.now) c.args.first (8 * blocks) (c.args.pages - 8 * blocks) c.in-Some.table
    ∙ ap (λ n. table_allowed c.args.is_writable (own_places c.args.snapshot.now) c.args.first n c.in-Some.table) whole)
    ∙ ap (with_allowed c.args.is_writable (own_places c.args.snapshot.now) c.args.first c.args.pages) (sym c.in-Some.is)
