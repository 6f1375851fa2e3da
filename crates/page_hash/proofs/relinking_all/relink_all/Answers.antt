use Rattle.std.proofs.Common.{◌≡◌, ◌+◌, ◌*◌, ◌∙◌, subst, arith}
use Rattle.store_meaning.proofs.HeapSteps.{KeepsPages}
use Rattle.page_hash.specs.ArrayRelinking.{RelinksPart}
use Rattle.page_hash.proofs.BlockLinks.{keeps_on, may_on, ready_on}
use Rattle.page_hash.proofs.PartRelinks.{old_table_on, parts_join}
use Rattle.page_hash.proofs.relinking_all.relink_all.Goals as goal

pub relink_page-requires-clause-may : goal.relink_page-requires-clause-may
relink_page-requires-clause-may g c = may_on _ _ c.requires.may c.loop-page.invariant.keeps

pub relink_page-requires-clause-table : goal.relink_page-requires-clause-table
relink_page-requires-clause-table g c =
    let table = c.requires.table.0 in (
      table,
      old_table_on (g.M.Memory.state c.args.m.now).mem (g.M.Memory.state c.loop-page.m).mem c.args.arrays.now table 0
          (512 * c.loop-page.page) c.requires.table.1 (omega arith) (omega (arith, c.loop-page-test.true)) c.loop-page.invariant.keeps.areas
          (λ page there. c.loop-page.invariant.keeps.pages page ∙ there)
          (c.loop-page.invariant.part table c.requires.table.1).beside,
    )

pub relink_page-requires-clause-ready : goal.relink_page-requires-clause-ready
relink_page-requires-clause-ready g c =
    ready_on _ _ c.args.arrays.now.new (16 * c.args.arrays.now.buckets) c.loop-page.invariant.keeps c.requires.ready

pub loop-page-preserved : goal.loop-page-preserved
loop-page-preserved g c =
    let old = g.M.Memory.state c.args.m.now in
    let mid = g.M.Memory.state c.loop-page.m in
    let new = g.M.Memory.state c.relink_page.new.m in
    let arrays = c.args.arrays.now in
    let pages : KeepsPages old.mem mid.mem = λ page there. c.loop-page.invariant.keeps.pages page ∙ there in
    let more : 512 * c.loop-page.page + 512 ≡ 512 * (c.loop-page.page + 1) = omega arith in
    record {
      keeps = keeps_on old mid new c.loop-page.invariant.keeps c.relink_page.ensures.keeps;
      aside = c.relink_page.ensures.aside ∙ c.loop-page.invariant.aside;
      went = g.met.M.Memory.went_on _ _ _ c.loop-page.invariant.went c.relink_page.ensures.went;
      part = λ table is.
          subst (RelinksPart old.mem new.mem arrays table 0) more
          (parts_join old.mem mid.mem new.mem arrays table (512 * c.loop-page.page) (512 * c.loop-page.page + 512) is (omega arith)
          (omega (arith, c.loop-page-test.true)) pages (c.loop-page.invariant.part table is)
          (c.relink_page.ensures.relinks table
          (old_table_on old.mem mid.mem arrays table 0 (512 * c.loop-page.page) is (omega arith) (omega (arith, c.loop-page-test.true))
          c.loop-page.invariant.keeps.areas pages (c.loop-page.invariant.part table is).beside)));
    }

pub returns-clause-relinks : goal.returns-clause-relinks
returns-clause-relinks g c table is =
    let all : 512 * c.loop-page.page ≡ c.args.arrays.now.buckets =
    omega (arith, c.loop-page.auto.page-end, c.loop-page-test.false, is.regions.whole) in
    subst (λ k. RelinksPart (g.M.Memory.state c.args.m.now).mem (g.M.Memory.state c.loop-page.m).mem c.args.arrays.now table 0 k) all
    (c.loop-page.invariant.part table is)
