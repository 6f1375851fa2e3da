-- One table more is copied, or refused, and those before it given back.
use Rattle.std.proofs.Common.{◌≡◌, ◌+◌, ◌<◌, ◌∷◌, [], length, take, get_or, replicate, refl, sym, ◌∙◌, ap, subst, arith}
use Rattle.std.proofs.lemmas.List.{length-replicate}
use Rattle.vm_base.specs.Deals.{LeadsAlong}
use Rattle.table_levels.specs.Requests.{granted, RefusesOne}
use Rattle.table_levels.specs.Copies.{table_bytes_in}
use Rattle.table_levels.specs.Walks.{Place, table_at, tables_at}
use Rattle.table_levels.proofs.Giving.{free, tables_at-take, tables_at-take_le}
use Rattle.table_levels.proofs.Walking.{table_at-free, tables_at-free}
use Rattle.table_levels.proofs.Copied.{replicate-append, grants_more, copies_more, copies_all, copies_met, same_counted, refuses_level}
use Rattle.table_levels.proofs.copying.copy_level.Goals as goal

pub loop-i-init : goal.loop-i-init
loop-i-init g c =
    let n = length c.args.tables.now in
    record {
      first = record {
        size = ap length c.requires.room.free ∙ length-replicate n free;
        copied = λ k below. absurd (omega arith);
        free = λ k above. ap (λ l. table_at l k) c.requires.room.free ∙ table_at-free n k;
        counted = ap tables_at c.requires.room.free ∙ tables_at-free n;
      };
      granted = refl;
      out = omega arith;
      unrefused = refl;
      copied = refl;
      untold = refl;
    }

pub returns-in-Err-clause-requests : goal.returns-in-Err-clause-requests
returns-in-Err-clause-requests g c =
    let tables = c.args.tables.now in
    let i = c.loop-i.i in
    let inside : i < length tables = omega (arith, c.loop-i-test.true) in
    let item = c.index-tables-i.is in
    refuses_level g.A.Allot.goes c.args.want tables i c.index-tables-i.result c.in-Err.refused.at (tables_at c.loop-i.places.items) _ _ _ _ inside
    c.loop-i.invariant.granted (subst (λ (p : Place). RefusesOne g.A.Allot.goes (g.A.Allot.state c.loop-i.allot) (replicate (tables_at (p ∷ [])) c.args.want) c.in-Err.refused.at (g.A.Allot.state c.copy_of.new.allot)) item c.in-Err.ensures.requests)
    c.give_all.ensures.given c.loop-i.invariant.first.counted

pub loop-i-preserved : goal.loop-i-preserved
loop-i-preserved g c =
    let tables = c.args.tables.now in
    let i = c.loop-i.i in
    let d = c.index-tables-i.result in
    let inside : i < length tables = omega (arith, c.loop-i-test.true) in
    let one : tables_at (d ∷ []) ≡ tables_at (get_or tables i d ∷ []) = ap (λ (p : Place). tables_at (p ∷ [])) c.index-tables-i.is in
    let count : tables_at (take (i + 1) tables) ≡ tables_at (take i tables) + tables_at (d ∷ []) = tables_at-take tables i d inside ∙ ap (λ n. tables_at (take i tables) + n) (sym one) in
    let copies : table_bytes_in c.in-Ok.copy ≡ table_bytes_in d = c.in-Ok.ensures.copied in
    let same : c.count_of-copied.result ≡ tables_at (d ∷ []) =
    c.count_of-copied.ensures ∙ same_counted c.in-Ok.copy d copies in
    record {
      first = copies_more c.loop-i.places.items tables i c.in-Ok.copy d inside c.loop-i.invariant.first (subst (λ p. table_bytes_in c.in-Ok.copy ≡ table_bytes_in p) c.index-tables-i.is c.in-Ok.ensures.copied);
      granted = subst (λ wants. LeadsAlong g.A.Allot.goes (g.A.Allot.state c.args.allot.now) (granted wants) (g.A.Allot.state c.copy_of.new.allot))
          (replicate-append c.args.want (tables_at (take i tables)) (tables_at (d ∷ [])) ∙ ap (λ n. replicate n c.args.want) (sym count))
          (grants_more g.A.Allot.goes (replicate (tables_at (take i tables)) c.args.want) (replicate (tables_at (d ∷ [])) c.args.want) _ _ _ c.loop-i.invariant.granted c.in-Ok.ensures.requests);
      copied = omega (arith, c.loop-i.invariant.copied, same, count);
      out = omega (arith, c.loop-i.invariant.out, c.in-Ok.ensures.out, count);
      unrefused = c.in-Ok.ensures.counts ∙ c.loop-i.invariant.unrefused;
      untold = c.in-Ok.ensures.untold ∙ c.loop-i.invariant.untold;
    }

pub returns-clause-copied : goal.returns-clause-copied
returns-clause-copied g c =
    copies_all c.loop-i.places.items c.args.tables.now c.loop-i.i (omega (arith, c.loop-i-test.false)) c.loop-i.invariant.first

pub returns-then-copied-count-clause-copied : goal.returns-then-copied-count-clause-copied
returns-then-copied-count-clause-copied g c =
    copies_met c.loop-i.places.items c.args.tables.now c.loop-i.i
    (sym c.loop-i.invariant.copied ∙ c.if-copied-count.true ∙ c.requires.room.counted) c.loop-i.invariant.first

pub overflow_add-copied : goal.overflow_add-copied
overflow_add-copied g c =
    let tables = c.args.tables.now in
    let i = c.loop-i.i in
    let d = c.index-tables-i.result in
    let inside : i < length tables = omega (arith, c.loop-i-test.true) in
    let copies : table_bytes_in c.in-Ok.copy ≡ table_bytes_in d = c.in-Ok.ensures.copied in
    let same : c.count_of-copied.result ≡ tables_at (d ∷ []) = c.count_of-copied.ensures ∙ same_counted c.in-Ok.copy d copies in
    let one : tables_at (d ∷ []) ≡ tables_at (get_or tables i d ∷ []) = ap (λ (p : Place). tables_at (p ∷ [])) c.index-tables-i.is in
    let count = c.loop-i.invariant.copied in
    omega (arith, same, one, tables_at-take tables i d inside, tables_at-take_le tables (i + 1), count, c.requires.room.counted)
