-- All places are free, and as many frames given back as the cells took.
use Rattle.std.proofs.Common.{◌≡◌, ◌+◌, ◌∷◌, [], replicate, refl, sym, ◌∙◌, ap, subst, arith}
use Rattle.table_levels.specs.Cells.{tables_of}
use Rattle.table_levels.specs.Walks.{Place, levels_of, directory_cells, tables_at, IsDirectory}
use Rattle.table_levels.proofs.Giving.{free, gives_more}
use Rattle.table_levels.proofs.Links.{tables_at-cons}
use Rattle.table_levels.proofs.Walking.{bare_directory, no_levels, tables_at-free}
use Rattle.table_levels.proofs.directory.Directory.release.Goals as goal

pub invariant_of-self : goal.invariant_of-self
invariant_of-self g c =
    let uppers = c.give_all-2.new.places.items in
    let middles = c.give_all.new.places.items in
    let none : uppers ≡ replicate 512 free = c.give_all-2.ensures.free ∙ ap (λ n. replicate n free) c.self.invariant.directory.uppers in
    record {
      directory = subst (λ (top : Place). IsDirectory (levels_of top uppers middles) 0) (sym c.take.ensures.after)
          (bare_directory uppers middles none (c.give_all.ensures.free ∙ ap (λ n. replicate n free) c.self.invariant.directory.middles));
      upper_counted = sym (ap tables_at none ∙ tables_at-free 512);
    }

pub returns-clause-empty : goal.returns-clause-empty
returns-clause-empty g c =
    let uppers = c.give_all-2.new.places.items in
    let middles = c.give_all.new.places.items in
    ap (λ (top : Place). directory_cells (levels_of top uppers middles)) c.take.ensures.after ∙ no_levels uppers middles

pub returns-clause-given : goal.returns-clause-given
returns-clause-given g c =
    let top = c.self.inside.top in
    let uppers = c.self.inside.uppers.items in
    let middles = c.self.inside.middles.items in
    let taken : tables_of c.args.self.now ≡ tables_at (top ∷ uppers) + tables_at middles = ap tables_of (sym c.self.view_is) ∙ sym c.self.invariant.directory.taken ∙ c.self.invariant.directory.counted in
    let last : tables_at (c.take.result ∷ []) ≡ tables_at (top ∷ []) = ap (λ (p : Place). tables_at (p ∷ [])) c.take.ensures.value in
    gives_more g.A.Allot.goes (tables_at middles + tables_at uppers) (tables_at (c.take.result ∷ [])) (tables_of c.args.self.now) _ _ _
    (gives_more g.A.Allot.goes (tables_at middles) (tables_at uppers) (tables_at middles + tables_at uppers) _ _ _ c.give_all.ensures.given c.give_all-2.ensures.given refl)
    c.give_back.ensures.given (omega (arith, taken, last, tables_at-cons top uppers))
