-- Level after level is copied, or nothing is.
use Rattle.std.proofs.Common.{◌≡◌, ◌++◌, ◌∷◌, [], length, replicate, None, sym, ◌∙◌, ap, subst}
use Rattle.std.proofs.lemmas.List.{length-replicate}
use Rattle.std.specs.FinMap as map
use Rattle.vm_base.specs.Deals.{LeadsAlong}
use Rattle.vm_base.specs.declared.frame_request.Want.TheVariants.{Top, Upper, Middle}
use Rattle.std.proofs.lemmas.Result.{err_from_is_err_and}
use Rattle.table_levels.specs.Requests.{granted, directory_wants, RefusesOne}
use Rattle.table_levels.specs.Cells.{middle_tables_of}
use Rattle.table_levels.specs.Walks.{Place, levels_of, tables_at}
use Rattle.table_levels.specs.Copies.{Copies}
use Rattle.table_levels.proofs.Asking.{refuses_after}
use Rattle.table_levels.proofs.Copied.{grants_more, refuses_before, same_counted}
use Rattle.table_levels.proofs.CopiedLevels.{CopiesLevels, cells_copied, directory_copied, level_wants, empty_bare}
use Rattle.table_levels.proofs.directory.Directory.copy_from.Goals as goal

pub returns-in_err-top-clause-requests : goal.returns-in_err-top-clause-requests
returns-in_err-top-clause-requests g c =
    let other = levels_of c.other.inside.top c.other.inside.uppers.items c.other.inside.middles.items in
    let wants = sym (level_wants other c.other.inside.tables c.other.invariant.directory) ∙ ap (λ m. directory_wants (map.keys m)) c.other.view_is in
    let exit = err_from_is_err_and c.from_residual.result c.from_residual.ensures.1 in
    rw (exit.1, exit.2)
    (subst (λ l. RefusesOne g.A.Allot.goes (g.A.Allot.state c.args.allot.now) l c.in_err-top.field-0.0.at (g.A.Allot.state c.copy_of.new.allot)) wants
    (refuses_before g.A.Allot.goes (replicate (tables_at (other.top ∷ [])) Top) (replicate (tables_at other.uppers) Upper ++ replicate (tables_at other.middles) Middle)
    c.in_err-top.field-0.0.at _ _ c.in_err-top.ensures.requests))

pub copy_lower-requires-clause-room_uppers : goal.copy_lower-requires-clause-room_uppers
copy_lower-requires-clause-room_uppers g c =
    let levels = levels_of c.self.inside.top c.self.inside.uppers.items c.self.inside.middles.items in
    let known = c.other.invariant in
    let bare = empty_bare levels c.self.inside.tables c.self.invariant.directory (c.self.view_is ∙ c.requires.empty) in
    let size : length c.deref.result.now ≡ 512 = ap length c.deref.ensures.value ∙ known.directory.uppers in
    record {
      free = bare.uppers ∙ ap (λ n. let none : Place = None in replicate n none) (sym size);
      counted = known.upper_counted ∙ ap tables_at (sym c.deref.ensures.value);
    }

pub copy_lower-requires-clause-room_middles : goal.copy_lower-requires-clause-room_middles
copy_lower-requires-clause-room_middles g c =
    let levels = levels_of c.self.inside.top c.self.inside.uppers.items c.self.inside.middles.items in
    let known = c.other.invariant.directory in
    let bare = empty_bare levels c.self.inside.tables c.self.invariant.directory (c.self.view_is ∙ c.requires.empty) in
    let size : length c.deref-2.result.now ≡ 512 = ap length c.deref-2.ensures.value ∙ known.middles in
    record {
      free = bare.middles ∙ ap (λ n. let none : Place = None in replicate n none) (sym size);
      counted = c.middle_tables.ensures ∙ ap middle_tables_of (sym c.other.view_is)
          ∙ sym known.middles_taken ∙ ap tables_at (sym c.deref-2.ensures.value);
    }

pub invariant_of-self : goal.invariant_of-self
invariant_of-self g c =
    let other = levels_of c.other.inside.top c.other.inside.uppers.items c.other.inside.middles.items in
    let new = levels_of c.in_ok-top.top c.copy_lower.new.uppers.items c.copy_lower.new.middles.items in
    let copies : CopiesLevels new other = record {
      top = c.in_ok-top.ensures.copied;
      uppers = subst (Copies c.copy_lower.new.uppers.items) c.deref.ensures.value c.in-Ok.ensures.copied_uppers;
      middles = subst (Copies c.copy_lower.new.middles.items) c.deref-2.ensures.value c.in-Ok.ensures.copied_middles;
    } in
    record {
      directory = directory_copied new other c.other.inside.tables c.other.invariant.directory copies;
      upper_counted = c.other.invariant.upper_counted ∙ sym copies.uppers.counted;
    }

pub returns-in-Ok-clause-copied : goal.returns-in-Ok-clause-copied
returns-in-Ok-clause-copied g c =
    let other = levels_of c.other.inside.top c.other.inside.uppers.items c.other.inside.middles.items in
    let new = levels_of c.in_ok-top.top c.copy_lower.new.uppers.items c.copy_lower.new.middles.items in
    let copies : CopiesLevels new other = record {
      top = c.in_ok-top.ensures.copied;
      uppers = subst (Copies c.copy_lower.new.uppers.items) c.deref.ensures.value c.in-Ok.ensures.copied_uppers;
      middles = subst (Copies c.copy_lower.new.middles.items) c.deref-2.ensures.value c.in-Ok.ensures.copied_middles;
    } in
    cells_copied new other c.other.inside.tables c.other.invariant.directory copies ∙ c.other.view_is

pub returns-in-Ok-clause-requests : goal.returns-in-Ok-clause-requests
returns-in-Ok-clause-requests g c =
    let other = levels_of c.other.inside.top c.other.inside.uppers.items c.other.inside.middles.items in
    let lent : replicate (tables_at c.deref.result.now) Upper ++ replicate (tables_at c.deref-2.result.now) Middle ≡ replicate (tables_at other.uppers) Upper ++ replicate (tables_at other.middles) Middle =
    ap (λ l. replicate (tables_at l) Upper ++ replicate (tables_at c.deref-2.result.now) Middle) c.deref.ensures.value
    ∙ ap (λ l. replicate (tables_at other.uppers) Upper ++ replicate (tables_at l) Middle) c.deref-2.ensures.value in
    let wants = ap (λ l. replicate (tables_at (other.top ∷ [])) Top ++ l) lent
    ∙ sym (level_wants other c.other.inside.tables c.other.invariant.directory) ∙ ap (λ m. directory_wants (map.keys m)) c.other.view_is in
    subst (λ l. LeadsAlong g.A.Allot.goes (g.A.Allot.state c.args.allot.now) (granted l) (g.A.Allot.state c.copy_lower.new.allot)) wants
    (grants_more g.A.Allot.goes (replicate (tables_at (other.top ∷ [])) Top) (replicate (tables_at c.deref.result.now) Upper ++ replicate (tables_at c.deref-2.result.now) Middle) _ _ _
    c.in_ok-top.ensures.requests c.in-Ok.ensures.requests)

pub returns-in-Err-clause-requests : goal.returns-in-Err-clause-requests
returns-in-Err-clause-requests g c =
    let other = levels_of c.other.inside.top c.other.inside.uppers.items c.other.inside.middles.items in
    let lent : replicate (tables_at c.deref.result.now) Upper ++ replicate (tables_at c.deref-2.result.now) Middle ≡ replicate (tables_at other.uppers) Upper ++ replicate (tables_at other.middles) Middle =
    ap (λ l. replicate (tables_at l) Upper ++ replicate (tables_at c.deref-2.result.now) Middle) c.deref.ensures.value
    ∙ ap (λ l. replicate (tables_at other.uppers) Upper ++ replicate (tables_at l) Middle) c.deref-2.ensures.value in
    let wants = ap (λ l. replicate (tables_at (other.top ∷ [])) Top ++ l) lent
    ∙ sym (level_wants other c.other.inside.tables c.other.invariant.directory) ∙ ap (λ m. directory_wants (map.keys m)) c.other.view_is in
    subst (λ l. RefusesOne g.A.Allot.goes (g.A.Allot.state c.args.allot.now) l c.in-Err.refused.at (g.A.Allot.state c.give_back.new.allot)) wants
    (refuses_after g.A.Allot.goes (replicate (tables_at (other.top ∷ [])) Top) (replicate (tables_at c.deref.result.now) Upper ++ replicate (tables_at c.deref-2.result.now) Middle)
    c.in-Err.refused.at (tables_at (c.in_ok-top.top ∷ [])) _ _ _ _
    c.in_ok-top.ensures.requests c.in-Err.ensures.requests c.give_back.ensures.given
    (same_counted c.in_ok-top.top other.top c.in_ok-top.ensures.copied ∙ sym (length-replicate (tables_at (other.top ∷ [])) Top)))
