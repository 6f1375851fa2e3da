use Rattle.std.proofs.Common.{◌++◌, List, [], ℕ, take, Result, Ok, Err, OnErr, refl, ap, sym, subst, ◌∙◌}
use Rattle.std.proofs.lemmas.List.{append-nil}
use Rattle.resp_text.specs.Breaks.{IsPartBehind}
use Rattle.resp_text.specs.Pieces.{StandsBehind, BeginsBytes}
use Rattle.resp_text.proofs.PieceLaws.{stands_on, breaks_on}
use Rattle.resp_text.proofs.requests.end_item.Goals as goal

-- a fact holds at an error too
on_err : {X E : Type 0} (r : Result X E) (P : Type 0) → P → OnErr r P
on_err (Ok x) P h = tt
on_err (Err e) P h = h

pub returns-in_ok-extend_from_slice-in-Broken-clause-ended :
    goal.returns-in_ok-extend_from_slice-in-Broken-clause-ended
returns-in_ok-extend_from_slice-in-Broken-clause-ended c =
    let is = c.in_ok-extend_from_slice-in-Broken.ensures.items
    ∙ ap (λ (t : List ℕ). c.args.rest.now.items ++ t) c.split_at-in-Broken.ensures.front in
    let stands = stands_on c.args.scan c.in-Broken.scan c.args.rest.now.items
    (take c.in-Broken.at c.args.piece.now) c.requires c.in-Broken.ensures.1
    c.in-Broken.ensures.2 c.in-Broken.ensures.4 in (
      refl,
      c.in-Broken.ensures.0,
      is,
      subst (StandsBehind c.in-Broken.scan) (sym is) stands,
      breaks_on c.args.scan c.args.rest.now.items _ c.requires c.in-Broken.ensures.3,
      subst (λ (t : List ℕ). IsPartBehind t c.in-Broken.kind) (sym is)
          (c.in-Broken.ensures.5 _ stands.read),
    )

pub returns-in_err-extend_from_slice-in-Broken-clause-no_memory_rest :
    goal.returns-in_err-extend_from_slice-in-Broken-clause-no_memory_rest
returns-in_err-extend_from_slice-in-Broken-clause-no_memory_rest c =
    on_err _ (BeginsBytes c.args.rest.now.items
    c.extend_from_slice-in-Broken.new.self.items) ([], c.in_err-extend_from_slice-in-Broken.ensures.items ∙ sym (append-nil _))
