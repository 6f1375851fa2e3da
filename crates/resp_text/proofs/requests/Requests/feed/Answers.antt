use Rattle.std.proofs.Common.{◌+◌, refl, sym, ap, subst, ◌∙◌, None, Some, Option, Ok, Err, ◌≡◌}
use Rattle.resp_text.specs.Reading.{Reading, StandsForBytes, HasTaken}
use Rattle.resp_text.specs.declared.fault.FeedFault.{FeedFault}
use Rattle.resp_text.specs.declared.fault.FeedFault.TheVariants.{Protocol}
use Rattle.resp_text.proofs.Feeds.{Follows, stands_for, stands_for_all, breaks_at}
use Rattle.resp_text.proofs.Readings.{feeds_broken, feeds_on}
use Rattle.resp_text.proofs.requests.Requests.feed.Goals as goal

pub returns-in-None-clause-fed : goal.returns-in-None-clause-fed
returns-in-None-clause-fed c taken given sound stands =
    let inside = c.self.inside in
    let old : Reading = record {
      waiting = inside.queue;
      rest = inside.rest.items;
      before =
          inside.before;
      fault = inside.fault;
    } in
    let new : Reading = record {
      waiting = c.read_piece.new.queue;
      rest =
          c.read_piece.new.rest.items;
      before = inside.before + c.in-Ok.reached.whole;
      fault =
          inside.fault;
    } in
    let follows : Follows old new c.args.piece.now c.in-Ok.reached = record {
      reads =
          c.in-Ok.ensures.read;
      rest = c.in-Ok.ensures.kept;
      before = refl;
    } in (
      stands_for_all old new taken c.args.piece.now given c.in-Ok.reached c.in-None.is follows
          (subst (λ (r : Reading). StandsForBytes r taken given) (sym c.self.view_is) stands),
      ap (λ (r : Reading). r.fault) c.self.view_is ∙ sound,
    )

pub returns-in-Some-kind-clause-fed : goal.returns-in-Some-kind-clause-fed
returns-in-Some-kind-clause-fed c taken given sound stands =
    let inside = c.self.inside in
    let place = inside.before + c.in-Ok.reached.end in
    let old : Reading = record {
      waiting = inside.queue;
      rest = inside.rest.items;
      before =
          inside.before;
      fault = inside.fault;
    } in
    let new : Reading = record {
      waiting = c.read_piece.new.queue;
      rest =
          c.read_piece.new.rest.items;
      before = inside.before + c.in-Ok.reached.whole;
      fault = Some
          (Protocol place c.in-Some-kind.kind);
    } in
    let follows : Follows old new c.args.piece.now c.in-Ok.reached = record {
      reads =
          c.in-Ok.ensures.read;
      rest = c.in-Ok.ensures.kept;
      before = refl;
    } in
    let before = subst (λ (r : Reading). StandsForBytes r taken given) (sym c.self.view_is) stands in (
      breaks_at old new taken c.args.piece.now given c.in-Ok.reached c.in-Some-kind.kind
          c.in-Some-kind.is follows before,
      stands_for old new taken c.args.piece.now given c.in-Ok.reached follows before,
      refl,
    )

pub returns-in-Some-clause-pieces : goal.returns-in-Some-clause-pieces
returns-in-Some-clause-pieces c fed given was =
    let broken : c.args.self.now.fault ≡ Some c.in-Some.fault =
    sym (ap (λ (r : Reading). r.fault) c.self.view_is) ∙ c.in-Some.is in
    feeds_broken c.args.self.now fed c.args.piece.now given c.in-Some.fault broken was

pub returns-in-None-clause-pieces : goal.returns-in-None-clause-pieces
returns-in-None-clause-pieces c fed given was =
    let none : c.args.self.now.fault ≡ None =
    sym (ap (λ (r : Reading). r.fault) c.self.view_is) ∙ c.in_default.is in
    let new : Reading = record {
      waiting = c.read_piece.new.queue;
      rest = c.read_piece.new.rest.items;
      before = c.self.inside.before + c.in-Ok.reached.whole;
      fault = c.self.inside.fault;
    } in
    feeds_on c.args.self.now new fed c.args.piece.now given (Ok tt)
    (returns-in-None-clause-fed c fed given none
    (subst (λ (f : Option FeedFault). HasTaken f c.args.self.now fed given) none was))

pub returns-in-Some-kind-clause-pieces : goal.returns-in-Some-kind-clause-pieces
returns-in-Some-kind-clause-pieces c fed given was =
    let none : c.args.self.now.fault ≡ None =
    sym (ap (λ (r : Reading). r.fault) c.self.view_is) ∙ c.in_default.is in
    let fault : FeedFault = Protocol (c.self.inside.before + c.in-Ok.reached.end)
    c.in-Some-kind.kind in
    let new : Reading = record {
      waiting = c.read_piece.new.queue;
      rest = c.read_piece.new.rest.items;
      before = c.self.inside.before + c.in-Ok.reached.whole;
      fault = Some fault;
    } in
    feeds_on c.args.self.now new fed c.args.piece.now given (Err fault)
    (returns-in-Some-kind-clause-fed c fed given none
    (subst (λ (f : Option FeedFault). HasTaken f c.args.self.now fed given) none was))
