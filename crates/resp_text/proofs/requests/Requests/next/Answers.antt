use Rattle.std.proofs.Common.{refl, sym, subst, option_to_list}
use Rattle.resp_text.specs.Reading.{Reading, WasFed}
use Rattle.resp_text.proofs.Readings.{gives}
use Rattle.resp_text.proofs.requests.Requests.next.Goals as goal

pub returns-clause-pieces : goal.returns-clause-pieces
returns-clause-pieces c fed given was =
    let inside = c.self.inside in
    let old : Reading = record {
      waiting = inside.queue;
      rest = inside.rest.items;
      before = inside.before;
      fault = inside.fault;
    } in
    let new : Reading = record {
      waiting = c.pop.new.self;
      rest = inside.rest.items;
      before = inside.before;
      fault = inside.fault;
    } in
    gives inside.fault old new fed given (option_to_list c.pop.result)
    c.pop.ensures.first refl refl
    (subst (λ (r : Reading). WasFed r fed given) (sym c.self.view_is) was)
