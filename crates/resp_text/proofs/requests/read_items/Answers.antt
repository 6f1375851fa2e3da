use Rattle.std.proofs.Common.{◌≡◌, ◌≤◌, ◌+◌, ℕ, List, [], length, take, refl, ap, subst, ◌∙◌, arith, Some}
use Rattle.resp_text.specs.Fronts.{TakesFront}
use Rattle.resp_text.proofs.PieceLaws.{came_more, reads_open, reads_broken}
use Rattle.std.proofs.lemmas.List.{length-drop}
use Rattle.resp_text.proofs.requests.read_items.Goals as goal

pub items-preserved : goal.items-preserved
items-preserved c =
    let same : c.push_front_of.new.self ≡ c.items.queue = subst (TakesFront c.items.queue
    c.push_front_of.new.self c.split_at.result.1.now) c.in_default.is c.in_ok-taken.ensures.added in
    let read = c.items.invariant.read in
    let fits : c.items.whole + c.in-End.taken ≤ length c.args.bytes.now = omega (
      arith,
      c.in-End.ensures.1,
      ap length c.split_at.ensures.back,
      length-drop c.items.whole
          c.args.bytes.now,
      c.items.invariant.within,
    ) in
    record {
      within = fits;
      read = came_more _ _ _ c.args.bytes.now c.split_at-in-End.result.0.now c.items.whole
          c.in-End.taken fits (c.split_at-in-End.ensures.front
          ∙ ap (take c.in-End.taken) c.split_at.ensures.back) (read.0, read.1, same ∙ read.2)
          c.in_ok-push_item-in-End.ensures.added;
    }

pub returns-in-Open-clause-read : goal.returns-in-Open-clause-read
returns-in-Open-clause-read c =
    let same : c.push_front_of.new.self ≡ c.items.queue = subst (TakesFront c.items.queue
    c.push_front_of.new.self c.split_at.result.1.now) c.in_default.is c.in_ok-taken.ensures.added in
    let read = c.items.invariant.read in
    reads_open _ _ c.args.bytes.now c.split_at.result.1.now c.in-Open.scan c.items.whole
    c.items.invariant.within c.split_at.ensures.back (read.0, read.1, same ∙ read.2)
    (record {
      sound = c.in-Open.ensures.0;
      leads = c.in-Open.ensures.1;
      read = c.in-Open.ensures.2 [] refl;
    })

pub returns-in-Broken-clause-read : goal.returns-in-Broken-clause-read
returns-in-Broken-clause-read c =
    let same : c.push_front_of.new.self ≡ c.items.queue = subst (TakesFront c.items.queue
    c.push_front_of.new.self c.split_at.result.1.now) c.in_default.is c.in_ok-taken.ensures.added in
    let read = c.items.invariant.read in
    let rest = c.in-Broken.ensures.4 [] refl in
    reads_broken _ _ c.args.bytes.now c.split_at.result.1.now c.in-Broken.scan c.in-Broken.kind
    c.items.whole c.in-Broken.at c.items.invariant.within c.split_at.ensures.back
    (read.0, read.1, same ∙ read.2)
    c.in-Broken.ensures.0
    (record { sound = c.in-Broken.ensures.1; leads = c.in-Broken.ensures.2; read = rest })
    c.in-Broken.ensures.3 (c.in-Broken.ensures.5 _ rest)

pub items-preserved-in-Some : goal.items-preserved-in-Some
items-preserved-in-Some c =
    let taken = c.in-Some.taken in
    let behind = c.split_at.result.1.now in
    let takes : TakesFront c.items.queue c.push_front_of.new.self behind (Some taken) = subst
    (TakesFront c.items.queue c.push_front_of.new.self behind) c.in-Some.is
    c.in_ok-taken.ensures.added in
    let words : List (List ℕ) = takes.2.0 in
    let fits : c.items.whole + taken ≤ length c.args.bytes.now = omega (
      arith,
      takes.1,
      ap length c.split_at.ensures.back,
      length-drop c.items.whole c.args.bytes.now,
      c.items.invariant.within,
    ) in
    record {
      within = fits;
      read = came_more _ c.items.queue c.push_front_of.new.self c.args.bytes.now (take taken behind)
          c.items.whole taken fits (ap (take taken) c.split_at.ensures.back)
          c.items.invariant.read (Some words, takes.2.1, takes.2.2);
    }
