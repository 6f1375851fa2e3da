use Rattle.std.proofs.Common.{◌≡◌, ◌+◌, Some, None, length, sym, subst, arith}
use Rattle.std.specs.FinMap.{get}
use Rattle.page_hash.specs.Lookups.{FoundFor}
use Rattle.page_hash.proofs.WalkLemmas.{searched, found_block, found_none}
use Rattle.page_hash.proofs.lookups.find.Goals as goal

pub returns-in_err-block-clause-found : goal.returns-in_err-block-clause-found
returns-in_err-block-clause-found g c of stands =
    let mem = (g.M.Memory.state c.args.m.now).mem in
    let key = c.args.key.now in
    let store = stands.0 in
    let none : get of key ≡ None =
    found_none mem store of key stands.1
    (searched mem store key c.locate.result None (c.locate.ensures.search store of stands.1) c.in_err-block.was) in
    subst (λ r. FoundFor (g.M.Memory.state c.locate.new.m).mem r (get of key)) (sym c.from_residual.ensures)
    (subst (FoundFor (g.M.Memory.state c.locate.new.m).mem None) (sym none) tt)

pub overflow_add-result : goal.overflow_add-result
overflow_add-result g c =
    let mem = (g.M.Memory.state c.args.m.now).mem in
    let store = c.requires.stands.stands.0 in
    let of = c.requires.stands.pairs in
    let is = c.requires.stands.stands.1 in
    let told = found_block mem store of c.args.key.now c.in_ok-block.block is
    (searched mem store c.args.key.now c.locate.result _ (c.locate.ensures.search store of is) c.in_ok-block.was) in
    record { fits = omega (arith, told.within.1) }

pub overflow_add-result-2 : goal.overflow_add-result-2
overflow_add-result-2 g c =
    let mem = (g.M.Memory.state c.args.m.now).mem in
    let store = c.requires.stands.stands.0 in
    let of = c.requires.stands.pairs in
    let is = c.requires.stands.stands.1 in
    let told = found_block mem store of c.args.key.now c.in_ok-block.block is
    (searched mem store c.args.key.now c.locate.result _ (c.locate.ensures.search store of is) c.in_ok-block.was) in
    record { fits = omega (arith, told.within.1) }

pub returns-clause-found : goal.returns-clause-found
returns-clause-found g c of stands =
    let mem = (g.M.Memory.state c.args.m.now).mem in
    let store = stands.0 in
    let told = found_block mem store of c.args.key.now c.in_ok-block.block stands.1
    (searched mem store c.args.key.now c.locate.result _ (c.locate.ensures.search store of stands.1) c.in_ok-block.was) in
    let block = c.in_ok-block.block in
    subst (λ s. FoundFor s.mem (Some (record { addr = block.at + 16 + length c.args.key.now; length = block.length }))
    (get of c.args.key.now))
    (sym c.locate.ensures.same) told.found

pub returns-clause-within : goal.returns-clause-within
returns-clause-within g c =
    let mem = (g.M.Memory.state c.args.m.now).mem in
    let store = c.requires.stands.stands.0 in
    let of = c.requires.stands.pairs in
    let is = c.requires.stands.stands.1 in
    let told = found_block mem store of c.args.key.now c.in_ok-block.block is
    (searched mem store c.args.key.now c.locate.result _ (c.locate.ensures.search store of is) c.in_ok-block.was) in
    (omega (arith, told.within.0), told.within.1)
