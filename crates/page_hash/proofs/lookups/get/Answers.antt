use Rattle.std.proofs.Common.{◌≤◌, ℕ, Some, length, sym, ◌∙◌, ap, arith}
use Rattle.std.specs.Option.{option_map}
use Rattle.std.specs.FinMap.{get}
use Rattle.std.proofs.lemmas.List.{length-take-le}
use Rattle.page_hash.specs.Lookups.{filled_by}
use Rattle.page_hash.proofs.Filled.{none_for, some_for, filled}
use Rattle.page_hash.proofs.lookups.get.Goals as goal

pub returns-in_err-found-clause-length : goal.returns-in_err-found-clause-length
returns-in_err-found-clause-length g c of stands =
    c.from_residual.ensures
    ∙ ap (option_map (length {A = ℕ})) (sym (none_for (g.M.Memory.state c.find.new.m).mem (get of c.args.key.now)
    (c.in_err-found.ensures.found of stands)))

pub returns-in_err-found-clause-bytes : goal.returns-in_err-found-clause-bytes
returns-in_err-found-clause-bytes g c of stands =
    ap (filled_by c.args.buf.now) (sym (none_for (g.M.Memory.state c.find.new.m).mem (get of c.args.key.now)
    (c.in_err-found.ensures.found of stands)))

pub slice_bounds-value-end-2 : goal.slice_bounds-value-end-2
slice_bounds-value-end-2 g c = sym (length-take-le c.min-kept.result c.args.buf.now (omega (arith, c.min-kept.ensures)))

pub value-requires-clause-within : goal.value-requires-clause-within
value-requires-clause-within g c =
    let few : c.min-kept.result ≤ length c.args.buf.now = omega (arith, c.min-kept.ensures) in
    let long = length-take-le c.min-kept.result c.args.buf.now few in
    (c.in_ok-found.ensures.within.0, omega (arith, long, c.min-kept.ensures, c.in_ok-found.ensures.within.1))

pub returns-clause-length : goal.returns-clause-length
returns-clause-length g c of stands =
    let told = some_for (g.M.Memory.state c.find.new.m).mem c.in_ok-found.found (get of c.args.key.now)
    (c.in_ok-found.ensures.found of stands) in
    ap (λ (n : ℕ). Some n) told.1.1 ∙ ap (option_map (length {A = ℕ})) (sym told.1.0)

pub returns-clause-bytes : goal.returns-clause-bytes
returns-clause-bytes g c of stands =
    let mem = (g.M.Memory.state c.find.new.m).mem in
    let told = some_for mem c.in_ok-found.found (get of c.args.key.now) (c.in_ok-found.ensures.found of stands) in
    filled mem c.in_ok-found.found.addr c.in_ok-found.found.length c.min-kept.result c.args.buf.now c.value.new.buf told.0 told.1.1
    told.1.2 c.min-kept.ensures c.value.ensures.bytes
    ∙ ap (filled_by c.args.buf.now) (sym told.1.0)

pub returns-clause-went : goal.returns-clause-went
returns-clause-went g c = g.met.M.Memory.went_on _ _ _ c.find.ensures.went c.value.ensures.went
