-- Where dealings of several askers lead a supply.
use Rattle.std.specs.Prelude.{◌≡◌, ℕ, List, [], ◌∷◌}
use Rattle.vm_base.specs.declared.frame_request.Asker.{Asker}
use Rattle.kernel_meaning.specs.Stretches.{Dealing, By}
use Rattle.trace_core.specs.SupplyState.{SupplyState, SupplyGoes}

-- a supply as this asker asks it, behind so many refused requests of its own
abbrev pub as_asker : Asker → ℕ → SupplyState → SupplyState
as_asker asker refused supply = record supply { asker = asker; refused = refused }

-- dealings of several askers lead a supply on: each request and each frame given back goes as the
-- supply has it, whose policies were asked for it
abbrev pub DealtAlong : SupplyState → List Dealing → SupplyState → Type 0
DealtAlong old [] new = as_asker old.asker old.refused new ≡ old
DealtAlong old (By asker deal ∷ dealings) new = (next : SupplyState) × ((before : ℕ) × ((behind : ℕ)
    × (SupplyGoes (as_asker asker before old) deal (as_asker asker behind next)
    × DealtAlong next dealings new)))
