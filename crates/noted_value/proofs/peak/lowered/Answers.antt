use Rattle.std.proofs.Common.{◌-◌, arith}
use Rattle.noted_value.proofs.peak.lowered.Goals as goal

pub chosen-requires : goal.chosen-requires
chosen-requires c = (c.args.from.value - c.args.by, omega (c.requires, arith))
