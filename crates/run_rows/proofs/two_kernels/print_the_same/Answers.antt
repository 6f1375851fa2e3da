-- No fork was made before the one that comes.
use Rattle.std.proofs.Common.{refl, arith}
use Rattle.vm_base.specs.declared.permission.Perm.TheVariants.{ReadWrite}
use Rattle.run_rows.proofs.PlainForks.{forks_behind}
use Rattle.run_rows.proofs.two_kernels.print_the_same.Goals as goal

pub is_answered_alike-requires-2 : goal.is_answered_alike-requires-2
is_answered_alike-requires-2 c =
    let free = forks_behind c.in_ok-plain.plain c.is_answered_alike.new.plain c.are_answered_alike.new.plain 0 8 ReadWrite
    c.in_ok-plain.ensures c.in_ok-mapped.ensures.world c.in_ok-before.ensures.kept in
    record {
      served = (refl, free.0, free.1);
      numbered = omega (arith, c.in_ok-before.ensures.last, c.in_ok-mapped.ensures.last, c.in_ok-framed.ensures.stands.last);
    }
