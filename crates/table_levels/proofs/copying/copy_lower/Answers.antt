-- The level above is given back, where the one below is refused.
use Rattle.std.proofs.Common.{◌∙◌, replicate, sym}
use Rattle.std.proofs.lemmas.List.{length-replicate}
use Rattle.vm_base.specs.declared.frame_request.Want.TheVariants.{Upper, Middle}
use Rattle.table_levels.specs.Walks.{tables_at}
use Rattle.table_levels.proofs.Asking.{refuses_after}
use Rattle.table_levels.proofs.Copied.{grants_more}
use Rattle.table_levels.proofs.copying.copy_lower.Goals as goal

pub returns-in-Ok-clause-requests : goal.returns-in-Ok-clause-requests
returns-in-Ok-clause-requests g c =
    grants_more g.A.Allot.goes (replicate (tables_at c.args.upper_tables.now) Upper) (replicate (tables_at c.args.middle_tables.now) Middle) _ _ _
    c.in_ok-copy_level.ensures.requests c.in-Ok.ensures.requests

pub returns-in-Err-clause-requests : goal.returns-in-Err-clause-requests
returns-in-Err-clause-requests g c =
    refuses_after g.A.Allot.goes (replicate (tables_at c.args.upper_tables.now) Upper) (replicate (tables_at c.args.middle_tables.now) Middle)
    c.in-Err.refused.at (tables_at c.copy_level.new.places.items) _ _ _ _
    c.in_ok-copy_level.ensures.requests c.in-Err.ensures.requests c.give_all.ensures.given
    (c.in_ok-copy_level.ensures.copied.counted ∙ sym (length-replicate (tables_at c.args.upper_tables.now) Upper))
