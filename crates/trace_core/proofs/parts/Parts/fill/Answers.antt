use Rattle.std.proofs.Common.{◌≡◌, length, ◌∙◌, ap, subst}
use Rattle.std.proofs.lemmas.List.{length-replicate}
use Rattle.trace_core.specs.Writing.{WritesAfterWrite}
use Rattle.trace_core.proofs.runs.RunSteps.{written-alike}
use Rattle.trace_core.proofs.parts.Parts.fill.Goals as goal

pub returns-clause-ran : goal.returns-clause-ran
returns-clause-ran g c =
    written-alike _ _ c.args.addr c.deref.result.now _ c.write.result (c.deref.ensures.value ∙ c.in_ok-bytes.ensures.items_if_clones_equal (λ y same. same)) c.write.ensures.ran

pub returns-clause-writable : goal.returns-clause-writable
returns-clause-writable g c =
    let size : length c.deref.result.now ≡ c.args.len = ap length (c.deref.ensures.value ∙ c.in_ok-bytes.ensures.items_if_clones_equal (λ y same. same)) ∙ length-replicate c.args.len c.args.byte in
    subst (λ n. WritesAfterWrite c.args.addr n c.write.result c.args.self.now.tables c.write.new.self.tables) size c.write.ensures.writable
