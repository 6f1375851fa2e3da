use Rattle.std.proofs.Common.{◌≡◌, false, not, filter, map, All, subst, sym, ◌∙◌, ap, rules}
use Rattle.std.proofs.lemmas.Fn.{filter_same}
use Rattle.frame_pool.proofs.StandingLemmas.{map-standing, standing_undone}
use Rattle.frame_pool.proofs.turns.drop_done.Goals as goal

pub returns-clause-standing : goal.returns-clause-standing
returns-clause-standing g c =
    let told = g.P.FramePolicy.told in
    let left : c.retain.new.self.items ≡ filter (λ policy. not (told policy).done) c.args.policies.now.items =
    filter_same _ _ _ (λ x b f' k. search rules) _ _ c.retain.ensures.filtered in
    ap (map told) left ∙ map-standing told c.args.policies.now.items

pub returns-clause-undone : goal.returns-clause-undone
returns-clause-undone g c =
    let told = g.P.FramePolicy.told in
    let left : c.retain.new.self.items ≡ filter (λ policy. not (told policy).done) c.args.policies.now.items =
    filter_same _ _ _ (λ x b f' k. search rules) _ _ c.retain.ensures.filtered in
    subst (All (λ policy. (told policy).done ≡ false)) (sym left) (standing_undone told c.args.policies.now.items)
