-- The snapshot behind the loan is taken out and put back with a value that the relation allows: its
-- bytes are none, and what it owns does not depend on its value. The code only returns.
use mathlib.Core.Path.{refl}
use mathlib.Core.List.{[], ◌∷◌}
use mir.Syntax.{a_type, dcons, dnil, named}
use mir.MapTy.{inst_fn}
use mir.Val.{vunit}
use base.Fml.{Fml, ftrue, fsep, flft}
use contract.Monad.{fact}
use types.Kit.{‵, raw, ◌⊛◌, ◌$◌, ◌∵◌, !, qed, move, keep, split, join, fsplit, fsplit3, feq_i, frame, group, suffices, done}
use types.Run.{of_opd, unit_lit, returns, enter}
use types.ByLocal.{alloc_all, pass_all, free_all, look_at, sets}
use denote.Exit.{yes}
use denote.Builtin.{RefOf}
use denote.Param.{bounded}
use denote.Ref.{mut_vals, mut_Tells, shr_vals, shr_Tells}
use denote.RattleType.{Valss, owns}
use denote.Signature.{plain, types_at}
use denote.Steps.{nothing, heard, opens, closes}
use denote.Triple.Walked.{says, Stays, stay_ref, stay_dropped, walk_of, Goes-ref, Goes-dropped, ends_at}
use Rattle.std.proofs.raw_atomic.Walks.{proved}
use Rattle.std.specs.declared.snapshot.Snapshot.{Snapshot}
use Rattle.std.specs.contracts.snapshot.Snapshot.{the_row}
use Rattle.noted_value.specs.contracts.choice.choose as f
use Rattle.noted_value.proofs.choice.choose.Statement.{statement}
use Rattle.noted_value.proofs.choice.choose.Code as code

pub choose_spec : {M : Type 1} → statement M
choose_spec 𝓤 𝓛 𝓜 𝓡 wired C V laws value_laws members table met =
    let T = f.ended C V members table in
    let R = the_row (f.C-Value-row C V) in
    let c = f.clauses C V members table 𝓛 𝓜.mem 𝓡.returns in
    let stayed : Stays T.signature.params T.kept = (stay_ref (0 ∷ []) tt (plain (λ _. R)), (stay_dropped _ yes, tt)) in
    let W = walk_of 𝓛 T stayed c in
    let types = bounded (a_type ∷ a_type ∷ []) (C, (V, tt)) (dcons table dnil) in
    proved 𝓛 T stayed c 𝓜 𝓡
    (Goes-ref 𝓛 4 0 tt (plain (λ _. R)), (Goes-dropped 𝓛 4 (RefOf (1 ∷ []) tt (plain (λ _. f.C-row C V)) (λ _. tt)) yes (λ κs x w. refl), tt))
    (f.Key.name types) (inst_fn types code.function) (code.unfolded 𝓤 𝓛.H 𝓜 𝓡 wired (C, (V, tt)) table)
    (λ κs. (mut_vals, (shr_vals, tt))) (λ κs. (mut_Tells (named 0) κs.0 R, (shr_Tells (named 1) κs.1.0 (f.C-row C V), tt)))
    (λ κs qs bounds a n are.
    let b = a.0.ref_ptr.0 in let o = a.0.ref_ptr.1 in
    let vss : Valss (types_at T.signature.params κs) = (mut_vals a.0, (shr_vals a.1.0, tt)) in
    let y : W.Ghost = ((κs, qs, bounds, a, vss), tt) in
    let others : Fml = fsep (flft κs.1.0 qs.1.0) (fsep (flft κs.1.1.0 qs.1.1.0) (fsep (flft κs.1.1.1.0 qs.1.1.1.0) ftrue)) in
    let Possible : Type 0 = (value : V.Denot) × members.holds a.0.now.value a.1.0.now value in
    qed 𝓛 (((‵ (flft κs.0 qs.0) ⊛ ‵ others) ⊛ ‵ (owns (types_at T.signature.params κs) a vss)) ∷ raw (fact 𝓤 _) ∷ raw (fact 𝓤 _) ∷ raw (fact 𝓤 Possible) ∷ []) ∵
    move ! (3 ∷ []) $ heard ! _ (λ possible.
    let next : Snapshot V.Denot = record { marker = a.0.now.marker; value = possible.0 } in
    split ! $ split ! $ move ! (2 ∷ []) $ fsplit ! $ keep ! (0 ∷ 2 ∷ 3 ∷ []) $
    enter ! _ _ _ _ _ $ alloc_all ! (λ l. pass_all ! refl ((tt, tt), ((tt, tt), tt)) $
    -- [what says where the snapshot is; its value; the borrow; the token; the other tokens]
    fsplit3 ! $ move ! (1 ∷ 2 ∷ 3 ∷ []) $ opens ! tt R b o (λ us. closes ! tt R next us b o $
    sets ! (of_opd ! (unit_lit !)) refl (tt, tt) $
    returns ! (look_at ! 0 refl) $ free_all ! refl $ move ! (3 ∷ 0 ∷ 1 ∷ []) $ group ! 3 $
    suffices ! _ (ends_at 𝓛 T stayed c y vunit tt (next, (tt, tt)) (tt, (tt, tt))) $ says ! possible.1 $
    nothing ! $ nothing ! $ join ! $ move ! (1 ∷ 0 ∷ []) $ join ! $ move ! (1 ∷ 2 ∷ []) $ join ! $ frame ! $ frame ! $
    feq_i ! _ (vunit ∷ []) _ refl $ done !))))
