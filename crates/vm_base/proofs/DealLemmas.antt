-- Deals of an allot that follow one another.
use Rattle.std.proofs.Common.{List, [], ◌∷◌, ◌++◌, refl, subst}
use Rattle.vm_base.specs.Deals.{Deal, LeadsAlong}

-- no deal leads from a state to itself
pub no_deal_leads : {State : Type 0} (goes : State → Deal → State → Type 0) (state : State) → LeadsAlong goes state [] state
no_deal_leads goes state = refl

-- deals go on with deals that begin where they ended
pub LeadsAlong-append : {State : Type 0} (goes : State → Deal → State → Type 0) (first : List Deal) (second : List Deal) (old middle new : State)
    → LeadsAlong goes old first middle → LeadsAlong goes middle second new → LeadsAlong goes old (first ++ second) new
LeadsAlong-append goes [] second old middle new before after =
    subst (λ start. LeadsAlong goes start second new) before after
LeadsAlong-append goes (deal ∷ deals) second old middle new before after =
    (before.0, (before.1.0, LeadsAlong-append goes deals second before.0 middle new before.1.1 after))

-- deals go on by one more
pub LeadsAlong-push : {State : Type 0} (goes : State → Deal → State → Type 0) (deals : List Deal) (deal : Deal) (old middle new : State)
    → LeadsAlong goes old deals middle → goes middle deal new → LeadsAlong goes old (deals ++ deal ∷ []) new
LeadsAlong-push goes deals deal old middle new before next =
    LeadsAlong-append goes deals (deal ∷ []) old middle new before (new, (next, refl))

-- one deal is a list of one
pub one_deal_leads : {State : Type 0} (goes : State → Deal → State → Type 0) (deal : Deal) (old new : State)
    → goes old deal new → LeadsAlong goes old (deal ∷ []) new
one_deal_leads goes deal old new next = (new, (next, refl))
