use Rattle.std.proofs.Common.{◌≡◌, ◌*◌, ◌≤◌, ◌∙◌, max, refl, sym, subst}
use Rattle.std.proofs.lemmas.Bool.{false≢true}
use Rattle.vm_base.specs.MemoryState.{MemoryState, IsMemory, IsKept, own_of}
use Rattle.vm_base.specs.MemoryCalls.{touched}
use Rattle.vm_base.proofs.IsKeptOn.{IsKept-on}
use Rattle.store_meaning.specs.Layout.{store_cells}
use Rattle.store_meaning.specs.Standing.{IsStanding}
use Rattle.page_hash.specs.Doubling.{IsDue, AddsArray, LacksArray}
use Rattle.page_hash.proofs.BlockLinks.{may_on}
use Rattle.page_hash.proofs.DoublingDone.{added_may, added_table, relinked_may, doubling_made, doubling_lacks, made_follows, lacks_follows, doubling_stays}
use Rattle.page_hash.proofs.doubling.double.Goals as goal

pub add_array-requires-clause-stands : goal.add_array-requires-clause-stands
add_array-requires-clause-stands g c = subst IsStanding (sym c.arrays_of-arrays.ensures.same) c.requires.stands

pub add_array-requires-clause-due : goal.add_array-requires-clause-due
add_array-requires-clause-due g c =
    let store = c.requires.stands.stands.0 in
    let pairs = c.requires.stands.pairs in (
      store,
      pairs,
      subst (λ (s : MemoryState). IsDue s.mem c.arrays_of-arrays.result store pairs) (sym c.arrays_of-arrays.ensures.same)
          (c.arrays_of-arrays.ensures.due store pairs c.requires.stands.stands.1),
    )

pub relink_all-requires-clause-may : goal.relink_all-requires-clause-may
relink_all-requires-clause-may g c =
    let old = g.M.Memory.state c.args.m.now in
    let added = g.M.Memory.state c.add_array.new.m in
    let arrays = c.arrays_of-arrays.result in
    let store = c.requires.stands.stands.0 in
    let pairs = c.requires.stands.pairs in
    let adds : AddsArray old added arrays =
    subst (λ s. AddsArray s added arrays) c.arrays_of-arrays.ensures.same (c.add_array.ensures.added c.if-add_array.true) in
    let kept : IsKept old added store_cells = subst
    (λ s. IsKept s added store_cells) c.arrays_of-arrays.ensures.same c.add_array.ensures.keeps in
    added_may old added arrays store pairs
    (c.arrays_of-arrays.ensures.due store pairs c.requires.stands.stands.1) c.requires.stands.may kept adds

pub relink_all-requires-clause-table : goal.relink_all-requires-clause-table
relink_all-requires-clause-table g c =
    let old = g.M.Memory.state c.args.m.now in
    let added = g.M.Memory.state c.add_array.new.m in
    let arrays = c.arrays_of-arrays.result in
    let store = c.requires.stands.stands.0 in
    let pairs = c.requires.stands.pairs in
    let adds : AddsArray old added arrays =
    subst (λ s. AddsArray s added arrays) c.arrays_of-arrays.ensures.same (c.add_array.ensures.added c.if-add_array.true) in
    (store.table, added_table old added arrays store pairs (c.arrays_of-arrays.ensures.due store pairs c.requires.stands.stands.1) adds)

pub relink_all-requires-clause-ready : goal.relink_all-requires-clause-ready
relink_all-requires-clause-ready g c = (c.add_array.ensures.added c.if-add_array.true).ready

pub move_to_array-requires-clause-may : goal.move_to_array-requires-clause-may
move_to_array-requires-clause-may g c =
    let old = g.M.Memory.state c.args.m.now in
    let added = g.M.Memory.state c.add_array.new.m in
    let arrays = c.arrays_of-arrays.result in
    let store = c.requires.stands.stands.0 in
    let pairs = c.requires.stands.pairs in
    let adds : AddsArray old added arrays =
    subst (λ s. AddsArray s added arrays) c.arrays_of-arrays.ensures.same (c.add_array.ensures.added c.if-add_array.true) in
    let kept : IsKept old added store_cells = subst
    (λ s. IsKept s added store_cells) c.arrays_of-arrays.ensures.same c.add_array.ensures.keeps in
    may_on added _
    (added_may old added arrays store pairs
    (c.arrays_of-arrays.ensures.due store pairs c.requires.stands.stands.1) c.requires.stands.may kept adds)
    c.relink_all.ensures.keeps

pub move_to_array-requires-clause-due : goal.move_to_array-requires-clause-due
move_to_array-requires-clause-due g c =
    let old = g.M.Memory.state c.args.m.now in
    let added = g.M.Memory.state c.add_array.new.m in
    let arrays = c.arrays_of-arrays.result in
    let store = c.requires.stands.stands.0 in
    let pairs = c.requires.stands.pairs in
    let adds : AddsArray old added arrays =
    subst (λ s. AddsArray s added arrays) c.arrays_of-arrays.ensures.same (c.add_array.ensures.added c.if-add_array.true) in
    relinked_may old added _ arrays store pairs (c.arrays_of-arrays.ensures.due store pairs c.requires.stands.stands.1) adds
    c.relink_all.ensures.keeps

pub returns-then-add_array-clause-doubled : goal.returns-then-add_array-clause-doubled
returns-then-add_array-clause-doubled g c store pairs is always =
    let old = g.M.Memory.state c.args.m.now in
    let added = g.M.Memory.state c.add_array.new.m in
    let arrays = c.arrays_of-arrays.result in
    let adds : AddsArray old added arrays =
    subst (λ s. AddsArray s added arrays) c.arrays_of-arrays.ensures.same (c.add_array.ensures.added c.if-add_array.true) in
    let due = c.arrays_of-arrays.ensures.due store pairs is in
    doubling_made old added (g.M.Memory.state c.relink_all.new.m) (g.M.Memory.state c.move_to_array.new.m) arrays store pairs due adds
    (c.relink_all.ensures.relinks store.table (added_table old added arrays store pairs due adds)) c.relink_all.ensures.keeps
    c.move_to_array.ensures.moves

pub returns-then-add_array-clause-left : goal.returns-then-add_array-clause-left
returns-then-add_array-clause-left g c store pairs is never = absurd (false≢true (sym never))

pub returns-then-add_array-clause-follows : goal.returns-then-add_array-clause-follows
returns-then-add_array-clause-follows g c =
    let old = g.M.Memory.state c.args.m.now in
    let added = g.M.Memory.state c.add_array.new.m in
    let new = g.M.Memory.state c.move_to_array.new.m in
    let arrays = c.arrays_of-arrays.result in
    let adds : AddsArray old added arrays =
    subst (λ s. AddsArray s added arrays) c.arrays_of-arrays.ensures.same (c.add_array.ensures.added c.if-add_array.true) in
    let same_most : new.most ≡ added.most = c.move_to_array.ensures.moves.most ∙ c.relink_all.ensures.keeps.most in
    made_follows old new arrays
    (subst IsMemory c.arrays_of-arrays.ensures.same c.add_array.ensures.keeps.before) c.arrays_of-arrays.ensures.due
    (λ store pairs is. returns-then-add_array-clause-doubled g c store pairs is refl)
    (subst (λ m. m ≤ max old.most (own_of (touched old.mem arrays.new (16 * arrays.buckets)))) (sym same_most) adds.most)

pub returns-then-add_array-clause-keeps : goal.returns-then-add_array-clause-keeps
returns-then-add_array-clause-keeps g c =
    let old = g.M.Memory.state c.args.m.now in
    let new = g.M.Memory.state c.move_to_array.new.m in
    doubling_stays old new c.requires.stands (returns-then-add_array-clause-follows g c)
    (subst (λ s. IsKept s new store_cells) c.arrays_of-arrays.ensures.same
    (IsKept-on _ _ _ store_cells store_cells store_cells c.add_array.ensures.keeps
    (IsKept-on _ _ _ store_cells store_cells store_cells c.relink_all.ensures.keeps.kept c.move_to_array.ensures.keeps (λ cell is. is)
    (λ cell is. is))
    (λ cell is. is) (λ cell is. is)))

pub returns-then-add_array-clause-aside : goal.returns-then-add_array-clause-aside
returns-then-add_array-clause-aside g c = c.move_to_array.ensures.aside ∙ c.relink_all.ensures.aside ∙ c.add_array.ensures.aside
    ∙ c.arrays_of-arrays.ensures.aside

pub returns-then-add_array-clause-went : goal.returns-then-add_array-clause-went
returns-then-add_array-clause-went g c = g.met.M.Memory.went_on _ _ _ c.arrays_of-arrays.ensures.went
    (g.met.M.Memory.went_on _ _ _ c.add_array.ensures.went
    (g.met.M.Memory.went_on _ _ _ c.relink_all.ensures.went c.move_to_array.ensures.went))

pub returns-clause-doubled : goal.returns-clause-doubled
returns-clause-doubled g c store pairs is never = absurd (false≢true never)

pub returns-clause-left : goal.returns-clause-left
returns-clause-left g c store pairs is always =
    let old = g.M.Memory.state c.args.m.now in
    let new = g.M.Memory.state c.add_array.new.m in
    let arrays = c.arrays_of-arrays.result in
    doubling_lacks old new arrays store pairs (c.arrays_of-arrays.ensures.due store pairs is)
    (subst (λ s. LacksArray s new arrays) c.arrays_of-arrays.ensures.same (c.add_array.ensures.lacks c.if-add_array.false))

pub returns-clause-follows : goal.returns-clause-follows
returns-clause-follows g c =
    let old = g.M.Memory.state c.args.m.now in
    let new = g.M.Memory.state c.add_array.new.m in
    let arrays = c.arrays_of-arrays.result in
    lacks_follows old new arrays
    (subst IsMemory c.arrays_of-arrays.ensures.same c.add_array.ensures.keeps.before) c.arrays_of-arrays.ensures.due
    (subst (λ s. LacksArray s new arrays) c.arrays_of-arrays.ensures.same (c.add_array.ensures.lacks c.if-add_array.false))

pub returns-clause-keeps : goal.returns-clause-keeps
returns-clause-keeps g c =
    let old = g.M.Memory.state c.args.m.now in
    let new = g.M.Memory.state c.add_array.new.m in
    doubling_stays old new c.requires.stands (returns-clause-follows g c)
    (subst (λ s. IsKept s new store_cells) c.arrays_of-arrays.ensures.same c.add_array.ensures.keeps)

pub returns-clause-went : goal.returns-clause-went
returns-clause-went g c = g.met.M.Memory.went_on _ _ _ c.arrays_of-arrays.ensures.went c.add_array.ensures.went
