-- There is room for the pages.
use Rattle.std.proofs.Common.{◌≡◌, ◌+◌, sym, ◌∙◌, ap, arith, length, vec_len}
use Rattle.std.specs.FinMap.{len as count}
use Rattle.flat_memory.proofs.PageLemmas.{len-map}
use Rattle.flat_memory.proofs.pages.Pages.copy_from.Goals as goal

pub copy_into-requires-clause-ready : goal.copy_into-requires-clause-ready
copy_into-requires-clause-ready c =
    let size : count c.args.pages.now.present ≡ length c.pages.inside.entries.items =
    ap (λ t. count t.present) (sym c.pages.view_is) ∙ len-map c.pages.inside.entries.items c.pages.invariant.0 in
    let room : vec_len c.self.inside.entries + vec_len c.self.inside.spare ≡ c.args.self.now.room = ap (λ t. t.room) c.self.view_is in
    omega (arith, size, room, c.requires, ap length c.deref.ensures.value, c.give_back.ensures.all, ap length c.give_back.ensures.entries)

pub copy_into-requires-clause-room : goal.copy_into-requires-clause-room
copy_into-requires-clause-room c =
    let size : count c.args.pages.now.present ≡ length c.pages.inside.entries.items =
    ap (λ t. count t.present) (sym c.pages.view_is) ∙ len-map c.pages.inside.entries.items c.pages.invariant.0 in
    let room : vec_len c.self.inside.entries + vec_len c.self.inside.spare ≡ c.args.self.now.room = ap (λ t. t.room) c.self.view_is in
    omega (arith, size, room, c.requires, ap length c.deref.ensures.value, c.give_back.ensures.room, c.self.invariant.1)
