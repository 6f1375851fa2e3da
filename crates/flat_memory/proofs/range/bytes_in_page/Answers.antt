-- A range within a page is a part of its bytes, or zeros where it is absent.
use Rattle.std.proofs.Common.{◌≡◌, ◌-◌, ◌+◌, ◌%◌, Some, None, List, ℕ, sym, ◌∙◌, ap, take, drop, length, arith}
use Rattle.std.specs.FinMap.{get}
use Rattle.std.specs.Option.{option_copied}
use Rattle.vm_base.specs.Places.{page_of}
use Rattle.vm_base.proofs.FlatBytes.{bytes_at-present, bytes_at-absent}
use Rattle.flat_memory.proofs.range.bytes_in_page.Goals as goal

pub returns-in-Some-clause-bytes : goal.returns-in-Some-clause-bytes
returns-in-Some-clause-bytes c =
    let page : List ℕ = c.in-Some.page.now in
    let found : get c.args.pages.now.present (page_of c.args.addr) ≡ Some page = sym c.get.ensures ∙ ap option_copied c.in-Some.is in
    let whole : length page ≡ 4096 = sym (ap length c.bytes.ensures.value) ∙ c.bytes.ensures.size in
    let len_is : c.args.addr % 4096 + c.args.len - c.args.addr % 4096 ≡ c.args.len = omega arith in
    ap (λ n. take n (drop (c.args.addr % 4096) c.bytes.result.now)) len_is
    ∙ ap (λ bytes. take c.args.len (drop (c.args.addr % 4096) bytes)) c.bytes.ensures.value
    ∙ sym (bytes_at-present c.args.pages.now.present c.args.addr c.args.len page found whole c.requires)

pub returns-in-None-clause-bytes : goal.returns-in-None-clause-bytes
returns-in-None-clause-bytes c =
    let absent : get c.args.pages.now.present (page_of c.args.addr) ≡ None = sym c.get.ensures ∙ ap option_copied c.in-None.is in
    c.zeros.ensures ∙ sym (bytes_at-absent c.args.pages.now.present c.args.addr c.args.len absent c.requires)
