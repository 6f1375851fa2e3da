use Rattle.std.proofs.Common.{◌≡◌, ◌+◌, ℕ, List, ◌++◌, length, take, drop, subst, sym, ap, ◌∙◌, arith}
use Rattle.std.proofs.Math.Seq.{take-append-add}
use Rattle.resp_text.specs.Breaks.{IsPartBehind}
use Rattle.resp_text.specs.Pieces.{StandsBehind, Reads, EndsItem}
use Rattle.resp_text.specs.declared.scan.Outcome.{Outcome}
use Rattle.resp_text.proofs.PieceLaws.{ItemCame, reads_open_first, reads_broken_first, reads_behind_item, rest_after}
use Rattle.resp_text.proofs.requests.read_piece.Goals as goal

pub returns-in-Open-clause-read : goal.returns-in-Open-clause-read
returns-in-Open-clause-read c =
    let e = subst (λ (o : Outcome). EndsItem c.args.queue.now c.end_item.new.queue
    c.args.rest.now.items c.end_item.new.rest.items c.args.piece.now o) c.in-Open.is
    c.in_ok-scan.ensures.ended in
    reads_open_first _ _ c.args.rest.now.items c.args.piece.now c.in-Open.scan _ e.0 (omega
    (arith, c.len-had.ensures, c.args.rest.now.ok.0)) (subst (StandsBehind c.in-Open.scan) e.1 e.2)

pub returns-in-Broken-clause-read : goal.returns-in-Broken-clause-read
returns-in-Broken-clause-read c =
    let e = subst (λ (o : Outcome). EndsItem c.args.queue.now c.end_item.new.queue
    c.args.rest.now.items c.end_item.new.rest.items c.args.piece.now o) c.in-Broken.is
    c.in_ok-scan.ensures.ended in
    reads_broken_first _ _ c.args.rest.now.items c.args.piece.now c.in-Broken.scan c.in-Broken.kind
    c.in-Broken.at _ e.0 (omega (arith, c.len-had.ensures, c.args.rest.now.ok.0)) e.1 (subst
    (StandsBehind c.in-Broken.scan) e.2 e.3) e.4
    (subst (λ (t : List ℕ). IsPartBehind t c.in-Broken.kind) e.2 e.5)

pub returns-in-Broken-clause-kept : goal.returns-in-Broken-clause-kept
returns-in-Broken-clause-kept c =
    let e = subst (λ (o : Outcome). EndsItem c.args.queue.now c.end_item.new.queue
    c.args.rest.now.items c.end_item.new.rest.items c.args.piece.now o) c.in-Broken.is
    c.in_ok-scan.ensures.ended in
    let had : length c.args.rest.now.items ≡ c.len-had.result = omega
    (arith, c.len-had.ensures, c.args.rest.now.ok.0) in
    e.2 ∙ sym (take-append-add c.args.rest.now.items c.args.piece.now c.in-Broken.at)
    ∙ ap (λ (n : ℕ). take (n + c.in-Broken.at) (c.args.rest.now.items ++ c.args.piece.now)) had

pub returns-in_ok-keep_between-in-End-clause-read :
    goal.returns-in_ok-keep_between-in-End-clause-read
returns-in_ok-keep_between-in-End-clause-read c =
    let e = subst (λ (o : Outcome). EndsItem c.args.queue.now c.end_item.new.queue
    c.args.rest.now.items c.end_item.new.rest.items c.args.piece.now o) c.in-End.is
    c.in_ok-scan.ensures.ended in
    reads_behind_item c.args.queue.now c.end_item.new.queue _ c.args.rest.now.items
    c.args.piece.now c.in-End.taken (c.len-had.result + c.in-End.taken)
    c.in_ok-reached-in-End.reached e.0 (omega (arith, c.len-had.ensures, c.args.rest.now.ok.0))
    (subst (ItemCame c.args.queue.now c.end_item.new.queue) e.1 e.2)
    (subst (λ (behind : List ℕ). Reads c.end_item.new.queue c.read_items.new.queue
    behind c.in_ok-reached-in-End.reached) c.split_at.ensures.back
    c.in_ok-reached-in-End.ensures.read)

pub returns-in_ok-keep_between-in-End-clause-kept :
    goal.returns-in_ok-keep_between-in-End-clause-kept
returns-in_ok-keep_between-in-End-clause-kept c =
    let e = subst (λ (o : Outcome). EndsItem c.args.queue.now c.end_item.new.queue
    c.args.rest.now.items c.end_item.new.rest.items c.args.piece.now o) c.in-End.is
    c.in_ok-scan.ensures.ended in
    let r = c.in_ok-reached-in-End.reached in
    c.in_ok-keep_between-in-End.ensures.kept ∙ ap (λ (behind : List ℕ). drop r.whole
    (take r.end behind)) c.split_at.ensures.back
    ∙ rest_after c.args.rest.now.items c.args.piece.now c.in-End.taken r.whole r.end
    (c.len-had.result + c.in-End.taken) e.0 (omega
    (arith, c.len-had.ensures, c.args.rest.now.ok.0))
