use Rattle.std.proofs.Common.{◌≡◌, ℕ, List, ◌<◌, ◌++◌, length, drop, subst, sym, ap, ◌∙◌, arith}
use Rattle.resp_text.specs.Grammar.{AreWords}
use Rattle.resp_text.proofs.Texts.{line_behind, request_line, words_more, words_all}
use Rattle.std.proofs.lemmas.Bool.Decides.{nat_tests}
use Rattle.resp_text.proofs.spelled.request_of.Goals as goal

pub line_of-line-requires : goal.line_of-line-requires
line_of-line-requires c =
    let r = c.requires.1 in (
      length c.requires.0,
      r.count.0,
      r.rest,
      omega
          (arith, r.few),
      request_line c.args.text.now c.requires.0 r,
    )

pub split_at-requires : goal.split_at-requires
split_at-requires c =
    let line = request_line c.args.text.now c.requires.0 c.requires.1 in
    omega (
      arith,
      (c.line_of-line.ensures (length c.requires.0) _ _ line).1,
      (line_behind c.args.text.now (length c.requires.0) _ _ line).1,
    )

pub loop-rest-init : goal.loop-rest-init
loop-rest-init c words r =
    let line = request_line c.args.text.now words r in
    let behind = c.split_at.ensures.back ∙ ap (λ (k : ℕ). drop k c.args.text.now)
    (c.line_of-line.ensures (length words) _ _ line).1
    ∙ (line_behind c.args.text.now (length words) _ _ line).0 in (
      words,
      subst (λ (t : List ℕ). AreWords t words) (sym behind) r.spelled,
      ap (λ (none : List
          (List ℕ)). none ++ words) (sym c.in_ok-request.ensures),
    )

pub first_word-requires : goal.first_word-requires
first_word-requires c =
    let left = c.loop-rest.invariant c.requires.0 c.requires.1 in
    let some : 0 < length c.loop-rest.rest.now = grind (arith, nat_tests) in
    (left.0, left.1, some)

pub loop-rest-preserved : goal.loop-rest-preserved
loop-rest-preserved c words r =
    let some : 0 < length c.loop-rest.rest.now = grind (arith, nat_tests) in
    words_more c.loop-rest.rest.now c.first_word.result.1.now c.first_word.result.0.now
    c.loop-rest.request c.add.new.self words some c.first_word.ensures.split
    c.in_ok-add.ensures.added (c.loop-rest.invariant words r)

pub returns : goal.returns
returns c =
    let none : length c.loop-rest.rest.now ≡ 0 = grind (arith, nat_tests) in
    words_all c.args.text.now c.loop-rest.rest.now c.loop-rest.request c.requires.0 none
    (c.loop-rest.invariant c.requires.0 c.requires.1) c.requires.1
