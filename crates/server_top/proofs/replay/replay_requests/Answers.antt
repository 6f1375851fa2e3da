-- The history is that of the calls, with the save behind them where a snapshot was started.
use Rattle.std.proofs.Common.{◌^◌, refl, sym, ap, subst, arith, List, ℕ}
use Rattle.std.specs.FinMap.{len, len-empty}
use Rattle.io_face.specs.Told.{Adds, AddsPrefix}
use Rattle.image_text.specs.Image.{bytes_cmp}
use Rattle.server_top.specs.ReplayRun.{book_state, replies_from, AreStorable}
use Rattle.server_top.proofs.Replays.{lives_in, none_lives, opening_storable, served_all_alone, served_all_saved, served_some_alone, served_some_saved}
use Rattle.server_top.proofs.Written.{on_err, on_err_then, on_ok_then}
use Rattle.server_top.proofs.replay.replay_requests.Goals as goal

pub serve-requires-clause-storable : goal.serve-requires-clause-storable
serve-requires-clause-storable g c = subst (λ kept. AreStorable (2 ^ 28) kept.service.pairs) (sym c.new-book.ensures.pairs) opening_storable

pub serve-requires-clause-few : goal.serve-requires-clause-few
serve-requires-clause-few g c =
    omega (arith, ap (λ kept. len kept.service.pairs) c.new-book.ensures.pairs, len-empty bytes_cmp (List ℕ), c.requires.few)

pub returns-in_err-serve-clause-some : goal.returns-in_err-serve-clause-some
returns-in_err-serve-clause-some g c =
    on_err _ _ (served_some_alone _ _ c.requires.servable (record { files = refl; faults = omega arith })
    (subst (λ kept. AddsPrefix (g.O.Sink.written c.args.output.now) (g.O.Sink.written c.serve.new.output) (replies_from kept c.args.requests.now.waiting)) c.new-book.ensures.pairs c.in_err-serve.ensures.err))

pub returns-in-Some-clause-all : goal.returns-in-Some-clause-all
returns-in-Some-clause-all g c =
    let lives = lives_in c.serve.new.book (book_state c.new-book.result) c.args.requests.now.waiting c.in-Some.snapshot c.requires.servable c.new-book.ensures.pairs c.in_ok-serve.ensures.kept c.in-Some.is in
    let replies = subst (λ kept. Adds (g.O.Sink.written c.args.output.now) (g.O.Sink.written c.serve.new.output) (replies_from kept c.args.requests.now.waiting)) c.new-book.ensures.pairs c.in_ok-serve.ensures.ok in
    on_ok_then _ _ _ c.report_save.ensures.all (λ reports. served_all_saved _ _ _ _ reports.0 lives
    (record { saves = reports.1.0.saves; faults = reports.1.0.faults; cause = reports.1.0.cause }) replies reports.1.1)

pub returns-in-Some-clause-some : goal.returns-in-Some-clause-some
returns-in-Some-clause-some g c =
    let lives = lives_in c.serve.new.book (book_state c.new-book.result) c.args.requests.now.waiting c.in-Some.snapshot c.requires.servable c.new-book.ensures.pairs c.in_ok-serve.ensures.kept c.in-Some.is in
    let replies = subst (λ kept. Adds (g.O.Sink.written c.args.output.now) (g.O.Sink.written c.serve.new.output) (replies_from kept c.args.requests.now.waiting)) c.new-book.ensures.pairs c.in_ok-serve.ensures.ok in
    on_err_then _ _ _ c.report_save.ensures.some (λ reports. served_some_saved _ _ _ _ reports.0 lives
    (record { saves = reports.1.0.saves; faults = reports.1.0.faults; cause = reports.1.0.cause }) replies reports.1.1)

pub returns-clause-all : goal.returns-clause-all
returns-clause-all g c =
    served_all_alone _ _ c.requires.servable (record { files = refl; faults = omega arith })
    (none_lives c.serve.new.book (book_state c.new-book.result) c.args.requests.now.waiting c.new-book.ensures.pairs c.in_ok-serve.ensures.kept c.in-None.is)
    (subst (λ kept. Adds (g.O.Sink.written c.args.output.now) (g.O.Sink.written c.serve.new.output) (replies_from kept c.args.requests.now.waiting)) c.new-book.ensures.pairs c.in_ok-serve.ensures.ok)
