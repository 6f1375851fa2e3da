-- The history of a session: its calls, and then the taking and the end of the save that was started.
use Rattle.std.proofs.Common.{◌≡◌, ℕ, ◌+◌, ◌-◌, ◌^◌, ◌≤◌, min, List, [], ◌∷◌, ◌++◌, length, Option, Some, None, refl, sym, ◌∙◌, ap, subst, arith, inl}
use Rattle.std.specs.Prelude.{IfSome, option_to_list, if◌then◌else◌, Contains}
use Rattle.std.specs.Option.{option_map, option_or}
use Rattle.std.specs.List.{AllByRecursion}
use Rattle.std.specs.FinMap.{entries, empty, insert, len-entries, len-empty}
use Rattle.std.proofs.lemmas.Bool.{eq-eqb}
use Rattle.std.proofs.lemmas.List.{append_assoc, append-nil}
use Rattle.std.proofs.lemmas.List.Concat.{flat_map-append}
use Rattle.io_face.specs.Folder.{Files}
use Rattle.io_face.specs.Told.{Adds, AddsPrefix}
use Rattle.resp_text.specs.declared.reply.Reply.{Reply}
use Rattle.resp_text.specs.declared.reply.Reply.TheVariants as reply
use Rattle.resp_text.specs.Replies.{text_of_reply}
use Rattle.image_text.specs.Image.{bytes_cmp, pairs_text, FitsImage}
use Rattle.service_meaning.specs.declared.saved.Saved.{Saved}
use Rattle.service_meaning.specs.declared.saved.Saved.TheVariants as saved
use Rattle.service_meaning.specs.MapMachine.{Pairs}
use Rattle.service_meaning.specs.History.{Entry, Call, Taken, Ended, Moment, without, EntryLeads, LeadAlong, IsForked, is_refusal, refusals, calls_in, calls_of, ends_in, ends_of}
use Rattle.service_meaning.specs.SessionText.{requests_asked, replies_text}
use Rattle.service_meaning.specs.SaveEnd.{report_line, report_text, file_name, ArePairsCounted, FileOf, FilesOf, faults_of, refused_saves}
use Rattle.server_top.specs.declared.replay.book.Book.{Book}
use Rattle.server_top.specs.declared.replay.book.Snapshot.{Snapshot}
use Rattle.server_top.specs.ReplayPromise.{Outside, HasEnded, IsHistoryOf, Published, Served, ServedAll, ServedSome, replay_opening, replay_serves, sent_text}
use Rattle.server_top.specs.ReplayRun.{AreStorable, BookState, IsServable, Saves, SavedSo, calls_from, book_state, snapshot_number, started_snapshot, kept_after, kept_behind, replies_from, reply_to}
use Rattle.server_top.proofs.Answers.{follows}
use Rattle.server_top.proofs.StoredPairs.{entries-empty}
use Rattle.server_top.proofs.Written.{Writing, adds_more, writing_part}

-- ---- moments

-- what is kept before the first request
abbrev pub opening_kept : BookState
opening_kept = record { service = replay_opening.service; snapshot = None }

-- the moment at which a book keeps this, where no save was taken: all snapshots that live wait
abbrev pub moment_of : BookState → Moment
moment_of kept = record { service = kept.service; waiting = kept.service.live; saving = [] }

lead_append : (old mid new : Moment) (front back : List Entry) → LeadAlong old front mid → LeadAlong mid back new → LeadAlong old (front ++ back) new
lead_append old mid new [] back before after = subst (λ m. LeadAlong m back new) before after
lead_append old mid new (entry ∷ front) back before after =
    (before.0, (before.1.0, lead_append before.0 mid new front back before.1.1 after))

-- what is served stays so behind a request
serves_behind : (kept : BookState) (words : List (List ℕ)) → kept.service.serves ≡ replay_serves → IsServable words
    → (kept_after kept words).service.serves ≡ replay_serves
serves_behind kept words serves servable = (follows kept.service words serves servable.short).serves ∙ serves

lead_call : (kept : BookState) (words : List (List ℕ)) → kept.service.serves ≡ replay_serves → IsServable words
    → EntryLeads (moment_of kept) (Call 0 words (reply_to kept words)) (moment_of (kept_after kept words))
lead_call kept words serves servable = (inl refl, (follows kept.service words serves servable.short).live, refl)

pub lead_calls : (kept : BookState) (requests : List (List (List ℕ))) → kept.service.serves ≡ replay_serves
    → AllByRecursion IsServable requests → LeadAlong (moment_of kept) (calls_from kept requests) (moment_of (kept_behind kept requests))
lead_calls kept [] serves servable = refl
lead_calls kept (words ∷ requests) serves servable = (
  moment_of (kept_after kept words),
  (
    lead_call kept words serves servable.0,
    lead_calls (kept_after kept words) requests
        (serves_behind kept words serves servable.0) servable.1,
  ),
)

-- ---- what the calls say

no_refusals : (kept : BookState) (requests : List (List (List ℕ))) → kept.service.serves ≡ replay_serves
    → AllByRecursion IsServable requests
    → refusals (calls_from kept requests) ≡ 0
no_refusals kept [] serves servable = refl
no_refusals kept (words ∷ requests) serves servable =
    let here : ◌≡◌ {A = ℕ} (if is_refusal (Call 0 words (reply_to kept words)) then 1 else 0) 0 =
    ap (λ b. if b then 1 else 0) ((follows kept.service words serves servable.0.short).granted 0 words) in
    omega (arith, here, no_refusals (kept_after kept words) requests (serves_behind kept words serves servable.0) servable.1)

requests_calls : (kept : BookState) (requests : List (List (List ℕ))) → requests_asked (calls_of (calls_from kept requests)) ≡ requests
requests_calls kept [] = refl
requests_calls kept (words ∷ requests) = ap (λ (rest : List (List (List ℕ))). words ∷ rest) (requests_calls (kept_after kept words) requests)

replies_calls : (kept : BookState) (requests : List (List (List ℕ))) → replies_text (calls_of (calls_from kept requests)) ≡ replies_from kept requests
replies_calls kept [] = refl
replies_calls kept (words ∷ requests) =
    ap (λ rest. text_of_reply (reply_to kept words) ++ rest) (replies_calls (kept_after kept words) requests)

ends_calls : (kept : BookState) (requests : List (List (List ℕ))) → ends_of (calls_from kept requests) ≡ []
ends_calls kept [] = refl
ends_calls kept (words ∷ requests) = ends_calls (kept_after kept words) requests

-- ---- the snapshot that lives

-- the snapshot was started in the history, and has the pairs at its start
pub record HasFork (history : List Entry) (snapshot : Snapshot) : Type 0 where
  pub pairs : Pairs
  pub forked : IsForked replay_opening history snapshot.number pairs
  pub same : snapshot.pairs ≡ entries pairs

fork_more : (history more : List Entry) (snapshot : Snapshot) → HasFork history snapshot → HasFork (history ++ more) snapshot
fork_more history more snapshot has =
    let fork = has.forked in
    record {
      pairs = has.pairs;
      forked = record {
        before = fork.before;
        caller = fork.caller;
        words = fork.words;
        after = fork.after ++ more;
        at = ap (λ (h : List Entry). h ++ more) fork.at ∙ append_assoc (fork.before ++ Call fork.caller fork.words (reply.Started snapshot.number) ∷ []) fork.after more;
        moment = fork.moment;
        leads = fork.leads;
        same = fork.same;
      };
      same = has.same;
    }

forks_more : (history more : List Entry) (snapshot : Option Snapshot) → IfSome snapshot (HasFork history) → IfSome snapshot (HasFork (history ++ more))
forks_more history more None has = tt
forks_more history more (Some snapshot) has = fork_more history more snapshot has

-- a reply that starts a snapshot
new_fork : (before : List Entry) (kept : BookState) (words : List (List ℕ)) (number : ℕ) → kept.service.serves ≡ replay_serves
    → IsServable words → reply_to kept words ≡ reply.Started number
    → LeadAlong replay_opening (before ++ Call 0 words (reply_to kept words) ∷ []) (moment_of (kept_after kept words))
    → HasFork (before ++ Call 0 words (reply_to kept words) ∷ []) (record { number = number; pairs = entries kept.service.pairs })
new_fork before kept words number serves servable is lead = record {
  pairs = kept.service.pairs;
  forked = record {
    before = before;
    caller = 0;
    words = words;
    after = [];
    at = ap (λ given. before ++ Call 0 words given ∷ []) is ∙ sym (append-nil (before ++ Call 0 words (reply.Started number) ∷ []));
    moment = moment_of (kept_after kept words);
    leads = subst (λ given. LeadAlong replay_opening (before ++ Call 0 words given ∷ []) (moment_of (kept_after kept words))) is lead;
    same = sym ((follows kept.service words serves servable.short).forked number is);
  };
  same = refl;
}

-- what one more call makes of the snapshot
fork_on : (before : List Entry) (kept : BookState) (words : List (List ℕ)) → kept.service.serves ≡ replay_serves → IsServable words
    → LeadAlong replay_opening (before ++ Call 0 words (reply_to kept words) ∷ []) (moment_of (kept_after kept words))
    → IfSome kept.snapshot (HasFork before)
    → (given : Reply) → reply_to kept words ≡ given
    → IfSome (option_or (started_snapshot given kept.service.pairs) kept.snapshot)
    (HasFork (before ++ Call 0 words (reply_to kept words) ∷ []))
fork_on before kept words serves servable lead has reply.Ok is = forks_more before _ kept.snapshot has
fork_on before kept words serves servable lead has reply.Pong is = forks_more before _ kept.snapshot has
fork_on before kept words serves servable lead has (reply.Started number) is = new_fork before kept words number serves servable is lead
fork_on before kept words serves servable lead has reply.Empty is = forks_more before _ kept.snapshot has
fork_on before kept words serves servable lead has reply.Null is = forks_more before _ kept.snapshot has
fork_on before kept words serves servable lead has (reply.Number value) is = forks_more before _ kept.snapshot has
fork_on before kept words serves servable lead has (reply.Bulk bytes) is = forks_more before _ kept.snapshot has
fork_on before kept words serves servable lead has (reply.Error kind) is = forks_more before _ kept.snapshot has

forks : (kept : BookState) (requests : List (List (List ℕ))) (before : List Entry) → kept.service.serves ≡ replay_serves
    → AllByRecursion IsServable requests
    → LeadAlong replay_opening before (moment_of kept) → IfSome kept.snapshot (HasFork before)
    → IfSome (kept_behind kept requests).snapshot (HasFork (before ++ calls_from kept requests))
forks kept [] before serves servable lead has = subst (λ history. IfSome kept.snapshot (HasFork history)) (sym (append-nil before)) has
forks kept (words ∷ requests) before serves servable lead has =
    let call : Entry = Call 0 words (reply_to kept words) in
    let next : BookState = kept_after kept words in
    let leads : LeadAlong replay_opening (before ++ call ∷ []) (moment_of next) =
    lead_append replay_opening (moment_of kept) (moment_of next) before (call ∷ []) lead (
      moment_of next,
      (lead_call kept words serves servable.0, refl),
    ) in
    let has_next : IfSome next.snapshot (HasFork (before ++ call ∷ [])) = fork_on before kept words serves servable.0 leads has
    (reply_to kept words) refl in
    subst (λ history. IfSome (kept_behind next requests).snapshot (HasFork history)) (append_assoc before (call ∷ []) (calls_from next requests))
    (forks next requests (before ++ call ∷ []) (serves_behind kept words serves servable.0) servable.1 leads has_next)

-- ---- a session without a save

history_of_calls : (requests : List (List (List ℕ))) → AllByRecursion IsServable requests → IsHistoryOf requests (calls_from opening_kept requests)
history_of_calls requests servable = record {
  saved_last = record {
    calls = calls_from opening_kept requests;
    saves = [];
    is = sym (append-nil (calls_from opening_kept requests));
    no_end = ends_calls opening_kept requests;
    no_call = refl;
  };
  legal = (moment_of (kept_behind opening_kept requests), lead_calls opening_kept requests refl servable);
  granted = no_refusals opening_kept requests refl servable;
  asked = requests_calls opening_kept requests;
}

nothing_published : (history : List Entry) (files after : Option Files) → ends_of history ≡ [] → after ≡ files → Published history files after
nothing_published history None after none same = same
nothing_published history (Some files) after none same =
    (files, (same, subst (λ ends. FilesOf replay_opening history ends files files) (sym none) refl))

-- the requests were served, and the folder is as it was
pub record Leaves (outside : Outside) : Type 0 where
  pub files : outside.files_after ≡ outside.files
  pub faults : outside.faults ≤ outside.faults_after

served_calls : (outside : Outside) (requests : List (List (List ℕ))) → AllByRecursion IsServable requests → Leaves outside → Served outside requests (calls_from opening_kept requests)
served_calls outside requests servable leaves = record {
  is_history = history_of_calls requests servable;
  files = nothing_published (calls_from opening_kept requests) outside.files outside.files_after (ends_calls opening_kept requests) leaves.files;
  counted = subst (ArePairsCounted replay_opening (calls_from opening_kept requests)) (sym (ends_calls opening_kept requests)) tt;
  unrefused = ap refused_saves (ends_calls opening_kept requests);
  faults = omega (arith, leaves.faults, ap faults_of (ends_calls opening_kept requests));
}

sent_calls : (requests : List (List (List ℕ))) → sent_text (calls_from opening_kept requests) ≡ replies_from opening_kept requests
sent_calls requests =
    ap (λ text. text ++ report_text (ends_of (calls_from opening_kept requests))) (replies_calls opening_kept requests)
    ∙ ap (λ ends. replies_from opening_kept requests ++ report_text ends) (ends_calls opening_kept requests)
    ∙ append-nil (replies_from opening_kept requests)

pub served_some_alone : (outside : Outside) (requests : List (List (List ℕ))) → AllByRecursion IsServable requests → Leaves outside
    → AddsPrefix outside.written outside.written_after (replies_from opening_kept requests) → ServedSome outside requests
served_some_alone outside requests servable leaves sent = record {
  history = calls_from opening_kept requests;
  served = served_calls outside requests servable leaves;
  sent = subst (AddsPrefix outside.written outside.written_after) (sym (sent_calls requests)) sent;
}

pub served_all_alone : (outside : Outside) (requests : List (List (List ℕ))) → AllByRecursion IsServable requests → Leaves outside
    → (kept_behind opening_kept requests).service.live ≡ []
    → Adds outside.written outside.written_after (replies_from opening_kept requests) → ServedAll outside requests
served_all_alone outside requests servable leaves none sent = record {
  history = calls_from opening_kept requests;
  served = served_calls outside requests servable leaves;
  ended = (moment_of (kept_behind opening_kept requests), (lead_calls opening_kept requests refl servable, none));
  sent = subst (Adds outside.written outside.written_after) (sym (sent_calls requests)) sent;
}

-- ---- a session with a save

-- the saver takes the snapshot, and ends its save
abbrev pub saving_of : ℕ × Saved → List Entry
saving_of end = Taken 1 end.0 ∷ Ended 1 end.0 end.1 ∷ []

-- the history of the calls and that save
abbrev pub saved_history : List (List (List ℕ)) → ℕ × Saved → List Entry
saved_history requests end = calls_from opening_kept requests ++ saving_of end

refusals_append : (history more : List Entry) → refusals (history ++ more) ≡ refusals history + refusals more
refusals_append [] more = omega arith
refusals_append (entry ∷ history) more = omega (arith, refusals_append history more)

calls_saved : (requests : List (List (List ℕ))) (end : ℕ × Saved) → calls_of (saved_history requests end) ≡ calls_of (calls_from opening_kept requests)
calls_saved requests end = flat_map-append calls_in (calls_from opening_kept requests) (saving_of end) ∙ append-nil _

ends_saved : (requests : List (List (List ℕ))) (end : ℕ × Saved) → ends_of (saved_history requests end) ≡ end ∷ []
ends_saved requests end =
    flat_map-append ends_in (calls_from opening_kept requests) (saving_of end)
    ∙ ap (λ (ends : List (ℕ × Saved)). ends ++ end ∷ []) (ends_calls opening_kept requests)

sent_saved : (requests : List (List (List ℕ))) (end : ℕ × Saved) → sent_text (saved_history requests end) ≡ replies_from opening_kept requests ++ report_line end
sent_saved requests end =
    ap (λ calls. replies_text calls ++ report_text (ends_of (saved_history requests end))) (calls_saved requests end)
    ∙ ap (λ text. text ++ report_text (ends_of (saved_history requests end))) (replies_calls opening_kept requests)
    ∙ ap (λ ends. replies_from opening_kept requests ++ report_text ends) (ends_saved requests end)
    ∙ ap (λ line. replies_from opening_kept requests ++ line) (append-nil (report_line end))

-- the moments of a save of the one snapshot that waits
none_without : (number : ℕ) → without number (number ∷ []) ≡ []
none_without number = rw (eq-eqb number number refl) refl

abbrev pub taken_from : Moment → ℕ → Moment
taken_from moment number = record moment { waiting = without number moment.waiting; saving = moment.saving ++ number ∷ [] }

abbrev pub ended_from : Moment → ℕ → Moment
ended_from moment number = record moment {
  service = record moment.service { live = without number moment.service.live };
  saving = without number moment.saving;
}

contains_one : (number : ℕ) (numbers : List ℕ) → numbers ≡ number ∷ [] → Contains numbers number
contains_one number numbers is = subst (λ ns. Contains ns number) (sym is) (0, omega arith, refl)

lead_saving : (moment : Moment) (end : ℕ × Saved) → moment.waiting ≡ end.0 ∷ [] → moment.saving ≡ []
    → LeadAlong moment (saving_of end) (ended_from (taken_from moment end.0) end.0)
lead_saving moment end waits none = (
  taken_from moment end.0,
  (
    (contains_one end.0 moment.waiting waits, refl),
    (
      ended_from (taken_from moment end.0) end.0,
      (
        (contains_one end.0 (moment.saving ++ end.0 ∷ []) (ap (λ (ns : List ℕ). ns ++ end.0 ∷ []) none), refl),
        refl,
      ),
    ),
  ),
)

lead_saved : (requests : List (List (List ℕ))) (end : ℕ × Saved) → AllByRecursion IsServable requests → (kept_behind opening_kept requests).service.live ≡ end.0 ∷ []
    → LeadAlong replay_opening (saved_history requests end) (ended_from (taken_from (moment_of (kept_behind opening_kept requests)) end.0) end.0)
lead_saved requests end servable lives =
    lead_append replay_opening (moment_of (kept_behind opening_kept requests)) _ (calls_from opening_kept requests) (saving_of end)
    (lead_calls opening_kept requests refl servable) (lead_saving (moment_of (kept_behind opening_kept requests)) end lives refl)

history_saved : (requests : List (List (List ℕ))) (end : ℕ × Saved) → AllByRecursion IsServable requests → (kept_behind opening_kept requests).service.live ≡ end.0 ∷ [] → IsHistoryOf requests (saved_history requests end)
history_saved requests end servable lives = record {
  saved_last = record {
    calls = calls_from opening_kept requests;
    saves = saving_of end;
    is = refl;
    no_end = ends_calls opening_kept requests;
    no_call = refl;
  };
  legal = (_, lead_saved requests end servable lives);
  granted = omega (
    arith,
    refusals_append (calls_from opening_kept requests)
        (saving_of end),
    no_refusals opening_kept requests refl servable,
  );
  asked = ap requests_asked (calls_saved requests end) ∙ requests_calls opening_kept requests;
}

ended_saved : (requests : List (List (List ℕ))) (end : ℕ × Saved) → AllByRecursion IsServable requests → (kept_behind opening_kept requests).service.live ≡ end.0 ∷ [] → HasEnded (saved_history requests end)
ended_saved requests end servable lives =
    (_, (lead_saved requests end servable lives, ap (without end.0) lives ∙ none_without end.0))

-- what the save made of the files
file_saved : (history : List Entry) (snapshot : Snapshot) (end : Saved) (old : Files) (new : Option Files) → HasFork history snapshot → Saves snapshot end (Some old) new
    → (next : Files) × ((new ≡ Some next) × FileOf replay_opening history (snapshot.number, end) old next)
file_saved history snapshot (saved.Ok count) old new has saves = (
  insert old (file_name snapshot.number) (pairs_text snapshot.pairs),
  (
    saves.1,
    (
      has.pairs,
      has.forked,
      saves.0 ∙ ap length has.same ∙ sym (len-entries has.pairs),
      ap (λ pairs. insert old (file_name snapshot.number) (pairs_text pairs)) has.same,
    ),
  ),
)
file_saved history snapshot (saved.Lost at) old new has saves = absurd saves
file_saved history snapshot (saved.Refused at) old new has saves = absurd saves
file_saved history snapshot saved.SinkFault old new has saves = (old, (saves, refl))
file_saved history snapshot saved.NoMemory old new has saves = (old, (saves, refl))

not_told : (snapshot : Snapshot) (end : Saved) (new : Option Files) → Saves snapshot end None new → new ≡ None
not_told snapshot (saved.Ok count) new saves = saves.1
not_told snapshot (saved.Lost at) new saves = absurd saves
not_told snapshot (saved.Refused at) new saves = absurd saves
not_told snapshot saved.SinkFault new saves = saves
not_told snapshot saved.NoMemory new saves = saves

published_saved : (history : List Entry) (snapshot : Snapshot) (end : Saved) (files after : Option Files) → ends_of history ≡ (snapshot.number, end) ∷ []
    → HasFork history snapshot → Saves snapshot end files after → Published history files after
published_saved history snapshot end None after one has saves = not_told snapshot end after saves
published_saved history snapshot end (Some old) after one has saves =
    let file = file_saved history snapshot end old after has saves in
    (file.0, (file.1.0, subst (λ ends. FilesOf replay_opening history ends old file.0) (sym one) (file.0, (file.1.1, refl))))

-- the folder's count rose where the save ended by a fault
faults_saved : (snapshot : Snapshot) (end : Saved) (outside : Outside) → SavedSo snapshot end outside → min (outside.faults + faults_of ((snapshot.number, end) ∷ [])) (2 ^ 64 - 1) ≤ outside.faults_after
faults_saved snapshot (saved.Ok count) outside so = omega (arith, so.faults)
faults_saved snapshot (saved.Lost at) outside so = omega (arith, so.faults)
faults_saved snapshot (saved.Refused at) outside so = omega (arith, so.faults)
faults_saved snapshot saved.SinkFault outside so = so.cause refl
faults_saved snapshot saved.NoMemory outside so = omega (arith, so.faults)

-- a save that ended well tells the pairs at its fork, whether or not the files are told
count_saved : (snapshot : Snapshot) (count : ℕ) (old new : Option Files) → Saves snapshot (saved.Ok count) old new → count ≡ length snapshot.pairs
count_saved snapshot count old new saves = saves.0

counted_saved : (history : List Entry) (snapshot : Snapshot) (end : Saved) (old new : Option Files) → HasFork history snapshot → Saves snapshot end old new → ArePairsCounted replay_opening history ((snapshot.number, end) ∷ [])
counted_saved history snapshot (saved.Ok count) old new has saves =
    ((has.pairs, (has.forked, count_saved snapshot count old new saves ∙ ap length has.same ∙ sym (len-entries has.pairs))), tt)
counted_saved history snapshot (saved.Lost at) old new has saves = absurd saves
counted_saved history snapshot (saved.Refused at) old new has saves = absurd saves
counted_saved history snapshot saved.SinkFault old new has saves = tt
counted_saved history snapshot saved.NoMemory old new has saves = tt

-- no save of this store is refused a frame
unrefused_saved : (snapshot : Snapshot) (end : Saved) (old new : Option Files) → Saves snapshot end old new → refused_saves ((snapshot.number, end) ∷ []) ≡ 0
unrefused_saved snapshot (saved.Ok count) old new saves = refl
unrefused_saved snapshot (saved.Lost at) old new saves = absurd saves
unrefused_saved snapshot (saved.Refused at) old new saves = absurd saves
unrefused_saved snapshot saved.SinkFault old new saves = refl
unrefused_saved snapshot saved.NoMemory old new saves = refl

-- a snapshot lives behind the requests
pub record Lives (requests : List (List (List ℕ))) (snapshot : Snapshot) : Type 0 where
  pub servable : AllByRecursion IsServable requests
  pub live : (kept_behind opening_kept requests).service.live ≡ snapshot.number ∷ []
  pub kept : (kept_behind opening_kept requests).snapshot ≡ Some snapshot

served_saved : (outside : Outside) (requests : List (List (List ℕ))) (snapshot : Snapshot) (end : Saved) → Lives requests snapshot → SavedSo snapshot end outside → Served outside requests (saved_history requests (snapshot.number, end))
served_saved outside requests snapshot end lives so =
    let fork : HasFork (calls_from opening_kept requests) snapshot =
    subst (λ s. IfSome s (HasFork (calls_from opening_kept requests))) lives.kept
    (forks opening_kept requests [] refl lives.servable refl tt) in
    let fork_saved : HasFork (saved_history requests (snapshot.number, end)) snapshot =
    fork_more (calls_from opening_kept requests) (saving_of (snapshot.number, end)) snapshot fork in
    record {
      is_history = history_saved requests (snapshot.number, end) lives.servable lives.live;
      files = published_saved (saved_history requests (snapshot.number, end)) snapshot end outside.files outside.files_after (ends_saved requests (snapshot.number, end)) fork_saved so.saves;
      counted = subst (ArePairsCounted replay_opening (saved_history requests (snapshot.number, end))) (sym (ends_saved requests (snapshot.number, end)))
          (counted_saved (saved_history requests (snapshot.number, end)) snapshot end outside.files outside.files_after fork_saved so.saves);
      unrefused = ap refused_saves (ends_saved requests (snapshot.number, end)) ∙ unrefused_saved snapshot end outside.files outside.files_after so.saves;
      faults = subst (λ ends. min (outside.faults + faults_of ends) (2 ^ 64 - 1) ≤ outside.faults_after) (sym (ends_saved requests (snapshot.number, end))) (faults_saved snapshot end outside so);
    }

pub served_all_saved : (outside : Outside) (between : Option (List ℕ)) (requests : List (List (List ℕ))) (snapshot : Snapshot) (end : Saved) → Lives requests snapshot → SavedSo snapshot end outside
    → Adds outside.written between (replies_from opening_kept requests) → Adds between outside.written_after (report_line (snapshot.number, end)) → ServedAll outside requests
served_all_saved outside between requests snapshot end lives so replies line = record {
  history = saved_history requests (snapshot.number, end);
  served = served_saved outside requests snapshot end lives so;
  ended = ended_saved requests (snapshot.number, end) lives.servable lives.live;
  sent = subst (Adds outside.written outside.written_after) (sym (sent_saved requests (snapshot.number, end)))
      (adds_more outside.written between outside.written_after (replies_from opening_kept requests) (report_line (snapshot.number, end)) replies line);
}

pub served_some_saved : (outside : Outside) (between : Option (List ℕ)) (requests : List (List (List ℕ))) (snapshot : Snapshot) (end : Saved) → Lives requests snapshot → SavedSo snapshot end outside
    → Adds outside.written between (replies_from opening_kept requests) → AddsPrefix between outside.written_after (report_line (snapshot.number, end)) → ServedSome outside requests
served_some_saved outside between requests snapshot end lives so replies line =
    let text : List ℕ = report_line (snapshot.number, end) in
    let writing : Writing outside.written between text [] (replies_from opening_kept requests ++ text) = record {
      done = replies_from opening_kept requests;
      added = replies;
      whole = append-nil (replies_from opening_kept requests ++ text);
    } in
    record {
      history = saved_history requests (snapshot.number, end);
      served = served_saved outside requests snapshot end lives so;
      sent = subst (AddsPrefix outside.written outside.written_after) (sym (sent_saved requests (snapshot.number, end)))
          (writing_part outside.written between outside.written_after text [] (replies_from opening_kept requests ++ text) writing line);
    }

-- ---- the book behind the requests

pub opening_storable : AreStorable (2 ^ 28) (empty {X = List ℕ} {R = bytes_cmp})
opening_storable = record {
  few = omega (arith, len-empty bytes_cmp (List ℕ));
  each = subst (AllByRecursion FitsImage) (sym entries-empty) tt;
}

pub lives_in : (book : Book) (start : BookState) (requests : List (List (List ℕ))) (snapshot : Snapshot)
    → AllByRecursion IsServable requests
    → start ≡ opening_kept → book_state book ≡ kept_behind start requests → book.snapshot ≡ Some snapshot → Lives requests snapshot
lives_in book start requests snapshot servable start_is kept is =
    let whole : book_state book ≡ kept_behind opening_kept requests = kept ∙ ap (λ k. kept_behind k requests) start_is in
    record {
      servable = servable;
      live = sym (ap (λ k. k.service.live) whole) ∙ ap (λ s. option_to_list (option_map snapshot_number s)) is;
      kept = sym (ap (λ k. k.snapshot) whole) ∙ is;
    }

pub none_lives : (book : Book) (start : BookState) (requests : List (List (List ℕ))) → start ≡ opening_kept → book_state book ≡ kept_behind start requests → book.snapshot ≡ None
    → (kept_behind opening_kept requests).service.live ≡ []
none_lives book start requests start_is kept is =
    let whole : book_state book ≡ kept_behind opening_kept requests = kept ∙ ap (λ k. kept_behind k requests) start_is in
    sym (ap (λ k. k.service.live) whole) ∙ ap (λ s. option_to_list (option_map snapshot_number s)) is
