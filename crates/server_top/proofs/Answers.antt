-- What the machine's answers have in common, whatever the request.
use Rattle.std.proofs.Common.{◌≡◌, ℕ, ◌+◌, ◌-◌, ◌^◌, ◌≤◌, ◌<◌, Bool, true, false, cond, List, [], ◌∷◌, ◌++◌, length, Option, Some, None, refl, sym, ◌∙◌, ap, subst, arith}
use Rattle.std.specs.Prelude.{if◌then◌else◌, nat_le, not, ◌&&◌, ◌||◌}
use Rattle.std.specs.List.{AllByRecursion}
use Rattle.std.specs.Cmp.Lexicographic.{nat_list_cmp_total}
use Rattle.std.specs.declared.cmp.Ordering.TheVariants.{Less, Equal, Greater}
use Rattle.std.specs.FinMap.{entries, get, insert, len, put, entries-insert, len-insert, contains_key}
use Rattle.std.specs.FinMap.Entries.{by_order}
use Rattle.std.proofs.lemmas.Bool.{ltb-false, lt-leb}
use Rattle.std.proofs.lemmas.List.{append-nil}
use Rattle.resp_text.specs.declared.reply.Reply.{Reply}
use Rattle.resp_text.specs.declared.reply.Reply.TheVariants as reply
use Rattle.resp_text.specs.declared.reply.ErrorKind.TheVariants as kind
use Rattle.image_text.specs.Image.{bytes_cmp, FitsImage}
use Rattle.resp_text.specs.declared.reply.ErrorKind.{ErrorKind}
use Rattle.service_meaning.specs.declared.command.Command.{Command}
use Rattle.service_meaning.specs.declared.command.Command.TheVariants as command
use Rattle.service_meaning.specs.Commands.{command_in, has_long_key, is_long, shape_of}
use Rattle.service_meaning.specs.Shapes.{has_words, is_at_most}
use Rattle.service_meaning.specs.MapMachine.{Service, ServiceAnswer, refused, value_reply, answer, answer_by, command_answer, checked_answer, save_answer, with_snapshot}
use Rattle.service_meaning.specs.History.{Call, started, is_refusal}
use Rattle.server_top.specs.ReplayPromise.{replay_serves}

-- what holds of each answer: a snapshot that is started lives behind the others, no frame is refused, a fork leaves the pairs, and at most one pair comes, which fits an image where the others do
-- the same commands are served
pub record Follows (service : Service) (given : ServiceAnswer) : Type 0 where
  pub live : given.1.live ≡ service.live ++ started given.0
  pub granted : (caller : ℕ) (words : List (List ℕ)) → is_refusal (Call caller words given.0) ≡ false
  pub forked : (number : ℕ) → given.0 ≡ reply.Started number → given.1.pairs ≡ service.pairs
  pub few : len given.1.pairs ≤ len service.pairs + 1
  pub each : AllByRecursion FitsImage (entries service.pairs) → AllByRecursion FitsImage (entries given.1.pairs)
  pub serves : given.1.serves ≡ service.serves

-- a reply that changes nothing
same : (service : Service) (given : Reply) → started given ≡ [] → ((caller : ℕ) (words : List (List ℕ)) → is_refusal (Call caller words given) ≡ false) → Follows service (given, service)
same service given none granted = record {
  live = sym (append-nil service.live) ∙ ap (λ numbers. service.live ++ numbers) (sym none);
  granted = granted;
  forked = λ number e. refl;
  few = omega arith;
  each = λ all. all;
  serves = refl;
}

-- a pair that fits is put among pairs that fit
fits_put : (key value : List ℕ) (ps : List (List ℕ × List ℕ)) → length key ≤ 65536 → length value ≤ 1048576 → AllByRecursion FitsImage ps → AllByRecursion FitsImage (put bytes_cmp key value ps)
fits_put key value [] k v all = ((k, v), tt)
fits_put key value (p ∷ ps) k v all =
    elim (bytes_cmp key p.0) as (λ r. AllByRecursion FitsImage (by_order r ((key, value) ∷ p ∷ ps) ((p.0, value) ∷ ps) (p ∷ put bytes_cmp key value ps))) [
      | Less ↦ ((k, v), all)
      | Equal ↦ ((all.0.0, v), all.1)
      | Greater ↦ (all.0, fits_put key value ps k v all.1)
    ]

-- one pair more, or none
one_more : (b : Bool) (n m : ℕ) → m ≡ cond b n (n + 1) → m ≤ n + 1
one_more true n m e = omega (arith, e)
one_more false n m e = omega (arith, e)

with_pair : (service : Service) (key value : List ℕ) → length key ≤ 65536 → length value ≤ 1048576 → Follows service (reply.Ok, record service { pairs = insert service.pairs key value })
with_pair service key value k v = record {
  live = sym (append-nil service.live);
  granted = λ caller words. refl;
  forked = λ number e. absurd cc;
  few = one_more (contains_key service.pairs key) (len service.pairs) _ (len-insert nat_list_cmp_total service.pairs key value);
  each = λ all. subst (AllByRecursion FitsImage) (sym (entries-insert nat_list_cmp_total service.pairs key value)) (fits_put key value (entries service.pairs) k v all);
  serves = refl;
}

follows_error : (service : Service) (kind : ErrorKind) → is_refusal (Call 0 [] (reply.Error kind)) ≡ false
    → Follows service (refused service kind)
follows_error service kind granted = same service (reply.Error kind) refl (λ caller words. granted)

-- a number of words that the command does not have
past_both : (a b : Bool) → ◌≡◌ {A = Bool} b false → ◌≡◌ {A = Bool} (a && b) false
past_both true b past = past
past_both false b past = refl

follows_arity : (service : Service) (given : Command) (words : List (List ℕ)) → has_words (shape_of given) (length words) ≡ false
    → Follows service (command_answer service given words)
follows_arity service given words other =
    subst (λ b. Follows service (checked_answer service given words
    (if not b then Some kind.Arity else if has_long_key given words then Some kind.LongKey else None))) (sym other)
    (follows_error service kind.Arity refl)

-- one most number of words, and more of them
many_words : (service : Service) (given : Command) (most : ℕ) (words : List (List ℕ)) → (shape_of given).most ≡ Some most
    → most < length words → Follows service (command_answer service given words)
many_words service given most words is more =
    follows_arity service given words (past_both (nat_le (shape_of given).least (length words)) (is_at_most (shape_of given).most
    (length words))
    (ap (λ (o : Option ℕ). is_at_most o (length words)) is ∙ lt-leb (length words) most more))

follows_set : (service : Service) (words : List (List ℕ)) → AllByRecursion (λ word. length word ≤ 1048576) words
    → Follows service (command_answer service command.Set words)
follows_set service [] short = follows_error service kind.Arity refl
follows_set service (name ∷ []) short = follows_error service kind.Arity refl
follows_set service (name ∷ key ∷ []) short = follows_error service kind.Arity refl
follows_set service (name ∷ key ∷ value ∷ []) short =
    elim (is_long key) as (λ b. is_long key ≡ b
    → Follows service (checked_answer service command.Set (name ∷ key ∷ value ∷ []) (if b || false then Some kind.LongKey else None))) [
      | true ↦ λ e. follows_error service kind.LongKey refl
      | false ↦ λ e. with_pair service key value (ltb-false _ _ e) short.1.1.0
    ] refl
follows_set service (name ∷ key ∷ value ∷ more ∷ words) short = many_words service command.Set 3
    (name ∷ key ∷ value ∷ more ∷ words) refl (omega arith)

follows_value : (service : Service) (found : Option (List ℕ)) → Follows service (value_reply found, service)
follows_value service None = same service reply.Null refl (λ caller words. refl)
follows_value service (Some value) = same service (reply.Bulk value) refl (λ caller words. refl)

follows_get : (service : Service) (words : List (List ℕ)) → Follows service (command_answer service command.Get words)
follows_get service [] = follows_error service kind.Arity refl
follows_get service (name ∷ []) = follows_error service kind.Arity refl
follows_get service (name ∷ key ∷ []) =
    elim (is_long key) as (λ b. Follows service (checked_answer service command.Get (name ∷ key ∷ [])
    (if b || false then Some kind.LongKey else None))) [
      | true ↦ follows_error service kind.LongKey refl
      | false ↦ follows_value service (get service.pairs key)
    ]
follows_get service (name ∷ key ∷ more ∷ words) = many_words service command.Get 2 (name ∷ key ∷ more ∷ words) refl (omega arith)

with_fork : (service : Service) → Follows service (reply.Started (service.last + 1), with_snapshot service)
with_fork service = record {
  live = refl;
  granted = λ caller words. refl;
  forked = λ number e. refl;
  few = omega arith;
  each = λ all. all;
  serves = refl;
}

follows_start : (service : Service) → Follows service (save_answer service)
follows_start service =
    elim (nat_le service.limit (length service.live)) as (λ b. Follows service (if b then refused service kind.InProgress else if nat_le (2 ^ 32 - 1) service.last then refused service kind.Spent else (reply.Started (service.last + 1), with_snapshot service))) [
      | true ↦ follows_error service kind.InProgress refl
      | false ↦ elim (nat_le (2 ^ 32 - 1) service.last) as (λ b. Follows service (if b then refused service kind.Spent else (reply.Started (service.last + 1), with_snapshot service))) [
        | true ↦ follows_error service kind.Spent refl
        | false ↦ with_fork service
      ]
    ]

follows_save : (service : Service) (words : List (List ℕ)) → Follows service (command_answer service command.BgSave words)
follows_save service [] = follows_error service kind.Arity refl
follows_save service (name ∷ []) = follows_start service
follows_save service (name ∷ more ∷ words) = many_words service command.BgSave 1 (name ∷ more ∷ words) refl (omega arith)

-- only what is served answers otherwise than that the name is unknown
follows_served : (service : Service) (command : Command) (words : List (List ℕ))
    → AllByRecursion (λ word. length word ≤ 1048576) words → replay_serves command ≡ true
    → Follows service (command_answer service command words)
follows_served service command.Set words short served = follows_set service words short
follows_served service command.Get words short served = follows_get service words
follows_served service command.BgSave words short served = follows_save service words
follows_served service command.Ping words short served = absurd cc
follows_served service command.Echo words short served = absurd cc
follows_served service command.Del words short served = absurd cc
follows_served service command.Exists words short served = absurd cc
follows_served service command.StrLen words short served = absurd cc
follows_served service command.Append words short served = absurd cc
follows_served service command.Incr words short served = absurd cc
follows_served service command.Decr words short served = absurd cc
follows_served service command.DbSize words short served = absurd cc
follows_served service command.FlushAll words short served = absurd cc
follows_served service command.Info words short served = absurd cc
follows_served service command.CommandList words short served = absurd cc
follows_served service command.Select words short served = absurd cc
follows_served service command.Client words short served = absurd cc
follows_served service command.Quit words short served = absurd cc

follows_command : (service : Service) (found : Option Command) (words : List (List ℕ)) → service.serves ≡ replay_serves
    → AllByRecursion (λ word. length word ≤ 1048576) words → Follows service (answer_by service found words)
follows_command service None words serves short = follows_error service kind.Unknown refl
follows_command service (Some command) words serves short =
    elim (service.serves command) as (λ b. service.serves command ≡ b
    → Follows service (if b then command_answer service command words else refused service kind.Unknown)) [
      | true ↦ λ e. follows_served service command words short (sym (ap (λ (f : Command → Bool). f command) serves) ∙ e)
      | false ↦ λ e. follows_error service kind.Unknown refl
    ] refl

pub follows : (service : Service) (words : List (List ℕ)) → service.serves ≡ replay_serves
    → AllByRecursion (λ word. length word ≤ 1048576) words → Follows service (answer service words)
follows service words serves short = follows_command service (command_in words) words serves short
