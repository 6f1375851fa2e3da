-- Streams of requests: their requests can be served, are no more than their bytes, and each front of a stream begins one.
use Rattle.std.proofs.Common.{◌≡◌, ℕ, ◌+◌, ◌≤◌, ◌<◌, List, [], ◌∷◌, ◌++◌, length, drop, Option, Some, None, refl, sym, ◌∙◌, ap, subst, arith, length-append}
use Rattle.std.specs.List.{AllByRecursion}
use Rattle.std.proofs.lemmas.List.{append-nil, take-append-drop}
use Rattle.resp_text.specs.Grammar.{IsRequest, IsStream, AreItems, AreWords, item_requests}
use Rattle.resp_text.specs.Reading.{Reading, StandsForBytes, BreaksAt}
use Rattle.resp_text.specs.declared.fault.ProtocolKind.{ProtocolKind}
use Rattle.server_top.specs.ReplayPromise.{IsNoStream}
use Rattle.server_top.specs.ReplayRun.{IsServable}

short_words : (text : List ℕ) (words : List (List ℕ)) → AreWords text words → AllByRecursion (λ word. length word ≤ 1048576) words
short_words text [] are = tt
short_words text (word ∷ words) are = (are.2.2, short_words are.1 words are.4)

servable_request : (text : List ℕ) (words : List (List ℕ)) → IsRequest text words → IsServable words
servable_request text words request = record {
  some = request.some;
  short = short_words request.rest words request.spelled;
}

servable_items : (text : List ℕ) (items : List (Option (List (List ℕ)))) → AreItems text items → AllByRecursion IsServable (item_requests items)
servable_items text [] are = tt
servable_items text (None ∷ items) are = servable_items are.1 items are.4
servable_items text (Some words ∷ items) are = (servable_request are.0 words are.2, servable_items are.1 items are.4)

pub servable_stream : (text : List ℕ) (requests : List (List (List ℕ))) → IsStream text requests → AllByRecursion IsServable requests
servable_stream text requests stream = subst (AllByRecursion IsServable) (sym stream.2) (servable_items text stream.0 stream.1)

some_bytes : (text : List ℕ) (words : List (List ℕ)) → IsRequest text words → 0 < length text
some_bytes text words request =
    let line : 0 < length request.line = rw request.count.2 (omega arith) in
    omega (arith, ap length request.is, length-append request.line request.rest, line)

few_items : (text : List ℕ) (items : List (Option (List (List ℕ)))) → AreItems text items → length (item_requests items) ≤ length text
few_items text [] are = omega arith
few_items text (None ∷ items) are =
    omega (arith, few_items are.1 items are.4, ap length are.3, length-append are.0 are.1)
few_items text (Some words ∷ items) are =
    omega (arith, few_items are.1 items are.4, some_bytes are.0 words are.2, ap length are.3, length-append are.0 are.1)

pub few_requests : (text : List ℕ) (requests : List (List (List ℕ))) → IsStream text requests → length requests ≤ length text
few_requests text requests stream = omega (arith, few_items text stream.0 stream.1, ap length stream.2)

-- a text that breaks is no stream
pub broken_text : (text : List ℕ) (place : ℕ) (kind : ProtocolKind) → BreaksAt text place kind → IsNoStream text
broken_text text place kind breaks requests stream =
    breaks.broken (drop (place + 1) text, requests, subst (λ whole. IsStream whole requests) (sym (take-append-drop (place + 1) text)) stream)

no_bytes : (rest : List ℕ) → length rest ≡ 0 → rest ≡ []
no_bytes [] none = refl
no_bytes (byte ∷ rest) none = absurd (omega (arith, none))

-- a reader that stands for a text with nothing behind the last whole item has read a stream
pub whole_text : (reader : Reading) (text : List ℕ) → StandsForBytes reader text [] → length reader.rest ≡ 0 → IsStream text reader.waiting
whole_text reader text stands none =
    let same : stands.whole ≡ text =
    sym (append-nil stands.whole) ∙ ap (λ rest. stands.whole ++ rest) (sym (no_bytes reader.rest none)) ∙ sym stands.is in
    subst (λ whole. IsStream whole reader.waiting) same stands.stream

-- the same of a text that was read as a slice
pub read_stream : (reader : Reading) (slice text : List ℕ) → slice ≡ text → StandsForBytes reader slice [] → length reader.rest ≡ 0 → IsStream text reader.waiting
read_stream reader slice text same stands none = subst (λ t. IsStream t reader.waiting) same (whole_text reader slice stands none)
