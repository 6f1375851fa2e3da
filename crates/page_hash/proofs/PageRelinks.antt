-- The chains of a page of buckets, linked anew: their first blocks stand in two buffers until these are stored.
use Rattle.std.proofs.Common.{◌≡◌, ℕ, ◌+◌, ◌-◌, ◌*◌, ◌^◌, ◌<◌, ◌≤◌, List, ◌++◌, length, take, drop, refl, sym, ◌∙◌, ap, subst, arith, inl, inr}
use Rattle.std.specs.Prelude.{slice_index}
use Rattle.std.specs.List.{AllByRecursion}
use Rattle.std.proofs.Math.Seq.{drop-append_seam}
use Rattle.std.proofs.lemmas.Bool.{cases_lt}
use Rattle.std.proofs.lemmas.List.{length-take-le, length-drop, take-append-drop, take-append-le, drop-append-le, length-append}
use Rattle.byteorder.specs.Endian.{big_bytes, big_number}
use Rattle.vm_base.specs.FlatMemory.{FlatMemory, bytes_at}
use Rattle.vm_base.specs.FlatLaws.{AreApart, AreFullPages}
use Rattle.vm_base.proofs.FlatLaws.{bytes_at-with_bytes, bytes_at-with_bytes_apart}
use Rattle.store_meaning.specs.Layout.{word_at}
use Rattle.store_meaning.specs.HashLayout.{Entry, Table, chain_of, entries_of}
use Rattle.store_meaning.proofs.Lists.{all_mono, map_all}
use Rattle.store_meaning.proofs.Words.{number-of_bytes}
use Rattle.store_meaning.proofs.HeapSteps.{KeepsPages}
use Rattle.page_hash.specs.declared.arrays.Arrays.{Arrays}
use Rattle.page_hash.specs.Relinking.{IsHeldBlock, AreHeldBlocks, LinksFrom, IsChainOf, Splits, turned_for, places_of}
use Rattle.page_hash.specs.ArrayRelinking.{IsOldTable, RelinksPart, SplitsPart, word_of}
use Rattle.page_hash.proofs.MapEntries.{chain_part}
use Rattle.page_hash.proofs.ChainTurns.{first_low}
use Rattle.page_hash.proofs.Cleared.{part_at}
use Rattle.page_hash.proofs.Pieces.{word_in}
use Rattle.page_hash.proofs.StoreParts.{putting, stores_in, full_then}
use Rattle.page_hash.proofs.PartRelinks.{arrays_low, turned_for_all, bucket_chain_of, low_beside, KeepsPart, AreWordsSame, words_same, turned_kept, blocks_part, old_table_on}

-- ---- words in a buffer

-- the bytes with a word at a place
abbrev pub word_set : List ℕ → ℕ → ℕ → List ℕ
word_set bytes place word = take (8 * place) bytes ++ (big_bytes 8 word ++ drop 8 (drop (8 * place) bytes))

pub word_here : (bytes : List ℕ) (place word : ℕ) → 8 * place + 8 ≤ length bytes → word < 2 ^ 64
    → word_of (word_set bytes place word) place ≡ word
word_here bytes place word room small =
    let front = take (8 * place) bytes in
    let behind = big_bytes 8 word ++ drop 8 (drop (8 * place) bytes) in
    let long : length front ≡ 8 * place = length-take-le (8 * place) bytes (omega (arith, room)) in
    let cut : drop (8 * place) (front ++ behind) ≡ behind =
    subst (λ n. drop n (front ++ behind) ≡ behind) long (drop-append_seam front behind) in
    ap (λ l. big_number 8 (take 8 l)) cut ∙ number-of_bytes word small

front_word : (front behind : List ℕ) (place : ℕ) → 8 * place + 8 ≤ length front
    → take 8 (drop (8 * place) (front ++ behind)) ≡ take 8 (drop (8 * place) front)
front_word front behind place room =
    ap (take 8) (drop-append-le (8 * place) front behind (omega (arith, room)))
    ∙ take-append-le 8 (drop (8 * place) front) behind (omega (arith, room, length-drop (8 * place) front))

-- the words in front of it stay
pub word_there : (bytes : List ℕ) (place other word : ℕ) → 8 * place + 8 ≤ length bytes → other < place
    → word_of (word_set bytes place word) other ≡ word_of bytes other
word_there bytes place other word room before =
    let front = take (8 * place) bytes in
    let long : length front ≡ 8 * place = length-take-le (8 * place) bytes (omega (arith, room)) in
    let fits : 8 * other + 8 ≤ length front = omega (arith, long, before) in
    ap (big_number 8) (front_word front (big_bytes 8 word ++ drop 8 (drop (8 * place) bytes)) other fits
    ∙ sym (front_word front (drop (8 * place) bytes) other fits)
    ∙ ap (λ l. take 8 (drop (8 * other) l)) (take-append-drop (8 * place) bytes))

-- the length stays
pub word_length : (bytes : List ℕ) (place word : ℕ) → 8 * place + 8 ≤ length bytes → length (word_set bytes place word) ≡ length bytes
word_length bytes place word room =
    omega (
      arith,
      room,
      length-append (take (8 * place) bytes) (big_bytes 8 word ++ drop 8 (drop (8 * place) bytes)),
      length-append (big_bytes 8 word) (drop 8 (drop (8 * place) bytes)),
      length-take-le (8 * place) bytes (omega (arith, room)),
      length-drop 8 (drop (8 * place) bytes),
      length-drop (8 * place) bytes,
    )

-- ---- the chains, one after another

-- what lies beside all of it reads as before
beside_all : (old new : FlatMemory) (arrays : Arrays) (table : Table) (from to : ℕ) (lows highs : List ℕ)
    → SplitsPart old new arrays table from to lows highs → KeepsPart old new arrays table from to
beside_all old new arrays table from to lows highs part other size clear first second = part.beside other size clear

-- the chain that is next may be linked anew
pub split_chain : (old mid : FlatMemory) (arrays : Arrays) (table : Table) (bucket place : ℕ) (firsts lows highs : List ℕ)
    → IsOldTable old arrays table bucket → bucket + place < arrays.buckets → place < 512 → mid.areas ≡ old.areas → KeepsPages old mid
    → SplitsPart old mid arrays table bucket (bucket + place) lows highs → firsts ≡ bytes_at old.present (arrays.old + 8 * bucket) 4096
    → IsChainOf mid (word_of firsts place) arrays.pairs arrays.buckets (bucket + place) (chain_of table (bucket + place))
split_chain old mid arrays table bucket place firsts lows highs is inside small areas keeps part read =
    let low = arrays_low arrays is.regions in
    let at : ℕ = arrays.old + 8 * (bucket + place) in
    let here : arrays.old + 8 * bucket + 8 * place ≡ at = omega arith in
    let word : word_of firsts place ≡ word_at mid at =
    word_in old.present (arrays.old + 8 * bucket) 4096 (8 * place) 8 firsts read (omega (arith, small)) (omega arith)
    ∙ ap (word_at old) here
    ∙ sym (ap (big_number 8) (part.beside at 8
    (low_beside old table bucket (bucket + place) at 8 is.blocks (omega (arith, low.1.2, inside))))) in
    subst (λ w. IsChainOf mid w arrays.pairs arrays.buckets (bucket + place) (chain_of table (bucket + place))) (sym word)
    (bucket_chain_of mid arrays table (bucket + place) (bucket + place)
    (old_table_on old mid arrays table bucket (bucket + place) is (omega arith) (omega (arith, inside)) areas keeps
    (beside_all old mid arrays table bucket (bucket + place) lows highs part)) (omega arith) inside)

-- before the first one
pub splits_begin : (memory : FlatMemory) (arrays : Arrays) (table : Table) (from : ℕ) (lows highs : List ℕ)
    → SplitsPart memory memory arrays table from (from + 0) lows highs
splits_begin memory arrays table from lows highs = record {
  beside = λ other size clear. refl;
  lower = λ bucket above below. absurd (omega (arith, above, below));
  upper = λ bucket above below. absurd (omega (arith, above, below));
}

-- one more
pub splits_more : (old mid new : FlatMemory) (arrays : Arrays) (table : Table) (from place : ℕ) (heads lows highs : List ℕ)
    → IsOldTable old arrays table from → from + place < arrays.buckets → KeepsPages old mid
    → 8 * place + 8 ≤ length lows → 8 * place + 8 ≤ length highs
    → SplitsPart old mid arrays table from (from + place) lows highs
    → Splits mid new heads arrays.buckets (from + place) (chain_of table (from + place))
    → SplitsPart old new arrays table from (from + (place + 1)) (word_set lows place (slice_index heads 0))
    (word_set highs place (slice_index heads 1))
splits_more old mid new arrays table from place heads lows highs is inside keeps room_low room_high part splits =
    let at : ℕ = from + place in
    let are : AreHeldBlocks mid (entries_of table) =
    blocks_part old mid arrays table from at is.regions (omega arith) (omega (arith, inside)) is.blocks keeps
    (beside_all old mid arrays table from at lows highs part) in
    let small : (into : ℕ) → AllByRecursion (λ at. at < 2 ^ 64) (places_of (turned_for (2 * arrays.buckets) into (chain_of table at))) =
    λ into. map_all (λ at. at < 2 ^ 64) (λ (entry : Entry). entry.at) (turned_for (2 * arrays.buckets) into (chain_of table at))
    (turned_for_all (λ (entry : Entry). entry.at < 2 ^ 64) (2 * arrays.buckets) into (chain_of table at)
    (all_mono (IsHeldBlock old) (λ (entry : Entry). entry.at < 2 ^ 64) (chain_of table at) (λ entry held. omega (arith, held.below))
    (chain_part (IsHeldBlock old) table.chains at is.blocks.held))) in
    let small_low : slice_index heads 0 < 2 ^ 64 =
    first_low new (slice_index heads 0) (2 ^ 64) _ (omega arith) splits.lower (small at) in
    let small_high : slice_index heads 1 < 2 ^ 64 =
    first_low new (slice_index heads 1) (2 ^ 64) _ (omega arith) splits.upper (small (at + arrays.buckets)) in
    let step : KeepsPart mid new arrays table at (at + 1) =
    λ other size clear first second. splits.beside other size (clear at (omega arith) (omega arith)) in
    let same : (bucket : ℕ) → bucket < at → AllByRecursion (AreWordsSame mid new) (chain_of table bucket) =
    λ bucket before. words_same mid new arrays table bucket at (at + 1) is.regions (omega arith) (omega (arith, inside)) are step
    (λ start end. omega (arith, start, before)) in
    record {
      beside = λ other size clear. splits.beside other size (clear at (omega arith) (omega arith))
          ∙ part.beside other size (λ bucket above below. clear bucket above (omega (arith, below)));
      lower = λ bucket above below. elim (cases_lt bucket at) [
        | inl before ↦
            subst (λ w. LinksFrom new w (places_of (turned_for (2 * arrays.buckets) bucket (chain_of table bucket))))
            (sym (word_there lows place (bucket - from) (slice_index heads 0) room_low (omega (arith, above, before))))
            (turned_kept mid new (word_of lows (bucket - from)) (2 * arrays.buckets) bucket (chain_of table bucket) (same bucket before)
            (part.lower bucket above before))
        | inr behind ↦
            let here : bucket ≡ at = omega (arith, behind, below) in
            let spot : bucket - from ≡ place = omega (arith, here) in
            subst (λ w. LinksFrom new w (places_of (turned_for (2 * arrays.buckets) bucket (chain_of table bucket))))
            (sym (ap (word_of (word_set lows place (slice_index heads 0))) spot
            ∙ word_here lows place (slice_index heads 0) room_low small_low))
            (subst (λ b. LinksFrom new (slice_index heads 0) (places_of (turned_for (2 * arrays.buckets) b (chain_of table b)))) (sym here)
            splits.lower)
      ];
      upper = λ bucket above below. elim (cases_lt bucket at) [
        | inl before ↦
            subst (λ w. LinksFrom new w (places_of (turned_for (2 * arrays.buckets) (bucket + arrays.buckets) (chain_of table bucket))))
            (sym (word_there highs place (bucket - from) (slice_index heads 1) room_high (omega (arith, above, before))))
            (turned_kept mid new (word_of highs (bucket - from)) (2 * arrays.buckets) (bucket + arrays.buckets) (chain_of table bucket)
            (same bucket before) (part.upper bucket above before))
        | inr behind ↦
            let here : bucket ≡ at = omega (arith, behind, below) in
            let spot : bucket - from ≡ place = omega (arith, here) in
            subst (λ w. LinksFrom new w (places_of (turned_for (2 * arrays.buckets) (bucket + arrays.buckets) (chain_of table bucket))))
            (sym (ap (word_of (word_set highs place (slice_index heads 1))) spot
            ∙ word_here highs place (slice_index heads 1) room_high small_high))
            (subst (λ b. LinksFrom new (slice_index heads 1)
            (places_of (turned_for (2 * arrays.buckets) (b + arrays.buckets) (chain_of table b)))) (sym here) splits.upper)
      ];
    }

-- ---- the two pages

pub page_relinks : (old mid : FlatMemory) (arrays : Arrays) (table : Table) (from : ℕ) (lows highs : List ℕ)
    → IsOldTable old arrays table from → from + 512 ≤ arrays.buckets → length lows ≡ 4096 → length highs ≡ 4096
    → SplitsPart old mid arrays table from (from + 512) lows highs
    → AreFullPages mid.present (arrays.new + 8 * from) (length lows)
    → AreFullPages mid.present (arrays.new + 8 * (arrays.buckets + from)) (length highs)
    → RelinksPart old (putting (putting mid (arrays.new + 8 * from) lows) (arrays.new + 8 * (arrays.buckets + from)) highs) arrays table
    from (from + 512)
page_relinks old mid arrays table from lows highs is page long_low long_high splits full_low full_high =
    let low = arrays_low arrays is.regions in
    let a : ℕ = arrays.new + 8 * from in
    let b : ℕ = arrays.new + 8 * (arrays.buckets + from) in
    let m2 : FlatMemory = putting mid a lows in
    let m3 : FlatMemory = putting m2 b highs in
    let full_then_high : AreFullPages m2.present b (length highs) =
    full_then mid m2 a (length lows) b (length highs) (stores_in mid a lows full_low) full_high in
    let low_word : (k : ℕ) → from ≤ k → k < from + 512 → word_at m3 (arrays.new + 8 * k) ≡ word_of lows (k - from) =
    λ k above below.
    let place : a + 8 * (k - from) ≡ arrays.new + 8 * k = omega (arith, above) in
    ap (big_number 8)
    (bytes_at-with_bytes_apart m2.present b highs (arrays.new + 8 * k) 8 (inr (omega (arith, below, page)))
    ∙ subst (λ at. bytes_at m2.present at 8 ≡ take 8 (drop (8 * (k - from)) lows)) place
    (part_at m2.present a (length lows) (8 * (k - from)) 8 lows (bytes_at-with_bytes mid.present a lows full_low)
    (omega (arith, above, below, long_low)))) in
    let high_word : (k : ℕ) → from ≤ k → k < from + 512 → word_at m3 (arrays.new + 8 * (arrays.buckets + k)) ≡ word_of highs (k - from) =
    λ k above below.
    let place : b + 8 * (k - from) ≡ arrays.new + 8 * (arrays.buckets + k) = omega (arith, above) in
    ap (big_number 8)
    (subst (λ at. bytes_at m3.present at 8 ≡ take 8 (drop (8 * (k - from)) highs)) place
    (part_at m3.present b (length highs) (8 * (k - from)) 8 highs (bytes_at-with_bytes m2.present b highs full_then_high)
    (omega (arith, above, below, long_high)))) in
    let same : (k : ℕ) → AllByRecursion (AreWordsSame mid m3) (chain_of table k) =
    λ k. all_mono (IsHeldBlock old) (AreWordsSame mid m3) (chain_of table k)
    (λ entry held. ap (big_number 8)
    (bytes_at-with_bytes_apart m2.present b highs entry.at 8 (inl (omega (arith, held.above, low.1.3, page, long_high)))
    ∙ bytes_at-with_bytes_apart mid.present a lows entry.at 8 (inl (omega (arith, held.above, low.1.3, page, long_low)))))
    (chain_part (IsHeldBlock old) table.chains k is.blocks.held) in
    record {
      beside = λ other size clear first second.
          bytes_at-with_bytes_apart m2.present b highs other size (page_apart b (length highs) other size long_high second)
          ∙ bytes_at-with_bytes_apart mid.present a lows other size (page_apart a (length lows) other size long_low first)
          ∙ splits.beside other size clear;
      lower = λ k above below.
          subst (λ w. LinksFrom m3 w (places_of (turned_for (2 * arrays.buckets) k (chain_of table k)))) (sym (low_word k above below))
          (turned_kept mid m3 (word_of lows (k - from)) (2 * arrays.buckets) k (chain_of table k) (same k) (splits.lower k above below));
      upper = λ k above below.
          subst (λ w. LinksFrom m3 w (places_of (turned_for (2 * arrays.buckets) (k + arrays.buckets) (chain_of table k))))
          (sym (high_word k above below))
          (turned_kept mid m3 (word_of highs (k - from)) (2 * arrays.buckets) (k + arrays.buckets) (chain_of table k) (same k)
          (splits.upper k above below));
    }
  where
    page_apart : (at n other size : ℕ) → n ≡ 4096 → AreApart at (8 * (from + 512 - from)) other size → AreApart at n other size
    page_apart at n other size long (inl below) = inl (omega (arith, below, long))
    page_apart at n other size long (inr above) = inr above
