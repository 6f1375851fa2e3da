-- The pairs of the buckets of a snapshot, page by page.
use Rattle.std.proofs.Common.{◌≡◌, ℕ, zero, suc, ◌+◌, ◌-◌, ◌*◌, ◌%◌, ◌<◌, ◌≤◌, List, [], ◌∷◌, ◌++◌, length, take, drop, map, refl, sym, ◌∙◌, ap, ap₂, subst, append_assoc, append-nil, arith, length-append}
use Rattle.std.specs.List.{flat_map, AllByRecursion, range_with_len}
use Rattle.std.proofs.lemmas.List.{map-append, length-take-le, take-append-drop}
use Rattle.std.proofs.lemmas.Grind.{flat_map-append}
use Rattle.byteorder.specs.Endian.{big_number}
use Rattle.vm_base.specs.Places.{cells_of_range}
use Rattle.vm_base.specs.FlatMemory.{FlatMemory, bytes_at}
use Rattle.vm_base.specs.SnapshotState.{SnapshotState, GoesOn}
use Rattle.store_meaning.specs.Layout.{word_at}
use Rattle.store_meaning.specs.HashLayout.{Entry, entry_pair}
use Rattle.store_meaning.specs.StoreSteps.{entry_cells}
use Rattle.page_hash.specs.declared.found.PairsFault.{PairsFault}
use Rattle.page_hash.specs.declared.gathering.Pair.{Pair}
use Rattle.page_hash.specs.Walks.{IsChainFrom, HasChain}
use Rattle.page_hash.specs.Listing.{AreNotLost, StopsAmong}
use Rattle.page_hash.specs.Chains.{pair_seen, IsChainRead, AreLinkedFrom, AreChainsOf, HasChains, part_cells, IsPartRead}
use Rattle.page_hash.proofs.Pieces.{word_in}
use Rattle.page_hash.proofs.FrozenReads.{not_lost_before}
use Rattle.page_hash.proofs.CellRanges.{cell_at, cells_of_some}
use Rattle.page_hash.proofs.ListedChains.{none_kept, both_kept, stops_inside, stops_later}

-- the first n of these buckets, and those behind them
pub linked_take : (memory : FlatMemory) (n at : ℕ) (chains : List (List Entry)) → AreLinkedFrom memory at chains
    → AreLinkedFrom memory at (take n chains)
linked_take memory zero at chains linked = tt
linked_take memory (suc n) at [] linked = tt
linked_take memory (suc n) at (chain ∷ chains) linked = (linked.0, linked_take memory n (at + 8) chains linked.1)

pub linked_drop : (memory : FlatMemory) (n at : ℕ) (chains : List (List Entry)) → AreLinkedFrom memory at chains
    → AreLinkedFrom memory (at + 8 * n) (drop n chains)
linked_drop memory zero at chains linked =
    let same : at ≡ at + 8 * 0 = omega arith in subst (λ a. AreLinkedFrom memory a chains) same linked
linked_drop memory (suc n) at [] linked = tt
linked_drop memory (suc n) at (chain ∷ chains) linked =
    let same : at + 8 + 8 * n ≡ at + 8 * suc n = omega arith in
    subst (λ a. AreLinkedFrom memory a (drop n chains)) same (linked_drop memory n (at + 8) chains linked.1)

-- one of these buckets
pub chain_at : (memory : FlatMemory) (at most k : ℕ) (chains : List (List Entry)) → k < length chains → AreLinkedFrom memory at chains
    → AllByRecursion (λ chain. length chain ≤ most) chains → HasChain memory (word_at memory (at + 8 * k)) most
chain_at memory at most k [] inside linked few = absurd (omega (arith, inside))
chain_at memory at most zero (chain ∷ chains) inside linked few =
    let same : at ≡ at + 8 * 0 = omega arith in
    record { chain = chain; is = subst (λ a. IsChainFrom memory (word_at memory a) chain) same linked.0; few = few.0 }
chain_at memory at most (suc k) (chain ∷ chains) inside linked few =
    let same : at + 8 + 8 * k ≡ at + 8 * suc k = omega arith in
    subst (λ a. HasChain memory (word_at memory a) most) same
    (chain_at memory (at + 8) most k chains (omega (arith, inside)) linked.1 few.1)

pub has_chain_at : (memory : FlatMemory) (at n most k : ℕ) → HasChains memory at n most → k < n
    → HasChain memory (word_at memory (at + 8 * k)) most
has_chain_at memory at n most k has inside =
    chain_at memory at most k has.chains (omega (arith, inside, has.are.many)) has.are.linked has.few

pub part_cells-append : (at : ℕ) (one two : List (List Entry))
    → part_cells at (one ++ two) ≡ part_cells at one ++ part_cells (at + 8 * length one) two
part_cells-append at [] two = let same : at ≡ at + 8 * 0 = omega arith in ap (λ a. part_cells a two) same
part_cells-append at (chain ∷ one) two =
    let here = cells_of_range at 8 ++ flat_map entry_cells chain in
    let same : at + 8 + 8 * length one ≡ at + 8 * suc (length one) = omega arith in
    ap (λ l. here ++ l)
    (part_cells-append (at + 8) one two ∙ ap (λ a. part_cells (at + 8) one ++ part_cells a two) same)
    ∙ sym (append_assoc here (part_cells (at + 8) one) (part_cells (at + 8 * suc (length one)) two))

-- the pairs of two parts, one behind the other
pub parts_on : (old : SnapshotState) (at : ℕ) (one two : List (List Entry)) (before mid after : List Pair)
    → IsPartRead old at one before mid → IsPartRead old (at + 8 * length one) two mid after → IsPartRead old at (one ++ two) before after
parts_on old at one two before mid after first second =
    let ones = map entry_pair (flat_map (λ chain. chain) one) in
    let twos = map entry_pair (flat_map (λ chain. chain) two) in record {
      pairs = second.pairs ∙ ap (λ l. l ++ twos) first.pairs ∙ append_assoc (map pair_seen before) ones twos
          ∙ ap (λ l. map pair_seen before ++ l)
          (sym (ap (map entry_pair) (flat_map-append (λ chain. chain) one two)
          ∙ map-append entry_pair (flat_map (λ chain. chain) one) (flat_map (λ chain. chain) two)));
      kept = subst (AreNotLost old) (sym (part_cells-append at one two))
          (both_kept old (part_cells at one) (part_cells (at + 8 * length one) two) first.kept second.kept);
    }

-- the buckets of a part, as far as they were read: k of them
pub record IsPartSoFar (old : SnapshotState) (at : ℕ) (chains : List (List Entry)) (k : ℕ) (before after : List Pair) : Type 0 where
  pub done : List (List Entry)
  pub rest : List (List Entry)
  pub parts : chains ≡ done ++ rest
  pub many : length done ≡ k
  pub linked : AreLinkedFrom old.mem (at + 8 * k) rest
  pub read : IsPartRead old at done before after

pub part_begins : (old : SnapshotState) (at k : ℕ) (chains : List (List Entry)) (pairs : List Pair) → k ≡ 0
    → AreLinkedFrom old.mem at chains → IsPartSoFar old at chains k pairs pairs
part_begins old at k chains pairs first linked =
    let same : at ≡ at + 8 * k = omega (arith, first) in record {
      done = [];
      rest = chains;
      parts = refl;
      many = sym first;
      linked = subst (λ a. AreLinkedFrom old.mem a chains) same linked;
      read = record { pairs = sym (append-nil (map pair_seen pairs)); kept = none_kept old };
    }

-- n buckets more
pub part_next : (old : SnapshotState) (at : ℕ) (chains : List (List Entry)) (k n : ℕ) (before mid after : List Pair)
    → IsPartSoFar old at chains k before mid → k + n ≤ length chains
    → ((next : List (List Entry)) → AreChainsOf old.mem (at + 8 * k) n next → IsPartRead old (at + 8 * k) next mid after)
    → IsPartSoFar old at chains (k + n) before after
part_next old at chains k n before mid after is few read =
    let next = take n is.rest in
    let rest = drop n is.rest in
    let room : n ≤ length is.rest = omega (arith, ap length is.parts, length-append is.done is.rest, is.many, few) in
    let many : length next ≡ n = length-take-le n is.rest room in
    let told = read next (record { many = many; linked = linked_take old.mem n (at + 8 * k) is.rest is.linked }) in
    let place : at + 8 * k + 8 * n ≡ at + 8 * (k + n) = omega arith in record {
      done = is.done ++ next;
      rest = rest;
      parts = is.parts ∙ ap (λ l. is.done ++ l) (sym (take-append-drop n is.rest)) ∙ sym (append_assoc is.done next rest);
      many = omega (arith, length-append is.done next, is.many, many);
      linked = subst (λ a. AreLinkedFrom old.mem a rest) place (linked_drop old.mem n (at + 8 * k) is.rest is.linked);
      read = parts_on old at is.done next before mid after is.read
          (subst (λ m. IsPartRead old (at + 8 * m) next mid after) (sym is.many) told);
    }

-- the next n buckets were not read
pub part_stops : (old new : SnapshotState) (at : ℕ) (chains : List (List Entry)) (k n : ℕ) (before after : List Pair) (fault : PairsFault)
    → IsPartSoFar old at chains k before after → k + n ≤ length chains
    → ((next : List (List Entry)) → AreChainsOf old.mem (at + 8 * k) n next → StopsAmong old new (part_cells (at + 8 * k) next) fault)
    → StopsAmong old new (part_cells at chains) fault
part_stops old new at chains k n before after fault is few stops =
    let next = take n is.rest in
    let rest = drop n is.rest in
    let room : n ≤ length is.rest = omega (arith, ap length is.parts, length-append is.done is.rest, is.many, few) in
    let told = stops next
    (record { many = length-take-le n is.rest room; linked = linked_take old.mem n (at + 8 * k) is.rest is.linked }) in
    let whole : part_cells at chains
    ≡ part_cells at is.done ++ (part_cells (at + 8 * k) next ++ part_cells (at + 8 * k + 8 * length next) rest) =
    ap (part_cells at) (is.parts ∙ ap (λ l. is.done ++ l) (sym (take-append-drop n is.rest)))
    ∙ part_cells-append at is.done (next ++ rest)
    ∙ ap (λ m. part_cells at is.done ++ part_cells (at + 8 * m) (next ++ rest)) is.many
    ∙ ap (λ l. part_cells at is.done ++ l) (part_cells-append (at + 8 * k) next rest) in
    subst (λ cells. StopsAmong old new cells fault) (sym whole)
    (stops_inside old new (part_cells at is.done) (part_cells (at + 8 * k) next) (part_cells (at + 8 * k + 8 * length next) rest) fault
    is.read.kept told)

-- all of them were read
pub part_ends : (old : SnapshotState) (at : ℕ) (chains : List (List Entry)) (k : ℕ) (before after : List Pair)
    → IsPartSoFar old at chains k before after → k ≡ length chains → IsPartRead old at chains before after
part_ends old at chains k before after is all = by is.rest is.parts
  where
    by : (rest : List (List Entry)) → chains ≡ is.done ++ rest → IsPartRead old at chains before after
    by [] parts = subst (λ l. IsPartRead old at l before after) (sym (parts ∙ append-nil is.done)) is.read
    by (chain ∷ rest) parts =
        absurd (omega (arith, ap length parts, length-append is.done (chain ∷ rest), is.many, all))

-- the words of a page lie in one cell
pub bucket_cell : (page bucket : ℕ) → page % 4096 ≡ 0 → bucket < 512
    → cells_of_range (page + 8 * bucket) 8 ≡ cells_of_range page 4096
bucket_cell page bucket aligned small =
    let first : cell_at (page + 8 * bucket) ≡ cell_at page = omega (arith, aligned, small) in
    let last : cell_at (page + 8 * bucket + 8 - 1) ≡ cell_at (page + 4096 - 1) = omega (arith, aligned, small) in
    cells_of_some (page + 8 * bucket) 8 (omega arith)
    ∙ ap₂ (λ a b. range_with_len a (b + 1 - a)) first last
    ∙ sym (cells_of_some page 4096 (omega arith))

-- a bucket's word in its page
pub bucket_word : (memory : FlatMemory) (page bucket : ℕ) (words : List ℕ) → words ≡ bytes_at memory.present page 4096 → bucket < 512
    → big_number 8 (take (4096 - 8 * bucket) (drop (8 * bucket) words)) ≡ word_at memory (page + 8 * bucket)
bucket_word memory page bucket words read small =
    word_in memory.present page 4096 (8 * bucket) (4096 - 8 * bucket) words read (omega (arith, small)) (omega (arith, small))

-- one bucket, whose word was read with its page
pub bucket_read : (old mid : SnapshotState) (page bucket word : ℕ) (before after : List Pair) → page % 4096 ≡ 0 → bucket < 512
    → GoesOn old mid → AreNotLost old (cells_of_range page 4096) → word ≡ word_at old.mem (page + 8 * bucket)
    → ((chain : List Entry) → IsChainFrom mid.mem word chain → IsChainRead mid chain before after)
    → (next : List (List Entry)) → AreChainsOf old.mem (page + 8 * bucket) 1 next → IsPartRead old (page + 8 * bucket) next before after
bucket_read old mid page bucket word before after aligned small goes kept read told [] is = absurd (omega (arith, is.many))
bucket_read old mid page bucket word before after aligned small goes kept read told (chain ∷ other ∷ more) is =
    absurd (omega (arith, is.many))
bucket_read old mid page bucket word before after aligned small goes kept read told (chain ∷ []) is =
    let at = page + 8 * bucket in
    let linked = subst (λ w. IsChainFrom old.mem w chain) (sym read) is.linked.0 in
    let said = told chain (subst (λ memory. IsChainFrom memory word chain) (sym goes.mem) linked) in
    let bucket_kept = subst (AreNotLost old) (sym (bucket_cell page bucket aligned small)) kept in record {
      pairs = said.pairs ∙ ap (λ l. map pair_seen before ++ map entry_pair l) (sym (append-nil chain));
      kept = both_kept old (cells_of_range at 8 ++ flat_map entry_cells chain) []
          (both_kept old (cells_of_range at 8) (flat_map entry_cells chain) bucket_kept
          (not_lost_before old mid (flat_map entry_cells chain) goes said.kept))
          (none_kept old);
    }

-- one whose chain was not read to its end
pub bucket_stops : (old mid new : SnapshotState) (page bucket word : ℕ) (fault : PairsFault) → page % 4096 ≡ 0 → bucket < 512
    → GoesOn old mid → AreNotLost old (cells_of_range page 4096) → word ≡ word_at old.mem (page + 8 * bucket)
    → ((chain : List Entry) → IsChainFrom mid.mem word chain → StopsAmong mid new (flat_map entry_cells chain) fault)
    → (next : List (List Entry)) → AreChainsOf old.mem (page + 8 * bucket) 1 next
    → StopsAmong old new (part_cells (page + 8 * bucket) next) fault
bucket_stops old mid new page bucket word fault aligned small goes kept read told [] is = absurd (omega (arith, is.many))
bucket_stops old mid new page bucket word fault aligned small goes kept read told (chain ∷ other ∷ more) is =
    absurd (omega (arith, is.many))
bucket_stops old mid new page bucket word fault aligned small goes kept read told (chain ∷ []) is =
    let at = page + 8 * bucket in
    let cells = flat_map entry_cells chain in
    let linked = subst (λ w. IsChainFrom old.mem w chain) (sym read) is.linked.0 in
    let said = told chain (subst (λ memory. IsChainFrom memory word chain) (sym goes.mem) linked) in
    let bucket_kept = subst (AreNotLost old) (sym (bucket_cell page bucket aligned small)) kept in
    subst (λ all. StopsAmong old new all fault) (sym (append_assoc (cells_of_range at 8) cells []))
    (stops_inside old new (cells_of_range at 8) cells [] fault bucket_kept (stops_later old mid new cells fault goes said))

-- where the page is not read, no bucket of it is
pub page_stops : (old new : SnapshotState) (page : ℕ) (chains : List (List Entry)) (fault : PairsFault) → page % 4096 ≡ 0
    → AreChainsOf old.mem page 512 chains → StopsAmong old new (cells_of_range page 4096) fault
    → StopsAmong old new (part_cells page chains) fault
page_stops old new page [] fault aligned are stops = absurd (omega (arith, are.many))
page_stops old new page (chain ∷ chains) fault aligned are stops =
    let cells = flat_map entry_cells chain in
    let more = part_cells (page + 8) chains in
    let none : page ≡ page + 8 * 0 = omega arith in
    let same : cells_of_range page 4096 ≡ cells_of_range page 8 =
    sym (bucket_cell page 0 aligned (omega arith)) ∙ ap (λ a. cells_of_range a 8) (sym none) in
    subst (λ all. StopsAmong old new all fault) (sym (append_assoc (cells_of_range page 8) cells more))
    (stops_inside old new [] (cells_of_range page 8) (cells ++ more) fault (none_kept old)
    (subst (λ all. StopsAmong old new all fault) same stops))
