-- The pairs of a chain of a snapshot, block by block.
use Rattle.std.proofs.Common.{◌≡◌, ℕ, List, [], ◌∷◌, ◌++◌, map, None, refl, sym, ◌∙◌, ap, ap₂, subst, append_assoc, append-nil, arith}
use Rattle.std.specs.List.{flat_map}
use Rattle.std.specs.FinMap.{get}
use Rattle.std.proofs.lemmas.List.{map-append}
use Rattle.std.proofs.lemmas.Grind.{flat_map-append}
use Rattle.std.proofs.lemmas.List.Elements.{All-from_recursion, All-append}
use Rattle.vm_base.specs.SnapshotState.{SnapshotState, GoesOn}
use Rattle.store_meaning.specs.Layout.{word_at}
use Rattle.store_meaning.specs.HashLayout.{Entry, entry_pair}
use Rattle.store_meaning.specs.StoreSteps.{entry_cells}
use Rattle.page_hash.specs.declared.block_read.BlockRead.{BlockRead}
use Rattle.page_hash.specs.declared.found.PairsFault.{PairsFault}
use Rattle.page_hash.specs.declared.found.PairsFault.TheVariants.{Lost, NoMemory}
use Rattle.page_hash.specs.declared.gathering.Pair.{Pair}
use Rattle.page_hash.specs.Walks.{IsBlockOf, IsChainFrom}
use Rattle.page_hash.specs.Listing.{AreNotLost, IsFirstLost, StopsAmong, wants_memory}
use Rattle.page_hash.specs.Blocks.{IsBlockRead}
use Rattle.page_hash.specs.Chains.{pair_seen, IsChainRead}
use Rattle.page_hash.proofs.FrozenReads.{lost_among, lost_later, not_lost_before}

-- none of no cells was lost
pub none_kept : (old : SnapshotState) → AreNotLost old []
none_kept old = All-from_recursion (λ cell. get old.found cell ≡ None) [] tt

-- none of these and none of those
pub both_kept : (old : SnapshotState) (one two : List ℕ) → AreNotLost old one → AreNotLost old two → AreNotLost old (one ++ two)
both_kept old one two first second = All-append (λ cell. get old.found cell ≡ None) one two first second

-- a read that stops among some cells, behind others that were not lost
pub stops_inside : (old new : SnapshotState) (front cells back : List ℕ) (fault : PairsFault) → AreNotLost old front
    → StopsAmong old new cells fault → StopsAmong old new (front ++ (cells ++ back)) fault
stops_inside old new front cells back (Lost at) kept is =
    subst (λ all. IsFirstLost old new all at) (append_assoc front cells back) (lost_among old new front cells back at kept is)
stops_inside old new front cells back NoMemory kept is = tt

-- a call before it found no more
pub stops_later : (old mid new : SnapshotState) (cells : List ℕ) (fault : PairsFault) → GoesOn old mid → StopsAmong mid new cells fault
    → StopsAmong old new cells fault
stops_later old mid new cells (Lost at) goes is = lost_later old mid new cells at goes is
stops_later old mid new cells NoMemory goes is = tt

-- want of memory stops anywhere
pub stops_wanting : (old new : SnapshotState) (cells : List ℕ) (fault : PairsFault) → fault ≡ wants_memory → StopsAmong old new cells fault
stops_wanting old new cells fault is = subst (StopsAmong old new cells) (sym is) tt

-- a chain, as far as it was read
pub record IsChainSoFar (old : SnapshotState) (chain : List Entry) (at : ℕ) (before after : List Pair) : Type 0 where
  pub done : List Entry
  pub rest : List Entry
  pub parts : chain ≡ done ++ rest
  pub linked : IsChainFrom old.mem at rest
  pub read : IsChainRead old done before after

pub chain_begins : (old : SnapshotState) (chain : List Entry) (at : ℕ) (pairs : List Pair) → IsChainFrom old.mem at chain
    → IsChainSoFar old chain at pairs pairs
chain_begins old chain at pairs is = record {
  done = [];
  rest = chain;
  parts = refl;
  linked = is;
  read = record { pairs = sym (append-nil (map pair_seen pairs)); kept = none_kept old };
}

-- one block more
one_more : (old : SnapshotState) (done : List Entry) (entry : Entry) (before after : List Pair) (pair : Pair)
    → IsChainRead old done before after → pair_seen pair ≡ entry_pair entry → AreNotLost old (entry_cells entry)
    → IsChainRead old (done ++ entry ∷ []) before (after ++ pair ∷ [])
one_more old done entry before after pair read same kept = record {
  pairs = map-append pair_seen after (pair ∷ []) ∙ ap₂ (λ l p. l ++ p ∷ []) read.pairs same
      ∙ append_assoc (map pair_seen before) (map entry_pair done) (entry_pair entry ∷ [])
      ∙ ap (λ l. map pair_seen before ++ l) (sym (map-append entry_pair done (entry ∷ [])));
  kept = subst (AreNotLost old) (sym (flat_map-append entry_cells done (entry ∷ [])))
      (both_kept old (flat_map entry_cells done) (entry_cells entry ++ []) read.kept
      (both_kept old (entry_cells entry) [] kept (none_kept old)));
}

-- the block at the address was read
pub chain_next : (old mid : SnapshotState) (chain : List Entry) (at : ℕ) (before after new : List Pair) (pair : Pair)
    (block : BlockRead) → (at ≡ 0 → ⊥) → GoesOn old mid → IsChainSoFar old chain at before after
    → ((entry : Entry) → IsBlockOf mid.mem at entry → IsBlockRead mid entry block)
    → pair_seen pair ≡ (block.key.items, block.value.items) → new ≡ after ++ pair ∷ []
    → IsChainSoFar old chain block.next before new
chain_next old mid chain at before after new pair block some goes is read same added =
    subst (IsChainSoFar old chain block.next before) (sym added) (by is.done is.rest is.parts is.linked is.read)
  where
    by : (done rest : List Entry) → chain ≡ done ++ rest → IsChainFrom old.mem at rest → IsChainRead old done before after
        → IsChainSoFar old chain block.next before (after ++ pair ∷ [])
    by done [] parts linked so_far = absurd (some linked)
    by done (entry ∷ rest) parts linked so_far =
        let told = read entry (subst (λ memory. IsBlockOf memory at entry) (sym goes.mem) linked.1) in
        let next : block.next ≡ word_at old.mem at =
        told.next ∙ ap (λ memory. word_at memory entry.at) goes.mem ∙ ap (word_at old.mem) linked.1.here in
        record {
          done = done ++ entry ∷ [];
          rest = rest;
          parts = parts ∙ sym (append_assoc done (entry ∷ []) rest);
          linked = subst (λ a. IsChainFrom old.mem a rest) (sym next) linked.2;
          read = one_more old done entry before after pair so_far (same ∙ ap₂ (λ (k v : List ℕ). (k, v)) told.key told.value)
              (not_lost_before old mid (entry_cells entry) goes told.kept);
        }

-- the block at the address was not read
pub chain_stops : (old mid new : SnapshotState) (chain : List Entry) (at : ℕ) (before after : List Pair) (fault : PairsFault)
    → (at ≡ 0 → ⊥) → GoesOn old mid → IsChainSoFar old chain at before after
    → ((entry : Entry) → IsBlockOf mid.mem at entry → StopsAmong mid new (entry_cells entry) fault)
    → StopsAmong old new (flat_map entry_cells chain) fault
chain_stops old mid new chain at before after fault some goes is stops = by is.done is.rest is.parts is.linked is.read
  where
    by : (done rest : List Entry) → chain ≡ done ++ rest → IsChainFrom old.mem at rest → IsChainRead old done before after
        → StopsAmong old new (flat_map entry_cells chain) fault
    by done [] parts linked so_far = absurd (some linked)
    by done (entry ∷ rest) parts linked so_far =
        let told = stops entry (subst (λ memory. IsBlockOf memory at entry) (sym goes.mem) linked.1) in
        subst (λ cells. StopsAmong old new cells fault)
        (sym (ap (flat_map entry_cells) parts ∙ flat_map-append entry_cells done (entry ∷ rest)))
        (stops_inside old new (flat_map entry_cells done) (entry_cells entry) (flat_map entry_cells rest) fault so_far.kept
        (stops_later old mid new (entry_cells entry) fault goes told))

-- no block is left
pub chain_ends : (old : SnapshotState) (chain : List Entry) (at : ℕ) (before after : List Pair) → at ≡ 0
    → IsChainSoFar old chain at before after → IsChainRead old chain before after
chain_ends old chain at before after end is = by is.rest is.parts is.linked
  where
    by : (rest : List Entry) → chain ≡ is.done ++ rest → IsChainFrom old.mem at rest → IsChainRead old chain before after
    by [] parts linked = subst (λ l. IsChainRead old l before after) (sym (parts ∙ append-nil is.done)) is.read
    by (entry ∷ rest) parts linked = absurd (omega (arith, linked.0, end))
