-- The hash of a key that is read piece by piece.
use Rattle.std.proofs.Common.{◌≡◌, ℕ, ◌+◌, ◌-◌, ◌≤◌, List, ◌++◌, length, take, drop, fold, sym, ◌∙◌, ap, arith, length-append}
use Rattle.std.proofs.Math.Seq.{take-append_seam}
use Rattle.std.proofs.lemmas.List.{length-take-le, length-drop}
use Rattle.std.proofs.lemmas.List.Sums.{fold-append}
use Rattle.byteorder.specs.Endian.{big_number}
use Rattle.byteorder.specs.Numbers.{big_from-take}
use Rattle.vm_base.specs.FlatMemory.{FlatMemory, PageMap, bytes_at}
use Rattle.vm_base.proofs.FlatBytes.{bytes_at-split, length-bytes_at}
use Rattle.store_meaning.specs.Layout.{word_at}
use Rattle.store_meaning.specs.HashLayout.{Entry, hash_of, hash_step}
use Rattle.page_hash.specs.Relinking.{IsHeldBlock}
use Rattle.page_hash.proofs.FrontReads.{part_in, number_in}

-- a piece that was read into the front of a buffer
pub front_read : (present : PageMap) (at size : ℕ) (old new : List ℕ) → size ≤ length old
    → new ≡ bytes_at present at (length (take size old)) → take size (new ++ drop size old) ≡ bytes_at present at size
front_read present at size old new room read =
    let is : new ≡ bytes_at present at size = read ∙ ap (bytes_at present at) (length-take-le size old room) in
    let long : length new ≡ size = ap length is ∙ length-bytes_at present at size in
    ap (λ n. take n (new ++ drop size old)) (sym long) ∙ take-append_seam new (drop size old) ∙ is

-- so the buffer keeps its length
pub front_kept : (size : ℕ) (old new : List ℕ) → size ≤ length old → length new ≡ length (take size old)
    → length (new ++ drop size old) ≡ length old
front_kept size old new room long =
    omega (arith, length-append new (drop size old), length-drop size old, length-take-le size old room, long)

-- the hash of one piece more
pub hash_more : (present : PageMap) (addr done size hash on : ℕ) (piece : List ℕ) → on ≡ fold hash_step hash (bytes_at present addr done)
    → piece ≡ bytes_at present (addr + done) size → fold hash_step on piece ≡ fold hash_step hash (bytes_at present addr (done + size))
hash_more present addr done size hash on piece so_far read =
    ap (λ h. fold hash_step h piece) so_far ∙ ap (fold hash_step (fold hash_step hash (bytes_at present addr done))) read
    ∙ sym (fold-append hash_step hash (bytes_at present addr done) (bytes_at present (addr + done) size))
    ∙ ap (fold hash_step hash) (sym (bytes_at-split present addr done size))

-- the hash of a key, whose first part was read
pub key_hashed : (memory : FlatMemory) (entry : Entry) (first hash : ℕ) → IsHeldBlock memory entry → first ≤ length entry.key
    → hash ≡ fold hash_step (fold hash_step 14695981039346656037 (bytes_at memory.present (entry.at + 16) first))
    (bytes_at memory.present (entry.at + 16 + first) (length entry.key - first))
    → hash ≡ hash_of entry.key
key_hashed memory entry first hash is few read =
    let whole : first + (length entry.key - first) ≡ length entry.key = omega (arith, few) in
    read
    ∙ sym (fold-append hash_step 14695981039346656037 (bytes_at memory.present (entry.at + 16) first)
    (bytes_at memory.present (entry.at + 16 + first) (length entry.key - first)))
    ∙ ap (fold hash_step 14695981039346656037)
    (sym (bytes_at-split memory.present (entry.at + 16) first (length entry.key - first))
    ∙ ap (bytes_at memory.present (entry.at + 16)) whole ∙ is.holds.key)

-- what the front of a block says, where it was read into the front of a buffer
pub next_said : (memory : FlatMemory) (at size : ℕ) (front : List ℕ) → 16 ≤ size → size ≤ length front
    → take size front ≡ bytes_at memory.present at size → big_number 8 front ≡ word_at memory at
next_said memory at size front some room read =
    let here : at + 0 ≡ at = omega arith in
    number_in memory.present at size 0 8 front room read (omega (arith, some)) ∙ ap (λ a. big_number 8 (bytes_at memory.present a 8)) here

pub length_said : (memory : FlatMemory) (entry : Entry) (at size m : ℕ) (front : List ℕ) → entry.at ≡ at → IsHeldBlock memory entry
    → 16 ≤ size → size ≤ length front → take size front ≡ bytes_at memory.present at size → 4 ≤ m
    → big_number 4 (take m (drop 8 front)) ≡ length entry.key
length_said memory entry at size m front here is some room read more =
    big_from-take 0 4 m (drop 8 front) more
    ∙ number_in memory.present at size 8 4 front room read (omega (arith, some))
    ∙ ap (λ a. big_number 4 (bytes_at memory.present (a + 8) 4)) (sym here) ∙ is.holds.key_length

-- and so the hash of the key
pub hash_said : (memory : FlatMemory) (entry : Entry) (at size first begun hash : ℕ) (front : List ℕ) → entry.at ≡ at
    → IsHeldBlock memory entry → 16 + first ≤ size → size ≤ length front → take size front ≡ bytes_at memory.present at size
    → first ≤ length entry.key → begun ≡ fold hash_step 14695981039346656037 (take (16 + first - 16) (drop 16 front))
    → hash ≡ fold hash_step begun (bytes_at memory.present (at + (16 + first)) (length entry.key - first)) → hash ≡ hash_of entry.key
hash_said memory entry at size first begun hash front here is fits room read few front_hashed rest_hashed =
    let some : 16 + first - 16 ≡ first = omega arith in
    let place : at + (16 + first) ≡ entry.at + 16 + first = omega (arith, here) in
    let key : take (16 + first - 16) (drop 16 front) ≡ bytes_at memory.present (entry.at + 16) first =
    ap (λ n. take n (drop 16 front)) some ∙ part_in memory.present at size 16 first front room read fits
    ∙ ap (λ a. bytes_at memory.present (a + 16) first) (sym here) in
    key_hashed memory entry first hash is few
    (rest_hashed
    ∙ ap (λ h. fold hash_step h (bytes_at memory.present (at + (16 + first)) (length entry.key - first)))
    (front_hashed ∙ ap (fold hash_step 14695981039346656037) key)
    ∙ ap (λ a. fold hash_step (fold hash_step 14695981039346656037 (bytes_at memory.present (entry.at + 16) first))
    (bytes_at memory.present a (length entry.key - first))) place)
