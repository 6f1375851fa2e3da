-- Bytes that are read and stored piece by piece.
use Rattle.std.proofs.Common.{◌≡◌, ℕ, ◌+◌, ◌-◌, ◌≤◌, List, ◌++◌, length, take, drop, sym, ◌∙◌, ap, arith}
use Rattle.std.proofs.lemmas.List.{length-take-le, length-drop, take-take, drop-take, take-append-drop}
use Rattle.std.proofs.lemmas.Slice.{take-put_mid}
use Rattle.vm_base.specs.FlatMemory.{PageMap, bytes_at}
use Rattle.vm_base.specs.FlatStep.{with_bytes}
use Rattle.vm_base.proofs.FlatBytes.{bytes_at-split}
use Rattle.vm_base.proofs.FlatPages.{with_bytes-append}
use borrow.Rule.Slice.PartMut.{mid_of, put_mid}

-- a part of a list has the length that was asked for
pub length-part : (done piece : ℕ) (xs : List ℕ) → done + piece ≤ length xs → length (take (done + piece - done) (drop done xs)) ≡ piece
length-part done piece xs fits =
    let k : done + piece - done ≡ piece = omega arith in
    let room : piece ≤ length (drop done xs) = omega (arith, length-drop done xs) in
    ap (λ n. length (take n (drop done xs))) k ∙ length-take-le piece (drop done xs) room

-- a piece read behind the bytes so far
pub read-more : (pages : PageMap) (addr done piece : ℕ) (buf new : List ℕ) → done + piece ≤ length buf → length new ≡ length (mid_of done (done + piece - done) buf)
    → new ≡ bytes_at pages (addr + done) (length (mid_of done (done + piece - done) buf)) → take done buf ≡ bytes_at pages addr done
    → take (done + piece) (put_mid done (done + piece - done) buf new) ≡ bytes_at pages addr (done + piece)
read-more pages addr done piece buf new fits size read before =
    let whole : length (mid_of done (done + piece - done) buf) ≡ piece = length-part done piece buf fits in
    take-put_mid done (done + piece - done) buf new (done + piece) (omega (arith, size, whole)) (omega arith)
    ∙ ap (λ b. b ++ new) before ∙ ap (λ b. bytes_at pages addr done ++ b) (read ∙ ap (bytes_at pages (addr + done)) whole)
    ∙ sym (bytes_at-split pages addr done piece)

-- bytes and a piece behind them
take-more : (done piece : ℕ) (bytes : List ℕ) → take (done + piece) bytes ≡ take done bytes ++ take piece (drop done bytes)
take-more done piece bytes =
    let below : done ≤ done + piece = omega arith in
    sym (take-append-drop done (take (done + piece) bytes)) ∙ ap (λ front. front ++ drop done (take (done + piece) bytes)) (take-take done (done + piece) bytes below)
    ∙ ap (λ back. take done bytes ++ back) (drop-take done piece bytes)

-- a piece stored behind the bytes so far
pub store-more : (pages : PageMap) (addr done piece : ℕ) (bytes : List ℕ) → done + piece ≤ length bytes
    → with_bytes (with_bytes pages addr (take done bytes)) (addr + done) (take (done + piece - done) (drop done bytes)) ≡ with_bytes pages addr (take (done + piece) bytes)
store-more pages addr done piece bytes fits =
    let front : length (take done bytes) ≡ done = length-take-le done bytes (omega arith) in
    let part : done + piece - done ≡ piece = omega arith in
    ap (λ n. with_bytes (with_bytes pages addr (take done bytes)) (addr + done) (take n (drop done bytes))) part
    ∙ ap (λ n. with_bytes (with_bytes pages addr (take done bytes)) (addr + n) (take piece (drop done bytes))) (sym front)
    ∙ sym (with_bytes-append pages addr (take done bytes) (take piece (drop done bytes))) ∙ ap (with_bytes pages addr) (sym (take-more done piece bytes))
