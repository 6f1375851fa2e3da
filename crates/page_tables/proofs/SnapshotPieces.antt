-- A snapshot's bytes that are read piece by piece.
use Rattle.std.proofs.Common.{◌≡◌, ℕ, ◌+◌, ◌-◌, ◌<◌, ◌≤◌, List, length, take, Ok, Err, refl, sym, ◌∙◌, ap, subst, arith}
use Rattle.std.proofs.lemmas.List.{take_all}
use Rattle.vm_base.specs.declared.refusals.Lost.{Lost as Loss}
use Rattle.kernel_meaning.specs.FrameLaw.{losses_of}
use Rattle.page_tables.specs.Sides.{Sides}
use Rattle.page_tables.specs.Accesses.{lost_in_range, IsSnapshotRead}
use Rattle.page_tables.proofs.PieceByPiece.{length-part, read-more}
use Rattle.page_tables.proofs.RangeLosses.{unlost-more, lost-behind}
use borrow.Rule.Slice.PartMut.{mid_of, put_mid}

-- nothing was read yet
pub read-nothing : (sides : Sides) (n addr : ℕ) (buf : List ℕ) → IsSnapshotRead sides n addr 0 (Ok tt) (take 0 buf)
read-nothing sides n addr buf = record { unlost = refl; read = λ pages lives. refl; lost = tt }

module _ (sides : Sides) (n addr done piece : ℕ) (buf new : List ℕ) (some : 0 < piece) (fits : done + piece ≤ length buf)
    (before : IsSnapshotRead sides n addr done (Ok tt) (take done buf)) where
  size : length (mid_of done (done + piece - done) buf) ≡ piece
  size = length-part done piece buf fits

  -- a piece was read behind the bytes so far
  pub snap-more : length new ≡ length (mid_of done (done + piece - done) buf) → IsSnapshotRead sides n (addr + done) (length (mid_of done (done + piece - done) buf)) (Ok tt) new
      → IsSnapshotRead sides n addr (done + piece) (Ok tt) (take (done + piece) (put_mid done (done + piece - done) buf new))
  snap-more as_many read = record {
    unlost = unlost-more (losses_of sides.leaves) n addr done piece some before.unlost (ap (lost_in_range sides.leaves n (addr + done)) (sym size) ∙ read.unlost);
    read = λ pages lives. read-more pages addr done piece buf new fits as_many (read.read pages lives) (before.read pages lives);
    lost = tt;
  }

  -- a piece behind them is lost
  pub snap-lost : (whole : List ℕ) (lost : Loss) (end : ℕ) → length buf ≡ end → IsSnapshotRead sides n (addr + done) (length (mid_of done (done + piece - done) buf)) (Err lost) new
      → IsSnapshotRead sides n addr end (Err lost) whole
  snap-lost whole lost end whole_size read = record {
    unlost = tt;
    read = tt;
    lost = lost-behind (losses_of sides.leaves) n addr done piece end lost.at some (omega (arith, fits, whole_size)) before.unlost
        (ap (lost_in_range sides.leaves n (addr + done)) (sym size) ∙ read.lost);
  }

-- all bytes were read
pub snap-whole : (sides : Sides) (n addr done size : ℕ) (buf : List ℕ) → done ≡ size → length buf ≡ size
    → IsSnapshotRead sides n addr done (Ok tt) (take done buf) → IsSnapshotRead sides n addr size (Ok tt) buf
snap-whole sides n addr done size buf all whole read =
    subst (λ k. IsSnapshotRead sides n addr k (Ok tt) buf) all (subst (λ bytes. IsSnapshotRead sides n addr done (Ok tt) bytes) (take_all done buf (omega (arith, all, whole))) read)
