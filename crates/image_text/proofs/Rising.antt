-- Pairs in rising order, and one more.
use Rattle.std.proofs.Common.{ℕ, ◌<◌, ◌≤◌, zero, suc, get_or, List, [], ◌∷◌, ◌++◌, length, arith, length-append}
use Rattle.std.specs.List.{AllByRecursion}
use Rattle.image_text.specs.Image.{AreKeysRising, IsBehind, FitsImage, HasImage}

AreKeysRising-push : (pairs : List (List ℕ × List ℕ)) (pair : List ℕ × List ℕ) → AreKeysRising pairs →
    IsBehind pairs pair.0 → AreKeysRising (pairs ++ pair ∷ [])
AreKeysRising-push [] pair h behind = tt
AreKeysRising-push (p ∷ []) pair h behind = (behind, tt)
AreKeysRising-push (p ∷ q ∷ pairs) pair h behind = (h.0, AreKeysRising-push (q ∷ pairs) pair h.1 behind)

each-push : (pairs : List (List ℕ × List ℕ)) (pair : List ℕ × List ℕ) →
    AllByRecursion FitsImage pairs → FitsImage pair → AllByRecursion FitsImage (pairs ++ pair ∷ [])
each-push [] pair h fits = (fits, tt)
each-push (p ∷ pairs) pair h fits = (h.0, each-push pairs pair h.1 fits)

pub HasImage-push : (pairs : List (List ℕ × List ℕ)) (key value : List ℕ) → HasImage pairs →
    length pairs < 268435456 → IsBehind pairs key → length key ≤ 65536 → length value ≤ 1048576 →
    HasImage (pairs ++ (key, value) ∷ [])
HasImage-push pairs key value h fewer behind key_fits value_fits = record {
  few = omega (arith, fewer, length-append pairs ((key, value) ∷ []));
  rising = AreKeysRising-push pairs (key, value) h.rising behind;
  each = each-push pairs (key, value) h.each (key_fits, value_fits);
}

-- each pair is within the limits
pub fits_at : (pairs : List (List ℕ × List ℕ)) (i : ℕ) (d : List ℕ × List ℕ) → i < length pairs →
    AllByRecursion FitsImage pairs → FitsImage (get_or pairs i d)
fits_at [] i d lt h = absurd (omega (arith, lt))
fits_at (p ∷ pairs) zero d lt h = h.0
fits_at (p ∷ pairs) (suc i) d lt h = fits_at pairs i d (omega (arith, lt)) h.1
