-- How many frames a store may have taken: a bound by the blocks and the pairs at the places that
-- its map went through.
use Rattle.std.specs.Prelude.{ℕ, ◌+◌, ◌*◌, ◌/◌, ◌^◌, max, List, map, count_by, sum, fold, ◌==◌, zip}
use Rattle.std.specs.FinMap.{entries, len}
use Rattle.store_meaning.specs.Layout.{classes}
use Rattle.store_meaning.specs.HashLayout.{Pairs, pair_class}

-- a place that a store went through: its map, or the map that a refused request would have left; or
-- all pairs were taken out at once
pub data Place : Type 0 where
  At : Pairs → Place
  Cleared : Place

-- how many pairs of a map have a block of the class
abbrev pub count_of : Pairs → ℕ → ℕ
count_of pairs class = count_by (λ pair. pair_class pair.0 pair.1 == class) (entries pairs)

-- since all pairs were last taken out: for each class the most pairs with a block of it, and the
-- most pairs at all; and the greatest bound so far
pub record Reach : Type 0 where
  pub peaks : List ℕ
  pub pairs : ℕ
  pub bound : ℕ

-- the pages of blocks that were in use at their peaks together, of three arrays of 8 bytes a pair,
-- and 3
abbrev pub pages_of_peaks : List ℕ → ℕ → ℕ
pages_of_peaks peaks pairs =
    (sum (map (λ both. 2 ^ both.0 * both.1) (zip classes peaks)) + 4095) / 4096 +
    (24 * pairs + 4095) / 4096 + 3

-- with so many pages the frames are these, directory and leaf tables counted
abbrev pub frames_of_pages : ℕ → ℕ
frames_of_pages pages = 10 + pages + pages / 512

-- the peaks with the bound for them
abbrev pub with_peaks : ℕ → List ℕ → ℕ → Reach
with_peaks bound peaks pairs =
    record {
      peaks = peaks;
      pairs = pairs;
      bound =
          max bound (frames_of_pages (pages_of_peaks peaks pairs));
    }

-- no pairs yet
abbrev pub opening_reach : Reach
opening_reach = with_peaks 0 (map (λ class. 0) classes) 0

-- one more place
abbrev pub reach_step : Reach → Place → Reach
reach_step reach (At pairs) = with_peaks reach.bound
    (map (λ both. max (count_of pairs both.0) both.1) (zip classes reach.peaks))
    (max (len pairs) reach.pairs)
reach_step reach Cleared = with_peaks reach.bound (map (λ class. 0) classes) 0

-- the reach of places, one after another
abbrev pub reach_of : List Place → Reach
reach_of places = fold reach_step opening_reach places
