-- Several lines that share one region, and how one of them or all of them change.

use Rattle.std.specs.Prelude.{◌≡◌, ◌≢◌, ℕ, ◌+◌, ◌<◌, List, length, slice_index_or}
use Rattle.std.specs.List.{sum_by}
use Rattle.cell_pool.specs.Places.{Apart}
use Rattle.cell_pool.specs.Region.{Region, Line, size, places, len_of, IsLine}
use Rattle.cell_pool.specs.Steps.{IsKept}

-- the line shares no place with any of the lines
pub record IsApartFromEach (r : Region) (ls : List Line) (l : Line) : Type 0 where
  pub each : (k : ℕ) (d : Line) → k < length ls → Apart (places r (slice_index_or ls k d)) (places r l)

-- each of the lines is one of the region, and no two of them share a place
pub record ShareRegion (r : Region) (ls : List Line) : Type 0 where
  pub each : (k : ℕ) (d : Line) → k < length ls → IsLine r (slice_index_or ls k d)
  pub apart : (j k : ℕ) (d e : Line) → j < length ls → k < length ls → j ≢ k → Apart (places r (slice_index_or ls j d)) (places r (slice_index_or ls k e))

-- how many places the lines have
abbrev pub len_of_all : List Line → ℕ
len_of_all ls = sum_by len_of ls

-- the line l has what it had, and is apart from r
pub record IsKeptBeside (old new : Region) (r l : Line) : Type 0 where
  pub kept : IsKept old new l
  pub apart : Apart (places new r) (places new l)

-- the line q became r, which took what it gained from the free places and gave back what it lost;
-- every other line is as it was
pub record LineChanges (old new : Region) (q r : Line) : Type 0 where
  pub threaded : IsLine new r
  pub same_size : size new ≡ size old
  pub counted : length new.free + len_of r ≡ length old.free + len_of q
  pub others : (l : Line) → IsLine old l → Apart (places old q) (places old l) → IsKeptBeside old new r l

-- the line l has what it had, and is apart from the lines rs
pub record IsKeptBesideEach (old new : Region) (rs : List Line) (l : Line) : Type 0 where
  pub kept : IsKept old new l
  pub apart : IsApartFromEach new rs l

-- the lines qs became rs, which took what they gained from the free places and gave back what they
-- lost; every other line is as it was
pub record LinesChange (old new : Region) (qs rs : List Line) : Type 0 where
  pub share : ShareRegion new rs
  pub same_size : size new ≡ size old
  pub counted : length new.free + len_of_all rs ≡ length old.free + len_of_all qs
  pub others : (l : Line) → IsLine old l → IsApartFromEach old qs l → IsKeptBesideEach old new rs l

-- the line q became r beside the lines ls, and r shares no place with them
pub record ChangesBeside (old new : Region) (ls : List Line) (q r : Line) : Type 0 where
  pub chain : LineChanges old new q r
  pub apart : IsApartFromEach new ls r
