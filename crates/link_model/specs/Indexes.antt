-- what the look-ups by mark keep in step with the lists; no claim rests on these words

use Rattle.std.specs.Prelude.{◌≡◌, ℕ, ◌<◌, List, length, Option, slice_get, IfSome}
use Rattle.std.specs.Option.{option_map, option_and_then}
use Rattle.std.specs.declared.hash.FoldHasher.{FoldHasher}
use Rattle.std.specs.declared.hash.BuildHasherDefault.{BuildHasherDefault}
use Rattle.std.specs.HashMap.{HashMap, get}
use Rattle.std.specs.HashSet.{HashSet, contains}
use Rattle.net_types.specs.declared.number.Mark.{Mark}
use Rattle.link_model.specs.declared.entries.Entry.{Entry}
use Rattle.link_model.specs.declared.frames.Frame.{Frame}
use Rattle.link_model.specs.Ledger.{same_mark, has_entry, payload_of}

-- a set of marks, and a map from marks to places in a list
abbrev pub Marks : Type 0
Marks = HashSet Mark (BuildHasherDefault FoldHasher)

abbrev pub Places : Type 0
Places = HashMap Mark ℕ (BuildHasherDefault FoldHasher)

-- the set has the marks of the entries
abbrev pub HasMarks : Marks → List Entry → Type 0
HasMarks marks entries = (mark : Mark) → contains same_mark marks mark ≡ has_entry entries mark

-- the payload at a place of the list
abbrev pub payload_at : List Frame → ℕ → Option (List ℕ)
payload_at frames place = option_map (λ frame. frame.payload) (slice_get frames place)

-- the map has the place of the last frame of each mark
pub record LeadsToLatest (latest : Places) (frames : List Frame) : Type 0 where
  pub within : (mark : Mark) → IfSome (get same_mark latest mark) (λ place. place < length frames)
  pub payload : (mark : Mark) → payload_of frames mark ≡ option_and_then (payload_at frames) (get same_mark latest mark)
