-- How the code finds a request: by its number, and by the end that it is on. No claim needs this file.

use Rattle.std.specs.Prelude.{◌≡◌, ℕ, Bool, not, ◌+◌, ◌<◌, ◌≤◌, ◌==◌, ◌&&◌, List, length, slice_index_or, cond, false, Option, is_some}
use Rattle.std.specs.Option.{option_map, option_map_or}
use Rattle.std.specs.List.{sum_by}
use Rattle.std.specs.List.Sorted.{IsSorted}
use Rattle.std.specs.declared.cmp.Ordering.TheVariants.{Less, Greater}
use Rattle.net_types.specs.declared.channel.End.{End}
use Rattle.port_model.specs.crossbar_model.Channels.{end_cmp}
use Rattle.port_model.specs.crossbar_model.Crossbar.{same_end}
use Rattle.gsmp_wire.specs.declared.request.Request.{Request}
use Rattle.port_model.specs.Desk.{Standing}
use Rattle.branch_desk.specs.declared.by_end.Numbered.{Numbered}

-- a record, so that a proof finds its list
pub record AreInOrder (numbers : List Numbered) : Type 0 where
  pub sorted : IsSorted (λ a b. end_cmp a.end b.end) numbers

-- a number of the end stands at place i
pub record IsPlaceOf (numbers : List Numbered) (end : End) (i : ℕ) : Type 0 where
  pub within : i < length numbers
  pub here : (d : Numbered) → (slice_index_or numbers i d).end ≡ end

-- no number of the end is there; it would stand at place i
pub record IsGapFor (numbers : List Numbered) (end : End) (i : ℕ) : Type 0 where
  pub within : i ≤ length numbers
  pub before : (j : ℕ) (d : Numbered) → j < i → end_cmp (slice_index_or numbers j d).end end ≡ Less
  pub after : (j : ℕ) (d : Numbered) → i ≤ j → j < length numbers → end_cmp (slice_index_or numbers j d).end end ≡ Greater

-- it is of the end; it is the end's with this number; with another one
abbrev pub has_end : End → Numbered → Bool
has_end end entry = same_end end entry.end

abbrev pub is_entry : End → (number : ℕ) → Numbered → Bool
is_entry end number entry = same_end end entry.end && entry.number == number

abbrev pub has_other : End → (number : ℕ) → Numbered → Bool
has_other end number entry = same_end end entry.end && not (entry.number == number)

abbrev pub how_many : (Numbered → Bool) → List Numbered → ℕ
how_many test numbers = sum_by (λ entry. cond (test entry) 1 0) numbers

abbrev pub entry_of : (number : ℕ) → Option End → Option Numbered
entry_of number end = option_map (λ e. record { end = e; number = number }) end

-- an entry, if there is one, is made
pub record IsEntered (old new : List Numbered) (entry : Option Numbered) : Type 0 where
  pub longer : length new ≡ length old + cond (is_some entry) 1 0
  pub counted : (test : Numbered → Bool) → how_many test new ≡ how_many test old + cond (option_map_or test entry false) 1 0

-- the request at place i has the number
pub record IsUnder (number : ℕ) (standing : List Standing) (i : ℕ) : Type 0 where
  pub within : i < length standing
  pub here : (d : Standing) → (slice_index_or standing i d).number ≡ number

-- *An index*: the numbers by end are those of the requests that have a key, each by its key
abbrev pub numbered_by : (Request → Option End) → Standing → Option Numbered
numbered_by key s = entry_of s.number (key s.request)

pub record AreKeysOf (key : Request → Option End) (standing : List Standing) (numbers : List Numbered) : Type 0 where
  pub many : length numbers ≡ sum_by (λ s. cond (is_some (key s.request)) 1 0) standing
  pub counted : (test : Numbered → Bool) → how_many test numbers ≡ sum_by (λ s. cond (option_map_or test (numbered_by key s) false) 1 0) standing
