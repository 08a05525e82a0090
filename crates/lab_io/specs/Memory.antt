-- sources and sinks in memory: what each call does, and which calls fail

use Rattle.std.specs.Prelude.{ℕ, ◌+◌, ◌==◌, ◌||◌, ◌&&◌, nat_lt, min, Bool, List, ◌++◌, length, take, drop, Result, Ok, Err, if◌then◌else◌}
use Rattle.std.specs.List.{list_any}
use Rattle.lab_io.specs.declared.edge.Failed.{Failed}
use Rattle.lab_io.specs.Fault.{counted}

-- what a source that never fails is seen as: the octets that are left, and the most that it gives at
-- a time
pub record Pieces : Type 0 where
  pub left : List ℕ
  pub piece : ℕ

-- what a source that may fail is seen as: the same, the calls that fail, and how many calls and faults
-- there were
pub record Supply : Type 0 where
  pub left : List ℕ
  pub piece : ℕ
  pub failing : List ℕ
  pub calls : ℕ
  pub faults : ℕ

-- the next call is one of those that fail
abbrev pub is_failing : List ℕ → (calls : ℕ) → Bool
is_failing failing calls = list_any (λ call. call == counted calls) failing

-- the octets that a read gives into a buffer of this length, where it doesn't fail
abbrev pub portion : (piece : ℕ) → (left : List ℕ) → (room : ℕ) → List ℕ
portion piece left room = take (min piece room) left

-- a read into a buffer of this length: its answer, and what the source is afterwards
abbrev pub read_answer : Supply → (room : ℕ) → Result ℕ Failed
read_answer supply room =
    if is_failing supply.failing supply.calls then Err (record {}) else Ok (length (portion supply.piece supply.left room))

abbrev pub after_read : Supply → (room : ℕ) → Supply
after_read supply room =
    if is_failing supply.failing supply.calls
    then record supply { calls = counted supply.calls; faults = counted supply.faults }
    else record supply { left = drop (min supply.piece room) supply.left; calls = counted supply.calls }

-- a buffer after these octets were written over its front
abbrev pub written_over : List ℕ → List ℕ → List ℕ
written_over buffer octets = octets ++ drop (length octets) buffer

-- what a sink in memory is seen as: the octets that it took, and the rest as for a source
pub record Store : Type 0 where
  pub taken : List ℕ
  pub piece : ℕ
  pub failing : List ℕ
  pub calls : ℕ
  pub faults : ℕ

-- the most octets that a sink in memory takes in all: 16 MiB
abbrev pub sink_room : ℕ
sink_room = 16777216

-- what a sink offers to take of these octets
abbrev pub accepted : Store → List ℕ → List ℕ
accepted store octets = take store.piece octets

-- a write fails where its call is listed or where it would pass the room
abbrev pub write_fails : Store → List ℕ → Bool
write_fails store octets =
    is_failing store.failing store.calls || nat_lt sink_room (length store.taken + length (accepted store octets))

-- a sink that takes none of some octets counts a fault too
abbrev pub is_stuck : Store → List ℕ → Bool
is_stuck store octets = (store.piece == 0) && nat_lt 0 (length octets)

-- a write of these octets: its answer, and what the sink is afterwards
abbrev pub write_answer : Store → List ℕ → Result ℕ Failed
write_answer store octets = if write_fails store octets then Err (record {}) else Ok (length (accepted store octets))

abbrev pub after_write : Store → List ℕ → Store
after_write store octets = record store {
  taken = if write_fails store octets then store.taken else store.taken ++ accepted store octets;
  calls = counted store.calls;
  faults = if write_fails store octets || is_stuck store octets then counted store.faults else store.faults;
}
