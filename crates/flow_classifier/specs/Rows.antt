-- The rows of a classifier: a flow, and its tally. A tally has a ring of the packets since a tick, between
-- that and the one before it, and so on; no packet came after that tick.

use Rattle.std.specs.Prelude.{◌≡◌, ℕ, ◌≤◌, ◌-◌, List, ◌∷◌, ◌++◌, All, length, take, map, reverse, replicate}
use Rattle.std.specs.Option.{option_map_or}
use Rattle.lru.specs.LruCache.{LruCache, last_entry}
use Rattle.circular_buffer.specs.Buffer.{buffer}
use Rattle.ipv4_packet.specs.declared.flow.FlowId.{FlowId}
use Rattle.port_model.specs.Counts.{Counted, most_flows}
use Rattle.flow_classifier.specs.declared.tally.Tally.{Tally}

abbrev pub Row : Type 0
Row = FlowId × Tally

-- the packets of a tally after so many ticks: in each tick since its own none came
abbrev pub standing : (ticks : ℕ) → Tally → List ℕ
standing ticks tally = take tally.packets.capacity (replicate (ticks - tally.until) 0 ++ tally.packets.items)

abbrev pub counted : (ticks : ℕ) → Row → Counted
counted ticks row = record { flow = row.0; packets = standing ticks row.1 }

-- rows stand with the one that was counted last first
abbrev pub counts_of : (ticks : ℕ) → List Row → List Counted
counts_of ticks rows = reverse (map (counted ticks) rows)

-- a tally that is up to date
abbrev pub tally_of : (ticks window : ℕ) → (packets : List ℕ) → Tally
tally_of ticks window packets = record { until = ticks; packets = buffer packets window }

-- a row that is up to date after so many ticks, which are counted from zero again
abbrev pub begun_anew : (ticks : ℕ) → Row → Row
begun_anew ticks row = (row.0, tally_of 0 row.1.packets.capacity (standing ticks row.1))

-- the last row is brought up to date, and goes first
abbrev pub last_turned : (ticks : ℕ) → List Row → List Row
last_turned ticks rows =
    option_map_or (λ row. begun_anew ticks row ∷ take (length rows - 1) rows) (last_entry rows) rows

-- no more flows than there may be, and each ring has a place for each tick of the window
pub record AreRows (window ticks : ℕ) (rows : LruCache FlowId Tally) : Type 0 where
  pub most : rows.cap ≡ most_flows
  pub rings : All (λ row. (row.1.packets.capacity ≡ window) × (row.1.until ≤ ticks)) rows.entries
