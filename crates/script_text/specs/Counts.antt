-- The counts of a state, as it keeps them

use Rattle.std.specs.Prelude.{◌≡◌, ℕ, ◌+◌, ◌^◌, ◌<◌, ◌≤◌, Bool, true, ◌||◌, nat_lt, List, length, Option, unwrap_or, if◌then◌else◌}
use Rattle.ipv4_forward.specs.declared.table.Route.{Route}
use Rattle.world_model.specs.Topology.{Topology}
use Rattle.script_model.specs.Limits.{greatest_event_lines, greatest_rounds, greatest_ticks}
use Rattle.script_model.specs.State.{ScriptState, opening_tables}

abbrev pub at_most : (greatest n : ℕ) → ℕ
at_most greatest n = if nat_lt n greatest then n else greatest

-- *A line counts*, refused or not: the counts of octets and lines are numbers of 32 bits, and stay at the greatest
-- once there
abbrev pub counted_up_to : ScriptState → (line : List ℕ) → ScriptState
counted_up_to state line =
    record state {
      octets = at_most 4294967295 (state.octets + length line);
      lines = at_most 4294967295 (state.lines + 1);
    }

-- the counts of octets and lines don't come there
abbrev pub HasRoom : ScriptState → (line : List ℕ) → Type 0
HasRoom state line = (state.octets + length line < 2 ^ 32) × (state.lines + 1 < 2 ^ 32)

-- *An event line* of so many rounds and ticks would pass a limit, and what it leaves
abbrev pub passes : ScriptState → (rounds ticks : ℕ) → Bool
passes state rounds ticks =
    nat_lt greatest_event_lines (state.event_lines + 1)
    || (nat_lt greatest_rounds (state.rounds + rounds) || nat_lt greatest_ticks (state.ticks + ticks))

abbrev pub with_counts : ScriptState → (rounds ticks : ℕ) → ScriptState
with_counts state rounds ticks =
    record state {
      has_line = true;
      event_lines = state.event_lines + 1;
      rounds = state.rounds + rounds;
      ticks = state.ticks + ticks;
    }

-- *The routes of the nodes* are those of the topology until a route line is taken
abbrev pub tables_seen : Topology → Option (List (List Route)) → List (List Route)
tables_seen topology tables = unwrap_or tables (opening_tables topology)

-- what is so of every state
pub record IsWithinLimits (topology : Topology) (tables : List (List Route)) (event_lines rounds ticks : ℕ) : Type 0 where
  pub a_table_each : length tables ≡ length topology.nodes
  pub few_event_lines : event_lines ≤ 200000
  pub few_rounds : rounds ≤ 100000
  pub few_ticks : ticks ≤ 2000000
