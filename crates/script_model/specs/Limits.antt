-- The limits of a script, in one place

use Rattle.std.specs.Prelude.{ℕ}
pub use Rattle.rule_model.specs.lab_text.Line.{input_limit, line_limit}
pub use Rattle.world_model.specs.Limits.{greatest_nodes, greatest_links, greatest_routes, greatest_cells, greatest_time, greatest_packets, greatest_window, greatest_payload}

abbrev pub greatest_event_lines : ℕ
greatest_event_lines = 200000

-- the rounds of all `run` lines
abbrev pub greatest_rounds : ℕ
greatest_rounds = 100000

-- the ticks of all tick lines; one of all counts two a node
abbrev pub greatest_ticks : ℕ
greatest_ticks = 2000000
