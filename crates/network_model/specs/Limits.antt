-- The limits of a network

use Rattle.std.specs.Prelude.{ℕ}
pub use Rattle.switch_model.specs.aal5_frames.Frame.{greatest_payload}

abbrev pub greatest_nodes : ℕ
greatest_nodes = 64

abbrev pub greatest_links : ℕ
greatest_links = 256

-- the routes of a node
abbrev pub greatest_routes : ℕ
greatest_routes = 256

-- the slots of a region
abbrev pub greatest_cells : ℕ
greatest_cells = 16384

-- a time of labels, in ticks, and the packets and the ticks of a policy
abbrev pub greatest_time : ℕ
greatest_time = 65535

abbrev pub greatest_packets : ℕ
greatest_packets = 65535

abbrev pub greatest_window : ℕ
greatest_window = 64

-- the events of a run are fewer than this
abbrev pub event_limit : ℕ
event_limit = 100000000
