-- all that may happen on the line, each where its guard holds; elsewhere a move changes nothing

use Rattle.std.specs.Prelude.{ℕ, Bool, List, [], ◌∷◌, fold}
use Rattle.adjacency_table.specs.Table.{tick_reply}
use Rattle.law_label_line.specs.Cells.{Role, Downstream, Upstream, Place, switched, linked, chained, lost, split, from_last, Cell}
use Rattle.law_label_line.specs.Line.{Line}
use Rattle.law_label_line.specs.Downstream.{sends_other, wire, bind, refresh, recall, recall_again, quit, free, takes_cell, resets_downstream, hears_downstream, ticks_downstream, clears_downstream}
use Rattle.law_label_line.specs.Upstream.{started, lent, released, expired, sends_labelled, switches_labelled, resets_upstream, hears_upstream, ticks_upstream, clears_upstream}

pub data Move : Type 0 where
  -- on the way to an end: its peer's switch puts a cell out, its own switch passes one to it, it
  -- reassembles one, one is lost (or leaves the line, as one that is switched on does)
  Switch : (to : Role) → Move
  Pass : (to : Role) → Move
  Reassemble : (by : Role) → Move
  Lose : (to : Role) → Place → ℕ → Move
  -- a frame that its sender has put into the queue to the switch turns out to have one more cell
  Split : (to : Role) → (place : ℕ) → Move
  -- an end hears a message, ticks after some ticks of silence, has its port cleared, restarts. `room`
  -- says whether a new grant can be made, `drawn` how many instances other ports drew in between
  Hear : (by : Role) → (room : Bool) → (drawn : ℕ) → Move
  Tick : (of : Role) → (silence drawn : ℕ) → Move
  Clear : (of : Role) → Move
  Restart : (of : Role) → (drawn : ℕ) → Move
  -- the downstream end and the label
  SendOther : Move
  Wire : (flow : ℕ) → Move
  Bind : Move
  Refresh : Move
  Recall : Move
  RecallAgain : Move
  Quit : Move
  Free : Move
  -- a frame of the label's channel is taken, or given up
  TakeFrame : Move
  -- the upstream end and its grant
  Start : Move
  Lend : Move
  Release : Move
  Expire : Move
  SendLabelled : Move
  SwitchLabelled : Move

abbrev pub reassembles_upstream : Line → List Cell → Line
reassembles_upstream line [] = line
reassembles_upstream line (cell ∷ rest) = record line { to_upstream = chained line.to_upstream cell rest }

abbrev pub step : Line → Move → Line
step line (Switch Downstream) =
    record line { to_downstream = switched line.to_downstream line.to_downstream.to_switch }
step line (Switch Upstream) = record line { to_upstream = switched line.to_upstream line.to_upstream.to_switch }
step line (Pass Downstream) = record line { to_downstream = linked line.to_downstream line.to_downstream.output }
step line (Pass Upstream) = record line { to_upstream = linked line.to_upstream line.to_upstream.output }
step line (Reassemble Downstream) = takes_cell line line.to_downstream.to_controller
step line (Reassemble Upstream) = reassembles_upstream line line.to_upstream.to_controller
step line (Lose Downstream place at) = record line { to_downstream = lost place at line.to_downstream }
step line (Lose Upstream place at) = record line { to_upstream = lost place at line.to_upstream }
step line (Split Downstream place) = record line { to_downstream = split place line.to_downstream }
step line (Split Upstream place) = record line { to_upstream = split place line.to_upstream }
step line (Hear Downstream room drawn) = hears_downstream line (from_last line.to_downstream.chain) drawn
step line (Hear Upstream room drawn) = hears_upstream line (from_last line.to_upstream.chain) room drawn
step line (Tick Downstream silence drawn) = ticks_downstream line (tick_reply line.downstream.state silence) drawn
step line (Tick Upstream silence drawn) = ticks_upstream line (tick_reply line.upstream.state silence) drawn
step line (Clear Downstream) = clears_downstream line
step line (Clear Upstream) = clears_upstream line line.grant
step line (Restart Downstream drawn) = resets_downstream line drawn
step line (Restart Upstream drawn) = resets_upstream line drawn
step line SendOther = sends_other line
step line (Wire flow) = wire line line.label flow
step line Bind = bind line line.label
step line Refresh = refresh line line.label
step line Recall = recall line line.label
step line RecallAgain = recall_again line line.label
step line Quit = quit line line.label
step line Free = free line line.label
step line TakeFrame = record line { reassembly = [] }
step line Start = started line line.grant
step line Lend = lent line line.grant
step line Release = released line line.grant
step line Expire = expired line line.grant
step line SendLabelled = sends_labelled line line.grant
step line SwitchLabelled = switches_labelled line line.grant

-- after a list of moves, in order
abbrev pub run : Line → List Move → Line
run line moves = fold step line moves
