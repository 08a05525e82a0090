-- A network that *begins*, as it was opened: behind enough calm beats in which no packet is sent it is unlabelled

use Rattle.std.specs.Prelude.{◌≡◌, ◌≤◌, ◌<◌, ◌*◌, List, [], ◌++◌, fold, length, Some}
use Rattle.std.specs.Option.{option_map_or}
use Rattle.law_link_parties.specs.law_run_facts.ordered_lists.Ordered.{Every}
use Rattle.world_model.specs.Words.{Policy, Topology, World, past_of, IsTame}
use Rattle.world_model.specs.Topology.{Node, node_at, peer_of, default_range, range_among, vpis_of}
use Rattle.world_model.specs.controller_model.declared.range.PortRange.{PortRange}
use Rattle.world_model.specs.network_model.declared.link.LinkEnd.{LinkEnd}
use Rattle.world_model.specs.network_model.declared.event.Event.{Event}
use Rattle.live_model.specs.Beats.{Beat, behind}
use Rattle.live_model.specs.Waking.{events_of}
use Rattle.calm_model.specs.Unlabelled.{IsUnlabelled}
use Rattle.calm_model.specs.Calm.{AreCalmBeats}

-- *A quiet beat*: no packet is sent in it
abbrev pub IsQuiet : Beat → Type 0
IsQuiet beat = beat.sending ≡ []

-- *The range of labels* that the lines give to the end of a link
abbrev pub range_at : Topology → LinkEnd → PortRange
range_at topology end = option_map_or (λ (node : Node). range_among node.ranges end.port) (node_at topology end.node) (default_range end.port)

-- *The lines fit*: the two ends of each link have one range of labels, whose paths the switches have; and labels are to be refreshed before
-- their lifetime is over
pub record HasFitLines (topology : Topology) : Type 0 where
  pub least : (one far : LinkEnd) → peer_of topology one.node one.port ≡ Some far → (range_at topology one).lo ≡ (range_at topology far).lo
  pub greatest : (one far : LinkEnd) → peer_of topology one.node one.port ≡ Some far → (range_at topology one).hi ≡ (range_at topology far).hi
  pub paths : (one far : LinkEnd) → peer_of topology one.node one.port ≡ Some far → (range_at topology one).hi < 1024 * vpis_of topology
  pub in_time : topology.times.refresh < topology.times.lifetime

-- *A run that begins* with eleven calm beats or more in which no packet is sent, over lines that fit, is of an unlabelled network behind them; so it
-- is before the first frame that was forged or passed its test by chance
abbrev pub NetworksBegin : Policy → Topology → List Event → Type 0
NetworksBegin policy topology events = (after : List Event) (beats : List Beat) → (let start : World = (past_of policy topology []).now in
    events ≡ events_of topology start beats ++ after → IsTame (past_of policy topology (events_of topology start beats)).records
    → HasFitLines topology → AreCalmBeats topology start beats → Every IsQuiet beats → 11 ≤ length beats
    → IsUnlabelled topology (fold (behind topology) start beats))
