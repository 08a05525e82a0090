-- In a network in lasting peace a label that can be joined is joined in the next beat, and stays so

use Rattle.std.specs.Prelude.{◌≡◌, List, [], Some, true}
use Rattle.world_model.specs.Words.{NodeId, Down, FlowId, Policy, Label, Topology, World, Site, site_at, queue_at}
use Rattle.world_model.specs.crossbar_model.Crossbar.{output_of}
use Rattle.world_model.specs.Joins.{Join, output_joined}
use Rattle.world_model.specs.network_model.declared.event.Event.{Event}
use Rattle.live_model.specs.Beats.{Beat, settled}
use Rattle.law_live_brought.specs.law_live_hearing.Law.{world_at}
use Rattle.law_live_brought.specs.law_live_mirrors.Mirrors.{is_labels}
use Rattle.law_live_brought.specs.law_live_mirrored_worlds.Way.{IsMirroredIn}
use Rattle.law_live_brought.specs.law_live_calm_nodes.Nodes.{Throughout}
use Rattle.law_live_brought.specs.law_live_calm_nodes.Networks.{behind_all}
use Rattle.law_live_brought.specs.law_live_lasting.Law.{IsLastingPeace, IsLastingBeat, AreLastingBeats}
use Rattle.law_live_joining.specs.Joins.{IsJoinHeld}
use Rattle.law_live_joining.specs.Ticks.{CanBeJoined}

-- *A join holds at a node*
pub record HoldsJoin (w : World) (node : NodeId) (flow : FlowId) (join : Join) : Type 0 where
  pub site : Site
  pub found : site_at w node ≡ Some site
  pub held : IsJoinHeld site.controller flow join

-- *It stays so* throughout a lasting beat, whatever is carried in it
abbrev pub JoinsStay : Type 0
JoinsStay = (policy : Policy) (topology : Topology) (before : List Event) (beat : Beat) (node : NodeId) (flow : FlowId) (join : Join)
    → IsLastingPeace topology (world_at policy topology before) → IsLastingBeat policy topology before beat → HoldsJoin (world_at policy topology before) node flow join
    → Throughout topology (world_at policy topology before) beat (λ v. HoldsJoin v node flow join)

-- and through any number of them, one behind another
abbrev pub JoinsLast : Type 0
JoinsLast = (policy : Policy) (topology : Topology) (before : List Event) (beats : List Beat) (node : NodeId) (flow : FlowId) (join : Join)
    → IsLastingPeace topology (world_at policy topology before) → AreLastingBeats policy topology before beats → HoldsJoin (world_at policy topology before) node flow join
    → HoldsJoin (world_at policy topology (behind_all policy topology before beats)) node flow join

-- *A label that can be joined* as such a beat begins is joined behind it
abbrev pub LabelsAreJoinedInABeat : Type 0
LabelsAreJoinedInABeat = (policy : Policy) (topology : Topology) (before : List Event) (beat : Beat) (node : NodeId) (site : Site) (label : Label) (join : Join)
    → IsLastingPeace topology (world_at policy topology before) → IsLastingBeat policy topology before beat
    → site_at (world_at policy topology before) node ≡ Some site → CanBeJoined site.controller label join
    → HoldsJoin (settled topology (world_at policy topology before) beat) node label.flow join

-- *The switch leads* the input of a join that holds to its output, where the node is mirrored, nothing that it asked stands, and none
-- of it is on its way
abbrev pub SwitchesLead : Type 0
SwitchesLead = (w : World) (node : NodeId) (site : Site) (flow : FlowId) (join : Join) → site_at w node ≡ Some site → IsMirroredIn w node → queue_at w (Down node) ≡ []
    → site.controller.desk.standing ≡ [] → is_labels join.input ≡ true → IsJoinHeld site.controller flow join
    → output_of site.switch.crossbar.branches join.input ≡ Some (output_joined join)

-- and so it does behind a lasting beat, where the node is mirrored in the end
abbrev pub SwitchesLeadBehindABeat : Type 0
SwitchesLeadBehindABeat = (policy : Policy) (topology : Topology) (before : List Event) (beat : Beat) (node : NodeId) (site : Site) (flow : FlowId) (join : Join)
    → IsLastingPeace topology (world_at policy topology before) → IsLastingBeat policy topology before beat
    → site_at (settled topology (world_at policy topology before) beat) node ≡ Some site → IsMirroredIn (settled topology (world_at policy topology before) beat) node
    → is_labels join.input ≡ true → IsJoinHeld site.controller flow join
    → output_of site.switch.crossbar.branches join.input ≡ Some (output_joined join)
