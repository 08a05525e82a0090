-- *Agreeing*: behind calm beats the two ends of each link hold the same labels, for the same flows. That a label is held isn't said here

use Rattle.std.specs.Prelude.{◌≡◌, ◌≢◌, true, false, is_some, List, [], ◌++◌, fold, Some}
use Rattle.ordered_lists.specs.Ordered.{Every}
use Rattle.world_model.specs.Words.{NodeId, Policy, at, Label, Offered, label_number, labels_of, Grant, Idle, grant_label, is_leaving, Linked, linked_end, Topology, World, Site, site_at, past_of, IsTame}
use Rattle.world_model.specs.Topology.{peer_of}
use Rattle.world_model.specs.network_model.declared.link.LinkEnd.{LinkEnd}
use Rattle.world_model.specs.network_model.declared.event.Event.{Event}
use Rattle.live_model.specs.Beats.{Beat, behind}
use Rattle.live_model.specs.Met.{HaveMet}
use Rattle.live_model.specs.Waking.{events_of}
use Rattle.calm_model.specs.Unlabelled.{IsUnlabelled}
use Rattle.calm_model.specs.Calm.{AreCalmBeats}

-- *A label is agreed on*: its port offers it, and the other end of the link has a grant of it, of the same flow, which is used: its controller
-- sends under it, or an input is joined to it
pub record IsAgreed (far_linked : Linked) (label : Label) : Type 0 where
  pub offered : label.state ≡ Offered
  pub grant : Grant
  pub granted : at grant_label label.number far_linked.port.grants ≡ Some grant
  pub same_flow : grant.flow ≡ label.flow
  pub used : grant.state ≢ Idle
  pub stays : is_leaving grant.state ≡ false

-- *An end agrees with the other*: they have met; they agree on each label that it holds; and each grant of the other is of such a label
pub record Agrees (linked far_linked : Linked) : Type 0 where
  pub met : HaveMet linked.port.adjacency far_linked.port.adjacency
  pub labels : Every (IsAgreed far_linked) (labels_of linked.port)
  pub grants : Every (λ (grant : Grant). is_some (at label_number grant.label (labels_of linked.port)) ≡ true) far_linked.port.grants

-- *A node is at rest*: its controller and its switch have met, and no request stands
pub record IsAtRest (site : Site) : Type 0 where
  pub met : HaveMet site.controller.adjacency site.switch.adjacency
  pub nothing_stands : site.controller.desk.standing ≡ []

-- *All agree*: each node is at rest, and at each link the one end agrees with the other
pub record AllAgree (topology : Topology) (w : World) : Type 0 where
  pub nodes : (node : NodeId) (site : Site) → site_at w node ≡ Some site → IsAtRest site
  pub ends : (one far : LinkEnd) (linked far_linked : Linked) → peer_of topology one.node one.port ≡ Some far → linked_end w one ≡ Some linked
      → linked_end w far ≡ Some far_linked → Agrees linked far_linked

-- *Wherever in a run* the network is unlabelled, and calm beats come next, with any packets sent in them, all agree behind them; so it is before
-- the first frame that was forged or passed its test by chance
abbrev pub CalmBeatsAgree : Policy → Topology → List Event → Type 0
CalmBeatsAgree policy topology events = (before after : List Event) (beats : List Beat)
    → events ≡ (before ++ events_of topology (past_of policy topology before).now beats) ++ after
    → IsTame (past_of policy topology (before ++ events_of topology (past_of policy topology before).now beats)).records
    → IsUnlabelled topology (past_of policy topology before).now → AreCalmBeats topology (past_of policy topology before).now beats
    → AllAgree topology (fold (behind topology) (past_of policy topology before).now beats)
