-- what a run gives of a port, of its grants, and of a label's frames

use Rattle.std.proofs.Common.{◌≡◌, ℕ, List, Option, Some, refl, sym, ◌∙◌, ap, subst}
use Rattle.world_model.specs.Words.{Up, Side, Peer, Way, IsWay, IsTopology, Linked, linked_at, Site, Past, past_of}
use Rattle.world_model.specs.Topology.{peer_of}
use Rattle.world_model.specs.network_model.declared.link.LinkEnd.{LinkEnd}
use Rattle.law_link_names.proofs.law_causes.Shown.{peer_back}
use Rattle.law_link_names.proofs.law_unused_labels.Links.{link_of, link_is}
use Rattle.law_link_names.proofs.law_frame_readings.Packets.{is_forwarded}
use Rattle.law_link_names.specs.law_run_facts.law_label_line.Cells.{Downstream}
use Rattle.law_link_names.specs.law_run_facts.law_world_views.Between.{IsWorld, HasLabelLine, setups_of}
use Rattle.law_link_names.specs.law_run_facts.law_world_views.Marks.{heading_at, Means}
use Rattle.law_link_names.specs.law_run_facts.law_world_views.Shown.{acting as shown}
use Rattle.law_link_names.proofs.law_run_facts.Nodes.{runs_have_nodes}
use Rattle.law_link_names.proofs.law_running_worlds.Labels.{of_label, label_read}
use Rattle.law_link_names.specs.law_live_hearing.Law.{world_at}
use Rattle.law_link_names.proofs.law_live_unsaid.Unanswered.{sound_sends_by_labels}
use Rattle.law_link_nodes.specs.Runs.{PortsGoByAddress, NodesSendByLabels, LabelsHoldPackets}

one_site : (x y : Site) → Some x ≡ Some y → x ≡ y
one_site x y e = cc e

one_linked : (x y : Linked) → Some x ≡ Some y → x ≡ y
one_linked x y e = cc e

abbrev way_of : (one far : LinkEnd) → Way
way_of one far = record { down = one; up = far }

pub ports_go_by_address : PortsGoByAddress
ports_go_by_address policy topology events one far is world peer site linked found of_port =
    let on : IsWay topology (way_of one far) = record { downstream = (peer_back topology is one far peer).back; upstream = peer } in
    let line : HasLabelLine (past_of policy topology events) (link_of topology (way_of one far) 32) =
    world.labels (link_of topology (way_of one far) 32) (link_is topology is (way_of one far) on 32 refl) in
    let there : Site = line.shows.end Downstream in
    let end = line.shows.net.end Downstream in
    let goes : end.linked.port.adjacency.own.address ≡ there.controller.address = ap (λ (side : Side Peer). side.own.address) end.shown.side ∙ sym end.address in
    subst (λ (s : Site). linked_at s.controller one.port ≡ Some linked → linked.port.adjacency.own.address ≡ s.controller.address)
    (one_site there site (sym (line.shows.found Downstream) ∙ found))
    (λ e. subst (λ (l : Linked). l.port.adjacency.own.address ≡ there.controller.address) (one_linked end.linked linked (sym end.found ∙ e)) goes) of_port

pub nodes_send_by_labels : NodesSendByLabels
nodes_send_by_labels policy topology events addresses run node site found =
    sound_sends_by_labels (setups_of site.controller) site.controller (runs_have_nodes policy topology events addresses run node site found).conduct.sound

pub labels_hold_packets : LabelsHoldPackets
labels_hold_packets policy topology events addresses run world node within site cell q label payload found waits takes made packet ok =
    let past : Past = past_of policy topology events in
    let means : Means past (heading_at topology (Up node) cell.header.channel) cell.header.last cell.mark = world.meanings (Up node) cell within waits in
    is_forwarded packet (label_read past node (shown past.now site) cell.header.channel cell.header.last cell.mark q label payload
    (runs_have_nodes policy topology events addresses run node site found).conduct.bound (of_label site.controller cell.header.channel q label takes) means made packet ok).1
