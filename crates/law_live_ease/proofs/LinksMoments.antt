-- each calm carry comes at a moment to bind for the two ends of a link

use Rattle.std.proofs.Common.{◌≡◌, ℕ, ◌<◌, ◌+◌, ◌-◌, ◌&&◌, true, List, [], Some}
use Rattle.std.specs.List.{range_with_len}
use Rattle.world_model.specs.Words.{NodeId, Place, Channel, label_channel_of, Request, Standing, Setup, label_end, control_end, is_in_range, Label, lowest_spare, last_number, Controller, Linked, port_key, Topology, World, IsNode}
use Rattle.world_model.specs.port_model.Labels.{is_spare}
use Rattle.world_model.specs.port_model.Setup.{label_numbers, is_between}
use Rattle.world_model.specs.Topology.{peer_of}
use Rattle.world_model.specs.ifmp_wire.declared.message.Message.{Message}
use Rattle.world_model.specs.network_model.declared.link.LinkEnd.{LinkEnd}
use Rattle.world_model.specs.network_model.declared.event.Event.TheVariants.{Carry}
use Rattle.law_live_journeys.proofs.law_run_facts.ordered_lists.Every.{every_all, every_map}
use Rattle.law_live_journeys.proofs.law_run_facts.law_port_facts.Keyed.{at_every}
use Rattle.law_live_journeys.proofs.law_run_facts.law_port_facts.Found.{find_every, filter_passes}
use Rattle.law_live_journeys.specs.law_live_links.Law.{number_of}
use Rattle.law_live_journeys.specs.law_live_worlds.Law.{Shows, end_of}
use Rattle.law_live_journeys.specs.law_live_control_links.Law.{IsCalmLink, CarriesOutNext}
use Rattle.law_live_journeys.specs.law_live_bindings.Law.{HasRoomFor}
use Rattle.law_live_journeys.specs.law_live_binding_beats.Law.{BindByQueues}
use Rattle.law_live_journeys.specs.law_live_brought.Law.{IsBranchOrJoin, branch, join}
use Rattle.law_live_journeys.specs.law_live_brought.Carries.{LetsBind, MayBindOn, IsMomentToBind}
use Rattle.law_live_ease.specs.Law.{IsTied, wires, starts, joins, IsBindingLink, Binds, PortHasRoom, IsCalmEvent}

-- *What is tied* is a branch or a join
branch_or_join : (controller : Controller) (request : Request) → IsTied controller request → IsBranchOrJoin request
branch_or_join controller request (wires linked label of_port held wiring) = branch (label_end linked.setup.port label.number) (control_end linked.setup.port label.number)
branch_or_join controller request (starts linked grant of_port granted idle) = branch (control_end linked.setup.port grant.label) (label_end linked.setup.port grant.label)
branch_or_join controller request (joins input from to away) = join input from to away

-- *The lowest spare label* lies in the port's own range
lowest_in_range : (setup : Setup) (least greatest : Channel) (labels : List Label) (number : ℕ) → lowest_spare setup least greatest labels ≡ Some number
    → is_in_range setup number ≡ true
lowest_in_range setup least greatest labels number =
    find_every (λ n. is_in_range setup n ≡ true) (λ n. is_between least greatest (label_channel_of n) && is_spare labels n) (label_numbers setup) number
    (filter_passes (is_in_range setup) (range_with_len setup.least (setup.greatest + 1 - setup.least)))

module _ (topology : Topology) (w : World) (place : Place) (b : Binds topology w) (c : IsCalmEvent topology w (Carry place)) where
  -- *A node lets its ports bind* at the carry
  lets_bind : (node : NodeId) → IsNode topology node → CarriesOutNext w node → LetsBind topology w node (Carry place)
  lets_bind node within carried_out =
      let link : IsCalmLink w node = (b.nodes node within).calm in
      record {
        link = link;
        none_waits = (b.steady node link.site link.found).none_waits;
        numbers = every_map (PortHasRoom link.site) (λ (linked : Linked). number_of linked.port < last_number) link.site.controller.ports (λ linked room. room.number_left) (c.room.ports node link.site link.found);
        asks = every_map (λ (s : Standing). IsTied link.site.controller s.request) (λ (s : Standing). IsBranchOrJoin s.request) link.site.controller.desk.standing
            (λ s tied. branch_or_join link.site.controller s.request tied) (b.steady node link.site link.found).ties.standing;
        carries_out = carried_out;
        unspent = c.unspent node;
      }

  -- *An end may bind on*, whatever the other has said
  may_bind_on : (one far : LinkEnd) (linked far_linked : Linked) → peer_of topology one.node one.port ≡ Some far → (shows : Shows w one linked) → Shows w far far_linked
      → (far_said : List Message) → MayBindOn w one shows (end_of far_linked far_said)
  may_bind_on one far linked far_linked at shows far_shows far_said =
      let room : PortHasRoom shows.site linked =
      at_every port_key (PortHasRoom shows.site) one.port.0 shows.site.controller.ports linked (c.room.ports one.node shows.site shows.there) shows.of_port in
      record {
        range = λ s number open_now lowest. c.room.ranges one far linked far_linked at shows far_shows number (lowest_in_range linked.setup s.least s.greatest s.labels number lowest);
        room = every_all (HasRoomFor shows.site.controller.desk w.numbers.instances (end_of linked [])) far_said (λ message number of_label none. (room.grants, room.requests));
      }

  -- *So it is a moment to bind*
  pub moment : (one far : LinkEnd) (there : peer_of topology one.node one.port ≡ Some far) → peer_of topology far.node far.port ≡ Some one → IsNode topology one.node
      → IsNode topology far.node → ((node : NodeId) → IsNode topology node → CarriesOutNext w node) → IsMomentToBind topology (b.links one far there).ends place
  moment one far there back near far_within carried_out =
      let link : IsBindingLink topology w one far = b.links one far there in
      let ends : BindByQueues w one far = link.ends in
      record {
        there = link.there;
        back = link.back;
        loses_nothing = c.entries;
        unlost = c.unlost;
        near = lets_bind one.node near (carried_out one.node near);
        far_end = lets_bind far.node far_within (carried_out far.node far_within);
        may = may_bind_on one far ends.bind.linked ends.bind.far_linked there ends.bind.shows ends.bind.far_shows ends.far_said;
        far_may = may_bind_on far one ends.bind.far_linked ends.bind.linked back ends.bind.far_shows ends.bind.shows ends.said;
      }
