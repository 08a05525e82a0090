-- a network before the first packet enters: so it is opened

use Rattle.std.proofs.Common.{◌≡◌, ℕ, suc, ◌+◌, true, true≢false, List, [], ◌∷◌, ◌++◌, map, Some, refl, sym, ◌∙◌, ap, subst, arith}
use Rattle.std.specs.Option.{option_map}
use Rattle.std.specs.FinMap.{get-empty}
use Rattle.world_model.specs.Words.{NodeId, payload_of, end_cmp, queue_of, GivenOut, next_instance, FitsRows, IsLinkPort, control_port, Policy, Setup, Linked, is_clearing, setup_of, opens_ports, after_opening, Topology, Node, ranges_of, timers_of, IsTopology, IsRun, World, Site, site_key, site_at, opened_site, with_opened, opens_each, empty_world, past_of}
use Rattle.world_model.specs.crossbar_model.declared.branch.Branch.{Branch}
use Rattle.world_model.specs.switch_model.declared.port.PortState.{PortState}
use Rattle.world_model.specs.controller_model.declared.range.PortRange.{PortRange}
use Rattle.world_model.specs.Answers.{port_row}
use Rattle.world_model.specs.Controller.{ports_of}
use Rattle.world_model.specs.Topology as topologies
use Rattle.world_model.specs.World.{opened}
use Rattle.world_model.specs.network_model.declared.event.Event.{Event}
use Rattle.world_model.proofs.Opening.{site_ports}
use Rattle.law_link_parties.proofs.law_link_met.law_port_facts.Keyed.{at_every}
use Rattle.law_link_parties.specs.law_run_facts.ordered_lists.Ordered.{Every, InOrder}
use Rattle.law_link_parties.specs.law_run_facts.law_world_views.Fronts.{HasAddresses}
use Rattle.law_link_parties.specs.law_run_facts.law_world_views.Ready.{IsReadySite}
use Rattle.law_link_parties.specs.law_run_facts.Nodes.{IsNodeOfRun}
use Rattle.law_link_parties.proofs.law_run_facts.ordered_lists.Every.{every_join}
use Rattle.law_link_parties.proofs.law_run_facts.Nodes.{runs_have_nodes}
use Rattle.law_link_parties.proofs.law_run_facts.Rooms.{runs_have_room}
use Rattle.law_link_parties.specs.law_live_rested.law_live_waking.law_running_worlds.law_input_events.Coming.{TellsPorts}
use Rattle.law_link_parties.proofs.law_link_met.law_live_tables.law_running_worlds.Lists.{all_every}
use Rattle.law_link_parties.proofs.law_link_met.law_live_tables.law_running_worlds.Opening.{ready_begins}
use Rattle.law_link_parties.proofs.law_link_met.law_live_tables.law_running_worlds.Sites.{tells_ports}
use Rattle.law_live_begun.specs.First.{Start, IsBelow, FitsStart, AreFirstFrames, IsFirstPort, IsFirstController, IsFirstDown, IsFirstUp, IsReady, IsFirstSwitch, IsFirstNode, IsFirstWorld}
use Rattle.law_live_ease.specs.law_live_control.Calm.{IsCalmCell}

-- *A site that was just opened*
record IsOpened (topology : Topology) (site : Site) : Type 0 where
  start : Start
  ports : start.ports ≡ topologies.linked_ports topology site.controller.node
  vpis : start.vpis ≡ topologies.vpis_of topology
  controller : IsFirstController start site.controller
  ready : IsReady site.controller
  switch : IsFirstSwitch start site.switch
  down : site.controller.queue ≡ []
  up : queue_of site.switch.crossbar control_port ≡ []

first_ports : (setup : PortRange → Setup) (n : ℕ) (ranges : List PortRange) → Every (λ (linked : Linked). IsFirstPort linked.port) (opens_ports setup n ranges)
first_ports setup n [] = tt
first_ports setup n (range ∷ ranges) = (record { session = λ s e. absurd (cc e); grants = refl }, first_ports setup (n + 1) ranges)

clearing_ports : (setup : PortRange → Setup) (n : ℕ) (ranges : List PortRange)
    → Every (λ (linked : Linked). is_clearing linked.port.adjacency.state ≡ true) (opens_ports setup n ranges)
clearing_ports setup n [] = tt
clearing_ports setup n (range ∷ ranges) = (refl, clearing_ports setup (n + 1) ranges)

opens_site : (policy : Policy) (t : Topology) (number : NodeId) (node : Node) (numbers : GivenOut) → IsOpened t (opened_site policy t number node numbers)
opens_site policy t number node numbers = record {
  start = record { ports = topologies.linked_ports t number; session = (next_instance (after_opening (ranges_of t number node) numbers)).0; vpis = topologies.vpis_of t };
  ports = refl;
  vpis = refl;
  controller = record {
    ports_are = site_ports policy t number node numbers;
    ports = first_ports (setup_of number node.address (timers_of t) policy) (numbers.instances + 1) (ranges_of t number node);
    waiting = refl;
    standing = tt;
    room = omega arith;
    below = tt;
    waits = λ down. refl;
    met = λ met. absurd (true≢false (sym met));
    known = λ met. absurd (true≢false (sym met));
    unmet = λ unmet. clearing_ports (setup_of number node.address (timers_of t) policy) (numbers.instances + 1) (ranges_of t number node);
  };
  ready = record { meeting = λ up. absurd (true≢false (sym up)); clearing = λ met. absurd (true≢false (sym met)) };
  switch = record {
    ports = refl;
    vpis = refl;
    branches = λ input output leads. absurd (cc (sym (ap (option_map (λ (b : Branch). b.output)) (get-empty end_cmp input)) ∙ leads));
  };
  down = refl;
  up = refl;
}

opens_all : (policy : Policy) (t : Topology) (w : World) (place : ℕ) (nodes : List Node) → Every (IsOpened t) w.sites
    → Every (IsOpened t) (opens_each policy t w place nodes).sites
opens_all policy t w place [] all = all
opens_all policy t w place (node ∷ nodes) all = opens_all policy t (with_opened policy t w place node) (suc place) nodes
    (every_join (IsOpened t) w.sites (opened_site policy t (record { 0 = place }) node w.numbers ∷ []) all (opens_site policy t (record { 0 = place }) node w.numbers, tt))

-- *Nothing was made*
makes_none : (policy : Policy) (t : Topology) (nodes : List Node) (place : ℕ) (w : World) → w.notes.frames ≡ [] → (opens_each policy t w place nodes).notes.frames ≡ []
makes_none policy t [] place w none = none
makes_none policy t (node ∷ nodes) place w none = makes_none policy t nodes (suc place) (with_opened policy t w place node) none

no_frames : AreFirstFrames []
no_frames mark payload made = absurd (never made)
  where
    never : payload_of [] mark ≡ Some payload → ⊥
    never e = cc e

no_event : (before after : List Event) (event : Event) → [] ≡ before ++ event ∷ after → ⊥
no_event [] after event e = cc e
no_event (x ∷ before) after event e = cc e

-- *So the network is opened*
module _ (policy : Policy) (topology : Topology) (is : IsTopology topology) (addresses : HasAddresses topology) where
  abbrev w : World
  w = opened policy topology

  run : IsRun policy topology []
  run = record { topology_is = is; each = λ before after event e. absurd (no_event before after event e) }

  module _ (node : NodeId) (site : Site) (found : site_at w node ≡ Some site) where
    o : IsOpened topology site
    o = at_every site_key (IsOpened topology) node.0 w.sites site (opens_all policy topology empty_world 1 topology.nodes tt) found

    of : IsNodeOfRun policy (past_of policy topology []) node site
    of = runs_have_nodes policy topology [] addresses run node site found

    ready : IsReadySite site
    ready = ready_begins runs_have_nodes runs_have_room policy topology is addresses node site found

    tells : TellsPorts site.switch.ports
    tells = tells_ports (past_of policy topology []) node site.controller of.ports site.switch.ports of.is_node.switch_ports ready.ports

    fits : FitsStart o.start
    fits = record {
      links = subst (Every IsLinkPort) o.controller.ports_are (all_every IsLinkPort (ports_of site.controller) of.ports.ascending.of_links);
      ascending = subst (InOrder IsBelow) o.controller.ports_are (subst (InOrder IsBelow) of.is_node.switch_ports tells.ascending).1;
      session = (subst (λ (states : List PortState). FitsRows (map port_row states)) o.switch.ports ready.ports).0.session;
    }

    first_node : IsFirstNode topology w.notes.frames node site
    first_node = record {
      start = o.start;
      ports = o.ports ∙ ap (topologies.linked_ports topology) of.is_node.own;
      vpis = o.vpis;
      is = record {
        fits = fits;
        controller = o.controller;
        ready = o.ready;
        switch = o.switch;
        down = subst (Every (IsCalmCell (IsFirstDown o.start) w.notes.frames)) (sym o.down) tt;
        up = subst (Every (IsCalmCell (IsFirstUp o.start) w.notes.frames)) (sym o.up) tt;
      };
    }

  pub opens_first : IsFirstWorld topology w
  opens_first = record { frames = subst AreFirstFrames (sym (makes_none policy topology topology.nodes 1 empty_world refl)) no_frames; nodes = first_node }
