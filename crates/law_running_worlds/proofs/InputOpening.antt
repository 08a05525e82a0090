-- at the opening nothing stands, nothing is on its way, and each line starts

use Rattle.std.proofs.Common.{◌≡◌, ℕ, ◌+◌, ◌<◌, ◌≤◌, suc, true, false, true≢false, List, [], ◌∷◌, ◌++◌, map, Option, None, Some, refl, sym, ◌∙◌, ap, subst, arith}
use Rattle.std.specs.List.{list_any}
use Rattle.std.specs.Option.{option_map, option_map_or}
use Rattle.std.specs.FinMap.{get-empty}
use Rattle.law_branch_shapes.specs.world_model.Words.{End, NodeId, PortNo, Down, Up, Instance, GivenOut, next_instance, SynSent, side_of, Cell, end_cmp, queue_of, Standing, is_delete_all, control_port, numbers_of, Policy, Controller, default_channel, after_opening, Topology, Node, World, Site, site_key, site_at, opened_site, with_opened, opens_each, empty_world, queue_in, on_channel, gsmp_to_switch, gsmp_to_controller}
use Rattle.law_branch_shapes.specs.world_model.adjacency_table.Instances.{begun as begun_side}
use Rattle.law_branch_shapes.specs.world_model.crossbar_model.declared.branch.Branch.{Branch}
use Rattle.law_branch_shapes.specs.world_model.crossbar_model.Crossbar.{output_of}
use Rattle.law_frame_readings.specs.ordered_lists.Ordered.{Every}
use Rattle.law_frame_readings.proofs.ordered_lists.Every.{every_join}
use Rattle.law_branch_shapes.specs.world_model.switch_model.declared.port.PortState.{PortState}
use Rattle.law_branch_shapes.specs.world_model.Switch.{begun}
use Rattle.law_frame_readings.specs.law_port_facts.Port.{IsShaped}
use Rattle.law_frame_readings.proofs.law_port_facts.Keyed.{at_key, at_every}
use Rattle.law_branch_shapes.specs.world_model.Controller.{ports_of}
use Rattle.law_frame_readings.specs.law_branch_line.Line.{Line, start}
use Rattle.law_branch_shapes.specs.world_model.Topology as topologies
use Rattle.law_branch_shapes.specs.world_model.World.{opened}
use Rattle.law_input_events.proofs.world_model.Opening.{site_ports}
use Rattle.law_frame_readings.specs.law_shown_cells.Seen.{nothing}
use Rattle.law_frame_readings.specs.law_input_views.Words.{own_of, others_of}
use Rattle.law_frame_readings.specs.law_input_views.Shown.{controller_of, switch_of, before_of, behind_of, ShowsRequests, ShowsAnswers, IsAllPorts}
use Rattle.law_frame_readings.specs.law_world_views.Between.{setups_of, HasShapes, HasPortsUp, HasNumbers, HasInputLine, HasAllShapes, HasAllPortsUp, HasAllNumbers, HasAllInputs}
use Rattle.law_frame_readings.specs.law_world_views.Kept.{Begins}
use Rattle.law_branch_shapes.proofs.Runs.{none_among, begun_ports}

-- *A new site*
record IsNew (site : Site) : Type 0 where
  controller_side : site.controller.adjacency ≡ side_of (controller_of site.controller.node) (switch_of site.controller.node) (begun_side SynSent site.controller.adjacency.own.instance.0) site.controller.adjacency.silence
  switch_side : site.switch.adjacency ≡ side_of (switch_of site.controller.node) (controller_of site.controller.node) (begun_side SynSent site.switch.adjacency.own.instance.0) site.switch.adjacency.silence
  some : 0 < site.controller.adjacency.own.instance.0
  standing : site.controller.desk.standing ≡ []
  unmet : site.controller.has_met ≡ false
  queue : site.controller.queue ≡ []
  gathered : site.controller.reassembly.chain ≡ []
  waiting : queue_of site.switch.crossbar control_port ≡ []
  chain : site.switch.reassembly.chain ≡ []
  branches : (input : End) → output_of site.switch.crossbar.branches input ≡ None
  ports : numbers_of site.switch.ports ≡ control_port ∷ ports_of site.controller
  up : Every (λ (state : PortState). state.is_up ≡ true) site.switch.ports

begun_up : (own : Instance) (ports : List PortNo) → Every (λ (state : PortState). state.is_up ≡ true) (map (begun own) ports)
begun_up own [] = tt
begun_up own (port ∷ ports) = (refl, begun_up own ports)

new_site : (policy : Policy) (t : Topology) (number : NodeId) (node : Node) (numbers : GivenOut) → IsNew (opened_site policy t number node numbers)
new_site policy t number node numbers = record {
  controller_side = refl;
  switch_side = refl;
  some = omega arith;
  standing = refl;
  unmet = refl;
  queue = refl;
  gathered = refl;
  waiting = refl;
  chain = refl;
  branches = λ input. ap (option_map (λ (b : Branch). b.output)) (get-empty end_cmp input);
  ports = ap (λ (rest : List PortNo). control_port ∷ rest) (begun_ports (next_instance (after_opening (topologies.ranges_of t number node) numbers)) (topologies.linked_ports t number) ∙ sym (site_ports policy t number node numbers));
  up = begun_up (next_instance (after_opening (topologies.ranges_of t number node) numbers)) (control_port ∷ topologies.linked_ports t number);
}

new_each : (policy : Policy) (t : Topology) (w : World) (place : ℕ) (nodes : List Node) → Every IsNew w.sites → Every IsNew (opens_each policy t w place nodes).sites
new_each policy t w place [] all = all
new_each policy t w place (node ∷ nodes) all = new_each policy t (with_opened policy t w place node) (suc place) nodes
    (every_join IsNew w.sites (opened_site policy t (record { 0 = place }) node w.numbers ∷ []) all (new_site policy t (record { 0 = place }) node w.numbers, tt))

module _ (policy : Policy) (t : Topology) where
  abbrev w : World
  w = opened policy t

  new : (node : NodeId) (site : Site) → site_at w node ≡ Some site → IsNew site
  new node site found = at_every site_key IsNew node.0 w.sites site (new_each policy t empty_world 1 t.nodes tt) found

  none_down : (node : NodeId) (site : Site) → site_at w node ≡ Some site → gsmp_to_switch w node ≡ []
  none_down node site found =
      ap (λ (o : Option Site). option_map_or (λ (x : Site). x.switch.reassembly.chain) o [] ++ on_channel default_channel (option_map_or (λ (x : Site). queue_in x (Down node)) o [])) found
      ∙ ap (λ (cells : List Cell). cells ++ on_channel default_channel site.controller.queue) (new node site found).chain ∙ ap (on_channel default_channel) (new node site found).queue

  none_up : (node : NodeId) (site : Site) → site_at w node ≡ Some site → gsmp_to_controller w node ≡ []
  none_up node site found =
      ap (λ (o : Option Site). option_map_or (λ (c : Controller). c.reassembly.chain) (option_map (λ (x : Site). x.controller) o) [] ++ on_channel default_channel (option_map_or (λ (x : Site). queue_in x (Up node)) o [])) found
      ∙ ap (λ (cells : List Cell). cells ++ on_channel default_channel (queue_of site.switch.crossbar control_port)) (new node site found).gathered ∙ ap (on_channel default_channel) (new node site found).waiting

  shapes : (node : NodeId) (site : Site) → site_at w node ≡ Some site → HasShapes w node site
  shapes node site found = record {
    branches = λ input output e. absurd (cc (sym ((new node site found).branches input) ∙ e));
    standing = subst (Every (λ (s : Standing). IsShaped (setups_of site.controller) s.request)) (sym (new node site found).standing) tt;
    copies = λ s cell among copy. absurd (none_among (gsmp_to_switch w node) cell (none_down node site found) among);
    ports = (new node site found).ports;
  }

  ports_up : (node : NodeId) (site : Site) → site_at w node ≡ Some site → HasPortsUp w node site
  ports_up node site found = record {
    up = (new node site found).up;
    told = λ cell code number rows among under. absurd (none_among (gsmp_to_controller w node) cell (none_up node site found) among);
    met = λ met. absurd (true≢false (sym met ∙ (new node site found).unmet));
    emptying = λ port all. absurd (true≢false (sym all ∙ ap (λ (standing : List Standing). list_any (λ (s : Standing). is_delete_all port s.request) standing) (new node site found).standing));
  }

  -- *A line* starts
  module _ (numbers : HasNumbers w) (node : NodeId) (site : Site) (found : site_at w node ≡ Some site) (input : End) where
    n : IsNew site
    n = new node site found

    own : site.controller.node ≡ node
    own = ap (λ (k : ℕ). record { 0 = k }) (at_key site_key node.0 w.sites site found)

    below : (k : ℕ) → k ≤ w.numbers.instances → k < w.numbers.instances + 1
    below k le = omega (arith, le)

    abbrev line : Line
    line = start site.controller.adjacency.own.instance.0 site.switch.adjacency.own.instance.0 (w.numbers.instances + 1) (before_of (numbers_of site.switch.ports) input.port) (behind_of (numbers_of site.switch.ports) input.port)

    line_starts : HasInputLine w node site input
    line_starts = record {
      line = line;
      reached = record {
        controller = site.controller.adjacency.own.instance.0;
        switch = site.switch.adjacency.own.instance.0;
        fresh = w.numbers.instances + 1;
        ports_before = before_of (numbers_of site.switch.ports) input.port;
        ports_behind = behind_of (numbers_of site.switch.ports) input.port;
        positive = n.some;
        controller_drawn = below site.controller.adjacency.own.instance.0 (numbers.controllers node site found);
        switch_drawn = below site.switch.adjacency.own.instance.0 (numbers.switches node site found);
        moves = [];
        is = refl;
      };
      shows = record {
        controller = subst (λ (m : NodeId). site.controller.adjacency ≡ side_of (controller_of m) (switch_of m) (begun_side SynSent site.controller.adjacency.own.instance.0) site.controller.adjacency.silence) own n.controller_side;
        switch = subst (λ (m : NodeId). site.switch.adjacency ≡ side_of (switch_of m) (controller_of m) (begun_side SynSent site.switch.adjacency.own.instance.0) site.switch.adjacency.silence) own n.switch_side;
        next = λ e. absurd (cc e);
        asked = (refl, ap (own_of input) n.standing);
        others = sym (ap (others_of input) n.standing);
        met = sym n.unmet;
        phase = subst (Every (λ (s : Standing). IsAllPorts s.request)) (sym n.standing) tt;
        branch = sym (n.branches input);
        at_switch = subst (λ (cells : List Cell). ShowsRequests node input w.notes.frames cells []) (sym n.chain) nothing;
        to_switch = subst (λ (cells : List Cell). ShowsRequests node input w.notes.frames cells []) (sym n.queue) nothing;
        at_controller = refl;
        gathered = subst (λ (cells : List Cell). ShowsAnswers node input w.notes.frames cells []) (sym n.gathered) nothing;
        to_controller = subst (λ (cells : List Cell). ShowsAnswers node input w.notes.frames cells []) (sym n.waiting) nothing;
        drawn = omega arith;
        before = refl;
        behind = refl;
      };
      also = tt;
    }

pub shapes_begin : Begins HasAllShapes
shapes_begin policy topology is addresses node site found = shapes policy topology node site found

pub ports_begin : Begins HasAllPortsUp
ports_begin policy topology is addresses node site found = ports_up policy topology node site found

pub inputs_begin : Begins HasAllNumbers → Begins HasAllInputs
inputs_begin numbers policy topology is addresses node site found input own = line_starts policy topology (numbers policy topology is addresses) node site found input
