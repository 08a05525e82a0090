-- what is so of each site of a network in a run, so that events are moves of its lines

use Rattle.std.proofs.Common.{◌≡◌, ◌≢◌, ℕ, ◌≤◌, suc, Bool, true, false, List, [], ◌∷◌, map, length, Option, None, Some, refl, sym, ◌∙◌, ap, subst, arith, if◌then◌else◌}
use Rattle.std.specs.Prelude.{◌==◌, Contains, find, is_some, nat_le}
use Rattle.std.specs.FinMap.{get}
use Rattle.std.specs.Option.{option_and_then, option_map, option_map_or}
use Rattle.std.proofs.lemmas.Bool.Decides.{nat_tests}
use Rattle.std.proofs.lemmas.List.{length-map}
use Rattle.std.proofs.lemmas.List.Kept.{AllPairs-from_increasing}
use Rattle.law_branch_shapes.specs.world_model.Words.{Channel, End, NodeId, PortNo, Down, Up, destination_of, ttl_of, is_best, hop_by, On, Next, Local, Via, Cell, FitsRows, IsLinkPort, queue_of, at, control_port, numbers_of, Setup, Policy, home_of, Controller, Linked, linked_at, port_key, default_channel, same_channel, IsLinkedNext, Site, site_at, queue_in, queue_at, Past, frames_of, copy_of, on_channel, requests_chain_at, answers_chain_at}
use Rattle.law_branch_shapes.specs.world_model.ipv4_forward.declared.outcome.Hop.TheVariants.{Expired}
use Rattle.law_branch_shapes.specs.world_model.ipv4_forward.declared.table.Route.{Route}
use Rattle.law_branch_shapes.specs.world_model.gsmp_wire.declared.message.Message.TheVariants as messages
use Rattle.law_branch_shapes.specs.world_model.crossbar_model.declared.branch.Branch.{Branch}
use Rattle.law_frame_readings.specs.ordered_lists.Ordered.{Every, InOrder}
use Rattle.law_frame_readings.proofs.ordered_lists.Every.{every_map, every_unmapped}
use Rattle.law_branch_shapes.specs.world_model.switch_model.declared.port.PortState.{PortState}
use Rattle.law_branch_shapes.specs.world_model.Answers.{port_row}
use Rattle.law_frame_readings.specs.law_port_facts.Port.{setup_port, IsLinked}
use Rattle.law_frame_readings.proofs.law_port_facts.Found.{find_every}
use Rattle.law_frame_readings.proofs.law_port_facts.Keyed.{at_key, at_every}
use Rattle.law_branch_shapes.specs.world_model.Controller.{ports_of}
use Rattle.law_frame_readings.proofs.law_controller_facts.Conditions.{label_has_home}
use Rattle.law_input_events.specs.law_input_steps.Hearing.{LeadsAway}
use Rattle.law_input_events.specs.Coming.{GoesByLinks, IsBelow, TellsPorts, HasSaid, HasAnswered, IsSteadySite}
use Rattle.law_frame_readings.specs.Reading as readings
use Rattle.law_frame_readings.specs.Reading.{MarksAreRead}
use Rattle.law_frame_readings.specs.law_world_views.Ready.{IsReadySite}
use Rattle.law_frame_readings.specs.law_world_views.Made.{AreMade}
use Rattle.law_frame_readings.specs.law_world_views.Between.{setups_of, IsPortEnd, default, label, IsShapedBranch, home, out, joined, HasShapes, HasPortsUp}
use Rattle.law_run_facts.specs.Nodes.{HasPort, HasLinkPorts, IsNodeOfRun}
use Rattle.law_running_worlds.proofs.Lists.{all_every, ascending, among_right, among_filter}

module _ (past : Past) (node : NodeId) (c : Controller) (ports : HasLinkPorts past.topology node c) where
  links : Every (λ (setup : Setup). IsLinkPort setup.port) (setups_of c)
  links = ports.links

  linked_above : (port : PortNo) (linked : Linked) → linked_at c port ≡ Some linked → 1 ≤ port.0
  linked_above port linked is = subst (λ (n : ℕ). 1 ≤ n) (at_key port_key port.0 c.ports linked is)
      (at_every port_key (λ (l : Linked). IsLinkPort l.setup.port) port.0 c.ports linked (every_unmapped (λ (l : Linked). l.setup) (λ (s : Setup). IsLinkPort s.port) c.ports ports.links) is).0

  abbrev IsOfLink : Route → Type 0
  IsOfLink route = IsLinkedNext past.topology node route.next

  pub goes_by_links : Every IsOfLink c.table → GoesByLinks c
  goes_by_links routes packet port = by (find (is_best c.table (destination_of packet)) c.table) refl
    where
      by_next : (next : Next) → IsLinkedNext past.topology node next → hop_by (ttl_of packet) (Some next) ≡ On port → 1 ≤ port.0
      by_next Local linked e = absurd (cc e)
      by_next (Via p) linked e = by_ttl (nat_le (ttl_of packet) 1) e
        where
          by_ttl : (b : Bool) → (if b then Expired else On p) ≡ On port → 1 ≤ port.0
          by_ttl true e = absurd (cc e)
          by_ttl false e = (let same : p ≡ port = cc e in let h : HasPort c p = ports.found p linked in subst (λ (q : PortNo). 1 ≤ q.0) same (linked_above p h.linked h.is))

      by : (o : Option Route) → find (is_best c.table (destination_of packet)) c.table ≡ o → hop_by (ttl_of packet) (option_map (λ (route : Route). route.next) o) ≡ On port → 1 ≤ port.0
      by None found e = absurd (cc e)
      by (Some route) found e = by_next route.next (find_every IsOfLink (is_best c.table (destination_of packet)) c.table route routes found) e

  -- *Ports of the switch*
  all_above : Every (λ (port : PortNo). IsBelow control_port port) (ports_of c)
  all_above = every_map IsLinkPort (λ (port : PortNo). IsBelow control_port port) (ports_of c) (λ port is. omega (arith, is.0)) (all_every IsLinkPort (ports_of c) ports.ascending.of_links)

  port_count : length (ports_of c) ≡ length (setups_of c)
  port_count = length-map c.ports (λ (l : Linked). l.setup.port) ∙ sym (length-map c.ports (λ (l : Linked). l.setup))

  pub tells_ports : (states : List PortState) → numbers_of states ≡ control_port ∷ ports_of c → FitsRows (map port_row states) → TellsPorts states
  tells_ports states same fits = record {
    ascending = subst (InOrder IsBelow) (sym same) (
      all_above,
      ascending (ports_of c)
          (λ i j before low. AllPairs-from_increasing (map (λ (p : PortNo). p.0) (ports_of c)) ports.ascending.ascending i j 0 before (omega (arith, low, length-map (ports_of c) (λ (p : PortNo). p.0)))),
    );
    some = omega (arith, count);
    few = omega (arith, count, rows, port_count, ports.few);
    fits = fits;
  }
    where
      count : length states ≡ suc (length (ports_of c))
      count = sym (length-map states (λ (state : PortState). state.number)) ∙ ap (λ (l : List PortNo). length l) same

      rows : length (map port_row states) ≡ length states
      rows = length-map states port_row

-- *Branches* lead no cell to the GSMP channel of the control link
module _ (setups : List Setup) (links : Every (λ (setup : Setup). IsLinkPort setup.port) setups) where
  linked_port_above : (port : PortNo) → IsLinked setups port → 1 ≤ port.0
  linked_port_above port is = by (at setup_port port.0 setups) refl is
    where
      by : (o : Option Setup) → at setup_port port.0 setups ≡ o → is_some o ≡ true → 1 ≤ port.0
      by None found e = absurd (cc e)
      by (Some setup) found e = subst (λ (n : ℕ). 1 ≤ n) (at_key setup_port port.0 setups setup found) (at_every setup_port (λ (s : Setup). IsLinkPort s.port) port.0 setups setup links found).0

  pub end_above : (end : End) → IsPortEnd setups end → 1 ≤ end.port.0
  end_above _ (default port is) = linked_port_above port is
  end_above end (label _ is) = (label_has_home setups end links is).least

  home_apart : (end : End) → 1 ≤ end.port.0 → (home_of end).channel ≢ default_channel
  home_apart end above e = apart (ap (λ (c : Channel). c.vpi) e)
    where
      apart : (home_of end).channel.vpi ≡ 0 → ⊥
      apart zero = absurd (omega (arith, zero, above))

  not_zero : (n : ℕ) → 1 ≤ n → (n == 0) ≡ true → ⊥
  not_zero n above e = absurd (grind (arith, nat_tests))

  shaped_away : (input output : End) → IsShapedBranch setups input output → (output.port.0 == 0) ≡ true → output.channel ≢ default_channel
  shaped_away _ _ (home end is) zero = home_apart end (end_above end is)
  shaped_away _ _ (out end is) zero = absurd (not_zero end.port.0 (end_above end is) zero)
  shaped_away _ _ (joined input output i o) zero = absurd (not_zero output.port.0 (end_above output (label output o)) zero)

  pub leads_away : (input : End) (o : Option Branch) → ((output : End) → option_map (λ (b : Branch). b.output) o ≡ Some output → IsShapedBranch setups input output) → LeadsAway o
  leads_away input None shapes = tt
  leads_away input (Some b) shapes = shaped_away input b.output (shapes b.output refl)

-- *A site*
module _ (policy : Policy) (past : Past) (node : NodeId) (site : Site) (found : site_at past.now node ≡ Some site) (n : IsNodeOfRun policy past node site) (ready : IsReadySite site) (shapes : HasShapes past.now node site) where
  pub steady_site : IsSteadySite node site
  steady_site = record {
    steady = record {
      setups = setups_of site.controller;
      links = n.ports.links;
      sound = n.conduct.sound;
      order = n.conduct.order;
      matched = n.conduct.matched;
      rows = ready.rows;
    };
    numbered = n.is_node.own;
    small = omega (arith, n.is_node.few);
    by_links = goes_by_links past node site.controller n.ports n.conduct.routes;
    queues = n.is_node.queues;
    ports = tells_ports past node site.controller n.ports site.switch.ports n.is_node.switch_ports ready.ports;
    same_ports = n.is_node.switch_ports;
    away = λ input. leads_away (setups_of site.controller) n.ports.links input (get site.switch.crossbar.branches input) (λ output e. shapes.branches input output e);
  }

  -- *What is said*
  module _ (read : MarksAreRead) (made : AreMade (frames_of past)) where
    chain_is : requests_chain_at past.now node ≡ site.switch.reassembly.chain
    chain_is = ap (λ (o : Option Site). option_map_or (λ (x : Site). x.switch.reassembly.chain) o []) found

    down_is : queue_at past.now (Down node) ≡ site.controller.queue
    down_is = ap (λ (o : Option Site). option_map_or (λ (x : Site). queue_in x (Down node)) o []) found

    up_is : queue_at past.now (Up node) ≡ queue_of site.switch.crossbar control_port
    up_is = ap (λ (o : Option Site). option_map_or (λ (x : Site). queue_in x (Up node)) o []) found

    pub has_said : HasSaid (frames_of past) node site
    has_said cell m among here under =
        let h : readings.HasSaid (frames_of past) cell.mark m = read.gsmp (frames_of past) cell.mark m made under in
        record {
          fits = h.said.fits;
          said = h.said.said;
          shaped = λ s copy. shapes.copies s cell
              (among_right (requests_chain_at past.now node) (on_channel default_channel (queue_at past.now (Down node))) cell
              (among_filter (λ (x : Cell). same_channel x.header.channel default_channel) (queue_at past.now (Down node)) cell here (subst (λ (q : List Cell). Contains q cell) (sym down_is) among)))
              (ap (option_and_then copy_of) under ∙ copy);
        }

    pub has_answered : HasPortsUp past.now node site → HasAnswered (frames_of past) node site
    has_answered up cell (messages.AllPorts result code number rows) among here under = λ three.
        (let h : readings.HasSaid (frames_of past) cell.mark (messages.AllPorts result code number rows) = read.gsmp (frames_of past) cell.mark (messages.AllPorts result code number rows) made under in (
          h.said.fits.4,
          up.told cell code number rows
              (among_right (answers_chain_at past.now node) (on_channel default_channel (queue_at past.now (Up node))) cell
              (among_filter (λ (x : Cell). same_channel x.header.channel default_channel) (queue_at past.now (Up node)) cell here (subst (λ (q : List Cell). Contains q cell) (sym up_is) among)))
              (under ∙ ap (λ (k : ℕ). Some (messages.AllPorts k code number rows)) three),
        ))
    has_answered up cell (messages.Adjacency greeting) among here under = tt
    has_answered up cell (messages.Branch kind result code number session input_port input output_port output branches priority) among here under = tt
    has_answered up cell (messages.Move result code number session input_port input output_port output target_port target branches priority) among here under = tt
    has_answered up cell (messages.Port result code number port session function) among here under = tt
