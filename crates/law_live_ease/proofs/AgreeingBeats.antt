-- a calm beat of a run, as a network at ease asks it

use Rattle.std.proofs.Common.{◌≡◌, ◌≢◌, ◌∙◌, ℕ, ◌<◌, true, false, List, [], ◌∷◌, ◌++◌, append_assoc, map, length, Some, sym, ap, subst, if◌then◌else◌, arith}
use Rattle.std.specs.Prelude.{nat_eq, nat_lt}
use Rattle.std.specs.Option.{option_map}
use Rattle.std.proofs.lemmas.Bool.Decides.{nat_tests}
use Rattle.world_model.specs.Words.{NodeId, Policy, Setup, at, Label, labels_of, last_transaction, most_asked, is_in_range, ranges_of, timers_of, setup_of, Controller, Linked, linked_at, port_key, controller_at, Node, Topology, World, Site, site_at, next, world_after, past_of, IsRun, IsTame}
use Rattle.world_model.specs.World.{opened}
use Rattle.world_model.specs.Topology.{peer_of}
use Rattle.world_model.specs.network_model.declared.link.LinkEnd.{LinkEnd}
use Rattle.world_model.specs.network_model.declared.event.Event.{Event}
use Rattle.live_model.specs.Beats.{Beat, events_in}
use Rattle.calm_model.specs.Calm as calm
use Rattle.law_live_journeys.specs.law_port_facts.ordered_lists.Ordered.{Every}
use Rattle.law_live_journeys.specs.law_port_facts.Port.{setup_port}
use Rattle.law_live_journeys.proofs.law_port_facts.ordered_lists.Every.{every_map, every_map2}
use Rattle.law_live_journeys.proofs.law_port_facts.ordered_lists.InOrder.{order_unmapped}
use Rattle.law_live_journeys.proofs.law_port_facts.Keyed.{each_found}
use Rattle.law_live_journeys.specs.law_run_facts.law_world_views.Between.{setups_of}
use Rattle.law_live_journeys.specs.law_run_facts.law_world_views.Fronts.{HasAddresses}
use Rattle.law_live_journeys.specs.law_run_facts.Nodes.{IsNodeOf, IsNodeOfRun}
use Rattle.law_live_journeys.proofs.law_run_facts.Nodes.{runs_have_nodes}
use Rattle.law_live_journeys.specs.law_true_runs.Runs.{HoldsInRuns, IsWhole}
use Rattle.law_live_journeys.proofs.law_true_runs.Fronts.{front_run, front_tame}
use Rattle.law_live_journeys.specs.law_live_nodes.Law.{messages_of}
use Rattle.law_live_journeys.specs.law_live_links.Law.{MayTick}
use Rattle.law_live_journeys.specs.law_live_worlds.Law.{Shows, AgreeIn, end_of}
use Rattle.law_live_journeys.specs.law_live_hearing.Law.{world_at}
use Rattle.law_live_journeys.proofs.law_live_hearing.Going.{after_all}
use Rattle.law_live_journeys.specs.law_live_going.Law.{IsWritten}
use Rattle.law_live_journeys.proofs.law_live_calm_nodes.Parts.{along}
use Rattle.law_live_journeys.proofs.law_live_calm_nodes.Control.{HasPeer, has_peer}
use Rattle.law_live_journeys.specs.law_live_lasting.Law.{HasRoom}
use Rattle.law_live_ease.specs.Law.{IsAtEase, PortHasRoom, HaveRoom}
use Rattle.law_live_ease.specs.Beats.{AreCalmEvents, IsCalmBeat}
use Rattle.law_live_ease.specs.Written.{MessagesAreWritten}

-- *What stays the same of a port* is found by its number
at_setup : (k : ℕ) (ports : List Linked) (x : Linked) → at port_key k ports ≡ Some x → at setup_port k (map (λ (l : Linked). l.setup) ports) ≡ Some x.setup
at_setup k [] x e = absurd (cc e)
at_setup k (p ∷ ports) x e = elim (nat_eq (port_key p) k)
    as (λ t. (if t then Some p else at port_key k ports) ≡ Some x → (if t then Some p.setup else at setup_port k (map (λ (l : Linked). l.setup) ports)) ≡ Some x.setup) [
      | true ↦ λ h. (let same : p ≡ x = cc in ap (λ (l : Linked). Some l.setup) same)
      | false ↦ λ h. at_setup k ports x h
    ] e

one_setup : (x y : Setup) → Some x ≡ Some y → x ≡ y
one_setup x y e = cc e

one_node : (x y : Node) → Some x ≡ Some y → x ≡ y
one_node x y e = cc e

pub one_shown : (w : World) (place : LinkEnd) (x y : Linked) (a : Shows w place x) (b : Shows w place y) → x ≡ y
one_shown w place x y a b =
    let there : Some a.site ≡ Some b.site = sym a.there ∙ b.there in
    let same : a.site ≡ b.site = cc in
    let is_one : Some x ≡ Some y = sym a.of_port ∙ (ap (λ (s : Site). linked_at s.controller place.port) same ∙ b.of_port) in
    cc

less : (a b : ℕ) → a < b → nat_lt a b ≡ true
less a b h = grind (arith, nat_tests)

-- *A controller that has room*
port_room : (site : Site) (linked : Linked) → calm.PortHasRoom site.controller linked → PortHasRoom site linked
port_room site linked r = record {
  number_left = omega (arith, r.numbers);
  grants = r.grants;
  requests = less (length site.controller.desk.standing) most_asked r.requests;
}

controller_of : (w : World) (node : NodeId) (site : Site) → site_at w node ≡ Some site → controller_at w node ≡ Some site.controller
controller_of w node site found = ap (option_map (λ (s : Site). s.controller)) found

unspent_in : (c : Controller) → calm.HasRoom c → c.desk.next ≢ last_transaction
unspent_in c room spent = omega (arith, room.numbers, spent)

-- *The setups of a node* are those of the topology, in each world of a run
module _ (policy : Policy) (topology : Topology) (addresses : HasAddresses topology) where
  node_of : (events : List Event) → IsRun policy topology events → (node : NodeId) (site : Site) → site_at (world_at policy topology events) node ≡ Some site
      → IsNodeOf policy topology node site
  node_of events run node site found = (runs_have_nodes policy topology events addresses run node site found).is_node

  same_setups : (node : NodeId) (one other : Site) → IsNodeOf policy topology node one → IsNodeOf policy topology node other
      → setups_of one.controller ≡ setups_of other.controller
  same_setups node one other a b =
      let there : a.there ≡ b.there = one_node a.there b.there (sym a.is ∙ b.is) in
      a.setups ∙ (ap (λ (n : Node). map (setup_of node n.address (timers_of topology) policy) (ranges_of topology node n)) there ∙ sym b.setups)

  setup_stays : (before later : List Event) → IsRun policy topology before → IsRun policy topology later → (end : LinkEnd) (linked now : Linked)
      → Shows (world_at policy topology before) end linked → Shows (world_at policy topology later) end now → now.setup ≡ linked.setup
  setup_stays before later run run_later end linked now shows now_shows = one_setup now.setup linked.setup
      (sym (at_setup end.port.0 now_shows.site.controller.ports now now_shows.of_port)
      ∙ (ap (at setup_port end.port.0) (same_setups end.node now_shows.site shows.site (node_of later run_later end.node now_shows.site now_shows.there)
      (node_of before run end.node shows.site shows.there))
      ∙ at_setup end.port.0 shows.site.controller.ports linked shows.of_port))

  -- *Ranges meet*: whatever label one end of a link may give, the other takes
  abbrev pub RangesMeet : World → Type 0
  RangesMeet w = (one far : LinkEnd) (linked far_linked : Linked) → peer_of topology one.node one.port ≡ Some far → Shows w one linked → Shows w far far_linked
      → (number : ℕ) → is_in_range linked.setup number ≡ true → is_in_range far_linked.setup number ≡ true

  pub ranges_stay : (before later : List Event) → IsRun policy topology before → IsRun policy topology later → IsAtEase topology (world_at policy topology before)
      → RangesMeet (world_at policy topology before) → RangesMeet (world_at policy topology later)
  ranges_stay before later run run_later ease meet one far linked far_linked between shows far_shows number in_range =
      let agree = (ease.peace.lasting.peace.links one far between).agree in
      let near : linked.setup ≡ agree.linked.setup = setup_stays before later run run_later one agree.linked linked agree.shows shows in
      let distant : far_linked.setup ≡ agree.far_linked.setup = setup_stays before later run run_later far agree.far_linked far_linked agree.far_shows far_shows in
      subst (λ (s : Setup). is_in_range s number ≡ true) (sym distant)
      (meet one far agree.linked agree.far_linked between agree.shows agree.far_shows number (subst (λ (s : Setup). is_in_range s number ≡ true) near in_range))

  -- *Calm events* behind these events
  module _ (before all : List Event) (run : IsRun policy topology (before ++ all)) (ease : IsAtEase topology (world_at policy topology before))
      (meet : RangesMeet (world_at policy topology before)) (room_there : calm.HaveRoom (world_at policy topology before))
      (each : (front rest : List Event) (event : Event) → all ≡ front ++ event ∷ rest → calm.IsCalm topology (world_after topology (world_at policy topology before) front) event) where
    abbrev start : World
    start = world_at policy topology before

    run_to : (front rest : List Event) → all ≡ front ++ rest → IsRun policy topology (before ++ front)
    run_to front rest e = front_run policy topology (before ++ front) rest
        (subst (IsRun policy topology) (ap (λ (es : List Event). before ++ es) e ∙ sym (append_assoc before front rest)) run)

    rooms : (front rest : List Event) → all ≡ front ++ rest → calm.HaveRoom (world_after topology start front)
    rooms = along topology calm.HaveRoom all start room_there (λ front rest event e h. (each front rest event e).room)

    have_room : (front rest : List Event) → all ≡ front ++ rest → HaveRoom topology (world_after topology start front)
    have_room front rest e = record {
      numbers = λ node site found. (let room = rooms front rest e node site.controller (controller_of (world_after topology start front) node site found) in omega (arith, room.numbers));
      ports = λ node site found. every_map (calm.PortHasRoom site.controller) (PortHasRoom site) site.controller.ports (λ linked r. port_room site linked r)
          (rooms front rest e node site.controller (controller_of (world_after topology start front) node site found)).ports;
      ranges = subst RangesMeet (after_all topology (opened policy topology) before front)
          (ranges_stay before (before ++ front) (front_run policy topology before all run) (run_to front rest e) ease meet);
    }

    pub calm_events : AreCalmEvents topology start all
    calm_events front rest event e = record {
      entries = (each front rest event e).entries;
      unlost = (each front rest event e).unlost;
      room = have_room front (event ∷ rest) e;
      unspent = λ node site found. unspent_in site.controller ((each front rest event e).room node site.controller
          (controller_of (next topology (world_after topology start front) event) node site found));
    }

  -- *A calm beat* behind these events
  module _ (whole : HoldsInRuns IsWhole) (written : MessagesAreWritten) (before : List Event) (beat : Beat)
      (run : IsRun policy topology (before ++ events_in (world_at policy topology before) beat))
      (tame : IsTame (past_of policy topology (before ++ events_in (world_at policy topology before) beat)).records)
      (ease : IsAtEase topology (world_at policy topology before)) (meet : RangesMeet (world_at policy topology before))
      (b : calm.IsCalmBeat topology (world_at policy topology before) beat) where
    abbrev w : World
    w = world_at policy topology before

    abbrev all : List Event
    all = events_in w beat

    begun : IsRun policy topology before
    begun = front_run policy topology before all run

    -- *As it begins* each port may tick, and what it says can be written
    module _ (node : NodeId) (site : Site) (found : site_at w node ≡ Some site) where
      is_node : IsNodeOfRun policy (past_of policy topology before) node site
      is_node = runs_have_nodes policy topology before addresses begun node site found

      room : calm.HasRoom site.controller
      room = b.room node site.controller (controller_of w node site found)

      ticks_so : (linked : Linked) → calm.PortHasRoom site.controller linked
          → Every (λ (label : Label). calm.is_kept linked.setup label ≡ true) (labels_of linked.port) → MayTick (end_of linked [])
      ticks_so linked r used = record { kept = used; numbers = omega (arith, r.numbers) }

      says_so : (linked : Linked) → linked_at site.controller linked.setup.port ≡ Some linked → MayTick (end_of linked []) → Every IsWritten (messages_of linked)
      says_so linked there may = by (has_peer (peer_of topology node linked.setup.port) (is_node.ports.linked linked.setup.port linked there)) where
        by : HasPeer (peer_of topology node linked.setup.port) → Every IsWritten (messages_of linked)
        by peer =
            let one : LinkEnd = record { node = node; port = linked.setup.port } in
            let agree : AgreeIn w one peer.far [] [] = (ease.peace.lasting.peace.links one peer.far peer.is).agree in
            let there_too : Some agree.linked ≡ Some linked = sym agree.shows.of_port
            ∙ (ap (λ (s : Site). linked_at s.controller linked.setup.port) (one_found agree.shows.site site (sym agree.shows.there ∙ found)) ∙ there) in
            let same : agree.linked ≡ linked = one_port agree.linked linked there_too in
            subst (λ (l : Linked). Every IsWritten (messages_of l)) same
            (written policy topology before one peer.far begun addresses (whole policy topology before begun addresses (front_tame policy topology before all tame)).world agree
            (subst (λ (l : Linked). MayTick (end_of l [])) (sym same) may))
          where
            one_found : (x y : Site) → Some x ≡ Some y → x ≡ y
            one_found x y e = cc e

            one_port : (x y : Linked) → Some x ≡ Some y → x ≡ y
            one_port x y e = cc e

      each_there : Every (λ (linked : Linked). at port_key (port_key linked) site.controller.ports ≡ Some linked) site.controller.ports
      each_there = each_found port_key site.controller.ports
          (order_unmapped (λ (linked : Linked). linked.setup) (λ (x y : Setup). setup_port x ≢ setup_port y) site.controller.ports is_node.conduct.sound.ports.apart)

      may_all : Every (λ (linked : Linked). MayTick (end_of linked [])) site.controller.ports
      may_all = every_map2 (calm.PortHasRoom site.controller) (λ (linked : Linked). Every (λ (label : Label). calm.is_kept linked.setup label ≡ true) (labels_of linked.port))
          (λ (linked : Linked). MayTick (end_of linked [])) site.controller.ports (λ linked r used. ticks_so linked r used) room.ports
          (b.kept node site.controller (controller_of w node site found))

      has_room : HasRoom w site
      has_room = record {
        may_join = omega (arith, room.numbers);
        ports = every_map2 (λ (linked : Linked). at port_key (port_key linked) site.controller.ports ≡ Some linked) (λ (linked : Linked). MayTick (end_of linked []))
            (λ (linked : Linked). MayTick (end_of linked []) × Every IsWritten (messages_of linked)) site.controller.ports
            (λ linked there may. (may, says_so linked there may)) each_there may_all;
      }

    pub calm_beat : IsCalmBeat policy topology before beat
    calm_beat = record { run = run; addresses = addresses; tame = tame; is_beat = b.is_beat; room = has_room; calm = calm_events before all run ease meet b.room b.calm }
