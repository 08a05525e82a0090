-- an event in peace at a link and at both of its nodes leaves each port to its table, and its frames in order

use Rattle.std.specs.Prelude.{Contains}
use Rattle.std.proofs.Common.{◌≡◌, ℕ, zero, arith, List, [], ◌∷◌, ◌++◌, Some, inl, inr, refl, sym, ◌∙◌, ap, subst}
use Rattle.world_model.specs.Words.{NodeId, Down, Up, Out, Cell, queue_at, Policy, Topology, IsTopology, World, Site, site_at, is_estab, next, past_of, IsRun}
use Rattle.world_model.specs.Topology.{peer_of}
use Rattle.world_model.specs.World.{opened}
use Rattle.world_model.specs.network_model.declared.link.LinkEnd.{LinkEnd}
use Rattle.world_model.specs.network_model.declared.event.Event.{Event}
use Rattle.world_model.specs.network_model.declared.event.Event.TheVariants.{Inject, Carry, Lose, Tick, TickSwitch, Restart, RestartSwitch, Forge, Route}
use Rattle.live_model.specs.Peace.{LosesNone}
use Rattle.law_link_nodes.proofs.law_causes.Shown.{IsPeer, peer_back}
use Rattle.law_control_places.proofs.Chains.{chains_are_their_frames}
use Rattle.law_link_nodes.specs.law_run_facts.law_world_views.Between.{IsWorld}
use Rattle.law_link_nodes.specs.law_run_facts.law_world_views.Fronts.{HasAddresses}
use Rattle.law_link_nodes.specs.law_run_facts.law_world_views.Kept.{Comes}
use Rattle.law_link_nodes.proofs.law_run_facts.Steps.{after_one, runs_have_fronts}
use Rattle.law_link_nodes.specs.law_live_hearing.Law.{world_at}
use Rattle.law_link_nodes.specs.law_live_waking_links.Law.{HearsByTable}
use Rattle.law_link_nodes.specs.law_live_tables.Law.{IsOrderly, IsNodeUp, GoesByAddress, TicksInPeace}
use Rattle.law_link_nodes.proofs.law_live_tables.Ticks.{runs_are_orderly}
use Rattle.law_link_nodes.specs.law_live_woken_links.Law.{GoesOn, IsPeaceful}
use Rattle.law_link_orders.specs.Law.{LeavesUnlost}
use Rattle.law_link_nodes.specs.law_link_tables.Events.{ComesInPeace}
use Rattle.law_link_nodes.specs.Law.{IsMetAs}
use Rattle.live_model.specs.Links.{IsAt, LosesNothing, HasNumbers, IsLinkPeaceful}
use Rattle.law_link_woken.specs.Given.{ComesAtEnd, Given}
use Rattle.law_link_woken.proofs.Packets.{packets_go_by_table}
use Rattle.law_link_woken.proofs.Keeping.{ticks_keep_theirs}

same_node : (one other : NodeId) → one.0 ≡ other.0 → one ≡ other
same_node one other e = λ i. record { 0 = e i }

one_site : (x y : Site) → Some x ≡ Some y → x ≡ y
one_site x y e = cc e

-- *A node that has met* is up
pub met_is_up : (w : World) (end : LinkEnd) (node : NodeId) → end.node ≡ node → {one other : _} → IsMetAs w node one other → IsNodeUp w end
met_is_up w end node same m site found =
    let is : m.site ≡ site = one_site m.site site (sym m.found ∙ (ap (λ (n : NodeId). site_at w n) (sym same) ∙ found)) in
    ap (λ (s : Site). is_estab s.controller.adjacency.state) (sym is) ∙ ap is_estab m.met.one_is_up

-- *None is lost* that goes from an end
leaves_unlost : (topology : Topology) (w : World) (node : NodeId) (end : LinkEnd) (event : Event) → LosesNone topology w node event → (IsAt end event → LosesNothing topology w event)
    → LeavesUnlost topology w end event
leaves_unlost topology w node end (Carry (Down here)) peace nothing = λ same. (nothing same).unlost
leaves_unlost topology w node end (Carry (Up here)) peace nothing = tt
leaves_unlost topology w node end (Carry (Out here port)) peace nothing = λ same on. (nothing (same, on)).unlost
leaves_unlost topology w node end (Inject here octets) peace nothing = tt
leaves_unlost topology w node end (Tick here) peace nothing = tt
leaves_unlost topology w node end (TickSwitch here) peace nothing = tt
leaves_unlost topology w node end (Lose place) peace nothing = peace
leaves_unlost topology w node end (Restart here) peace nothing = tt
leaves_unlost topology w node end (RestartSwitch here) peace nothing = tt
leaves_unlost topology w node end (Forge place channel payload) peace nothing = peace
leaves_unlost topology w node end (Route here change) peace nothing = tt

module _ (given : Given) (policy : Policy) (topology : Topology) (addresses : HasAddresses topology) where
  -- *At an end*
  pub record Fit (before : List Event) (event : Event) (end peer : LinkEnd) : Type 0 where
    pub comes : Comes policy topology before event
    pub world_then : IsWorld (past_of policy topology (before ++ event ∷ []))
    pub nothing : IsAt end event → LosesNothing topology (world_at policy topology before) event
    pub up_then : IsNodeUp (next topology (world_at policy topology before) event) end

  module _ (before : List Event) (end peer : LinkEnd) (peers : peer_of topology end.node end.port ≡ Some peer) (world : IsWorld (past_of policy topology before))
      (numbers : HasNumbers (world_at policy topology before) end) (up : IsNodeUp (world_at policy topology before) end) where
    abbrev w : World
    w = world_at policy topology before

    at_end : (event : Event) → Comes policy topology before event → ComesAtEnd policy topology before event end peer
    at_end event comes = record { comes = comes; world = world; peers = peers }

    run_of : (event : Event) → Comes policy topology before event → IsRun policy topology before
    run_of event comes = (runs_have_fronts policy topology before event comes).run

    is_peer : (event : Event) → Comes policy topology before event → IsPeer topology end peer
    is_peer event comes = peer_back topology comes.run.topology_is end peer peers

    back : (event : Event) → Comes policy topology before event → IsPeer topology peer end
    back event comes = peer_back topology comes.run.topology_is peer end (is_peer event comes).back

    address_then : (event : Event) → Fit before event end peer → GoesByAddress (next topology w event) end
    address_then event fit = subst (λ (v : World). GoesByAddress v end) (after_one topology (opened policy topology) before event)
        (given.addresses policy topology (before ++ event ∷ []) end peer fit.comes.run.topology_is fit.world_then peers)

    orderly : (event : Event) → Comes policy topology before event → IsOrderly w end
    orderly event comes = runs_are_orderly policy topology before addresses (run_of event comes) world end

    tick_on : Fit before (Tick end.node) end peer → TicksInPeace topology w end
    tick_on fit = record {
      up = fit.up_then;
      unlost = (fit.nothing refl).entries;
      address = address_then (Tick end.node) fit;
      keeps = ticks_keep_theirs given.parties policy topology before end peer (at_end (Tick end.node) fit.comes) numbers fit.up_then;
    }

    comes_in : Fit before (Carry (Up end.node)) end peer → ComesInPeace topology w end
    comes_in fit = record {
      up = up;
      up_then = fit.up_then;
      unlost = (fit.nothing refl).entries;
      cell_unlost = (fit.nothing refl).unlost;
      counts = chains_are_their_frames policy topology before (Carry (Up end.node)) fit.comes.tame;
      address = address_then (Carry (Up end.node)) fit;
      labels = λ site found. given.labels policy topology before addresses (run_of (Carry (Up end.node)) fit.comes) end.node site found;
      fits = λ site cell cells found queue. (let first : Contains (queue_at w (Up end.node)) cell = subst (λ (q : List Cell). Contains q cell) (sym queue) (zero, omega arith, refl) in record {
        marked = λ none. world.numbers.counted (Up end.node) cell first none;
        packets = λ q label payload takes made. given.packets policy topology before addresses (run_of (Carry (Up end.node)) fit.comes) world end.node (back (Carry (Up end.node)) fit.comes).node
            site cell q label payload found first takes made;
      });
    }

    carry_on : Fit before (Carry (Up end.node)) end peer → HearsByTable topology w (Carry (Up end.node)) end peer
    carry_on fit linked peer_linked shows peer_shows hears greet written named =
        given.carries topology w end peer linked peer_linked shows peer_shows hears (is_peer (Carry (Up end.node)) fit.comes).own (orderly (Carry (Up end.node)) fit.comes) (comes_in fit) greet written named
        (given.carries_keep policy topology before end peer (at_end (Carry (Up end.node)) fit.comes) numbers (comes_in fit) linked peer_linked shows peer_shows hears greet written)

    packet_on : (octets : List ℕ) → Fit before (Inject end.node octets) end peer → HearsByTable topology w (Inject end.node octets) end peer
    packet_on octets fit =
        packets_go_by_table given.entries given.entries_keep topology w end peer octets (is_peer (Inject end.node octets) fit.comes).own (orderly (Inject end.node octets) fit.comes)
        (λ site found. given.labels policy topology before addresses (run_of (Inject end.node octets) fit.comes) end.node site found) (address_then (Inject end.node octets) fit)

    pub goes_on : (event : Event) → Fit before event end peer → GoesOn topology w end peer event
    goes_on (Tick here) fit = λ same. tick_on (subst (λ (n : NodeId). Fit before (Tick n) end peer) (same_node here end.node same) fit)
    goes_on (Carry (Up here)) fit = λ same. (let e : here ≡ end.node = same_node here end.node same in
        subst (λ (n : NodeId). HearsByTable topology w (Carry (Up n)) end peer) (sym e) (carry_on (subst (λ (n : NodeId). Fit before (Carry (Up n)) end peer) e fit)))
    goes_on (Inject here octets) fit = λ same. (let e : here ≡ end.node = same_node here end.node same in
        subst (λ (n : NodeId). HearsByTable topology w (Inject n octets) end peer) (sym e) (packet_on octets (subst (λ (n : NodeId). Fit before (Inject n octets) end peer) e fit)))
    goes_on (Carry (Down here)) fit = tt
    goes_on (Carry (Out here port)) fit = tt
    goes_on (Lose place) fit = tt
    goes_on (TickSwitch here) fit = tt
    goes_on (Restart here) fit = tt
    goes_on (RestartSwitch here) fit = tt
    goes_on (Forge place channel payload) fit = tt
    goes_on (Route here change) fit = tt

  -- *At both*
  pub record Ups (v : World) (one far : LinkEnd) : Type 0 where
    pub near : IsNodeUp v one
    pub far_up : IsNodeUp v far

  pub peaceful : (before : List Event) (event : Event) (one far : LinkEnd) → peer_of topology one.node one.port ≡ Some far → Comes policy topology before event
      → IsWorld (past_of policy topology before) → IsWorld (past_of policy topology (before ++ event ∷ [])) → LosesNone topology (world_at policy topology before) one.node event
      → IsLinkPeaceful topology (world_at policy topology before) one far event → Ups (world_at policy topology before) one far
      → Ups (next topology (world_at policy topology before) event) one far → IsPeaceful topology (world_at policy topology before) one far event
  peaceful before event one far peers comes world world_then peace link ups ups_then =
      let w : World = world_at policy topology before in
      let is : IsTopology topology = comes.run.topology_is in
      let peer : IsPeer topology one far = peer_back topology is one far peers in
      let run : IsRun policy topology before = (runs_have_fronts policy topology before event comes).run in
      record {
        order = given.order topology w one far event is (given.lead policy topology before one far addresses run world peers)
            (leaves_unlost topology w one.node one event peace (λ own. link.unlost (inl own)));
        order_back = given.order topology w far one event is (given.lead policy topology before far one addresses run world peer.back)
            (leaves_unlost topology w one.node far event peace (λ own. link.unlost (inr own)));
        named = given.named policy topology before event one far (record { comes = comes; world = world; peers = peers });
        named_back = given.named policy topology before event far one (record { comes = comes; world = world; peers = peer.back });
        near = goes_on before one far peers world link.numbers ups.near event (record { comes = comes; world_then = world_then; nothing = λ own. link.unlost (inl own); up_then = ups_then.near });
        far_end = goes_on before far one peer.back world link.far_numbers ups.far_up event (record { comes = comes; world_then = world_then; nothing = λ own. link.unlost (inr own); up_then = ups_then.far_up });
      }
