-- a network in peace from carry to carry

use Rattle.std.proofs.Common.{◌≡◌, ◌<◌, ◌^◌, List, [], ◌∷◌, ◌++◌, drop, Option, Some, refl, sym, ap, subst}
use Rattle.std.specs.Prelude.{is_some}
use Rattle.world_model.specs.Words.{Policy, NodeId, PortNo, Place, Down, Up, Out, Addr, Topology, World, Site, site_at, next, world_after, CountsAsItsFrame, IsNode, IsTopology, past_of}
use Rattle.world_model.specs.World.{opened}
use Rattle.world_model.specs.Topology.{peer_of}
use Rattle.world_model.specs.network_model.declared.link.LinkEnd.{LinkEnd}
use Rattle.world_model.specs.network_model.declared.event.Event.{Event}
use Rattle.world_model.specs.network_model.declared.event.Event.TheVariants.{Carry}
use Rattle.law_live_lasting.proofs.law_control_places.Chains.{chains_are_their_frames}
use Rattle.law_live_lasting.specs.law_run_facts.law_world_views.Between.{IsWorld}
use Rattle.law_live_lasting.specs.law_run_facts.law_world_views.Kept.{Comes}
use Rattle.law_live_lasting.proofs.law_run_facts.Nodes.{runs_have_nodes}
use Rattle.law_live_lasting.proofs.law_run_facts.Steps.{after_one, runs_have_fronts}
use Rattle.law_live_lasting.proofs.law_running_worlds.law_causes.Shown.{IsPeer, peer_back}
use Rattle.law_live_lasting.proofs.law_live_links.Resting.{swapped}
use Rattle.law_live_lasting.specs.law_live_hearing.Law.{world_at}
use Rattle.law_live_lasting.specs.law_live_orders.Messages.{AreComing}
use Rattle.law_live_lasting.specs.law_live_orders.Slots.{IsUnlost}
use Rattle.law_live_lasting.specs.law_live_control_links.Law.{IsCalmLink, IsUnspentAt, CarriesOutNext}
use Rattle.law_live_lasting.specs.law_live_passed_by.Law.{BringsNone, IsForOthersAt}
use Rattle.law_live_lasting.proofs.law_live_control_links.Runs.{runs_are_steady}
use Rattle.law_live_lasting.specs.law_live_ways.Links.{ComesNone, StandsNoneAt}
use Rattle.law_live_lasting.proofs.law_live_ways.Links.{none_comes_still}
use Rattle.law_live_lasting.specs.law_live_calm_nodes.Ports.{IsPortUp}
use Rattle.law_live_lasting.proofs.law_live_calm_nodes.Ports.{agreed_ports_are_up, up_nodes_stand_none}
use Rattle.law_live_lasting.proofs.law_live_calm_nodes.Control.{HasPeer, has_peer}
use Rattle.law_live_lasting.proofs.law_live_calm_nodes.Links.{LinkGoes, goes_on}
use Rattle.law_live_lasting.specs.law_live_mirrored_worlds.Law.{IsCalmEvent, IsCalmlyMirrored, CarriesOut}
use Rattle.law_live_lasting.specs.law_live_mirrored_worlds.Law as mirrored
use Rattle.law_live_lasting.proofs.law_live_mirrored_worlds.Events.{same_node}
use Rattle.law_live_lasting.proofs.law_live_mirrored_worlds.Stretches.{stretches_carry_out}
use Rattle.law_live_asking.specs.Peace.{IsPeacefulEnd}
use Rattle.law_live_asking.specs.Going.{IsLinkGoing, IsGoing, IsReadyNode, IsCarryInPeace, GoesOnBehind, CarriesInPeaceGoOn}
use Rattle.law_live_asking.proofs.Links.{peaceful_nodes_may_hear}
use Rattle.law_live_asking.proofs.Runs.{carries_ask}

-- *A link that goes on*
to_goes : (topology : Topology) (w : World) (one far : LinkEnd) → IsLinkGoing topology w one far → LinkGoes topology w one far
to_goes topology w one far l = record {
  address = l.agree.shows.site.controller.address;
  far_address = l.agree.far_shows.site.controller.address;
  low = l.low;
  far_low = l.far_low;
  stands = record {
    said = l.said;
    far_said = l.far_said;
    agree = l.agree;
    there = l.coming_there;
    back = l.coming_back;
    written = l.written;
    far_written = l.far_written;
    own = refl;
    far_own = refl;
  };
  there = l.there;
  back = l.back;
}

pub from_goes : (topology : Topology) (w : World) (one far : LinkEnd) → LinkGoes topology w one far → IsLinkGoing topology w one far
from_goes topology w one far l = record {
  said = l.stands.said;
  far_said = l.stands.far_said;
  agree = l.stands.agree;
  coming_there = subst (λ (address : Addr). AreComing address w one far l.stands.said) (sym l.stands.own) l.stands.there;
  coming_back = subst (λ (address : Addr). AreComing address w far one l.stands.far_said) (sym l.stands.far_own) l.stands.back;
  written = l.stands.written;
  far_written = l.stands.far_written;
  low = subst (λ (address : Addr). address.0 < 2 ^ 32) (sym l.stands.own) l.low;
  far_low = subst (λ (address : Addr). address.0 < 2 ^ 32) (sym l.stands.far_own) l.far_low;
  there = l.there;
  back = l.back;
}

-- one event alone
first_event : (x y : Event) (xs ys : List Event) → x ∷ xs ≡ y ∷ ys → x ≡ y
first_event x y xs ys e = cc e

none_later : (front rest : List Event) (event : Event) → [] ≡ front ++ event ∷ rest → ⊥
none_later [] rest event e = absurd (cc e)
none_later (x ∷ front) rest event e = absurd (cc e)

module _ (policy : Policy) (topology : Topology) (before : List Event) (place : Place) (comes : Comes policy topology before (Carry place)) (world : IsWorld (past_of policy topology before))
    (g : IsGoing topology (world_at policy topology before)) (c : IsCarryInPeace topology (world_at policy topology before) place) where
  abbrev w : World
  w = world_at policy topology before

  abbrev v : World
  v = next topology w (Carry place)

  is : IsTopology topology
  is = comes.run.topology_is

  behind_is : world_at policy topology (before ++ Carry place ∷ []) ≡ v
  behind_is = after_one topology (opened policy topology) before (Carry place)

  counts : CountsAsItsFrame w (Carry place)
  counts = chains_are_their_frames policy topology before (Carry place) comes.tame

  inside : (node : NodeId) (site : Site) → site_at w node ≡ Some site → IsNode topology node
  inside node site found = (runs_have_nodes policy topology before comes.addresses (runs_have_fronts policy topology before (Carry place) comes).run node site found).is_node.number

  -- *What comes next* is carried out
  at_once : (node : NodeId) → IsNode topology node → CarriesOut w node
  at_once node within = stretches_carry_out topology w node [] (g.nodes node within) (λ front rest event e. absurd (none_later front rest event e)) [] [] refl

  carried_out : (node : NodeId) → CarriesOutNext w node
  carried_out node site cell cells payload message found = (at_once node (inside node site found)).next_one site cell cells payload message found

  -- *What a carry brings a node* may come
  module _ (node : NodeId) (within : IsNode topology node) where
    abbrev link : IsCalmLink w node
    link = (g.nodes node within).calm

    end_in_peace : place ≡ Up node → (port : PortNo) (one : LinkEnd) → peer_of topology node port ≡ Some one → IsPeacefulEnd topology w one (record { node = node; port = port })
    end_in_peace own port one linked = by (g.links (record { node = node; port = port }) one linked)
      where
        by : IsLinkGoing topology (world_at policy topology before) (record { node = node; port = port }) one → IsPeacefulEnd topology (world_at policy topology before) one (record { node = node; port = port })
        by l = record {
          said = l.far_said;
          far_said = l.said;
          agree = record { linked = l.agree.far_linked; far_linked = l.agree.linked; shows = l.agree.far_shows; far_shows = l.agree.shows; agreed = swapped l.agree.agreed };
          there = l.coming_back;
          written = l.far_written;
          low = l.far_low;
          is_open = l.back;
          others = subst (λ (p : Place). BringsNone w (record { node = node; port = port }) p → IsForOthersAt w (record { node = node; port = port }) p) own
              (c.others (record { node = node; port = port }) one linked);
        }

    goes_here : (p : Place) → place ≡ p → mirrored.GoesOn topology w node (Carry p)
    goes_here (Down here) own = λ same. record {
      counts = subst (λ (p : Place). CountsAsItsFrame w (Carry p)) own counts;
      unlost = subst (IsUnlost topology w) own c.unlost;
    }
    goes_here (Out here port) own = tt
    goes_here (Up here) own = λ same. subst (λ (n : NodeId). place ≡ Up n → mirrored.AsksSome topology w n (Carry (Up n))) (same_node node here same) brought own
      where
        brought : place ≡ Up node → mirrored.AsksSome topology (world_at policy topology before) node (Carry (Up node))
        brought own = (let ready : IsReadyNode w link.site = c.ready node link.site link.found in
            let can : Comes policy topology before (Carry (Up node)) = subst (λ (p : Place). Comes policy topology before (Carry p)) own comes in
            carries_ask policy topology before node link.site can world link.found (record {
              known = ready.known;
              number_left = ready.number_left;
              may_come = peaceful_nodes_may_hear policy topology before node can world link ready.joins ready.clear (end_in_peace own);
              unlost = subst (λ (p : Place). (next topology w (Carry p)).notes.entries ≡ w.notes.entries) own c.entries;
            }))

    calm_event : IsCalmEvent topology w node (Carry place)
    calm_event = record {
      steady = (runs_are_steady policy topology before (Carry place) comes world node).0;
      true_event = (runs_are_steady policy topology before (Carry place) comes world node).1;
      unspent = c.unspent node;
      goes_on = goes_here place refl;
    }

    only_event : (front rest : List Event) (event : Event) → Carry place ∷ [] ≡ front ++ event ∷ rest → IsCalmEvent topology (world_after topology w front) node event
    only_event [] rest event e = subst (IsCalmEvent topology w node) (first_event (Carry place) event [] rest e) calm_event
    only_event (x ∷ front) rest event e = absurd (none_later front rest event (ap (drop 1) e))

    node_behind : IsCalmlyMirrored v node
    node_behind = (stretches_carry_out topology w node (Carry place ∷ []) (g.nodes node within) only_event (Carry place ∷ []) [] refl).stays

  -- *Each link* goes on
  module _ (one far : LinkEnd) (linked : peer_of topology one.node one.port ≡ Some far) where
    peer : IsPeer topology one far
    peer = peer_back topology is one far linked

    link_goes : LinkGoes topology v one far
    link_goes = goes_on policy topology before place comes world one far linked (to_goes topology w one far (g.links one far linked)) c.unlost
        (record { others = c.others; carried_out = carried_out }) (g.none one far linked) (g.none far one peer.back)

  up_behind : (one far : LinkEnd) → peer_of topology one.node one.port ≡ Some far → IsPortUp v one
  up_behind one far linked = by (link_goes one far linked)
    where
      by : LinkGoes topology (next topology (world_at policy topology before) (Carry place)) one far → IsPortUp (next topology (world_at policy topology before) (Carry place)) one
      by l = agreed_ports_are_up (next topology (world_at policy topology before) (Carry place)) one far l.stands.said l.stands.far_said l.stands.agree

  stands_none : (one far : LinkEnd) → peer_of topology one.node one.port ≡ Some far → StandsNoneAt v one.node
  stands_none one far linked = subst (λ (x : World). ((a z : LinkEnd) → peer_of topology a.node a.port ≡ Some z → IsPortUp x a) → IsUnspentAt x one.node → StandsNoneAt x one.node) behind_is
      (λ ups. up_nodes_stand_none policy topology (before ++ Carry place ∷ []) one comes.addresses comes.run (ap (λ (o : Option LinkEnd). is_some o) linked)
      (λ port there. (let other : HasPeer (peer_of topology one.node port) = has_peer (peer_of topology one.node port) there in ups (record { node = one.node; port = port }) other.far other.is)))
      up_behind (c.unspent one.node)

  none_behind : (one far : LinkEnd) → peer_of topology one.node one.port ≡ Some far → ComesNone v one.node
  none_behind one far linked = (let within : IsNode topology one.node = (peer_back topology is far one (peer one far linked).back).node in
      none_comes_still.carries topology w one.node place (g.nodes one.node within).calm (runs_are_steady policy topology before (Carry place) comes world one.node).0
      (runs_are_steady policy topology before (Carry place) comes world one.node).1 (stands_none one far linked) (g.none one far linked))

  going : GoesOnBehind topology w place
  going = record {
    carried_out = carried_out;
    goes_on = record {
      nodes = node_behind;
      links = λ one far linked. from_goes topology v one far (link_goes one far linked);
      none = none_behind;
    };
  }

pub carries_in_peace_go_on : CarriesInPeaceGoOn
carries_in_peace_go_on policy topology before place comes world g c = going policy topology before place comes world g c
