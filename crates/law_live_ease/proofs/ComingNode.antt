-- a carry that brings the controller of a node a cell, in a run of a network that binds: what is so of the node then

use Rattle.std.proofs.Common.{◌≡◌, ◌≢◌, inl, inr, ℕ, ◌≤◌, ◌<◌, Bool, true, false, true≢false, List, Option, None, Some, refl, sym, ◌∙◌, ap, subst, arith}
use Rattle.std.specs.Prelude.{is_some}
use Rattle.std.specs.Option.{option_map_or}
use Rattle.world_model.specs.Words.{Policy, NodeId, Up, End, MoveBranch, number_of_channel, Standing, Done, answered, is_estab, is_spent, is_clearing, IsLinkPort, last_transaction, at, Setup, Session, Controller, Linked, port_key, Topology, World, Site, site_at, IsNode, IsTopology, CountsAsItsFrame, past_of}
use Rattle.world_model.specs.gsmp_wire.declared.message.Message.{Message}
use Rattle.world_model.specs.Topology.{peer_of}
use Rattle.world_model.specs.network_model.declared.link.LinkEnd.{LinkEnd}
use Rattle.world_model.specs.network_model.declared.event.Event.{Event}
use Rattle.world_model.specs.network_model.declared.event.Event.TheVariants.{Carry}
use Rattle.live_model.specs.Met.{HaveMet}
use Rattle.law_live_journeys.specs.law_port_facts.ordered_lists.Ordered.{Every}
use Rattle.law_live_journeys.proofs.law_port_facts.ordered_lists.Every.{every_map, every_unmapped}
use Rattle.law_live_journeys.proofs.law_port_facts.Keyed.{at_every}
use Rattle.law_live_journeys.specs.law_controller.Match.{joined_at, clearing_at, end_at, MovesJoined}
use Rattle.law_live_journeys.specs.law_controller.law_controller_facts.Sound.{IsLinkedPort, IsShutLinked}
use Rattle.law_live_journeys.proofs.law_control_places.Chains.{chains_are_their_frames}
use Rattle.law_live_journeys.specs.law_run_facts.law_world_views.Between.{IsWorld, setups_of}
use Rattle.law_live_journeys.specs.law_run_facts.law_world_views.Kept.{Comes}
use Rattle.law_live_journeys.specs.law_run_facts.Nodes.{IsNodeOfRun}
use Rattle.law_live_journeys.proofs.law_run_facts.Nodes.{runs_have_nodes}
use Rattle.law_live_journeys.proofs.law_run_facts.Steps.{runs_have_fronts}
use Rattle.law_live_journeys.specs.law_live_hearing.Law.{world_at, acting}
use Rattle.law_live_journeys.specs.law_live_worlds.Law.{end_of}
use Rattle.law_live_journeys.specs.law_live_control_links.Law.{IsCalmSite, IsCalmLink}
use Rattle.law_live_journeys.proofs.law_live_calm_nodes.Control.{HasPeer, has_peer}
use Rattle.law_live_journeys.specs.law_live_mirrors.Standing.{StandsAlone}
use Rattle.law_live_journeys.proofs.law_live_mirrors.Alone.{desks_stand_alone}
use Rattle.law_live_journeys.specs.law_live_bindings.Law.{AreBinding}
use Rattle.law_live_journeys.specs.law_live_bound.Law.{IsQuiet}
use Rattle.law_live_journeys.proofs.law_live_brought.Doing.{unspent_by}
use Rattle.law_live_journeys.proofs.law_live_brought.Moment.{one_site}
use Rattle.law_live_ease.specs.Law.{IsBindingLink, Binds, PortHasRoom, IsCalmEvent}
use Rattle.law_live_ease.proofs.ComingOwed.{Tie, tie_of, each_there}
use Rattle.law_live_ease.proofs.ComingSteps.{one_linked}

pub record Brought (policy : Policy) (topology : Topology) (before : List Event) (node : NodeId) (site : Site) : Type 0 where
  pub comes : Comes policy topology before (Carry (Up node))
  pub world : IsWorld (past_of policy topology before)
  pub binds : Binds topology (world_at policy topology before)
  pub calm : IsCalmEvent topology (world_at policy topology before) (Carry (Up node))
  pub within : IsNode topology node
  pub found : site_at (world_at policy topology before) node ≡ Some site

pub record HasSession (linked : Linked) : Type 0 where
  pub session : Session
  pub is_open : linked.port.session ≡ Some session

session_of : (linked : Linked) → is_some linked.port.session ≡ true → HasSession linked
session_of linked some = by linked.port.session refl some
  where
    by : (o : Option Session) → linked.port.session ≡ o → is_some o ≡ true → HasSession linked
    by None is some = absurd (cc some)
    by (Some session) is some = record { session = session; is_open = is }

some_is : (n : ℕ) → 1 ≤ n → n ≢ 0
some_is n some zero = omega (arith, some, zero)

module _ {policy : Policy} {topology : Topology} {before : List Event} {node : NodeId} {site : Site} (m : Brought policy topology before node site) where
  abbrev pub w : World
  w = world_at policy topology before

  abbrev c : Controller
  c = site.controller

  abbrev pub IsThere : Linked → Type 0
  IsThere linked = at port_key linked.setup.port.0 c.ports ≡ Some linked

  pub is_topology : IsTopology topology
  is_topology = m.comes.run.topology_is

  pub of_run : IsNodeOfRun policy (past_of policy topology before) node site
  of_run = runs_have_nodes policy topology before m.comes.addresses (runs_have_fronts policy topology before (Carry (Up node)) m.comes).run node site m.found

  pub counted : CountsAsItsFrame w (Carry (Up node))
  counted = chains_are_their_frames policy topology before (Carry (Up node)) m.comes.tame

  -- *Its control link* is calm
  pub calm_site : (link : IsCalmLink w node) → IsCalmSite w.notes.frames site
  calm_site link = subst (IsCalmSite w.notes.frames) (one_site link.site site (sym link.found ∙ m.found)) link.calm

  abbrev pub link : IsCalmLink w node
  link = record { site = site; found = m.found; calm = calm_site (m.binds.nodes node m.within).calm }

  pub met : HaveMet c.adjacency site.switch.adjacency
  met = link.calm.met

  pub up : is_estab c.adjacency.state ≡ true
  up = ap is_estab met.one_is_up

  -- *Its desk and its ports* are tied, and have room
  pub tie : Tie c.ports c.desk
  tie = tie_of c (m.binds.steady node site m.found).ties

  pub number_left : c.desk.next < last_transaction
  number_left = m.calm.room.numbers node site m.found

  pub room : (linked : Linked) → IsThere linked → PortHasRoom site linked
  room linked there = at_every port_key (PortHasRoom site) linked.setup.port.0 c.ports linked (m.calm.room.ports node site m.found) there

  pub links : Every (λ (linked : Linked). linked.setup.port.0 ≢ 0) c.ports
  links = every_map (λ (linked : Linked). IsLinkPort linked.setup.port) (λ (linked : Linked). linked.setup.port.0 ≢ 0) c.ports (λ linked is. some_is linked.setup.port.0 is.0)
      (every_unmapped (λ (linked : Linked). linked.setup) (λ (setup : Setup). IsLinkPort setup.port) c.ports of_run.ports.links)

  pub link_of : (linked : Linked) → IsThere linked → linked.setup.port.0 ≢ 0
  link_of linked there = at_every port_key (λ (l : Linked). l.setup.port.0 ≢ 0) linked.setup.port.0 c.ports linked links there

  pub port_of : (linked : Linked) → IsThere linked → IsLinkedPort (setups_of c) linked
  port_of linked there = at_every port_key (IsLinkedPort (setups_of c)) linked.setup.port.0 c.ports linked of_run.conduct.sound.ports.each there

  -- *Each port* is the end of a link that binds
  pub record EndAt (linked : Linked) : Type 0 where
    pub far : LinkEnd
    pub peer : peer_of topology node linked.setup.port ≡ Some far
    pub binding : IsBindingLink topology w (record { node = node; port = linked.setup.port }) far
    pub same : binding.ends.bind.linked ≡ linked

  pub end_of_link : (linked : Linked) → IsThere linked → EndAt linked
  end_of_link linked there = by (has_peer (peer_of topology node linked.setup.port) (of_run.ports.linked linked.setup.port linked there))
    where
      same_there : (far : LinkEnd) (b : IsBindingLink topology w (record { node = node; port = linked.setup.port }) far) → b.ends.bind.linked ≡ linked
      same_there far b = one_linked b.ends.bind.linked linked (sym b.ends.bind.shows.of_port
          ∙ (ap (λ (s : Site). at port_key linked.setup.port.0 s.controller.ports) (one_site b.ends.bind.shows.site site (sym b.ends.bind.shows.there ∙ m.found)) ∙ there))

      by : HasPeer (peer_of topology node linked.setup.port) → EndAt linked
      by peer = (let b : IsBindingLink topology w (record { node = node; port = linked.setup.port }) peer.far = m.binds.links (record { node = node; port = linked.setup.port }) peer.far peer.is in
          record { far = peer.far; peer = peer.is; binding = b; same = same_there peer.far b })

  pub bound : (linked : Linked) (e : EndAt linked) → AreBinding (end_of linked e.binding.ends.said) (end_of e.binding.ends.bind.far_linked e.binding.ends.far_said)
  bound linked e = subst (λ (l : Linked). AreBinding (end_of l e.binding.ends.said) (end_of e.binding.ends.bind.far_linked e.binding.ends.far_said)) e.same e.binding.ends.bind.binding

  pub in_session : (linked : Linked) → IsThere linked → HasSession linked
  in_session linked there = session_of linked (bound linked (end_of_link linked there)).one_end.in_session

  -- so none is in Clearing, none's numbers are spent, and the node is quiet
  pub clear : Every (λ (linked : Linked). is_clearing linked.port.adjacency.state ≡ false) c.ports
  clear = every_map (λ (linked : Linked). at port_key (port_key linked) c.ports ≡ Some linked) (λ (linked : Linked). is_clearing linked.port.adjacency.state ≡ false) c.ports
      (λ linked there. ap is_clearing (bound linked (end_of_link linked there)).met.one_is_up) (each_there of_run)

  pub quiet : IsQuiet (acting w site)
  quiet = record {
    up = up;
    none_waits = (m.binds.steady node site m.found).none_waits;
    unspent = every_map (PortHasRoom site) (λ (linked : Linked). is_spent linked.port.session ≡ false) c.ports (λ linked has. unspent_by linked.port has.number_left) (m.calm.room.ports node site m.found);
  }

  -- and what is answered stands alone
  pub has_met : (linked : Linked) → IsThere linked → c.has_met ≡ true
  has_met linked there = by c.has_met refl
    where
      by : (b : Bool) → c.has_met ≡ b → b ≡ true
      by true e = refl
      by false e = absurd (cc (sym (at_every port_key IsShutLinked linked.setup.port.0 c.ports linked (of_run.conduct.sound.unmet e) there).session ∙ (in_session linked there).is_open))

  pub alone : (linked : Linked) → IsThere linked → (message : Message) (s : Standing) → answered c.desk message ≡ Done s → StandsAlone c.desk s
  alone linked there message s answers = desks_stand_alone c message s of_run.conduct.sound.desk of_run.conduct.order (has_met linked there) links answers

  -- *A Move Branch to a link* is of a label that is joined
  none_clears : (k : ℕ) → clearing_at c.ports k ≡ true → ⊥
  none_clears k e = by (at port_key k c.ports) refl e
    where
      by : (o : Option Linked) → at port_key k c.ports ≡ o → option_map_or (λ (l : Linked). is_clearing l.port.adjacency.state) o false ≡ true → ⊥
      by None found e = cc e
      by (Some l) found e = true≢false (sym e ∙ at_every port_key (λ (x : Linked). is_clearing x.port.adjacency.state ≡ false) k c.ports l clear found)

  pub joined_input : (input from to : End) → to.port.0 ≢ 0 → MovesJoined c.ports (MoveBranch input from to)
      → joined_at c.ports input.port.0 (number_of_channel input.channel) ≡ Some (end_at to.port.0 (number_of_channel to.channel))
  joined_input input from to away lends = elim (of_run.conduct.matched.joined to.port.0 (number_of_channel to.channel) input (lends (λ home. away (ap (λ (e : End). e.port.0) home)))) [
    | inl clearing ↦ absurd (none_clears input.port.0 clearing)
    | inr joined ↦ joined
  ]
