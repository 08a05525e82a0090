-- Along its way by the tables a packet is heard at each node, and delivered at the last

use Rattle.std.specs.Prelude.{◌≡◌, ℕ, ◌<◌, false, List, [], ◌∷◌, ◌++◌, length, Contains, None, Some}
use Rattle.world_model.specs.Words.{NodeId, PortNo, Addr, Up, Delivered, Policy, Mark, best, Local, Via, onward, ttl_of, destination_of, next_mark, has_loss_of, grant_by, inject_refusal, Controller, Topology, World, Site, site_at, controller_at, grants_at, next, world_after, table_in}
use Rattle.world_model.specs.Topology.{peer_of}
use Rattle.world_model.specs.ipv4_forward.declared.table.Route.{Route}
use Rattle.world_model.specs.network_model.declared.link.LinkEnd.{LinkEnd}
use Rattle.world_model.specs.network_model.declared.event.Event.{Event}
use Rattle.world_model.specs.network_model.declared.event.Event.TheVariants.{Inject, Carry}
pub use Rattle.calm_model.specs.Ways.{LeadsTo, IsWayFrom, last_node}
use Rattle.law_told_tables.specs.Tables.{ChangesNoRoute}
use Rattle.law_live_carried_out.specs.law_live_hearing.Law.{world_at}
use Rattle.law_live_journeys.specs.Law.{entering, IsBrought}
use Rattle.law_live_journeys.specs.Hops.{IsStretch, ComesTo}

-- *No route changes* in a stretch of events: no change of routes comes, and none waits as it begins
pub record KeepsRoutes (policy : Policy) (topology : Topology) (past events : List Event) : Type 0 where
  pub none_comes : ChangesNoRoute events
  pub none_waits : (node : NodeId) (c : Controller) → controller_at (world_at policy topology past) node ≡ Some c → c.waiting ≡ []

-- so each node holds the table throughout that it has then
abbrev pub TablesStay : Type 0
TablesStay = (policy : Policy) (topology : Topology) (past events : List Event) → KeepsRoutes policy topology past events
    → (front rest : List Event) → events ≡ front ++ rest
    → (node : NodeId) → table_in node (world_at policy topology (past ++ front)) ≡ table_in node (world_at policy topology past)

-- the packet behind so many hops
abbrev pub behind_hops : (packet : List ℕ) → List LinkEnd → List ℕ
behind_hops packet [] = packet
behind_hops packet (far ∷ ends) = behind_hops (onward packet) ends

-- *No grant is held* for the packet at a node, at the port from which the link to this end leads, under which it would be sent
abbrev pub IsUngranted : Topology → World → NodeId → (packet : List ℕ) → (far : LinkEnd) → Type 0
IsUngranted topology w node packet far = (site : Site) (port : PortNo) → site_at w node ≡ Some site → peer_of topology node port ≡ Some far
    → grant_by site.controller port (onward packet) ≡ None

-- so at each node of the way, as it is brought the packet
abbrev pub GoesUngranted : Policy → Topology → (past events : List Event) → (at : LinkEnd) → Mark → (packet : List ℕ) → List LinkEnd → Type 0
GoesUngranted policy topology past events at mark packet [] = Unit {0}
GoesUngranted policy topology past events at mark packet (far ∷ ends) =
    ((front rest : List Event) → events ≡ front ++ Carry (Up at.node) ∷ rest
    → IsBrought topology (world_at policy topology (past ++ front)) at mark packet
    → IsUngranted topology (world_at policy topology (past ++ front)) at.node packet far)
    × GoesUngranted policy topology past events far (next_mark mark) (onward packet) ends

-- and at the first one, as it enters
abbrev pub EntersUngranted : Policy → Topology → (past events : List Event) → World → NodeId → Mark → (packet : List ℕ) → List LinkEnd → Type 0
EntersUngranted policy topology past events w node mark packet [] = Unit {0}
EntersUngranted policy topology past events w node mark packet (far ∷ ends) =
    IsUngranted topology w node packet far × GoesUngranted policy topology past events far (next_mark mark) (onward packet) ends

-- *Where none is held along the way* in any world of the stretch, it enters and goes so
abbrev pub IsUngrantedAlong : Topology → World → NodeId → (packet : List ℕ) → List LinkEnd → Type 0
IsUngrantedAlong topology w node packet [] = Unit {0}
IsUngrantedAlong topology w node packet (far ∷ ends) =
    IsUngranted topology w node packet far × IsUngrantedAlong topology w far.node (onward packet) ends

abbrev pub UngrantedWaysAreGone : Type 0
UngrantedWaysAreGone = (policy : Policy) (topology : Topology) (past events front rest : List Event) (node : NodeId) (mark : Mark) (packet : List ℕ) (ends : List LinkEnd)
    → events ≡ front ++ rest
    → ((first later : List Event) → events ≡ first ++ later → IsUngrantedAlong topology (world_at policy topology (past ++ first)) node packet ends)
    → EntersUngranted policy topology past events (world_at policy topology (past ++ front)) node mark packet ends

-- as it is where a port has no grants at all
abbrev pub PortsWithoutGrants : Type 0
PortsWithoutGrants = (topology : Topology) (w : World) (node : NodeId) (packet : List ℕ) (far : LinkEnd)
    → ((port : PortNo) → peer_of topology node port ≡ Some far → grants_at w (record { node = node; port = port }) ≡ [])
    → IsUngranted topology w node packet far

-- *It comes along the way*: to each end behind the carry that brought it to the one before, with one less to live
abbrev pub ComesAlong : Policy → Topology → (past events : List Event) → Mark → (packet : List ℕ) → List LinkEnd → Type 0
ComesAlong policy topology past events mark packet [] = Unit {0}
ComesAlong policy topology past events mark packet (far ∷ ends) =
    (c : ComesTo policy topology past events far (next_mark mark) (onward packet))
    × ComesAlong policy topology ((past ++ c.front) ++ Carry (Up far.node) ∷ []) c.rest (next_mark mark) (onward packet) ends

-- *and is delivered* at its last node, in an event of the stretch
pub record IsDeliveredIn (topology : Topology) (w : World) (events : List Event) (node : NodeId) (number : ℕ) (packet : List ℕ) : Type 0 where
  pub front : List Event
  pub event : Event
  pub rest : List Event
  pub are : events ≡ front ++ event ∷ rest
  pub told : Contains (next topology (world_after topology w front) event).notes.records (Delivered node number packet)

-- *A packet that enters* in a stretch of a run in which no route changes, with more hops to live than its way has links, where in
-- the end the ledger has no entry of any frame of it
pub record Enters (policy : Policy) (topology : Topology) (past events front rest : List Event) (node : NodeId) (packet : List ℕ) (ends : List LinkEnd) : Type 0 where
  pub enters : events ≡ front ++ Inject node packet ∷ rest
  pub accepted : inject_refusal packet ≡ None
  pub way : IsWayFrom topology (λ n. table_in n (world_at policy topology past)) (destination_of packet) node ends
  pub lives : length ends < ttl_of packet
  pub ungranted : EntersUngranted policy topology past events (world_at policy topology (past ++ front)) node
      (entering (world_at policy topology (past ++ front))) packet ends
  pub unlost : has_loss_of (entering (world_at policy topology (past ++ front))).packet (world_at policy topology (past ++ events)).notes.entries ≡ false

-- *It goes its way*, behind the event in which it enters
pub record GoesItsWay (policy : Policy) (topology : Topology) (past events front rest : List Event) (node : NodeId) (packet : List ℕ) (ends : List LinkEnd) : Type 0 where
  pub comes : ComesAlong policy topology ((past ++ front) ++ Inject node packet ∷ []) rest (entering (world_at policy topology (past ++ front))) packet ends
  pub delivered : IsDeliveredIn topology (world_at policy topology past) events (last_node node ends)
      (entering (world_at policy topology (past ++ front))).packet (behind_hops packet ends)

abbrev pub PacketsGoTheirWay : Type 0
PacketsGoTheirWay = (policy : Policy) (topology : Topology) (past events front rest : List Event) (node : NodeId) (packet : List ℕ) (ends : List LinkEnd)
    → IsStretch policy topology past events → KeepsRoutes policy topology past events
    → Enters policy topology past events front rest node packet ends
    → GoesItsWay policy topology past events front rest node packet ends
