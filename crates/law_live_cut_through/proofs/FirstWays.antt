-- a packet comes to each end of its way

use Rattle.std.proofs.Common.{◌≡◌, ℕ, ◌-◌, ◌<◌, List, [], ◌∷◌, ◌++◌, length, None, Some, ◌⊎◌, sym, ◌∙◌, ap, arith}
use Rattle.std.specs.Option.{option_map_or}
use Rattle.world_model.specs.Words.{NodeId, Addr, Up, On, Policy, Mark, FlowId, packet_flow, next_mark, hop_of, best, onward, ttl_of, destination_of, inject_refusal, Topology, World, Site, table_in, IsNode, AreOctets}
use Rattle.world_model.specs.ipv4_forward.declared.table.Route.{Route}
use Rattle.world_model.specs.network_model.declared.link.LinkEnd.{LinkEnd}
use Rattle.world_model.specs.network_model.declared.event.Event.{Event}
use Rattle.world_model.specs.network_model.declared.event.Event.TheVariants.{Carry}
use Rattle.calm_model.specs.Ways.{IsWayFrom, one_hop}
use Rattle.calm_model.specs.Served.{IsFreeLink, IsFreeWay, IsNewOn}
use Rattle.law_live_ease.proofs.law_packet_worlds.Hops.{accepted_onward}
use Rattle.law_live_ease.proofs.law_causes.Shown.{peer_back}
use Rattle.law_live_ease.proofs.law_run_facts.law_controller_facts.Onward.{octets_onward}
use Rattle.law_live_ease.specs.law_live_hearing.Law.{world_at}
use Rattle.law_live_ease.proofs.law_live_journeys.Flows.{flows_go_on}
use Rattle.law_live_ease.proofs.law_live_journeys.Tables.{tables_stay}
use Rattle.law_live_ease.proofs.law_live_journeys.Ways.{same_destination, less_to_live, leads_on}
use Rattle.law_live_cut_through.proofs.FirstStretches.{Laws, IsSending}
use Rattle.law_live_cut_through.proofs.FirstHops.{Stands, HoldsIn, IsHeardAt, Reaches, hop}

-- *It passes its ends*: at each it is heard on the default channel, or the flow has a label there
abbrev pub Passes : Policy → Topology → (past events : List Event) → FlowId → Mark → (packet : List ℕ) → List LinkEnd → Type 0
Passes policy topology past events flow mark packet [] = Unit {0}
Passes policy topology past events flow mark packet (far ∷ ends) =
    (IsHeardAt policy topology past events far (next_mark mark) (onward packet) ⊎ HoldsIn policy topology past events far (one_hop flow))
    × Passes policy topology past events (one_hop flow) (next_mark mark) (onward packet) ends

-- *A packet may go on*: it is one that enters may be, of its flow, with more hops to live than its way has links
pub record MayGo (flow : FlowId) (packet : List ℕ) (destination : Addr) (ends : List LinkEnd) : Type 0 where
  pub accepted : inject_refusal packet ≡ None
  pub octets : AreOctets packet
  pub of_flow : packet_flow packet ≡ Some flow
  pub there : destination_of packet ≡ destination
  pub lives : length ends < ttl_of packet

pub flow_on : (flow : FlowId) (packet : List ℕ) (destination : Addr) (far : LinkEnd) (ends : List LinkEnd) → MayGo flow packet destination (far ∷ ends)
    → packet_flow (onward packet) ≡ Some (one_hop flow)
flow_on flow packet destination far ends m = flows_go_on packet flow m.accepted (omega (arith, m.lives)) m.of_flow

pub may_go_on : (flow : FlowId) (packet : List ℕ) (destination : Addr) (far : LinkEnd) (ends : List LinkEnd) → MayGo flow packet destination (far ∷ ends)
    → MayGo (one_hop flow) (onward packet) destination ends
may_go_on flow packet destination far ends m = record {
  accepted = accepted_onward packet m.accepted;
  octets = octets_onward packet m.octets;
  of_flow = flow_on flow packet destination far ends m;
  there = same_destination packet m.accepted ∙ m.there;
  lives = (let less : ttl_of (onward packet) ≡ ttl_of packet - 1 = less_to_live packet m.accepted in omega (arith, m.lives, less));
}

module _ (laws : Laws) (policy : Policy) (topology : Topology) (past events : List Event) (s : IsSending policy topology past events) (destination : Addr) where
  abbrev at : List Event → World
  at front = world_at policy topology (past ++ front)

  abbrev tables : NodeId → List Route
  tables node = table_in node (world_at policy topology past)

  abbrev Free : NodeId → FlowId → List LinkEnd → Type 0
  Free node flow ends = (front rest : List Event) → events ≡ front ++ rest → IsFreeWay topology (at front) node flow ends

  pub goes : (ends : List LinkEnd) (first rest : List Event) (event : Event) → events ≡ first ++ event ∷ rest
      → (node : NodeId) (came : Mark) (packet : List ℕ) (flow : FlowId) → Stands topology (at first) event node came packet → IsNode topology node → 0 < came.packet
      → MayGo flow packet destination ends → IsWayFrom topology tables destination node ends → IsNewOn topology (world_at policy topology past) node flow ends → Free node flow ends
      → Passes policy topology past events flow came packet ends
  goes [] first rest event are node came packet flow stands within some may way new free = tt
  goes (far ∷ ends) first rest event are node came packet flow stands within some may way new free =
      let one : LinkEnd = record { node = node; port = way.0.port } in
      let table_is : stands.site.controller.table ≡ tables node =
      sym (ap (λ o. option_map_or (λ (x : Site). x.controller.table) o []) stands.there) ∙ tables_stay policy topology past events s.keeps first (event ∷ rest) are node in
      let routed : hop_of stands.site.controller.table packet ≡ On way.0.port = leads_on stands.site.controller.table packet way.0.port (omega (arith, may.lives))
      (ap (λ (t : List Route). best t (destination_of packet)) table_is ∙ (ap (λ (d : Addr). best (tables node) d) may.there ∙ way.0.route)) in
      let link : IsFreeLink (at first) one far (one_hop flow) = (free first (event ∷ rest) are).0 way.0.port way.0.linked in
      let r : Reaches policy topology past events far (one_hop flow) (next_mark came) (onward packet) =
      hop laws policy topology past events s first rest event are one far way.0.linked within came packet (one_hop flow) stands some may.accepted may.octets
      (flow_on flow packet destination far ends may) routed link.none_of_hosts (new.0 way.0.port way.0.linked) in (
        r.found,
        goes ends r.front r.rest (Carry (Up far.node)) r.are far.node (next_mark came) (onward packet) (one_hop flow) r.stands
            (peer_back topology s.stretch.run.topology_is one far way.0.linked).node some (may_go_on flow packet destination far ends may) way.1 new.1
            (λ front later e. (free front later e).2),
      )
