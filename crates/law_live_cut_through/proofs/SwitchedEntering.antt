-- a packet of the flow enters where its way stands, and goes on under the grant, unlost

use Rattle.std.proofs.Common.{◌≡◌, ◌∙◌, ℕ, ◌<◌, false, List, [], ◌∷◌, ◌++◌, append_assoc, append-nil, Option, None, Some, refl, sym, ap, subst, arith}
use Rattle.std.specs.Prelude.{Contains}
use Rattle.std.specs.Option.{option_map_or, option_and_then}
use Rattle.std.proofs.lemmas.List.Elements.{Contains-append_right}
use Rattle.world_model.specs.Words.{NodeId, Policy, Down, Mark, Cell, FlowId, flow_ttl, flow_destination, packet_flow, ttl_of, destination_of, onward, best, Via, has_entry, next_mark, Channel, control_end, kind_of, labelled_payload, Carries, Grant, grant_for, grants_at, grant_matching, Linked, inject_refusal, AreOctets, queue_at, Topology, World, Site, next, IsNode}
use Rattle.world_model.specs.World.{opened}
use Rattle.world_model.specs.network_model.declared.link.LinkEnd.{LinkEnd}
use Rattle.world_model.specs.network_model.declared.event.Event.{Event}
use Rattle.world_model.specs.network_model.declared.event.Event.TheVariants.{Inject}
use Rattle.calm_model.specs.Ways.{one_hop}
use Rattle.law_live_ease.specs.law_passing.telling_model.Passing.{left}
use Rattle.law_live_ease.proofs.law_passing.Worlds.{change_by_passing}
use Rattle.law_live_ease.specs.law_run_facts.Nodes.{HasSite}
use Rattle.law_live_ease.proofs.law_run_facts.Rooms.{runs_keep_nodes}
use Rattle.law_live_ease.proofs.law_run_facts.Steps.{after_one}
use Rattle.law_live_ease.proofs.law_true_runs.Fronts.{front_run}
use Rattle.law_live_ease.specs.law_live_hearing.Law.{world_at, Waits}
use Rattle.law_live_ease.proofs.law_live_hearing.Waiting.{frames_wait}
use Rattle.law_live_ease.specs.law_live_journeys.Law.{entering}
use Rattle.law_live_ease.proofs.law_live_journeys.Flows.{flows_go_on}
use Rattle.law_live_ease.proofs.law_live_journeys.Ways.{leads_on}
use Rattle.law_live_cut_through.specs.Law.{WayStands}
use Rattle.law_live_cut_through.specs.Under.{frame_under, GoesUnder, IsGranted}
use Rattle.law_live_cut_through.proofs.SwitchedGiven.{Given}
use Rattle.law_live_cut_through.proofs.SwitchedPackets.{TellsOf, tells, grant_found}
use Rattle.law_live_cut_through.proofs.SwitchedNumbered.{at_port}
use Rattle.law_live_cut_through.proofs.SwitchedStretches.{IsBoundStretch, binds_first}

module _ (given : Given) (policy : Policy) (topology : Topology) (past rest : List Event) (node : NodeId) (packet : List ℕ)
    (b : IsBoundStretch policy topology past (Inject node packet ∷ rest)) (accepted : inject_refusal packet ≡ None)
    (flow : FlowId) (far : LinkEnd) (ends : List LinkEnd) (of_flow : packet_flow packet ≡ Some flow) (lives : 1 < flow_ttl flow)
    (s : WayStands topology (world_at policy topology past) node flow far ends) where
  abbrev w : World
  w = world_at policy topology past

  abbrev event : Event
  event = Inject node packet

  abbrev pub first_end : LinkEnd
  first_end = record { node = node; port = s.port }

  abbrev pub sent_under : Grant
  sent_under = s.grant.grant

  abbrev pub sent_mark : Mark
  sent_mark = next_mark (entering w)

  pub within : IsNode topology node
  within = (b.stretch.run.each past rest event refl).meant.0

  pub octets : AreOctets packet
  octets = (b.stretch.run.each past rest event refl).meant.1

  h : HasSite w node
  h = runs_keep_nodes policy topology past (front_run policy topology past (event ∷ rest) b.stretch.run) node within

  told : TellsOf packet flow
  told = tells packet flow of_flow

  packet_lives : 1 < ttl_of packet
  packet_lives = subst (λ (n : ℕ). 1 < n) told.ttl lives

  -- *Its route*
  route_there : best h.site.controller.table (destination_of packet) ≡ Some (Via s.port)
  route_there = ap (best h.site.controller.table) (sym told.destination)
      ∙ (ap (λ (o : Option Site). best (option_map_or (λ (x : Site). x.controller.table) o []) (flow_destination flow)) (sym h.is) ∙ s.route)

  -- *Its grant*
  pub next_flow : packet_flow (onward packet) ≡ Some (one_hop flow)
  next_flow = flows_go_on packet flow accepted packet_lives of_flow

  sends : grant_for (grants_at w first_end) (one_hop flow) ≡ Some sent_under
  sends = given.grants_found policy topology past (event ∷ rest) b.stretch (binds_first policy topology past (event ∷ rest) b) first_end far s.linked s.number (one_hop flow) s.alone s.grant

  sends_there : grant_for s.grant.linked.port.grants (one_hop flow) ≡ Some sent_under
  sends_there = ap (λ (o : Option Linked). grant_for (option_map_or (λ (l : Linked). l.port.grants) o []) (one_hop flow)) (sym s.grant.shown) ∙ sends

  granted : IsGranted h.site.controller s.port packet sent_under
  granted = record {
    route = leads_on h.site.controller.table packet s.port packet_lives route_there;
    granted = ap (option_and_then (λ (l : Linked). grant_matching l.port.grants (onward packet))) (at_port w first_end h.site s.grant.linked h.is s.grant.shown)
        ∙ grant_found s.grant.linked.port.grants (onward packet) (one_hop flow) sent_under next_flow sends_there;
  }

  pub under : GoesUnder topology w event first_end (entering w) sent_under packet
  under = given.under topology w first_end h.site packet sent_under h.is accepted granted (b.calm.calm [] rest event refl).entries

  -- *Its frame is unlost*: its last cell waits behind the event
  abbrev channel : Channel
  channel = (control_end s.port sent_under.label).channel

  waits : Waits (next topology w event) (Down node) channel sent_mark
  waits = frames_wait (next topology w event) (Down node) channel sent_mark (labelled_payload (kind_of sent_under.flow) (onward packet)) (left w event (Down node) ++ under.put.front) under.put.after
      (change_by_passing topology w event (Down node)
      ∙ (ap (λ (cells : List Cell). left w event (Down node) ++ cells) under.put.is
      ∙ sym (append_assoc (left w event (Down node)) under.put.front (frame_under s.port sent_under (entering w) packet ++ under.put.after))))

  head_in : (cell : Cell) (cells : List Cell) → Contains (cell ∷ cells) cell
  head_in cell cells = (0, omega arith, refl)

  stands : Contains (queue_at (world_at policy topology (past ++ event ∷ [])) (Down node)) waits.cell
  stands = subst (λ (cells : List Cell). Contains cells waits.cell) (sym (ap (λ (x : World). queue_at x (Down node)) (after_one topology (opened policy topology) past event) ∙ waits.is))
      (Contains-append_right waits.before (waits.cell ∷ waits.after) waits.cell (head_in waits.cell waits.after))

  pub unlost_mark : has_entry (world_at policy topology (past ++ event ∷ rest)).notes.entries sent_mark ≡ false
  unlost_mark = subst (λ (m : Mark). has_entry (world_at policy topology (past ++ event ∷ rest)).notes.entries m ≡ false) waits.own
      (given.unlost policy topology past (event ∷ rest) b.calm b.stretch.empties (event ∷ []) rest (event ∷ rest) [] refl (sym (append-nil (event ∷ rest))) (Down node) waits.cell within stands)

  -- *It carries the packet* as one of the flow
  pub carried : Carries (one_hop flow) (onward packet) (labelled_payload (kind_of sent_under.flow) (onward packet))
  carried = subst (λ (f : FlowId). Carries (one_hop flow) (onward packet) (labelled_payload (kind_of f) (onward packet))) (sym s.grant.of_flow)
      (given.carry packet (one_hop flow) accepted octets (tells (onward packet) (one_hop flow) next_flow).own)
