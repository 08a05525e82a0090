-- a packet that goes on in a stretch of a run is heard by the controller at the other end of the link

use Rattle.std.proofs.Common.{◌≡◌, ℕ, ◌&&◌, Bool, false, List, [], ◌∷◌, ◌++◌, append_assoc, append-nil, is_some, None, Some, refl, sym, ◌∙◌, ap, subst}
use Rattle.world_model.specs.Words.{Policy, Place, Down, Up, Out, Channel, Mark, Cell, has_entry, payload_of, next_mark, default_payload, onward, default_channel, default_home, same_channel, inject_refusal, IsLinkPort, Topology, World, next, IsNode, IsTopology}
use Rattle.world_model.specs.World.{opened}
use Rattle.world_model.specs.Topology.{peer_of}
use Rattle.world_model.specs.network_model.declared.link.LinkEnd.{LinkEnd}
use Rattle.world_model.specs.network_model.declared.event.Event.{Event}
use Rattle.world_model.specs.network_model.declared.event.Event.TheVariants.{Carry}
use Rattle.law_live_carried_out.proofs.law_causes.Shown.{IsPeer, peer_back}
use Rattle.law_live_carried_out.specs.law_passing.telling_model.Passing.{left}
use Rattle.law_live_carried_out.proofs.law_passing.Worlds.{change_by_passing}
use Rattle.law_packet_worlds.proofs.Hops.{accepted_onward}
use Rattle.law_live_carried_out.specs.law_run_facts.Nodes.{HasSite}
use Rattle.law_live_carried_out.proofs.law_run_facts.Steps.{after_one}
use Rattle.law_live_carried_out.specs.law_true_runs.Runs.{HoldsInRuns, IsWhole}
use Rattle.law_live_carried_out.specs.law_live_hearing.Law.{world_at, IsOnItsWay, Waits, Hears, LeadsByDefault}
use Rattle.law_live_carried_out.proofs.law_live_hearing.Places.{has_site, down_empty, up_empty, out_empty}
use Rattle.law_live_carried_out.proofs.law_live_hearing.Going.{Stands, Goes, goes, still_unlost}
use Rattle.law_live_carried_out.proofs.law_live_hearing.Heard.{to_link, to_controller}
use Rattle.law_live_carried_out.proofs.law_live_hearing.Waiting.{frames_wait}
use Rattle.law_live_carried_out.proofs.law_live_orders.Marks.{channel_self}
use Rattle.law_live_carried_out.specs.law_live_bound.Law.{HoldsPacket}
use Rattle.law_live_journeys.specs.Law.{frame_on, GoesOn, IsBrought}
use Rattle.law_live_journeys.specs.Hops.{IsStretch, ComesTo, HopsAreHeard}
use Rattle.law_live_journeys.proofs.Brought.{brought_are_heard}
use Rattle.law_live_journeys.proofs.Runs.{leads, on_its_way}

-- *On its way* on the default channel of one port, it comes to the controller at the far end
module _ (policy : Policy) (topology : Topology) (past events : List Event) (mark : Mark) (payload : List ℕ) (way : IsOnItsWay policy topology past events mark payload)
    (one far : LinkEnd) (within : IsNode topology one.node) (led : peer_of topology one.node one.port ≡ Some far) where
  is : IsTopology topology
  is = way.run.topology_is

  peer : IsPeer topology one far
  peer = peer_back topology is one far led

  abbrev GoesFrom : Place → Channel → Type 0
  GoesFrom place channel = Goes policy topology past events mark payload way place channel

  abbrev StandsAt : Place → Channel → Type 0
  StandsAt place channel = Stands policy topology past events mark payload way place channel

  abbrev Leads : LinkEnd → Type 0
  Leads end = (front rest : List Event) → events ≡ front ++ rest → LeadsByDefault (world_at policy topology (past ++ front)) end.node end.port

  abbrev home : Channel
  home = (default_home one.port).channel

  pub comes_up : Waits (world_at policy topology past) (Down one.node) home mark → Leads one → Leads far → GoesFrom (Up far.node) (default_home far.port).channel
  comes_up waits leads_out leads_home =
      let s : StandsAt (Down one.node) home = record {
        front = [];
        rest = events;
        are = refl;
        waits = subst (λ (es : List Event). Waits (world_at policy topology es) (Down one.node) home mark) (sym (append-nil past)) waits;
      } in
      let g : GoesFrom (Down one.node) home = goes policy topology past events mark payload way (Down one.node) home within
      (down_empty policy topology is (past ++ events) one.node within way.empties) s in
      let out : GoesFrom (Out one.node one.port) default_channel = goes policy topology past events mark payload way (Out one.node one.port) default_channel (within, ap is_some led)
      (out_empty policy topology is (past ++ events) one.node one.port within (ap is_some led) way.empties)
      (to_link policy topology past events mark payload way one far within led g (leads_out g.front (Carry (Down one.node) ∷ g.rest) g.are)) in
      goes policy topology past events mark payload way (Up far.node) (default_home far.port).channel peer.node
      (up_empty policy topology is (past ++ events) far.node peer.node way.empties)
      (to_controller policy topology past events mark payload way one far within led out (leads_home out.front (Carry (Out one.node one.port) ∷ out.rest) out.are))

-- *A packet's frame* that is put into the queue to the switch in the first event of a stretch
module _ (whole : HoldsInRuns IsWhole) (policy : Policy) (topology : Topology) (past events : List Event) (event : Event) (one far : LinkEnd) (came : Mark) (packet : List ℕ)
    (stretch : IsStretch policy topology past (event ∷ events)) (within : IsNode topology one.node) (led : peer_of topology one.node one.port ≡ Some far)
    (accepted : inject_refusal packet ≡ None) (on : GoesOn topology (world_at policy topology past) event one came packet)
    (none : has_entry (world_at policy topology (past ++ event ∷ events)).notes.entries (next_mark came) ≡ false) where
  abbrev w : World
  w = world_at policy topology past

  abbrev now : List Event
  now = past ++ event ∷ []

  abbrev mark : Mark
  mark = next_mark came

  abbrev payload : List ℕ
  payload = default_payload (onward packet)

  reached_is : world_at policy topology now ≡ next topology w event
  reached_is = after_one topology (opened policy topology) past event

  split : past ++ event ∷ events ≡ now ++ events
  split = sym (append_assoc past (event ∷ []) events)

  way : IsOnItsWay policy topology now events mark payload
  way = on_its_way whole policy topology past (event ∷ events) stretch now events mark payload split
      (ap (λ (v : World). payload_of v.notes.frames mark) reached_is ∙ on.made) none

  waits : Waits (world_at policy topology now) (Down one.node) (default_home one.port).channel mark
  waits = subst (λ (v : World). Waits v (Down one.node) (default_home one.port).channel mark) (sym reached_is)
      (frames_wait (next topology w event) (Down one.node) (default_home one.port).channel mark payload (left w event (Down one.node) ++ on.put.front) on.put.after
      (change_by_passing topology w event (Down one.node)
      ∙ (ap (λ (cells : List Cell). left w event (Down one.node) ++ cells) on.put.is
      ∙ sym (append_assoc (left w event (Down one.node)) on.put.front (frame_on one.port came packet ++ on.put.after)))))

  is_peer : IsPeer topology one far
  is_peer = peer_back topology stretch.run.topology_is one far led

  leads_there : (end : LinkEnd) → IsNode topology end.node → IsLinkPort end.port → (front rest : List Event) → events ≡ front ++ rest
      → LeadsByDefault (world_at policy topology (now ++ front)) end.node end.port
  leads_there end there link front rest e = leads whole policy topology past (event ∷ events) stretch (now ++ front) rest
      (split ∙ (ap (λ (es : List Event). now ++ es) e ∙ sym (append_assoc now front rest))) end there link

  abbrev up : Channel
  up = (default_home far.port).channel

  g : Goes policy topology now events mark payload way (Up far.node) up
  g = comes_up policy topology now events mark payload way one far within led waits (leads_there one within is_peer.own) (leads_there far is_peer.node is_peer.port)

  abbrev there : World
  there = world_at policy topology (now ++ g.front)

  h : HasSite there far.node
  h = has_site policy topology stretch.run.topology_is (now ++ g.front) far.node is_peer.node

  brought : IsBrought topology there far mark (onward packet)
  brought = record {
    link = is_peer.port;
    site = h.site;
    there = h.is;
    cell = g.cell;
    cells = g.cells;
    queue = g.is;
    last = ap (λ (b : Bool). b && same_channel g.cell.header.channel up) g.last ∙ (ap (λ (c : Channel). same_channel c up) g.on ∙ channel_self up);
    own = g.own;
    made = way.made g.front (Carry (Up far.node) ∷ g.rest) g.are;
    accepted = accepted_onward packet accepted;
    counts = way.counts g.front g.rest (Carry (Up far.node)) g.are;
    unlost = still_unlost policy topology now events mark payload way (Up far.node) up g;
  }

  heard : Hears topology there far.node up mark payload × HoldsPacket payload (onward packet)
  heard = brought_are_heard topology there far mark (onward packet) brought

  pub comes_to : ComesTo policy topology now events far mark (onward packet)
  comes_to = record { front = g.front; rest = g.rest; are = g.are; brought = brought; heard = heard.0; holds = heard.1 }

pub hops_are_heard : HoldsInRuns IsWhole → HopsAreHeard
hops_are_heard whole policy topology past events event one far came packet stretch within led accepted on none =
    comes_to whole policy topology past events event one far came packet stretch within led accepted on none
