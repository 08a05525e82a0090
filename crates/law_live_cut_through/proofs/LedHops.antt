-- the last cell of a frame goes on through a switch, on any channel, to where the switch leads it

use Rattle.std.proofs.Common.{◌≡◌, ℕ, ◌<◌, ◌≤◌, ◌==◌, ◌&&◌, Bool, true, false, List, [], ◌∷◌, ◌++◌, append-nil, length, Option, Some, refl, sym, ◌∙◌, ap, subst, arith}
use Rattle.std.specs.Option.{option_and_then}
use Rattle.std.proofs.lemmas.Bool.Decides.{nat_tests}
use Rattle.world_model.specs.Words.{NodeId, PortNo, Place, Down, Up, Out, Policy, Channel, End, Mark, Journal, has_entry, queue_of, on_channel_of, control_port, control_end, is_gsmp, Topology, World, Site, next, is_linked, IsNode, IsTopology}
use Rattle.world_model.specs.Conduct.{cell_comes}
use Rattle.world_model.specs.Topology.{peer_of}
use Rattle.world_model.specs.crossbar_model.Crossbar.{output_of, input_of}
use Rattle.world_model.specs.network_model.declared.link.LinkEnd.{LinkEnd}
use Rattle.world_model.specs.network_model.declared.event.Event.{Event}
use Rattle.world_model.specs.network_model.declared.event.Event.TheVariants.{Carry}
use Rattle.law_live_ease.proofs.law_causes.Shown.{IsPeer, peer_back}
use Rattle.law_live_ease.specs.law_run_facts.Nodes.{HasSite}
use Rattle.law_live_ease.specs.law_live_hearing.Law.{world_at, IsOnItsWay, Waits}
use Rattle.law_live_ease.proofs.law_live_hearing.Places.{has_site, running, down_empty, up_empty, out_empty}
use Rattle.law_live_ease.proofs.law_live_hearing.Going.{now, Stands, Goes, goes, behind, still_unlost}
use Rattle.law_live_ease.proofs.law_live_hearing.Sites.{switching, down_now, down_notes, down_site, there_now, out_notes, out_site, queue_of_site}
use Rattle.law_live_ease.proofs.law_live_hearing.Switching.{goes_on}
use Rattle.law_live_cut_through.specs.Led.{Leads}

-- *No channel of a label has GSMP*, neither on a link nor on the control link
not_none : (n : ℕ) → 1 ≤ n → (n == 0) ≡ false
not_none n some = grind (arith, nat_tests, some)

not_gsmp : (port : PortNo) → 1 ≤ port.0 → (channel : Channel) → is_gsmp port channel ≡ false
not_gsmp port some channel = ap (λ (b : Bool). b && ((channel.vpi == 0) && (channel.vci == 15))) (not_none port.0 some)

pub control_not_gsmp : (port : PortNo) (number : ℕ) → 1 ≤ port.0 → is_gsmp control_port (control_end port number).channel ≡ false
control_not_gsmp port number some =
    let channel : Channel = (control_end port number).channel in
    let above : 1 ≤ channel.vpi = omega (arith, some) in
    ap (λ (b : Bool). b && (channel.vci == 15)) (not_none channel.vpi above)

module _ (policy : Policy) (topology : Topology) (past events : List Event) (mark : Mark) (payload : List ℕ) (way : IsOnItsWay policy topology past events mark payload) where
  is : IsTopology topology
  is = way.run.topology_is

  abbrev pub StandsAt : Place → Channel → Type 0
  StandsAt place channel = Stands policy topology past events mark payload way place channel

  abbrev pub GoesFrom : Place → Channel → Type 0
  GoesFrom place channel = Goes policy topology past events mark payload way place channel

  abbrev behind_front : List Event → World
  behind_front front = now policy topology past events mark payload way front

  -- where it stands at first
  pub from_start : (place : Place) (channel : Channel) → Waits (world_at policy topology past) place channel mark → StandsAt place channel
  from_start place channel waits = record {
    front = [];
    rest = events;
    are = refl;
    waits = subst (λ (es : List Event). Waits (world_at policy topology es) place channel mark) (sym (append-nil past)) waits;
  }

  -- *It is carried*
  pub down_goes : (node : NodeId) (channel : Channel) → IsNode topology node → StandsAt (Down node) channel → GoesFrom (Down node) channel
  down_goes node channel within s = goes policy topology past events mark payload way (Down node) channel within (down_empty policy topology is (past ++ events) node within way.empties) s

  pub up_goes : (node : NodeId) (channel : Channel) → IsNode topology node → StandsAt (Up node) channel → GoesFrom (Up node) channel
  up_goes node channel within s = goes policy topology past events mark payload way (Up node) channel within (up_empty policy topology is (past ++ events) node within way.empties) s

  pub out_goes : (node : NodeId) (port : PortNo) (channel : Channel) → IsNode topology node → is_linked topology node port ≡ true → StandsAt (Out node port) channel → GoesFrom (Out node port) channel
  out_goes node port channel within linked s =
      goes policy topology past events mark payload way (Out node port) channel (within, linked) (out_empty policy topology is (past ++ events) node port within linked way.empties) s

  -- behind the carry the ledger has no entry of the cell's own mark
  unlost_there : (place : Place) (channel : Channel) (g : GoesFrom place channel) → has_entry (next topology (behind_front g.front) (Carry place)).notes.entries g.cell.mark ≡ false
  unlost_there place channel g = ap (has_entry (next topology (behind_front g.front) (Carry place)).notes.entries) g.own ∙ still_unlost policy topology past events mark payload way place channel g

  -- *Where an input leads*, as the cell comes
  leads_there : (node : NodeId) (port : PortNo) (channel : Channel) (to : End) → Leads policy topology past events node (record { port = port; channel = channel }) to
      → (place : Place) (g : GoesFrom place channel) (h : HasSite (behind_front g.front) node)
      → (output : End) → output_of h.site.switch.crossbar.branches (input_of port g.cell) ≡ Some output → output ≡ to
  leads_there node port channel to leads place g h output e = leads g.front (Carry place ∷ g.rest) g.are output
      (ap (λ (o : Option Site). option_and_then (λ (s : Site). output_of s.switch.crossbar.branches (record { port = port; channel = channel })) o) h.is
      ∙ (ap (λ (c : Channel). output_of h.site.switch.crossbar.branches (record { port = port; channel = c })) (sym g.on) ∙ e))

  -- each switch has a queue for it
  room : (front : List Event) (node : NodeId) (h : HasSite (behind_front front) node) (port : PortNo) → port.0 ≤ 8 → port.0 < length h.site.switch.crossbar.queues
  room front node h port few =
      let size : length h.site.switch.crossbar.queues ≡ 9 = (running policy topology is (past ++ front) node h.site h.is).size in
      omega (arith, size, few)

  -- *From a controller*
  module _ (node : NodeId) (channel : Channel) (to : End) (within : IsNode topology node) (few : to.port.0 ≤ 8)
      (leads : Leads policy topology past events node (record { port = control_port; channel = channel }) to) (other : is_gsmp control_port channel ≡ false) (g : GoesFrom (Down node) channel) where
    abbrev w : World
    w = behind_front g.front

    h : HasSite w node
    h = has_site policy topology is (past ++ g.front) node within

    put_out : queue_of (cell_comes (switching w h.site) control_port g.cell).switch.crossbar to.port ≡ queue_of h.site.switch.crossbar to.port ++ on_channel_of g.cell to ∷ []
    put_out = goes_on (switching w h.site) control_port g.cell to (leads_there node control_port channel to leads (Down node) g h)
        (room g.front node h to.port few)
        (ap (is_gsmp control_port) g.on ∙ other)
        (ap (λ (n : Journal). has_entry n.entries g.cell.mark) (sym (down_notes topology w node h.site h.is g.cell g.cells g.is)) ∙ unlost_there (Down node) channel g)

    pub to_port : StandsAt (Out node to.port) to.channel
    to_port = behind policy topology past events mark payload way (Down node) channel g (Out node to.port) to.channel (record {
      before = queue_of h.site.switch.crossbar to.port;
      cell = on_channel_of g.cell to;
      after = [];
      is = queue_of_site (next topology w (Carry (Down node))) node (down_now topology w node h.site h.is g.cell g.cells) (Out node to.port)
          (down_site topology w node h.site h.is g.cell g.cells g.is) ∙ put_out;
      last = g.last;
      own = g.own;
      on = refl;
    })

  -- *From a link*
  module _ (one far : LinkEnd) (within : IsNode topology one.node) (led : peer_of topology one.node one.port ≡ Some far) (channel : Channel)
      (g : GoesFrom (Out one.node one.port) channel) where
    peer : IsPeer topology one far
    peer = peer_back topology is one far led

    abbrev u : World
    u = behind_front g.front

    near : HasSite u one.node
    near = has_site policy topology is (past ++ g.front) one.node within

    there : HasSite u far.node
    there = has_site policy topology is (past ++ g.front) far.node peer.node

    put_there : (to : End) → to.port.0 ≤ 8 → Leads policy topology past events far.node (record { port = far.port; channel = channel }) to
        → queue_of (cell_comes (switching u there.site) far.port g.cell).switch.crossbar to.port ≡ queue_of there.site.switch.crossbar to.port ++ on_channel_of g.cell to ∷ []
    put_there to few leads = goes_on (switching u there.site) far.port g.cell to (leads_there far.node far.port channel to leads (Out one.node one.port) g there)
        (room g.front far.node there to.port few)
        (not_gsmp far.port peer.port.0 g.cell.header.channel)
        (ap (λ (n : Journal). has_entry n.entries g.cell.mark) (sym (out_notes topology u one.node near.site near.is g.cell g.cells one.port far led peer.apart there.site there.is g.is))
        ∙ unlost_there (Out one.node one.port) channel g)

    -- to the next link
    pub to_next : (to : End) → to.port.0 ≤ 8 → Leads policy topology past events far.node (record { port = far.port; channel = channel }) to → StandsAt (Out far.node to.port) to.channel
    to_next to few leads = behind policy topology past events mark payload way (Out one.node one.port) channel g (Out far.node to.port) to.channel (record {
      before = queue_of there.site.switch.crossbar to.port;
      cell = on_channel_of g.cell to;
      after = [];
      is = queue_of_site (next topology u (Carry (Out one.node one.port))) far.node
          (there_now topology u one.node near.site near.is g.cell g.cells one.port far led peer.apart there.site there.is) (Out far.node to.port)
          (out_site topology u one.node near.site near.is g.cell g.cells one.port far led peer.apart there.site there.is g.is) ∙ put_there to few leads;
      last = g.last;
      own = g.own;
      on = refl;
    })

    -- or to the controller
    pub to_controller : (number : ℕ) → Leads policy topology past events far.node (record { port = far.port; channel = channel }) (control_end far.port number)
        → StandsAt (Up far.node) (control_end far.port number).channel
    to_controller number leads = behind policy topology past events mark payload way (Out one.node one.port) channel g (Up far.node) (control_end far.port number).channel (record {
      before = queue_of there.site.switch.crossbar control_port;
      cell = on_channel_of g.cell (control_end far.port number);
      after = [];
      is = queue_of_site (next topology u (Carry (Out one.node one.port))) far.node
          (there_now topology u one.node near.site near.is g.cell g.cells one.port far led peer.apart there.site there.is) (Up far.node)
          (out_site topology u one.node near.site near.is g.cell g.cells one.port far led peer.apart there.site there.is g.is) ∙ put_there (control_end far.port number) (omega arith) leads;
      last = g.last;
      own = g.own;
      on = refl;
    })
