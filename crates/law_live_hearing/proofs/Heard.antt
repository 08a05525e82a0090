-- frames are heard in a stretch of a run: their last cells go from queue to queue

use Rattle.std.proofs.Common.{◌≡◌, ℕ, ◌<◌, ◌≤◌, ◌+◌, ◌*◌, ◌==◌, ◌&&◌, Bool, false, true, List, [], ◌∷◌, ◌++◌, append-nil, length, is_some, Option, Some, refl, sym, ◌∙◌, ap, subst, arith}
use Rattle.std.specs.Option.{option_and_then}
use Rattle.std.proofs.lemmas.Bool.Decides.{nat_tests}
use Rattle.world_model.specs.Words.{NodeId, PortNo, Place, Down, Up, Out, Channel, End, Mark, Journal, Policy, has_entry, payload_of, queue_of, on_channel_of, control_port, gsmp_channel, default_channel, default_end, default_home, is_gsmp, Topology, World, Site, next, world_after, is_linked, IsNode, IsTopology}
use Rattle.world_model.specs.Conduct.{cell_comes}
use Rattle.world_model.specs.World.{opened}
use Rattle.world_model.specs.Topology.{peer_of}
use Rattle.world_model.specs.crossbar_model.Crossbar.{output_of, input_of}
use Rattle.world_model.specs.network_model.declared.link.LinkEnd.{LinkEnd}
use Rattle.world_model.specs.network_model.declared.event.Event.{Event}
use Rattle.world_model.specs.network_model.declared.event.Event.TheVariants.{Carry}
use Rattle.law_causes.proofs.Shown.{IsPeer, peer_back}
use Rattle.law_run_facts.specs.Nodes.{HasSite}
use Rattle.law_live_hearing.specs.Law.{world_at, IsOnItsWay, Waits, Hears, SwitchHears, IsHeard, IsHeardBySwitch, SwitchesHear, ControllersHear, LeadsByDefault, NeighboursHear}
use Rattle.law_live_hearing.proofs.Places.{has_site, running, down_empty, up_empty, out_empty}
use Rattle.law_live_hearing.proofs.Going.{after_all, now, Stands, Goes, goes, behind, still_unlost}
use Rattle.law_live_hearing.proofs.Sites.{switching, down_now, down_notes, down_site, there_now, out_notes, out_site, queue_of_site}
use Rattle.law_live_hearing.proofs.Switching.{goes_on}
use Rattle.law_live_hearing.proofs.Hearing.{controller_hears, switch_hears}

not_none : (n : ℕ) → 1 ≤ n → (n == 0) ≡ false
not_none n some = grind (arith, nat_tests, some)

-- a port of a link has no GSMP, nor has a channel of one
not_gsmp : (port : PortNo) → 1 ≤ port.0 → (channel : Channel) → is_gsmp port channel ≡ false
not_gsmp port some channel = ap (λ (b : Bool). b && ((channel.vpi == 0) && (channel.vci == 15))) (not_none port.0 some)

home_not_gsmp : (port : PortNo) → 1 ≤ port.0 → is_gsmp control_port (default_home port).channel ≡ false
home_not_gsmp port some =
    let above : 1 ≤ 16 * port.0 + 0 = omega (arith, some) in
    ap (λ (b : Bool). b && true) (not_none (default_home port).channel.vpi above)

module _ (policy : Policy) (topology : Topology) (past events : List Event) (mark : Mark) (payload : List ℕ) (way : IsOnItsWay policy topology past events mark payload) where
  is : IsTopology topology
  is = way.run.topology_is

  abbrev StandsAt : Place → Channel → Type 0
  StandsAt place channel = Stands policy topology past events mark payload way place channel

  abbrev GoesFrom : Place → Channel → Type 0
  GoesFrom place channel = Goes policy topology past events mark payload way place channel

  abbrev behind_front : List Event → World
  behind_front front = now policy topology past events mark payload way front

  -- where it stands at first
  from_start : (place : Place) (channel : Channel) → Waits (world_at policy topology past) place channel mark → StandsAt place channel
  from_start place channel waits = record {
    front = [];
    rest = events;
    are = refl;
    waits = subst (λ (es : List Event). Waits (world_at policy topology es) place channel mark) (sym (append-nil past)) waits;
  }

  -- a front of the stretch, from its beginning
  from_past : (front : List Event) → behind_front front ≡ world_after topology (world_at policy topology past) front
  from_past front = after_all topology (opened policy topology) past front

  module _ (place : Place) (channel : Channel) (g : GoesFrom place channel) where
    abbrev v : World
    v = behind_front g.front

    made_there : payload_of v.notes.frames g.cell.mark ≡ Some payload
    made_there = ap (payload_of v.notes.frames) g.own ∙ way.made g.front (Carry place ∷ g.rest) g.are

    unlost_there : has_entry (next topology v (Carry place)).notes.entries g.cell.mark ≡ false
    unlost_there = ap (has_entry (next topology v (Carry place)).notes.entries) g.own ∙ still_unlost policy topology past events mark payload way place channel g

  -- *A controller hears it*
  heard_up : (node : NodeId) (channel : Channel) → IsNode topology node → (g : GoesFrom (Up node) channel) → IsHeard topology (world_at policy topology past) events node channel mark payload
  heard_up node channel within g =
      let h : HasSite (v (Up node) channel g) node = has_site policy topology is (past ++ g.front) node within in
      let heard : Hears topology (v (Up node) channel g) node g.cell.header.channel g.cell.mark payload =
      controller_hears topology (v (Up node) channel g) node h.site h.is g.cell g.cells g.is g.last payload (made_there (Up node) channel g)
      (way.counts g.front g.rest (Carry (Up node)) g.are) (unlost_there (Up node) channel g) in
      record {
        front = g.front;
        rest = g.rest;
        are = g.are;
        hears = subst (λ (u : World). Hears topology u node channel mark payload) (from_past g.front)
            (subst (λ (m : Mark). Hears topology (v (Up node) channel g) node channel m payload) g.own
            (subst (λ (c : Channel). Hears topology (v (Up node) channel g) node c g.cell.mark payload) g.on heard));
      }

  -- *A switch hears it*
  heard_down : (node : NodeId) → IsNode topology node → (g : GoesFrom (Down node) gsmp_channel) → IsHeardBySwitch topology (world_at policy topology past) events node mark payload
  heard_down node within g =
      let h : HasSite (v (Down node) gsmp_channel g) node = has_site policy topology is (past ++ g.front) node within in
      let heard : SwitchHears topology (v (Down node) gsmp_channel g) node g.cell.mark payload =
      switch_hears topology (v (Down node) gsmp_channel g) node h.site h.is g.cell g.cells g.is g.last g.on payload (made_there (Down node) gsmp_channel g)
      (way.counts g.front g.rest (Carry (Down node)) g.are) (unlost_there (Down node) gsmp_channel g) in
      record {
        front = g.front;
        rest = g.rest;
        are = g.are;
        hears = subst (λ (u : World). SwitchHears topology u node mark payload) (from_past g.front)
            (subst (λ (m : Mark). SwitchHears topology (v (Down node) gsmp_channel g) node m payload) g.own heard);
      }

  -- *From a controller to a link*
  module _ (one far : LinkEnd) (within : IsNode topology one.node) (led : peer_of topology one.node one.port ≡ Some far) where
    peer : IsPeer topology one far
    peer = peer_back topology is one far led

    module _ (g : GoesFrom (Down one.node) (default_home one.port).channel) (by_default : LeadsByDefault (behind_front g.front) one.node one.port) where
      abbrev w : World
      w = behind_front g.front

      h : HasSite w one.node
      h = has_site policy topology is (past ++ g.front) one.node within

      leads_out : (output : End) → output_of h.site.switch.crossbar.branches (input_of control_port g.cell) ≡ Some output → output ≡ default_end one.port
      leads_out output e = by_default.out output
          (ap (λ (o : Option Site). option_and_then (λ (s : Site). output_of s.switch.crossbar.branches (default_home one.port)) o) h.is
          ∙ (ap (λ (c : Channel). output_of h.site.switch.crossbar.branches (record { port = control_port; channel = c })) (sym g.on) ∙ e))

      room_out : one.port.0 < length h.site.switch.crossbar.queues
      room_out =
          let size : length h.site.switch.crossbar.queues ≡ 9 = (running policy topology is (past ++ g.front) one.node h.site h.is).size in
          let own : one.port.0 ≤ 8 = peer.own.1 in
          omega (arith, size, own)

      put_out : queue_of (cell_comes (switching w h.site) control_port g.cell).switch.crossbar one.port ≡ queue_of h.site.switch.crossbar one.port ++ on_channel_of g.cell (default_end one.port) ∷ []
      put_out = goes_on (switching w h.site) control_port g.cell (default_end one.port) leads_out
          room_out
          (ap (is_gsmp control_port) g.on ∙ home_not_gsmp one.port peer.own.0)
          (ap (λ (n : Journal). has_entry n.entries g.cell.mark) (sym (down_notes topology w one.node h.site h.is g.cell g.cells g.is)) ∙ unlost_there (Down one.node) (default_home one.port).channel g)

      pub to_link : StandsAt (Out one.node one.port) default_channel
      to_link = behind policy topology past events mark payload way (Down one.node) (default_home one.port).channel g (Out one.node one.port) default_channel (record {
        before = queue_of h.site.switch.crossbar one.port;
        cell = on_channel_of g.cell (default_end one.port);
        after = [];
        is = queue_of_site (next topology w (Carry (Down one.node))) one.node (down_now topology w one.node h.site h.is g.cell g.cells) (Out one.node one.port)
            (down_site topology w one.node h.site h.is g.cell g.cells g.is) ∙ put_out;
        last = g.last;
        own = g.own;
        on = refl;
      })

    -- *From a link to the far controller*
    module _ (g : GoesFrom (Out one.node one.port) default_channel) (by_default : LeadsByDefault (behind_front g.front) far.node far.port) where
      abbrev u : World
      u = behind_front g.front

      near : HasSite u one.node
      near = has_site policy topology is (past ++ g.front) one.node within

      there : HasSite u far.node
      there = has_site policy topology is (past ++ g.front) far.node peer.node

      leads_home : (output : End) → output_of there.site.switch.crossbar.branches (input_of far.port g.cell) ≡ Some output → output ≡ default_home far.port
      leads_home output e = by_default.home output
          (ap (λ (o : Option Site). option_and_then (λ (s : Site). output_of s.switch.crossbar.branches (default_end far.port)) o) there.is
          ∙ (ap (λ (c : Channel). output_of there.site.switch.crossbar.branches (record { port = far.port; channel = c })) (sym g.on) ∙ e))

      room_up : 0 < length there.site.switch.crossbar.queues
      room_up =
          let size : length there.site.switch.crossbar.queues ≡ 9 = (running policy topology is (past ++ g.front) far.node there.site there.is).size in
          omega (arith, size)

      put_up : queue_of (cell_comes (switching u there.site) far.port g.cell).switch.crossbar control_port ≡ queue_of there.site.switch.crossbar control_port ++ on_channel_of g.cell (default_home far.port) ∷ []
      put_up = goes_on (switching u there.site) far.port g.cell (default_home far.port) leads_home
          room_up
          (not_gsmp far.port peer.port.0 g.cell.header.channel)
          (ap (λ (n : Journal). has_entry n.entries g.cell.mark) (sym (out_notes topology u one.node near.site near.is g.cell g.cells one.port far led peer.apart there.site there.is g.is))
          ∙ unlost_there (Out one.node one.port) default_channel g)

      pub to_controller : StandsAt (Up far.node) (default_home far.port).channel
      to_controller = behind policy topology past events mark payload way (Out one.node one.port) default_channel g (Up far.node) (default_home far.port).channel (record {
        before = queue_of there.site.switch.crossbar control_port;
        cell = on_channel_of g.cell (default_home far.port);
        after = [];
        is = queue_of_site (next topology u (Carry (Out one.node one.port))) far.node
            (there_now topology u one.node near.site near.is g.cell g.cells one.port far led peer.apart there.site there.is) (Up far.node)
            (out_site topology u one.node near.site near.is g.cell g.cells one.port far led peer.apart there.site there.is g.is) ∙ put_up;
        last = g.last;
        own = g.own;
        on = refl;
      })

  -- *They are carried*
  down_goes : (node : NodeId) (channel : Channel) → IsNode topology node → StandsAt (Down node) channel → GoesFrom (Down node) channel
  down_goes node channel within s = goes policy topology past events mark payload way (Down node) channel within (down_empty policy topology is (past ++ events) node within way.empties) s

  up_goes : (node : NodeId) (channel : Channel) → IsNode topology node → StandsAt (Up node) channel → GoesFrom (Up node) channel
  up_goes node channel within s = goes policy topology past events mark payload way (Up node) channel within (up_empty policy topology is (past ++ events) node within way.empties) s

  out_goes : (node : NodeId) (port : PortNo) (channel : Channel) → IsNode topology node → is_linked topology node port ≡ true → StandsAt (Out node port) channel → GoesFrom (Out node port) channel
  out_goes node port channel within linked s =
      goes policy topology past events mark payload way (Out node port) channel (within, linked) (out_empty policy topology is (past ++ events) node port within linked way.empties) s

pub switches_hear : SwitchesHear
switches_hear policy topology past events node mark payload within way waits =
    heard_down policy topology past events mark payload way node within
    (down_goes policy topology past events mark payload way node gsmp_channel within (from_start policy topology past events mark payload way (Down node) gsmp_channel waits))

pub controllers_hear : ControllersHear
controllers_hear policy topology past events node channel mark payload within way waits =
    heard_up policy topology past events mark payload way node channel within
    (up_goes policy topology past events mark payload way node channel within (from_start policy topology past events mark payload way (Up node) channel waits))

pub neighbours_hear : NeighboursHear
neighbours_hear policy topology past events one far mark payload within led way leads leads_far waits =
    let g : GoesFrom policy topology past events mark payload way (Down one.node) (default_home one.port).channel =
    down_goes policy topology past events mark payload way one.node (default_home one.port).channel within (from_start policy topology past events mark payload way (Down one.node) (default_home one.port).channel waits) in
    let out : GoesFrom policy topology past events mark payload way (Out one.node one.port) default_channel =
    out_goes policy topology past events mark payload way one.node one.port default_channel within (ap is_some led)
    (to_link policy topology past events mark payload way one far within led g (leads g.front (Carry (Down one.node) ∷ g.rest) g.are)) in
    let up : GoesFrom policy topology past events mark payload way (Up far.node) (default_home far.port).channel =
    up_goes policy topology past events mark payload way far.node (default_home far.port).channel (peer policy topology past events mark payload way one far within led).node
    (to_controller policy topology past events mark payload way one far within led out (leads_far out.front (Carry (Out one.node one.port) ∷ out.rest) out.are)) in
    heard_up policy topology past events mark payload way far.node (default_home far.port).channel (peer policy topology past events mark payload way one far within led).node up
