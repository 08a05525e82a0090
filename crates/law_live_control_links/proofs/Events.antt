-- the control link of a node stays calm behind each carry and each tick, and is so at rest

use Rattle.std.proofs.Common.{◌≡◌, ◌≢◌, ℕ, zero, ◌<◌, true, false, List, [], ◌∷◌, Option, None, Some, Ok, refl, sym, ◌∙◌, ap, subst, arith}
use Rattle.std.specs.Prelude.{Contains, nat_lt}
use Rattle.std.specs.Option.{option_map_or}
use Rattle.world_model.specs.Words.{NodeId, PortNo, Party, Place, Down, Up, Out, End, Cell, Frame, Standing, Journal, queue_of, payload_in, control_port, default_channel, same_channel, is_request, tick_comes, Topology, World, Site, site_at, queue_in, queue_at, with_queue_in, with_queue_of, with_queue, carries_head, arrives_at, put_away, next, taker_of, reassembly_of, ForGsmp}
use Rattle.world_model.specs.gsmp_wire.declared.message.Message.{Message}
use Rattle.world_model.specs.gsmp_wire.Fields.{decoded}
use Rattle.world_model.specs.crossbar_model.Crossbar.{output_of}
use Rattle.world_model.specs.frame_model.Frame.{octets_of}
use Rattle.world_model.specs.Switch as switches
use Rattle.world_model.specs.Conduct as switch
use Rattle.world_model.specs.Controller as controllers
use Rattle.world_model.specs.Cells as controller
use Rattle.world_model.specs.Cells.{Taker}
use Rattle.world_model.specs.Ticks.{ticks}
use Rattle.world_model.specs.Topology.{peer_of}
use Rattle.world_model.specs.network_model.declared.link.LinkEnd.{LinkEnd}
use Rattle.world_model.specs.network_model.declared.event.Event.TheVariants.{Carry, Tick, TickSwitch}
use Rattle.world_model.proofs.Lists.{by_eq}
use Rattle.law_running_worlds.proofs.law_causes.Shown.{IsPeer, peer_back}
use Rattle.law_running_worlds.proofs.MadeTame.{whole_chain}
use Rattle.law_passing.proofs.Controllers.{cell_adds, ticks_adds}
use Rattle.law_running_worlds.specs.law_shown_cells.Seen.{Extends}
use Rattle.law_running_worlds.specs.ordered_lists.Ordered.{Every}
use Rattle.law_live_frames.proofs.Coming.{site_left}
use Rattle.law_live_hearing.proofs.Sites.{up_now, up_notes, up_site, down_now, down_notes, down_site, there_now, out_notes, out_site, queue_of_site}
use Rattle.law_live_hearing.proofs.Sites as hearing
use Rattle.law_live_hearing.specs.Law as hearing_law
use Rattle.law_live_control.specs.Calm.{ack, IsCalmDown, IsCalmUp, greets_controller, IsOfCalm, IsCalmCell, IsCarriedOut, ControllerGoesOn, aged}
use Rattle.law_live_control.specs.Law.{IsUnspent, TicksOn}
use Rattle.law_live_control.proofs.Reading.{calm_is_read}
use Rattle.law_live_control.proofs.Walks.{Tells}
use Rattle.law_live_control.proofs.Switches.{switches_tick_calmly}
use Rattle.law_live_control.proofs.Controllers.{Anything, all_calm, controllers_tick_calmly}
use Rattle.law_live_control_links.specs.Law.{IsCalmSite, IsCalmLink, LinksRestCalm, IsSteady, IsTrueEvent, IsUnspentAt, CarriesOutNext, ControllerListens, SwitchListens, CarriesKeepCalm, TicksKeepCalm, SwitchTicksKeepCalm}
use Rattle.law_live_control_links.proofs.Sides.{IsStill, still_on, still_aged}
use Rattle.law_live_control_links.proofs.Switches.{Leaves, down_left, link_left, tick_left, taken_down}
use Rattle.law_live_control_links.proofs.Controllers.{cell_goes, taken_up}
use Rattle.law_live_control_links.proofs.Sites.{site_later, pop_site, controller_site, switch_site, popped_elsewhere, acting, switching, controller_elsewhere, switch_elsewhere, controller_here, controller_frames, switch_here, switch_frames, unchanged}
use Rattle.law_live_control_links.proofs.Reading.{payload_made, read_in, gsmp_alone}

-- *At rest*
pub links_rest_calm : LinksRestCalm
links_rest_calm w node rest =
    let own : Party = rest.site.controller.adjacency.own in
    let far : Party = rest.site.switch.adjacency.own in
    record {
      site = rest.site;
      found = rest.found;
      calm = record {
        met = rest.met;
        controller_fits = rest.controller_fits;
        switch_fits = rest.switch_fits;
        down = subst (Every (IsCalmCell (IsCalmDown own far) w.notes.frames)) (sym rest.down ∙ queue_of_site w node rest.site (Down node) rest.found) tt;
        up = subst (Every (IsCalmCell (IsCalmUp own far) w.notes.frames)) (sym rest.up ∙ queue_of_site w node rest.site (Up node) rest.found) tt;
      };
    }

-- calm where the site is, with the frames of the world
there : (v : World) (node : NodeId) (site : Site) (frames : List Frame) → site_at v node ≡ Some site → v.notes.frames ≡ frames → IsCalmSite frames site → IsCalmLink v node
there v node site frames found same calm = record { site = site; found = found; calm = subst (λ (f : List Frame). IsCalmSite f site) (sym same) calm }

module _ (topology : Topology) (w : World) (node : NodeId) (link : IsCalmLink w node) where
  abbrev site : Site
  site = link.site

  abbrev own : Party
  own = site.controller.adjacency.own

  abbrev far : Party
  far = site.switch.adjacency.own

  -- what was made stays, told of the frames that the actor leaves
  stays_to : (v : World) (frames : List Frame) → v.notes.frames ≡ frames → Extends w.notes.frames v.notes.frames → Extends w.notes.frames frames
  stays_to v frames same stays = subst (Extends w.notes.frames) same stays

  module _ (steady : IsSteady topology w node) where
    apart : (input output : End) → output_of site.switch.crossbar.branches input ≡ Some output → output.port.0 ≡ 0 → same_channel output.channel default_channel ≡ false
    apart input output leads home = steady.apart site input output link.found leads home

    -- *From the controller to its switch*
    module _ (carries : CarriesOutNext w node) (true_event : IsTrueEvent topology w (Carry (Down node))) (cell : Cell) (cells : List Cell) (queue : queue_at w (Down node) ≡ cell ∷ cells) where
      abbrev s : switches.ActedSwitch
      s = hearing.switching w site

      queue_down : site.controller.queue ≡ cell ∷ cells
      queue_down = sym (queue_of_site w node site (Down node) link.found) ∙ queue

      heard_down : same_channel cell.header.channel default_channel ≡ true → (first : Cell) (rest : List Cell) (payload : List ℕ) → (taken_down site.controller.adjacency s link.calm.met cell).ended ≡ first ∷ rest
          → payload_in (octets_of (first ∷ rest)) ≡ Some payload → (message : Message) → decoded payload ≡ Ok message → IsCalmDown own far message × (is_request message ≡ true → IsCarriedOut site.switch message)
      heard_down on first rest payload ended passes message read =
          let h : IsOfCalm (IsCalmDown own far) w.notes.frames cell = (subst (Every (IsCalmCell (IsCalmDown own far) w.notes.frames)) queue_down link.calm.down).0 on in
          let made = payload_made w.notes.frames (put_away w).notes (nat_lt 0 (switches.free_slots site.switch)) site.switch.reassembly cell (true_event.chains.at_switch node site cell cells refl queue link.found on) first rest payload ended passes in (
            calm_is_read.down own far h.message message link.calm.controller_fits link.calm.switch_fits h.calm
                (read_in w.notes.frames (put_away w).notes (nat_lt 0 (switches.free_slots site.switch)) site.switch.reassembly cell (true_event.chains.at_switch node site cell cells refl queue link.found on) (IsCalmDown own far) h payload message made read),
            carries site cell cells payload message link.found queue
                (whole_chain (put_away w).notes (nat_lt 0 (switches.free_slots site.switch)) site.switch.reassembly cell first rest ended).is_ended.last on made read,
          )

      left_down : Leaves own s (switch.cell_comes s control_port cell)
      left_down = down_left site.controller.adjacency s link.calm.met apart cell heard_down

      frames_down : (next topology w (Carry (Down node))).notes.frames ≡ (switch.cell_comes s control_port cell).notes.frames
      frames_down = ap (λ (notes : Journal). notes.frames) (down_notes topology w node site link.found cell cells queue)

      down_head : IsCalmLink (next topology w (Carry (Down node))) node
      down_head = there (next topology w (Carry (Down node))) node (down_now topology w node site link.found cell cells) (switch.cell_comes s control_port cell).notes.frames
          (down_site topology w node site link.found cell cells queue) frames_down
          (switch_site w.notes.frames (switch.cell_comes s control_port cell).notes.frames
          (stays_to (next topology w (Carry (Down node))) (switch.cell_comes s control_port cell).notes.frames frames_down true_event.stays)
          (with_queue_in site (Down node) cells) (pop_site w.notes.frames site (Down node) cell cells (queue_down) link.calm) (switch.cell_comes s control_port cell).switch left_down.side left_down.up)

    -- *From the switch to the controller*
    module _ (true_event : IsTrueEvent topology w (Carry (Up node))) (unspent : IsUnspentAt (next topology w (Carry (Up node))) node) (cell : Cell) (cells : List Cell) (queue : queue_at w (Up node) ≡ cell ∷ cells) where
      abbrev a : controllers.Acted
      a = hearing_law.acting w site

      queue_up : queue_of site.switch.crossbar control_port ≡ cell ∷ cells
      queue_up = sym (queue_of_site w node site (Up node) link.found) ∙ queue

      marked : cell.mark.packet ≡ 0 → 0 < cell.mark.frame
      marked = steady.marks cell (subst (λ (q : List Cell). Contains q cell) (sym queue) (zero, omega arith, refl))

      calm_up : (taker : Taker) → taker_of site.controller cell.header.channel ≡ Some taker → (first : Cell) (rest : List Cell) (payload : List ℕ)
          → (taken_up a cell taker).ended ≡ first ∷ rest → payload_in (octets_of (first ∷ rest)) ≡ Some payload → taker ≡ ForGsmp → (message : Message) → decoded payload ≡ Ok message → IsCalmUp own far message
      calm_up taker takes first rest payload ended passes gsmp message read =
          let on : same_channel cell.header.channel default_channel ≡ true = gsmp_alone site.controller cell.header.channel (takes ∙ ap (λ (t : Taker). Some t) gsmp) in
          let h : IsOfCalm (IsCalmUp own far) w.notes.frames cell = (subst (Every (IsCalmCell (IsCalmUp own far) w.notes.frames)) queue_up link.calm.up).0 on in
          let made = payload_made w.notes.frames (put_away w).notes (nat_lt 0 (controllers.free_slots site.controller)) (reassembly_of site.controller taker) cell (true_event.chains.at_controller node site taker cell cells refl queue link.found takes) first rest payload ended passes in
          calm_is_read.up own far h.message message link.calm.controller_fits link.calm.switch_fits h.calm
          (read_in w.notes.frames (put_away w).notes (nat_lt 0 (controllers.free_slots site.controller)) (reassembly_of site.controller taker) cell (true_event.chains.at_controller node site taker cell cells refl queue link.found takes) (IsCalmUp own far) h payload message made read)

      abbrev heard : controllers.Acted
      heard = controller.cell_comes a cell

      unspent_up : IsUnspent heard
      unspent_up = unspent (up_now topology w node site link.found cell cells) (up_site topology w node site link.found cell cells queue)

      -- what it says is calm by any measure, if what stands behind it is clear
      pub goes_by : (Calm : Message → Type 0) (Clear : List Standing → Type 0) → Tells Calm Clear → Clear heard.controller.desk.standing → ControllerGoesOn Calm a heard
      goes_by Calm Clear tells clear = cell_goes Calm Clear tells a site.switch.adjacency link.calm.met (steady.links site link.found) cell marked calm_up (unspent_up, clear)

      goes_up : ControllerGoesOn (IsCalmDown own far) a heard
      goes_up = goes_by (IsCalmDown own far) Anything (all_calm own far) tt

      frames_up : (next topology w (Carry (Up node))).notes.frames ≡ heard.notes.frames
      frames_up = ap (λ (notes : Journal). notes.frames) (up_notes topology w node site link.found cell cells queue)

      up_head : IsCalmLink (next topology w (Carry (Up node))) node
      up_head = there (next topology w (Carry (Up node))) node (up_now topology w node site link.found cell cells) heard.notes.frames (up_site topology w node site link.found cell cells queue) frames_up
          (controller_site w.notes.frames heard.notes.frames (stays_to (next topology w (Carry (Up node))) heard.notes.frames frames_up true_event.stays)
          (with_queue_in site (Up node) cells) (pop_site w.notes.frames site (Up node) cell cells queue_up link.calm) heard.controller
          (still_on site.controller.adjacency heard.controller.adjacency goes_up.side) goes_up.says.later goes_up.says.queue goes_up.says.calm)

  -- *Nothing waits* there
  empty : (place : Place) → queue_at w place ≡ [] → Extends w.notes.frames (next topology w (Carry place)).notes.frames → IsCalmLink (next topology w (Carry place)) node
  empty place is stays = unchanged w (next topology w (Carry place)) node stays (ap (λ (q : List Cell). site_at (carries_head topology (put_away w) place q) node) is) link

  -- *Others are carried to*
  down_away : (here : NodeId) (cell : Cell) (cells : List Cell) → here.0 ≢ node.0 → queue_at w (Down here) ≡ cell ∷ cells → site_at (next topology w (Carry (Down here))) node ≡ site_at w node
  down_away here cell cells apart is = ap (λ (q : List Cell). site_at (carries_head topology (put_away w) (Down here) q) node) is
      ∙ (switch_elsewhere (with_queue (put_away w) (Down here) cells) node here (λ b. switch.cell_comes b control_port cell) apart
      ∙ popped_elsewhere (put_away w) node (Down here) cells apart)

  up_away : (here : NodeId) (cell : Cell) (cells : List Cell) → here.0 ≢ node.0 → queue_at w (Up here) ≡ cell ∷ cells → site_at (next topology w (Carry (Up here))) node ≡ site_at w node
  up_away here cell cells apart is = ap (λ (q : List Cell). site_at (carries_head topology (put_away w) (Up here) q) node) is
      ∙ (controller_elsewhere (with_queue (put_away w) (Up here) cells) node here (λ b. controller.cell_comes b cell) (λ b. (cell_adds b cell).node) apart
      ∙ popped_elsewhere (put_away w) node (Up here) cells apart)

  same_node : (here : NodeId) → here.0 ≡ node.0 → node ≡ here
  same_node here same = λ i. record { 0 = sym same i }

  -- *Down and up*
  goes_down : IsSteady topology w node → CarriesOutNext w node → (here : NodeId) → IsTrueEvent topology w (Carry (Down here)) → IsCalmLink (next topology w (Carry (Down here))) node
  goes_down steady carries here = by_eq here.0 node.0
      (λ same t. subst (λ (h : NodeId). IsTrueEvent topology w (Carry (Down h)) → IsCalmLink (next topology w (Carry (Down h))) node) (same_node here same)
      (λ true_event. by_queue node true_event (queue_at w (Down node)) refl (λ cell cells is. down_head steady carries true_event cell cells is)))
      (λ apart t true_event. by_queue here true_event (queue_at w (Down here)) refl
      (λ cell cells is. unchanged w (next topology w (Carry (Down here))) node true_event.stays (down_away here cell cells apart is) link))
    where
      by_queue : (h : NodeId) → IsTrueEvent topology w (Carry (Down h)) → (q : List Cell) → queue_at w (Down h) ≡ q
          → ((cell : Cell) (cells : List Cell) → queue_at w (Down h) ≡ cell ∷ cells → IsCalmLink (next topology w (Carry (Down h))) node) → IsCalmLink (next topology w (Carry (Down h))) node
      by_queue h true_event [] is more = empty (Down h) is true_event.stays
      by_queue h true_event (cell ∷ cells) is more = more cell cells is

  goes_up_to : IsSteady topology w node → (here : NodeId) → IsTrueEvent topology w (Carry (Up here)) → IsUnspentAt (next topology w (Carry (Up here))) node → IsCalmLink (next topology w (Carry (Up here))) node
  goes_up_to steady here = by_eq here.0 node.0
      (λ same t. subst (λ (h : NodeId). IsTrueEvent topology w (Carry (Up h)) → IsUnspentAt (next topology w (Carry (Up h))) node → IsCalmLink (next topology w (Carry (Up h))) node) (same_node here same)
      (λ true_event unspent. by_queue node true_event (queue_at w (Up node)) refl (λ cell cells is. up_head steady true_event unspent cell cells is)))
      (λ apart t true_event unspent. by_queue here true_event (queue_at w (Up here)) refl
      (λ cell cells is. unchanged w (next topology w (Carry (Up here))) node true_event.stays (up_away here cell cells apart is) link))
    where
      by_queue : (h : NodeId) → IsTrueEvent topology w (Carry (Up h)) → (q : List Cell) → queue_at w (Up h) ≡ q
          → ((cell : Cell) (cells : List Cell) → queue_at w (Up h) ≡ cell ∷ cells → IsCalmLink (next topology w (Carry (Up h))) node) → IsCalmLink (next topology w (Carry (Up h))) node
      by_queue h true_event [] is more = empty (Up h) is true_event.stays
      by_queue h true_event (cell ∷ cells) is more = more cell cells is

  -- *Over a link*
  module _ (steady : IsSteady topology w node) (here : NodeId) (port : PortNo) (true_event : IsTrueEvent topology w (Carry (Out here port))) (cell : Cell) (cells : List Cell) (queue : queue_at w (Out here port) ≡ cell ∷ cells) where
    abbrev behind : World
    behind = next topology w (Carry (Out here port))

    abbrev popped : World
    popped = with_queue (put_away w) (Out here port) cells

    -- the cell leaves this node, or another
    pops : (v : World) → Extends w.notes.frames v.notes.frames → site_at v node ≡ site_at popped node → IsCalmLink v node
    pops v stays same = by_eq here.0 node.0
        (λ near t. (let is : queue_in site (Out node port) ≡ cell ∷ cells = sym (queue_of_site w node site (Out node port) link.found) ∙ subst (λ (h : NodeId). queue_at w (Out h port) ≡ cell ∷ cells) (sym (same_node here near)) queue in
        record {
          site = with_queue_in site (Out node port) cells;
          found = same ∙ (ap (λ (h : NodeId). site_at (with_queue (put_away w) (Out h port) cells) node) (sym (same_node here near))
              ∙ (ap (λ (o : Option Site). site_at (with_queue_of (put_away w) (Out node port) cells o) node) link.found ∙ site_left (put_away w) (Out node port) node site cells link.found refl));
          calm = site_later w.notes.frames v.notes.frames stays (with_queue_in site (Out node port) cells) (pop_site w.notes.frames site (Out node port) cell cells is link.calm);
        }))
        (λ apart t. unchanged w v node stays (same ∙ popped_elsewhere (put_away w) node (Out here port) cells apart) link)

    -- it comes to this node
    module _ (end : LinkEnd) (led : peer_of topology here port ≡ Some end) (own_end : end.node.0 ≡ node.0) (from : Site) (found : site_at w here ≡ Some from) where
      peer : IsPeer topology (record { node = here; port = port }) end
      peer = peer_back topology steady.topology_is (record { node = here; port = port }) end led

      found_end : site_at w end.node ≡ Some site
      found_end = ap (λ (h : NodeId). site_at w h) (sym (same_node end.node own_end)) ∙ link.found

      abbrev at_end : switches.ActedSwitch
      at_end = hearing.switching w site

      left_there : Leaves own at_end (switch.cell_comes at_end end.port cell)
      left_there = link_left site.controller.adjacency at_end link.calm.met (apart steady) end.port cell peer.port.0

      frames_there : behind.notes.frames ≡ (switch.cell_comes at_end end.port cell).notes.frames
      frames_there = ap (λ (notes : Journal). notes.frames) (out_notes topology w here from found cell cells port end led peer.apart site found_end queue)

      comes_there : IsCalmLink behind node
      comes_there = there behind node (there_now topology w here from found cell cells port end led peer.apart site found_end) (switch.cell_comes at_end end.port cell).notes.frames
          (ap (λ (h : NodeId). site_at behind h) (same_node end.node own_end) ∙ out_site topology w here from found cell cells port end led peer.apart site found_end queue) frames_there
          (switch_site w.notes.frames (switch.cell_comes at_end end.port cell).notes.frames (stays_to behind (switch.cell_comes at_end end.port cell).notes.frames frames_there true_event.stays)
          site link.calm (switch.cell_comes at_end end.port cell).switch left_there.side left_there.up)

    by_from : (end : LinkEnd) → peer_of topology here port ≡ Some end → end.node.0 ≡ node.0 → (o : Option Site) → site_at w here ≡ o → IsCalmLink behind node
    by_from end led own_end None found = absurd (none_waits (sym (ap (λ (o : Option Site). option_map_or (λ (x : Site). queue_in x (Out here port)) o []) found) ∙ queue))
      where
        none_waits : [] ≡ cell ∷ cells → ⊥
        none_waits e = cc e
    by_from end led own_end (Some from) found = comes_there end led own_end from found

    by_end : (o : Option LinkEnd) → peer_of topology here port ≡ o → IsCalmLink behind node
    by_end None led = pops behind true_event.stays (ap (λ (q : List Cell). site_at (carries_head topology (put_away w) (Out here port) q) node) queue
        ∙ ap (λ (o : Option LinkEnd). site_at (arrives_at popped cell o) node) led)
    by_end (Some end) led = by_eq end.node.0 node.0
        (λ own_end t. by_from end led own_end (site_at w here) refl)
        (λ apart_end t. pops behind true_event.stays (ap (λ (q : List Cell). site_at (carries_head topology (put_away w) (Out here port) q) node) queue
        ∙ (ap (λ (o : Option LinkEnd). site_at (arrives_at popped cell o) node) led
        ∙ switch_elsewhere popped node end.node (λ b. switch.cell_comes b end.port cell) apart_end)))

    out_head : IsCalmLink behind node
    out_head = by_end (peer_of topology here port) refl

  goes_out : IsSteady topology w node → (here : NodeId) (port : PortNo) → IsTrueEvent topology w (Carry (Out here port)) → IsCalmLink (next topology w (Carry (Out here port))) node
  goes_out steady here port true_event = by (queue_at w (Out here port)) refl
    where
      by : (q : List Cell) → queue_at w (Out here port) ≡ q → IsCalmLink (next topology w (Carry (Out here port))) node
      by [] is = empty (Out here port) is true_event.stays
      by (cell ∷ cells) is = out_head steady here port true_event cell cells is

  -- *Ticks*
  tick_own : IsSteady topology w node → IsTrueEvent topology w (Tick node) → ControllerListens w node → IsUnspentAt (next topology w (Tick node)) node → IsCalmLink (next topology w (Tick node)) node
  tick_own steady true_event listens unspent =
      let a : controllers.Acted = acting (put_away w) site in
      let v : World = next topology w (Tick node) in
      let now : Site = record site { controller = (ticks a).controller } in
      let found : site_at v node ≡ Some now = controller_here (put_away w) node site link.found ticks (λ b. (ticks_adds b).node) in
      let frames : v.notes.frames ≡ (ticks a).notes.frames = controller_frames (put_away w) node site link.found ticks (λ b. (ticks_adds b).node) in
      let t : TicksOn (IsCalmDown own far) a (ticks a) = controllers_tick_calmly a site.switch.adjacency link.calm.met (steady.links site link.found) (listens site link.found) (unspent now found) in
      there v node now (ticks a).notes.frames found frames
      (controller_site w.notes.frames (ticks a).notes.frames (stays_to v (ticks a).notes.frames frames true_event.stays) site link.calm (ticks a).controller
      (subst (IsStill site.controller.adjacency) (sym t.side) (still_aged site.controller.adjacency)) t.says.later t.says.queue t.says.calm)

  switch_tick_own : IsTrueEvent topology w (TickSwitch node) → SwitchListens w node → IsCalmLink (next topology w (TickSwitch node)) node
  switch_tick_own true_event listens =
      let a : switches.ActedSwitch = switching (put_away w) site in
      let v : World = next topology w (TickSwitch node) in
      let found : site_at v node ≡ Some (record site { switch = (tick_comes a).switch }) = switch_here (put_away w) node site link.found tick_comes in
      let frames : v.notes.frames ≡ (tick_comes a).notes.frames = switch_frames (put_away w) node site link.found tick_comes in
      let left : Leaves own a (tick_comes a) = subst (Leaves own a) (sym (switches_tick_calmly site.controller.adjacency a link.calm.met (listens site link.found)))
      (tick_left site.controller.adjacency a link.calm.met (ack far own) greets_controller (aged site.switch.adjacency) (still_aged site.switch.adjacency)) in
      there v node (record site { switch = (tick_comes a).switch }) (tick_comes a).notes.frames found frames
      (switch_site w.notes.frames (tick_comes a).notes.frames (stays_to v (tick_comes a).notes.frames frames true_event.stays) site link.calm (tick_comes a).switch left.side left.up)

pub carries_keep_calm : CarriesKeepCalm
carries_keep_calm topology w node (Down here) link steady true_event unspent carries = goes_down topology w node link steady carries here true_event
carries_keep_calm topology w node (Up here) link steady true_event unspent carries = goes_up_to topology w node link steady here true_event unspent
carries_keep_calm topology w node (Out here port) link steady true_event unspent carries = goes_out topology w node link steady here port true_event

pub ticks_keep_calm : TicksKeepCalm
ticks_keep_calm topology w node here link steady = by_eq here.0 node.0
    (λ same t. subst (λ (h : NodeId). IsTrueEvent topology w (Tick h) → ControllerListens w h → IsUnspentAt (next topology w (Tick h)) node → IsCalmLink (next topology w (Tick h)) node)
    (same_node topology w node link here same) (tick_own topology w node link steady))
    (λ apart t true_event listens unspent. unchanged w (next topology w (Tick here)) node true_event.stays (controller_elsewhere (put_away w) node here ticks (λ b. (ticks_adds b).node) apart) link)

pub switch_ticks_keep_calm : SwitchTicksKeepCalm
switch_ticks_keep_calm topology w node here link = by_eq here.0 node.0
    (λ same t. subst (λ (h : NodeId). IsTrueEvent topology w (TickSwitch h) → SwitchListens w h → IsCalmLink (next topology w (TickSwitch h)) node)
    (same_node topology w node link here same) (switch_tick_own topology w node link))
    (λ apart t true_event listens. unchanged w (next topology w (TickSwitch here)) node true_event.stays (switch_elsewhere (put_away w) node here tick_comes apart) link)
