-- a network before the first packet enters: so it is behind each carry and each tick

use Rattle.std.proofs.Common.{◌≡◌, ℕ, true, List, [], ◌∷◌, Option, None, Some, Ok, refl, sym, ◌∙◌, ap, subst}
use Rattle.std.specs.Prelude.{nat_lt}
use Rattle.std.specs.Option.{option_map_or}
use Rattle.world_model.specs.Words.{NodeId, PortNo, Place, Down, Up, Out, Cell, payload_of, payload_in, control_port, default_channel, same_channel, taker_of, reassembly_of, ForGsmp, ForDefault, ForLabel, tick_comes, Topology, World, Site, site_at, controller_acts, switch_acts, queue_in, queue_at, with_queue_of, place_node, carries_head, arrives_at, tallied, put_away, next}
use Rattle.world_model.specs.gsmp_wire.declared.message.Message.{Message}
use Rattle.world_model.specs.gsmp_wire.Fields.{decoded}
use Rattle.world_model.specs.frame_model.Frame.{octets_of}
use Rattle.world_model.specs.frame_model.Reassembly.{taken}
use Rattle.world_model.specs.Switch as switches
use Rattle.world_model.specs.Conduct as switch
use Rattle.world_model.specs.Controller as controllers
use Rattle.world_model.specs.Cells as controller
use Rattle.world_model.specs.Cells.{Taker}
use Rattle.world_model.specs.Ticks.{ticks}
use Rattle.world_model.specs.Step.{arrives}
use Rattle.world_model.specs.World.{at_controller, at_switch}
use Rattle.world_model.specs.Topology.{peer_of}
use Rattle.world_model.specs.network_model.declared.link.LinkEnd.{LinkEnd}
use Rattle.world_model.specs.network_model.declared.event.Event.{Event}
use Rattle.world_model.specs.network_model.declared.event.Event.TheVariants.{Inject, Carry, Lose, Tick, TickSwitch, Restart, RestartSwitch, Forge, Route}
use Rattle.law_link_parties.proofs.law_link_met.law_link_woken.law_causes.Shown.{IsPeer, peer_back}
use Rattle.law_link_parties.proofs.law_link_met.law_live_tables.law_passing.Controllers.{cell_adds, ticks_adds}
use Rattle.law_link_parties.specs.law_run_facts.law_controller_facts.Sound.{IsSound}
use Rattle.law_link_parties.specs.law_run_facts.law_controller.Order.{IsOrderly}
use Rattle.law_link_parties.specs.law_run_facts.law_shown_cells.Seen.{Extends}
use Rattle.law_link_parties.specs.law_run_facts.law_world_views.Between.{setups_of}
use Rattle.law_link_parties.specs.law_run_facts.ordered_lists.Ordered.{Every}
use Rattle.law_link_parties.specs.law_live_rested.law_live_waking.law_running_worlds.Running.{ChainsAreTrue}
use Rattle.law_live_ease.specs.law_live_control.Calm.{IsOfCalm, IsCalmCell}
use Rattle.law_live_ease.specs.law_live_control_links.Law.{IsSteady, IsTrueEvent}
use Rattle.law_link_parties.proofs.law_link_met.law_live_tables.law_live_control_links.Controllers.{taken_up}
use Rattle.law_link_parties.proofs.law_link_met.law_live_tables.law_live_control_links.Reading.{payload_made, read_in, gsmp_alone}
use Rattle.law_link_parties.proofs.law_link_met.law_live_tables.law_live_control_links.Sites.{acting, switching}
use Rattle.law_live_begun.specs.First.{IsFirstDown, IsFirstUp, IsFirstNode, IsFirstWorld}
use Rattle.law_live_begun.specs.Codec.{GreetingsAreRead}
use Rattle.law_live_begun.specs.Controllers.{IsFirstHeard, from_switch, from_peer, ControllersGoOn, ControllersStayReady}
use Rattle.law_live_begun.specs.Switches.{SwitchesGoOn}
use Rattle.law_live_begun.specs.Worlds.{IsQuietEvent}
use Rattle.law_live_begun.proofs.WorldsControllers.{IsTaking, tick_leaves, cell_leaves}
use Rattle.law_live_begun.proofs.WorldsSwitches.{switch_tick_leaves, down_leaves, link_leaves}
use Rattle.law_live_begun.proofs.WorldsSites.{now, popped, first_now, popped_here, popped_there, pop_world, controller_world, switch_world}

none_waits : (cell : Cell) (cells : List Cell) → [] ≡ cell ∷ cells → ⊥
none_waits cell cells e = cc e

-- *A controller* is sound, and what stands at its desk in order
pub record IsKept (site : Site) : Type 0 where
  pub sound : IsSound (setups_of site.controller) site.controller
  pub order : IsOrderly site.controller

module _ (read : GreetingsAreRead) (controllers_go : ControllersGoOn) (controllers_stay : ControllersStayReady) (switches_go : SwitchesGoOn)
    (topology : Topology) (w : World) (first : IsFirstWorld topology w)
    (steady : (node : NodeId) → IsSteady topology w node) (kept : (node : NodeId) (site : Site) → site_at w node ≡ Some site → IsKept site) where
  abbrev u : World
  u = put_away w

  abbrev still : IsFirstWorld topology u
  still = record { frames = first.frames; nodes = first.nodes }

  -- where what was made stays
  abbrev Goes : World → Type 0
  Goes v = Extends w.notes.frames v.notes.frames → IsFirstWorld topology v

  -- *Ticks*
  tick : (here : NodeId) → Goes (at_controller u here ticks)
  tick here = by (site_at u here) refl
    where
      by : (o : Option Site) → site_at u here ≡ o → Goes (at_controller u here ticks)
      by None found = subst (λ (o : Option Site). Goes (controller_acts u o ticks)) (sym found) (λ stays. still)
      by (Some site) found =
          let n : IsFirstNode topology u.notes.frames here site = still.nodes here site found in
          let k : IsKept site = kept here site found in
          controller_world topology u still here site found n ticks (λ b. (ticks_adds b).node)
          (tick_leaves controllers_go controllers_stay n.start (setups_of site.controller) n.is.fits (acting u site) n.is.controller n.is.ready k.sound k.order)

  switch_tick : (here : NodeId) → Goes (at_switch u here tick_comes)
  switch_tick here = by (site_at u here) refl
    where
      by : (o : Option Site) → site_at u here ≡ o → Goes (at_switch u here tick_comes)
      by None found = subst (λ (o : Option Site). Goes (switch_acts u o tick_comes)) (sym found) (λ stays. still)
      by (Some site) found =
          let n : IsFirstNode topology u.notes.frames here site = still.nodes here site found in
          switch_world topology u still here site found n tick_comes (switch_tick_leaves switches_go n.start n.is.fits (switching u site) n.is.switch)

  -- *A cell is carried*, if one waits
  carries_each : (place : Place) → ((cell : Cell) (cells : List Cell) (site : Site) → queue_at u place ≡ cell ∷ cells → site_at u (place_node place) ≡ Some site
      → Goes (arrives topology (with_queue_of u place cells (Some site)) place cell)) → Goes (carries_head topology u place (queue_at u place))
  carries_each place head = by (queue_at u place) refl
    where
      by_site : (cell : Cell) (cells : List Cell) → queue_at u place ≡ cell ∷ cells → (o : Option Site) → site_at u (place_node place) ≡ o
          → Goes (arrives topology (with_queue_of u place cells o) place cell)
      by_site cell cells is None found = absurd (none_waits cell cells (sym (ap (λ (o : Option Site). option_map_or (λ (x : Site). queue_in x place) o []) found) ∙ is))
      by_site cell cells is (Some site) found = head cell cells site is found

      by : (q : List Cell) → queue_at u place ≡ q → Goes (carries_head topology u place q)
      by [] is = λ stays. still
      by (cell ∷ cells) is = by_site cell cells is (site_at u (place_node place)) refl

  -- what is so of the head of a queue, and behind it
  module _ (place : Place) (cell : Cell) (cells : List Cell) (site : Site) (is : queue_at u place ≡ cell ∷ cells) (found : site_at u (place_node place) ≡ Some site) where
    queue : queue_in site place ≡ cell ∷ cells
    queue = sym (ap (λ (o : Option Site). option_map_or (λ (x : Site). queue_in x place) o []) found) ∙ is

    abbrev behind : World
    behind = popped topology u still place cell cells site found queue

    behind_first : IsFirstWorld topology behind
    behind_first = pop_world topology u still place cell cells site found queue

    abbrev left : Site
    left = now topology u still place cell cells site found queue

    abbrev left_first : IsFirstNode topology u.notes.frames (place_node place) left
    left_first = first_now topology u still place cell cells site found queue

    left_there : site_at behind (place_node place) ≡ Some left
    left_there = popped_here topology u still place cell cells site found queue

  -- *From a controller to its switch*
  module _ (node : NodeId) (chains : ChainsAreTrue w (Carry (Down node))) (cell : Cell) (cells : List Cell) (site : Site)
      (is : queue_at u (Down node) ≡ cell ∷ cells) (found : site_at u node ≡ Some site) where
    abbrev down_first : IsFirstNode topology u.notes.frames node (left (Down node) cell cells site is found)
    down_first = left_first (Down node) cell cells site is found

    abbrev down_switch : switches.ActedSwitch
    down_switch = switching (behind (Down node) cell cells site is found) (left (Down node) cell cells site is found)

    heard_down : same_channel cell.header.channel default_channel ≡ true → (head : Cell) (rest : List Cell) (payload : List ℕ)
        → (taken u.notes (nat_lt 0 (switches.free_slots site.switch)) site.switch.reassembly cell).ended ≡ head ∷ rest
        → payload_in (octets_of (head ∷ rest)) ≡ Some payload → (message : Message) → decoded payload ≡ Ok message → IsFirstDown down_first.start message
    heard_down on head rest payload ended passes message reads =
        let h : IsOfCalm (IsFirstDown down_first.start) w.notes.frames cell =
        (subst (Every (IsCalmCell (IsFirstDown down_first.start) w.notes.frames)) (queue (Down node) cell cells site is found) (first.nodes node site found).is.down).0 on in
        let made = payload_made w.notes.frames u.notes (nat_lt 0 (switches.free_slots site.switch)) site.switch.reassembly cell
        (chains.at_switch node site cell cells refl is found on) head rest payload ended passes in
        read.down down_first.start h.message message down_first.is.fits h.calm
        (read_in w.notes.frames u.notes (nat_lt 0 (switches.free_slots site.switch)) site.switch.reassembly cell (chains.at_switch node site cell cells refl is found on) (IsFirstDown down_first.start) h payload message made reads)

    down_head : Goes (arrives topology (with_queue_of u (Down node) cells (Some site)) (Down node) cell)
    down_head stays =
        switch_world topology (behind (Down node) cell cells site is found) (behind_first (Down node) cell cells site is found) node
        (left (Down node) cell cells site is found) (left_there (Down node) cell cells site is found)
        down_first (λ a. switch.cell_comes a control_port cell)
        (down_leaves switches_go down_first.start down_first.is.fits down_switch down_first.is.switch (λ input output leads home. (steady node).apart site input output found leads home) cell heard_down) stays

  -- *From a switch to its controller*
  module _ (node : NodeId) (chains : ChainsAreTrue w (Carry (Up node))) (cell : Cell) (cells : List Cell) (site : Site)
      (is : queue_at u (Up node) ≡ cell ∷ cells) (found : site_at u node ≡ Some site) where
    abbrev up_first : IsFirstNode topology u.notes.frames node (left (Up node) cell cells site is found)
    up_first = left_first (Up node) cell cells site is found

    abbrev up_acting : controllers.Acted
    up_acting = acting (behind (Up node) cell cells site is found) (left (Up node) cell cells site is found)

    module _ (taker : Taker) (takes : taker_of site.controller cell.header.channel ≡ Some taker) (head : Cell) (rest : List Cell) (payload : List ℕ)
        (ended : (taken_up up_acting cell taker).ended ≡ head ∷ rest)
        (passes : payload_in (octets_of (head ∷ rest)) ≡ Some payload) where
      made_up : payload_of w.notes.frames cell.mark ≡ Some payload
      made_up = payload_made w.notes.frames u.notes (nat_lt 0 (controllers.free_slots site.controller)) (reassembly_of site.controller taker) cell
          (chains.at_controller node site taker cell cells refl is found takes) head rest payload ended passes

      said_up : taker ≡ ForGsmp → (message : Message) → decoded payload ≡ Ok message → IsFirstUp up_first.start message
      said_up gsmp message reads =
          let on : same_channel cell.header.channel default_channel ≡ true = gsmp_alone site.controller cell.header.channel (takes ∙ ap (λ (t : Taker). Some t) gsmp) in
          let h : IsOfCalm (IsFirstUp up_first.start) w.notes.frames cell =
          (subst (Every (IsCalmCell (IsFirstUp up_first.start) w.notes.frames)) (queue (Up node) cell cells site is found) (first.nodes node site found).is.up).0 on in
          read.up up_first.start h.message message up_first.is.fits h.calm
          (read_in w.notes.frames u.notes (nat_lt 0 (controllers.free_slots site.controller)) (reassembly_of site.controller taker) cell
          (chains.at_controller node site taker cell cells refl is found takes) (IsFirstUp up_first.start) h payload message made_up reads)

    heard_up : (taker : Taker) → taker_of site.controller cell.header.channel ≡ Some taker → IsTaking site.controller taker
        → (head : Cell) (rest : List Cell) (payload : List ℕ)
        → (taken_up up_acting cell taker).ended ≡ head ∷ rest → payload_in (octets_of (head ∷ rest)) ≡ Some payload → IsFirstHeard up_first.start taker payload
    heard_up ForGsmp takes taking head rest payload ended passes = from_switch payload (said_up ForGsmp takes head rest payload ended passes refl)
    heard_up (ForDefault linked) takes taking head rest payload ended passes =
        from_peer linked payload (read.from_peers payload (first.frames cell.mark payload (made_up (ForDefault linked) takes head rest payload ended passes)))
    heard_up (ForLabel linked label) takes taking head rest payload ended passes = absurd taking

    up_head : Goes (arrives topology (with_queue_of u (Up node) cells (Some site)) (Up node) cell)
    up_head stays =
        controller_world topology (behind (Up node) cell cells site is found) (behind_first (Up node) cell cells site is found) node
        (left (Up node) cell cells site is found) (left_there (Up node) cell cells site is found)
        up_first (λ a. controller.cell_comes a cell) (λ b. (cell_adds b cell).node)
        (cell_leaves controllers_go controllers_stay up_first.start (setups_of site.controller) up_first.is.fits up_acting up_first.is.controller up_first.is.ready (kept node site found).sound (kept node site found).order
        cell heard_up) stays

  -- *Over a link*
  module _ (node : NodeId) (port : PortNo) (cell : Cell) (cells : List Cell) (site : Site) (is : queue_at u (Out node port) ≡ cell ∷ cells)
      (found : site_at u node ≡ Some site) where
    abbrev out : World
    out = behind (Out node port) cell cells site is found

    out_first : IsFirstWorld topology out
    out_first = behind_first (Out node port) cell cells site is found

    module _ (end : LinkEnd) (led : peer_of topology node port ≡ Some end) where
      peer : IsPeer topology (record { node = node; port = port }) end
      peer = peer_back topology (steady node).topology_is (record { node = node; port = port }) end led

      comes_there : (o : Option Site) → site_at out end.node ≡ o → Goes (at_switch out end.node (λ a. switch.cell_comes a end.port cell))
      comes_there None none = subst (λ (o : Option Site). Goes (switch_acts out o (λ a. switch.cell_comes a end.port cell))) (sym none) (λ stays. out_first)
      comes_there (Some far) found_far =
          let n : IsFirstNode topology out.notes.frames end.node far = out_first.nodes end.node far found_far in
          let before : site_at u end.node ≡ Some far =
          sym (popped_there topology u still (Out node port) cell cells site found (queue (Out node port) cell cells site is found) end.node (λ e. peer.apart (sym e))) ∙ found_far in
          switch_world topology out out_first end.node far found_far n (λ a. switch.cell_comes a end.port cell)
          (link_leaves switches_go n.start n.is.fits (switching out far) n.is.switch (λ input output leads home. (steady end.node).apart far input output before leads home) end.port cell peer.port.0)

    by_end : (o : Option LinkEnd) → peer_of topology node port ≡ o → Goes (arrives_at out cell o)
    by_end None led = λ stays. out_first
    by_end (Some end) led = comes_there end led (site_at out end.node) refl

    out_head : Goes (arrives topology (with_queue_of u (Out node port) cells (Some site)) (Out node port) cell)
    out_head = by_end (peer_of topology node port) refl

  carry : (place : Place) → ChainsAreTrue w (Carry place) → Goes (carries_head topology u place (queue_at u place))
  carry (Down node) chains = carries_each (Down node) (down_head node chains)
  carry (Up node) chains = carries_each (Up node) (up_head node chains)
  carry (Out node port) chains = carries_each (Out node port) (out_head node port)

  -- *Each event*
  tally : (v : World) → IsFirstWorld topology v → IsFirstWorld topology (tallied u v)
  tally v h = record { frames = h.frames; nodes = h.nodes }

  pub event_first : (event : Event) → IsQuietEvent event → IsTrueEvent topology w event → IsFirstWorld topology (next topology w event)
  event_first (Carry place) quiet t = tally (carries_head topology u place (queue_at u place)) (carry place t.chains t.stays)
  event_first (Tick node) quiet t = tally (at_controller u node ticks) (tick node t.stays)
  event_first (TickSwitch node) quiet t = tally (at_switch u node tick_comes) (switch_tick node t.stays)
  event_first (Inject node octets) quiet t = absurd quiet
  event_first (Lose place) quiet t = absurd quiet
  event_first (Restart node) quiet t = absurd quiet
  event_first (RestartSwitch node) quiet t = absurd quiet
  event_first (Forge place channel payload) quiet t = absurd quiet
  event_first (Route node change) quiet t = absurd quiet
