-- each event of a network is a turn of the two ends of a node's control link, or leaves them as they are

use Rattle.std.proofs.Common.{◌≡◌, ◌≢◌, ℕ, zero, ◌+◌, ◌<◌, true, false, true≢false, List, [], ◌∷◌, ◌++◌, append-nil, length, is_some, Option, None, Some, Ok, refl, sym, ◌∙◌, ap, subst, arith}
use Rattle.std.specs.Prelude.{Contains, nat_lt}
use Rattle.std.specs.Option.{option_map, option_map_or}
use Rattle.world_model.specs.Words.{NodeId, PortNo, Place, Down, Up, Out, End, Greeting, Party, Said, Side, Step, fresh, gsmp_received, greeting_of, ticked, followed_tick, tick_reply, Reply, Silent, Says, Resets, Refusal, Cell, Frame, Journal, has_entry, taker_of, reassembly_of, next_instance, control_port, default_channel, gsmp_channel, same_channel, queue_of, tick_comes, Controller, Switch, Topology, World, Site, site_at, queue_in, queue_at, with_queue_in, with_queue_of, with_queue, carries_head, arrives_at, injects_by, injects, inject_refusal, injected, put_away, next, IsPlace, OfController, OfSwitch, has_slot}
use Rattle.world_model.specs.adjacency_table.Side.{counted}
use Rattle.world_model.specs.gsmp_wire.declared.message.Message.{Message}
use Rattle.world_model.specs.gsmp_wire.declared.message.Message.TheVariants.{Adjacency, Branch, Move, Port, AllPorts}
use Rattle.world_model.specs.gsmp_wire.Fields.{decoded}
use Rattle.world_model.specs.crossbar_model.Crossbar.{output_of}
use Rattle.world_model.specs.Switch as switches
use Rattle.world_model.specs.Conduct as switch
use Rattle.world_model.specs.Controller as controllers
use Rattle.world_model.specs.Cells as controller
use Rattle.world_model.specs.Ticks.{ticks as controller_ticks}
use Rattle.world_model.specs.Topology.{peer_of}
use Rattle.world_model.specs.network_model.declared.link.LinkEnd.{LinkEnd}
use Rattle.world_model.specs.network_model.declared.event.Event.{Event}
use Rattle.world_model.specs.network_model.declared.event.Event.TheVariants.{Inject, Carry, Tick, TickSwitch}
use Rattle.world_model.proofs.Lists.{by_eq}
use Rattle.law_running_worlds.proofs.law_causes.Shown.{IsPeer, peer_back}
use Rattle.law_passing.proofs.Controllers.{cell_adds, ticks_adds, injected_adds}
use Rattle.law_running_worlds.specs.law_shown_cells.Seen.{Extends}
use Rattle.law_running_worlds.proofs.Greeted.{ticked_side, ticked_answers}
use Rattle.law_live_frames.proofs.Coming.{site_left}
use Rattle.law_live_hearing.specs.Law.{acting}
use Rattle.law_live_hearing.proofs.Sites.{switching, up_now, up_notes, up_site, down_now, down_notes, down_site, there_now, out_notes, out_site, queue_of_site}
use Rattle.law_live_meetings.specs.Exchange.{gsmp, Ends, AtOne, AtOther, Hears, turns, side_after, said_in}
use Rattle.law_live_orders.specs.Law.{last_marks}
use Rattle.law_live_control_links.proofs.Sites as sites
use Rattle.law_live_control_links.proofs.Reading.{one_payload}
use Rattle.law_live_control.specs.Calm.{HasLinks}
use Rattle.law_running_worlds.specs.law_input_steps.Hearing.{IsEnded, PassesTrue}
use Rattle.law_live_waking.specs.Greetings.{Greet, ShowsEnds}
use Rattle.law_live_waking.specs.Law.{IsGoing, IsPeaceful, TakesTurns, CarriesAreTurns, PacketsAreNone, ShowsTick, ShowsSwitchTick, TicksAreTurns}
use Rattle.law_live_waking.proofs.Greetings.{IsOther}
use Rattle.law_live_waking.proofs.Sites.{ends_of, Shown, ends_are, shown_at, shows_there, shown_later, Acts, controller_shown, switch_shown, Taken, heard, unheard, early, Left, taken_from, down_left, up_left, out_left}
use Rattle.law_live_waking.proofs.Controllers as acts_controller
use Rattle.law_live_waking.proofs.Switches as acts_switch
use Rattle.law_live_waking.proofs.Cells as cells_up
use Rattle.law_live_waking.proofs.SwitchCells as cells_down

-- *Ends* by their sides
abbrev pub ends_as : (one other : Side Party) (up down : List (Said Party)) → Ends Party
ends_as one other up down = record { one = record { side = one; comes = up }; other = record { side = other; comes = down } }

-- *The node's controller acts*, and its switch
module _ (v : World) (node : NodeId) (site : Site) (frames : List Frame) (up down said : List (Said Party)) (side : Side Party) (s : Shown frames site up down) (same : v.notes.frames ≡ frames) where
  pub by_controller : (c : Controller) → site_at v node ≡ Some (record site { controller = c }) → c.adjacency ≡ side → Acts frames site.controller.queue c.queue said
      → ShowsEnds v node (ends_as side site.switch.adjacency up (down ++ said))
  by_controller c found is a = subst (λ (x : Side Party). ShowsEnds v node (ends_as x site.switch.adjacency up (down ++ said))) is
      (shows_there v node (record site { controller = c }) frames up (down ++ said) found same (controller_shown frames site up down said s c a))

  pub by_switch : (x : Switch) → site_at v node ≡ Some (record site { switch = x }) → x.adjacency ≡ side → Acts frames (queue_of site.switch.crossbar control_port) (queue_of x.crossbar control_port) said
      → ShowsEnds v node (ends_as site.controller.adjacency side (up ++ said) down)
  by_switch x found is a = subst (λ (z : Side Party). ShowsEnds v node (ends_as site.controller.adjacency z (up ++ said) down)) is
      (shows_there v node (record site { switch = x }) frames (up ++ said) down found same (switch_shown frames site up down said s x a))

-- and says nothing
module _ (v : World) (node : NodeId) (site : Site) (frames : List Frame) (up down : List (Said Party)) (s : Shown frames site up down) (same : v.notes.frames ≡ frames) where
  pub controller_still : (c : Controller) → site_at v node ≡ Some (record site { controller = c }) → c.adjacency ≡ site.controller.adjacency → Acts frames site.controller.queue c.queue []
      → ShowsEnds v node (ends_of site up down)
  controller_still c found is a = subst (λ (ms : List (Said Party)). ShowsEnds v node (ends_as site.controller.adjacency site.switch.adjacency up ms)) (append-nil down)
      (by_controller v node site frames up down [] site.controller.adjacency s same c found is a)

  pub switch_still : (x : Switch) → site_at v node ≡ Some (record site { switch = x }) → x.adjacency ≡ site.switch.adjacency
      → Acts frames (queue_of site.switch.crossbar control_port) (queue_of x.crossbar control_port) [] → ShowsEnds v node (ends_of site up down)
  switch_still x found is a = subst (λ (ms : List (Said Party)). ShowsEnds v node (ends_as site.controller.adjacency site.switch.adjacency ms down)) (append-nil up)
      (by_switch v node site frames up down [] site.switch.adjacency s same x found is a)

-- *Nothing changes* at the node
pub unchanged : (w v : World) (node : NodeId) (ends : Ends Party) → ShowsEnds w node ends → Extends w.notes.frames v.notes.frames → site_at v node ≡ site_at w node → ShowsEnds v node ends
unchanged w v node ends s stays same = subst (λ (e : Ends Party). ShowsEnds v node e) (sym (ends_are w node ends s))
    (shows_there v node s.site v.notes.frames ends.one.comes ends.other.comes (same ∙ s.found) refl
    (shown_later w.notes.frames v.notes.frames s.site ends.one.comes ends.other.comes stays (shown_at w node ends s)))

no_turn : (v : World) (node : NodeId) (ends : Ends Party) → ShowsEnds v node ends → TakesTurns v node ends
no_turn v node ends s = record { come = []; shows = s }

-- no message is a greeting where none is read
other_than : (payload : List ℕ) → ((greeting : Greeting) → decoded payload ≡ Ok (Adjacency greeting) → ⊥) → (message : Message) → decoded payload ≡ Ok message → IsOther message
other_than payload none (Adjacency greeting) is = none greeting is
other_than payload none (Branch kind result code number session input_port input output_port output count priority) is = tt
other_than payload none (Move result code number session input_port input output_port output target_port target count priority) is = tt
other_than payload none (Port result code number port session function) is = tt
other_than payload none (AllPorts result code number rows) is = tt

own_stays : (side : Side Party) → (ticked side).side.own ≡ side.own
own_stays side = by (tick_reply side.state (counted side.state side.silence))
  where
    by : (reply : Reply) → (followed_tick side reply).side.own ≡ side.own
    by Silent = refl
    by (Says kind) = refl
    by Resets = refl

same_node : (here node : NodeId) → here.0 ≡ node.0 → node ≡ here
same_node here node same = λ i. record { 0 = sym same i }

module _ (topology : Topology) (w : World) (node : NodeId) (event : Event) (going : IsGoing topology w node event) (site : Site) (found : site_at w node ≡ Some site)
    (up down : List (Said Party)) (s : Shown w.notes.frames site up down) where
  abbrev v : World
  v = next topology w event

  some_queue : 0 < length site.switch.crossbar.queues
  some_queue = (let nine : length site.switch.crossbar.queues ≡ 9 = going.queues site found in omega (arith, nine))

  apart : (input output : End) → output_of site.switch.crossbar.branches input ≡ Some output → output.port.0 ≡ 0 → same_channel output.channel default_channel ≡ false
  apart input output leads home = going.steady.apart site input output found leads home

  -- as they are behind it, told of the frames that the actor leaves
  shown_to : (frames : List Frame) → v.notes.frames ≡ frames → Shown frames site up down
  shown_to frames same = shown_later w.notes.frames frames site up down (subst (Extends w.notes.frames) same going.is_true.stays) s

  -- *A tick of the controller*
  pub tick_here : event ≡ Tick node → has_slot w (OfController node gsmp_channel) ≡ true → IsPeaceful topology w node event → ShowsTick v node (ends_of site up down)
  tick_here is slot peace =
      let a : controllers.Acted = sites.acting (put_away w) site in
      let now : Site = record site { controller = (controller_ticks a).controller } in
      let there : site_at v node ≡ Some now = ap (λ (e : Event). site_at (next topology w e) node) is ∙ sites.controller_here (put_away w) node site found controller_ticks (λ b. (ticks_adds b).node) in
      let frames : v.notes.frames ≡ (controller_ticks a).notes.frames = ap (λ (e : Event). (next topology w e).notes.frames) is ∙ sites.controller_frames (put_away w) node site found controller_ticks (λ b. (ticks_adds b).node) in
      let fits = (going.fits site found).0 in
      let step : Step Party = ticked site.controller.adjacency in
      let free : nat_lt 0 (controllers.free_slots site.controller) ≡ true = sym (ap (λ (o : Option Site). option_map_or (λ (c : Controller). nat_lt 0 (controllers.free_slots c)) (option_map (λ (x : Site). x.controller) o) false) found) ∙ slot in
      let t = acts_controller.ticks_so a (going.steady.links site found) free step step.answer refl (own_stays site.controller.adjacency) (ticked_answers site.controller.adjacency (ticked_side site.controller.adjacency fits)) (peace.unspent now there) in
      record {
        drawn = record step.side.own { instance = next_instance w.numbers };
        shows = by_controller v node site (controller_ticks a).notes.frames up down (said_in step.answer) (side_after (fresh gsmp.first (record step.side.own { instance = next_instance w.numbers })) step.answer step.side)
            (shown_to (controller_ticks a).notes.frames frames) frames (controller_ticks a).controller there t.adjacency t.acts;
      }

  -- *A tick of the switch*
  pub switch_tick_here : event ≡ TickSwitch node → has_slot w (OfSwitch node) ≡ true → ShowsSwitchTick v node (ends_of site up down)
  switch_tick_here is slot =
      let a : switches.ActedSwitch = sites.switching (put_away w) site in
      let now : Site = record site { switch = (tick_comes a).switch } in
      let there : site_at v node ≡ Some now = ap (λ (e : Event). site_at (next topology w e) node) is ∙ sites.switch_here (put_away w) node site found tick_comes in
      let frames : v.notes.frames ≡ (tick_comes a).notes.frames = ap (λ (e : Event). (next topology w e).notes.frames) is ∙ sites.switch_frames (put_away w) node site found tick_comes in
      let fits = (going.fits site found).1 in
      let step : Step Party = ticked site.switch.adjacency in
      let free : nat_lt 0 (switches.free_slots site.switch) ≡ true = sym (ap (λ (o : Option Site). option_map_or (λ (x : Site). nat_lt 0 (switches.free_slots x.switch)) o false) found) ∙ slot in
      let t = acts_switch.step_so a step some_queue free (ticked_answers site.switch.adjacency (ticked_side site.switch.adjacency fits)) in
      record {
        drawn = record step.side.own { instance = next_instance w.numbers };
        shows = by_switch v node site (tick_comes a).notes.frames up down (said_in step.answer) (side_after (fresh gsmp.first (record step.side.own { instance = next_instance w.numbers })) step.answer step.side)
            (shown_to (tick_comes a).notes.frames frames) frames (tick_comes a).switch there t.adjacency t.acts;
      }

  -- *A cell comes to the controller*
  module _ (is : event ≡ Carry (Up node)) (peace : IsPeaceful topology w node (Carry (Up node))) (cell : Cell) (cells : List Cell) (queue : queue_at w (Up node) ≡ cell ∷ cells) where
    abbrev a : controllers.Acted
    a = acting w site

    abbrev after : controllers.Acted
    after = controller.cell_comes a cell

    queue_up : queue_of site.switch.crossbar control_port ≡ cell ∷ cells
    queue_up = sym (queue_of_site w node site (Up node) found) ∙ queue

    marked : cell.mark.packet ≡ 0 → 0 < cell.mark.frame
    marked = going.steady.marks cell (subst (λ (q : List Cell). Contains q cell) (sym queue) (zero, omega arith, refl))

    there_up : site_at v node ≡ Some (up_now topology w node site found cell cells)
    there_up = ap (λ (e : Event). site_at (next topology w e) node) is ∙ up_site topology w node site found cell cells queue

    frames_up : v.notes.frames ≡ after.notes.frames
    frames_up = ap (λ (e : Event). (next topology w e).notes.frames) is ∙ ap (λ (notes : Journal). notes.frames) (up_notes topology w node site found cell cells queue)

    unspent_up : acts_controller.IsUnspent after
    unspent_up = peace.unspent (up_now topology w node site found cell cells) (up_site topology w node site found cell cells queue)

    chain_up : (taker : controller.Taker) → taker_of site.controller cell.header.channel ≡ Some taker → IsEnded (nat_lt 0 (controllers.free_slots site.controller)) (reassembly_of site.controller taker) cell
        → PassesTrue w.notes.frames ((reassembly_of site.controller taker).chain ++ cell ∷ [])
    chain_up taker takes ended = going.is_true.chains.at_controller node site taker cell cells is queue found takes ended

    links : HasLinks site.controller
    links = going.steady.links site found

    left_up : Left w.notes.frames cell cells up
    left_up = taken_from w.notes.frames cell cells (queue_of site.switch.crossbar control_port) up queue_up s.goes_up

    popped_up : (later : List (Said Party)) → Greet w.notes.frames (last_marks gsmp_channel cells) later → Shown after.notes.frames (with_queue_in site (Up node) cells) later down
    popped_up later comes = shown_later w.notes.frames after.notes.frames (with_queue_in site (Up node) cells) later down (subst (Extends w.notes.frames) frames_up going.is_true.stays)
        (up_left w.notes.frames site node up down later s cells cell queue_up comes)

    still_up : cells_up.Unheard a links cell marked chain_up → Greet w.notes.frames (last_marks gsmp_channel cells) up → TakesTurns v node (ends_of site up down)
    still_up quietly comes =
        let t = cells_up.unheard_so a links cell marked chain_up quietly unspent_up in
        no_turn v node (ends_of site up down) (controller_still v node (with_queue_in site (Up node) cells) after.notes.frames up down (popped_up up comes) frames_up after.controller there_up t.adjacency t.acts)

    by_cell_up : (later : List (Said Party)) → Taken w.notes.frames cell up later → Greet w.notes.frames (last_marks gsmp_channel cells) later → TakesTurns v node (ends_of site up down)
    by_cell_up later (heard message rest last greets_so came) comes =
        let step : Step Party = gsmp_received site.controller.adjacency (greeting_of message) in
        let drawn : Party = record step.side.own { instance = next_instance w.numbers } in
        let unlost : has_entry after.notes.entries cell.mark ≡ false = ap (λ (notes : Journal). has_entry notes.entries cell.mark) (sym (up_notes topology w node site found cell cells queue)) ∙ peace.unlost refl cell cells queue last in
        let t = cells_up.heard_so a links cell marked chain_up last message greets_so unlost going.made (going.fits site found).0 unspent_up in
        record {
          come = AtOne (Hears drawn) ∷ [];
          shows = subst (λ (ms : List (Said Party)). ShowsEnds v node (turns gsmp (ends_of site ms down) (AtOne (Hears drawn)))) (sym came)
              (by_controller v node (with_queue_in site (Up node) cells) after.notes.frames later down (said_in step.answer) (side_after (fresh gsmp.first drawn) step.answer step.side)
              (popped_up later comes) frames_up after.controller there_up t.adjacency t.acts);
        }
    by_cell_up later (unheard last nobody) comes = still_up
        (λ payload message ends made read. (
          other_than payload (λ greeting greets_one. nobody.unread greeting (ap decoded (one_payload nobody.payload payload (sym nobody.made ∙ made)) ∙ greets_one)) message read,
          (λ standing code. peace.succeeds refl site cell cells payload message standing code found queue made read),
        )) comes
    by_cell_up later (early not_last) comes = still_up (λ payload message ends made read. absurd (true≢false (sym ends ∙ not_last))) comes

    pub cell_up : TakesTurns v node (ends_of site up down)
    cell_up = by_cell_up left_up.after left_up.taken left_up.comes

  -- *A cell comes to the switch*
  module _ (is : event ≡ Carry (Down node)) (peace : IsPeaceful topology w node (Carry (Down node))) (cell : Cell) (cells : List Cell) (queue : queue_at w (Down node) ≡ cell ∷ cells) where
    abbrev b : switches.ActedSwitch
    b = switching w site

    abbrev taken_by : switches.ActedSwitch
    taken_by = switch.cell_comes b control_port cell

    queue_down : site.controller.queue ≡ cell ∷ cells
    queue_down = sym (queue_of_site w node site (Down node) found) ∙ queue

    there_down : site_at v node ≡ Some (down_now topology w node site found cell cells)
    there_down = ap (λ (e : Event). site_at (next topology w e) node) is ∙ down_site topology w node site found cell cells queue

    frames_down : v.notes.frames ≡ taken_by.notes.frames
    frames_down = ap (λ (e : Event). (next topology w e).notes.frames) is ∙ ap (λ (notes : Journal). notes.frames) (down_notes topology w node site found cell cells queue)

    chain_down : same_channel cell.header.channel default_channel ≡ true → IsEnded (nat_lt 0 (switches.free_slots site.switch)) site.switch.reassembly cell
        → PassesTrue w.notes.frames (site.switch.reassembly.chain ++ cell ∷ [])
    chain_down on ended = going.is_true.chains.at_switch node site cell cells is queue found on ended

    left_down : Left w.notes.frames cell cells down
    left_down = taken_from w.notes.frames cell cells site.controller.queue down queue_down s.goes_down

    popped_down : (later : List (Said Party)) → Greet w.notes.frames (last_marks gsmp_channel cells) later → Shown taken_by.notes.frames (with_queue_in site (Down node) cells) up later
    popped_down later comes = shown_later w.notes.frames taken_by.notes.frames (with_queue_in site (Down node) cells) up later (subst (Extends w.notes.frames) frames_down going.is_true.stays)
        (down_left w.notes.frames site node up down later s cells comes)

    still_down : cells_down.Unheard b cell chain_down → Greet w.notes.frames (last_marks gsmp_channel cells) down → TakesTurns v node (ends_of site up down)
    still_down quietly comes =
        let t = cells_down.unheard_so b cell chain_down apart quietly in
        no_turn v node (ends_of site up down) (switch_still v node (with_queue_in site (Down node) cells) taken_by.notes.frames up down (popped_down down comes) frames_down taken_by.switch there_down t.adjacency t.acts)

    by_cell_down : (later : List (Said Party)) → Taken w.notes.frames cell down later → Greet w.notes.frames (last_marks gsmp_channel cells) later → TakesTurns v node (ends_of site up down)
    by_cell_down later (heard message rest last greets_so came) comes =
        let step : Step Party = gsmp_received site.switch.adjacency (greeting_of message) in
        let drawn : Party = record step.side.own { instance = next_instance w.numbers } in
        let unlost : has_entry taken_by.notes.entries cell.mark ≡ false = ap (λ (notes : Journal). has_entry notes.entries cell.mark) (sym (down_notes topology w node site found cell cells queue)) ∙ peace.unlost refl cell cells queue last in
        let t = cells_down.heard_so b cell chain_down last message greets_so unlost going.made (going.fits site found).1 some_queue in
        record {
          come = AtOther (Hears drawn) ∷ [];
          shows = subst (λ (ms : List (Said Party)). ShowsEnds v node (turns gsmp (ends_of site up ms) (AtOther (Hears drawn)))) (sym came)
              (by_switch v node (with_queue_in site (Down node) cells) taken_by.notes.frames up later (said_in step.answer) (side_after (fresh gsmp.first drawn) step.answer step.side)
              (popped_down later comes) frames_down taken_by.switch there_down t.adjacency t.acts);
        }
    by_cell_down later (unheard last nobody) comes = still_down
        (λ payload message ends made read. other_than payload (λ greeting greets_one. nobody.unread greeting (ap decoded (one_payload nobody.payload payload (sym nobody.made ∙ made)) ∙ greets_one)) message read) comes
    by_cell_down later (early not_last) comes = still_down (λ payload message ends made read. absurd (true≢false (sym ends ∙ not_last))) comes

    pub cell_down : TakesTurns v node (ends_of site up down)
    cell_down = by_cell_down left_down.after left_down.taken left_down.comes

  -- *A cell comes over a link*, or goes out to one
  module _ (here : NodeId) (port : PortNo) (is : event ≡ Carry (Out here port)) (place : IsPlace topology (Out here port)) (cell : Cell) (cells : List Cell) (queue : queue_at w (Out here port) ≡ cell ∷ cells) where
    abbrev popped : World
    popped = with_queue (put_away w) (Out here port) cells

    -- no port of a link is port 0
    not_control : port.0 ≢ 0
    not_control = by (peer_of topology here port) refl place.1
      where
        by : (o : Option LinkEnd) → peer_of topology here port ≡ o → is_some o ≡ true → port.0 ≢ 0
        by None led linked = absurd (true≢false (sym linked))
        by (Some end) led linked = λ zero_is. (let own = (peer_back topology going.steady.topology_is (record { node = here; port = port }) end led).own.0 in absurd (omega (arith, own, zero_is)))

    -- the cell leaves this node, or another
    pops : site_at v node ≡ site_at popped node → TakesTurns v node (ends_of site up down)
    pops same = by_eq here.0 node.0
        (λ near t. no_turn v node (ends_of site up down) (shows_there v node (with_queue_in site (Out node port) cells) v.notes.frames up down
        (same ∙ (ap (λ (h : NodeId). site_at (with_queue (put_away w) (Out h port) cells) node) (sym (same_node here node near))
        ∙ (ap (λ (o : Option Site). site_at (with_queue_of (put_away w) (Out node port) cells o) node) found ∙ site_left (put_away w) (Out node port) node site cells found refl))) refl
        (shown_later w.notes.frames v.notes.frames (with_queue_in site (Out node port) cells) up down going.is_true.stays (out_left w.notes.frames site node up down [] s cells port not_control))))
        (λ far t. no_turn v node (ends_of site up down) (shows_there v node site v.notes.frames up down (same ∙ (sites.popped_elsewhere (put_away w) node (Out here port) cells far ∙ found)) refl
        (shown_to v.notes.frames refl)))

    -- it comes to this node
    module _ (end : LinkEnd) (led : peer_of topology here port ≡ Some end) (own_end : end.node.0 ≡ node.0) (from : Site) (from_found : site_at w here ≡ Some from) where
      peer : IsPeer topology (record { node = here; port = port }) end
      peer = peer_back topology going.steady.topology_is (record { node = here; port = port }) end led

      found_end : site_at w end.node ≡ Some site
      found_end = ap (λ (h : NodeId). site_at w h) (sym (same_node end.node node own_end)) ∙ found

      abbrev at_end : switches.ActedSwitch
      at_end = switch.cell_comes (switching w site) end.port cell

      frames_there : v.notes.frames ≡ at_end.notes.frames
      frames_there = ap (λ (e : Event). (next topology w e).notes.frames) is
          ∙ ap (λ (notes : Journal). notes.frames) (out_notes topology w here from from_found cell cells port end led peer.apart site found_end queue)

      there_end : site_at v node ≡ Some (there_now topology w here from from_found cell cells port end led peer.apart site found_end)
      there_end = ap (λ (e : Event). site_at (next topology w e) node) is
          ∙ (ap (λ (h : NodeId). site_at (next topology w (Carry (Out here port))) h) (same_node end.node node own_end) ∙ out_site topology w here from from_found cell cells port end led peer.apart site found_end queue)

      comes_there : TakesTurns v node (ends_of site up down)
      comes_there =
          let t = cells_down.passed_so (switching w site) cell apart end.port peer.port.0 in
          no_turn v node (ends_of site up down) (switch_still v node site at_end.notes.frames up down (shown_to at_end.notes.frames frames_there) frames_there at_end.switch there_end t.adjacency t.acts)

    by_from : (end : LinkEnd) → peer_of topology here port ≡ Some end → end.node.0 ≡ node.0 → (o : Option Site) → site_at w here ≡ o → TakesTurns v node (ends_of site up down)
    by_from end led own_end None none_there = absurd (none_waits (sym (ap (λ (o : Option Site). option_map_or (λ (x : Site). queue_in x (Out here port)) o []) none_there) ∙ queue))
      where
        none_waits : [] ≡ cell ∷ cells → ⊥
        none_waits e = cc e
    by_from end led own_end (Some from) from_found = comes_there end led own_end from from_found

    pub cell_out : TakesTurns v node (ends_of site up down)
    cell_out = by_end (peer_of topology here port) refl
      where
        carried : site_at v node ≡ site_at (carries_head topology (put_away w) (Out here port) (cell ∷ cells)) node
        carried = ap (λ (e : Event). site_at (next topology w e) node) is ∙ ap (λ (q : List Cell). site_at (carries_head topology (put_away w) (Out here port) q) node) queue

        by_end : (o : Option LinkEnd) → peer_of topology here port ≡ o → TakesTurns v node (ends_of site up down)
        by_end None led = pops (carried ∙ ap (λ (o : Option LinkEnd). site_at (arrives_at popped cell o) node) led)
        by_end (Some end) led = by_eq end.node.0 node.0
            (λ own_end t. by_from end led own_end (site_at w here) refl)
            (λ apart_end t. pops (carried ∙ (ap (λ (o : Option LinkEnd). site_at (arrives_at popped cell o) node) led
            ∙ sites.switch_elsewhere popped node end.node (λ x. switch.cell_comes x end.port cell) apart_end)))

  -- *A packet is sent* by the controller, or refused
  module _ (octets : List ℕ) (is : event ≡ Inject node octets) (peace : IsPeaceful topology w node event) where
    abbrev entered : World
    entered = record (put_away w) { sent = w.sent + 1 }

    abbrev sends : controllers.Acted → controllers.Acted
    sends x = injected x (w.sent + 1) octets

    told : {A : Type 0} (part : World → A) → ((u : World) → part (next topology w (Inject node octets)) ≡ part (injects (put_away w) node octets)) → (o : Option Refusal) → inject_refusal octets ≡ o
        → part (next topology w (Inject node octets)) ≡ part (injects_by entered node octets o)
    told part same o e = same w ∙ ap (λ (x : Option Refusal). part (injects_by entered node octets x)) e

    by_refusal : (o : Option Refusal) → inject_refusal octets ≡ o → ShowsEnds v node (ends_of site up down)
    by_refusal (Some name) e = shows_there v node site v.notes.frames up down
        (ap (λ (x : Event). site_at (next topology w x) node) is ∙ (told (λ (u : World). site_at u node) (λ u. refl) (Some name) e ∙ found)) refl (shown_to v.notes.frames refl)
    by_refusal None e =
        let x : controllers.Acted = sites.acting entered site in
        let there : site_at v node ≡ Some (record site { controller = (sends x).controller }) = ap (λ (y : Event). site_at (next topology w y) node) is
        ∙ (told (λ (u : World). site_at u node) (λ u. refl) None e ∙ sites.controller_here entered node site found sends (λ y. (injected_adds y (w.sent + 1) octets).node)) in
        let frames : v.notes.frames ≡ (sends x).notes.frames = ap (λ (y : Event). (next topology w y).notes.frames) is
        ∙ (told (λ (u : World). u.notes.frames) (λ u. refl) None e ∙ sites.controller_frames entered node site found sends (λ y. (injected_adds y (w.sent + 1) octets).node)) in
        let t = acts_controller.injects_none x (going.steady.links site found) (w.sent + 1) octets (omega arith) (peace.unspent (record site { controller = (sends x).controller }) there) in
        controller_still v node site (sends x).notes.frames up down (shown_to (sends x).notes.frames frames) frames (sends x).controller there t.adjacency t.acts

    pub inject_here : ShowsEnds v node (ends_of site up down)
    inject_here = by_refusal (inject_refusal octets) refl

-- *All events*
module _ (topology : Topology) (w : World) (node : NodeId) (ends : Ends Party) (shows : ShowsEnds w node ends) where
  abbrev site_now : Site
  site_now = shows.site

  abbrev shown_now : Shown w.notes.frames shows.site ends.one.comes ends.other.comes
  shown_now = shown_at w node ends shows

  as_shown : (v : World) → TakesTurns v node (ends_of shows.site ends.one.comes ends.other.comes) → TakesTurns v node ends
  as_shown v t = subst (λ (e : Ends Party). TakesTurns v node e) (sym (ends_are w node ends shows)) t

  still : (event : Event) → IsGoing topology w node event → site_at (next topology w event) node ≡ site_at w node → ShowsEnds (next topology w event) node ends
  still event going same = unchanged w (next topology w event) node ends shows going.is_true.stays same

  carried : (place : Place) → IsGoing topology w node (Carry place) → queue_at w place ≡ [] → TakesTurns (next topology w (Carry place)) node ends
  carried place going is = no_turn (next topology w (Carry place)) node ends (still (Carry place) going (ap (λ (q : List Cell). site_at (carries_head topology (put_away w) place q) node) is))

  -- *Others are carried to*
  down_away : (here : NodeId) (cell : Cell) (cells : List Cell) → here.0 ≢ node.0 → queue_at w (Down here) ≡ cell ∷ cells → site_at (next topology w (Carry (Down here))) node ≡ site_at w node
  down_away here cell cells far is = ap (λ (q : List Cell). site_at (carries_head topology (put_away w) (Down here) q) node) is
      ∙ (sites.switch_elsewhere (with_queue (put_away w) (Down here) cells) node here (λ b. switch.cell_comes b control_port cell) far
      ∙ sites.popped_elsewhere (put_away w) node (Down here) cells far)

  up_away : (here : NodeId) (cell : Cell) (cells : List Cell) → here.0 ≢ node.0 → queue_at w (Up here) ≡ cell ∷ cells → site_at (next topology w (Carry (Up here))) node ≡ site_at w node
  up_away here cell cells far is = ap (λ (q : List Cell). site_at (carries_head topology (put_away w) (Up here) q) node) is
      ∙ (sites.controller_elsewhere (with_queue (put_away w) (Up here) cells) node here (λ b. controller.cell_comes b cell) (λ b. (cell_adds b cell).node) far
      ∙ sites.popped_elsewhere (put_away w) node (Up here) cells far)

  goes_down : (here : NodeId) → IsGoing topology w node (Carry (Down here)) → IsPeaceful topology w node (Carry (Down here)) → TakesTurns (next topology w (Carry (Down here))) node ends
  goes_down here going peace = by (queue_at w (Down here)) refl
    where
      by : (q : List Cell) → queue_at w (Down here) ≡ q → TakesTurns (next topology w (Carry (Down here))) node ends
      by [] is = carried (Down here) going is
      by (cell ∷ cells) is = by_eq here.0 node.0
          (λ same t. subst (λ (h : NodeId). IsGoing topology w node (Carry (Down h)) → IsPeaceful topology w node (Carry (Down h)) → queue_at w (Down h) ≡ cell ∷ cells → TakesTurns (next topology w (Carry (Down h))) node ends)
          (same_node here node same)
          (λ here_going here_peace here_is. as_shown (next topology w (Carry (Down node))) (cell_down topology w node (Carry (Down node)) here_going shows.site shows.found ends.one.comes ends.other.comes shown_now refl here_peace cell cells here_is))
          going peace is)
          (λ far t. no_turn (next topology w (Carry (Down here))) node ends (still (Carry (Down here)) going (down_away here cell cells far is)))

  goes_up : (here : NodeId) → IsGoing topology w node (Carry (Up here)) → IsPeaceful topology w node (Carry (Up here)) → TakesTurns (next topology w (Carry (Up here))) node ends
  goes_up here going peace = by (queue_at w (Up here)) refl
    where
      by : (q : List Cell) → queue_at w (Up here) ≡ q → TakesTurns (next topology w (Carry (Up here))) node ends
      by [] is = carried (Up here) going is
      by (cell ∷ cells) is = by_eq here.0 node.0
          (λ same t. subst (λ (h : NodeId). IsGoing topology w node (Carry (Up h)) → IsPeaceful topology w node (Carry (Up h)) → queue_at w (Up h) ≡ cell ∷ cells → TakesTurns (next topology w (Carry (Up h))) node ends)
          (same_node here node same)
          (λ here_going here_peace here_is. as_shown (next topology w (Carry (Up node))) (cell_up topology w node (Carry (Up node)) here_going shows.site shows.found ends.one.comes ends.other.comes shown_now refl here_peace cell cells here_is))
          going peace is)
          (λ far t. no_turn (next topology w (Carry (Up here))) node ends (still (Carry (Up here)) going (up_away here cell cells far is)))

  goes_out : (here : NodeId) (port : PortNo) → IsGoing topology w node (Carry (Out here port)) → IsPeaceful topology w node (Carry (Out here port)) → TakesTurns (next topology w (Carry (Out here port))) node ends
  goes_out here port going peace = by (queue_at w (Out here port)) refl
    where
      by : (q : List Cell) → queue_at w (Out here port) ≡ q → TakesTurns (next topology w (Carry (Out here port))) node ends
      by [] is = carried (Out here port) going is
      by (cell ∷ cells) is = as_shown (next topology w (Carry (Out here port)))
          (cell_out topology w node (Carry (Out here port)) going shows.site shows.found ends.one.comes ends.other.comes shown_now here port refl peace.unlost cell cells is)

  pub goes : (place : Place) → IsGoing topology w node (Carry place) → IsPeaceful topology w node (Carry place) → TakesTurns (next topology w (Carry place)) node ends
  goes (Down here) going peace = goes_down here going peace
  goes (Up here) going peace = goes_up here going peace
  goes (Out here port) going peace = goes_out here port going peace

  -- *Packets*
  pub packet_sent : (here : NodeId) (octets : List ℕ) → IsGoing topology w node (Inject here octets) → IsPeaceful topology w node (Inject here octets) → ShowsEnds (next topology w (Inject here octets)) node ends
  packet_sent here octets going peace = by_eq here.0 node.0
      (λ same t. subst (λ (h : NodeId). IsGoing topology w node (Inject h octets) → IsPeaceful topology w node (Inject h octets) → ShowsEnds (next topology w (Inject h octets)) node ends) (same_node here node same)
      (λ here_going here_peace. subst (λ (e : Ends Party). ShowsEnds (next topology w (Inject node octets)) node e) (sym (ends_are w node ends shows))
      (inject_here topology w node (Inject node octets) here_going shows.site shows.found ends.one.comes ends.other.comes shown_now octets refl here_peace)) going peace)
      (λ far t. still (Inject here octets) going (away far (inject_refusal octets)))
    where
      away : here.0 ≢ node.0 → (o : Option Refusal) → site_at (injects_by (record (put_away w) { sent = w.sent + 1 }) here octets o) node ≡ site_at w node
      away far (Some name) = refl
      away far None = sites.controller_elsewhere (record (put_away w) { sent = w.sent + 1 }) node here (λ x. injected x (w.sent + 1) octets) (λ x. (injected_adds x (w.sent + 1) octets).node) far

  -- *Ticks*
  pub ticked_here : (here : NodeId) → here.0 ≡ node.0 → IsGoing topology w node (Tick here) → IsPeaceful topology w node (Tick here) → ShowsTick (next topology w (Tick here)) node ends
  ticked_here here same = subst (λ (h : NodeId). IsGoing topology w node (Tick h) → IsPeaceful topology w node (Tick h) → ShowsTick (next topology w (Tick h)) node ends) (same_node here node same)
      (λ going peace. subst (λ (e : Ends Party). ShowsTick (next topology w (Tick node)) node e) (sym (ends_are w node ends shows))
      (tick_here topology w node (Tick node) going shows.site shows.found ends.one.comes ends.other.comes shown_now refl (peace.unlost refl) peace))

  pub switch_ticked_here : (here : NodeId) → here.0 ≡ node.0 → IsGoing topology w node (TickSwitch here) → IsPeaceful topology w node (TickSwitch here) → ShowsSwitchTick (next topology w (TickSwitch here)) node ends
  switch_ticked_here here same = subst (λ (h : NodeId). IsGoing topology w node (TickSwitch h) → IsPeaceful topology w node (TickSwitch h) → ShowsSwitchTick (next topology w (TickSwitch h)) node ends) (same_node here node same)
      (λ going peace. subst (λ (e : Ends Party). ShowsSwitchTick (next topology w (TickSwitch node)) node e) (sym (ends_are w node ends shows))
      (switch_tick_here topology w node (TickSwitch node) going shows.site shows.found ends.one.comes ends.other.comes shown_now refl (peace.unlost refl)))

  pub ticked_away : (here : NodeId) → here.0 ≢ node.0 → IsGoing topology w node (Tick here) → ShowsEnds (next topology w (Tick here)) node ends
  ticked_away here far going = still (Tick here) going (sites.controller_elsewhere (put_away w) node here controller_ticks (λ b. (ticks_adds b).node) far)

  pub switch_ticked_away : (here : NodeId) → here.0 ≢ node.0 → IsGoing topology w node (TickSwitch here) → ShowsEnds (next topology w (TickSwitch here)) node ends
  switch_ticked_away here far going = still (TickSwitch here) going (sites.switch_elsewhere (put_away w) node here tick_comes far)

pub carries_are_turns : CarriesAreTurns
carries_are_turns topology w node place ends going peace shows = goes topology w node ends shows place going peace

pub packets_are_none : PacketsAreNone
packets_are_none topology w node here octets ends going peace shows = packet_sent topology w node ends shows here octets going peace

pub ticks_are_turns : TicksAreTurns
ticks_are_turns = record {
  controller = λ topology w node here ends same going peace shows. ticked_here topology w node ends shows here same going peace;
  switch = λ topology w node here ends same going peace shows. switch_ticked_here topology w node ends shows here same going peace;
  another = λ topology w node here ends far going shows. ticked_away topology w node ends shows here far going;
  another_switch = λ topology w node here ends far going shows. switch_ticked_away topology w node ends shows here far going;
}
