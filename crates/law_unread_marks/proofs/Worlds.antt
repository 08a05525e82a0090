-- each event makes of networks that differ in marks and notes alone such networks

use Rattle.std.proofs.Common.{◌≡◌, ℕ, ◌+◌, List, [], ◌∷◌, drop, map, slice_set, slice_index_or, Option, None, Some, refl, sym, ◌∙◌, ap}
use Rattle.std.specs.Option.{option_map, option_map_or, unwrap_or}
use Rattle.world_model.specs.Words.{NodeId, PortNo, Place, Down, Up, Out, Channel, Mark, next_control, with_control, Cell, Record, Refused, Loss, Forged, Lost, Refusal, at, put, Crossbar, control_port, inject_refusal, injected, node_restarts, change_comes, Topology, World, Site, site_key, site_at, controller_acts, switch_acts, place_node, queue_in, queue_at, with_port_queue, with_queue_in, with_queue_of, with_queue, injects, injects_by, arrives_at, arrives, carries_head, loses_head, forges_at, put_away, next}
use Rattle.world_model.specs.Switch as switches
use Rattle.world_model.specs.Conduct as switch
use Rattle.world_model.specs.Controller as controllers
use Rattle.world_model.specs.Sending.{sends}
use Rattle.world_model.specs.Cells as controller
use Rattle.world_model.specs.Ticks.{ticks}
use Rattle.world_model.specs.network_model.declared.event.Event.{Event}
use Rattle.world_model.specs.network_model.declared.event.Event.TheVariants.{Inject, Carry, Lose, Tick, TickSwitch, Restart, RestartSwitch, Forge, Route}
use Rattle.world_model.specs.network_model.declared.link.LinkEnd.{LinkEnd}
use Rattle.world_model.specs.Topology.{peer_of}
use Rattle.world_model.specs.World.{at_controller, at_switch}
use Rattle.world_model.specs.Step.{note, acts}
use Rattle.law_unmarked_controllers.specs.Unmarked.{no_notes, unmarked_record, unmarked_cell, unmarked_cells, unmarked_crossbar, unmarked_site, unmarked, shown}
use Rattle.law_unread_marks.specs.Law.{AreAlike, EventsReadNoMark, EventsTellNoMark, RunsReadNoMark, MarksMayBeTaken}
use Rattle.law_unmarked_controllers.proofs.Lists.{map_then, at_same, put_same, set_same}
use Rattle.law_unmarked_controllers.proofs.Notes.{noted_same}
use Rattle.law_unmarked_controllers.specs.Unmarked as u
use Rattle.law_unmarked_controllers.proofs.Controllers as c
use Rattle.law_unmarked_controllers.proofs.Controllers.{controller_twice}
use Rattle.law_unmarked_controllers.proofs.Rules as rules
use Rattle.law_unmarked_controllers.proofs.Meeting.{ticks_blind, change_comes_blind}
use Rattle.law_unmarked_controllers.proofs.Frames as frames
use Rattle.law_unmarked_controllers.proofs.Frames.{injected_same}
use Rattle.law_unread_marks.proofs.Switches as s
use Rattle.law_unread_marks.proofs.Switches.{switch_twice, queue_same}
use Rattle.law_unread_marks.proofs.Switches.{cell_same as switch_cell_same}

-- *Taken twice*
world_twice : (w : World) → AreAlike w (unmarked w)
world_twice w = λ i. record (unmarked w) {
  sites = sym (map_then unmarked_site unmarked_site unmarked_site (λ site. (λ j. record { controller = controller_twice site.controller j; switch = switch_twice site.switch j })) w.sites) i;
}

-- *Two networks agree* that differ in marks and in the ledger alone: their actors also recorded the same
abbrev whole : World → World
whole w = record (unmarked w) { notes = shown w.notes }

abbrev Agree : World → World → Type 0
Agree w v = whole w ≡ whole v

-- *Two queues* of the same cells, under whichever marks
head_same : (x y : Cell) (xs ys : List Cell) → unmarked_cells (x ∷ xs) ≡ unmarked_cells (y ∷ ys) → unmarked_cell x ≡ unmarked_cell y
head_same x y xs ys same = ap (λ (cells : List Cell). slice_index_or cells 0 (unmarked_cell x)) same

rest_same : (x y : Cell) (xs ys : List Cell) → unmarked_cells (x ∷ xs) ≡ unmarked_cells (y ∷ ys) → unmarked_cells xs ≡ unmarked_cells ys
rest_same x y xs ys same = ap (drop 1) same

-- *Two nodes* alike
found_alike : (one other : Site) → Some (unmarked_site one) ≡ Some (unmarked_site other) → unmarked_site one ≡ unmarked_site other
found_alike one other e = ap (λ (o : Option Site). unwrap_or o (unmarked_site one)) e

queue_in_same : (site : Site) (place : Place) → queue_in (unmarked_site site) place ≡ unmarked_cells (queue_in site place)
queue_in_same site (Down node) = refl
queue_in_same site (Up node) = queue_same site.switch.crossbar control_port
queue_in_same site (Out node port) = queue_same site.switch.crossbar port

port_queue_same : (x y : Crossbar) → unmarked_crossbar x ≡ unmarked_crossbar y → (port : PortNo) (xs ys : List Cell) → unmarked_cells xs ≡ unmarked_cells ys
    → unmarked_crossbar (with_port_queue x port xs) ≡ unmarked_crossbar (with_port_queue y port ys)
port_queue_same x y e port xs ys same = λ i. record (e i) {
  queues = (sym (set_same unmarked_cells x.queues port.0 xs) ∙ (λ j. slice_set (e j).queues port.0 (same j)) ∙ set_same unmarked_cells y.queues port.0 ys) i;
}

with_queue_same : (one other : Site) → unmarked_site one ≡ unmarked_site other → (place : Place) (xs ys : List Cell) → unmarked_cells xs ≡ unmarked_cells ys
    → unmarked_site (with_queue_in one place xs) ≡ unmarked_site (with_queue_in other place ys)
with_queue_same one other e (Down node) xs ys same = λ i. record (e i) { controller = record (e i).controller { queue = same i } }
with_queue_same one other e (Up node) xs ys same = λ i. record (e i) { switch = record (e i).switch { crossbar = port_queue_same one.switch.crossbar other.switch.crossbar (λ j. (e j).switch.crossbar) control_port xs ys same i } }
with_queue_same one other e (Out node port) xs ys same = λ i. record (e i) { switch = record (e i).switch { crossbar = port_queue_same one.switch.crossbar other.switch.crossbar (λ j. (e j).switch.crossbar) port xs ys same i } }

-- *In two networks alike*
module _ (w v : World) (e : Agree w v) where
  site_alike : (node : NodeId) → option_map unmarked_site (site_at w node) ≡ option_map unmarked_site (site_at v node)
  site_alike node = sym (at_same site_key unmarked_site (λ site. refl) node.0 w.sites) ∙ (λ i. at site_key node.0 (e i).sites) ∙ at_same site_key unmarked_site (λ site. refl) node.0 v.sites

  sites_alike : (one other : Site) → unmarked_site one ≡ unmarked_site other → map unmarked_site (put site_key one w.sites) ≡ map unmarked_site (put site_key other v.sites)
  sites_alike one other same = sym (put_same site_key unmarked_site (λ site. refl) one w.sites) ∙ (λ i. put site_key (same i) (e i).sites) ∙ put_same site_key unmarked_site (λ site. refl) other v.sites

  queue_alike : (place : Place) → unmarked_cells (queue_at w place) ≡ unmarked_cells (queue_at v place)
  queue_alike place = sym (of (site_at w (place_node place))) ∙ ap (λ (o : Option Site). option_map_or (λ site. queue_in site place) o []) (site_alike (place_node place)) ∙ of (site_at v (place_node place))
    where
      of : (o : Option Site) → option_map_or (λ site. queue_in site place) (option_map unmarked_site o) [] ≡ unmarked_cells (option_map_or (λ site. queue_in site place) o [])
      of None = refl
      of (Some site) = queue_in_same site place

  left_alike : (place : Place) (xs ys : List Cell) → unmarked_cells xs ≡ unmarked_cells ys → Agree (with_queue w place xs) (with_queue v place ys)
  left_alike place xs ys same = by (site_at w (place_node place)) (site_at v (place_node place)) (site_alike (place_node place))
    where
      by : (o p : Option Site) → option_map unmarked_site o ≡ option_map unmarked_site p → Agree (with_queue_of w place xs o) (with_queue_of v place ys p)
      by None None f = e
      by None (Some other) f = absurd (cc f)
      by (Some one) None f = absurd (cc f)
      by (Some one) (Some other) f = λ i. record (e i) {
        sites = sites_alike (with_queue_in one place xs) (with_queue_in other place ys) (with_queue_same one other (found_alike one other f) place xs ys same) i;
      }

  -- *An actor acts*
  controller_alike : (node : NodeId) (act other_act : controllers.Acted → controllers.Acted) → ((a b : controllers.Acted) → u.bare a ≡ u.bare b → u.bare (act a) ≡ u.bare (other_act b))
      → Agree (at_controller w node act) (at_controller v node other_act)
  controller_alike node act other_act blind = by (site_at w node) (site_at v node) (site_alike node)
    where
      by : (o p : Option Site) → option_map unmarked_site o ≡ option_map unmarked_site p → Agree (controller_acts w o act) (controller_acts v p other_act)
      by None None f = e
      by None (Some other) f = absurd (cc f)
      by (Some one) None f = absurd (cc f)
      by (Some one) (Some other) f =
          let same : unmarked_site one ≡ unmarked_site other = found_alike one other f in
          let a : controllers.Acted = record { controller = one.controller; notes = w.notes; numbers = w.numbers } in
          let b : controllers.Acted = record { controller = other.controller; notes = v.notes; numbers = v.numbers } in
          let q : u.bare (act a) ≡ u.bare (other_act b) = blind a b (λ i. record { controller = (same i).controller; notes = (e i).notes; numbers = (e i).numbers }) in
          λ i. record (e i) {
            sites = sites_alike (record one { controller = (act a).controller }) (record other { controller = (other_act b).controller }) (λ j. record (same j) { controller = (q j).controller }) i;
            notes = (q i).notes;
            numbers = (q i).numbers;
          }

  switch_alike : (node : NodeId) (act other_act : switches.ActedSwitch → switches.ActedSwitch) → ((a b : switches.ActedSwitch) → s.bare a ≡ s.bare b → s.bare (act a) ≡ s.bare (other_act b))
      → Agree (at_switch w node act) (at_switch v node other_act)
  switch_alike node act other_act blind = by (site_at w node) (site_at v node) (site_alike node)
    where
      by : (o p : Option Site) → option_map unmarked_site o ≡ option_map unmarked_site p → Agree (switch_acts w o act) (switch_acts v p other_act)
      by None None f = e
      by None (Some other) f = absurd (cc f)
      by (Some one) None f = absurd (cc f)
      by (Some one) (Some other) f =
          let same : unmarked_site one ≡ unmarked_site other = found_alike one other f in
          let a : switches.ActedSwitch = record { switch = one.switch; notes = w.notes; numbers = w.numbers } in
          let b : switches.ActedSwitch = record { switch = other.switch; notes = v.notes; numbers = v.numbers } in
          let q : s.bare (act a) ≡ s.bare (other_act b) = blind a b (λ i. record { switch = (same i).switch; notes = (e i).notes; numbers = (e i).numbers }) in
          λ i. record (e i) {
            sites = sites_alike (record one { switch = (act a).switch }) (record other { switch = (other_act b).switch }) (λ j. record (same j) { switch = (q j).switch }) i;
            notes = (q i).notes;
            numbers = (q i).numbers;
          }

-- *A record*
noted_agree : (w v : World) → Agree w v → (item other : Record) → unmarked_record item ≡ unmarked_record other → Agree (note w item) (note v other)
noted_agree w v e item other same = λ i. record (e i) { notes = noted_same w.notes v.notes (λ j. (e j).notes) item other same i }

-- *An event*
module _ (t : Topology) where
  injects_alike : (w v : World) → Agree w v → (node : NodeId) (octets : List ℕ) → Agree (injects w node octets) (injects v node octets)
  injects_alike w v e node octets = by (inject_refusal octets)
    where
      by : (o : Option Refusal) → Agree (injects_by (record w { sent = w.sent + 1 }) node octets o) (injects_by (record v { sent = v.sent + 1 }) node octets o)
      by (Some name) = noted_agree (record w { sent = w.sent + 1 }) (record v { sent = v.sent + 1 }) e (Refused node (w.sent + 1) name) (Refused node (v.sent + 1) name) refl
      by None = controller_alike (record w { sent = w.sent + 1 }) (record v { sent = v.sent + 1 }) e node (λ a. injected a (w.sent + 1) octets) (λ a. injected a (v.sent + 1) octets)
          (λ a b f. injected_same a b f (w.sent + 1) (v.sent + 1) octets)

  arrives_alike : (w v : World) → Agree w v → (place : Place) (x y : Cell) → unmarked_cell x ≡ unmarked_cell y → Agree (arrives t w place x) (arrives t v place y)
  arrives_alike w v e (Down node) x y same = switch_alike w v e node (λ a. switch.cell_comes a control_port x) (λ a. switch.cell_comes a control_port y) (λ a b f. switch_cell_same a b f control_port x y same)
  arrives_alike w v e (Up node) x y same = controller_alike w v e node (λ a. controller.cell_comes a x) (λ a. controller.cell_comes a y) (λ a b f. frames.cell_same a b f x y same)
  arrives_alike w v e (Out node port) x y same = by (peer_of t node port)
    where
      by : (o : Option LinkEnd) → Agree (arrives_at w x o) (arrives_at v y o)
      by None = e
      by (Some far) = switch_alike w v e far.node (λ a. switch.cell_comes a far.port x) (λ a. switch.cell_comes a far.port y) (λ a b f. switch_cell_same a b f far.port x y same)

  carries_alike : (w v : World) → Agree w v → (place : Place) (xs ys : List Cell) → unmarked_cells xs ≡ unmarked_cells ys → Agree (carries_head t w place xs) (carries_head t v place ys)
  carries_alike w v e place [] [] same = e
  carries_alike w v e place [] (y ∷ ys) same = absurd (cc same)
  carries_alike w v e place (x ∷ xs) [] same = absurd (cc same)
  carries_alike w v e place (x ∷ xs) (y ∷ ys) same =
      arrives_alike (with_queue w place xs) (with_queue v place ys) (left_alike w v e place xs ys (rest_same x y xs ys same)) place x y (head_same x y xs ys same)

  loses_alike : (w v : World) → Agree w v → (place : Place) (xs ys : List Cell) → unmarked_cells xs ≡ unmarked_cells ys → Agree (loses_head w place xs) (loses_head v place ys)
  loses_alike w v e place [] [] same = e
  loses_alike w v e place [] (y ∷ ys) same = absurd (cc same)
  loses_alike w v e place (x ∷ xs) [] same = absurd (cc same)
  loses_alike w v e place (x ∷ xs) (y ∷ ys) same =
      noted_agree (with_queue w place xs) (with_queue v place ys) (left_alike w v e place xs ys (rest_same x y xs ys same)) (Loss x.mark Lost) (Loss y.mark Lost) refl

  forges_alike : (w v : World) → Agree w v → (place : Place) (channel : Channel) (mark other : Mark) (payload : List ℕ) → Agree (forges_at w place channel mark payload) (forges_at v place channel other payload)
  forges_alike w v e (Down node) channel mark other payload = controller_alike w v e node (λ a. sends a channel mark payload) (λ a. sends a channel other payload) (λ a b f. c.sends_same a b f channel mark other payload)
  forges_alike w v e (Up node) channel mark other payload =
      switch_alike w v e node (λ a. switch.forged a control_port channel mark payload) (λ a. switch.forged a control_port channel other payload) (λ a b f. s.sends_same a b f control_port channel mark other payload)
  forges_alike w v e (Out node port) channel mark other payload =
      switch_alike w v e node (λ a. switch.forged a port channel mark payload) (λ a. switch.forged a port channel other payload) (λ a b f. s.sends_same a b f port channel mark other payload)

  acts_alike : (w v : World) → Agree w v → (event : Event) → Agree (acts t w event) (acts t v event)
  acts_alike w v e (Inject node octets) = injects_alike w v e node octets
  acts_alike w v e (Carry place) = carries_alike w v e place (queue_at w place) (queue_at v place) (queue_alike w v e place)
  acts_alike w v e (Lose place) = loses_alike w v e place (queue_at w place) (queue_at v place) (queue_alike w v e place)
  acts_alike w v e (Tick node) = controller_alike w v e node ticks ticks (rules.behind ticks ticks_blind)
  acts_alike w v e (TickSwitch node) = switch_alike w v e node switch.tick_comes switch.tick_comes (s.behind switch.tick_comes s.tick_blind)
  acts_alike w v e (Restart node) = controller_alike w v e node node_restarts node_restarts (rules.behind node_restarts rules.node_restarts_blind)
  acts_alike w v e (RestartSwitch node) = switch_alike w v e node switch.restarted switch.restarted (s.behind switch.restarted s.restart_blind)
  acts_alike w v e (Forge place channel payload) =
      forges_alike (record (note w (Forged place)) { numbers = with_control w.numbers }) (record (note v (Forged place)) { numbers = with_control v.numbers })
      (noted_agree (record w { numbers = with_control w.numbers }) (record v { numbers = with_control v.numbers }) e (Forged place) (Forged place) refl)
      place channel (next_control w.numbers) (next_control v.numbers) payload
  acts_alike w v e (Route node change) = controller_alike w v e node (λ a. change_comes a change) (λ a. change_comes a change) (rules.behind (λ a. change_comes a change) (change_comes_blind change))

-- *The law*
next_agree : (topology : Topology) (w v : World) (event : Event) → AreAlike w v → Agree (acts topology (put_away w) event) (acts topology (put_away v) event)
next_agree topology w v event e = acts_alike topology (put_away w) (put_away v) e event

pub events_alike : EventsReadNoMark
events_alike topology w v event e = λ i. record (next_agree topology w v event e i) { notes = no_notes; events = (e i).events + 1 }

pub events_told : EventsTellNoMark
events_told topology w v event e = λ i. (next_agree topology w v event e i).notes.records

pub runs_alike : RunsReadNoMark
runs_alike topology w v [] e = e
runs_alike topology w v (event ∷ events) e = runs_alike topology (next topology w event) (next topology v event) events (events_alike topology w v event e)

pub marks_taken : MarksMayBeTaken
marks_taken topology w event = events_alike topology w (unmarked w) event (world_twice w)
