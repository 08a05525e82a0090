-- what stands at the desk of a node stays where its controller doesn't act, and where a packet enters there

use Rattle.std.proofs.Common.{◌≡◌, ◌≢◌, ℕ, ◌+◌, List, [], ◌∷◌, length, Option, None, Some, refl, sym, ◌∙◌, ap, subst}
use Rattle.std.specs.Prelude.{nat_le}
use Rattle.std.specs.Option.{option_map, option_map_or}
use Rattle.world_model.specs.Words.{NodeId, Place, Down, Up, Out, Channel, Mark, Cell, Hop, Here, On, hop_of, onward, Grant, Loss, PoolFull, noted, made, frame_cells, next_mark, next_control, with_control, Refusal, inject_refusal, injected, tick_comes, Standing, Desk, at, put, control_port, Controller, sends_control, is_control, sends_next, goes_by, grant_by, Topology, World, Site, site_key, site_at, standing_at, place_node, with_queue, with_queue_in, with_queue_of, controller_acts, switch_acts, arrives_at, carries_head, injects_by, put_away, queue_at, next}
use Rattle.world_model.specs.ipv4_forward.declared.outcome.Hop.TheVariants.{NoRoute, Expired}
use Rattle.world_model.specs.frame_model.Sending.{Sender}
use Rattle.world_model.specs.Switch as switches
use Rattle.world_model.specs.Conduct as switch
use Rattle.world_model.specs.Controller.{Acted, free_slots}
use Rattle.world_model.specs.Cells as controller
use Rattle.world_model.specs.Sending.{with_cells, sends}
use Rattle.world_model.specs.Packets.{forwarded}
use Rattle.world_model.specs.Ticks.{ticks}
use Rattle.world_model.specs.World.{at_controller, at_switch}
use Rattle.world_model.specs.Topology.{peer_of}
use Rattle.world_model.specs.network_model.declared.link.LinkEnd.{LinkEnd}
use Rattle.world_model.specs.network_model.declared.event.Event.TheVariants.{Inject, Carry, Tick, TickSwitch}
use Rattle.world_model.proofs.Lists.{by_eq, at_key, at_put_same, at_put_other}
use Rattle.law_port_facts.proofs.Keyed.{on_both}
use Rattle.law_passing.proofs.Controllers.{cell_adds, injected_adds, ticks_adds}

-- *What stands* at the node of a number
abbrev pub stands_in : Option Site → List Standing
stands_in o = option_map_or (λ (c : Controller). c.desk.standing) (option_map (λ (s : Site). s.controller) o) []

abbrev stands : List Site → ℕ → List Standing
stands sites k = stands_in (at site_key k sites)

-- a site is put in the place of one at whose desk the same stands
put_stands : (sites : List Site) (old new : Site) (k : ℕ) → at site_key (site_key new) sites ≡ Some old → new.controller.desk.standing ≡ old.controller.desk.standing
    → stands (put site_key new sites) k ≡ stands sites k
put_stands sites old new k found same = by_eq (site_key new) k
    (λ own t. subst (λ (j : ℕ). stands (put site_key new sites) j ≡ stands sites j) own (ap stands_in (at_put_same site_key new sites old found) ∙ (same ∙ sym (ap stands_in found))))
    (λ apart t. ap stands_in (at_put_other site_key new k sites apart))

module _ (w : World) (node : NodeId) where
  keyed : (here : NodeId) (old new : Site) → site_at w here ≡ Some old → site_key new ≡ site_key old → at site_key (site_key new) w.sites ≡ Some old
  keyed here old new found same = subst (λ (j : ℕ). at site_key j w.sites ≡ Some old) (sym (same ∙ at_key site_key here.0 w.sites old found)) found

  -- *A queue* is set
  key_stays : (place : Place) (cells : List Cell) (site : Site) → site_key (with_queue_in site place cells) ≡ site_key site
  key_stays (Down here) cells site = refl
  key_stays (Up here) cells site = refl
  key_stays (Out here port) cells site = refl

  desk_stays : (place : Place) (cells : List Cell) (site : Site) → (with_queue_in site place cells).controller.desk.standing ≡ site.controller.desk.standing
  desk_stays (Down here) cells site = refl
  desk_stays (Up here) cells site = refl
  desk_stays (Out here port) cells site = refl

  pub queue_stands : (place : Place) (cells : List Cell) → standing_at (with_queue w place cells) node ≡ standing_at w node
  queue_stands place cells = by (site_at w (place_node place)) refl
    where
      by : (o : Option Site) → site_at w (place_node place) ≡ o → standing_at (with_queue_of w place cells o) node ≡ standing_at w node
      by None found = refl
      by (Some site) found = put_stands w.sites site (with_queue_in site place cells) node.0
          (keyed (place_node place) site (with_queue_in site place cells) found (key_stays place cells site)) (desk_stays place cells site)

  -- *A switch acts*
  pub switch_stands : (here : NodeId) (act : switches.ActedSwitch → switches.ActedSwitch) → standing_at (at_switch w here act) node ≡ standing_at w node
  switch_stands here act = by (site_at w here) refl
    where
      by : (o : Option Site) → site_at w here ≡ o → standing_at (switch_acts w o act) node ≡ standing_at w node
      by None found = refl
      by (Some site) found =
          let new : Site = record site { switch = (act (record { switch = site.switch; notes = w.notes; numbers = w.numbers })).switch } in
          put_stands w.sites site new node.0 (keyed here site new found refl) refl

  -- *A controller acts*, of another node, or leaving what stands
  module _ (here : NodeId) (act : Acted → Acted) (same : (a : Acted) → (act a).controller.node ≡ a.controller.node) where
    abbrev new : Site → Site
    new site = record site { controller = (act (record { controller = site.controller; notes = w.notes; numbers = w.numbers })).controller }

    new_key : (site : Site) → site_key (new site) ≡ site_key site
    new_key site = ap (λ (n : NodeId). n.0) (same (record { controller = site.controller; notes = w.notes; numbers = w.numbers }))

    pub controller_away : here.0 ≢ node.0 → standing_at (at_controller w here act) node ≡ standing_at w node
    controller_away apart = by (site_at w here) refl
      where
        by : (o : Option Site) → site_at w here ≡ o → standing_at (controller_acts w o act) node ≡ standing_at w node
        by None found = refl
        by (Some site) found = ap stands_in (at_put_other site_key (new site) node.0 w.sites (λ e. apart (sym (new_key site ∙ at_key site_key here.0 w.sites site found) ∙ e)))

    pub controller_stands : ((a : Acted) → (act a).controller.desk ≡ a.controller.desk) → standing_at (at_controller w here act) node ≡ standing_at w node
    controller_stands stays = by (site_at w here) refl
      where
        by : (o : Option Site) → site_at w here ≡ o → standing_at (controller_acts w o act) node ≡ standing_at w node
        by None found = refl
        by (Some site) found = put_stands w.sites site (new site) node.0 (keyed here site (new site) found (new_key site))
            (ap (λ (d : Desk). d.standing) (stays (record { controller = site.controller; notes = w.notes; numbers = w.numbers })))

-- *A packet is sent on*, and the desk is as it was
abbrev pub SameDesk : Acted → Acted → Type 0
SameDesk a b = b.controller.desk ≡ a.controller.desk

pub sends_desk : (a : Acted) (channel : Channel) (mark : Mark) (payload : List ℕ) → SameDesk a (sends a channel mark payload)
sends_desk a channel mark payload = on_both (λ (s : Sender Controller). s.queues.desk ≡ a.controller.desk) (nat_le (length (frame_cells channel mark payload)) (free_slots a.controller))
    (record { queues = with_cells a.controller (frame_cells channel mark payload); notes = made a.notes mark payload })
    (record { queues = a.controller; notes = noted (made a.notes mark payload) (Loss mark PoolFull) }) refl refl

next_desk : (a : Acted) (came : Mark) (channel : Channel) (payload : List ℕ) → SameDesk a (sends_next a came channel payload)
next_desk a came channel payload = on_both (SameDesk a) (is_control came) (sends_control a channel payload) (sends a channel (next_mark came) payload)
    (sends_desk (record a { numbers = with_control a.numbers }) channel (next_control a.numbers) payload) (sends_desk a channel (next_mark came) payload)

goes_desk : (a : Acted) (came : Mark) (packet : List ℕ) (hop : Hop) → SameDesk a (forwarded a came packet hop)
goes_desk a came packet Here = refl
goes_desk a came packet NoRoute = refl
goes_desk a came packet Expired = refl
goes_desk a came packet (On port) = by (grant_by a.controller port (onward packet))
  where
    by : (o : Option Grant) → SameDesk a (goes_by a came port (onward packet) o)
    by None = next_desk a came _ _
    by (Some grant) = next_desk a came _ _

-- *Each event* that is none of its controller
module _ (topology : Topology) (w : World) (node : NodeId) where
  abbrev u : World
  u = put_away w

  pub down_stands : (here : NodeId) → standing_at (next topology w (Carry (Down here))) node ≡ standing_at w node
  down_stands here = by (queue_at w (Down here))
    where
      by : (q : List Cell) → standing_at (carries_head topology u (Down here) q) node ≡ standing_at w node
      by [] = refl
      by (cell ∷ cells) = switch_stands (with_queue u (Down here) cells) node here (λ a. switch.cell_comes a control_port cell) ∙ queue_stands u node (Down here) cells

  pub out_stands : (here : NodeId) (port : _) → standing_at (next topology w (Carry (Out here port))) node ≡ standing_at w node
  out_stands here port = by (queue_at w (Out here port))
    where
      over : (v : World) (cell : Cell) (o : Option LinkEnd) → standing_at (arrives_at v cell o) node ≡ standing_at v node
      over v cell None = refl
      over v cell (Some end) = switch_stands v node end.node (λ a. switch.cell_comes a end.port cell)

      by : (q : List Cell) → standing_at (carries_head topology u (Out here port) q) node ≡ standing_at w node
      by [] = refl
      by (cell ∷ cells) = over (with_queue u (Out here port) cells) cell (peer_of topology here port) ∙ queue_stands u node (Out here port) cells

  pub up_stands : (here : NodeId) → here.0 ≢ node.0 → standing_at (next topology w (Carry (Up here))) node ≡ standing_at w node
  up_stands here apart = by (queue_at w (Up here))
    where
      by : (q : List Cell) → standing_at (carries_head topology u (Up here) q) node ≡ standing_at w node
      by [] = refl
      by (cell ∷ cells) = controller_away (with_queue u (Up here) cells) node here (λ a. controller.cell_comes a cell) (λ a. (cell_adds a cell).node) apart ∙ queue_stands u node (Up here) cells

  pub nothing_up_stands : queue_at w (Up node) ≡ [] → standing_at (next topology w (Carry (Up node))) node ≡ standing_at w node
  nothing_up_stands none = ap (λ (q : List Cell). standing_at (carries_head topology u (Up node) q) node) none

  pub tick_stands : (here : NodeId) → here.0 ≢ node.0 → standing_at (next topology w (Tick here)) node ≡ standing_at w node
  tick_stands here apart = controller_away u node here ticks (λ a. (ticks_adds a).node) apart

  pub switch_tick_stands : (here : NodeId) → standing_at (next topology w (TickSwitch here)) node ≡ standing_at w node
  switch_tick_stands here = switch_stands u node here tick_comes

  pub inject_stands : (here : NodeId) (octets : List ℕ) → standing_at (next topology w (Inject here octets)) node ≡ standing_at w node
  inject_stands here octets = by (inject_refusal octets)
    where
      by : (o : Option Refusal) → standing_at (injects_by (record u { sent = u.sent + 1 }) here octets o) node ≡ standing_at w node
      by (Some name) = refl
      by None = controller_stands (record u { sent = u.sent + 1 }) node here (λ a. injected a (u.sent + 1) octets) (λ a. (injected_adds a (u.sent + 1) octets).node)
          (λ a. goes_desk a (record { packet = u.sent + 1; frame = 0 }) octets (hop_of a.controller.table octets))
