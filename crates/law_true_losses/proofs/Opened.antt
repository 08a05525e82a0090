-- what is open on branches, behind each event

use Rattle.std.proofs.Common.{◌≡◌, ◌≢◌, ◌∙◌, ap, sym, subst, ℕ, zero, suc, Bool, true, false, List, [], ◌∷◌, Option, None, Some, refl, if◌then◌else◌}
use Rattle.std.specs.Prelude.{◌&&◌, ◌+◌}
use Rattle.std.specs.Option.{option_and_then}
use Rattle.std.specs.FinMap.{get}
use Rattle.world_model.specs.Words.{NodeId, PortNo, Place, Down, Up, Out, Channel, End, Mark, next_control, with_control, Cell, same_end, Forged, Refusal, at, put, control_port, is_gsmp, inject_refusal, injected, node_restarts, change_comes, Topology, World, Site, site_key, site_at, controller_acts, switch_acts, queue_at, with_queue, with_queue_in, injects_by, arrives_at, arrives, carries_head, loses_head, forges_at}
use Rattle.world_model.specs.crossbar_model.declared.branch.Branch.{Branch}
use Rattle.world_model.specs.crossbar_model.Crossbar.{input_of}
use Rattle.world_model.specs.Switch as switches
use Rattle.world_model.specs.Switch.{free_slots}
use Rattle.world_model.specs.Conduct as switch
use Rattle.world_model.specs.Controller as controllers
use Rattle.world_model.specs.Sending.{sends}
use Rattle.world_model.specs.Cells as controller
use Rattle.world_model.specs.Ticks.{ticks}
use Rattle.world_model.specs.network_model.declared.event.Event.{Event}
use Rattle.world_model.specs.network_model.declared.event.Event.TheVariants.{Inject, Carry, Lose, Tick, TickSwitch, Restart, RestartSwitch, Forge, Route}
use Rattle.world_model.specs.network_model.declared.link.LinkEnd.{LinkEnd}
use Rattle.world_model.specs.Topology.{peer_of}
use Rattle.world_model.specs.World.{at_controller, at_switch}
use Rattle.world_model.specs.Step.{note, acts}
use Rattle.world_model.proofs.Lists.{by_eq, at_key, at_put_same, at_put_other}
use Rattle.law_passing.proofs.Controllers.{cell_adds, injected_adds, ticks_adds, restarts_adds, change_adds}
use Rattle.law_passing.proofs.Rules.{sends_adds}
use Rattle.law_true_losses.specs.Open.{branch_in, branch_at, open_of, Over, over_by, over_at, over_far, over_from, over_head, over, over_it, open_behind}
use Rattle.law_true_losses.proofs.Held.{test_other, put_alike, queue_alike}
use Rattle.law_true_losses.proofs.Opens.{Opens, stays_as, tick_opens, forged_opens, restarted_opens, cell_opens}

-- *Between two worlds*
abbrev pub OpensAt : (v w : World) → Option Over → Type 0
OpensAt v w o = (node : NodeId) (input : End) → open_of (branch_at w node input) ≡ open_behind (over_it node input o) (branch_at v node input) (branch_at w node input)

-- where branches are as they were
same_opens : (v w : World) → ((node : NodeId) (input : End) → branch_at w node input ≡ branch_at v node input) → OpensAt v w None
same_opens v w same node input = stays_as (branch_at v node input) (branch_at w node input) (same node input)

-- from where branches are those
opens_from : (u v w : World) (o : Option Over) → ((node : NodeId) (input : End) → branch_at v node input ≡ branch_at u node input) → OpensAt v w o → OpensAt u w o
opens_from u v w o same h node input = h node input ∙ ap (λ (before : Option Branch). open_behind (over_it node input o) before (branch_at w node input)) (same node input)

-- *A queue holds other cells*
own_branch : (p : Place) (site : Site) (cells : List Cell) (input : End) → branch_in input (with_queue_in site p cells) ≡ branch_in input site
own_branch (Down node) site cells input = refl
own_branch (Up node) site cells input = refl
own_branch (Out node port) site cells input = refl

queue_branch : (w : World) (source : Place) (cells : List Cell) (node : NodeId) (input : End) → branch_at (with_queue w source cells) node input ≡ branch_at w node input
queue_branch w source cells node input = queue_alike w source cells (λ (o : Option Site). option_and_then (branch_in input) o) (λ site. own_branch source site cells input) node

-- *A controller acts*: the branches are the switch's
module _ (w : World) (node : NodeId) (act : controllers.Acted → controllers.Acted) (node_is : (a : controllers.Acted) → (act a).controller.node ≡ a.controller.node) where
  acts_branch : (o : Option Site) → site_at w node ≡ o → (other : NodeId) (input : End) → branch_at (controller_acts w o act) other input ≡ branch_at w other input
  acts_branch None found other input = refl
  acts_branch (Some site) found other input = put_alike (λ (o : Option Site). option_and_then (branch_in input) o) w.sites site new here refl other
    where
      a : controllers.Acted
      a = record { controller = site.controller; notes = w.notes; numbers = w.numbers }

      new : Site
      new = record site { controller = (act a).controller }

      key : site_key new ≡ node.0
      key = ap (λ (n : NodeId). n.0) (node_is a) ∙ at_key site_key node.0 w.sites site found

      here : at site_key (site_key new) w.sites ≡ Some site
      here = subst (λ (j : ℕ). at site_key j w.sites ≡ Some site) (sym key) found

  controller_opens : OpensAt w (at_controller w node act) None
  controller_opens = same_opens w (at_controller w node act) (acts_branch (site_at w node) refl)

-- *A switch acts*
module _ (w : World) (node : NodeId) (act : switches.ActedSwitch → switches.ActedSwitch) (o : Option Site → Option Over) (nobody : o None ≡ None)
    (opens : (site : Site) → Opens site.switch.crossbar.branches (act (record { switch = site.switch; notes = w.notes; numbers = w.numbers })).switch.crossbar.branches (λ input. over_it node input (o (Some site))))
    (here_alone : (site : Site) (other : NodeId) (input : End) → node.0 ≢ other.0 → over_it other input (o (Some site)) ≡ None) where
  acts_opens : (found : Option Site) → site_at w node ≡ found → OpensAt w (switch_acts w found act) (o found)
  acts_opens None found other input = subst (OpensAt w w) (sym nobody) (same_opens w w (λ n i. refl)) other input
  acts_opens (Some site) found other input = by_eq node.0 other.0
      (λ same t. subst At (same_node same) at_this)
      (λ away t. stays_as (branch_at w other input) (branch_at after other input) (elsewhere away)
      ∙ sym (ap (λ (cell : Option Cell). open_behind cell (branch_at w other input) (branch_at after other input)) (here_alone site other input away)))
    where
      after : World
      after = switch_acts w (Some site) act

      new : Site
      new = record site { switch = (act (record { switch = site.switch; notes = w.notes; numbers = w.numbers })).switch }

      At : NodeId → Type 0
      At n = open_of (branch_at after n input) ≡ open_behind (over_it n input (o (Some site))) (branch_at w n input) (branch_at after n input)

      same_node : node.0 ≡ other.0 → node ≡ other
      same_node same i = record { 0 = same i }

      key : site_key new ≡ node.0
      key = at_key site_key node.0 w.sites site found

      here : at site_key (site_key new) w.sites ≡ Some site
      here = subst (λ (j : ℕ). at site_key j w.sites ≡ Some site) (sym key) found

      now : site_at after node ≡ Some new
      now = subst (λ (j : ℕ). at site_key j (put site_key new w.sites) ≡ Some new) key (at_put_same site_key new w.sites site here)

      at_this : At node
      at_this = subst (λ (p : Option Site). open_of (option_and_then (branch_in input) p) ≡ open_behind (over_it node input (o (Some site))) (branch_at w node input) (option_and_then (branch_in input) p)) (sym now)
          (opens site input ∙ sym (ap (λ (p : Option Site). open_behind (over_it node input (o (Some site))) (option_and_then (branch_in input) p) (branch_in input new)) found))

      elsewhere : node.0 ≢ other.0 → branch_at after other input ≡ branch_at w other input
      elsewhere away = ap (λ (p : Option Site). option_and_then (branch_in input) p) (at_put_other site_key new other.0 w.sites (λ same. away (sym key ∙ same)))

  switch_opens : OpensAt w (at_switch w node act) (o (site_at w node))
  switch_opens = acts_opens (site_at w node) refl

-- by a rule by which no cell comes
still_opens : (w : World) (node : NodeId) (act : switches.ActedSwitch → switches.ActedSwitch)
    → ((site : Site) → Opens site.switch.crossbar.branches (act (record { switch = site.switch; notes = w.notes; numbers = w.numbers })).switch.crossbar.branches (λ input. None))
    → OpensAt w (at_switch w node act) None
still_opens w node act opens = switch_opens w node act (λ o. None) refl opens (λ site other input away. refl)

-- *A cell comes* to a switch
apart_over : (node other : NodeId) (input : End) (port : PortNo) (cell : Cell) (site : Site) → node.0 ≢ other.0 → over_it other input (over_at node (Some site) port cell) ≡ None
apart_over node other input port cell site away = by (is_gsmp port cell.header.channel)
  where
    by_free : (o : Option Branch) (free : ℕ) → over_it other input (over_by node (input_of port cell) o free cell) ≡ None
    by_free None free = refl
    by_free (Some b) zero = refl
    by_free (Some b) (suc free) = ap {B = Option Cell} (λ (t : Bool). if t && same_end (input_of port cell) input then Some cell else None) (test_other node.0 other.0 away)

    by : (b : Bool) → over_it other input (if b then None else over_by node (input_of port cell) (get site.switch.crossbar.branches (input_of port cell)) (free_slots site.switch) cell) ≡ None
    by true = refl
    by false = by_free (get site.switch.crossbar.branches (input_of port cell)) (free_slots site.switch)

input_opens : (w : World) (node : NodeId) (port : PortNo) (cell : Cell) → OpensAt w (at_switch w node (λ a. switch.cell_comes a port cell)) (over_at node (site_at w node) port cell)
input_opens w node port cell = switch_opens w node (λ a. switch.cell_comes a port cell) (λ o. over_at node o port cell) refl
    (λ site. cell_opens site w.notes w.numbers node port cell) (λ site other input away. apart_over node other input port cell site away)

module _ (t : Topology) where
  far_opens : (w : World) (cell : Cell) (o : Option LinkEnd) → OpensAt w (arrives_at w cell o) (over_far w cell o)
  far_opens w cell None = same_opens w w (λ node input. refl)
  far_opens w cell (Some far) = input_opens w far.node far.port cell

  arrives_opens : (w : World) (place : Place) (cell : Cell) → OpensAt w (arrives t w place cell) (over_from t w place cell)
  arrives_opens w (Down node) cell = input_opens w node control_port cell
  arrives_opens w (Up node) cell = controller_opens w node (λ a. controller.cell_comes a cell) (λ a. (cell_adds a cell).node)
  arrives_opens w (Out node port) cell = far_opens w cell (peer_of t node port)

  carries_opens : (w : World) (place : Place) (cells : List Cell) → OpensAt w (carries_head t w place cells) (over_head t w place cells)
  carries_opens w place [] = same_opens w w (λ node input. refl)
  carries_opens w place (cell ∷ cells) = opens_from w (with_queue w place cells) (carries_head t w place (cell ∷ cells)) (over_head t w place (cell ∷ cells)) (queue_branch w place cells)
      (arrives_opens (with_queue w place cells) place cell)

  loses_opens : (w : World) (place : Place) (cells : List Cell) → OpensAt w (loses_head w place cells) None
  loses_opens w place [] = same_opens w w (λ node input. refl)
  loses_opens w place (cell ∷ cells) = same_opens w (loses_head w place (cell ∷ cells)) (queue_branch w place cells)

  injects_opens : (w : World) (node : NodeId) (octets : List ℕ) (o : Option Refusal) → OpensAt w (injects_by (record w { sent = w.sent + 1 }) node octets o) None
  injects_opens w node octets (Some name) = same_opens w (injects_by (record w { sent = w.sent + 1 }) node octets (Some name)) (λ other input. refl)
  injects_opens w node octets None = opens_from w sent (injects_by sent node octets None) None (λ other input. refl)
      (controller_opens sent node (λ a. injected a (w.sent + 1) octets) (λ a. (injected_adds a (w.sent + 1) octets).node))
    where
      sent : World
      sent = record w { sent = w.sent + 1 }

  forges_opens : (w : World) (place : Place) (channel : Channel) (mark : Mark) (payload : List ℕ) → OpensAt w (forges_at w place channel mark payload) None
  forges_opens w (Down node) channel mark payload = controller_opens w node (λ a. sends a channel mark payload) (λ a. (sends_adds a channel mark payload).node)
  forges_opens w (Up node) channel mark payload = still_opens w node (λ a. switch.forged a control_port channel mark payload) (λ site. forged_opens site w.notes w.numbers control_port channel mark payload)
  forges_opens w (Out node port) channel mark payload = still_opens w node (λ a. switch.forged a port channel mark payload) (λ site. forged_opens site w.notes w.numbers port channel mark payload)

  forge_opens : (w : World) (place : Place) (channel : Channel) (payload : List ℕ) → OpensAt w (acts t w (Forge place channel payload)) None
  forge_opens w place channel payload = opens_from w forged (acts t w (Forge place channel payload)) None (λ other input. refl)
      (forges_opens forged place channel (next_control w.numbers) payload)
    where
      forged : World
      forged = record (note w (Forged place)) { numbers = with_control w.numbers }

  -- *Each event*
  pub event_opens : (w : World) (event : Event) → OpensAt w (acts t w event) (over t w event)
  event_opens w (Inject node octets) = injects_opens w node octets (inject_refusal octets)
  event_opens w (Carry place) = carries_opens w place (queue_at w place)
  event_opens w (Lose place) = loses_opens w place (queue_at w place)
  event_opens w (Tick node) = controller_opens w node ticks (λ a. (ticks_adds a).node)
  event_opens w (TickSwitch node) = still_opens w node switch.tick_comes (λ site. tick_opens site w.notes w.numbers)
  event_opens w (Restart node) = controller_opens w node node_restarts (λ a. (restarts_adds a).node)
  event_opens w (RestartSwitch node) = still_opens w node switch.restarted (λ site. restarted_opens site w.notes w.numbers)
  event_opens w (Forge place channel payload) = forge_opens w place channel payload
  event_opens w (Route node change) = controller_opens w node (λ a. change_comes a change) (λ a. (change_adds a change).node)

-- *The same goes over* where the sites are the same
pub over_alike : (t : Topology) (v w : World) → v.sites ≡ w.sites → (cell : Cell) (place : Place) → over_from t v place cell ≡ over_from t w place cell
over_alike t v w same cell (Down node) = ap (λ (sites : List Site). over_at node (at site_key node.0 sites) control_port cell) same
over_alike t v w same cell (Up node) = refl
over_alike t v w same cell (Out node port) = by (peer_of t node port)
  where
    by : (o : Option LinkEnd) → over_far v cell o ≡ over_far w cell o
    by None = refl
    by (Some far) = ap (λ (sites : List Site). over_at far.node (at site_key far.node.0 sites) far.port cell) same
