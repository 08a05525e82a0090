-- each event enters the losses on the way that it is, and those of the frames that it makes and doesn't put; what it puts stands
-- behind what was left

use Rattle.std.proofs.Common.{◌≡◌, ℕ, ◌+◌, Bool, true, false, List, [], ◌∷◌, ◌++◌, length, map, flat_map, Option, None, Some, refl, sym, ◌∙◌, ap, subst, if◌then◌else◌}
use Rattle.std.specs.Prelude.{drop, nat_lt}
use Rattle.std.specs.Option.{option_map_or}
use Rattle.world_model.specs.Words.{NodeId, PortNo, Place, Down, Up, Out, Channel, Mark, next_control, with_control, Cell, Entry, Refused, Loss, Forged, Lost, Refusal, at, control_port, is_gsmp, inject_refusal, injected, node_restarts, change_comes, Topology, World, Site, site_key, site_at, place_node, queue_at, with_queue_of, with_queue, with_queue_in, injects_by, arrives_at, arrives, carries_head, loses_head, forges_at, Journal, GivenOut}
use Rattle.world_model.specs.crossbar_model.declared.branch.Branch.{Branch}
use Rattle.world_model.specs.crossbar_model.Crossbar.{input_of}
use Rattle.std.specs.FinMap.{get}
use Rattle.std.specs.Prelude.{zero, suc}
use Rattle.world_model.specs.Switch as switches
use Rattle.world_model.specs.Conduct as switch
use Rattle.world_model.specs.Controller as controllers
use Rattle.world_model.specs.Sending.{sends}
use Rattle.world_model.specs.Cells as controller
use Rattle.world_model.specs.Ticks.{ticks}
use Rattle.world_model.specs.network_model.declared.event.Event.{Event}
use Rattle.world_model.specs.network_model.declared.event.Event.TheVariants.{Inject, Carry, Lose, Tick, TickSwitch, Restart, RestartSwitch, Forge, Route}
use Rattle.world_model.specs.network_model.declared.link.LinkEnd.{LinkEnd}
use Rattle.world_model.specs.Topology.{peer_of}
use Rattle.world_model.specs.World.{at_controller, at_switch}
use Rattle.world_model.specs.Step.{note, acts}
use Rattle.world_model.proofs.Lists.{by_eq, at_key, at_put_same, at_put_other, length_set}
use Rattle.law_passing.specs.telling_model.Passing.{left_from, source_of}
use Rattle.law_passing.specs.Reached as passing
use Rattle.law_passing.specs.Reached.{led_to, switch_at}
use Rattle.law_passing.proofs.Queues.{by_queue, one_queue, taken_is}
use Rattle.law_passing.proofs.Controllers.{cell_adds, injected_adds, ticks_adds, restarts_adds, change_adds}
use Rattle.law_passing.proofs.Rules.{sends_adds}
use Rattle.law_true_losses.specs.Way.{lost_at_input, lost_at_controller as at_taker, lost_at_far_end, lost_carried_to, lost_carried_from, lost_from, lost_on_way}
use Rattle.law_true_losses.specs.Sent.{frame_of, cells_of, put_in, rooms_in, rooms_at, has_queue_in, has_queue, queue_to, queue_for, by_branch, switched_at, switched_far, switched_from, switched_head, switched_cells}
use Rattle.law_true_losses.proofs.Notes.{noted_more, noted_other}
use Rattle.law_true_losses.proofs.Sent.{Sends}
use Rattle.law_true_losses.proofs.Steps as steps
use Rattle.law_true_losses.proofs.Walk as walk
use Rattle.law_true_losses.proofs.Arriving as arriving
use Rattle.law_true_losses.proofs.Switches as switching
use Rattle.law_true_losses.specs.Cut.{Held, at_node, fed_switch, fed_controller, fed_far, fed_to, fed_at, fed}
use Rattle.law_true_losses.proofs.Cutting.{cuts_in, cuts_other}
use Rattle.law_true_losses.proofs.Sites.{SiteCuts}
use Rattle.law_true_losses.proofs.Switched.{tick_site, sends_site, restarted_site, cell_site}
use Rattle.law_true_losses.proofs.Held.{own_key, CutAt, cut_nothing, queue_alike, cut_behind}
use Rattle.law_true_losses.proofs.Puts.{Told, Begins, IsOf, told_nothing, nothing_of, put_out, put_up, controller_told, switch_told}

-- *A queue holds other cells*: what was made is the same, and so is which queues there are
pub queue_notes : (w : World) (place : Place) (cells : List Cell) → (with_queue w place cells).notes ≡ w.notes
queue_notes w place cells = by (site_at w (place_node place))
  where
    by : (o : Option Site) → (with_queue_of w place cells o).notes ≡ w.notes
    by None = refl
    by (Some site) = refl

own_queues : (p place : Place) (site : Site) (cells : List Cell) → has_queue_in (with_queue_in site p cells) place ≡ has_queue_in site place
own_queues (Down node) (Down n) site cells = refl
own_queues (Down node) (Up n) site cells = refl
own_queues (Down node) (Out n q) site cells = refl
own_queues (Up node) (Down n) site cells = refl
own_queues (Up node) (Up n) site cells = ap (λ (rooms : ℕ). nat_lt 0 rooms) (length_set site.switch.crossbar.queues 0 cells)
own_queues (Up node) (Out n q) site cells = ap (λ (rooms : ℕ). nat_lt q.0 rooms) (length_set site.switch.crossbar.queues 0 cells)
own_queues (Out node port) (Down n) site cells = refl
own_queues (Out node port) (Up n) site cells = ap (λ (rooms : ℕ). nat_lt 0 rooms) (length_set site.switch.crossbar.queues port.0 cells)
own_queues (Out node port) (Out n q) site cells = ap (λ (rooms : ℕ). nat_lt q.0 rooms) (length_set site.switch.crossbar.queues port.0 cells)

own_rooms : (p : Place) (site : Site) (cells : List Cell) → length (with_queue_in site p cells).switch.crossbar.queues ≡ length site.switch.crossbar.queues
own_rooms (Down node) site cells = refl
own_rooms (Up node) site cells = length_set site.switch.crossbar.queues 0 cells
own_rooms (Out node port) site cells = length_set site.switch.crossbar.queues port.0 cells

queues_stay : (w : World) (source : Place) (cells : List Cell) (place : Place) → has_queue (with_queue w source cells) place ≡ has_queue w place
queues_stay w source cells place = by (site_at w (place_node source)) refl
  where
    There : Option Site → Type 0
    There o = option_map_or (λ site. has_queue_in site place) o false ≡ has_queue w place

    by : (o : Option Site) → site_at w (place_node source) ≡ o → has_queue (with_queue_of w source cells o) place ≡ has_queue w place
    by None found = refl
    by (Some site) found =
        let new : Site = with_queue_in site source cells in
        let key : site_key new ≡ (place_node source).0 = own_key source site cells ∙ at_key site_key (place_node source).0 w.sites site found in
        let here : at site_key (site_key new) w.sites ≡ Some site = subst (λ (j : ℕ). at site_key j w.sites ≡ Some site) (sym key) found in
        by_eq (site_key new) (place_node place).0
        (λ same t. subst There (sym (subst (λ (j : ℕ). at site_key j (put_sites new) ≡ Some new) same (at_put_same site_key new w.sites site here)))
        (own_queues source place site cells ∙ sym (ap (λ (o : Option Site). option_map_or (λ site. has_queue_in site place) o false) (subst (λ (j : ℕ). at site_key j w.sites ≡ Some site) same here))))
        (λ away t. ap (λ (o : Option Site). option_map_or (λ site. has_queue_in site place) o false) (at_put_other site_key new (place_node place).0 w.sites away))
      where
        put_sites : Site → List Site
        put_sites new = (with_queue_of w source cells (Some site)).sites

-- *An event came*: behind what it left in each queue stands what it put there
pub record Came (e lost : List Entry) (w : World) (source : Option Place) (after : World) (went : Place → List Cell) (queue : Option Place) (fed : Option Held) : Type 0 where
  pub sends : Sends e lost w.notes.frames after.notes
      (λ cells. (place : Place) → has_queue w place ≡ true → queue_at after place ≡ left_from w source place ++ (went place ++ put_in queue place cells))
  pub nowhere : queue ≡ None → sends.sendings ≡ []
  pub cuts : CutAt w after fed
  pub rooms : (node : NodeId) → rooms_at after node ≡ rooms_at w node

came_of : (e lost : List Entry) (w v : World) (source : Option Place) (after : World) (went : Place → List Cell) (queue : Option Place) (fed : Option Held) → v.notes.frames ≡ w.notes.frames
    → ((place : Place) → has_queue w place ≡ true → has_queue v place ≡ true) → ((place : Place) → queue_at v place ≡ left_from w source place) → CutAt w after fed → ((node : NodeId) → rooms_at v node ≡ rooms_at w node)
    → Told e lost v after went queue fed → Came e lost w source after went queue fed
came_of e lost w v source after went queue fed frames there left cuts rooms h = record {
  sends = record {
    sendings = h.sends.sendings;
    counts = h.sends.counts;
    frames = h.sends.frames ∙ ap (λ (more : List _). more ++ map frame_of h.sends.sendings) frames;
    cells = λ place has. h.sends.cells place (there place has) ∙ ap (λ (waiting : List Cell). waiting ++ (went place ++ put_in queue place (flat_map cells_of h.sends.sendings))) (left place);
  };
  nowhere = h.nowhere;
  cuts = cuts;
  rooms = λ node. h.rooms node ∙ rooms node;
}

-- nothing was taken
came_by : (e lost : List Entry) (w after : World) (went : Place → List Cell) (queue : Option Place) (fed : Option Held) → Told e lost w after went queue fed → Came e lost w None after went queue fed
came_by e lost w after went queue fed h = came_of e lost w w None after went queue fed refl (λ place has. has) (λ place. refl) h.cuts (λ node. refl) h

-- a cell was
came_behind : (e lost : List Entry) (w : World) (source : Place) (cell : Cell) (cells : List Cell) (after : World) (went : Place → List Cell) (queue : Option Place) (fed : Option Held)
    → queue_at w source ≡ cell ∷ cells → Told e lost (with_queue w source cells) after went queue fed → Came e lost w (Some source) after went queue fed
came_behind e lost w source cell cells after went queue fed is h = came_of e lost w (with_queue w source cells) (Some source) after went queue fed
    (ap (λ (notes : _). notes.frames) (queue_notes w source cells)) (λ place has. queues_stay w source cells place ∙ has) (λ place. taken_is w source cell cells is place)
    (cut_behind w source cells after fed h.cuts) (queue_alike w source cells rooms_in (λ site. own_rooms source site cells)) h

-- nor was there a cell
none_left : (w : World) (source : Place) → queue_at w source ≡ [] → (place : Place) → queue_at w place ≡ left_from w (Some source) place
none_left w source is place = by_queue source place
    (λ node number t. (let none : queue_at w place ≡ [] = sym (one_queue w source place node number) ∙ is in
    subst (λ (b : Bool). queue_at w place ≡ (if b then drop 1 (queue_at w place) else queue_at w place)) (sym t) (none ∙ sym (ap (drop 1) none))))
    (λ node t. subst (λ (b : Bool). queue_at w place ≡ (if b then drop 1 (queue_at w place) else queue_at w place)) (sym t) refl)
    (λ node number t. subst (λ (b : Bool). queue_at w place ≡ (if b then drop 1 (queue_at w place) else queue_at w place)) (sym t) refl)

came_empty : (e : List Entry) (w : World) (source : Place) (queue : Option Place) → Begins e w.notes → queue_at w source ≡ [] → Came e [] w (Some source) w (λ place. []) queue None
came_empty e w source queue h is = came_of e [] w w (Some source) w (λ place. []) queue None refl (λ place has. has) (none_left w source is) (cut_nothing w w None h.uncut refl) (λ node. refl)
    (told_nothing e [] w w queue None h.counts h.uncut refl refl)

module _ (t : Topology) (e : List Entry) where
  -- *An actor acts* by a rule by which no cell comes
  rule_told : (w : World) (node : NodeId) (act : controllers.Acted → controllers.Acted)
      → ((x : List Entry) (base : steps.Base) (a : controllers.Acted) → steps.Sent e x base a → steps.Sent e x base (act a))
      → ((a : controllers.Acted) → (act a).controller.node ≡ a.controller.node) → Begins e w.notes → Told e [] w (at_controller w node act) (λ place. []) (Some (Down node)) None
  rule_told w node act keeps node_is h = controller_told e w node h act (λ o. []) (λ o. None) refl
      (λ site. (let a : controllers.Acted = record { controller = site.controller; notes = w.notes; numbers = w.numbers } in
      arriving.ends_with e a (act a) (keeps [] (steps.base_of a) a (steps.begins_with e a h.counts h.uncut)))) node_is

  port_told : (w : World) (node : NodeId) (queue : Place) (port : PortNo) → ((cells : List Cell) → IsOf node (λ place. put_in (Some queue) place cells) (λ i. switching.put_on port i cells))
      → (act : switches.ActedSwitch → switches.ActedSwitch)
      → ((x : List Entry) (f : _) (q : List (List Cell)) (a : switches.ActedSwitch) → switching.Sent e x f q port a → switching.Sent e x f q port (act a))
      → ((site : Site) (notes : Journal) (numbers : GivenOut) → cuts_in notes ≡ [] → SiteCuts None site (record site { switch = (act (record { switch = site.switch; notes = notes; numbers = numbers })).switch })
      (act (record { switch = site.switch; notes = notes; numbers = numbers })).notes)
      → Begins e w.notes → Told e [] w (at_switch w node act) (λ place. []) (Some queue) None
  port_told w node queue port is_of act keeps cuts h = switch_told e w node h queue port is_of act (λ o. []) (λ o place. []) (λ site i. []) None refl (λ place. refl) (λ site. nothing_of node)
      (λ site. keeps [] w.notes.frames site.switch.crossbar.queues (record { switch = site.switch; notes = w.notes; numbers = w.numbers })
      (switching.begins_with e (record { switch = site.switch; notes = w.notes; numbers = w.numbers }) port h.counts))
      (λ site. cuts site w.notes w.numbers h.uncut)

  -- *A cell comes* to a switch, or to a controller
  module _ (w : World) (h : Begins e w.notes) (cell : Cell) where
    through_of : (node : NodeId) (o : Option Branch) (free : ℕ) → IsOf node (by_branch node o free cell) (switching.through o free cell)
    through_of node None free = nothing_of node
    through_of node (Some branch) zero = nothing_of node
    through_of node (Some branch) (suc free) = put_out node branch.output.port _

    went_of : (node : NodeId) (port : PortNo) (site : Site) → IsOf node (switched_at node (Some site) port cell) (switching.through_at (record { switch = site.switch; notes = w.notes; numbers = w.numbers }) port cell)
    went_of node port site = by (is_gsmp port cell.header.channel)
      where
        o : Option Branch
        o = get site.switch.crossbar.branches (input_of port cell)

        by : (b : Bool) → IsOf node (λ place. if b then [] else by_branch node o (switches.free_slots site.switch) cell place) (λ i. if b then [] else switching.through o (switches.free_slots site.switch) cell i)
        by true = nothing_of node
        by false = through_of node o (switches.free_slots site.switch)

    input_told : (node : NodeId) (port : PortNo)
        → Told e (lost_at_input (site_at w node) port cell) w (at_switch w node (λ a. switch.cell_comes a port cell)) (switched_at node (site_at w node) port cell) (Some (Up node)) (at_node node (fed_switch port cell))
    input_told node port = switch_told e w node h (Up node) control_port (put_up node) (λ a. switch.cell_comes a port cell) (λ o. lost_at_input o port cell) (λ o. switched_at node o port cell)
        (λ site. switching.through_at (record { switch = site.switch; notes = w.notes; numbers = w.numbers }) port cell) (fed_switch port cell) refl (λ place. refl) (went_of node port)
        (λ site. switching.cell_told e (record { switch = site.switch; notes = w.notes; numbers = w.numbers }) port cell h.counts)
        (λ site. cell_site site w.notes w.numbers h.uncut port cell)

    taker_told : (node : NodeId) → Told e (at_taker (site_at w node) cell) w (at_controller w node (λ a. controller.cell_comes a cell)) (λ place. []) (Some (Down node)) (at_node node (fed_controller (site_at w node) cell))
    taker_told node = controller_told e w node h (λ a. controller.cell_comes a cell) (λ o. at_taker o cell) (λ o. fed_controller o cell) refl
        (λ site. arriving.cell_told e (record { controller = site.controller; notes = w.notes; numbers = w.numbers }) cell h.counts h.uncut) (λ a. (cell_adds a cell).node)

    arrives_told : (place : Place) → Told e (lost_carried_to t w place cell) w (arrives t w place cell) (switched_from t w place cell) (queue_to (led_to t place)) (fed_to t w place cell)
    arrives_told (Down node) = input_told node control_port
    arrives_told (Up node) = taker_told node
    arrives_told (Out node port) = by (peer_of t node port)
      where
        by : (o : Option LinkEnd) → Told e (lost_at_far_end w cell o) w (arrives_at w cell o) (switched_far w cell o) (queue_to (switch_at o)) (fed_far cell o)
        by None = told_nothing e [] w w None None h.counts h.uncut refl refl
        by (Some far) = input_told far.node far.port

  -- *Each event*
  module _ (w : World) (h : Begins e w.notes) where
    taken_begins : (place : Place) (cells : List Cell) → Begins e (with_queue w place cells).notes
    taken_begins place cells = subst (Begins e) (sym (queue_notes w place cells)) h

    carries_told : (place : Place) (cells : List Cell) → queue_at w place ≡ cells
        → Came e (lost_carried_from t w place cells) w (Some place) (carries_head t w place cells) (switched_head t w place cells) (queue_to (passing.carried_to t place cells)) (fed_at t w place cells)
    carries_told place [] is = came_empty e w place None h is
    carries_told place (cell ∷ cells) is =
        let v : World = with_queue w place cells in
        came_behind e (lost_carried_to t v place cell) w place cell cells (arrives t v place cell) (switched_from t v place cell) (queue_to (led_to t place)) (fed_to t v place cell) is
        (arrives_told v (taken_begins place cells) cell place)

    loses_told : (place : Place) (cells : List Cell) → queue_at w place ≡ cells → Came e (lost_from cells) w (Some place) (loses_head w place cells) (λ to. []) None None
    loses_told place [] is = came_empty e w place None h is
    loses_told place (cell ∷ cells) is =
        let v : World = with_queue w place cells in
        let k : Begins e v.notes = taken_begins place cells in
        came_behind e (lost_from (cell ∷ cells)) w place cell cells (loses_head w place (cell ∷ cells)) (λ to. []) None None is
        (told_nothing e (lost_from (cell ∷ cells)) v (loses_head w place (cell ∷ cells)) None None
        (noted_more e [] v.notes (Loss cell.mark Lost) (lost_from (cell ∷ cells)) refl refl k.counts) (cuts_other v.notes (Loss cell.mark Lost) refl ∙ k.uncut) refl refl)

    injects_told : (node : NodeId) (octets : List ℕ) (o : Option Refusal) → Told e [] w (injects_by (record w { sent = w.sent + 1 }) node octets o) (λ place. []) (Some (Down node)) None
    injects_told node octets (Some name) = told_nothing e [] w (injects_by (record w { sent = w.sent + 1 }) node octets (Some name)) (Some (Down node)) None
        (noted_other e [] w.notes (Refused node (w.sent + 1) name) (refl, refl) h.counts) (cuts_other w.notes (Refused node (w.sent + 1) name) refl ∙ h.uncut) refl refl
    injects_told node octets None = told_as (rule_told (record w { sent = w.sent + 1 }) node (λ a. injected a (w.sent + 1) octets)
        (λ x base a k. walk.routes_kept e x base a (record { packet = w.sent + 1; frame = 0 }) octets k) (λ a. (injected_adds a (w.sent + 1) octets).node) h)
      where
        after : World
        after = injects_by (record w { sent = w.sent + 1 }) node octets None

        told_as : Told e [] (record w { sent = w.sent + 1 }) after (λ place. []) (Some (Down node)) None → Told e [] w after (λ place. []) (Some (Down node)) None
        told_as k = record { sends = k.sends; nowhere = k.nowhere; cuts = record { cuts = k.cuts.cuts; entries = k.cuts.entries; each = k.cuts.each }; rooms = k.rooms }

    forges_told : (v : World) → Begins e v.notes → (place : Place) (channel : Channel) (mark : Mark) (payload : List ℕ)
        → Told e [] v (forges_at v place channel mark payload) (λ to. []) (Some place) None
    forges_told v k (Down node) channel mark payload = rule_told v node (λ a. sends a channel mark payload)
        (λ x base a i. steps.sends_kept e x base a channel mark payload i) (λ a. (sends_adds a channel mark payload).node) k
    forges_told v k (Up node) channel mark payload = port_told v node (Up node) control_port (put_up node) (λ a. switch.forged a control_port channel mark payload)
        (λ x f q a i. switching.sends_kept e x f q control_port a channel mark payload i) (λ site notes numbers none. sends_site site notes numbers none control_port channel mark payload) k
    forges_told v k (Out node port) channel mark payload = port_told v node (Out node port) port (put_out node port) (λ a. switch.forged a port channel mark payload)
        (λ x f q a i. switching.sends_kept e x f q port a channel mark payload i) (λ site notes numbers none. sends_site site notes numbers none port channel mark payload) k

    forge_told : (place : Place) (channel : Channel) (payload : List ℕ) → Came e [] w None (acts t w (Forge place channel payload)) (λ to. []) (Some place) None
    forge_told place channel payload =
        let v : World = record (note w (Forged place)) { numbers = with_control w.numbers } in
        let k : Told e [] v (acts t w (Forge place channel payload)) (λ to. []) (Some place) None = forges_told v
        (record { counts = noted_other e [] w.notes (Forged place) (refl, refl) h.counts; uncut = cuts_other w.notes (Forged place) refl ∙ h.uncut }) place channel (next_control w.numbers) payload in
        came_of e [] w v None (acts t w (Forge place channel payload)) (λ to. []) (Some place) None refl (λ to has. has) (λ to. refl)
        (record { cuts = k.cuts.cuts; entries = k.cuts.entries; each = k.cuts.each }) (λ node. refl) k

    pub event_told : (event : Event) → Came e (lost_on_way t w event) w (source_of event) (acts t w event) (switched_cells t w event) (queue_for t w event) (fed t w event)
    event_told (Inject node octets) = came_by e [] w (acts t w (Inject node octets)) (λ place. []) (Some (Down node)) None (injects_told node octets (inject_refusal octets))
    event_told (Carry place) = carries_told place (queue_at w place) refl
    event_told (Lose place) = loses_told place (queue_at w place) refl
    event_told (Tick node) = came_by e [] w (acts t w (Tick node)) (λ place. []) (Some (Down node)) None (rule_told w node ticks (walk.ticks_kept e) (λ a. (ticks_adds a).node) h)
    event_told (TickSwitch node) = came_by e [] w (acts t w (TickSwitch node)) (λ place. []) (Some (Up node)) None
        (port_told w node (Up node) control_port (put_up node) switch.tick_comes (switching.tick_kept e) tick_site h)
    event_told (Restart node) = came_by e [] w (acts t w (Restart node)) (λ place. []) (Some (Down node)) None (rule_told w node node_restarts (walk.node_restarts_kept e) (λ a. (restarts_adds a).node) h)
    event_told (RestartSwitch node) = came_by e [] w (acts t w (RestartSwitch node)) (λ place. []) (Some (Up node)) None
        (port_told w node (Up node) control_port (put_up node) switch.restarted (switching.restarted_kept e) restarted_site h)
    event_told (Forge place channel payload) = forge_told place channel payload
    event_told (Route node change) = came_by e [] w (acts t w (Route node change)) (λ place. []) (Some (Down node)) None (rule_told w node (λ a. change_comes a change)
        (λ x base a k. arriving.changes_kept e x base (record a { controller = record a.controller { waiting = a.controller.waiting ++ change ∷ [] } }) k) (λ a. (change_adds a change).node) h)

-- *The same is taken* where the sites are the same
module _ (t : Topology) (v w : World) (same : v.sites ≡ w.sites) (cell : Cell) where
  pub carried_alike : (place : Place) → lost_carried_to t v place cell ≡ lost_carried_to t w place cell
  carried_alike (Down node) = ap (λ (sites : List Site). lost_at_input (at site_key node.0 sites) control_port cell) same
  carried_alike (Up node) = ap (λ (sites : List Site). at_taker (at site_key node.0 sites) cell) same
  carried_alike (Out node port) = by (peer_of t node port)
    where
      by : (o : Option LinkEnd) → lost_at_far_end v cell o ≡ lost_at_far_end w cell o
      by None = refl
      by (Some far) = ap (λ (sites : List Site). lost_at_input (at site_key far.node.0 sites) far.port cell) same

  pub switched_alike : (place to : Place) → switched_from t v place cell to ≡ switched_from t w place cell to
  switched_alike (Down node) to = ap (λ (sites : List Site). switched_at node (at site_key node.0 sites) control_port cell to) same
  switched_alike (Up node) to = refl
  switched_alike (Out node port) to = by (peer_of t node port)
    where
      by : (o : Option LinkEnd) → switched_far v cell o to ≡ switched_far w cell o to
      by None = refl
      by (Some far) = ap (λ (sites : List Site). switched_at far.node (at site_key far.node.0 sites) far.port cell to) same

  pub fed_alike : (place : Place) → fed_to t v place cell ≡ fed_to t w place cell
  fed_alike (Down node) = refl
  fed_alike (Up node) = ap (λ (sites : List Site). at_node node (fed_controller (at site_key node.0 sites) cell)) same
  fed_alike (Out node port) = refl
