-- what an event of a network keeps of the branches of one of its switches, and of its shape

use Rattle.std.proofs.Common.{◌≡◌, ℕ, ◌≤◌, ◌==◌, Bool, true, false, true≢false, List, [], ◌∷◌, ◌+◌, Option, None, Some, refl, sym, ◌∙◌, ap, subst, arith, if◌then◌else◌}
use Rattle.std.specs.Prelude.{nat_lt}
use Rattle.std.specs.Option.{option_map, option_map_or}
use Rattle.std.specs.FinMap.{get, insert}
use Rattle.std.proofs.lemmas.Bool.Decides.{nat_tests}
use Rattle.world_model.specs.Words.{NodeId, Place, Down, Up, Out, Channel, End, Mark, next_control, with_control, Forged, Cell, Request, Branches, Changed, branches_after, payload_in, control_port, is_gsmp, tick_comes, restarted, Journal, Switch, Reassembly, Refusal, inject_refusal, injected, change_comes, node_restarts, Topology, IsTopology, World, Site, site_at, queue_at, with_queue, with_queue_of, with_queue_in, injects_by, arrives_at, carries_head, loses_head, forges_at, put_away, next, OfSwitch, taken_at, cell_for}
use Rattle.world_model.specs.frame_model.Frame.{octets_of}
use Rattle.world_model.specs.frame_model.Reassembly.{Taken, taken}
use Rattle.world_model.specs.gsmp_wire.declared.message.Message.{Message}
use Rattle.world_model.specs.crossbar_model.declared.branch.Branch.{Branch}
use Rattle.world_model.specs.Switch as switches
use Rattle.world_model.specs.Conduct as switch
use Rattle.world_model.specs.Controller.{Acted}
use Rattle.world_model.specs.Sending.{sends}
use Rattle.world_model.specs.Cells as controller
use Rattle.world_model.specs.Ticks.{ticks}
use Rattle.world_model.specs.Stretches.{Reassembler, ended_at, switch_arrival}
use Rattle.world_model.specs.Topology.{peer_of}
use Rattle.world_model.specs.World.{at_controller, at_switch}
use Rattle.world_model.specs.Step.{acts, note}
use Rattle.world_model.specs.network_model.declared.event.Event.{Event}
use Rattle.world_model.specs.network_model.declared.event.Event.TheVariants.{Inject, Carry, Lose, Tick, TickSwitch, Restart, RestartSwitch, Forge, Route}
use Rattle.world_model.specs.network_model.declared.link.LinkEnd.{LinkEnd}
use Rattle.world_model.proofs.Lists.{by_eq}
use Rattle.law_branch_shapes.proofs.law_causes.Turning.{same_left}
use Rattle.law_branch_shapes.proofs.law_causes.Shown.{peer_back}
use Rattle.law_run_facts.proofs.law_actor_pace.Controllers.{injected_paces, ticks_paces, restarts_paces, change_changes}
use Rattle.law_live_frames.proofs.Coming.{site_left}
use Rattle.law_live_orders.proofs.Hops.{link_not_gsmp}
use Rattle.law_live_control_links.proofs.Sites.{controller_elsewhere, controller_here, switch_elsewhere, switch_here}
use Rattle.law_live_orders.proofs.Sites.{IsThere, WasThere, still_there, was_there}
use Rattle.law_live_ways.specs.Requests.{AsksKeeping, KeepsWays}
use Rattle.law_live_ways.specs.Law.{IsRead}
use Rattle.law_live_ways.proofs.Shaped.{cell_same, sent_same}
use Rattle.law_live_ways.proofs.Switches.{sends_keeps, tick_keeps, cell_keeps, ReadsKeeping}

-- *At a node* the branches of its switch are so
pub record At (w : World) (node : NodeId) (P : Branches → Type 0) : Type 0 where
  pub site : Site
  pub found : site_at w node ≡ Some site
  pub kept : P site.switch.crossbar.branches

one_site : (x y : Site) → Some x ≡ Some y → x ≡ y
one_site x y e = cc

module _ (P : Branches → Type 0) (node : NodeId) where
  same_at : (w v : World) → site_at v node ≡ site_at w node → At w node P → At v node P
  same_at w v same h = record { site = h.site; found = same ∙ h.found; kept = h.kept }

  -- *A queue is set*
  set_at : (w : World) (place : Place) (cells : List Cell) → At w node P → At (with_queue w place cells) node P
  set_at w place cells h =
      let there : IsThere (with_queue w place cells) node = still_there w place cells node (record { site = h.site; found = h.found }) in
      let was : WasThere w place node there.site = was_there w place cells node there.site there.found in
      let same : was.site ≡ h.site = one_site was.site h.site (sym was.found ∙ h.found) in
      record {
        site = there.site;
        found = there.found;
        kept = subst P (sym (was.branches ∙ ap (λ (s : Site). s.switch.crossbar.branches) same)) h.kept;
      }

  -- *A controller acts*
  controller_at : (w : World) (here : NodeId) (act : Acted → Acted) → ((a : Acted) → (act a).controller.node ≡ a.controller.node) → At w node P → At (at_controller w here act) node P
  controller_at w here act same h = by_eq here.0 node.0
      (λ own t. subst (λ (n : NodeId). At (at_controller w n act) node P) (sym (same_node own)) (record {
        site = record h.site { controller = (act (record { controller = h.site.controller; notes = w.notes; numbers = w.numbers })).controller };
        found = controller_here w node h.site h.found act same;
        kept = h.kept;
      }))
      (λ apart t. same_at w (at_controller w here act) (controller_elsewhere w node here act same apart) h)
    where
      same_node : here.0 ≡ node.0 → here ≡ node
      same_node own = λ i. record { 0 = own i }

  -- *A switch acts*, and where it is this one, keeps it
  abbrev pub KeptBy : World → (switches.ActedSwitch → switches.ActedSwitch) → Type 0
  KeptBy w act = (site : Site) → site_at w node ≡ Some site → P site.switch.crossbar.branches
      → P (act (record { switch = site.switch; notes = w.notes; numbers = w.numbers })).switch.crossbar.branches

  switch_at : (w : World) (here : NodeId) (act : switches.ActedSwitch → switches.ActedSwitch) → (here.0 ≡ node.0 → KeptBy w act) → At w node P → At (at_switch w here act) node P
  switch_at w here act keeps h = by_eq here.0 node.0
      (λ own t. subst (λ (n : NodeId). At (at_switch w n act) node P) (sym (same_node own)) (record {
        site = record h.site { switch = (act (record { switch = h.site.switch; notes = w.notes; numbers = w.numbers })).switch };
        found = switch_here w node h.site h.found act;
        kept = keeps own h.site h.found h.kept;
      }))
      (λ apart t. same_at w (at_switch w here act) (switch_elsewhere w node here act apart) h)
    where
      same_node : here.0 ≡ node.0 → here ≡ node
      same_node own = λ i. record { 0 = own i }

-- *What is read* as a cell comes, told of the switch of its node
module _ (w : World) (node : NodeId) (site : Site) (found : site_at w node ≡ Some site) (cell : Cell) (cells : List Cell) (queue : queue_at w (Down node) ≡ cell ∷ cells)
    (on : is_gsmp control_port cell.header.channel ≡ true) where
  itself : (n : ℕ) → (n == n) ≡ true
  itself n = grind (arith, nat_tests)

  abbrev taker : Reassembler
  taker = OfSwitch node

  abbrev ended_of : Option Reassembly → Option Cell → List Cell
  ended_of r came = option_map_or (λ (t : Taken). t.ended) (taken_at w taker r came) []

  abbrev gathered : Option Site → Option Reassembly
  gathered o = option_map (λ (s : Site). s.switch.reassembly) o

  ended_there : ended_at w (Carry (Down node)) taker ≡ (taken w.notes (nat_lt 0 (switches.free_slots site.switch)) site.switch.reassembly cell).ended
  ended_there =
      ap (λ (q : List Cell). ended_of (gathered (site_at w node)) (cell_for taker (switch_arrival node q))) queue
      ∙ (ap (λ (b : Bool). ended_of (gathered (site_at w node)) (cell_for taker (if b then Some (record { taker = OfSwitch node; cell = cell }) else None))) on
      ∙ (ap (λ (b : Bool). ended_of (gathered (site_at w node)) (if b then Some cell else None)) (itself node.0)
      ∙ (ap (λ (o : Option Site). ended_of (gathered o) (Some cell)) found
      ∙ ap (λ (o : Option Site). (taken w.notes (option_map_or (λ (s : Site). nat_lt 0 (switches.free_slots s.switch)) o false) site.switch.reassembly cell).ended) found)))

  -- by the switch once the cell has left its queue, whatever the notes
  pub reads_there : (now : Site) → site_at (with_queue (put_away w) (Down node) cells) node ≡ Some now
      → ((message : Message) → IsRead w node message → AsksKeeping message)
      → ReadsKeeping (record { switch = now.switch; notes = (put_away w).notes; numbers = w.numbers }) cell
  reads_there now there keeps payload message passes read =
      let left : site_at (with_queue_of (put_away w) (Down node) cells (Some site)) node ≡ Some (with_queue_in site (Down node) cells) = site_left (put_away w) (Down node) node site cells found refl in
      let same : now ≡ with_queue_in site (Down node) cells = one_site now (with_queue_in site (Down node) cells)
      (sym there ∙ (ap (λ (o : Option Site). site_at (with_queue_of (put_away w) (Down node) cells o) node) found ∙ left)) in
      let switch_same : now.switch ≡ site.switch = ap (λ (s : Site). s.switch) same in
      let ended : (taken (put_away w).notes (nat_lt 0 (switches.free_slots now.switch)) now.switch.reassembly cell).ended ≡ ended_at w (Carry (Down node)) taker =
      ap (λ (s : Switch). (taken (put_away w).notes (nat_lt 0 (switches.free_slots s)) s.reassembly cell).ended) switch_same
      ∙ ((same_left (put_away w).notes w.notes (nat_lt 0 (switches.free_slots site.switch)) site.switch.reassembly cell).1 ∙ sym ended_there) in
      keeps message (record { payload = payload; whole = ap (λ (cs : List Cell). payload_in (octets_of cs)) (sym ended) ∙ passes; read = read })

-- *Where a switch reads nothing else*, and isn't restarted
module _ (w : World) (node : NodeId) where
  abbrev pub KeepsHere : Event → Type 0
  KeepsHere (Carry (Down here)) = here.0 ≡ node.0 → (message : Message) → IsRead w here message → AsksKeeping message
  KeepsHere (RestartSwitch here) = here.0 ≡ node.0 → ⊥
  KeepsHere event = Unit {0}

  reads_at : (place : Place) → KeepsHere (Carry place) → (here : NodeId) → place ≡ Down here → here.0 ≡ node.0 → (message : Message) → IsRead w here message → AsksKeeping message
  reads_at (Down there) reads here is own = subst (λ (n : NodeId). n.0 ≡ node.0 → (message : Message) → IsRead w n message → AsksKeeping message) (down_node there here is) reads own
    where
      down_node : (x y : NodeId) → Down x ≡ Down y → x ≡ y
      down_node x y e = cc
  reads_at (Up there) reads here is own = absurd (cc is)
  reads_at (Out there port) reads here is own = absurd (cc is)

-- *Each event* keeps what its requests and the cells that pass keep
module _ (P : Branches → Type 0) (keeps : (request : Request) → KeepsWays request → (c : Changed) → P c.branches → P (branches_after c request).branches)
    (again : (m : Branches) (k : End) (was b : Branch) → get m k ≡ Some was → b.output ≡ was.output → P m → P (insert m k b)) (topology : Topology) (w : World) (node : NodeId) where
  abbrev u : World
  u = put_away w

  abbrev Kept : World → Type 0
  Kept v = At v node P

  injected_at : (octets : List ℕ) (here : NodeId) (o : Option Refusal) → Kept u → Kept (injects_by (record u { sent = u.sent + 1 }) here octets o)
  injected_at octets here (Some name) h = record { site = h.site; found = h.found; kept = h.kept }
  injected_at octets here None h = controller_at P node (record u { sent = u.sent + 1 }) here (λ a. injected a (u.sent + 1) octets) (λ a. (injected_paces 1 a (u.sent + 1) octets (omega arith)).node)
      (record { site = h.site; found = h.found; kept = h.kept })

  -- *A cell is carried*
  out_at : (v : World) (cell : Cell) (o : Option LinkEnd) → ((end : LinkEnd) → o ≡ Some end → 1 ≤ end.port.0) → Kept v → Kept (arrives_at v cell o)
  out_at v cell None links h = h
  out_at v cell (Some end) links h = switch_at P node v end.node (λ a. switch.cell_comes a end.port cell)
      (λ own site found. cell_keeps P keeps again (record { switch = site.switch; notes = v.notes; numbers = v.numbers }) end.port cell
      (λ on. absurd (true≢false (sym on ∙ link_not_gsmp end.port (links end refl) cell.header.channel)))) h

  carried_at : IsTopology topology → (place : Place) (q : List Cell) → queue_at w place ≡ q
      → ((here : NodeId) → place ≡ Down here → here.0 ≡ node.0 → (message : Message) → IsRead w here message → AsksKeeping message) → Kept u → Kept (carries_head topology u place q)
  carried_at is place [] queue reads h = h
  carried_at is (Up here) (cell ∷ cells) queue reads h =
      controller_at P node (with_queue u (Up here) cells) here (λ a. controller.cell_comes a cell) (λ a. (cell_same cell a).0) (set_at P node u (Up here) cells h)
  carried_at is (Out here port) (cell ∷ cells) queue reads h =
      out_at (with_queue u (Out here port) cells) cell (peer_of topology here port) (λ end led. (peer_back topology is (record { node = here; port = port }) end led).port.0) (set_at P node u (Out here port) cells h)
  carried_at is (Down here) (cell ∷ cells) queue reads h =
      switch_at P node (with_queue u (Down here) cells) here (λ a. switch.cell_comes a control_port cell)
      (λ own site found. cell_keeps P keeps again (record { switch = site.switch; notes = (with_queue u (Down here) cells).notes; numbers = (with_queue u (Down here) cells).numbers }) control_port cell
      (λ on. told own site found on)) (set_at P node u (Down here) cells h)
    where
      same_node : here.0 ≡ node.0 → here ≡ node
      same_node own = λ i. record { 0 = own i }

      by_notes : (o : Option Site) → ((with_queue_of u (Down here) cells o).notes ≡ u.notes) × ((with_queue_of u (Down here) cells o).numbers ≡ u.numbers)
      by_notes None = (refl, refl)
      by_notes (Some site) = (refl, refl)

      told : here.0 ≡ node.0 → (site : Site) → site_at (with_queue u (Down here) cells) node ≡ Some site → is_gsmp control_port cell.header.channel ≡ true
          → ReadsKeeping (record { switch = site.switch; notes = (with_queue u (Down here) cells).notes; numbers = (with_queue u (Down here) cells).numbers }) cell
      told own site found on =
          let here_found : site_at w here ≡ Some h.site = ap (λ (n : NodeId). site_at w n) (same_node own) ∙ h.found in
          let there : site_at (with_queue u (Down here) cells) here ≡ Some site = ap (λ (n : NodeId). site_at (with_queue u (Down here) cells) n) (same_node own) ∙ found in
          subst (λ (notes : Journal). ReadsKeeping (record { switch = site.switch; notes = notes; numbers = (with_queue u (Down here) cells).numbers }) cell) (sym (by_notes (site_at u here)).0)
          (reads_there w here h.site here_found cell cells queue on site there (reads here refl own))

  forged_at : (v : World) (place : Place) (channel : Channel) (mark : Mark) (payload : List ℕ) → Kept v → Kept (forges_at v place channel mark payload)
  forged_at v (Down here) channel mark payload h = controller_at P node v here (λ a. sends a channel mark payload) (λ a. (sent_same channel mark payload a).0) h
  forged_at v (Up here) channel mark payload h = switch_at P node v here (λ a. switch.forged a control_port channel mark payload)
      (λ own site found. sends_keeps P (record { switch = site.switch; notes = v.notes; numbers = v.numbers }) control_port channel mark payload) h
  forged_at v (Out here port) channel mark payload h = switch_at P node v here (λ a. switch.forged a port channel mark payload)
      (λ own site found. sends_keeps P (record { switch = site.switch; notes = v.notes; numbers = v.numbers }) port channel mark payload) h

  lost_at : (place : Place) (q : List Cell) → Kept u → Kept (loses_head u place q)
  lost_at place [] h = h
  lost_at place (cell ∷ cells) h = (let s : Kept (with_queue u place cells) = set_at P node u place cells h in record { site = s.site; found = s.found; kept = s.kept })

  pub event_at : IsTopology topology → (event : Event) → KeepsHere w node event → At w node P → At (next topology w event) node P
  event_at is event ok h = told (by event ok (record { site = h.site; found = h.found; kept = h.kept }))
    where
      by : (event : Event) → KeepsHere w node event → Kept u → Kept (acts topology u event)
      by (Inject here octets) ok k = injected_at octets here (inject_refusal octets) k
      by (Carry place) ok k = carried_at is place (queue_at w place) refl (reads_at w node place ok) k
      by (Lose place) ok k = lost_at place (queue_at u place) k
      by (Tick here) ok k = controller_at P node u here ticks (λ a. (ticks_paces 0 a).node) k
      by (TickSwitch here) ok k = switch_at P node u here tick_comes (λ own site found. tick_keeps P (record { switch = site.switch; notes = u.notes; numbers = u.numbers })) k
      by (Restart here) ok k = controller_at P node u here node_restarts (λ a. (restarts_paces 0 a).node) k
      by (RestartSwitch here) ok k = switch_at P node u here restarted (λ own site found. absurd (ok own)) k
      by (Forge place channel payload) ok k = forged_at (record (note u (Forged place)) { numbers = with_control u.numbers }) place channel (next_control u.numbers) payload (record { site = k.site; found = k.found; kept = k.kept })
      by (Route here change) ok k = controller_at P node u here (λ a. change_comes a change) (λ a. (change_changes 0 a change).node) k

      told : Kept (acts topology u event) → At (next topology w event) node P
      told k = record { site = k.site; found = k.found; kept = k.kept }
