-- each event keeps what is so of a world in a run

use Rattle.std.proofs.Common.{◌≡◌, ℕ, ◌+◌, ◌≤◌, List, [], ◌∷◌, length, Option, None, Some, refl, sym, ◌∙◌, ap, subst, arith}
use Rattle.law_actor_pace.specs.world_model.Words.{NodeId, PortNo, Place, Down, Up, Out, Channel, GivenOut, next_control, with_control, Cell, Forged, Refusal, control_port, inject_refusal, injected, node_restarts, change_comes, queue_at, with_queue, arrives, arrives_at, carries_head, forges, injects, injects_by, loses_head, Topology, World}
use Rattle.law_actor_pace.specs.world_model.Conduct as switch
use Rattle.law_actor_pace.specs.world_model.Controller as controllers
use Rattle.law_actor_pace.specs.world_model.Sending.{sends}
use Rattle.law_actor_pace.specs.world_model.Cells as controller
use Rattle.law_actor_pace.specs.world_model.Ticks.{ticks}
use Rattle.law_actor_pace.specs.world_model.network_model.declared.event.Event.{Event}
use Rattle.law_actor_pace.specs.world_model.network_model.declared.event.Event.TheVariants.{Inject, Carry, Lose, Tick, TickSwitch, Restart, RestartSwitch, Forge, Route}
use Rattle.law_actor_pace.specs.world_model.network_model.declared.link.LinkEnd.{LinkEnd}
use Rattle.law_actor_pace.specs.world_model.Step.{acts, note}
use Rattle.law_actor_pace.specs.world_model.Topology.{peer_of}
use Rattle.law_actor_pace.specs.world_model.World.{at_controller, at_switch}
use Rattle.law_actor_pace.proofs.Paces as controller_pace
use Rattle.law_actor_pace.proofs.Controllers.{cell_follows, injected_paces, ticks_paces, restarts_paces, change_changes}
use Rattle.law_actor_pace.proofs.Switches as switch_pace
use Rattle.law_world_pace.specs.Running.{most_frame, AreRunning}
use Rattle.law_world_pace.proofs.Running.{Keeps, Leads, acting, all_later, controller_keeps, queue_keeps, queue_up, switch_keeps}

-- what the whole of an event leaves, but for its count
pub record Goes (t : Topology) (w after : World) : Type 0 where
  pub sites : AreRunning t (w.events + 1) 1 after.sites
  pub size : length after.sites ≡ length w.sites
  pub sent : after.sent ≤ w.sent + 1
  pub stepped : after.events ≡ w.events
  pub tally : after.tally ≡ w.tally

-- *What a controller leads to*
paces_lead : (floor most : ℕ) (a b : controllers.Acted) → floor ≤ most → b.numbers.controls ≤ most → controller_pace.Paces floor a b → Leads most a b
paces_lead floor most a b low few p = record { node = p.node; ports = p.ports; queue = p.queue most low few; changes = omega (arith, p.taken, ap length p.waiting) }

follows_lead : (floor most : ℕ) (a b : controllers.Acted) → floor ≤ most → b.numbers.controls ≤ most → controller_pace.Follows floor a b → Leads most a b
follows_lead floor most a b low few f = record { node = f.node; ports = f.ports; queue = f.queue most low few; changes = omega (arith, f.changes) }

module _ (t : Topology) (w : World) (h : AreRunning t w.events 1 w.sites) where
  abbrev most : ℕ
  most = most_frame (w.events + 1)

  going : (after : World) → Keeps t (w.events + 1) w after → Goes t w after
  going after k = record { sites = k.sites; size = k.size; sent = omega (arith, k.sent); stepped = k.stepped; tally = k.tally }

  resting : (after : World) → after.sites ≡ w.sites → after.sent ≤ w.sent + 1 → after.events ≡ w.events → after.tally ≡ w.tally → Goes t w after
  resting after sites sent events tally = record {
    sites = subst (AreRunning t (w.events + 1) 1) (sym sites) (all_later t w.events 1 w.sites h);
    size = ap length sites;
    sent = sent;
    stepped = events;
    tally = tally;
  }

  -- *A packet*
  injects_go : (node : NodeId) (octets : List ℕ) → (injects w node octets).numbers.controls ≤ most_frame (w.events + 1) → Goes t w (injects w node octets)
  injects_go node octets few = by_refusal (inject_refusal octets) few
    where
      numbered : World
      numbered = record w { sent = w.sent + 1 }

      by_refusal : (o : Option Refusal) → (injects_by (record w { sent = w.sent + 1 }) node octets o).numbers.controls ≤ most_frame (w.events + 1) → Goes t w (injects_by (record w { sent = w.sent + 1 }) node octets o)
      by_refusal (Some name) few = resting (injects_by (record w { sent = w.sent + 1 }) node octets (Some name)) refl (omega arith) refl refl
      by_refusal None few =
          let v : World = record w { sent = w.sent + 1 } in
          let k : Keeps t (w.events + 1) v (at_controller v node (λ a. injected a v.sent octets)) = controller_keeps t w.events v node (λ a. injected a v.sent octets) h
          (λ site e bound. paces_lead 1 (most_frame (w.events + 1)) (acting t w.events v site) (injected (acting t w.events v site) v.sent octets) (omega arith) bound (injected_paces 1 (acting t w.events v site) v.sent octets (omega arith))) few in
          record { sites = k.sites; size = k.size; sent = omega (arith, k.sent); stepped = k.stepped; tally = k.tally }

  -- *A cell*
  behind : (v after : World) → Keeps t w.events w v → Keeps t (w.events + 1) v after → Goes t w after
  behind v after k l = record { sites = l.sites; size = l.size ∙ k.size; sent = omega (arith, l.sent, k.sent); stepped = l.stepped ∙ k.stepped; tally = l.tally ∙ k.tally }

  left : (v : World) → Keeps t w.events w v → Goes t w v
  left v k = record { sites = all_later t w.events 1 v.sites k.sites; size = k.size; sent = omega (arith, k.sent); stepped = k.stepped; tally = k.tally }

  to_switch : (v : World) (node : NodeId) (port : PortNo) (cell : Cell) → Keeps t w.events w v → cell.mark.frame ≤ most_frame w.events
      → (at_switch v node (λ a. switch.cell_comes a port cell)).numbers.controls ≤ most_frame (w.events + 1) → Goes t w (at_switch v node (λ a. switch.cell_comes a port cell))
  to_switch v node port cell k low few = behind v (at_switch v node (λ a. switch.cell_comes a port cell)) k
      (switch_keeps t w.events cell.mark.frame v node (λ a. switch.cell_comes a port cell) k.sites (omega (arith, low)) (λ a e. switch_pace.cell_paces cell.mark.frame a port cell (omega arith)) few)

  to_peer : (v : World) (cell : Cell) (o : Option LinkEnd) → Keeps t w.events w v → cell.mark.frame ≤ most_frame w.events
      → (arrives_at v cell o).numbers.controls ≤ most_frame (w.events + 1) → Goes t w (arrives_at v cell o)
  to_peer v cell None k low few = left v k
  to_peer v cell (Some far) k low few = to_switch v far.node far.port cell k low few

  arrives_go : (v : World) (place : Place) (cell : Cell) → Keeps t w.events w v → cell.mark.frame ≤ most_frame w.events
      → (arrives t v place cell).numbers.controls ≤ most_frame (w.events + 1) → Goes t w (arrives t v place cell)
  arrives_go v (Down node) cell k low few = to_switch v node control_port cell k low few
  arrives_go v (Up node) cell k low few = behind v (at_controller v node (λ a. controller.cell_comes a cell)) k
      (controller_keeps t w.events v node (λ a. controller.cell_comes a cell) k.sites
      (λ site e bound. follows_lead (cell.mark.frame + 1) (most_frame (w.events + 1)) (acting t w.events v site) (controller.cell_comes (acting t w.events v site) cell) (omega (arith, low)) bound
      (cell_follows (cell.mark.frame + 1) (acting t w.events v site) cell (omega arith))) few)
  arrives_go v (Out node port) cell k low few = to_peer v cell (peer_of t node port) k low few

  carries_go : (place : Place) → (carries_head t w place (queue_at w place)).numbers.controls ≤ most_frame (w.events + 1) → Goes t w (carries_head t w place (queue_at w place))
  carries_go place few = by_queue (queue_at w place) refl few
    where
      by_queue : (q : List Cell) → queue_at w place ≡ q → (carries_head t w place q).numbers.controls ≤ most_frame (w.events + 1) → Goes t w (carries_head t w place q)
      by_queue [] e few = resting w refl (omega arith) refl refl
      by_queue (cell ∷ cells) e few =
          let up = subst (Rattle.law_actor_pace.specs.Pace.AreUpTo (most_frame w.events)) e (queue_up t w.events w place h) in
          arrives_go (with_queue w place cells) place cell (queue_keeps t w.events w place cells up.1 h) up.0 few

  loses_go : (place : Place) → Goes t w (loses_head w place (queue_at w place))
  loses_go place = by_queue (queue_at w place) refl
    where
      by_queue : (q : List Cell) → queue_at w place ≡ q → Goes t w (loses_head w place q)
      by_queue [] e = resting w refl (omega arith) refl refl
      by_queue (cell ∷ cells) e =
          let up = subst (Rattle.law_actor_pace.specs.Pace.AreUpTo (most_frame w.events)) e (queue_up t w.events w place h) in
          let k = queue_keeps t w.events w place cells up.1 h in
          record { sites = all_later t w.events 1 (with_queue w place cells).sites k.sites; size = k.size; sent = omega (arith, k.sent); stepped = k.stepped; tally = k.tally }

  -- *A forged frame*
  forges_go : (place : Place) (channel : Channel) (payload : List ℕ) → (forges w place channel payload).numbers.controls ≤ most_frame (w.events + 1) → Goes t w (forges w place channel payload)
  forges_go (Down node) channel payload few =
      let v : World = record (note w (Forged (Down node))) { numbers = with_control w.numbers } in
      let k : Keeps t (w.events + 1) v (forges w (Down node) channel payload) = controller_keeps t w.events v node (λ a. sends a channel (next_control w.numbers) payload) h
      (λ site e bound. paces_lead 0 (most_frame (w.events + 1)) (acting t w.events v site) (sends (acting t w.events v site) channel (next_control w.numbers) payload) (omega arith) bound
      (controller_pace.sends_paces 0 (acting t w.events v site) channel (next_control w.numbers) payload (λ most from le. le))) few in
      record { sites = k.sites; size = k.size; sent = omega (arith, k.sent); stepped = k.stepped; tally = k.tally }
  forges_go (Up node) channel payload few =
      let v : World = record (note w (Forged (Up node))) { numbers = with_control w.numbers } in
      let k : Keeps t (w.events + 1) v (forges w (Up node) channel payload) = switch_keeps t w.events 0 v node (λ a. switch.forged a control_port channel (next_control w.numbers) payload) h (omega arith)
      (λ a e. switch_pace.sends_paces 0 a control_port channel (next_control w.numbers) payload (λ most from le. omega (arith, le, ap (λ (n : GivenOut). n.controls) e))) few in
      record { sites = k.sites; size = k.size; sent = omega (arith, k.sent); stepped = k.stepped; tally = k.tally }
  forges_go (Out node port) channel payload few =
      let v : World = record (note w (Forged (Out node port))) { numbers = with_control w.numbers } in
      let k : Keeps t (w.events + 1) v (forges w (Out node port) channel payload) = switch_keeps t w.events 0 v node (λ a. switch.forged a port channel (next_control w.numbers) payload) h (omega arith)
      (λ a e. switch_pace.sends_paces 0 a port channel (next_control w.numbers) payload (λ most from le. omega (arith, le, ap (λ (n : GivenOut). n.controls) e))) few in
      record { sites = k.sites; size = k.size; sent = omega (arith, k.sent); stepped = k.stepped; tally = k.tally }

  -- *Every event*
  pub acts_go : (e : Event) → (acts t w e).numbers.controls ≤ most_frame (w.events + 1) → Goes t w (acts t w e)
  acts_go (Inject node octets) few = injects_go node octets few
  acts_go (Carry place) few = carries_go place few
  acts_go (Lose place) few = loses_go place
  acts_go (Tick node) few = going (at_controller w node ticks) (controller_keeps t w.events w node ticks h
      (λ site e bound. paces_lead 0 (most_frame (w.events + 1)) (acting t w.events w site) (ticks (acting t w.events w site)) (omega arith) bound (ticks_paces 0 (acting t w.events w site))) few)
  acts_go (TickSwitch node) few = going (at_switch w node switch.tick_comes) (switch_keeps t w.events 0 w node switch.tick_comes h (omega arith) (λ a e. switch_pace.tick_paces 0 a) few)
  acts_go (Restart node) few = going (at_controller w node node_restarts) (controller_keeps t w.events w node node_restarts h
      (λ site e bound. paces_lead 0 (most_frame (w.events + 1)) (acting t w.events w site) (node_restarts (acting t w.events w site)) (omega arith) bound (restarts_paces 0 (acting t w.events w site))) few)
  acts_go (RestartSwitch node) few = going (at_switch w node switch.restarted) (switch_keeps t w.events 0 w node switch.restarted h (omega arith) (λ a e. switch_pace.restart_paces 0 a) few)
  acts_go (Forge place channel payload) few = forges_go place channel payload few
  acts_go (Route node change) few = going (at_controller w node (λ a. change_comes a change)) (controller_keeps t w.events w node (λ a. change_comes a change) h
      (λ site e bound. (let f = change_changes 0 (acting t w.events w site) change in record { node = f.node; ports = f.ports; queue = f.queue (most_frame (w.events + 1)) (omega arith) bound; changes = omega (arith, f.changes) })) few)
