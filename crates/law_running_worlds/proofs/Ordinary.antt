-- each event that comes is an ordinary one

use Rattle.std.proofs.Common.{◌≡◌, ◌≢◌, ℕ, ◌+◌, ◌<◌, ◌≤◌, Bool, true, false, true≢false, List, [], ◌∷◌, ◌++◌, length, Option, None, Some, refl, sym, ◌∙◌, ap, subst, arith, if◌then◌else◌}
use Rattle.std.specs.Prelude.{◌==◌, ◌&&◌, ◌||◌, Contains, is_some, nat_le, nat_lt}
use Rattle.std.specs.List.{list_any}
use Rattle.std.proofs.lemmas.Bool.Decides.{nat_tests}
use Rattle.law_branch_shapes.specs.world_model.Words.{Channel, NodeId, PortNo, Place, Down, Up, Out, Mark, next_control, with_control, Cell, Record, Forged, Loss, PoolFull, noted, frame_cells, made, Controller, linked_at, ForGsmp, port_on, on_link, taker_at, Topology, IsTopology, IsPlace, CanCome, World, Site, site_at, controller_acts, switch_acts, queue_at, Past, frames_of, next, put_away, is_wild, IsTame}
use Rattle.law_branch_shapes.specs.world_model.frame_model.Sending.{Sender}
use Rattle.law_frame_readings.proofs.law_port_facts.Keyed.{on_both}
use Rattle.law_branch_shapes.specs.world_model.Switch as switches
use Rattle.law_branch_shapes.specs.world_model.Conduct as switch
use Rattle.law_branch_shapes.specs.world_model.Controller.{free_slots}
use Rattle.law_branch_shapes.specs.world_model.Sending.{with_cells, sends}
use Rattle.law_branch_shapes.specs.world_model.network_model.declared.event.Event.{Event}
use Rattle.law_branch_shapes.specs.world_model.network_model.declared.event.Event.TheVariants.{Inject, Carry, Lose, Tick, TickSwitch, Restart, RestartSwitch, Forge, Route}
use Rattle.law_branch_shapes.specs.world_model.network_model.declared.link.LinkEnd.{LinkEnd}
use Rattle.law_branch_shapes.specs.world_model.Topology.{peer_of}
use Rattle.law_branch_shapes.proofs.law_causes.Shown.{IsPeer, peer_back}
use Rattle.law_input_events.specs.Coming.{IsNext, IsFar, CanCarry, CanLose, IsOrdinary}
use Rattle.law_frame_readings.specs.law_world_views.Marks.{Heading, heading_at, Means, early, control, local, plain, labelled}
use Rattle.law_frame_readings.specs.law_world_views.Between.{HasMeanings, HasNumbers}
use Rattle.law_running_worlds.specs.Running.{ChainsAreTrue}
use Rattle.law_running_worlds.proofs.Lists.{among_head}

-- *The last cell of a frame* that is to be sent on: no later frame is made
some_packet : (n : ℕ) → 0 < n → n ≡ 0 → ⊥
some_packet n some e = absurd (omega (arith, some, e))

control_is : (n k : ℕ) → n ≡ 0 → 0 < k → ((n == 0) && nat_lt 0 k) ≡ true
control_is n k e some = grind (arith, nat_tests)

module _ (past : Past) (mark : Mark) (counted : mark.packet ≡ 0 → 0 < mark.frame) where
  of_control : mark.packet ≡ 0 → IsNext (frames_of past) mark
  of_control e other = absurd (true≢false (sym (control_is mark.packet mark.frame e (counted e)) ∙ other))

  next_of : (to : Heading) (last : Bool) → last ≡ true → Means past to last mark → IsNext (frames_of past) mark
  next_of to last is (early default over packet) = absurd (true≢false (sym is ∙ over))
  next_of to last is (control default packet source message under) = of_control packet
  next_of to last is (local default none packet) = of_control packet
  next_of to last is (plain default over far end packet under come newest) = λ other. (some_packet mark.packet come.counted, newest (mark.frame + 1) (omega arith))
  next_of to last is (labelled other far end flow bound payload packet under carries come newest) = λ free. (some_packet mark.packet come.counted, newest is (mark.frame + 1) (omega arith))

-- *Ports of links*
module _ (topology : Topology) (is : IsTopology topology) where
  port_above : (node : NodeId) (port : PortNo) (o : Option LinkEnd) → peer_of topology node port ≡ o → is_some o ≡ true → 1 ≤ port.0
  port_above node port None found e = absurd (cc e)
  port_above node port (Some far) found e = (let p : IsPeer topology (record { node = node; port = port }) far = peer_back topology is (record { node = node; port = port }) far found in p.own.0)

  far_above : (node : NodeId) (port : PortNo) (o : Option LinkEnd) → peer_of topology node port ≡ o → IsFar o
  far_above node port None found = tt
  far_above node port (Some far) found = (let p : IsPeer topology (record { node = node; port = port }) far = peer_back topology is (record { node = node; port = port }) far found in p.port.0)

-- *A forged frame* is recorded
wild_more : (xs : List Record) (x : Record) → list_any is_wild xs ≡ true → list_any is_wild (xs ++ x ∷ []) ≡ true
wild_more [] x e = absurd (cc e)
wild_more (y ∷ xs) x e = by (is_wild y) e (wild_more xs x)
  where
    by : (b : Bool) → (b || list_any is_wild xs) ≡ true → (list_any is_wild xs ≡ true → list_any is_wild (xs ++ x ∷ []) ≡ true) → (b || list_any is_wild (xs ++ x ∷ [])) ≡ true
    by true e rest = refl
    by false e rest = rest e

module _ (topology : Topology) (w : World) where
  abbrev marked : Place → World
  marked place = record (put_away w) { notes = noted (put_away w).notes (Forged place); numbers = with_control w.numbers }

  by_controller : (place : Place) (channel : Channel) (mark : Mark) (payload : List ℕ) (o : Option Site) → list_any is_wild (controller_acts (marked place) o (λ a. sends a channel mark payload)).notes.records ≡ true
  by_controller place channel mark payload None = refl
  by_controller place channel mark payload (Some site) = on_both (λ (s : Sender Controller). list_any is_wild s.notes.records ≡ true) (nat_le (length (frame_cells channel mark payload)) (free_slots site.controller))
      (record { queues = with_cells site.controller (frame_cells channel mark payload); notes = made (marked place).notes mark payload })
      (record { queues = site.controller; notes = noted (made (marked place).notes mark payload) (Loss mark PoolFull) }) refl refl

  by_switch : (place : Place) (port : PortNo) (channel : Channel) (mark : Mark) (payload : List ℕ) (o : Option Site) → list_any is_wild (switch_acts (marked place) o (λ a. switch.forged a port channel mark payload)).notes.records ≡ true
  by_switch place port channel mark payload None = refl
  by_switch place port channel mark payload (Some site) = on_both (λ (s : Sender switches.Switch). list_any is_wild s.notes.records ≡ true) (nat_le (length (frame_cells channel mark payload)) (switches.free_slots site.switch))
      (record { queues = switch.with_cells site.switch port (frame_cells channel mark payload); notes = made (marked place).notes mark payload })
      (record { queues = site.switch; notes = noted (made (marked place).notes mark payload) (Loss mark PoolFull) }) refl refl

  forged_wild : (place : Place) (channel : Channel) (payload : List ℕ) → list_any is_wild (next topology w (Forge place channel payload)).notes.records ≡ true
  forged_wild (Down node) channel payload = by_controller (Down node) channel (next_control w.numbers) payload (site_at w node)
  forged_wild (Up node) channel payload = by_switch (Up node) switches.control_port channel (next_control w.numbers) payload (site_at w node)
  forged_wild (Out node port) channel payload = by_switch (Out node port) port channel (next_control w.numbers) payload (site_at w node)

-- *Each event*
module _ (topology : Topology) (past : Past) (same : past.topology ≡ topology) (is : IsTopology topology) (meanings : HasMeanings past) (numbers : HasNumbers past.now) where
  abbrev w : World
  w = past.now

  carried : (place : Place) → IsPlace topology place → ChainsAreTrue w (Carry place) → CanCarry topology w place
  carried (Down node) there chains = λ cell cells site queue found here ended. chains.at_switch node site cell cells refl queue found here ended
  carried (Up node) there chains = λ cell cells site queue found. (
    (λ other last. next_of past cell.mark (λ e. numbers.counted (Up node) cell (among queue) e) (heading_at past.topology (Up node) cell.header.channel) cell.header.last last
        (meanings (Up node) cell (subst (λ (t : Topology). IsPlace t (Up node)) (sym same) there) (among queue))),
    (λ here ended. chains.at_controller node site ForGsmp cell cells refl queue found (ap (λ (b : Bool). if b then Some ForGsmp else taker_at (linked_at site.controller (port_on cell.header.channel)) (on_link cell.header.channel)) here) ended),
  )
    where
      among : {cell : Cell} {cells : List Cell} → queue_at w (Up node) ≡ cell ∷ cells → Contains (queue_at w (Up node)) cell
      among {cell} {cells} queue = subst (λ (q : List Cell). Contains q cell) (sym queue) (among_head cell cells)
  carried (Out node port) there chains = (port_above topology is node port (peer_of topology node port) refl there.1, far_above topology is node port (peer_of topology node port) refl)

  lost : (place : Place) → IsPlace topology place → CanLose place
  lost (Down node) there = tt
  lost (Up node) there = tt
  lost (Out node port) there = port_above topology is node port (peer_of topology node port) refl there.1

  pub ordinary : (event : Event) → CanCome topology w event → IsTame (next topology w event).notes.records → ChainsAreTrue w event → IsOrdinary topology w event
  ordinary (Inject node octets) can tame chains = tt
  ordinary (Carry place) can tame chains = carried place can.meant chains
  ordinary (Lose place) can tame chains = lost place can.meant
  ordinary (Tick node) can tame chains = tt
  ordinary (TickSwitch node) can tame chains = tt
  ordinary (Restart node) can tame chains = tt
  ordinary (RestartSwitch node) can tame chains = tt
  ordinary (Forge place channel payload) can tame chains = absurd (true≢false (sym (forged_wild topology w place channel payload) ∙ tame))
  ordinary (Route node change) can tame chains = tt
