-- each event takes at most a head, and puts cells at the ends of the queues of the actor that it reaches

use Rattle.std.proofs.Common.{◌≡◌, ◌≢◌, ℕ, ◌+◌, ◌==◌, Bool, true, false, true≢false, List, [], ◌∷◌, Option, None, Some, refl, sym, ◌∙◌, ap, subst, arith, if◌then◌else◌}
use Rattle.std.specs.Prelude.{drop}
use Rattle.std.proofs.lemmas.Bool.Decides.{nat_tests}
use Rattle.law_actor_pace.specs.world_model.Words.{NodeId, Place, Down, Up, Out, Channel, Mark, next_control, with_control, Cell, Forged, Refusal, control_port, inject_refusal, injected, node_restarts, change_comes, IsTopology, place_node, queue_at, queue_number, same_queue, with_queue, next, put_away, injects_by, arrives_at, arrives, carries_head, loses_head, forges_at, Topology, World, Site}
use Rattle.law_actor_pace.specs.world_model.Conduct as switch
use Rattle.law_actor_pace.specs.world_model.Sending.{sends}
use Rattle.law_actor_pace.specs.world_model.Cells as controller
use Rattle.law_actor_pace.specs.world_model.Ticks.{ticks}
use Rattle.law_actor_pace.specs.world_model.network_model.declared.event.Event.{Event}
use Rattle.law_actor_pace.specs.world_model.network_model.declared.event.Event.TheVariants.{Inject, Carry, Lose, Tick, TickSwitch, Restart, RestartSwitch, Forge, Route}
use Rattle.law_actor_pace.specs.world_model.network_model.declared.link.LinkEnd.{LinkEnd}
use Rattle.law_actor_pace.specs.world_model.Step.{note, acts}
use Rattle.law_actor_pace.specs.world_model.Topology.{peer_of}
use Rattle.telling_model.specs.Passing.{left, left_from, source_of}
use Rattle.law_passing.specs.telling_model.declared.reached.Reached.{Reached}
use Rattle.law_passing.specs.telling_model.declared.reached.Reached.TheVariants as actors
use Rattle.law_passing.specs.Law.{QueuesChangeByPassing, QueuesAreTheActors, SourcesGetNothing}
use Rattle.law_passing.specs.Reached.{owner_of, switch_at, led_to, carried_to, reached, owns}
use Rattle.law_passing.proofs.Controllers.{cell_adds, injected_adds, ticks_adds, restarts_adds, change_adds}
use Rattle.law_passing.proofs.Fronts.{Grows, grows_same, grown_to, grown, nothing_added}
use Rattle.law_passing.proofs.Links.{far_apart}
use Rattle.law_passing.proofs.Queues.{waits, Passes, rests, controller_passes, switch_passes, by_queue, one_queue, taken_is}
use Rattle.law_passing.proofs.Rules as controller_rules
use Rattle.law_passing.proofs.Switches as switch_rules

-- *An event came*: behind what it left in each queue stands what it put there
record Came (w : World) (source : Option Place) (who : Reached) (sites : List Site) : Type 0 where
  grows : (place : Place) → Grows (left_from w source place) (waits sites place)
  away : (place : Place) → owns who place ≡ false → waits sites place ≡ left_from w source place

-- nothing was taken
came_by : (w : World) (who : Reached) (sites : List Site) → Passes who w.sites sites → Came w None who sites
came_by w who sites p = record { grows = λ place. p.grows place; away = λ place e. p.away place e }

module _ (t : Topology) (w : World) (source : Place) where
  -- nor was there a cell
  none_left : queue_at w source ≡ [] → (place : Place) → queue_at w place ≡ left_from w (Some source) place
  none_left is place = by_queue source place
      (λ node number t. (let none : queue_at w place ≡ [] = sym (one_queue w source place node number) ∙ is in
      subst (λ (b : Bool). queue_at w place ≡ (if b then drop 1 (queue_at w place) else queue_at w place)) (sym t) (none ∙ sym (ap (drop 1) none))))
      (λ node t. subst (λ (b : Bool). queue_at w place ≡ (if b then drop 1 (queue_at w place) else queue_at w place)) (sym t) refl)
      (λ node number t. subst (λ (b : Bool). queue_at w place ≡ (if b then drop 1 (queue_at w place) else queue_at w place)) (sym t) refl)

  came_empty : (who : Reached) → queue_at w source ≡ [] → Came w (Some source) who w.sites
  came_empty who is = record { grows = λ place. grows_same (none_left is place); away = λ place e. none_left is place }

  -- a cell was
  came_behind : (who : Reached) (cell : Cell) (cells : List Cell) (sites : List Site) → queue_at w source ≡ cell ∷ cells → Passes who (with_queue w source cells).sites sites → Came w (Some source) who sites
  came_behind who cell cells sites is p = record {
    grows = λ place. grown_to (sym (taken_is w source cell cells is place)) refl (p.grows place);
    away = λ place e. p.away place e ∙ taken_is w source cell cells is place;
  }

-- *A cell arrives*
arrives_passes : (t : Topology) (w : World) (cell : Cell) (place : Place) → Passes (led_to t place) w.sites (arrives t w place cell).sites
arrives_passes t w cell (Down node) = switch_passes w node (λ a. switch.cell_comes a control_port cell) (λ a. switch_rules.cell_adds a control_port cell)
arrives_passes t w cell (Up node) = controller_passes w node (λ a. controller.cell_comes a cell) (λ a. cell_adds a cell)
arrives_passes t w cell (Out node port) = by (peer_of t node port)
  where
    by : (o : Option LinkEnd) → Passes (switch_at o) w.sites (arrives_at w cell o).sites
    by None = rests actors.Nobody w.sites
    by (Some far) = switch_passes w far.node (λ a. switch.cell_comes a far.port cell) (λ a. switch_rules.cell_adds a far.port cell)

carries : (t : Topology) (w : World) (place : Place) (cells : List Cell) → queue_at w place ≡ cells → Came w (Some place) (carried_to t place cells) (carries_head t w place cells).sites
carries t w place [] is = came_empty t w place actors.Nobody is
carries t w place (cell ∷ cells) is = came_behind t w place (led_to t place) cell cells (arrives t (with_queue w place cells) place cell).sites is (arrives_passes t (with_queue w place cells) cell place)

loses : (t : Topology) (w : World) (place : Place) (cells : List Cell) → queue_at w place ≡ cells → Came w (Some place) actors.Nobody (loses_head w place cells).sites
loses t w place [] is = came_empty t w place actors.Nobody is
loses t w place (cell ∷ cells) is = came_behind t w place actors.Nobody cell cells (with_queue w place cells).sites is (rests actors.Nobody (with_queue w place cells).sites)

-- *A packet enters, and a frame is forged*
injects_passes : (w : World) (node : NodeId) (octets : List ℕ) (o : Option Refusal) → Passes (actors.Controller node) w.sites (injects_by (record w { sent = w.sent + 1 }) node octets o).sites
injects_passes w node octets (Some name) = rests (actors.Controller node) w.sites
injects_passes w node octets None = controller_passes (record w { sent = w.sent + 1 }) node (λ a. injected a (w.sent + 1) octets) (λ a. injected_adds a (w.sent + 1) octets)

forges_passes : (w : World) (place : Place) (channel : Channel) (mark : Mark) (payload : List ℕ) → Passes (owner_of place) w.sites (forges_at w place channel mark payload).sites
forges_passes w (Down node) channel mark payload = controller_passes w node (λ a. sends a channel mark payload) (λ a. controller_rules.sends_adds a channel mark payload)
forges_passes w (Up node) channel mark payload = switch_passes w node (λ a. switch.forged a control_port channel mark payload) (λ a. switch_rules.sends_adds a control_port channel mark payload)
forges_passes w (Out node port) channel mark payload = switch_passes w node (λ a. switch.forged a port channel mark payload) (λ a. switch_rules.sends_adds a port channel mark payload)

-- *Each event*
comes : (t : Topology) (w : World) (event : Event) → Came w (source_of event) (reached t w event) (acts t w event).sites
comes t w (Inject node octets) = came_by w (actors.Controller node) (acts t w (Inject node octets)).sites (injects_passes w node octets (inject_refusal octets))
comes t w (Carry place) = carries t w place (queue_at w place) refl
comes t w (Lose place) = loses t w place (queue_at w place) refl
comes t w (Tick node) = came_by w (actors.Controller node) (acts t w (Tick node)).sites (controller_passes w node ticks ticks_adds)
comes t w (TickSwitch node) = came_by w (actors.Switch node) (acts t w (TickSwitch node)).sites (switch_passes w node switch.tick_comes switch_rules.tick_adds)
comes t w (Restart node) = came_by w (actors.Controller node) (acts t w (Restart node)).sites (controller_passes w node node_restarts restarts_adds)
comes t w (RestartSwitch node) = came_by w (actors.Switch node) (acts t w (RestartSwitch node)).sites (switch_passes w node switch.restarted switch_rules.restart_adds)
comes t w (Forge place channel payload) = came_by w (owner_of place) (acts t w (Forge place channel payload)).sites
    (forges_passes (record (note w (Forged place)) { numbers = with_control w.numbers }) place channel (next_control w.numbers) payload)
comes t w (Route node change) = came_by w (actors.Controller node) (acts t w (Route node change)).sites (controller_passes w node (λ a. change_comes a change) (λ a. change_adds a change))

-- the records of earlier events don't matter
left_away : (w : World) (source : Option Place) (place : Place) → left_from (put_away w) source place ≡ left_from w source place
left_away w None place = refl
left_away w (Some source) place = refl

reached_away : (t : Topology) (w : World) (event : Event) → reached t (put_away w) event ≡ reached t w event
reached_away t w (Inject node octets) = refl
reached_away t w (Carry place) = refl
reached_away t w (Lose place) = refl
reached_away t w (Tick node) = refl
reached_away t w (TickSwitch node) = refl
reached_away t w (Restart node) = refl
reached_away t w (RestartSwitch node) = refl
reached_away t w (Forge place channel payload) = refl
reached_away t w (Route node change) = refl

-- *The statements*
pub change_by_passing : QueuesChangeByPassing
change_by_passing t w event place = grown (left w event place) (queue_at (next t w event) place)
    (grown_to (sym (left_away w (source_of event) place)) refl ((comes t (put_away w) event).grows place))

pub of_the_actor : QueuesAreTheActors
of_the_actor t w event place e = nothing_added (left w event place) (queue_at (next t w event) place)
    ((comes t (put_away w) event).away place (ap (λ who. owns who place) (reached_away t w event) ∙ e) ∙ left_away w (source_of event) place)

-- *A queue leads away* from the actor whose it is
are_one_node : (one other : Place) → same_queue one other ≡ true → (place_node one).0 ≡ (place_node other).0
are_one_node one other e = grind (arith, nat_tests, e)

are_one_number : (one other : Place) → same_queue one other ≡ true → queue_number one ≡ queue_number other
are_one_number one other e = grind (arith, nat_tests, e)

not_at : (far node other : ℕ) → far ≢ node → node ≡ other → (far == other) ≡ false
not_at far node other apart same = grind (arith, nat_tests, apart, same)

module _ (t : Topology) (is : IsTopology t) where
  not_owned : (source place : Place) → same_queue source place ≡ true → owns (led_to t source) place ≡ false
  not_owned (Down m) (Down n) e = refl
  not_owned (Down m) (Up n) e = absurd (omega (arith, are_one_number (Down m) (Up n) e))
  not_owned (Down m) (Out n q) e = absurd (omega (arith, are_one_number (Down m) (Out n q) e))
  not_owned (Up m) (Down n) e = absurd (omega (arith, are_one_number (Up m) (Down n) e))
  not_owned (Up m) (Up n) e = refl
  not_owned (Up m) (Out n q) e = refl
  not_owned (Out m p) place e = by (peer_of t m p) refl place (are_one_node (Out m p) place e) (are_one_number (Out m p) place e)
    where
      by : (o : Option LinkEnd) → peer_of t m p ≡ o → (place : Place) → m.0 ≡ (place_node place).0 → queue_number (Out m p) ≡ queue_number place → owns (switch_at o) place ≡ false
      by None found place node number = refl
      by (Some far) found (Down n) node number = refl
      by (Some far) found (Up n) node number = not_at far.node.0 m.0 n.0 (far_apart t m p far is found) node
      by (Some far) found (Out n q) node number = not_at far.node.0 m.0 n.0 (far_apart t m p far is found) node

  carried_not : (source place : Place) (cells : List Cell) → same_queue source place ≡ true → owns (carried_to t source cells) place ≡ false
  carried_not source place [] e = refl
  carried_not source place (cell ∷ cells) e = not_owned source place e

  source_not : (w : World) (event : Event) (source place : Place) → source_of event ≡ Some source → same_queue source place ≡ true → owns (reached t w event) place ≡ false
  source_not w (Inject node octets) source place from e = absurd (cc from)
  source_not w (Carry own) source place from e = (let one : source ≡ own = cc in carried_not own place (queue_at w own) (ap (λ p. same_queue p place) (sym one) ∙ e))
  source_not w (Lose own) source place from e = refl
  source_not w (Tick node) source place from e = absurd (cc from)
  source_not w (TickSwitch node) source place from e = absurd (cc from)
  source_not w (Restart node) source place from e = absurd (cc from)
  source_not w (RestartSwitch node) source place from e = absurd (cc from)
  source_not w (Forge own channel payload) source place from e = absurd (cc from)
  source_not w (Route node change) source place from e = absurd (cc from)

pub sources_get_nothing : SourcesGetNothing
sources_get_nothing t w event source place is from e = of_the_actor t w event place (source_not t is w event source place from e)

-- so of what waits in an actor's own queues all is left
pub owned_left : (t : Topology) → IsTopology t → (w : World) (event : Event) (place : Place) → owns (reached t w event) place ≡ true → left w event place ≡ queue_at w place
owned_left t is w event place own = by (source_of event) (λ source e same. true≢false (sym own ∙ source_not t is w event source place e same))
  where
    by : (o : Option Place) → ((source : Place) → o ≡ Some source → same_queue source place ≡ true → ⊥) → left_from w o place ≡ queue_at w place
    by None away = refl
    by (Some source) away = by_queue source place (λ node number t. absurd (away source refl t))
        (λ node t. ap (λ (b : Bool). if b then drop 1 (queue_at w place) else queue_at w place) t)
        (λ node number t. ap (λ (b : Bool). if b then drop 1 (queue_at w place) else queue_at w place) t)
