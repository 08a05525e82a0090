-- a chain that an event ends, and that passes its test, has the payload of its last cell's frame

use Rattle.std.proofs.Common.{◌≡◌, ℕ, Bool, true, false, List, [], ◌∷◌, ◌++◌, Option, None, Some, refl, sym, ap, ap₂, subst, arith}
use Rattle.std.specs.Prelude.{◌==◌, ◌&&◌, nat_lt, option_map}
use Rattle.std.specs.Option.{option_map_or, option_and_then}
use Rattle.std.proofs.lemmas.Bool.Decides.{nat_tests}
use Rattle.world_model.specs.Words.{NodeId, Down, Up, Out, Cell, payload_of, last_mark, payload_in, Reassembly, gsmp_channel, Controller, same_channel, taker_of, reassembly_of, World, Site, site_at, queue_at, past_of, IsTame, is_wild, OfController, OfSwitch, reassembly_at, has_slot, Arrival, cell_for, taken_at, CountsAsItsFrame}
use Rattle.world_model.specs.frame_model.Frame.{octets_of}
use Rattle.world_model.specs.frame_model.Reassembly.{Taken, taken}
use Rattle.law_frame_readings.proofs.law_port_facts.Keyed.{on_each}
use Rattle.law_frame_readings.proofs.law_port_facts.Rules.{and_first, and_second}
use Rattle.world_model.specs.Switch as switches
use Rattle.world_model.specs.Controller.{free_slots}
use Rattle.world_model.specs.Cells as controllers
use Rattle.world_model.specs.network_model.declared.event.Event.{Event}
use Rattle.world_model.specs.network_model.declared.event.Event.TheVariants.{Inject, Carry, Lose, Tick, TickSwitch, Restart, RestartSwitch, Forge, Route}
use Rattle.world_model.specs.Stretches.{Reassembler, controller_arrival, switch_arrival}
use Rattle.law_frame_readings.specs.law_world_views.Kept.{behind}
use Rattle.law_running_worlds.specs.law_input_steps.Hearing.{IsEnded, PassesTrue}
use Rattle.law_frame_readings.proofs.law_shown_cells.Tested.{frame_is}
use Rattle.law_running_worlds.proofs.law_causes.Spots.{channels_are}
use Rattle.law_run_facts.specs.Steps.{IsStep}
use Rattle.law_run_facts.proofs.Lists.{any_none}
use Rattle.law_run_facts.proofs.Steps.{events_are_steps}
use Rattle.law_running_worlds.specs.Running.{ChainsAreTrue}
use Rattle.law_running_worlds.proofs.Worlds.{events_true}
use Rattle.law_running_worlds.proofs.MadeTame.{whole_chain}
use Rattle.law_control_places.specs.Chains.{ChainsAreTheirFrames}

-- no cells pass
none_passes : (payload : List ℕ) → payload_in [] ≡ Some payload → ⊥
unfolding payload_in
none_passes payload e = absurd (cc e)

same_node : (one other : NodeId) → (one.0 == other.0) ≡ true → one ≡ other
same_node one other e = ap (λ (n : ℕ). record { 0 = n }) same
  where
    same : one.0 ≡ other.0
    same = grind (arith, nat_tests, e)

module _ (w : World) where
  -- *A chain counts as its frame*
  abbrev Counts : List Cell → Type 0
  Counts cells = (payload : List ℕ) → payload_in (octets_of cells) ≡ Some payload → payload_of w.notes.frames (last_mark cells) ≡ Some payload

  none_counts : Counts []
  none_counts payload e = absurd (none_passes payload e)

  -- what is ended where a cell comes, or none
  abbrev EndsSo : Reassembler → Option Reassembly → Option Cell → Type 0
  EndsSo taker r cell = Counts (option_map_or (λ (t : Taken). t.ended) (taken_at w taker r cell) [])

  abbrev CountsAt : Reassembler → Option Cell → Type 0
  CountsAt taker cell = EndsSo taker (reassembly_at w taker) cell

  -- *No cell comes*
  idle : (taker : Reassembler) → CountsAt taker None
  idle taker = by (reassembly_at w taker)
    where
      by : (o : Option Reassembly) → EndsSo taker o None
      by None = none_counts
      by (Some r) = none_counts

  -- *A cell comes*
  takes : (taker : Reassembler) (cell : Cell) → ((r : Reassembly) → reassembly_at w taker ≡ Some r → Counts (taken w.notes (has_slot w taker) r cell).ended) → CountsAt taker (Some cell)
  takes taker cell each = by (reassembly_at w taker) refl
    where
      by : (o : Option Reassembly) → reassembly_at w taker ≡ o → EndsSo taker o (Some cell)
      by None is = none_counts
      by (Some r) is = each r is

  -- the chain that it ends is the whole one
  ends : (slot : Bool) (r : Reassembly) (cell : Cell) → (IsEnded slot r cell → PassesTrue w.notes.frames (r.chain ++ cell ∷ [])) → Counts (taken w.notes slot r cell).ended
  ends slot r cell passes = by (taken w.notes slot r cell).ended refl
    where
      by : (ended : List Cell) → (taken w.notes slot r cell).ended ≡ ended → Counts ended
      by [] is = none_counts
      by (first ∷ rest) is =
          let whole = whole_chain w.notes slot r cell first rest is in
          subst Counts (sym whole.whole) (λ payload e. frame_is w.notes.frames (last_mark (r.chain ++ cell ∷ [])) payload (passes whole.is_ended payload e))

  -- *To a controller*
  module _ (node : NodeId) (chains : ChainsAreTrue w (Carry (Up node))) where
    up_takes : (cell : Cell) (cells : List Cell) → queue_at w (Up node) ≡ cell ∷ cells → CountsAt (OfController node cell.header.channel) (Some cell)
    up_takes cell cells queue = takes (OfController node cell.header.channel) cell (λ r e. by_site r (site_at w node) refl e)
      where
        by_taker : (r : Reassembly) (site : Site) → site_at w node ≡ Some site → (o : Option controllers.Taker) → taker_of site.controller cell.header.channel ≡ o
            → option_map (reassembly_of site.controller) o ≡ Some r → Counts (taken w.notes (nat_lt 0 (free_slots site.controller)) r cell).ended
        by_taker r site found None is e = absurd (cc e)
        by_taker r site found (Some taker) is e = subst (λ (q : Reassembly). Counts (taken w.notes (nat_lt 0 (free_slots site.controller)) q cell).ended) (same e)
            (ends (nat_lt 0 (free_slots site.controller)) (reassembly_of site.controller taker) cell (chains.at_controller node site taker cell cells refl queue found is))
          where
            same : ◌≡◌ {A = Option Reassembly} (Some (reassembly_of site.controller taker)) (Some r) → reassembly_of site.controller taker ≡ r
            same e = cc e

        by_site : (r : Reassembly) (o : Option Site) → site_at w node ≡ o
            → option_and_then (λ (c : Controller). option_map (reassembly_of c) (taker_of c cell.header.channel)) (option_map (λ (site : Site). site.controller) o) ≡ Some r
            → Counts (taken w.notes (option_map_or (λ (c : Controller). nat_lt 0 (free_slots c)) (option_map (λ (site : Site). site.controller) o) false) r cell).ended
        by_site r None found e = absurd (cc e)
        by_site r (Some site) found e = by_taker r site found (taker_of site.controller cell.header.channel) refl e

    up_counts : (cells : List Cell) → queue_at w (Up node) ≡ cells → (taker : Reassembler) → CountsAt taker (cell_for taker (controller_arrival node cells))
    up_counts [] queue taker = idle taker
    up_counts (cell ∷ cells) queue (OfSwitch other) = idle (OfSwitch other)
    up_counts (cell ∷ cells) queue (OfController other channel) = on_each (CountsAt (OfController other channel)) ((node.0 == other.0) && same_channel cell.header.channel channel) (Some cell) None
        (λ e. subst (λ (taker : Reassembler). CountsAt taker (Some cell))
        (ap₂ OfController (same_node node other (and_first (node.0 == other.0) (same_channel cell.header.channel channel) e)) (channels_are cell.header.channel channel (and_second (node.0 == other.0) (same_channel cell.header.channel channel) e)))
        (up_takes cell cells queue))
        (λ away. idle (OfController other channel))

  -- *To a switch*
  module _ (node : NodeId) (chains : ChainsAreTrue w (Carry (Down node))) where
    down_takes : (cell : Cell) (cells : List Cell) → queue_at w (Down node) ≡ cell ∷ cells → same_channel cell.header.channel gsmp_channel ≡ true → CountsAt (OfSwitch node) (Some cell)
    down_takes cell cells queue gsmp = takes (OfSwitch node) cell (λ r e. by_site r (site_at w node) refl e)
      where
        by_site : (r : Reassembly) (o : Option Site) → site_at w node ≡ o → option_map (λ (site : Site). site.switch.reassembly) o ≡ Some r
            → Counts (taken w.notes (option_map_or (λ (site : Site). nat_lt 0 (switches.free_slots site.switch)) o false) r cell).ended
        by_site r None found e = absurd (cc e)
        by_site r (Some site) found e = subst (λ (q : Reassembly). Counts (taken w.notes (nat_lt 0 (switches.free_slots site.switch)) q cell).ended) (same e)
            (ends (nat_lt 0 (switches.free_slots site.switch)) site.switch.reassembly cell (chains.at_switch node site cell cells refl queue found gsmp))
          where
            same : ◌≡◌ {A = Option Reassembly} (Some site.switch.reassembly) (Some r) → site.switch.reassembly ≡ r
            same e = cc e

    down_counts : (cells : List Cell) → queue_at w (Down node) ≡ cells → (taker : Reassembler) → CountsAt taker (cell_for taker (switch_arrival node cells))
    down_counts [] queue taker = idle taker
    down_counts (cell ∷ cells) queue taker = on_each (λ (o : Option Arrival). CountsAt taker (cell_for taker o)) (same_channel cell.header.channel gsmp_channel) (Some (record { taker = OfSwitch node; cell = cell })) None
        (λ gsmp. by gsmp taker) (λ other. idle taker)
      where
        by : same_channel cell.header.channel gsmp_channel ≡ true → (at : Reassembler) → CountsAt at (cell_for at (Some (record { taker = OfSwitch node; cell = cell })))
        by gsmp (OfController other channel) = idle (OfController other channel)
        by gsmp (OfSwitch other) = on_each (CountsAt (OfSwitch other)) (node.0 == other.0) (Some cell) None
            (λ e. subst (λ (n : NodeId). CountsAt (OfSwitch n) (Some cell)) (same_node node other e) (down_takes cell cells queue gsmp)) (λ away. idle (OfSwitch other))

  -- *Each event*
  counts : (event : Event) → ChainsAreTrue w event → CountsAsItsFrame w event
  counts (Carry (Up node)) chains taker = up_counts node chains (queue_at w (Up node)) refl taker
  counts (Carry (Down node)) chains taker = down_counts node chains (queue_at w (Down node)) refl taker
  counts (Carry (Out node port)) chains taker = idle taker
  counts (Inject node octets) chains taker = idle taker
  counts (Lose place) chains taker = idle taker
  counts (Tick node) chains taker = idle taker
  counts (TickSwitch node) chains taker = idle taker
  counts (Restart node) chains taker = idle taker
  counts (RestartSwitch node) chains taker = idle taker
  counts (Forge place channel payload) chains taker = idle taker
  counts (Route node change) chains taker = idle taker

pub chains_are_their_frames : ChainsAreTheirFrames
chains_are_their_frames policy topology before event tame =
    let step : IsStep (past_of policy topology before) (behind policy topology before event) event = events_are_steps policy topology before event in
    counts (past_of policy topology before).now event (events_true policy topology before event (subst (λ (u : World). IsTame u.notes.records) step.now
    (any_none is_wild (past_of policy topology before).records (behind policy topology before event).now.notes.records (subst IsTame step.records tame)).1))
