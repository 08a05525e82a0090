-- a frame that is forged is recorded so

use Rattle.std.proofs.Common.{◌≡◌, ℕ, true, false, List, [], ◌∷◌, ◌++◌, length, Option, None, Some, sym, ◌∙◌}
use Rattle.std.specs.Prelude.{nat_le}
use Rattle.std.specs.List.{list_any}
use Rattle.law_branch_shapes.specs.world_model.Words.{NodeId, PortNo, Place, Down, Up, Out, Channel, Mark, next_control, with_control, Record, Forged, Loss, PoolFull, noted, frame_cells, made, Switch, control_port, Controller, World, Site, site_at, controller_acts, switch_acts, forges, is_wild, IsTame}
use Rattle.law_branch_shapes.specs.world_model.frame_model.Sending.{Sender}
use Rattle.law_frame_readings.proofs.law_port_facts.Keyed.{on_both}
use Rattle.law_branch_shapes.specs.world_model.Switch as switches
use Rattle.law_branch_shapes.specs.world_model.Conduct as switch
use Rattle.law_branch_shapes.specs.world_model.Controller.{free_slots}
use Rattle.law_branch_shapes.specs.world_model.Sending.{with_cells, sends}
use Rattle.law_branch_shapes.specs.world_model.World.{at_controller, at_switch}
use Rattle.law_branch_shapes.specs.world_model.Step.{note}

-- behind the record of the forgery stand others, or none
abbrev BeginsForged : Place → List Record → Type 0
BeginsForged place records = (rest : List Record) × (records ≡ Forged place ∷ rest)

not_tame : (place : Place) (records : List Record) → BeginsForged place records → IsTame records → ⊥
not_tame place records (rest, is) tame = (let wild : true ≡ false = (λ i. list_any is_wild (sym is i)) ∙ tame in cc wild)

module _ (place : Place) (v : World) (fresh : v.notes.records ≡ []) (channel : Channel) (mark : Mark) (payload : List ℕ) where
  first : BeginsForged place (noted v.notes (Forged place)).records
  first = ([], (λ i. fresh i ++ Forged place ∷ []))

  then_lost : (records : List Record) (item : Record) → BeginsForged place records → BeginsForged place (records ++ item ∷ [])
  then_lost records item (rest, is) = (rest ++ item ∷ [], (λ i. is i ++ item ∷ []))

  at_controller_forged : (w : World) (node : NodeId) → BeginsForged place w.notes.records → BeginsForged place (at_controller w node (λ a. sends a channel mark payload)).notes.records
  at_controller_forged w node begins = by (site_at w node)
    where
      by : (o : Option Site) → BeginsForged place (controller_acts w o (λ a. sends a channel mark payload)).notes.records
      by None = begins
      by (Some site) = on_both (λ (s : Sender Controller). BeginsForged place s.notes.records) (nat_le (length (frame_cells channel mark payload)) (free_slots site.controller))
          (record { queues = with_cells site.controller (frame_cells channel mark payload); notes = made w.notes mark payload })
          (record { queues = site.controller; notes = noted (made w.notes mark payload) (Loss mark PoolFull) }) begins (then_lost w.notes.records (Loss mark PoolFull) begins)

  at_switch_forged : (w : World) (node : NodeId) (port : PortNo) → BeginsForged place w.notes.records → BeginsForged place (at_switch w node (λ a. switch.forged a port channel mark payload)).notes.records
  at_switch_forged w node port begins = by (site_at w node)
    where
      by : (o : Option Site) → BeginsForged place (switch_acts w o (λ a. switch.forged a port channel mark payload)).notes.records
      by None = begins
      by (Some site) = on_both (λ (s : Sender Switch). BeginsForged place s.notes.records) (nat_le (length (frame_cells channel mark payload)) (switches.free_slots site.switch))
          (record { queues = switch.with_cells site.switch port (frame_cells channel mark payload); notes = made w.notes mark payload })
          (record { queues = site.switch; notes = noted (made w.notes mark payload) (Loss mark PoolFull) }) begins (then_lost w.notes.records (Loss mark PoolFull) begins)

forged_first : (place : Place) (v : World) → v.notes.records ≡ [] → (channel : Channel) (payload : List ℕ) → BeginsForged place (forges v place channel payload).notes.records
forged_first (Down node) v fresh channel payload = at_controller_forged (Down node) v fresh channel (next_control v.numbers) payload (record (note v (Forged (Down node))) { numbers = with_control v.numbers }) node
    (first (Down node) v fresh channel (next_control v.numbers) payload)
forged_first (Up node) v fresh channel payload = at_switch_forged (Up node) v fresh channel (next_control v.numbers) payload (record (note v (Forged (Up node))) { numbers = with_control v.numbers }) node control_port
    (first (Up node) v fresh channel (next_control v.numbers) payload)
forged_first (Out node port) v fresh channel payload = at_switch_forged (Out node port) v fresh channel (next_control v.numbers) payload (record (note v (Forged (Out node port))) { numbers = with_control v.numbers }) node port
    (first (Out node port) v fresh channel (next_control v.numbers) payload)

-- so none is in an event without chances
pub never_forged : (place : Place) (v : World) (channel : Channel) (payload : List ℕ) → v.notes.records ≡ [] → IsTame (forges v place channel payload).notes.records → ⊥
never_forged place v channel payload fresh tame = not_tame place (forges v place channel payload).notes.records (forged_first place v fresh channel payload) tame
