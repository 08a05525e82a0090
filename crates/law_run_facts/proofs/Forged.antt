-- a frame that is forged has a record

use Rattle.std.proofs.Common.{◌≡◌, ℕ, Bool, true, false, List, [], ◌∷◌, ◌++◌, length, Option, None, Some, refl, sym, ◌∙◌, ap, true≢false, if◌then◌else◌}
use Rattle.std.specs.Prelude.{nat_le}
use Rattle.std.specs.List.{list_any}
use Rattle.law_world_pace.specs.world_model.Words.{Channel, Place, Down, Up, Out, Mark, next_control, with_control, Cell, Record, Loss, Forged, PoolFull, noted, frame_cells, made, sent_frame, control_port, Topology, World, Site, site_at, controller_acts, switch_acts, forges_at, next, put_away, is_wild, IsTame}
use Rattle.law_world_pace.specs.world_model.frame_model.Sending.{Sender}
use Rattle.law_world_pace.specs.world_model.Switch as switches
use Rattle.law_world_pace.specs.world_model.Conduct as switch
use Rattle.law_world_pace.specs.world_model.Controller.{free_slots}
use Rattle.law_world_pace.specs.world_model.Sending.{with_cells, sends}
use Rattle.law_world_pace.specs.world_model.network_model.declared.event.Event.TheVariants.{Forge}
use Rattle.law_world_pace.specs.world_model.Step.{note}

wild_sent : {Q : Type 0} (place : Place) (free : ℕ) (with_queue : List Cell → Q) (s : Sender Q) (channel : Channel) (mark : Mark) (payload : List ℕ) → s.notes.records ≡ Forged place ∷ []
    → list_any is_wild (sent_frame free with_queue s channel mark payload).notes.records ≡ true
wild_sent {Q} place free with_queue s channel mark payload is = by (nat_le (length (frame_cells channel mark payload)) free)
  where
    by : (x : Bool) → list_any is_wild (if x then record s { queues = with_queue (frame_cells channel mark payload); notes = made s.notes mark payload } else record s { notes = noted (made s.notes mark payload) (Loss mark PoolFull) }).notes.records ≡ true
    by true = ap (list_any is_wild) is
    by false = ap (λ (l : List Record). list_any is_wild (l ++ Loss mark PoolFull ∷ [])) is

wild_forged : (t : Topology) (w : World) (place : Place) (channel : Channel) (payload : List ℕ) → list_any is_wild (next t w (Forge place channel payload)).notes.records ≡ true
wild_forged t w place channel payload = by place
  where
    begun : World
    begun = record (note (put_away w) (Forged place)) { numbers = with_control w.numbers }

    at_switch : (port : _) (o : Option Site) → list_any is_wild (switch_acts begun o (λ a. switch.forged a port channel (next_control w.numbers) payload)).notes.records ≡ true
    at_switch port None = refl
    at_switch port (Some site) = wild_sent place (switches.free_slots site.switch) (switch.with_cells site.switch port) (record { queues = site.switch; notes = begun.notes }) channel (next_control w.numbers) payload refl

    at_controller : (o : Option Site) → list_any is_wild (controller_acts begun o (λ a. sends a channel (next_control w.numbers) payload)).notes.records ≡ true
    at_controller None = refl
    at_controller (Some site) = wild_sent place (free_slots site.controller) (with_cells site.controller) (record { queues = site.controller; notes = begun.notes }) channel (next_control w.numbers) payload refl

    by : (at : Place) → list_any is_wild (forges_at begun at channel (next_control w.numbers) payload).notes.records ≡ true
    by (Down node) = at_controller (site_at w node)
    by (Up node) = at_switch control_port (site_at w node)
    by (Out node port) = at_switch port (site_at w node)

-- so in a tame event none is
pub none_forged : (t : Topology) (w : World) (place : Place) (channel : Channel) (payload : List ℕ) → IsTame (next t w (Forge place channel payload)).notes.records → ⊥
none_forged t w place channel payload tame = true≢false (sym (wild_forged t w place channel payload) ∙ tame)
