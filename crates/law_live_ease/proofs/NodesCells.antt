-- a cell that comes to a controller leaves it the records of its switch's ports

use Rattle.std.proofs.Common.{◌≡◌, ℕ, Bool, false, List, [], ◌∷◌, Option, None, Some, refl, ◌∙◌, ap, if◌then◌else◌}
use Rattle.std.specs.Prelude.{nat_lt}
use Rattle.std.specs.Option.{option_map, option_map_or, option_and_then}
use Rattle.world_model.specs.Words.{NodeId, Up, Cell, Journal, Desk, payload_in, Reassembly, nothing_taken, Controller, taker_of, reassembly_of, frame_holds, World, Site, site_at, queue_at, OfController, reassembly_at, has_slot, arrival, cell_for, taken_at}
use Rattle.world_model.specs.frame_model.Frame.{octets_of}
use Rattle.world_model.specs.frame_model.Reassembly.{Taken, taken}
use Rattle.world_model.specs.Controller.{Acted, free_slots}
use Rattle.world_model.specs.Cells.{Taker, cell_comes}
use Rattle.world_model.specs.Stretches.{ended_at, controller_arrival}
use Rattle.world_model.specs.Stretches as stretches
use Rattle.world_model.specs.network_model.declared.event.Event.TheVariants.{Carry}
use Rattle.law_live_journeys.proofs.law_running_worlds.law_causes.Turning.{same_left}
use Rattle.law_live_journeys.proofs.law_running_worlds.law_input_premises.Rows.{KeepsRows}
use Rattle.law_live_journeys.proofs.law_live_frames.Coming.{same_itself}
use Rattle.law_live_journeys.specs.law_live_hearing.Law.{acting}
use Rattle.law_live_journeys.specs.law_live_unsaid.Carries.{EndsFrame}
use Rattle.law_live_journeys.specs.law_live_asking.Carries.{EndsWhatMayCome}
use Rattle.law_live_journeys.proofs.law_live_asking.Still.{taker_there, gathered_still}
use Rattle.law_live_journeys.proofs.law_live_asking.Notes.{may_come_by}
use Rattle.law_live_journeys.proofs.law_live_asking.Cells.{gathered, told, Ends, cell_by}
use Rattle.law_live_ease.proofs.NodesRows.{frame_rows}

module _ (w : World) (node : NodeId) (site : Site) (found : site_at w node ≡ Some site) (cell : Cell) (cells : List Cell) (queue : queue_at w (Up node) ≡ cell ∷ cells) where
  abbrev a : Acted
  a = acting w site

  abbrev channel : stretches.Reassembler
  channel = OfController node cell.header.channel

  -- the chain that it ends
  chain : (taker : Taker) → taker_of site.controller cell.header.channel ≡ Some taker → reassembly_at w channel ≡ Some (reassembly_of site.controller taker)
  chain taker takes = ap (λ (o : Option Site). option_and_then (λ (c : Controller). option_map (reassembly_of c) (taker_of c cell.header.channel)) (option_map (λ (s : Site). s.controller) o)) found
      ∙ ap (option_map (reassembly_of site.controller)) takes

  comes : cell_for channel (arrival w (Carry (Up node))) ≡ Some cell
  comes = ap (λ (q : List Cell). cell_for channel (controller_arrival node q)) queue ∙ ap (λ (b : Bool). if b then Some cell else None) (same_itself channel)

  room : has_slot w channel ≡ nat_lt 0 (free_slots site.controller)
  room = ap (λ (o : Option Site). option_map_or (λ (c : Controller). nat_lt 0 (free_slots c)) (option_map (λ (s : Site). s.controller) o) false) found

  ended : (taker : Taker) → taker_of site.controller cell.header.channel ≡ Some taker → ended_at w (Carry (Up node)) channel ≡ (told a cell taker).ended
  ended taker takes =
      ap (λ (o : Option Reassembly). option_map_or (λ (t : Taken). t.ended) (taken_at w channel o (cell_for channel (arrival w (Carry (Up node))))) []) (chain taker takes)
      ∙ (ap (λ (o : Option Cell). option_map_or (λ (t : Taken). t.ended) (taken_at w channel (Some (reassembly_of site.controller taker)) o) []) comes
      ∙ (ap (λ (b : Bool). (taken w.notes b (reassembly_of site.controller taker) cell).ended) room
      ∙ (same_left w.notes a.notes (nat_lt 0 (free_slots site.controller)) (reassembly_of site.controller taker) cell).1))

  ends_frame : (taker : Taker) (payload : List ℕ) → Ends a cell taker payload → EndsFrame w node site cell taker payload
  ends_frame taker payload e = record { takes = e.takes; whole = ap (λ (cs : List Cell). payload_in (octets_of cs)) (ended taker e.takes ∙ e.ended) ∙ e.passes }

  -- *Where it ends none*, or one that may come
  module _ (may : EndsWhatMayCome w node site (cell ∷ cells)) where
    acts : (notes : Journal) (taker : Taker) (payload : List ℕ) → notes.entries ≡ a.notes.entries → Ends a cell taker payload
        → KeepsRows a (frame_holds (gathered a cell notes taker nothing_taken) taker cell.mark payload)
    acts notes taker payload entries e =
        frame_rows (gathered a cell notes taker nothing_taken) taker cell.mark payload (may_come_by a notes taker payload (may taker payload (ends_frame taker payload e)))
        ∙ ap (λ (d : Desk). d.rows) (gathered_still (record a { notes = notes }) taker nothing_taken (taker_there a.controller cell.header.channel taker e.takes)).desk

    pub cell_rows : KeepsRows a (cell_comes a cell)
    cell_rows = cell_by a cell (KeepsRows a) refl (λ notes taker r there. ap (λ (d : Desk). d.rows) (gathered_still (record a { notes = notes }) taker r there).desk) acts
