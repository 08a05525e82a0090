-- what an actor makes of a cell that ends a frame on the GSMP channel: it hears what is read there

use Rattle.std.proofs.Common.{◌≡◌, ℕ, Bool, true, false, List, [], ◌∷◌, Option, None, Some, refl, sym, ◌∙◌, ap, if◌then◌else◌}
use Rattle.std.specs.Prelude.{nat_lt}
use Rattle.std.specs.Option.{option_map, option_map_or, option_and_then}
use Rattle.world_model.specs.Words.{NodeId, Down, Up, Cell, last_mark, payload_in, tested_by, Reassembly, control_port, default_channel, same_channel, Controller, taker_of, taker_at, linked_at, on_link, port_on, reassembly_of, gsmp_holds, ForGsmp, takes_cell, gsmp_cell, switched_cell, frame_read, World, Site, site_at, queue_at, put_away, OfController, OfSwitch, arrival, cell_for, taken_at, has_slot}
use Rattle.world_model.specs.frame_model.Frame.{octets_of, passed_test}
use Rattle.world_model.specs.frame_model.Reassembly.{Taken, taken}
use Rattle.world_model.specs.gsmp_wire.Fields.{decoded}
use Rattle.world_model.specs.Switch as switches
use Rattle.world_model.specs.Conduct as switch
use Rattle.world_model.specs.Controller as controllers
use Rattle.world_model.specs.Cells as controller
use Rattle.world_model.specs.Stretches.{Reassembler, ended_at, controller_arrival, switch_arrival}
use Rattle.world_model.specs.network_model.declared.event.Event.TheVariants.{Carry}
use Rattle.law_causes.proofs.Turning.{same_left}
use Rattle.law_live_frames.proofs.Coming.{same_itself}
use Rattle.law_live_hearing.specs.Law.{acting}
use Rattle.law_live_hearing.proofs.Sites.{switching}

-- no cells pass a test
none_passes : (payload : List ℕ) → payload_in [] ≡ Some payload → ⊥
unfolding payload_in
none_passes payload e = absurd (cc e)

module _ (w : World) (node : NodeId) (site : Site) (found : site_at w node ≡ Some site) (cell : Cell) (cells : List Cell)
    (on : same_channel cell.header.channel default_channel ≡ true) (payload : List ℕ) where
  -- what a channel leaves of the cell, in the notes of the world and in those of the event
  ended_in : (taker : Reassembler) (slot : Bool) (r : Reassembly) → has_slot w taker ≡ slot → (taken w.notes (has_slot w taker) r cell).ended ≡ (taken (put_away w).notes slot r cell).ended
  ended_in taker slot r is = ap (λ (b : Bool). (taken w.notes b r cell).ended) is ∙ (same_left w.notes (put_away w).notes slot r cell).1

  -- *At a controller*
  module _ (queue : queue_at w (Up node) ≡ cell ∷ cells) where
    abbrev pub a : controllers.Acted
    a = acting w site

    abbrev pub told : Taken
    told = taken a.notes (nat_lt 0 (controllers.free_slots site.controller)) site.controller.reassembly cell

    abbrev of_channel : Reassembler
    of_channel = OfController node cell.header.channel

    takes : taker_of site.controller cell.header.channel ≡ Some ForGsmp
    takes = ap (λ (b : Bool). if b then Some ForGsmp else taker_at (linked_at site.controller (port_on cell.header.channel)) (on_link cell.header.channel)) on

    told_ended : ended_at w (Carry (Up node)) of_channel ≡ told.ended
    told_ended =
        ap (λ (o : Option Reassembly). option_map_or (λ (t : Taken). t.ended) (taken_at w of_channel o (cell_for of_channel (arrival w (Carry (Up node))))) [])
        (ap (λ (o : Option Site). option_and_then (λ (c : Controller). option_map (reassembly_of c) (taker_of c cell.header.channel)) (option_map (λ (s : Site). s.controller) o)) found
        ∙ ap (option_map (reassembly_of site.controller)) takes)
        ∙ (ap (λ (o : Option Cell). option_map_or (λ (t : Taken). t.ended) (taken_at w of_channel (Some site.controller.reassembly) o) [])
        (ap (λ (q : List Cell). cell_for of_channel (controller_arrival node q)) queue ∙ ap (λ (b : Bool). if b then Some cell else None) (same_itself of_channel))
        ∙ ended_in of_channel (nat_lt 0 (controllers.free_slots site.controller)) site.controller.reassembly
        (ap (λ (o : Option Site). option_map_or (λ (c : Controller). nat_lt 0 (controllers.free_slots c)) (option_map (λ (s : Site). s.controller) o) false) found))

    abbrev pub after_told : controllers.Acted
    after_told = record a { controller = record site.controller { reassembly = told.reassembly }; notes = passed_test told.notes (last_mark told.ended) payload }

    pub controller_told : payload_in (octets_of (ended_at w (Carry (Up node)) of_channel)) ≡ Some payload → controller.cell_comes a cell ≡ gsmp_holds after_told (decoded payload)
    controller_told whole = ap (takes_cell a cell) takes ∙ by told.ended refl
      where
        b : controllers.Acted
        b = record a { controller = record site.controller { reassembly = told.reassembly }; notes = told.notes }

        passes : payload_in (octets_of told.ended) ≡ Some payload
        passes = ap (λ (cs : List Cell). payload_in (octets_of cs)) (sym told_ended) ∙ whole

        by : (ended : List Cell) → told.ended ≡ ended
            → controller.ends_frame b ForGsmp told.ended ≡ gsmp_holds (record b { notes = passed_test told.notes (last_mark told.ended) payload }) (decoded payload)
        by [] is = absurd (none_passes payload (ap (λ (cs : List Cell). payload_in (octets_of cs)) (sym is) ∙ passes))
        by (first ∷ rest) is = ap (controller.ends_frame b ForGsmp) is
            ∙ (ap (λ (o : Option (List ℕ)). controller.after_test b ForGsmp (last_mark (first ∷ rest)) (tested_by told.notes (first ∷ rest) o)) (ap (λ (cs : List Cell). payload_in (octets_of cs)) (sym is) ∙ passes)
            ∙ ap (λ (cs : List Cell). gsmp_holds (record b { notes = passed_test told.notes (last_mark cs) payload }) (decoded payload)) (sym is))

  -- *At a switch*
  module _ (queue : queue_at w (Down node) ≡ cell ∷ cells) where
    abbrev pub s : switches.ActedSwitch
    s = switching w site

    abbrev pub asked : Taken
    asked = taken s.notes (nat_lt 0 (switches.free_slots site.switch)) site.switch.reassembly cell

    abbrev of_switch : Reassembler
    of_switch = OfSwitch node

    asked_ended : ended_at w (Carry (Down node)) of_switch ≡ asked.ended
    asked_ended =
        ap (λ (o : Option Reassembly). option_map_or (λ (t : Taken). t.ended) (taken_at w of_switch o (cell_for of_switch (arrival w (Carry (Down node))))) []) (ap (option_map (λ (x : Site). x.switch.reassembly)) found)
        ∙ (ap (λ (o : Option Cell). option_map_or (λ (t : Taken). t.ended) (taken_at w of_switch (Some site.switch.reassembly) o) [])
        (ap (λ (q : List Cell). cell_for of_switch (switch_arrival node q)) queue
        ∙ (ap (λ (b : Bool). cell_for of_switch (if b then Some (record { taker = OfSwitch node; cell = cell }) else None)) on ∙ ap (λ (b : Bool). if b then Some cell else None) (same_itself of_switch)))
        ∙ ended_in of_switch (nat_lt 0 (switches.free_slots site.switch)) site.switch.reassembly
        (ap (λ (o : Option Site). option_map_or (λ (x : Site). nat_lt 0 (switches.free_slots x.switch)) o false) found))

    abbrev pub after_asked : switches.ActedSwitch
    after_asked = record s { switch = record site.switch { reassembly = asked.reassembly }; notes = passed_test asked.notes (last_mark asked.ended) payload }

    pub switch_asked : payload_in (octets_of (ended_at w (Carry (Down node)) of_switch)) ≡ Some payload → switch.cell_comes s control_port cell ≡ frame_read after_asked (decoded payload)
    switch_asked whole = ap (λ (b : Bool). if b then gsmp_cell s cell else switched_cell s control_port cell) on ∙ by asked.ended refl
      where
        b : switches.ActedSwitch
        b = record s { switch = record site.switch { reassembly = asked.reassembly }; notes = asked.notes }

        passes : payload_in (octets_of asked.ended) ≡ Some payload
        passes = ap (λ (cs : List Cell). payload_in (octets_of cs)) (sym asked_ended) ∙ whole

        by : (ended : List Cell) → asked.ended ≡ ended
            → switch.ends_frame b asked.ended ≡ frame_read (record b { notes = passed_test asked.notes (last_mark asked.ended) payload }) (decoded payload)
        by [] is = absurd (none_passes payload (ap (λ (cs : List Cell). payload_in (octets_of cs)) (sym is) ∙ passes))
        by (first ∷ rest) is = ap (switch.ends_frame b) is
            ∙ (ap (λ (o : Option (List ℕ)). switch.after_test b (tested_by asked.notes (first ∷ rest) o)) (ap (λ (cs : List Cell). payload_in (octets_of cs)) (sym is) ∙ passes)
            ∙ ap (λ (cs : List Cell). frame_read (record b { notes = passed_test asked.notes (last_mark cs) payload }) (decoded payload)) (sym is))
