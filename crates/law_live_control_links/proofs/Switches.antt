-- a cell comes to a switch that has met its controller

use Rattle.std.proofs.Common.{◌≡◌, ℕ, zero, suc, ◌≤◌, Bool, true, false, true≢false, List, [], ◌∷◌, ◌++◌, length, slice_set, slice_index_or, Option, None, Some, Result, Ok, Err, refl, sym, ◌∙◌, ap, subst, arith}
use Rattle.std.specs.Prelude.{◌&&◌, ◌==◌, nat_le, nat_lt}
use Rattle.std.specs.Option.{option_map}
use Rattle.std.specs.FinMap.{get}
use Rattle.std.proofs.lemmas.Bool.Decides.{nat_tests}
use Rattle.world_model.specs.Words.{End, PortNo, Party, Side, Mark, Cell, Frame, Journal, Loss, PoolFull, noted, frame_cells, made, next_control, with_control, payload_of, Reassembly, payload_in, tested_by, queue_of, on_channel_of, route_on, switched_on, Switch, control_port, gsmp_channel, default_channel, same_channel, is_request, is_gsmp, gsmp_cell, switched_cell, frame_read}
use Rattle.world_model.specs.gsmp_wire.declared.fault.Fault.{Fault}
use Rattle.world_model.specs.gsmp_wire.declared.message.Message.{Message}
use Rattle.world_model.specs.gsmp_wire.Layout.{octets_of as message_octets}
use Rattle.world_model.specs.gsmp_wire.Fields.{decoded}
use Rattle.world_model.specs.frame_model.Frame.{octets_of}
use Rattle.world_model.specs.frame_model.Reassembly.{Taken, taken}
use Rattle.world_model.specs.frame_model.Sending.{Sender}
use Rattle.world_model.specs.crossbar_model.declared.branch.Branch.{Branch}
use Rattle.world_model.specs.crossbar_model.Crossbar.{Crossbar, input_of, output_of, relayed}
use Rattle.world_model.specs.Switch.{ActedSwitch, free_slots}
use Rattle.world_model.specs.Conduct.{says, with_cells, cell_routed, cell_comes, after_test, ends_frame, message_heard}
use Rattle.live_model.specs.Met.{HaveMet}
use Rattle.law_running_worlds.specs.ordered_lists.Ordered.{Every}
use Rattle.law_run_facts.proofs.ordered_lists.Every.{every_join, every_map}
use Rattle.law_running_worlds.proofs.law_port_facts.Keyed.{on_both, on_each}
use Rattle.law_running_worlds.proofs.law_shown_cells.Made.{made_is}
use Rattle.law_live_control.specs.Calm.{IsCalmDown, IsCalmUp, IsCarriedOut, SaysAtMost, nothing, one, SwitchGoesOn, IsCalmCell}
use Rattle.law_live_control.proofs.Since.{IsFrom, frame_from}
use Rattle.law_live_control.proofs.Switches.{switches_hear_calmly}
use Rattle.law_live_control_links.proofs.Sides.{IsStill, still_same, still_on}

-- *A port's queue is set*: that of port 0 is as it was, or this
pub every_set : (P : Cell → Type 0) (queues : List (List Cell)) (i : ℕ) (cells : List Cell) → Every P (slice_index_or queues 0 []) → (i ≡ 0 → Every P cells)
    → Every P (slice_index_or (slice_set queues i cells) 0 [])
every_set P [] i cells old set = tt
every_set P (queue ∷ queues) zero cells old set = set refl
every_set P (queue ∷ queues) (suc i) cells old set = old

-- *What is left* of a switch: its side goes on, and what waits for its controller is calm if it was
pub record Leaves (controller : Party) (a after : ActedSwitch) : Type 0 where
  pub side : IsStill a.switch.adjacency after.switch.adjacency
  pub up : Every (IsCalmCell (IsCalmUp controller a.switch.adjacency.own) after.notes.frames) (queue_of a.switch.crossbar control_port)
      → Every (IsCalmCell (IsCalmUp controller a.switch.adjacency.own) after.notes.frames) (queue_of after.switch.crossbar control_port)

module _ (controller : Side Party) (a : ActedSwitch) (met : HaveMet controller a.switch.adjacency) where
  abbrev Calm : Message → Type 0
  Calm = IsCalmUp controller.own a.switch.adjacency.own

  abbrev Left : ActedSwitch → Type 0
  Left after = Leaves controller.own a after

  left_same : (after : ActedSwitch) → after.switch.adjacency ≡ a.switch.adjacency → after.switch.crossbar.queues ≡ a.switch.crossbar.queues → Left after
  left_same after side queues = record {
    side = subst (IsStill a.switch.adjacency) (sym side) (still_same a.switch.adjacency);
    up = λ h. subst (λ (qs : List (List Cell)). Every (IsCalmCell Calm after.notes.frames) (slice_index_or qs 0 [])) (sym queues) h;
  }

  -- *A message is said*
  said : (heard : ActedSwitch) (message : Message) → Calm message → IsStill a.switch.adjacency heard.switch.adjacency → heard.switch.crossbar.queues ≡ a.switch.crossbar.queues → Left (says heard message)
  said heard message calm side queues = on_both (λ (s : Sender Switch). Left (record { switch = s.queues; notes = s.notes; numbers = with_control heard.numbers })) (nat_le (length cells) (free_slots heard.switch))
      (record { queues = with_cells heard.switch control_port cells; notes = made heard.notes mark (message_octets message) })
      (record { queues = heard.switch; notes = noted (made heard.notes mark (message_octets message)) (Loss mark PoolFull) })
      (record {
        side = side;
        up = λ h. every_set (IsCalmCell Calm frames) heard.switch.crossbar.queues 0 (queue_of heard.switch.crossbar control_port ++ cells) (was h)
            (λ e. every_join (IsCalmCell Calm frames) (queue_of heard.switch.crossbar control_port) cells (was h) new);
      })
      (record { side = side; up = was })
    where
      mark : Mark
      mark = next_control heard.numbers

      cells : List Cell
      cells = frame_cells gsmp_channel mark (message_octets message)

      frames : List Frame
      frames = (made heard.notes mark (message_octets message)).frames

      was : Every (IsCalmCell Calm frames) (queue_of a.switch.crossbar control_port) → Every (IsCalmCell Calm frames) (queue_of heard.switch.crossbar control_port)
      was h = subst (λ (qs : List (List Cell)). Every (IsCalmCell Calm frames) (slice_index_or qs 0 [])) (sym queues) h

      new : Every (IsCalmCell Calm frames) cells
      new = every_map (IsFrom gsmp_channel mark) (IsCalmCell Calm frames) cells
          (λ cell is on. record { message = message; calm = calm; made = ap (payload_of frames) is.1 ∙ made_is heard.notes.frames mark (message_octets message) })
          (frame_from gsmp_channel mark (message_octets message))

  by_saying : (heard after : ActedSwitch) → IsStill a.switch.adjacency heard.switch.adjacency → heard.switch.crossbar.queues ≡ a.switch.crossbar.queues → SaysAtMost Calm heard after → Left after
  by_saying heard after side queues nothing = record {
    side = side;
    up = λ h. subst (λ (qs : List (List Cell)). Every (IsCalmCell Calm heard.notes.frames) (slice_index_or qs 0 [])) (sym queues) h;
  }
  by_saying heard after side queues (one message calm) = said heard message calm side queues

  -- *A frame* is read in which a calm message is
  abbrev IsHeard : (payload : List ℕ) → Type 0
  IsHeard payload = (message : Message) → decoded payload ≡ Ok message
      → IsCalmDown controller.own a.switch.adjacency.own message × (is_request message ≡ true → IsCarriedOut a.switch message)

  abbrev gathered : Journal → Reassembly → ActedSwitch
  gathered notes r = record a { switch = record a.switch { reassembly = r }; notes = notes }

  read : (notes : Journal) (r : Reassembly) (payload : List ℕ) → IsHeard payload → Left (frame_read (gathered notes r) (decoded payload))
  read notes r payload heard = by (decoded payload) refl
    where
      by : (o : Result Message Fault) → decoded payload ≡ o → Left (frame_read (gathered notes r) o)
      by (Err fault) is = left_same (frame_read (gathered notes r) (Err fault)) refl refl
      by (Ok message) is =
          let h = heard message is in
          let g : SwitchGoesOn Calm (gathered notes r) (message_heard (gathered notes r) message) = switches_hear_calmly controller (gathered notes r) message met h.0 h.1 in
          by_saying g.heard (message_heard (gathered notes r) message) (still_on a.switch.adjacency g.heard.switch.adjacency g.side) g.queues g.says

  tests : (notes : Journal) (r : Reassembly) (cells : List Cell) (o : Option (List ℕ)) → ((payload : List ℕ) → o ≡ Some payload → IsHeard payload)
      → Left (after_test (gathered notes r) (tested_by notes cells o))
  tests notes r cells None heard = left_same (gathered (tested_by notes cells None).notes r) refl refl
  tests notes r cells (Some payload) heard = read (tested_by notes cells (Some payload)).notes r payload (heard payload refl)

  abbrev EndsHeard : List Cell → Type 0
  EndsHeard cells = (first : Cell) (rest : List Cell) (payload : List ℕ) → cells ≡ first ∷ rest → payload_in (octets_of (first ∷ rest)) ≡ Some payload → IsHeard payload

  ends : (notes : Journal) (r : Reassembly) (cells : List Cell) → EndsHeard cells → Left (ends_frame (gathered notes r) cells)
  ends notes r [] heard = left_same (gathered notes r) refl refl
  ends notes r (first ∷ rest) heard = tests notes r (first ∷ rest) (payload_in (octets_of (first ∷ rest))) (λ payload is. heard first rest payload refl is)

  abbrev pub taken_down : Cell → Taken
  taken_down cell = taken a.notes (nat_lt 0 (free_slots a.switch)) a.switch.reassembly cell

  gsmp_left : (cell : Cell) → EndsHeard (taken_down cell).ended → Left (gsmp_cell a cell)
  gsmp_left cell heard = ends (taken_down cell).notes (taken_down cell).reassembly (taken_down cell).ended heard

  -- *A cell is passed on*: no branch leads to the controller on the GSMP channel
  module _ (apart : (input output : End) → output_of a.switch.crossbar.branches input ≡ Some output → output.port.0 ≡ 0 → same_channel output.channel default_channel ≡ false) where
    abbrev Waits : Crossbar → Type 0
    Waits x = Every (IsCalmCell Calm a.notes.frames) (queue_of x control_port)

    relayed_waits : (input : End) (b : Branch) (cell : Cell) → get a.switch.crossbar.branches input ≡ Some b → Waits a.switch.crossbar → Waits (relayed a.switch.crossbar input b cell)
    relayed_waits input b cell found h = every_set (IsCalmCell Calm a.notes.frames) a.switch.crossbar.queues b.output.port.0 (queue_of a.switch.crossbar b.output.port ++ on_channel_of cell b.output ∷ []) h
        (λ home. every_join (IsCalmCell Calm a.notes.frames) (queue_of a.switch.crossbar b.output.port) (on_channel_of cell b.output ∷ [])
        (subst (λ (i : ℕ). Every (IsCalmCell Calm a.notes.frames) (slice_index_or a.switch.crossbar.queues i [])) (sym home) h)
        ((λ on. absurd (true≢false (sym on ∙ apart input b.output (ap (option_map (λ (branch : Branch). branch.output)) found) home))), tt))

    routed_left : (port : PortNo) (cell : Cell) (o : Option Branch) (free : ℕ) → get a.switch.crossbar.branches (input_of port cell) ≡ o → free_slots a.switch ≡ free → Left (cell_routed a port cell (route_on o free))
    routed_left port cell None free found is = left_same (cell_routed a port cell (route_on None free)) refl refl
    routed_left port cell (Some b) zero found is = left_same (cell_routed a port cell (route_on (Some b) zero)) refl refl
    routed_left port cell (Some b) (suc free) found is = record {
      side = still_same a.switch.adjacency;
      up = λ h. subst Waits (sym (ap (λ (o : Option Branch). switched_on a.switch.crossbar (input_of port cell) o (free_slots a.switch) cell) found
          ∙ ap (λ (n : ℕ). switched_on a.switch.crossbar (input_of port cell) (Some b) n cell) is)) (relayed_waits (input_of port cell) b cell found h);
    }

    switched_left : (port : PortNo) (cell : Cell) → Left (switched_cell a port cell)
    switched_left port cell = routed_left port cell (get a.switch.crossbar.branches (input_of port cell)) (free_slots a.switch) refl refl

    -- *A cell comes*, from the controller and over a link
    pub down_left : (cell : Cell) → (same_channel cell.header.channel default_channel ≡ true → EndsHeard (taken_down cell).ended) → Left (cell_comes a control_port cell)
    down_left cell heard = on_each Left (is_gsmp control_port cell.header.channel) (gsmp_cell a cell) (switched_cell a control_port cell) (λ on. gsmp_left cell (heard on)) (λ off. switched_left control_port cell)

    pub link_left : (port : PortNo) (cell : Cell) → 1 ≤ port.0 → Left (cell_comes a port cell)
    link_left port cell link = on_each Left (is_gsmp port cell.header.channel) (gsmp_cell a cell) (switched_cell a port cell) (λ on. absurd (not_control port.0 link (first (port.0 == 0) ((cell.header.channel.vpi == 0) && (cell.header.channel.vci == 15)) on))) (λ off. switched_left port cell)
      where
        first : (x y : Bool) → (x && y) ≡ true → x ≡ true
        first true y e = refl
        first false y e = e

        is_zero : (n : ℕ) → (n == 0) ≡ true → n ≡ 0
        is_zero n e = grind (arith, nat_tests)

        not_control : (n : ℕ) → 1 ≤ n → (n == 0) ≡ true → ⊥
        not_control n link e = absurd (omega (arith, link, is_zero n e))

  -- *A tick* says a message
  pub tick_left : (message : Message) → Calm message → (side : Side Party) → IsStill a.switch.adjacency side → Left (says (record a { switch = record a.switch { adjacency = side } }) message)
  tick_left message calm side goes = said (record a { switch = record a.switch { adjacency = side } }) message calm goes refl
