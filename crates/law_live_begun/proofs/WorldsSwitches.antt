-- a switch before the first packet enters: a cell comes to it, and it ticks

use Rattle.std.proofs.Common.{◌≡◌, ℕ, zero, suc, ◌≤◌, Bool, true, false, true≢false, List, [], ◌∷◌, ◌++◌, length, slice_index_or, Option, None, Some, Result, Ok, Err, refl, sym, ◌∙◌, ap, subst, arith}
use Rattle.std.specs.Prelude.{◌&&◌, ◌==◌, nat_le, nat_lt}
use Rattle.std.specs.Option.{option_map}
use Rattle.std.specs.FinMap.{get}
use Rattle.std.proofs.lemmas.Bool.Decides.{nat_tests}
use Rattle.world_model.specs.Words.{End, PortNo, Mark, Cell, Frame, Journal, Loss, PoolFull, noted, frame_cells, made, next_control, with_control, payload_of, Reassembly, payload_in, tested_by, queue_of, on_channel_of, unfinished_after, route_on, switched_on, Switch, control_port, gsmp_channel, default_channel, same_channel, is_gsmp, gsmp_cell, switched_cell, frame_read, tick_comes}
use Rattle.world_model.specs.gsmp_wire.declared.fault.Fault.{Fault}
use Rattle.world_model.specs.gsmp_wire.declared.message.Message.{Message}
use Rattle.world_model.specs.gsmp_wire.Layout.{octets_of as message_octets}
use Rattle.world_model.specs.gsmp_wire.Fields.{decoded}
use Rattle.world_model.specs.frame_model.Frame.{octets_of}
use Rattle.world_model.specs.frame_model.Reassembly.{Taken, taken}
use Rattle.world_model.specs.frame_model.Sending.{Sender}
use Rattle.world_model.specs.crossbar_model.declared.branch.Branch.{Branch}
use Rattle.world_model.specs.crossbar_model.Crossbar.{Crossbar, input_of, output_of, relayed}
use Rattle.world_model.specs.Switch.{ActedSwitch, free_slots}
use Rattle.world_model.specs.Conduct.{says, with_cells, cell_routed, cell_comes, after_test, ends_frame, message_heard}
use Rattle.law_link_parties.proofs.law_link_met.law_port_facts.Keyed.{on_both, on_each}
use Rattle.law_link_parties.specs.law_run_facts.ordered_lists.Ordered.{Every}
use Rattle.law_link_parties.proofs.law_run_facts.ordered_lists.Every.{every_join, every_map}
use Rattle.law_link_parties.proofs.law_run_facts.law_shown_cells.Made.{made_is}
use Rattle.law_link_parties.proofs.law_run_facts.law_shown_cells.Tested.{tested_frames, taken_frames}
use Rattle.law_link_parties.proofs.law_link_met.law_live_tables.law_running_worlds.law_input_steps.Branches.{kept_output}
use Rattle.law_live_ease.specs.law_live_control.Calm.{SaysAtMost, nothing, one, IsCalmCell}
use Rattle.law_live_ease.proofs.law_live_control.Since.{IsFrom, frame_from}
use Rattle.law_link_parties.proofs.law_link_met.law_live_tables.law_live_control_links.Switches.{every_set}
use Rattle.law_live_begun.specs.First.{Start, FitsStart, AreFirstFrames, IsFirstSwitch, IsFirstDown, IsFirstUp}
use Rattle.law_live_begun.specs.Switches.{SwitchGoesOn, SwitchesGoOn}

-- *What waits* for the controller on the GSMP channel
abbrev pub Waits : Start → List Frame → Crossbar → Type 0
Waits start frames x = Every (IsCalmCell (IsFirstUp start) frames) (queue_of x control_port)

-- *What an event leaves* of a switch
pub record SwitchLeaves (start : Start) (a after : ActedSwitch) : Type 0 where
  pub switch : IsFirstSwitch start after.switch
  pub up : Waits start after.notes.frames a.switch.crossbar → Waits start after.notes.frames after.switch.crossbar
  pub frames : AreFirstFrames a.notes.frames → AreFirstFrames after.notes.frames

module _ (go : SwitchesGoOn) (start : Start) (fits : FitsStart start) (a : ActedSwitch) (begins : IsFirstSwitch start a.switch) where
  abbrev StillWaits : ActedSwitch → Type 0
  StillWaits after = Waits start after.notes.frames a.switch.crossbar → Waits start after.notes.frames after.switch.crossbar

  waits_same : (frames : List Frame) (x : Crossbar) → x.queues ≡ a.switch.crossbar.queues → Waits start frames a.switch.crossbar → Waits start frames x
  waits_same frames x same h = subst (λ (qs : List (List Cell)). Every (IsCalmCell (IsFirstUp start) frames) (slice_index_or qs 0 [])) (sym same) h

  -- *A message is said*
  said : (heard : ActedSwitch) (message : Message) → IsFirstUp start message → heard.switch.crossbar.queues ≡ a.switch.crossbar.queues → StillWaits (says heard message)
  said heard message calm queues = on_both (λ (s : Sender Switch). StillWaits (record { switch = s.queues; notes = s.notes; numbers = with_control heard.numbers })) (nat_le (length cells) (free_slots heard.switch))
      (record { queues = with_cells heard.switch control_port cells; notes = made heard.notes mark (message_octets message) })
      (record { queues = heard.switch; notes = noted (made heard.notes mark (message_octets message)) (Loss mark PoolFull) })
      (λ h. every_set (IsCalmCell (IsFirstUp start) frames) heard.switch.crossbar.queues 0 (queue_of heard.switch.crossbar control_port ++ cells) (was h)
      (λ e. every_join (IsCalmCell (IsFirstUp start) frames) (queue_of heard.switch.crossbar control_port) cells (was h) new))
      was
    where
      mark : Mark
      mark = next_control heard.numbers

      cells : List Cell
      cells = frame_cells gsmp_channel mark (message_octets message)

      frames : List Frame
      frames = (made heard.notes mark (message_octets message)).frames

      was : Waits start frames a.switch.crossbar → Waits start frames heard.switch.crossbar
      was h = waits_same frames heard.switch.crossbar queues h

      new : Every (IsCalmCell (IsFirstUp start) frames) cells
      new = every_map (IsFrom gsmp_channel mark) (IsCalmCell (IsFirstUp start) frames) cells
          (λ cell is on. record { message = message; calm = calm; made = ap (payload_of frames) is.1 ∙ made_is heard.notes.frames mark (message_octets message) })
          (frame_from gsmp_channel mark (message_octets message))

  by_saying : (heard after : ActedSwitch) → heard.switch.crossbar.queues ≡ a.switch.crossbar.queues → SaysAtMost (IsFirstUp start) heard after → StillWaits after
  by_saying heard after queues nothing = waits_same heard.notes.frames heard.switch.crossbar queues
  by_saying heard after queues (one message calm) = said heard message calm queues

  -- *A tick*
  pub switch_tick_leaves : SwitchLeaves start a (tick_comes a)
  switch_tick_leaves = (let g : SwitchGoesOn start a (tick_comes a) = go.ticks start a fits begins in record { switch = g.switch; up = by_saying g.heard (tick_comes a) g.queues g.says; frames = g.frames })

  -- *A frame* is read
  abbrev gathered : Journal → Reassembly → ActedSwitch
  gathered notes r = record a { switch = record a.switch { reassembly = r }; notes = notes }

  with_chain : (r : Reassembly) → IsFirstSwitch start (record a.switch { reassembly = r })
  with_chain r = record { ports = begins.ports; vpis = begins.vpis; branches = begins.branches }

  same : (notes : Journal) (r : Reassembly) → notes.frames ≡ a.notes.frames → SwitchLeaves start a (gathered notes r)
  same notes r frames = record { switch = with_chain r; up = λ h. h; frames = λ h. subst AreFirstFrames (sym frames) h }

  abbrev IsHeard : (payload : List ℕ) → Type 0
  IsHeard payload = (message : Message) → decoded payload ≡ Ok message → IsFirstDown start message

  read : (notes : Journal) (r : Reassembly) → notes.frames ≡ a.notes.frames → (payload : List ℕ) → IsHeard payload
      → SwitchLeaves start a (frame_read (gathered notes r) (decoded payload))
  read notes r frames payload heard = by (decoded payload) refl
    where
      by : (o : Result Message Fault) → decoded payload ≡ o → SwitchLeaves start a (frame_read (gathered notes r) o)
      by (Err fault) is = record { switch = with_chain r; up = λ h. h; frames = λ h. subst AreFirstFrames (sym frames) h }
      by (Ok message) is =
          let b : ActedSwitch = gathered notes r in
          let g : SwitchGoesOn start b (message_heard b message) = go.hear start b message fits (with_chain r) (heard message is) in
          record { switch = g.switch; up = by_saying g.heard (message_heard b message) g.queues g.says; frames = λ h. g.frames (subst AreFirstFrames (sym frames) h) }

  tests : (notes : Journal) (r : Reassembly) → notes.frames ≡ a.notes.frames → (cells : List Cell) (o : Option (List ℕ))
      → ((payload : List ℕ) → o ≡ Some payload → IsHeard payload)
      → SwitchLeaves start a (after_test (gathered notes r) (tested_by notes cells o))
  tests notes r frames cells None heard = same (tested_by notes cells None).notes r (tested_frames notes cells None ∙ frames)
  tests notes r frames cells (Some payload) heard = read (tested_by notes cells (Some payload)).notes r
      (tested_frames notes cells (Some payload) ∙ frames) payload (heard payload refl)

  abbrev pub EndsRead : List Cell → Type 0
  EndsRead cells = (first : Cell) (rest : List Cell) (payload : List ℕ) → cells ≡ first ∷ rest → payload_in (octets_of (first ∷ rest)) ≡ Some payload → IsHeard payload

  ends : (notes : Journal) (r : Reassembly) → notes.frames ≡ a.notes.frames → (cells : List Cell) → EndsRead cells
      → SwitchLeaves start a (ends_frame (gathered notes r) cells)
  ends notes r frames [] heard = same notes r frames
  ends notes r frames (first ∷ rest) heard = tests notes r frames (first ∷ rest) (payload_in (octets_of (first ∷ rest))) (λ payload is. heard first rest payload refl is)

  abbrev pub taken_by : Cell → Taken
  taken_by cell = taken a.notes (nat_lt 0 (free_slots a.switch)) a.switch.reassembly cell

  gsmp_leaves : (cell : Cell) → EndsRead (taken_by cell).ended → SwitchLeaves start a (gsmp_cell a cell)
  gsmp_leaves cell heard = ends (taken_by cell).notes (taken_by cell).reassembly (taken_frames a.notes (nat_lt 0 (free_slots a.switch)) a.switch.reassembly cell)
      (taken_by cell).ended heard

  -- *A cell is passed on*: no branch leads to the controller on the GSMP channel
  module _ (apart : (input output : End) → output_of a.switch.crossbar.branches input ≡ Some output → output.port.0 ≡ 0 → same_channel output.channel default_channel ≡ false) where
    -- where the crossbar is so
    abbrev Passes : Crossbar → Type 0
    Passes x = ((input : End) → output_of x.branches input ≡ output_of a.switch.crossbar.branches input) ×
        (Waits start a.notes.frames a.switch.crossbar → Waits start a.notes.frames x)

    relays : (input : End) (b : Branch) (cell : Cell) → get a.switch.crossbar.branches input ≡ Some b → Passes (relayed a.switch.crossbar input b cell)
    relays input b cell found = (
      λ other. kept_output other a.switch.crossbar.branches input b (record b { unfinished = unfinished_after cell }) found refl,
      λ h. every_set (IsCalmCell (IsFirstUp start) a.notes.frames) a.switch.crossbar.queues b.output.port.0
          (queue_of a.switch.crossbar b.output.port ++ on_channel_of cell b.output ∷ []) h
          (λ home. every_join (IsCalmCell (IsFirstUp start) a.notes.frames) (queue_of a.switch.crossbar b.output.port) (on_channel_of cell b.output ∷ [])
          (subst (λ (i : ℕ). Every (IsCalmCell (IsFirstUp start) a.notes.frames) (slice_index_or a.switch.crossbar.queues i [])) (sym home) h)
          ((λ on. absurd (true≢false (sym on ∙ apart input b.output (ap (option_map (λ (branch : Branch). branch.output)) found) home))), tt)),
    )

    passes : (x : Crossbar) (n : ℕ) → Passes x → SwitchLeaves start a (record a { switch = record a.switch { crossbar = x; switched = n } })
    passes x n p = record {
      switch = record { ports = begins.ports; vpis = begins.vpis; branches = λ input output leads. begins.branches input output (sym (p.0 input) ∙ leads) };
      up = p.1;
      frames = λ h. h;
    }

    left_as_was : (notes : Journal) → notes.frames ≡ a.notes.frames → SwitchLeaves start a (record a { notes = notes })
    left_as_was notes frames = record { switch = begins; up = λ h. h; frames = λ h. subst AreFirstFrames (sym frames) h }

    routed : (port : PortNo) (cell : Cell) (o : Option Branch) (free : ℕ) → get a.switch.crossbar.branches (input_of port cell) ≡ o → free_slots a.switch ≡ free
        → SwitchLeaves start a (cell_routed a port cell (route_on o free))
    routed port cell None free found is = left_as_was (cell_routed a port cell (route_on None free)).notes refl
    routed port cell (Some b) zero found is = left_as_was (cell_routed a port cell (route_on (Some b) zero)).notes refl
    routed port cell (Some b) (suc free) found is = passes (cell_routed a port cell (route_on (Some b) (suc free))).switch.crossbar
        (cell_routed a port cell (route_on (Some b) (suc free))).switch.switched
        (subst Passes (sym (ap (λ (o : Option Branch). switched_on a.switch.crossbar (input_of port cell) o (free_slots a.switch) cell) found
        ∙ ap (λ (n : ℕ). switched_on a.switch.crossbar (input_of port cell) (Some b) n cell) is)) (relays (input_of port cell) b cell found))

    switched : (port : PortNo) (cell : Cell) → SwitchLeaves start a (switched_cell a port cell)
    switched port cell = routed port cell (get a.switch.crossbar.branches (input_of port cell)) (free_slots a.switch) refl refl

    -- *A cell comes*, from the controller and over a link
    pub down_leaves : (cell : Cell) → (same_channel cell.header.channel default_channel ≡ true → EndsRead (taken_by cell).ended)
        → SwitchLeaves start a (cell_comes a control_port cell)
    down_leaves cell heard = on_each (SwitchLeaves start a) (is_gsmp control_port cell.header.channel) (gsmp_cell a cell) (switched_cell a control_port cell)
        (λ on. gsmp_leaves cell (heard on)) (λ off. switched control_port cell)

    pub link_leaves : (port : PortNo) (cell : Cell) → 1 ≤ port.0 → SwitchLeaves start a (cell_comes a port cell)
    link_leaves port cell link = on_each (SwitchLeaves start a) (is_gsmp port cell.header.channel) (gsmp_cell a cell) (switched_cell a port cell)
        (λ on. absurd (not_control port.0 link (first (port.0 == 0) ((cell.header.channel.vpi == 0) && (cell.header.channel.vci == 15)) on))) (λ off. switched port cell)
      where
        first : (x y : Bool) → (x && y) ≡ true → x ≡ true
        first true y e = refl
        first false y e = e

        is_zero : (n : ℕ) → (n == 0) ≡ true → n ≡ 0
        is_zero n e = grind (arith, nat_tests)

        not_control : (n : ℕ) → 1 ≤ n → (n == 0) ≡ true → ⊥
        not_control n link e = absurd (omega (arith, link, is_zero n e))
