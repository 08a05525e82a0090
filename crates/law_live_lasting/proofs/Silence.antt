-- what is carried never leaves a switch silent for longer, and where it hears its controller it is silent no more

use Rattle.std.proofs.Common.{◌≡◌, ℕ, ◌≤◌, Bool, true, false, List, [], ◌∷◌, length, Option, None, Some, Result, Ok, Err, refl, sym, ◌∙◌, ap, subst, arith, if◌then◌else◌}
use Rattle.std.specs.Prelude.{◌&&◌, nat_le, nat_lt}
use Rattle.std.specs.Option.{option_map, option_map_or}
use Rattle.world_model.specs.Words.{NodeId, PortNo, Place, Down, Up, Out, Mark, Cell, Loss, PoolFull, noted, made, frame_cells, next_control, Party, Greeting, Answer, Quiet, Send, Open, Step, same_party, gsmp_answer, gsmp_received, is_estab, gsmp_channel, control_port, Routed, routed, Tested, tested, is_gsmp, gsmp_cell, switched_cell, frame_read, requested, replied, Handled, handled, handled_asked, handled_by, failure_of, asked_in, is_request, Switch, at, put, Topology, World, Site, site_key, site_at, switch_acts, queue_at, with_queue_in, with_queue, carries_head, arrives_at, put_away, next}
use Rattle.world_model.specs.adjacency_table.Table.{row}
use Rattle.world_model.specs.adjacency_table.declared.message.Answer.TheVariants.{Reset}
use Rattle.world_model.specs.gsmp_wire.declared.fault.Fault.{Fault}
use Rattle.world_model.specs.gsmp_wire.declared.failure.Failure.{Failure}
use Rattle.world_model.specs.gsmp_wire.declared.message.Message.{Message}
use Rattle.world_model.specs.gsmp_wire.declared.message.Message.TheVariants as messages
use Rattle.world_model.specs.gsmp_wire.Layout.{octets_of}
use Rattle.world_model.specs.gsmp_wire.Fields.{decoded}
use Rattle.world_model.specs.frame_model.Sending.{Sender}
use Rattle.world_model.specs.frame_model.Reassembly.{Taken, taken}
use Rattle.world_model.specs.crossbar_model.declared.routed.Routed.TheVariants as routes
use Rattle.world_model.specs.switch_model.declared.request.Asked.{Asked}
use Rattle.world_model.specs.Switch.{ActedSwitch, free_slots}
use Rattle.world_model.specs.Conduct.{with_cells, says, answers, greeted, message_heard, opened_frame, ends_frame, cell_routed, cell_comes}
use Rattle.world_model.specs.Cells as controller
use Rattle.world_model.specs.Topology.{peer_of}
use Rattle.world_model.specs.World.{at_switch}
use Rattle.world_model.specs.network_model.declared.link.LinkEnd.{LinkEnd}
use Rattle.world_model.specs.network_model.declared.event.Event.TheVariants.{Carry}
use Rattle.world_model.proofs.Lists.{by_eq, at_put_same, at_put_other}
use Rattle.law_port_facts.proofs.Keyed.{on_both}
use Rattle.law_live_calm_nodes.proofs.law_passing.Controllers.{cell_adds}
use Rattle.law_live_calm_nodes.proofs.Parts.{part_at, found_own, popped_part, controller_part}

-- *A switch* is silent for no longer than it was
module _ (n : ℕ) where
  abbrev pub IsLow : ActedSwitch → Type 0
  IsLow b = b.switch.adjacency.silence ≤ n

  says_low : (b : ActedSwitch) (message : Message) → IsLow b → IsLow (says b message)
  says_low b message h =
      let mark : Mark = next_control b.numbers in
      let cells : List Cell = frame_cells gsmp_channel mark (octets_of message) in
      on_both (λ (s : Sender Switch). s.queues.adjacency.silence ≤ n) (nat_le (length cells) (free_slots b.switch))
      (record { queues = with_cells b.switch control_port cells; notes = made b.notes mark (octets_of message) })
      (record { queues = b.switch; notes = noted (made b.notes mark (octets_of message)) (Loss mark PoolFull) }) h h

  answers_low : (b : ActedSwitch) (answer : Answer Greeting Party) → IsLow b → IsLow (answers b answer)
  answers_low b Quiet h = h
  answers_low b (Send greeting) h = says_low b (messages.Adjacency greeting) h
  answers_low b (Open None own) h = h
  answers_low b (Open (Some greeting) own) h = says_low b (messages.Adjacency greeting) h
  answers_low b Reset h = omega arith

  cleared_low : (m : ℕ) (t : Bool) → m ≤ n → (if t then 0 else m) ≤ n
  cleared_low m true h = omega arith
  cleared_low m false h = h

  greeted_low : (b : ActedSwitch) (greeting : Greeting) → IsLow b → IsLow (greeted b greeting)
  greeted_low b greeting h =
      let step : Step Party = gsmp_received b.switch.adjacency greeting in
      answers_low (record b { switch = record b.switch { adjacency = step.side } }) (gsmp_answer step.answer) (cleared_low b.switch.adjacency.silence
      (row b.switch.adjacency.state greeting.kind (same_party greeting.receiver b.switch.adjacency.own) (option_map_or (same_party greeting.sender) b.switch.adjacency.stored false)).clears_silence h)

  handled_low : (b : ActedSwitch) (message : Message) (o : Option Asked) → IsLow b → (handled_asked b.switch b.notes message o).switch.adjacency.silence ≤ n
  handled_low b message None h = h
  handled_low b message (Some asked) h = by (failure_of b.switch.ports b.switch.vpis b.switch.crossbar.branches asked)
    where
      by : (o : Option Failure) → (handled_by b.switch b.notes message asked.request o).switch.adjacency.silence ≤ n
      by None = h
      by (Some failure) = h

  requested_low : (b : ActedSwitch) (message : Message) → IsLow b → IsLow (requested b message)
  requested_low b message h =
      let by : Handled = handled b.switch b.notes message in
      on_both IsLow (is_request message && is_estab b.switch.adjacency.state) (replied b by) b
      (says_low (record b { switch = by.switch; notes = by.notes }) by.answer (handled_low b message (asked_in message) h)) h

  heard_low : (b : ActedSwitch) (message : Message) → IsLow b → IsLow (message_heard b message)
  heard_low b (messages.Adjacency greeting) h = greeted_low b greeting h
  heard_low b (messages.Branch kind result code number session input_port input output_port output count priority) h =
      requested_low b (messages.Branch kind result code number session input_port input output_port output count priority) h
  heard_low b (messages.Move result code number session input_port input output_port output target_port target count priority) h =
      requested_low b (messages.Move result code number session input_port input output_port output target_port target count priority) h
  heard_low b (messages.Port result code number port session function) h = requested_low b (messages.Port result code number port session function) h
  heard_low b (messages.AllPorts result code number rows) h = requested_low b (messages.AllPorts result code number rows) h

  read_low : (b : ActedSwitch) (r : Result Message Fault) → IsLow b → IsLow (frame_read b r)
  read_low b (Ok message) h = heard_low b message h
  read_low b (Err fault) h = h

  opened_low : (b : ActedSwitch) (o : Option (List ℕ)) → IsLow b → IsLow (opened_frame b o)
  opened_low b None h = h
  opened_low b (Some payload) h = read_low b (decoded payload) h

  ended_low : (b : ActedSwitch) (cells : List Cell) → IsLow b → IsLow (ends_frame b cells)
  ended_low b [] h = h
  ended_low b (cell ∷ cells) h = (let t : Tested = tested b.notes (cell ∷ cells) in opened_low (record b { notes = t.notes }) t.payload h)

  routed_low : (b : ActedSwitch) (port : PortNo) (cell : Cell) (r : Routed) → IsLow b → IsLow (cell_routed b port cell r)
  routed_low b port cell (routes.Out output) h = h
  routed_low b port cell routes.Unconnected h = h
  routed_low b port cell routes.PoolFull h = h

  pub comes_low : (b : ActedSwitch) (port : PortNo) (cell : Cell) → IsLow b → IsLow (cell_comes b port cell)
  comes_low b port cell h =
      let t : Taken = taken b.notes (nat_lt 0 (free_slots b.switch)) b.switch.reassembly cell in
      on_both IsLow (is_gsmp port cell.header.channel) (gsmp_cell b cell) (switched_cell b port cell)
      (ended_low (record b { switch = record b.switch { reassembly = t.reassembly }; notes = t.notes }) t.ended h)
      (routed_low b port cell (routed b.switch.crossbar (free_slots b.switch) port cell) h)

-- *The switch of a node*
abbrev pub silence_of : Site → ℕ
silence_of site = site.switch.adjacency.silence

abbrev pub silence_at : World → NodeId → Option ℕ
silence_at v node = part_at silence_of v node

pub one_number : (m n : ℕ) → Some m ≡ Some n → m ≡ n
one_number m n e = cc

keeps_queue : (place : Place) (site : Site) (cells : List Cell) → silence_of (with_queue_in site place cells) ≡ silence_of site
keeps_queue (Down here) site _ = refl
keeps_queue (Up here) site _ = refl
keeps_queue (Out here port) site _ = refl

-- a cell comes to a switch
comes_silent : (w : World) (node here : NodeId) (port : PortNo) (cell : Cell) → silence_at w node ≡ Some 0 → silence_at (at_switch w here (λ b. cell_comes b port cell)) node ≡ Some 0
comes_silent w node here port cell silent = by (site_at w here) refl
  where
    by : (o : Option Site) → site_at w here ≡ o → silence_at (switch_acts w o (λ b. cell_comes b port cell)) node ≡ Some 0
    by None found = silent
    by (Some site) found =
        let b : ActedSwitch = record { switch = site.switch; notes = w.notes; numbers = w.numbers } in
        let now : Site = record site { switch = (cell_comes b port cell).switch } in
        let own : at site_key (site_key now) w.sites ≡ Some site = found_own w here site found in
        by_eq (site_key now) node.0
        (λ same t. subst (λ (k : ℕ). option_map silence_of (at site_key k w.sites) ≡ Some 0 → option_map silence_of (at site_key k (put site_key now w.sites)) ≡ Some 0) same
        (λ was. ap (option_map silence_of) (at_put_same site_key now w.sites site own)
        ∙ ap (λ (m : ℕ). Some m) (none_low (silence_of now) (silence_of site) (comes_low (silence_of site) b port cell (omega arith)) (one_number (silence_of site) 0 (sym (ap (option_map silence_of) own) ∙ was)))) silent)
        (λ apart t. ap (option_map silence_of) (at_put_other site_key now node.0 w.sites apart) ∙ silent)
      where
        none_low : (m n : ℕ) → m ≤ n → n ≡ 0 → m ≡ 0
        none_low m n low none = omega (arith, low, none)

module _ (topology : Topology) (v : World) (node : NodeId) (silent : silence_at v node ≡ Some 0) where
  popped : (place : Place) (cells : List Cell) → silence_at (with_queue (put_away v) place cells) node ≡ Some 0
  popped place cells = popped_part silence_of keeps_queue (put_away v) node place cells ∙ silent

  -- *Whatever is carried*, it stays so
  pub still_silent : (place : Place) → silence_at (next topology v (Carry place)) node ≡ Some 0
  still_silent (Down here) = by (queue_at v (Down here))
    where
      by : (q : List Cell) → silence_at (carries_head topology (put_away v) (Down here) q) node ≡ Some 0
      by [] = silent
      by (cell ∷ cells) = comes_silent (with_queue (put_away v) (Down here) cells) node here control_port cell (popped (Down here) cells)
  still_silent (Out here port) = by (queue_at v (Out here port))
    where
      arrived : (cell : Cell) (cells : List Cell) (o : Option LinkEnd) → silence_at (arrives_at (with_queue (put_away v) (Out here port) cells) cell o) node ≡ Some 0
      arrived cell cells None = popped (Out here port) cells
      arrived cell cells (Some end) = comes_silent (with_queue (put_away v) (Out here port) cells) node end.node end.port cell (popped (Out here port) cells)

      by : (q : List Cell) → silence_at (carries_head topology (put_away v) (Out here port) q) node ≡ Some 0
      by [] = silent
      by (cell ∷ cells) = arrived cell cells (peer_of topology here port)
  still_silent (Up here) = by (queue_at v (Up here))
    where
      by : (q : List Cell) → silence_at (carries_head topology (put_away v) (Up here) q) node ≡ Some 0
      by [] = silent
      by (cell ∷ cells) = controller_part silence_of (λ site c. refl) (with_queue (put_away v) (Up here) cells) node here (λ b. controller.cell_comes b cell) (λ b. (cell_adds b cell).node) ∙ popped (Up here) cells
