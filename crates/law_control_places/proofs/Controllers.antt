-- what a controller puts on its queue: messages of GSMP on their channel, and messages of IFMP by ports of links

use Rattle.std.proofs.Common.{◌≡◌, ◌≢◌, true, ℕ, ◌<◌, ◌/◌, ◌*◌, List, [], ◌∷◌, ◌++◌, length, Option, None, Some, Ok, refl, sym, ◌∙◌, ap, subst, arith, cond, map}
use Rattle.std.specs.Prelude.{◌+◌, nat_le}
use Rattle.world_model.specs.Words.{PortNo, Channel, Mark, Cell, RouteChange, Frame, Loss, PoolFull, Refusal, payload_of, noted, frame_cells, made, next_mark, Setup, Controller, Linked, default_channel, default_home, same_channel, port_on, taker_of, inject_refusal, sends_control, says_gsmp}
use Rattle.law_frame_readings.specs.aal5_frames.Frame.{cells_with, cell_of, pdu_of}
use Rattle.std.specs.List.{range_with_len}
use Rattle.world_model.specs.gsmp_wire.declared.message.Message.{Message}
use Rattle.world_model.specs.gsmp_wire.Layout.{octets_of}
use Rattle.world_model.specs.gsmp_wire.Fields.{decoded}
use Rattle.world_model.specs.ipv4_forward.declared.table.Route.{Route}
use Rattle.world_model.proofs.link_model.Latest.{payload_of_push}
use Rattle.world_model.proofs.link_model.Marks.{same_mark-Decides}
use Rattle.world_model.specs.frame_model.Sending.{Sender}
use Rattle.law_frame_readings.specs.ordered_lists.Ordered.{Every}
use Rattle.law_frame_readings.proofs.ordered_lists.Every.{every_join, every_map, every_all}
use Rattle.law_frame_readings.proofs.law_port_facts.Keyed.{on_both}
use Rattle.world_model.specs.Controller.{Acted, free_slots}
use Rattle.world_model.specs.Cells.{Taker}
use Rattle.world_model.specs.Sending.{with_cells, sends}
use Rattle.law_frame_readings.specs.law_controller_facts.Inputs.{Input, CellComes, PacketEnters, Ticks, Restarts, ChangeComes, FrameIsForged, CellLeaves, Meanwhile, enters_unless, takes_input}
use Rattle.law_run_facts.specs.Frames.{IsFree}
use Rattle.law_run_facts.proofs.Frames.{free_next, free_packet}
use Rattle.law_running_worlds.proofs.MadeCells.{Ends, taken_by}
use Rattle.law_run_facts.proofs.Walks.{Has, change_walk, tick_walk, restart_walk}
use Rattle.law_control_places.proofs.Coming.{routed_walk, cell_walk}
use Rattle.law_frame_readings.proofs.law_shown_cells.Made.{made_elsewhere}

-- *The payload of a message of GSMP*, read or written
pub data IsOfGsmp (payload : List ℕ) : Type 0 where
  read : (message : Message) → decoded payload ≡ Ok message → IsOfGsmp payload
  filled : (message : Message) → payload ≡ octets_of message → IsOfGsmp payload

-- *Where a cell is*, by the frames that were made and the ports that are linked
module _ (L : PortNo → Type 0) where
  pub data IsOn (frames : List Frame) (cell : Cell) : Type 0 where
    own : same_channel cell.header.channel default_channel ≡ true → (payload : List ℕ) → payload_of frames cell.mark ≡ Some payload → IsOfGsmp payload → IsOn frames cell
    link : L (port_on cell.header.channel) → IsOn frames cell

  abbrev pub IsRight : List Frame → Cell → Type 0
  IsRight frames cell = cell.mark.packet ≡ 0 → IsOn frames cell

  abbrev pub AreRight : List Frame → List Cell → Type 0
  AreRight frames cells = Every (IsRight frames) cells

  -- what was made under control marks stays
  abbrev pub StayOf : (old new : List Frame) → Type 0
  StayOf old new = (mark : Mark) (payload : List ℕ) → mark.packet ≡ 0 → payload_of old mark ≡ Some payload → payload_of new mark ≡ Some payload

  right_later : (old new : List Frame) → StayOf old new → (cell : Cell) → IsRight old cell → IsRight new cell
  right_later old new stay cell h none = by (h none)
    where
      by : IsOn old cell → IsOn new cell
      by (own same payload is of) = own same payload (stay cell.mark payload none is) of
      by (link l) = link l

  pub rights_later : (old new : List Frame) → StayOf old new → (cells : List Cell) → AreRight old cells → AreRight new cells
  rights_later old new stay cells h = every_map (IsRight old) (IsRight new) cells (right_later old new stay) h

  -- one more frame under the next control mark, or a packet's
  pub next_stays : (controls : ℕ) (frames : List Frame) (payload : List ℕ) → IsFree controls frames → StayOf frames (frames ++ record { mark = record { packet = 0; frame = controls + 1 }; payload = payload } ∷ [])
  next_stays controls frames payload free mark old none is = made_elsewhere frames (record { packet = 0; frame = controls + 1 }) mark payload never ∙ is
    where
      never : record { packet = 0; frame = controls + 1 } ≡ mark → ⊥
      never same = (let gone = free (controls + 1) (omega arith) in let there = ap (λ (m : Mark). payload_of frames m) same ∙ is in absurd (cc (gone, there)))

  packet_stays : (mark : Mark) (frames : List Frame) (payload : List ℕ) → mark.packet ≢ 0 → StayOf frames (frames ++ record { mark = mark; payload = payload } ∷ [])
  packet_stays mark frames payload counted other old none is = made_elsewhere frames mark other payload (λ same. counted (ap (λ (m : Mark). m.packet) same ∙ none)) ∙ is

  -- the frame that was made just now
  made_now : (frames : List Frame) (mark : Mark) (payload : List ℕ) → payload_of (frames ++ record { mark = mark; payload = payload } ∷ []) mark ≡ Some payload
  made_now frames mark payload = payload_of_push frames (record { mark = mark; payload = payload }) mark ∙ ap (λ b. cond b (Some payload) (payload_of frames mark)) ((same_mark-Decides mark mark).1 refl)

  every_mapped : {A B : Type 0} (P : B → Type 0) (f : A → B) (xs : List A) → ((x : A) → P (f x)) → Every P (map f xs)
  every_mapped P f [] each = tt
  every_mapped P f (x ∷ xs) each = (each x, every_mapped P f xs each)

  -- the cells of a frame
  pub cells_right : (frames : List Frame) (channel : Channel) (mark : Mark) (payload : List ℕ) → ((cell : Cell) → cell.header.channel ≡ channel → cell.mark ≡ mark → IsRight frames cell) → AreRight frames (frame_cells channel mark payload)
  unfolding cells_with
  cells_right frames channel mark payload each = every_mapped (IsRight frames) (cell_of channel mark (pdu_of payload)) (range_with_len 0 (length (pdu_of payload) / 48)) (λ k. each (cell_of channel mark (pdu_of payload) k) refl refl)

  pub gsmp_cells : (frames : List Frame) (mark : Mark) (message : Message) → AreRight (frames ++ record { mark = mark; payload = octets_of message } ∷ []) (frame_cells default_channel mark (octets_of message))
  gsmp_cells frames mark message = cells_right (frames ++ record { mark = mark; payload = octets_of message } ∷ []) default_channel mark (octets_of message)
      (λ cell same is none. own (ap (λ (c : Channel). same_channel c default_channel) same) (octets_of message) (ap (λ (m : Mark). payload_of (frames ++ record { mark = mark; payload = octets_of message } ∷ []) m) is ∙ made_now frames mark (octets_of message)) (filled message refl))

  -- *A controller*
  abbrev IsOk : (queue chain : List Cell) → List Frame → (controls : ℕ) → Type 0
  IsOk queue chain frames controls = IsFree controls frames × AreRight frames queue

  abbrev AnyTable : List Route → Type 0
  AnyTable table = Unit {0}

  abbrev AnyChange : RouteChange → Type 0
  AnyChange change = Unit {0}

  abbrev OfLink : (controls : ℕ) → PortNo → (chain : List Cell) → Type 0
  OfLink controls port chain = L port

  abbrev IsFine : Acted → Type 0
  IsFine a = IsFree a.numbers.controls a.notes.frames × AreRight a.notes.frames a.controller.queue

  control : (a : Acted) (channel : Channel) (payload : List ℕ) → AreRight (a.notes.frames ++ record { mark = record { packet = 0; frame = a.numbers.controls + 1 }; payload = payload } ∷ []) (frame_cells channel (record { packet = 0; frame = a.numbers.controls + 1 }) payload)
      → IsFine a → IsFine (sends_control a channel payload)
  control a channel payload cells h =
      let mark : Mark = record { packet = 0; frame = a.numbers.controls + 1 } in
      let new : List Frame = a.notes.frames ++ record { mark = mark; payload = payload } ∷ [] in
      let old : AreRight new a.controller.queue = rights_later a.notes.frames new (next_stays a.numbers.controls a.notes.frames payload h.0) a.controller.queue h.1 in
      let free : IsFree (a.numbers.controls + 1) new = free_next a.numbers.controls a.notes.frames payload h.0 in
      on_both (λ (s : Sender Controller). IsFree (a.numbers.controls + 1) s.notes.frames × AreRight s.notes.frames s.queues.queue) (nat_le (length (frame_cells channel mark payload)) (free_slots a.controller))
      (record { queues = with_cells a.controller (frame_cells channel mark payload); notes = made a.notes mark payload })
      (record { queues = a.controller; notes = noted (made a.notes mark payload) (Loss mark PoolFull) })
      (free, every_join (IsRight new) a.controller.queue (frame_cells channel mark payload) old cells) (free, old)

  gsmp : (a : Acted) (message : Message) → IsFine a → IsFine (says_gsmp a message)
  gsmp a message h = control a default_channel (octets_of message) (gsmp_cells a.notes.frames (record { packet = 0; frame = a.numbers.controls + 1 }) message) h

  home_port : (port : PortNo) → port_on (default_home port).channel ≡ port
  home_port port = ap (λ (n : ℕ). record { 0 = n }) (whole port.0)
    where
      whole : (n : ℕ) → (16 * n + 0) / 16 ≡ n
      whole n = omega arith

  ifmp : (a : Acted) (port : PortNo) (payload : List ℕ) → L port → IsFine a → IsFine (sends_control a (default_home port).channel payload)
  ifmp a port payload l h =
      let mark : Mark = record { packet = 0; frame = a.numbers.controls + 1 } in
      control a (default_home port).channel payload (cells_right (a.notes.frames ++ record { mark = mark; payload = payload } ∷ []) (default_home port).channel mark payload
      (λ cell same is none. link (subst L (sym (ap (λ (c : Channel). port_on c) same ∙ home_port port)) l))) h

  packet : (came : Mark) → came.packet ≢ 0 → (a : Acted) (channel : Channel) (payload : List ℕ) → IsFine a → IsFine (sends a channel (next_mark came) payload)
  packet came counted a channel payload h =
      let mark : Mark = next_mark came in
      let new : List Frame = a.notes.frames ++ record { mark = mark; payload = payload } ∷ [] in
      let old : AreRight new a.controller.queue = rights_later a.notes.frames new (packet_stays mark a.notes.frames payload counted) a.controller.queue h.1 in
      let free : IsFree a.numbers.controls new = free_packet a.numbers.controls mark a.notes.frames payload counted h.0 in
      on_both (λ (s : Sender Controller). IsFree a.numbers.controls s.notes.frames × AreRight s.notes.frames s.queues.queue) (nat_le (length (frame_cells channel mark payload)) (free_slots a.controller))
      (record { queues = with_cells a.controller (frame_cells channel mark payload); notes = made a.notes mark payload })
      (record { queues = a.controller; notes = noted (made a.notes mark payload) (Loss mark PoolFull) })
      (free, every_join (IsRight new) a.controller.queue (frame_cells channel mark payload) old (cells_right new channel mark payload (λ cell same is none. absurd (counted (ap (λ (m : Mark). m.packet) (sym is) ∙ none))))) (free, old)

  begin : (a : Acted) → Every (λ (linked : Linked). L linked.setup.port) a.controller.ports → IsFine a → Has IsOk AnyTable AnyChange OfLink a
  begin a links h = (h, tt, every_all AnyChange a.controller.waiting (λ change. tt), links)

  enters : (a : Acted) (number : ℕ) (octets : List ℕ) (o : Option Refusal) → 0 < number → Every (λ (linked : Linked). L linked.setup.port) a.controller.ports → IsFine a → IsFine (enters_unless a number octets o)
  enters a number octets (Some refusal) some links h = h
  enters a number octets None some links h = (routed_walk IsOk AnyTable AnyChange OfLink L gsmp ifmp (λ n port chain d. d) (λ queue chain frames n k. k) (λ n port chain d. d) (λ n port chain d. d) (λ table change k l. tt)
      [] (record { packet = number; frame = 0 }) (λ queue chain frames n cell k. k) (λ n port chain cell d. d) (packet (record { packet = number; frame = 0 })) (λ none. absurd (omega (arith, some, none))) a octets (begin a links h)).0

  -- *Each input*: what a cell ends is a frame that was made, and nothing is forged
  abbrev pub IsGiven : Acted → Input → Type 0
  IsGiven a (CellComes cell) = (setups : List Setup) × ((taker : Taker) → taker_of a.controller cell.header.channel ≡ Some taker → Ends setups taker (taken_by setups a taker cell).ended)
  IsGiven a (PacketEnters number octets) = 0 < number
  IsGiven a Ticks = Unit {0}
  IsGiven a Restarts = Unit {0}
  IsGiven a (ChangeComes change) = Unit {0}
  IsGiven a (FrameIsForged channel mark payload) = ⊥
  IsGiven a CellLeaves = ⊥
  IsGiven a (Meanwhile notes numbers) = ⊥

  pub input_right : (a : Acted) (input : Input) → IsGiven a input → Every (λ (linked : Linked). L linked.setup.port) a.controller.ports → IsFree a.numbers.controls a.notes.frames × AreRight a.notes.frames a.controller.queue
      → AreRight (takes_input a input).notes.frames (takes_input a input).controller.queue
  input_right a (CellComes cell) given links h = (cell_walk IsOk AnyTable AnyChange OfLink L gsmp ifmp (λ n port chain d. d) (λ queue chain frames n k. k) (λ n port chain d. d) (λ n port chain d. d) (λ table change k l. tt)
      given.0 cell.mark (λ queue chain frames n c k. k) (λ n port chain c d. d) (packet cell.mark) a cell refl given.1 (begin a links h)).0.1
  input_right a (PacketEnters number octets) given links h = (enters a number octets (inject_refusal octets) given links h).1
  input_right a Ticks given links h = (tick_walk IsOk AnyTable AnyChange OfLink L gsmp ifmp (λ n port chain d. d) (λ queue chain frames n k. k) (λ n port chain d. d) (λ n port chain d. d) (λ table change k l. tt) a (begin a links h)).0.1
  input_right a Restarts given links h = (restart_walk IsOk AnyTable AnyChange OfLink L gsmp ifmp (λ n port chain d. d) (λ queue chain frames n k. k) (λ n port chain d. d) (λ n port chain d. d) (λ table change k l. tt) a (begin a links h)).0.1
  input_right a (ChangeComes change) given links h = (change_walk IsOk AnyTable AnyChange OfLink L gsmp ifmp (λ n port chain d. d) (λ queue chain frames n k. k) (λ n port chain d. d) (λ n port chain d. d) (λ table change k l. tt) a change tt
      (begin (record a { controller = record a.controller { waiting = a.controller.waiting ++ change ∷ [] } }) links h)).0.1
  input_right a (FrameIsForged channel mark payload) given links h = absurd given
  input_right a CellLeaves given links h = absurd given
  input_right a (Meanwhile notes numbers) given links h = absurd given
