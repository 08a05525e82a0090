-- packets that are forwarded, and cells that come to a controller, under whichever marks

use Rattle.std.proofs.Common.{◌≡◌, ℕ, Bool, true, false, List, [], ◌∷◌, map, Option, None, Some, refl, sym, ◌∙◌, ap, if◌then◌else◌}
use Rattle.std.specs.Prelude.{◌==◌, nat_lt, drop, Result, Ok, Err}
use Rattle.std.specs.Option.{option_map, option_and_then}
use Rattle.world_model.specs.Words.{PortNo, Channel, Mark, label_number_of, next_control, with_control, protocol_of, source_of, PacketFault, kind_of, hop_of, onward, Hop, Here, On, default_payload, labelled_payload, default_unwrapped, unwrapped, EncapsFault, Cell, Delivered, Dropped, Bad, Loss, Unbound, Layer, Refusal, encaps_refusal, packet_refusal, ifmp_refusal, gsmp_refusal, Tested, tested, last_mark, next_mark, Reassembly, Grant, grant_matching, Label, is_bound, label_at, control_end, counts, used, hears, Controller, Linked, linked_at, chains_with, default_channel, default_home, sends_control, at_port, gsmp_holds, is_control, sends_next, goes_by, grant_by, forwards_packet, control_protocol, injected, ForGsmp, ForDefault, ForLabel, port_on, on_link, same_channel, label_taker, taker_at, taker_of, reassembly_of, with_reassembly, label_holds, ifmp_holds, counted_at, packet_holds, default_holds, frame_holds, takes_cell}
use Rattle.world_model.specs.ipv4_packet.Packet.{first_fault}
use Rattle.world_model.specs.ipv4_forward.declared.outcome.Hop.TheVariants.{NoRoute, Expired}
use Rattle.world_model.specs.ifmp_wire.declared.message.Message.{Message as IfmpMessage}
use Rattle.world_model.specs.ifmp_wire.declared.reader.Fault.{Fault as IfmpFault}
use Rattle.world_model.specs.ifmp_wire.Fields.{decoded as ifmp_decoded}
use Rattle.world_model.specs.gsmp_wire.declared.message.Message.{Message}
use Rattle.world_model.specs.gsmp_wire.declared.fault.Fault.{Fault}
use Rattle.world_model.specs.gsmp_wire.Fields.{decoded as gsmp_decoded}
use Rattle.world_model.specs.link_model.declared.record.DropCause.TheVariants as drops
use Rattle.world_model.specs.link_model.declared.record.Layer.TheVariants as layers
use Rattle.world_model.specs.frame_model.Reassembly.{Taken, taken}
use Rattle.world_model.specs.Controller.{Acted, note, free_slots}
use Rattle.world_model.specs.Sending.{sends}
use Rattle.world_model.specs.Packets.{forwarded}
use Rattle.world_model.specs.Cells.{Taker, opened_frame, ends_frame, after_cell, cell_comes}
use Rattle.law_unmarked_controllers.specs.Unmarked.{unmarked_cell, unmarked_cells, unmarked_reassembly, unmarked_chain, unmarked_linked, unmarked_controller, shown, bare}
use Rattle.law_unmarked_controllers.proofs.Notes.{shown_twice, tested_shown, taken_shown}
use Rattle.law_unmarked_controllers.proofs.Cells.{gathered_twice, tested_same, AreTakenAlike, taken_same}
use Rattle.law_unmarked_controllers.proofs.Controllers.{chains_twice, linked_same, free_same, at_port_read, chain_same, chains_same, placed, sent_bare, sends_bare}
use Rattle.law_unmarked_controllers.proofs.Rules.{Blind, once, noted_alike, behind, chosen, at_port_blind}
use Rattle.law_unmarked_controllers.proofs.Meeting.{told_blind}

-- *A packet's next frame*: whether it is a control frame, the mark alone tells
next_bare : (came : Mark) (channel : Channel) (payload : List ℕ) (a : Acted) → bare (sends_next a came channel payload) ≡ sent_bare (bare a) channel payload
next_bare came channel payload a = by (is_control came)
  where
    by : (t : Bool) → bare (if t then sends_control a channel payload else sends a channel (next_mark came) payload) ≡ sent_bare (bare a) channel payload
    by true = sends_bare (record a { numbers = with_control a.numbers }) channel (next_control a.numbers) payload
    by false = sends_bare a channel (next_mark came) payload

next_same : (came other : Mark) (channel : Channel) (payload : List ℕ) (a : Acted) → bare (sends_next a came channel payload) ≡ bare (sends_next (bare a) other channel payload)
next_same came other channel payload a = next_bare came channel payload a ∙ ap (λ (x : Acted). sent_bare x channel payload) (once a) ∙ sym (next_bare other channel payload (bare a))

by_grant : (came other : Mark) (port : PortNo) (packet : List ℕ) (o : Option Grant) (a : Acted) → bare (goes_by a came port packet o) ≡ bare (goes_by (bare a) other port packet o)
by_grant came other port packet None a = next_same came other (default_home port).channel (default_payload packet) a
by_grant came other port packet (Some grant) a = next_same came other (control_end port grant.label).channel (labelled_payload (kind_of grant.flow) packet) a

grant_same : (c : Controller) (port : PortNo) (packet : List ℕ) → grant_by (unmarked_controller c) port packet ≡ grant_by c port packet
grant_same c port packet = at_port_read (option_and_then (λ linked. grant_matching linked.port.grants packet)) refl (λ linked. refl) c port

by_hop : (came other : Mark) (packet : List ℕ) (hop : Hop) (a : Acted) → bare (forwarded a came packet hop) ≡ bare (forwarded (bare a) other packet hop)
by_hop came other packet Here a = noted_alike a (bare a) (once a) (Delivered a.controller.node came.packet packet) (Delivered a.controller.node other.packet packet) refl
by_hop came other packet NoRoute a = noted_alike a (bare a) (once a) (Dropped a.controller.node came.packet drops.NoRoute) (Dropped a.controller.node other.packet drops.NoRoute) refl
by_hop came other packet Expired a = noted_alike a (bare a) (once a) (Dropped a.controller.node came.packet drops.Expired) (Dropped a.controller.node other.packet drops.Expired) refl
by_hop came other packet (On port) a =
    by_grant came other port (onward packet) (grant_by a.controller port (onward packet)) a
    ∙ ap (λ (o : Option Grant). bare (goes_by (bare a) other port (onward packet) o)) (sym (grant_same a.controller port (onward packet)))

routes_blind : (came other : Mark) (packet : List ℕ) (a : Acted) → bare (forwards_packet a came packet) ≡ bare (forwards_packet (bare a) other packet)
routes_blind came other packet a = by_hop came other packet (hop_of a.controller.table packet) a

routes_same : (a b : Acted) → bare a ≡ bare b → (came other : Mark) (packet : List ℕ) → bare (forwards_packet a came packet) ≡ bare (forwards_packet b other packet)
routes_same a b e came other packet = routes_blind came other packet a ∙ ap (λ (x : Acted). bare (forwards_packet x other packet)) e ∙ sym (routes_blind other other packet b)

pub injected_same : (a b : Acted) → bare a ≡ bare b → (number other : ℕ) (packet : List ℕ) → bare (injected a number packet) ≡ bare (injected b other packet)
injected_same a b e number other packet = routes_same a b e (record { packet = number; frame = 0 }) (record { packet = other; frame = 0 }) packet

-- *What a frame holds*
refused_alike : (a b : Acted) → bare a ≡ bare b → (layer : Layer) (name : Refusal) → bare (note a (Bad a.controller.node layer name)) ≡ bare (note b (Bad b.controller.node layer name))
refused_alike a b e layer name = noted_alike a b e (Bad a.controller.node layer name) (Bad b.controller.node layer name) (λ i. Some (Bad (e i).controller.node layer name))

gsmp_blind : (r : Result Message Fault) → Blind (λ a. gsmp_holds a r)
gsmp_blind (Ok message) a = told_blind message a
gsmp_blind (Err fault) a = refused_alike a (bare a) (once a) layers.Gsmp (gsmp_refusal fault)

ifmp_blind : (port : PortNo) (packet : List ℕ) (r : Result IfmpMessage IfmpFault) → Blind (λ a. ifmp_holds a port packet r)
ifmp_blind port packet (Err fault) a = refused_alike a (bare a) (once a) layers.Ifmp (ifmp_refusal fault)
ifmp_blind port packet (Ok message) a = at_port_blind (λ setup desk w. hears setup desk w (source_of packet) message) port a

counted_blind : (port : PortNo) (packet : List ℕ) → Blind (λ a. counted_at a port packet)
counted_blind port packet = at_port_blind (λ setup desk w. counts setup desk w packet) port

module _ (a b : Acted) (e : bare a ≡ bare b) (came other : Mark) where
  packet_same : (port : PortNo) (packet : List ℕ) (o : Option PacketFault) → bare (packet_holds a port came packet o) ≡ bare (packet_holds b port other packet o)
  packet_same port packet (Some fault) = refused_alike a b e layers.Packet (packet_refusal fault)
  packet_same port packet None =
      let r : Result IfmpMessage IfmpFault = ifmp_decoded (drop 20 packet) in
      chosen (protocol_of packet == control_protocol) (ifmp_holds a port packet r) (counted_at (forwards_packet a came packet) port packet) (ifmp_holds b port packet r) (counted_at (forwards_packet b other packet) port packet)
      (behind (λ c. ifmp_holds c port packet r) (ifmp_blind port packet r) a b e)
      (behind (λ c. counted_at c port packet) (counted_blind port packet) (forwards_packet a came packet) (forwards_packet b other packet) (routes_same a b e came other packet))

  default_same : (port : PortNo) (r : Result (List ℕ) EncapsFault) → bare (default_holds a port came r) ≡ bare (default_holds b port other r)
  default_same port (Err fault) = refused_alike a b e layers.Encaps (encaps_refusal fault)
  default_same port (Ok packet) = packet_same port packet (first_fault packet)

  label_holds_same : (linked : Linked) (label : Label) (r : Result (List ℕ) EncapsFault) → bare (label_holds a linked label came r) ≡ bare (label_holds b (unmarked_linked linked) label other r)
  label_holds_same linked label (Err fault) = refused_alike a b e layers.Encaps (encaps_refusal fault)
  label_holds_same linked label (Ok packet) = behind (λ c. at_port c linked.setup.port (λ setup desk w. used w label.number)) (at_port_blind (λ setup desk w. used w label.number) linked.setup.port)
      (forwards_packet a came packet) (forwards_packet b other packet) (routes_same a b e came other packet)

-- *Who takes the cells of a channel*
abbrev pub unmarked_taker : Taker → Taker
unmarked_taker ForGsmp = ForGsmp
unmarked_taker (ForDefault linked) = ForDefault (unmarked_linked linked)
unmarked_taker (ForLabel linked label) = ForLabel (unmarked_linked linked) label

frame_holds_same : (a b : Acted) → bare a ≡ bare b → (came other : Mark) (taker : Taker) (payload : List ℕ) → bare (frame_holds a taker came payload) ≡ bare (frame_holds b (unmarked_taker taker) other payload)
frame_holds_same a b e came other ForGsmp payload = behind (λ c. gsmp_holds c (gsmp_decoded payload)) (gsmp_blind (gsmp_decoded payload)) a b e
frame_holds_same a b e came other (ForDefault linked) payload = default_same a b e came other linked.setup.port (default_unwrapped payload)
frame_holds_same a b e came other (ForLabel linked label) payload = label_holds_same a b e came other linked label (unwrapped label.flow payload)

opened_same : (a b : Acted) → bare a ≡ bare b → (came other : Mark) (taker : Taker) (o : Option (List ℕ)) → bare (opened_frame a taker came o) ≡ bare (opened_frame b (unmarked_taker taker) other o)
opened_same a b e came other taker None = e
opened_same a b e came other taker (Some payload) = frame_holds_same a b e came other taker payload

ends_same : (a b : Acted) → bare a ≡ bare b → (taker : Taker) (cells : List Cell) → bare (ends_frame a taker cells) ≡ bare (ends_frame b (unmarked_taker taker) (unmarked_cells cells))
ends_same a b e taker [] = e
ends_same a b e taker (cell ∷ cells) =
    let one : Tested = tested a.notes (cell ∷ cells) in
    let other : Tested = tested b.notes (unmarked_cells (cell ∷ cells)) in
    let mark : Mark = last_mark (unmarked_cells (cell ∷ cells)) in
    opened_same (record a { notes = one.notes }) (record b { notes = other.notes })
    (λ i. record (e i) { notes = (tested_shown a.notes (cell ∷ cells) ∙ (λ j. (e j).notes) ∙ sym (tested_shown b.notes (unmarked_cells (cell ∷ cells)))) i }) (last_mark (cell ∷ cells)) mark taker one.payload
    ∙ ap (λ (o : Option (List ℕ)). bare (opened_frame (record b { notes = other.notes }) (unmarked_taker taker) mark o)) (sym (tested_same a.notes b.notes (cell ∷ cells)))

gathered_same : (c : Controller) (taker : Taker) → reassembly_of (unmarked_controller c) (unmarked_taker taker) ≡ unmarked_reassembly (reassembly_of c taker)
gathered_same c ForGsmp = refl
gathered_same c (ForDefault linked) = refl
gathered_same c (ForLabel linked label) = chain_same linked.chains label.number

kept_same : (a b : Acted) → bare a ≡ bare b → (taker : Taker) (r : Reassembly) → bare (with_reassembly a taker r) ≡ bare (with_reassembly b (unmarked_taker taker) (unmarked_reassembly r))
kept_same a b e ForGsmp r = λ i. record (e i) { controller = record (e i).controller { reassembly = sym (gathered_twice r) i } }
kept_same a b e (ForDefault linked) r = placed a b e (record linked { reassembly = r }) (record (unmarked_linked linked) { reassembly = unmarked_reassembly r })
    (λ i. record linked { reassembly = sym (gathered_twice r) i; chains = sym (chains_twice linked.chains) i })
kept_same a b e (ForLabel linked label) r =
    placed a b e (record linked { chains = chains_with linked.chains label.number r }) (record (unmarked_linked linked) { chains = chains_with (map unmarked_chain linked.chains) label.number (unmarked_reassembly r) })
    (λ i. record linked {
      reassembly = sym (gathered_twice linked.reassembly) i;
      chains = (sym (chains_twice (chains_with linked.chains label.number r)) ∙ ap (map unmarked_chain) (sym (chains_same linked.chains label.number r))) i;
    })

-- *A cell is taken*
takes_same : (a : Acted) (cell : Cell) (o : Option Taker) → bare (takes_cell a cell o) ≡ bare (takes_cell (bare a) (unmarked_cell cell) (option_map unmarked_taker o))
takes_same a cell None = noted_alike a (bare a) (once a) (Loss cell.mark Unbound) (Loss (unmarked_cell cell).mark Unbound) refl
takes_same a cell (Some taker) =
    ends_same (with_reassembly (record a { notes = t.notes }) taker t.reassembly) (with_reassembly (record (bare a) { notes = u.notes }) (unmarked_taker taker) u.reassembly)
    (kept_same (record a { notes = t.notes }) (record (bare a) { notes = u.notes }) (λ i. record (once a i) { notes = notes_same i }) taker t.reassembly ∙ ap (λ (r : Reassembly). bare (with_reassembly (record (bare a) { notes = u.notes }) (unmarked_taker taker) r)) (sym alike.kept)) taker t.ended
    ∙ ap (λ (cells : List Cell). bare (ends_frame (with_reassembly (record (bare a) { notes = u.notes }) (unmarked_taker taker) u.reassembly) (unmarked_taker taker) cells)) (sym alike.ended)
    ∙ (λ i. bare (after_cell (bare a) (unmarked_taker taker) (taken (shown a.notes) (nat_lt 0 (sym (free_same a.controller) i)) (sym (gathered_same a.controller taker) i) (unmarked_cell cell))))
  where
    t : Taken
    t = taken a.notes (nat_lt 0 (free_slots a.controller)) (reassembly_of a.controller taker) cell

    u : Taken
    u = taken (shown a.notes) (nat_lt 0 (free_slots a.controller)) (unmarked_reassembly (reassembly_of a.controller taker)) (unmarked_cell cell)

    notes_same : shown t.notes ≡ shown u.notes
    notes_same = taken_shown a.notes (nat_lt 0 (free_slots a.controller)) (reassembly_of a.controller taker) cell ∙ sym (shown_twice a.notes)
        ∙ sym (taken_shown (shown a.notes) (nat_lt 0 (free_slots a.controller)) (unmarked_reassembly (reassembly_of a.controller taker)) (unmarked_cell cell))

    alike : AreTakenAlike t u
    alike = taken_same a.notes (shown a.notes) (nat_lt 0 (free_slots a.controller)) (reassembly_of a.controller taker) cell

label_taker_same : (linked : Linked) (o : Option Label) → label_taker (unmarked_linked linked) o ≡ option_map unmarked_taker (label_taker linked o)
label_taker_same linked None = refl
label_taker_same linked (Some label) = by (is_bound label.state)
  where
    by : (t : Bool) → (if t then Some (ForLabel (unmarked_linked linked) label) else None) ≡ option_map unmarked_taker (if t then Some (ForLabel linked label) else None)
    by true = refl
    by false = refl

taker_at_same : (o : Option Linked) (link : Channel) → taker_at (option_map unmarked_linked o) link ≡ option_map unmarked_taker (taker_at o link)
taker_at_same None link = refl
taker_at_same (Some linked) link = by (same_channel link default_channel)
  where
    label : Option Label
    label = option_and_then (label_at linked.port) (label_number_of link)

    by : (t : Bool) → (if t then Some (ForDefault (unmarked_linked linked)) else label_taker (unmarked_linked linked) label) ≡ option_map unmarked_taker (if t then Some (ForDefault linked) else label_taker linked label)
    by true = refl
    by false = label_taker_same linked label

taker_same : (c : Controller) (channel : Channel) → taker_of (unmarked_controller c) channel ≡ option_map unmarked_taker (taker_of c channel)
taker_same c channel = by (same_channel channel default_channel)
  where
    by : (t : Bool) → (if t then Some ForGsmp else taker_at (linked_at (unmarked_controller c) (port_on channel)) (on_link channel)) ≡ option_map unmarked_taker (if t then Some ForGsmp else taker_at (linked_at c (port_on channel)) (on_link channel))
    by true = refl
    by false = ap (λ (o : Option Linked). taker_at o (on_link channel)) (linked_same c (port_on channel)) ∙ taker_at_same (linked_at c (port_on channel)) (on_link channel)

cell_blind : (cell : Cell) (a : Acted) → bare (cell_comes a cell) ≡ bare (cell_comes (bare a) (unmarked_cell cell))
cell_blind cell a = takes_same a cell (taker_of a.controller cell.header.channel)
    ∙ ap (λ (o : Option Taker). bare (takes_cell (bare a) (unmarked_cell cell) o)) (sym (taker_same a.controller cell.header.channel))

pub cell_same : (a b : Acted) → bare a ≡ bare b → (cell other : Cell) → unmarked_cell cell ≡ unmarked_cell other → bare (cell_comes a cell) ≡ bare (cell_comes b other)
cell_same a b e cell other same = cell_blind cell a ∙ (λ i. bare (cell_comes (e i) (same i))) ∙ sym (cell_blind other b)
