-- a cell of the default channel of the link's port comes: each case of what the channel makes of it

use Rattle.std.proofs.Common.{◌≡◌, ℕ, Bool, true, false, List, [], ◌∷◌, ◌++◌, Option, None, Some, Result, Ok, Err, refl, sym, ◌∙◌, ap, subst, ◌⊎◌, inl, inr, length, if◌then◌else◌}
use Rattle.std.specs.Prelude.{not, nat_le, nat_lt, drop, ◌==◌}
use Rattle.law_controller_views.specs.world_model.Words.{PortNo, Mark, protocol_of, source_of, PacketFault, Cell, EncapsFault, default_unwrapped, encaps_refusal, packet_refusal, ifmp_refusal, Frame, Record, Bad, Loss, Chance, PoolFull, Encaps, Packet, Ifmp, payload_of, is_frame, Journal, noted, Reassembly, marks_of, most_cells, broken, passed_over, without_slot, too_long, last_mark, payload_in, tested, tested_by, at, put, hears, Linked, port_key, linked_at, with_linked, forwards_packet, control_protocol, Rule, works, at_port, ForDefault, ifmp_holds, counted_at, packet_holds, default_holds, takes_cell}
use Rattle.law_controller_views.specs.world_model.ipv4_packet.Packet.{first_fault}
use Rattle.law_controller_views.specs.world_model.ifmp_wire.declared.message.Message.{Message}
use Rattle.law_controller_views.specs.world_model.ifmp_wire.declared.reader.Fault.{Fault}
use Rattle.law_controller_views.specs.world_model.ifmp_wire.Fields.{decoded as ifmp_decoded}
use Rattle.law_controller_views.specs.world_model.frame_model.Reassembly.{Taken, cell_joined}
use Rattle.law_controller_views.specs.world_model.frame_model.Frame.{octets_of, passed_test}
use Rattle.law_controller_views.proofs.law_port_facts.Keyed.{on_each, at_key, at_put_same}
use Rattle.law_controller_views.specs.law_label_line.Cells.{Role}
use Rattle.law_controller_views.specs.law_label_line.Line.{Line}
use Rattle.law_controller_views.specs.world_model.Controller.{Acted, free_slots, note}
use Rattle.law_controller_views.specs.world_model.Cells.{Taker, after_test, ends_frame, after_cell}
use Rattle.law_controller_views.specs.law_port_views.Link.{LinkLabel, other}
use Rattle.law_controller_views.specs.law_shown_cells.Seen.{nothing}
use Rattle.law_controller_views.specs.law_shown_cells.Label.{seen_payload}
use Rattle.law_controller_views.proofs.law_shown_cells.Shows.{first_of}
use Rattle.law_controller_views.proofs.law_shown_cells.Tested.{broken_frames, frame_is, last_is}
use Rattle.law_controller_views.specs.Ends.{way_to, Pieces, Net, Goes, EndLeads, asking, placed}
use Rattle.law_controller_views.specs.Lifted.{IsProper}
use Rattle.law_controller_views.specs.Queues.{awaited}
use Rattle.law_controller_views.proofs.Parts.{net_goes, goes_on, quiet_leads}
use Rattle.law_controller_views.proofs.Works.{port_is, quiet_note}
use Rattle.law_arrival_views.specs.Cells.{EndsFrame, IsDefault, unchained, ended_at, IsTold, CanCome}
use Rattle.law_arrival_views.proofs.Chains.{with_taken, moved_then, empties_all, Came, FirstCame, default_seen, GivenUp, gives_up, JoinedIn, joins_in, retaken, noted_net, goes_here, waits, chained}
use Rattle.law_arrival_views.proofs.Hears.{known_frame, heard_net}

-- a slot is there that isn't missed
pub has_slot : (b : Bool) → not b ≡ false → b ≡ true
has_slot true e = refl
has_slot false e = absurd (cc e)

-- a chain that isn't empty is tested
pub ends_is : (a : Acted) (taker : Taker) (cells : List Cell) (c : Cell) → ends_frame a taker (cells ++ c ∷ []) ≡ after_test a taker (last_mark (cells ++ c ∷ [])) (tested a.notes (cells ++ c ∷ []))
ends_is a taker [] c = refl
ends_is a taker (x ∷ cells) c = refl

module _ (link : LinkLabel) (proper : IsProper link) (like : Type 0) (role : Role) (pieces : Pieces) (a : Acted) (linked : Linked) (c : Cell) (ws : List Cell) (line : Line)
    (found : linked_at a.controller (link.port role) ≡ Some linked) (front : pieces.waiting role ≡ c ∷ ws)
    (net : Net link like (placed role pieces a) (asking role []) line) where
  -- what has become of the pieces
  abbrev To : Acted → Type 0
  To b = Goes link like (placed role (awaited role pieces ws) b) (asking role []) line

  first_came : (frames : List Frame) → Came link role frames (pieces.waiting role) (way_to role line).to_controller → FirstCame link role frames c ws (way_to role line).to_controller
  first_came frames s = first_of (subst (λ (z : List Cell). Came link role frames z (way_to role line).to_controller) front s)

  -- *The cell is given up*: the chain stays, or it is given up too
  given_up : (notes : Journal) (r : Reassembly) → notes.frames ≡ a.notes.frames → (r.chain ≡ linked.reassembly.chain) ⊎ (r.chain ≡ [])
      → To (with_linked (record a { notes = notes }) (record linked { reassembly = r }))
  given_up notes r same chain = by chain
    where
      later : Net link like (placed role pieces (record a { notes = notes })) (asking role []) line
      later = noted_net link like role pieces a notes (asking role []) line same net

      up : GivenUp link role notes.frames line ws
      up = gives_up link role notes.frames line c ws (way_to role line).to_controller refl (first_came notes.frames (waits link like role pieces (record a { notes = notes }) line later))

      by : (r.chain ≡ linked.reassembly.chain) ⊎ (r.chain ≡ []) → To (with_linked (record a { notes = notes }) (record linked { reassembly = r }))
      by (inl stays) = goes_here link like (placed role (awaited role pieces ws) (with_linked (record a { notes = notes }) (record linked { reassembly = r }))) (asking role []) line
          (with_taken role (way_to role line).chain up.rest line) up.moved
          (retaken link like role pieces (record a { notes = notes }) linked r ws (way_to role line).chain up.rest line found
          (subst (λ (z : List Cell). Came link role notes.frames z (way_to role line).chain) (sym stays) (chained link like role pieces (record a { notes = notes }) linked line found later)) up.shows later)
      by (inr gone) = goes_here link like (placed role (awaited role pieces ws) (with_linked (record a { notes = notes }) (record linked { reassembly = r }))) (asking role []) line
          (with_taken role [] up.rest line)
          (moved_then line (with_taken role (way_to role line).chain up.rest line) (with_taken role [] up.rest line) up.moved (empties_all role (way_to role line).chain up.rest line))
          (retaken link like role pieces (record a { notes = notes }) linked r ws [] up.rest line found
          (subst (λ (z : List Cell). Came link role notes.frames z []) (sym gone) nothing) up.shows later)

  -- *It joins the chain*
  kept : (is_default : IsDefault link role c) (r : Reassembly) → r.chain ≡ linked.reassembly.chain ++ c ∷ [] → To (with_linked a (record linked { reassembly = r }))
  kept here r chain =
      let joins : JoinedIn link role a.notes.frames line linked.reassembly.chain c ws =
      joins_in link role a.notes.frames line linked.reassembly.chain c ws (way_to role line).to_controller here (chained link like role pieces a linked line found net) refl
      (first_came a.notes.frames (waits link like role pieces a line net)) in
      goes_here link like (placed role (awaited role pieces ws) (with_linked a (record linked { reassembly = r }))) (asking role []) line (with_taken role joins.words joins.rest line) joins.moved
      (retaken link like role pieces a linked r ws joins.words joins.rest line found (subst (λ (z : List Cell). Came link role a.notes.frames z joins.words) (sym chain) joins.came) joins.shows net)

  -- *It ends a frame*
  found_after : linked_at (ended_at a linked).controller (link.port role) ≡ Some (unchained linked)
  found_after =
      let key : port_key linked ≡ (link.port role).0 = at_key port_key (link.port role).0 a.controller.ports linked found in
      subst (λ (n : ℕ). at port_key n (put port_key (unchained linked) a.controller.ports) ≡ Some (unchained linked)) key
      (at_put_same port_key (unchained linked) a.controller.ports linked (subst (λ (n : ℕ). at port_key n a.controller.ports ≡ Some linked) (sym key) found))

  -- all of it is given up, and what the controller does leads on
  lost_then : (after : Acted) → EndLeads link like role (ended_at a linked) [] after [] → To after
  lost_then after leads = goes_on link like (placed role (awaited role pieces ws) (ended_at a linked)) (placed role (awaited role pieces ws) after) (asking role []) (asking role []) line
      (given_up a.notes (record linked.reassembly { chain = [] }) refl (inr refl))
      (λ z n. net_goes link like role (awaited role pieces ws) (ended_at a linked) after [] [] z leads n)

  noted_then : (item : Record) → To (note (ended_at a linked) item)
  noted_then item = lost_then (note (ended_at a linked) item) (quiet_leads link like role (ended_at a linked) (note (ended_at a linked) item) [] (quiet_note link proper like role (ended_at a linked) item))

  -- its message is heard
  message_heard : IsDefault link role c → c.header.last ≡ true → CanCome link like role a linked c → (payload packet : List ℕ) (message : Message)
      → payload_of a.notes.frames c.mark ≡ Some payload → IsTold payload packet message
      → To (at_port (ended_at a linked) linked.setup.port (λ setup desk w. hears setup desk w (source_of packet) message))
  message_heard here last can payload packet message made told =
      let port : linked.setup.port ≡ link.port role = port_is linked.setup.port (link.port role) (at_key port_key (link.port role).0 a.controller.ports linked found) in
      let rule : Rule = λ setup desk w. hears setup desk w (source_of packet) message in
      subst (λ (q : PortNo). To (at_port (ended_at a linked) q rule)) (sym port)
      (subst (λ (o : Option Linked). To (works (ended_at a linked) rule o)) (sym found_after)
      (heard_net link proper like role (awaited role pieces ws) (ended_at a linked) (unchained linked) (source_of packet) message line c ws (way_to role line).to_controller found_after
      (can.hears payload packet message made told) refl
      (λ rest s. retaken link like role pieces a linked (record linked.reassembly { chain = [] }) ws [] rest line found nothing s net)
      (first_came a.notes.frames (waits link like role pieces a line net))
      (λ shown is n. known_frame link role payload packet message (payload_of a.notes.frames c.mark) shown told made
      (ap (λ (l : Bool). seen_payload (other role) link l (payload_of a.notes.frames c.mark)) (sym last) ∙ (sym (default_seen link role a.notes.frames c here) ∙ is)) n)))

  decoded_net : IsDefault link role c → c.header.last ≡ true → CanCome link like role a linked c → (payload packet : List ℕ) (r : Result Message Fault) → payload_of a.notes.frames c.mark ≡ Some payload
      → default_unwrapped payload ≡ Ok packet → (protocol_of packet == control_protocol) ≡ true → ifmp_decoded (drop 20 packet) ≡ r
      → To (ifmp_holds (ended_at a linked) linked.setup.port packet r)
  decoded_net here last can payload packet (Err fault) made is protocol e = noted_then (Bad a.controller.node Ifmp (ifmp_refusal fault))
  decoded_net here last can payload packet (Ok message) made is protocol e = message_heard here last can payload packet message made (record { unwrapped = is; protocol = protocol; decoded = e })

  packet_net : IsDefault link role c → c.header.last ≡ true → CanCome link like role a linked c → (payload packet : List ℕ) (o : Option PacketFault) → payload_of a.notes.frames c.mark ≡ Some payload
      → default_unwrapped payload ≡ Ok packet → first_fault packet ≡ o → To (packet_holds (ended_at a linked) linked.setup.port c.mark packet o)
  packet_net here last can payload packet (Some fault) made is e = noted_then (Bad a.controller.node Packet (packet_refusal fault))
  packet_net here last can payload packet None made is e = on_each To (protocol_of packet == control_protocol) (ifmp_holds (ended_at a linked) linked.setup.port packet (ifmp_decoded (drop 20 packet)))
      (counted_at (forwards_packet (ended_at a linked) c.mark packet) linked.setup.port packet)
      (λ protocol. decoded_net here last can payload packet (ifmp_decoded (drop 20 packet)) made is protocol refl)
      (λ protocol. lost_then (counted_at (forwards_packet (ended_at a linked) c.mark packet) linked.setup.port packet) (can.forwards payload packet made is e protocol))

  unwrapped_net : IsDefault link role c → c.header.last ≡ true → CanCome link like role a linked c → (payload : List ℕ) (r : Result (List ℕ) EncapsFault) → payload_of a.notes.frames c.mark ≡ Some payload
      → default_unwrapped payload ≡ r → To (default_holds (ended_at a linked) linked.setup.port c.mark r)
  unwrapped_net here last can payload (Err fault) made e = noted_then (Bad a.controller.node Encaps (encaps_refusal fault))
  unwrapped_net here last can payload (Ok packet) made e = packet_net here last can payload packet (first_fault packet) made e refl

  tested_net : IsDefault link role c → c.header.last ≡ true → CanCome link like role a linked c → (o : Option (List ℕ)) → payload_in (octets_of (linked.reassembly.chain ++ c ∷ [])) ≡ o
      → To (after_test (ended_at a linked) (ForDefault linked) (last_mark (linked.reassembly.chain ++ c ∷ [])) (tested_by a.notes (linked.reassembly.chain ++ c ∷ []) o))
  tested_net here last can None e = given_up (broken a.notes (marks_of (linked.reassembly.chain ++ c ∷ []))) (record linked.reassembly { chain = [] })
      (broken_frames (marks_of (linked.reassembly.chain ++ c ∷ [])) a.notes) (inr refl)
  tested_net here last can (Some payload) e =
      let chain : List Cell = linked.reassembly.chain ++ c ∷ [] in
      let right : is_frame a.notes.frames (last_mark chain) payload ≡ true = can.passes payload e in
      let mark : last_mark chain ≡ c.mark = last_is linked.reassembly.chain c in
      let notes : passed_test a.notes (last_mark chain) payload ≡ a.notes = ap (λ (t : Bool). if t then a.notes else noted a.notes (Chance (last_mark chain))) right in
      let made : payload_of a.notes.frames c.mark ≡ Some payload = ap (payload_of a.notes.frames) (sym mark) ∙ frame_is a.notes.frames (last_mark chain) payload right in
      subst (λ (j : Journal). To (default_holds (record (ended_at a linked) { notes = j }) linked.setup.port (last_mark chain) (default_unwrapped payload))) (sym notes)
      (subst (λ (m : Mark). To (default_holds (ended_at a linked) linked.setup.port m (default_unwrapped payload))) (sym mark) (unwrapped_net here last can payload (default_unwrapped payload) made refl))

  -- *Each case*
  abbrev joined_as : Bool → Taken
  joined_as last =
      if last then record { reassembly = record linked.reassembly { chain = [] }; notes = a.notes; ended = linked.reassembly.chain ++ c ∷ [] }
      else record { reassembly = record linked.reassembly { chain = linked.reassembly.chain ++ c ∷ [] }; notes = a.notes; ended = [] }

  joined_net : IsDefault link role c → (c.header.last ≡ true → CanCome link like role a linked c) → (last : Bool) → c.header.last ≡ last → To (after_cell a (ForDefault linked) (joined_as last))
  joined_net here can false e = kept here (record linked.reassembly { chain = linked.reassembly.chain ++ c ∷ [] }) refl
  joined_net here can true e = subst To (sym (ends_is (ended_at a linked) (ForDefault linked) linked.reassembly.chain c))
      (tested_net here e (can e) (payload_in (octets_of (linked.reassembly.chain ++ c ∷ []))) refl)

  pub own_cell : IsDefault link role c → (EndsFrame a linked.reassembly c → CanCome link like role a linked c) → To (takes_cell a c (Some (ForDefault linked)))
  own_cell here can =
      let r : Reassembly = linked.reassembly in
      let slot : Bool = nat_lt 0 (free_slots a.controller) in
      let to : Taken → Type 0 = λ t. To (after_cell a (ForDefault linked) t) in
      on_each to r.is_skipping (passed_over a.notes r c) (if not slot then without_slot a.notes r c else (if nat_le most_cells (length r.chain) then too_long a.notes r c else cell_joined a.notes r c))
      (λ e. given_up (broken a.notes (c.mark ∷ [])) (passed_over a.notes r c).reassembly (broken_frames (c.mark ∷ []) a.notes) (inl refl))
      (λ e. on_each to (not slot) (without_slot a.notes r c) (if nat_le most_cells (length r.chain) then too_long a.notes r c else cell_joined a.notes r c)
      (λ f. given_up (without_slot a.notes r c).notes (without_slot a.notes r c).reassembly (broken_frames (marks_of r.chain) (noted a.notes (Loss c.mark PoolFull))) (inr refl))
      (λ f. on_each to (nat_le most_cells (length r.chain)) (too_long a.notes r c) (cell_joined a.notes r c)
      (λ g. given_up (too_long a.notes r c).notes (too_long a.notes r c).reassembly (broken_frames (marks_of (r.chain ++ c ∷ [])) a.notes) (inr refl))
      (λ g. joined_net here (λ last. can (record { last = last; gathers = e; slot = has_slot slot f; short = g })) c.header.last refl)))
