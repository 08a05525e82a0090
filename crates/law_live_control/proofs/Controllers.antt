-- a controller that has met its switch hears what is calm, takes frames, and ticks

use Rattle.std.proofs.Common.{◌≡◌, ◌≢◌, ℕ, ◌<◌, ◌≤◌, Bool, true, false, true≢false, List, [], ◌∷◌, drop, map, Option, None, Some, Result, Ok, Err, refl, sym, ◌∙◌, ap, subst, arith, append-nil, if◌then◌else◌}
use Rattle.std.specs.Prelude.{◌&&◌, ◌==◌, find, nat_lt}
use Rattle.std.proofs.lemmas.Bool.Decides.{nat_tests}
use Rattle.live_model.specs.world_model.Words.{is_request, message_of, NodeId, PortNo, Channel, Mark, Party, Side, Step, Cell, Answered, Unknown, Done, Ports, Failed, PortRow, Record, says_gsmp, Head, head_of, Standing, answered, answered_with, is_of_type, after_answer, outcome, succeeded, last_transaction, gsmp_answer, protocol_of, source_of, PacketFault, EncapsFault, hop_of, onward, Hop, Here, On, kind_of, default_payload, default_unwrapped, labelled_payload, unwrapped, Bad, gsmp_refusal, Gsmp, next_mark, hears, counts, used, Label, Grant, control_end, Linked, default_channel, default_home, sends_control, with_desk, takes_answer, up_ports, is_control, sends_next, goes_by, grant_by, forwards_packet, control_protocol, gsmp_holds, ForGsmp, ForDefault, ForLabel, label_holds, ifmp_holds, counted_at, packet_holds, default_holds, frame_holds}
use Rattle.live_model.specs.world_model.adjacency_table.Table.{silence_limit}
use Rattle.live_model.specs.world_model.Cells.{Taker}
use Rattle.live_model.specs.world_model.ipv4_packet.Packet.{first_fault}
use Rattle.live_model.specs.world_model.ipv4_forward.declared.outcome.Hop.TheVariants.{NoRoute, Expired}
use Rattle.live_model.specs.world_model.ifmp_wire.declared.message.Message.{Message as IfmpMessage}
use Rattle.live_model.specs.world_model.ifmp_wire.declared.reader.Fault.{Fault as IfmpFault}
use Rattle.live_model.specs.world_model.ifmp_wire.Fields.{decoded as ifmp_decoded}
use Rattle.live_model.specs.world_model.gsmp_wire.declared.fault.Fault.{Fault}
use Rattle.live_model.specs.world_model.gsmp_wire.declared.message.Message.{Message}
use Rattle.live_model.specs.world_model.gsmp_wire.declared.message.Message.TheVariants.{Adjacency, Branch, Move, Port, AllPorts}
use Rattle.live_model.specs.world_model.gsmp_wire.declared.request.Request.{Request}
use Rattle.live_model.specs.world_model.gsmp_wire.declared.request.Request.TheVariants as requests
use Rattle.live_model.specs.world_model.gsmp_wire.declared.request.Request.TheVariants.{DeleteAll}
use Rattle.live_model.specs.world_model.gsmp_wire.Fields.{decoded}
use Rattle.live_model.specs.world_model.switch_model.Requests.{result_of}
use Rattle.live_model.specs.world_model.Controller.{Acted, note}
use Rattle.live_model.specs.world_model.Sending.{sends}
use Rattle.live_model.specs.world_model.Packets.{forwarded}
use Rattle.live_model.specs.world_model.Gsmp.{answers, message_comes}
use Rattle.live_model.specs.world_model.Ticks.{ticks, ticks_with}
use Rattle.live_model.specs.Met.{HaveMet}
use Rattle.law_port_facts.specs.ordered_lists.Ordered.{Every}
use Rattle.law_port_facts.proofs.ordered_lists.Every.{every_all}
use Rattle.law_port_facts.proofs.Keyed.{on_both, on_each}
use Rattle.law_live_control.specs.Calm.{ack, IsCalmDown, greets_switch, asks_switch, IsCalmUp, greets_controller, answers_controller, GoesOn, aged, Says, ControllerGoesOn, HasLinks}
use Rattle.law_live_control.specs.Law.{ControllersHearCalmly, FramesComeCalmly, TicksOn, ControllersTickCalmly}
use Rattle.law_live_control.proofs.Sides.{acked, ack_heard, tick_acked, stays_so, hears_again}
use Rattle.law_live_control.proofs.Since.{apart_home, apart_label, with_frame, Since, since_begins, since_ends, since_packet, since_elsewhere}
use Rattle.law_live_control.proofs.Walks.{IsLinked, Tells, IsAt, on, spent, IsOpen, Kept, sent_kept, said_kept, control_kept, asks_each_kept, at_port_kept, success_kept, rest_kept}

-- *What an answer of success* means to a desk: no failure
data IsGood : Answered → Type 0 where
  nothing_stood : IsGood Unknown
  is_done : (s : Standing) → IsGood (Done s)
  are_told : (s : Standing) (rows : List PortRow) → IsGood (Ports s rows)

succeeded_good : (message : Message) (s : Standing) → IsGood (succeeded message s)
succeeded_good (Adjacency greeting) s = is_done s
succeeded_good (Branch kind result code transaction session input_port input output_port output count priority) s = is_done s
succeeded_good (Move result code transaction session input_port input output_port output target_port target count priority) s = is_done s
succeeded_good (Port result code transaction port session function) s = is_done s
succeeded_good (AllPorts result code transaction rows) s = are_told s rows

outcome_good : (message : Message) (head : Head) (o : Option Standing) → head.result ≡ 3 → IsGood (outcome message head o)
outcome_good message head None e = nothing_stood
outcome_good message head (Some s) e = subst (λ (b : Bool). IsGood (if b then succeeded message s else (if head.result == 4 then Failed s head.code else Unknown)))
    (sym (ap (λ (n : ℕ). n == 3) e)) (succeeded_good message s)

found_in : (standing : List Standing) (message : Message) (head : Head) → head.result ≡ 3 → IsGood (answered_with standing message (Some head))
found_in standing message head e = outcome_good message head (find (λ (s : Standing). s.number == head.number && is_of_type message s.request) standing) e

answered_good : (standing : List Standing) (message : Message) → result_of message ≡ 3 → IsGood (answered_with standing message (head_of message))
answered_good standing (Adjacency greeting) e = nothing_stood
answered_good standing (Branch kind result code transaction session input_port input output_port output count priority) e =
    found_in standing (Branch kind result code transaction session input_port input output_port output count priority) (record { result = result; code = code; number = transaction }) e
answered_good standing (Move result code transaction session input_port input output_port output target_port target count priority) e =
    found_in standing (Move result code transaction session input_port input output_port output target_port target count priority) (record { result = result; code = code; number = transaction }) e
answered_good standing (Port result code transaction port session function) e =
    found_in standing (Port result code transaction port session function) (record { result = result; code = code; number = transaction }) e
answered_good standing (AllPorts result code transaction rows) e =
    found_in standing (AllPorts result code transaction rows) (record { result = result; code = code; number = transaction }) e

not_packet : (came : Mark) → (came.packet ≡ 0 → 0 < came.frame) → is_control came ≡ false → came.packet ≢ 0
not_packet came marked other e = true≢false (sym (both (came.packet == 0) (nat_lt 0 came.frame) (zero_is came.packet e) (above came.frame (marked e))) ∙ other)
  where
    both : (x y : Bool) → x ≡ true → y ≡ true → (x && y) ≡ true
    both true y p q = q
    both false y p q = absurd (cc p)

    zero_is : (n : ℕ) → n ≡ 0 → (n == 0) ≡ true
    zero_is n is = grind (arith, nat_tests)

    above : (n : ℕ) → 0 < n → nat_lt 0 n ≡ true
    above n is = grind (arith, nat_tests)

module _ (Calm : Message → Type 0) (Clear : List Standing → Type 0) (tells : Tells Calm Clear) (node : NodeId) (side : Side Party) (began : List Cell) where
  abbrev Goes : Acted → Type 0
  Goes a = Kept Calm Clear tells node side began a

  -- *As an event begins*, whatever stands
  record Begun (a : Acted) : Type 0 where
    same : a.controller.adjacency ≡ side
    own : a.controller.node ≡ node
    links : Every IsLinked a.controller.ports
    since : Since Calm began a.controller.queue a.notes.frames a.numbers.controls

  begun_kept : (a : Acted) → Begun a → Goes a
  begun_kept a h = record { mode = on h.same; own = h.own; links = h.links; since = λ o. h.since }

  answer_kept : (a : Acted) (answer : Answered) → IsGood answer → Begun a → Goes (takes_answer a answer)
  answer_kept a answer nothing_stood h = record { mode = on h.same; own = h.own; links = h.links; since = λ o. h.since }
  answer_kept a answer (is_done s) h = success_kept Calm Clear tells node side began (with_desk a (after_answer a.controller.desk (Done s))) s.request
      (record { mode = on h.same; own = h.own; links = h.links; since = λ o. h.since })
  answer_kept a answer (are_told s rows) h =
      let b : Acted = with_desk a (after_answer a.controller.desk (Ports s rows)) in
      asks_each_kept Calm Clear tells node side began (map DeleteAll (record { 0 = 0 } ∷ up_ports b.controller)) b
      (record { mode = on h.same; own = h.own; links = h.links; since = λ o. h.since })

  told_kept : (a : Acted) (message : Message) → result_of message ≡ 3 → Begun a → Goes (message_comes a message)
  told_kept a (Adjacency greeting) e h = absurd (cc e)
  told_kept a (Branch kind result code transaction session input_port input output_port output count priority) e h =
      let message : Message = Branch kind result code transaction session input_port input output_port output count priority in
      answer_kept a (answered a.controller.desk message) (answered_good a.controller.desk.standing message e) h
  told_kept a (Move result code transaction session input_port input output_port output target_port target count priority) e h =
      let message : Message = Move result code transaction session input_port input output_port output target_port target count priority in
      answer_kept a (answered a.controller.desk message) (answered_good a.controller.desk.standing message e) h
  told_kept a (Port result code transaction port session function) e h =
      let message : Message = Port result code transaction port session function in
      answer_kept a (answered a.controller.desk message) (answered_good a.controller.desk.standing message e) h
  told_kept a (AllPorts result code transaction rows) e h =
      let message : Message = AllPorts result code transaction rows in
      answer_kept a (answered a.controller.desk message) (answered_good a.controller.desk.standing message e) h

  -- *A packet goes on*
  module _ (came : Mark) (marked : came.packet ≡ 0 → 0 < came.frame) where
    packet_kept : (a : Acted) (channel : Channel) (payload : List ℕ) → channel ≢ default_channel → came.packet ≢ 0 → Goes a → Goes (sends a channel (next_mark came) payload)
    packet_kept a channel payload apart packet h =
        let none : IsOpen Calm Clear tells node side began a.controller.desk → Since Calm began a.controller.queue (with_frame a.notes.frames (next_mark came) payload) a.numbers.controls =
        λ o. since_packet Calm began a.controller.queue a.notes.frames a.numbers.controls (next_mark came) payload packet (h.since o) in
        sent_kept Calm Clear tells node side began a channel (next_mark came) payload h.mode h.own h.links none
        (λ o. since_elsewhere Calm began a.controller.queue channel (next_mark came) payload (with_frame a.notes.frames (next_mark came) payload) a.numbers.controls apart (none o))

    next_kept : (a : Acted) (channel : Channel) (payload : List ℕ) → channel ≢ default_channel → Goes a → Goes (sends_next a came channel payload)
    next_kept a channel payload apart h = on_each Goes (is_control came) (sends_control a channel payload) (sends a channel (next_mark came) payload)
        (λ control. control_kept Calm Clear tells node side began a channel payload apart h)
        (λ other. packet_kept a channel payload apart (not_packet came marked other) h)

    goes_by_kept : (a : Acted) (port : PortNo) (packet : List ℕ) (o : Option Grant) → 1 ≤ port.0 → Goes a → Goes (goes_by a came port packet o)
    goes_by_kept a port packet None link h = next_kept a (default_home port).channel (default_payload packet) (apart_home port link) h
    goes_by_kept a port packet (Some grant) link h = next_kept a (control_end port grant.label).channel (labelled_payload (kind_of grant.flow) packet) (apart_label port grant.label link) h

    hop_kept : (a : Acted) (packet : List ℕ) (hop : Hop) → ((port : PortNo) → hop ≡ On port → 1 ≤ port.0) → Goes a → Goes (forwarded a came packet hop)
    hop_kept a packet Here links h = record { mode = h.mode; own = h.own; links = h.links; since = h.since }
    hop_kept a packet NoRoute links h = record { mode = h.mode; own = h.own; links = h.links; since = h.since }
    hop_kept a packet Expired links h = record { mode = h.mode; own = h.own; links = h.links; since = h.since }
    hop_kept a packet (On port) links h = goes_by_kept a port (onward packet) (grant_by a.controller port (onward packet)) (links port refl) h

    -- *A frame* of a port
    ifmp_frame : (a : Acted) (port : PortNo) (packet : List ℕ) (r : Result IfmpMessage IfmpFault) → Goes a → Goes (ifmp_holds a port packet r)
    ifmp_frame a port packet (Err fault) h = record { mode = h.mode; own = h.own; links = h.links; since = h.since }
    ifmp_frame a port packet (Ok message) h = at_port_kept Calm Clear tells node side began a port (λ setup desk w. hears setup desk w (source_of packet) message) h

    module _ (a : Acted) (routes : (packet : List ℕ) (port : PortNo) → hop_of a.controller.table packet ≡ On port → 1 ≤ port.0) where
      pub routed_kept : (packet : List ℕ) → Goes a → Goes (forwards_packet a came packet)
      routed_kept packet h = hop_kept a packet (hop_of a.controller.table packet) (routes packet) h

      packet_frame : (port : PortNo) (packet : List ℕ) (o : Option PacketFault) → Goes a → Goes (packet_holds a port came packet o)
      packet_frame port packet (Some fault) h = record { mode = h.mode; own = h.own; links = h.links; since = h.since }
      packet_frame port packet None h = on_both Goes (protocol_of packet == control_protocol) (ifmp_holds a port packet (ifmp_decoded (drop 20 packet))) (counted_at (forwards_packet a came packet) port packet)
          (ifmp_frame a port packet (ifmp_decoded (drop 20 packet)) h)
          (at_port_kept Calm Clear tells node side began (forwards_packet a came packet) port (λ setup desk w. counts setup desk w packet) (routed_kept packet h))

      pub default_frame : (port : PortNo) (r : Result (List ℕ) EncapsFault) → Goes a → Goes (default_holds a port came r)
      default_frame port (Err fault) h = record { mode = h.mode; own = h.own; links = h.links; since = h.since }
      default_frame port (Ok packet) h = packet_frame port packet (first_fault packet) h

      pub label_frame : (linked : Linked) (label : Label) (r : Result (List ℕ) EncapsFault) → Goes a → Goes (label_holds a linked label came r)
      label_frame linked label (Err fault) h = record { mode = h.mode; own = h.own; links = h.links; since = h.since }
      label_frame linked label (Ok packet) h =
          at_port_kept Calm Clear tells node side began (forwards_packet a came packet) linked.setup.port (λ setup desk w. used w label.number) (routed_kept packet h)

-- *As an event begins*, and behind it, where no number is spent and what stands is clear
module _ (Calm : Message → Type 0) (Clear : List Standing → Type 0) (tells : Tells Calm Clear) (a : Acted) where
  abbrev Since0 : Side Party → Acted → Type 0
  Since0 side b = Kept Calm Clear tells a.controller.node side a.controller.queue b

  begins : HasLinks a.controller → Begun Calm Clear tells a.controller.node a.controller.adjacency a.controller.queue a
  begins links = record { same = refl; own = refl; links = links.ports; since = since_begins Calm a.controller.queue a.notes.frames a.numbers.controls }

  -- its number, and what stands at its desk
  abbrev IsClear : Acted → Type 0
  IsClear b = IsOpen Calm Clear tells a.controller.node a.controller.adjacency a.controller.queue b.controller.desk

  says_calmly : (side : Side Party) (b : Acted) → IsClear b → Since0 side b → Says Calm a b
  says_calmly side b clear k = (let s : Since Calm a.controller.queue b.controller.queue b.notes.frames b.numbers.controls = k.since clear in record {
    node = k.own;
    later = s.later;
    queue = s.grown;
    calm = since_ends Calm a.controller.queue b.controller.queue b.notes.frames b.numbers.controls s;
  })

  side_is : (side now : Side Party) (next : ℕ) → next ≢ last_transaction → IsAt Calm Clear tells a.controller.node side a.controller.queue now next → now ≡ side
  side_is side now next unspent (on same) = same
  side_is side now next unspent (spent down full) = absurd (unspent full)

  went_on : (b : Acted) → IsClear b → Since0 a.controller.adjacency b → ControllerGoesOn Calm a b
  went_on b clear k = record {
    side = subst (GoesOn a.controller.adjacency) (sym (side_is a.controller.adjacency b.controller.adjacency b.controller.desk.next clear.0 k.mode)) (stays_so a.controller.adjacency);
    says = says_calmly a.controller.adjacency b clear k;
  }

  -- it has heard its switch, and does nothing
  heard_so : ControllerGoesOn Calm a (record a { controller = record a.controller { adjacency = record a.controller.adjacency { silence = 0 } } })
  heard_so = record {
    side = hears_again a.controller.adjacency;
    says = record { node = refl; later = []; queue = sym (append-nil a.controller.queue); calm = tt };
  }

  noted_so : (item : Record) → ControllerGoesOn Calm a (note a item)
  noted_so item = record {
    side = stays_so a.controller.adjacency;
    says = record { node = refl; later = []; queue = sym (append-nil a.controller.queue); calm = tt };
  }

abbrev stepped : Acted → Step Party → Acted
stepped a step = answers (record a { controller = record a.controller { adjacency = step.side } }) (gsmp_answer step.answer)

-- *What is heard*, a frame, and a tick
module _ (Calm : Message → Type 0) (Clear : List Standing → Type 0) (tells : Tells Calm Clear) (a : Acted) (switch : Side Party) (met : HaveMet a.controller.adjacency switch) (links : HasLinks a.controller) where
  abbrev Clears : Acted → Type 0
  Clears b = IsClear Calm Clear tells a b

  abbrev GoesOnTo : Acted → Type 0
  GoesOnTo b = ControllerGoesOn Calm a b

  abbrev Says0 : Side Party → Acted → Type 0
  Says0 side b = Since0 Calm Clear tells a side b

  pub hears_so : (message : Message) → IsCalmUp a.controller.adjacency.own switch.own message → Clears (message_comes a message) → GoesOnTo (message_comes a message)
  hears_so message greets_controller clear = subst GoesOnTo (sym (ap (stepped a) (ack_heard a.controller.adjacency switch.own met.one_is_up met.one_knows))) (heard_so Calm Clear tells a)
  hears_so message (answers_controller answer success) clear = went_on Calm Clear tells a (message_comes a answer) clear
      (told_kept Calm Clear tells a.controller.node a.controller.adjacency a.controller.queue a answer success (begins Calm Clear tells a links))

  starts : Says0 a.controller.adjacency a
  starts = begun_kept Calm Clear tells a.controller.node a.controller.adjacency a.controller.queue a (begins Calm Clear tells a links)

  pub frame_so : (taker : Taker) (mark : Mark) (payload : List ℕ) → (mark.packet ≡ 0 → 0 < mark.frame)
      → (taker ≡ ForGsmp → (message : Message) → decoded payload ≡ Ok message → IsCalmUp a.controller.adjacency.own switch.own message)
      → Clears (frame_holds a taker mark payload) → GoesOnTo (frame_holds a taker mark payload)
  frame_so ForGsmp mark payload marked calm clear = by (decoded payload) refl clear
    where
      by : (r : Result Message Fault) → decoded payload ≡ r → Clears (gsmp_holds a r) → GoesOnTo (gsmp_holds a r)
      by (Ok message) is clear = hears_so message (calm refl message is) clear
      by (Err fault) is clear = noted_so Calm Clear tells a (Bad a.controller.node Gsmp (gsmp_refusal fault))
  frame_so (ForDefault linked) mark payload marked calm clear = went_on Calm Clear tells a (frame_holds a (ForDefault linked) mark payload) clear
      (default_frame Calm Clear tells a.controller.node a.controller.adjacency a.controller.queue mark marked a links.routes linked.setup.port (default_unwrapped payload) starts)
  frame_so (ForLabel linked label) mark payload marked calm clear = went_on Calm Clear tells a (frame_holds a (ForLabel linked label) mark payload) clear
      (label_frame Calm Clear tells a.controller.node a.controller.adjacency a.controller.queue mark marked a links.routes linked label (unwrapped label.flow payload) starts)

  tick_goes : Calm (ack a.controller.adjacency.own switch.own) → Clears (ticks_with a (acked switch.own a.controller.adjacency)) → TicksOn Calm a (ticks_with a (acked switch.own a.controller.adjacency))
  tick_goes greets clear =
      let older : Side Party = aged a.controller.adjacency in
      let greeting : Acted = record a { controller = record a.controller { adjacency = older } } in
      let first : Says0 older greeting =
      record { mode = on refl; own = refl; links = links.ports; since = λ o. since_begins Calm a.controller.queue a.notes.frames a.numbers.controls } in
      let after : Acted = ticks_with a (acked switch.own a.controller.adjacency) in
      let k : Says0 older after =
      rest_kept Calm Clear tells a.controller.node older a.controller.queue (says_gsmp greeting (ack a.controller.adjacency.own switch.own))
      (said_kept Calm Clear tells a.controller.node older a.controller.queue greeting (ack a.controller.adjacency.own switch.own) (λ o. greets) first) in
      record { side = side_is Calm Clear tells a older after.controller.adjacency after.controller.desk.next clear.0 k.mode; says = says_calmly Calm Clear tells a older after clear k }

  pub tick_so : a.controller.adjacency.silence < silence_limit → Calm (ack a.controller.adjacency.own switch.own) → Clears (ticks a) → TicksOn Calm a (ticks a)
  tick_so low greets = subst (λ (step : Step Party). Clears (ticks_with a step) → TicksOn Calm a (ticks_with a step))
      (sym (tick_acked a.controller.adjacency switch.own met.one_is_up met.one_knows low)) (tick_goes greets)

-- *Where all requests are calm*, whatever stands is clear
abbrev pub Anything : List Standing → Type 0
Anything standing = Unit {0}

asks_so : (rows : List PortRow) (number : ℕ) (request : Request) → is_request (message_of rows number request) ≡ true
asks_so rows number (requests.AddBranch input output) = refl
asks_so rows number (requests.MoveBranch input from to) = refl
asks_so rows number (requests.DeleteTree input) = refl
asks_so rows number (requests.VerifyTree input) = refl
asks_so rows number (DeleteAll port) = refl
asks_so rows number (requests.PortManagement port function) = refl
asks_so rows number requests.AllPorts = refl

pub all_calm : (own far : Party) → Tells (IsCalmDown own far) Anything
all_calm own far = record {
  calm = λ standing clear. every_all _ standing (λ s rows. asks_switch (message_of rows s.number s.request) (asks_so rows s.number s.request));
  asked = λ desk request clear. tt;
  withdrawn = λ desk input clear. tt;
}

pub controllers_hear_calmly : ControllersHearCalmly
controllers_hear_calmly a switch message met links calm unspent =
    hears_so (IsCalmDown a.controller.adjacency.own switch.own) Anything (all_calm a.controller.adjacency.own switch.own) a switch met links message calm (unspent, tt)

pub frames_come_calmly : FramesComeCalmly
frames_come_calmly a switch taker mark payload met links marked calm unspent =
    frame_so (IsCalmDown a.controller.adjacency.own switch.own) Anything (all_calm a.controller.adjacency.own switch.own) a switch met links taker mark payload marked calm (unspent, tt)

pub controllers_tick_calmly : ControllersTickCalmly
controllers_tick_calmly a switch met links low unspent =
    tick_so (IsCalmDown a.controller.adjacency.own switch.own) Anything (all_calm a.controller.adjacency.own switch.own) a switch met links low greets_switch (unspent, tt)
