-- a controller whose ports hold no label: what it sends, routes and counts, and what comes from its switch, leaves it so

use Rattle.std.proofs.Common.{◌≡◌, ℕ, List, Option, None, Some, Result, Ok, Err}
use Rattle.std.specs.Prelude.{◌==◌, drop}
use Rattle.world_model.specs.Words.{NodeId, PortNo, Addr, Channel, Mark, next_control, with_control, is_estab, gsmp_received, protocol_of, source_of, kind_of, PacketFault, hop_of, onward, Hop, Here, On, default_payload, labelled_payload, EncapsFault, default_unwrapped, unwrapped, Request, AddBranch, MoveBranch, DeleteTree, VerifyTree, PortManagement, Record, Loss, PoolFull, noted, frame_cells, made, next_mark, counts, used, Answered, Unknown, Done, Ports, Failed, answered, after_answer, Grant, hears, Label, control_end, Linked, port_key, with_desk, default_home, sends_control, begins, is_control, sends_next, goes_by, grant_by, forwards_packet, control_protocol, releases, port_of_input, causes_in_estab, causes, clears, answers_desk, answer_comes, gsmp_holds, ForGsmp, ForDefault, ForLabel, label_holds, ifmp_holds, counted_at, packet_holds, default_holds, frame_holds, OffersNothing}
use Rattle.world_model.specs.ipv4_packet.Packet.{first_fault}
use Rattle.world_model.specs.ipv4_forward.declared.outcome.Hop.TheVariants.{NoRoute, Expired}
use Rattle.world_model.specs.ifmp_wire.declared.message.Message.{Message as IfmpMessage}
use Rattle.world_model.specs.ifmp_wire.declared.reader.Fault.{Fault as IfmpFault}
use Rattle.world_model.specs.ifmp_wire.Fields.{decoded as ifmp_decoded}
use Rattle.world_model.specs.gsmp_wire.declared.fault.Fault.{Fault as GsmpFault}
use Rattle.world_model.specs.gsmp_wire.declared.message.Message.{Message}
use Rattle.world_model.specs.gsmp_wire.declared.message.Message.TheVariants as messages
use Rattle.world_model.specs.gsmp_wire.declared.request.Request.TheVariants.{DeleteAll, AllPorts}
use Rattle.world_model.specs.gsmp_wire.Fields.{decoded as gsmp_decoded}
use Rattle.law_run_facts.specs.ordered_lists.Ordered.{Every}
use Rattle.law_run_facts.proofs.ordered_lists.Every.{every_all}
use Rattle.world_model.specs.port_model.Answers as port_answers
use Rattle.law_run_facts.proofs.law_port_facts.Keyed.{on_both, at_every, every_more}
use Rattle.world_model.specs.Controller.{Acted, ports_of, note}
use Rattle.world_model.specs.Sending.{with_cells, sends}
use Rattle.world_model.specs.Packets.{forwarded}
use Rattle.world_model.specs.Meeting.{takes_success}
use Rattle.world_model.specs.Gsmp.{message_comes}
use Rattle.world_model.specs.Cells.{Taker, opened_frame}
use Rattle.law_run_facts.proofs.law_controller_views.Sends.{sent_cases}
use Rattle.law_port_words.specs.Words.{Terms, IsSent, waited, IsNoted, IsSteadyAt, IsSteadily, IsMade, was_made}
use Rattle.law_port_words.proofs.Rules.{used_v}
use Rattle.law_port_words.proofs.Hearing.{hears_v}
use Rattle.law_port_words.proofs.Sending.{note_h}
use Rattle.law_port_words.proofs.Performing.{node_h, at_port_h}
use Rattle.law_port_words.proofs.Joining.{releases_h, causes_h, clears_h, takes_changes_h, empties_h}
use Rattle.law_port_words.proofs.Events.{steps_h}
use Rattle.law_idle_policies.proofs.Ports.{idle_terms, agrees, counts_i, added_i}

-- a port's policy offers nothing
abbrev pub IsQuiet : Linked → Type 0
IsQuiet linked = OffersNothing linked.setup.policy

module _ (node : NodeId) (address : Addr) where
  abbrev t : Terms
  t = idle_terms node address

  abbrev H : Acted → Type 0
  H a = IsSteadily t a

  speaks : (port : PortNo) (instance : ℕ) → t.own port instance → t.told port instance
  speaks port instance h = h

  -- *A controller without labels*: any cell may wait for its switch
  pub steady_of : (a : Acted) → (a.controller.address ≡ address) × (a.controller.node ≡ node) → Every (IsSteadyAt t) a.controller.ports → Every (IsNoted t) a.notes.records → IsSteadily t a
  steady_of a named ports records = record {
    address = named;
    ports = ports;
    cells = every_all (IsSent t a.notes.records a.notes.frames a.numbers.controls) a.controller.queue (λ cell. waited tt);
    records = records;
    frames = every_all (IsMade t.framed t.refused t.address) a.notes.frames (λ frame. was_made tt);
  }

  -- and whose policies offer nothing
  pub record IsIdle (a : Acted) : Type 0 where
    pub steadily : IsSteadily t a
    pub quiet : Every IsQuiet a.controller.ports

  -- *What is sent*, and noted
  pub sent_i : (a : Acted) (channel : Channel) (mark : Mark) (payload : List ℕ) → IsIdle a → IsIdle (sends a channel mark payload)
  sent_i a channel mark payload h = sent_cases IsIdle a channel mark payload
      (record {
        steadily = steady_of (record a { controller = with_cells a.controller (frame_cells channel mark payload); notes = made a.notes mark payload }) h.steadily.address h.steadily.ports h.steadily.records;
        quiet = h.quiet;
      })
      (record {
        steadily = steady_of (record a { notes = noted (made a.notes mark payload) (Loss mark PoolFull) }) h.steadily.address h.steadily.ports
            (every_more (IsNoted t) a.notes.records (Loss mark PoolFull) h.steadily.records tt);
        quiet = h.quiet;
      })

  note_i : (a : Acted) (item : Record) → IsNoted t item → IsIdle a → IsIdle (note a item)
  note_i a item binds h = record { steadily = note_h t a item binds h.steadily; quiet = h.quiet }

  -- *Packets*
  next_i : (a : Acted) (came : Mark) (channel : Channel) (payload : List ℕ) → IsIdle a → IsIdle (sends_next a came channel payload)
  next_i a came channel payload h = on_both IsIdle (is_control came) (sends_control a channel payload) (sends a channel (next_mark came) payload)
      (sent_i (record a { numbers = with_control a.numbers }) channel (next_control a.numbers) payload
      (record { steadily = steady_of (record a { numbers = with_control a.numbers }) h.steadily.address h.steadily.ports h.steadily.records; quiet = h.quiet }))
      (sent_i a channel (next_mark came) payload h)

  pub routes_i : (a : Acted) (came : Mark) (packet : List ℕ) → IsIdle a → IsIdle (forwards_packet a came packet)
  routes_i a came packet h = by (hop_of a.controller.table packet)
    where
      on_i : (port : PortNo) (o : Option Grant) → IsIdle (goes_by a came port (onward packet) o)
      on_i port None = next_i a came (default_home port).channel (default_payload (onward packet)) h
      on_i port (Some grant) = next_i a came (control_end port grant.label).channel (labelled_payload (kind_of grant.flow) (onward packet)) h

      by : (hop : Hop) → IsIdle (forwarded a came packet hop)
      by Here = note_i a _ tt h
      by NoRoute = note_i a _ tt h
      by Expired = note_i a _ tt h
      by (On port) = on_i port (grant_by a.controller port (onward packet))

  -- *Answers of the switch*
  caused_i : (a : Acted) (request : Request) → H a → H (causes a request)
  caused_i a (AddBranch input output) h = on_both H (is_estab a.controller.adjacency.state) (causes_in_estab a (AddBranch input output)) a
      (at_port_h t a (port_of_input input output) (λ setup desk w. port_answers.done setup w (AddBranch input output))
      (λ linked found v. added_i node address linked.setup (begins a linked) input output v) h) h
  caused_i a (MoveBranch input from to) h = causes_h t speaks a (MoveBranch input from to) tt h
  caused_i a (DeleteTree input) h = causes_h t speaks a (DeleteTree input) tt h
  caused_i a (VerifyTree input) h = causes_h t speaks a (VerifyTree input) tt h
  caused_i a (DeleteAll port) h = causes_h t speaks a (DeleteAll port) tt h
  caused_i a (PortManagement port function) h = causes_h t speaks a (PortManagement port function) tt h
  caused_i a AllPorts h = causes_h t speaks a AllPorts tt h

  done_i : (a : Acted) (request : Request) → H a → H (takes_success a request)
  done_i a request h = (let caused : Acted = causes (releases a request) request in
      takes_changes_h t (clears caused) (clears_h t (ports_of caused.controller) caused (λ b port linked on found may. tt) (caused_i (releases a request) request (releases_h t speaks a request h))))

  answer_i : (a : Acted) (message : Message) → H a → H (answer_comes a message)
  answer_i a message h = by (answered a.controller.desk message)
    where
      at_desk : (answer : Answered) → H (with_desk a (after_answer a.controller.desk answer))
      at_desk answer = record { address = h.address; ports = h.ports; cells = h.cells; records = h.records; frames = h.frames }

      by : (answer : Answered) → H (answers_desk (with_desk a (after_answer a.controller.desk answer)) answer)
      by Unknown = at_desk Unknown
      by (Done s) = done_i (with_desk a (after_answer a.controller.desk (Done s))) s.request (at_desk (Done s))
      by (Ports s rows) = empties_h t (with_desk a (after_answer a.controller.desk (Ports s rows))) (at_desk (Ports s rows))
      by (Failed s code) = node_h t (with_desk a (after_answer a.controller.desk (Failed s code))) (at_desk (Failed s code))

  told_i : (a : Acted) (message : Message) → H a → H (message_comes a message)
  told_i a (messages.Adjacency greeting) h = steps_h t a (gsmp_received a.controller.adjacency greeting) h
  told_i a (messages.Branch kind result code number session input_port input output_port output branches priority) h =
      answer_i a (messages.Branch kind result code number session input_port input output_port output branches priority) h
  told_i a (messages.Move result code number session input_port input output_port output target_port target branches priority) h =
      answer_i a (messages.Move result code number session input_port input output_port output target_port target branches priority) h
  told_i a (messages.Port result code number port session function) h = answer_i a (messages.Port result code number port session function) h
  told_i a (messages.AllPorts result code number rows) h = answer_i a (messages.AllPorts result code number rows) h

  gsmp_i : (a : Acted) (r : Result Message GsmpFault) → H a → H (gsmp_holds a r)
  gsmp_i a (Ok message) h = told_i a message h
  gsmp_i a (Err fault) h = note_h t a _ tt h

  -- *A label's channel*
  label_i : (a : Acted) (linked : Linked) (label : Label) (mark : Mark) (r : Result (List ℕ) EncapsFault) → IsIdle a → H (label_holds a linked label mark r)
  label_i a linked label mark (Err fault) h = note_h t a _ tt h.steadily
  label_i a linked label mark (Ok packet) h = at_port_h t (forwards_packet a mark packet) linked.setup.port (λ setup desk w. used w label.number)
      (λ other found v. used_v t other.setup (speaks other.setup.port) (begins (forwards_packet a mark packet) other) label.number v) (routes_i a mark packet h).steadily

  -- *A default channel*: a message is heard, or a packet goes on and is counted
  heard_i : (a : Acted) (port : PortNo) (packet : List ℕ) (r : Result IfmpMessage IfmpFault) → H a → H (ifmp_holds a port packet r)
  heard_i a port packet (Err fault) h = note_h t a _ tt h
  heard_i a port packet (Ok message) h = at_port_h t a port (λ setup desk w. hears setup desk w (source_of packet) message)
      (λ linked found v. hears_v t linked.setup (speaks linked.setup.port) a.controller.desk linked.port a.numbers.instances (source_of packet) message
      (agrees node address linked.setup linked.port message) v.port) h

  counted_i : (a : Acted) (port : PortNo) (packet : List ℕ) → IsIdle a → H (counted_at a port packet)
  counted_i a port packet h = at_port_h t a port (λ setup desk w. counts setup desk w packet)
      (λ linked found v. counts_i node address linked.setup (at_every port_key IsQuiet port.0 a.controller.ports linked h.quiet found) a.controller.desk (begins a linked) packet v) h.steadily

  default_i : (a : Acted) (port : PortNo) (mark : Mark) (r : Result (List ℕ) EncapsFault) → IsIdle a → H (default_holds a port mark r)
  default_i a port mark (Err fault) h = note_h t a _ tt h.steadily
  default_i a port mark (Ok packet) h = by (first_fault packet)
    where
      by : (o : Option PacketFault) → H (packet_holds a port mark packet o)
      by (Some fault) = note_h t a _ tt h.steadily
      by None = on_both H (protocol_of packet == control_protocol) (ifmp_holds a port packet (ifmp_decoded (drop 20 packet))) (counted_at (forwards_packet a mark packet) port packet)
          (heard_i a port packet (ifmp_decoded (drop 20 packet)) h.steadily) (counted_i (forwards_packet a mark packet) port packet (routes_i a mark packet h))

  -- *A frame* that passed its test
  frame_i : (a : Acted) (taker : Taker) (mark : Mark) (payload : List ℕ) → IsIdle a → H (frame_holds a taker mark payload)
  frame_i a ForGsmp mark payload h = gsmp_i a (gsmp_decoded payload) h.steadily
  frame_i a (ForDefault linked) mark payload h = default_i a linked.setup.port mark (default_unwrapped payload) h
  frame_i a (ForLabel linked label) mark payload h = label_i a linked label mark (unwrapped label.flow payload) h

  pub opened_i : (a : Acted) (taker : Taker) (mark : Mark) (o : Option (List ℕ)) → IsIdle a → H (opened_frame a taker mark o)
  opened_i a taker mark None h = h.steadily
  opened_i a taker mark (Some payload) h = frame_i a taker mark payload h
