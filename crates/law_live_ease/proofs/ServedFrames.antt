-- what a cell brings a controller leaves the session of a port fitting, where its port is ready

use Rattle.std.proofs.Common.{◌≡◌, ℕ, ◌<◌, List, [], ◌∷◌, length, drop, fold, Option, None, Some, Result, refl, sym, ◌∙◌, ap, subst}
use Rattle.std.specs.Prelude.{◌==◌, nat_lt, Ok, Err}
use Rattle.world_model.specs.Words.{PortNo, Mark, End, Party, Said, Answer, Quiet, Send, Open, Estab, Cell, number_of_channel, greeting_of, gsmp_answer, gsmp_received, is_estab, FlowId, Request, AddBranch, MoveBranch, DeleteTree, VerifyTree, PortManagement, Part, PacketFault, EncapsFault, protocol_of, source_of, control_protocol, default_unwrapped, unwrapped, Answered, Unknown, Done, Ports, Failed, answered, after_answer, at, Setup, Label, label_number, labels_of, Session, parted, given_back, halts_if_spent, counts, used, hears, Controller, Linked, linked_at, port_key, with_desk, default_channel, begins, says_gsmp, parts, gives_back, releases_join, releases_input, released_inputs, resets_spent, releases, join_of, tells_port, causes_in_estab, causes, clears, takes_answer, answer_comes, gsmp_holds, forwards_packet, label_holds, ifmp_holds, counted_at, packet_holds, default_holds, frame_holds, ForGsmp, ForDefault, ForLabel, Reassembly, Tested, tested, last_mark, taker_of, reassembly_of, with_reassembly, takes_cell, chains_with}
use Rattle.world_model.specs.Controller.{Acted, ports_of, note, free_slots}
use Rattle.world_model.specs.Cells as controllers
use Rattle.world_model.specs.Cells.{Taker, cell_comes}
use Rattle.world_model.specs.Gsmp.{answers, steps, message_comes}
use Rattle.world_model.specs.Joins.{Join}
use Rattle.world_model.specs.Meeting.{request_port, takes_success}
use Rattle.world_model.specs.adjacency_table.Side as sides
use Rattle.world_model.specs.adjacency_table.declared.message.Answer.TheVariants.{Reset}
use Rattle.world_model.specs.frame_model.Reassembly.{Taken, taken}
use Rattle.world_model.specs.gsmp_wire.Fields.{decoded as gsmp_decoded}
use Rattle.world_model.specs.gsmp_wire.Layout.{octets_of as gsmp_octets}
use Rattle.world_model.specs.gsmp_wire.declared.fault.Fault.{Fault as GsmpFault}
use Rattle.world_model.specs.gsmp_wire.declared.message.Message.{Message as GsmpMessage}
use Rattle.world_model.specs.gsmp_wire.declared.message.Message.TheVariants as messages
use Rattle.world_model.specs.gsmp_wire.declared.request.Request.TheVariants.{DeleteAll, AllPorts}
use Rattle.world_model.specs.ifmp_wire.Fields.{decoded as ifmp_decoded}
use Rattle.world_model.specs.ifmp_wire.declared.message.Message.{Message}
use Rattle.world_model.specs.ifmp_wire.declared.reader.Fault.{Fault}
use Rattle.world_model.specs.ipv4_packet.Packet.{first_fault}
use Rattle.world_model.specs.port_model.Answers as port_answers
use Rattle.world_model.specs.port_model.Counts.{Counted, most_flows}
use Rattle.world_model.specs.port_model.Port.{Port}
use Rattle.law_live_journeys.specs.law_run_facts.ordered_lists.Ordered.{InOrder}
use Rattle.law_live_journeys.proofs.law_run_facts.law_port_facts.Keyed.{on_both, at_key}
use Rattle.law_live_journeys.proofs.law_live_elsewhere.Kept.{KeptAt}
use Rattle.law_live_journeys.proofs.law_live_elsewhere.Elsewhere.{IsOf, taker_is_of, gathered}
use Rattle.law_live_journeys.proofs.law_live_others.Holding.{forwards_same}
use Rattle.law_live_ease.proofs.ServedWorking.{In, closes_g, used_g, parted_g, given_back_g, done_g}
use Rattle.law_live_ease.proofs.ServedHearing.{AreUncalled, hears_g}
use Rattle.law_live_ease.proofs.ServedCounting.{IsKept, counts_good}
use Rattle.law_live_ease.proofs.ServedWalk.{same_h, put_h, H, fold_h, control_h, node_h, at_port_h, changes_h, meets_h, empties_h, behind_h, clears_h}

one_linked : (x y : Linked) → Some x ≡ Some y → x ≡ y
one_linked x y e = cc

-- *A port is ready* to hear and to count: it is in Estab and in session, its labels stand in order, none of them is recalled, and it counts
-- fewer flows than it can
pub record IsReadyPort (port : Port) : Type 0 where
  pub up : port.adjacency.state ≡ Estab
  pub session : Session
  pub is_open : port.session ≡ Some session
  pub order : InOrder (λ (a b : Label). label_number a < label_number b) session.labels
  pub uncalled : AreUncalled (labels_of port)
  pub few : length session.counted < most_flows

pub record ReadyAt (port : PortNo) (c : Controller) : Type 0 where
  pub linked : Linked
  pub of_port : linked_at c port ≡ Some linked
  pub ready : IsReadyPort linked.port

module _ (port : PortNo) (setup : Setup) (flow : FlowId) (Q : List Counted → Type 0) where
  abbrev I : Option Session → Type 0
  I = In flow Q

  abbrev K : Acted → Type 0
  K a = H port setup I a

  -- *Joins are released*
  parts_k : (a : Acted) (input : End) → K a → K (parts a input)
  parts_k a input h =
      let b : Acted = note a (Part a.controller.node input.port (number_of_channel input.channel)) in
      at_port_h port setup I tt b input.port (λ s desk w. parted w (number_of_channel input.channel)) (λ linked found here fits. parted_g flow Q (begins b linked) (number_of_channel input.channel) fits.1) h

  gives_back_k : (a : Acted) (join : Join) → K a → K (gives_back a join)
  gives_back_k a join h = at_port_h port setup I tt a join.port (λ s desk w. given_back w join.grant) (λ linked found here fits. given_back_g flow Q (begins a linked) join.grant fits.1) h

  input_k : (a : Acted) (input : End) → K a → K (releases_input a input)
  input_k a input h = by (join_of a.controller input)
    where
      by : (o : Option Join) → K (releases_join a o)
      by None = h
      by (Some join) = gives_back_k (parts a join.input) join (parts_k a join.input h)

  spent_k : (a : Acted) (q : PortNo) → K a → K (resets_spent a q)
  spent_k a q h = at_port_h port setup I tt a q (λ s desk w. halts_if_spent w) (λ linked found here fits. closes_g flow Q (begins a linked) fits.1) h

  releases_k : (a : Acted) (request : Request) → K a → K (releases a request)
  releases_k a request h =
      let released : Acted = fold releases_input a (released_inputs a.controller request) in
      fold_h port setup I resets_spent spent_k (ports_of released.controller) released (fold_h port setup I releases_input input_k (released_inputs a.controller request) a h)

  -- *A success of the switch*
  tells_k : (a : Acted) (request : Request) (o : Option PortNo) → K a → K (tells_port a request o)
  tells_k a request None h = h
  tells_k a request (Some q) h = at_port_h port setup I tt a q (λ s desk w. port_answers.done s w request) (λ linked found here fits. done_g flow Q linked.setup (begins a linked) fits.1 request) h

  causes_in_k : (a : Acted) (request : Request) → K a → K (causes_in_estab a request)
  causes_in_k a (DeleteAll q) h = behind_h port setup I tt a q h
  causes_in_k a (AddBranch input output) h = tells_k a (AddBranch input output) (request_port (AddBranch input output)) h
  causes_in_k a (MoveBranch input from to) h = tells_k a (MoveBranch input from to) (request_port (MoveBranch input from to)) h
  causes_in_k a (DeleteTree input) h = tells_k a (DeleteTree input) (request_port (DeleteTree input)) h
  causes_in_k a (VerifyTree input) h = tells_k a (VerifyTree input) (request_port (VerifyTree input)) h
  causes_in_k a (PortManagement q function) h = tells_k a (PortManagement q function) (request_port (PortManagement q function)) h
  causes_in_k a AllPorts h = h

  success_k : (a : Acted) (request : Request) → K a → K (takes_success a request)
  success_k a request h =
      let released : Acted = releases a request in
      let r : K released = releases_k a request h in
      changes_h port setup I tt (clears (causes released request)) (clears_h port setup I tt (causes released request)
      (on_both K (is_estab released.controller.adjacency.state) (causes_in_estab released request) released (causes_in_k released request r) r))

  -- *What the switch says*
  answer_k : (a : Acted) (message : GsmpMessage) → K a → K (answer_comes a message)
  answer_k a message h = by (answered a.controller.desk message)
    where
      by : (answer : Answered) → K (takes_answer a answer)
      by Unknown = h
      by (Done s) = success_k (with_desk a (after_answer a.controller.desk (Done s))) s.request h
      by (Ports s rows) = empties_h port setup I tt (with_desk a (after_answer a.controller.desk (Ports s rows))) h
      by (Failed s code) = node_h port setup I tt (with_desk a (after_answer a.controller.desk (Failed s code))) h

  turns_k : (a : Acted) (answer : Answer (Said Party) Party) → K a → K (answers a (gsmp_answer answer))
  turns_k a Quiet h = h
  turns_k a (Send m) h = control_h port setup I a default_channel (gsmp_octets (messages.Adjacency (greeting_of m))) h
  turns_k a (Open None own) h = meets_h port setup I tt a h
  turns_k a (Open (Some m) own) h = meets_h port setup I tt (says_gsmp a (messages.Adjacency (greeting_of m))) (control_h port setup I a default_channel (gsmp_octets (messages.Adjacency (greeting_of m))) h)
  turns_k a Reset h = node_h port setup I tt a h

  steps_k : (a : Acted) (step : sides.Step Party) → K a → K (steps a step)
  steps_k a step h = turns_k (record a { controller = record a.controller { adjacency = step.side } }) step.answer h

  message_k : (a : Acted) (message : GsmpMessage) → K a → K (message_comes a message)
  message_k a (messages.Adjacency greeting) h = steps_k a (gsmp_received a.controller.adjacency greeting) h
  message_k a (messages.Branch kind result code number session input_port input output_port output branches priority) h =
      answer_k a (messages.Branch kind result code number session input_port input output_port output branches priority) h
  message_k a (messages.Move result code number session input_port input output_port output target_port target branches priority) h =
      answer_k a (messages.Move result code number session input_port input output_port output target_port target branches priority) h
  message_k a (messages.Port result code number port_named session function) h = answer_k a (messages.Port result code number port_named session function) h
  message_k a (messages.AllPorts result code number rows) h = answer_k a (messages.AllPorts result code number rows) h

  gsmp_k : (a : Acted) (r : Result GsmpMessage GsmpFault) → K a → K (gsmp_holds a r)
  gsmp_k a (Ok message) h = message_k a message h
  gsmp_k a (Err fault) h = h

  -- *A packet is sent on*
  forwards_k : (a : Acted) (mark : Mark) (packet : List ℕ) → K a → K (forwards_packet a mark packet)
  forwards_k a mark packet h = same_h port setup I a.controller (forwards_packet a mark packet).controller (forwards_same a mark packet).ports h

  label_k : (a : Acted) (q : Linked) (label : Label) (mark : Mark) (r : Result (List ℕ) EncapsFault) → K a → K (label_holds a q label mark r)
  label_k a q label mark (Err fault) h = h
  label_k a q label mark (Ok packet) h =
      let b : Acted = forwards_packet a mark packet in
      at_port_h port setup I tt b q.setup.port (λ s desk w. used w label.number) (λ linked found here fits. used_g flow Q (begins b linked) label.number fits.1) (forwards_k a mark packet h)

  -- *On a default channel*, of another port, or of this one where it is ready
  module _ (kept : IsKept Q) where
    abbrev MayHear : Acted → PortNo → Type 0
    MayHear a q = (linked : Linked) → linked_at a.controller q ≡ Some linked → port_key linked ≡ port.0 → IsReadyPort linked.port

    module _ (a : Acted) (q : PortNo) (may : MayHear a q) (h : K a) where
      heard_k : (packet : List ℕ) (r : Result Message Fault) → K (ifmp_holds a q packet r)
      heard_k packet (Err fault) = h
      heard_k packet (Ok message) = at_port_h port setup I tt a q (λ s desk w. hears s desk w (source_of packet) message)
          (λ linked found here fits. hears_g flow Q linked.setup a.controller.desk (begins a linked) (may linked found here).up (may linked found here).uncalled (source_of packet) fits.1 message) h

      counted_k : (mark : Mark) (packet : List ℕ) → K (counted_at (forwards_packet a mark packet) q packet)
      counted_k mark packet = at_port_h port setup I tt b q (λ s desk w. counts s desk w packet) counted (forwards_k a mark packet h)
        where
          b : Acted
          b = forwards_packet a mark packet

          counted : (linked : Linked) → linked_at b.controller q ≡ Some linked → port_key linked ≡ port.0 → (linked.setup ≡ setup) × I linked.port.session
              → I (counts linked.setup b.controller.desk (begins b linked) packet).port.session
          counted linked found here fits =
              let ready : IsReadyPort linked.port = may linked (sym (ap (λ ports. linked_at (record a.controller { ports = ports }) q) (forwards_same a mark packet).ports) ∙ found) here in
              counts_good linked.setup b.controller.desk linked.port b.numbers.instances ready.session ready.is_open ready.order ready.few flow Q packet kept fits.1

      packet_k : (mark : Mark) (packet : List ℕ) (o : Option PacketFault) → K (packet_holds a q mark packet o)
      packet_k mark packet (Some fault) = h
      packet_k mark packet None = on_both K (protocol_of packet == control_protocol) (ifmp_holds a q packet (ifmp_decoded (drop 20 packet))) (counted_at (forwards_packet a mark packet) q packet)
          (heard_k packet (ifmp_decoded (drop 20 packet))) (counted_k mark packet)

      default_k : (mark : Mark) (r : Result (List ℕ) EncapsFault) → K (default_holds a q mark r)
      default_k mark (Err fault) = h
      default_k mark (Ok packet) = packet_k mark packet (first_fault packet)

    -- *A frame*
    module _ (a : Acted) (ready : ReadyAt port a.controller) (h : K a) where
      may_hear : (q : PortNo) → MayHear a q
      may_hear q linked found here = subst (λ (l : Linked). IsReadyPort l.port)
          (one_linked ready.linked linked (sym ready.of_port ∙ (ap (λ k. at port_key k a.controller.ports) (sym here ∙ at_key port_key q.0 a.controller.ports linked found) ∙ found))) ready.ready

      frame_k : (taker : Taker) (mark : Mark) (payload : List ℕ) → K (frame_holds a taker mark payload)
      frame_k ForGsmp mark payload = gsmp_k a (gsmp_decoded payload) h
      frame_k (ForDefault q) mark payload = default_k a q.setup.port (may_hear q.setup.port) h mark (default_unwrapped payload)
      frame_k (ForLabel q label) mark payload = label_k a q label mark (unwrapped label.flow payload) h

      opened_k : (taker : Taker) (mark : Mark) (o : Option (List ℕ)) → K (controllers.opened_frame a taker mark o)
      opened_k taker mark None = h
      opened_k taker mark (Some payload) = frame_k taker mark payload

    -- *A cell* is gathered, and may end one
    gathered_k : (a : Acted) (taker : Taker) (r : Reassembly) → IsOf a.controller taker → K a → K (with_reassembly a taker r)
    gathered_k a ForGsmp r is h = h
    gathered_k a (ForDefault q) r is h = put_h port setup I a.controller (with_reassembly a (ForDefault q) r).controller q (record q { reassembly = r }) is refl refl (λ here fits. fits.1) h
    gathered_k a (ForLabel q label) r is h =
        put_h port setup I a.controller (with_reassembly a (ForLabel q label) r).controller q (record q { chains = chains_with q.chains label.number r }) is refl refl (λ here fits. fits.1) h

    ready_still : (a : Acted) (taker : Taker) (r : Reassembly) → IsOf a.controller taker → ReadyAt port a.controller → ReadyAt port (with_reassembly a taker r).controller
    ready_still a taker r is ready =
        let keeps : KeptAt ready.linked (linked_at (with_reassembly a taker r).controller port) = (gathered a taker r is).ports port ready.linked ready.of_port in
        record { linked = keeps.after; of_port = keeps.there; ready = subst IsReadyPort (sym keeps.port) ready.ready }

    ends_k : (a : Acted) → ReadyAt port a.controller → K a → (taker : Taker) (ended : List Cell) → K (controllers.ends_frame a taker ended)
    ends_k a ready h taker [] = h
    ends_k a ready h taker (cell ∷ cells) =
        let test : Tested = tested a.notes (cell ∷ cells) in
        opened_k (record a { notes = test.notes }) ready h taker (last_mark (cell ∷ cells)) test.payload

    pub cell_k : (a : Acted) (cell : Cell) → ReadyAt port a.controller → K a → K (cell_comes a cell)
    cell_k a cell ready h = by (taker_of a.controller cell.header.channel) refl
      where
        by : (o : Option Taker) → taker_of a.controller cell.header.channel ≡ o → K (takes_cell a cell o)
        by None is = h
        by (Some taker) is =
            let t : Taken = taken a.notes (nat_lt 0 (free_slots a.controller)) (reassembly_of a.controller taker) cell in
            let b : Acted = record a { notes = t.notes } in
            let of_port : IsOf a.controller taker = taker_is_of a.controller cell.header.channel taker is in
            ends_k (with_reassembly b taker t.reassembly) (ready_still b taker t.reassembly of_port ready)
            (gathered_k b taker t.reassembly of_port h) taker t.ended
