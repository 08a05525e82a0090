-- what a cell that comes to a controller costs: what the frame that it ends may cause

use Rattle.std.proofs.Common.{◌≡◌, ℕ, ◌≤◌, ◌+◌, Bool, true, false, List, [], ◌∷◌, length, drop, Option, None, Some, Result, Ok, Err, refl, sym, ◌∙◌, ap, subst, arith, if◌then◌else◌}
use Rattle.std.specs.Prelude.{◌==◌, ◌&&◌, nat_lt}
use Rattle.std.specs.Option.{option_map_or, option_and_then}
use Rattle.world_model.specs.Words.{NodeId, PortNo, Up, Mark, Channel, HelloKind, Party, label_number_of, number_of_channel, is_label_channel, protocol_of, source_of, ttl_of, flow_ttl, PacketFault, hop_of, On, Cell, Answer, Said, same_party, heard_in, greeting_of, gsmp_answer, gsmp_received, Step, EncapsFault, default_unwrapped, unwrapped, Frame, Record, Bad, Loss, Unbound, payload_of, encaps_refusal, packet_refusal, ifmp_refusal, gsmp_refusal, Tested, tested_by, last_mark, payload_in, next_mark, Reassembly, at, Label, label_number, serves, is_bound, Session, label_at, labels_of, counts, used, hears, same_flow, Setup, Linked, port_key, linked_at, with_linked, chains_with, default_channel, says_gsmp, begins, node_resets, meets, gsmp_holds, forwards_packet, control_protocol, ForGsmp, ForDefault, ForLabel, same_channel, port_on, on_link, label_taker, taker_at, taker_of, reassembly_of, with_reassembly, label_holds, ifmp_holds, counted_at, packet_holds, default_holds, frame_holds, takes_cell, Topology}
use Rattle.world_model.specs.ipv4_packet.Packet.{first_fault}
use Rattle.world_model.specs.adjacency_table.declared.message.Answer.TheVariants as answers_of
use Rattle.world_model.specs.ifmp_wire.declared.message.Message.{Message as IfmpMessage}
use Rattle.world_model.specs.ifmp_wire.declared.reader.Fault.{Fault as IfmpFault}
use Rattle.world_model.specs.ifmp_wire.Fields.{decoded as ifmp_decoded}
use Rattle.world_model.specs.gsmp_wire.declared.message.Message.{Message}
use Rattle.world_model.specs.gsmp_wire.declared.message.Message.TheVariants as messages
use Rattle.world_model.specs.gsmp_wire.declared.fault.Fault.{Fault as GsmpFault}
use Rattle.world_model.specs.gsmp_wire.Fields.{decoded as gsmp_decoded}
use Rattle.world_model.specs.link_model.declared.record.Layer.TheVariants as layers
use Rattle.world_model.specs.frame_model.Frame.{octets_of}
use Rattle.world_model.specs.frame_model.Reassembly.{Taken, taken}
use Rattle.law_run_facts.specs.ordered_lists.Ordered.{Every, InOrder}
use Rattle.world_model.specs.port_model.Port.{Port}
use Rattle.law_run_facts.specs.law_port_facts.Port.{IsBefore}
use Rattle.law_run_facts.proofs.law_port_facts.Keyed.{at_key, put_every, find_at}
use Rattle.law_run_facts.proofs.law_controller_facts.Moves.{HasPorts, Found, found_port, moves_ports}
use Rattle.law_run_facts.proofs.law_controller_facts.Events.{IsTaker, routes_goes, kept_ports}
use Rattle.law_run_facts.proofs.law_actor_pace.Cells.{ended_last}
use Rattle.law_run_facts.proofs.Taking.{taken_frames, ended_by_last}
use Rattle.law_run_facts.proofs.Takers.{OfTaker, taker_at_port}
use Rattle.law_run_facts.proofs.law_shown_cells.Tested.{tested_frames as tests_frames}
use Rattle.law_run_facts.proofs.ordered_lists.Every.{every_map}
use Rattle.law_run_facts.proofs.law_controller_facts.Joining.{each_there, every_both}
use Rattle.law_run_facts.specs.law_port_facts.Port.{IsPort}
use Rattle.world_model.specs.Controller.{Acted, free_slots, note}
use Rattle.world_model.specs.Gsmp.{answers, steps, message_comes}
use Rattle.world_model.specs.Cells.{Taker, after_test, ends_frame, after_cell, cell_comes}
use Rattle.law_run_facts.proofs.law_shown_cells.Made.{extends_on}
use Rattle.law_action_weights.specs.claims_model.Costs.{frame_weight, meeting_weight, greeting_weight, answering_cost, if_said, message_cost, if_told, offer_weight, forwarding, packet_cost, if_unwrapped, controller_cost, default_cost}
use Rattle.law_action_weights.specs.claims_model.Weights.{Bearing, ToController, Plain, Labelled, Bound, bearing_of, bearing_on, cost_of, port_weight, changes_left}
use Rattle.law_action_weights.proofs.law_port_weights.Below.{IsBelow, received_below}
use Rattle.law_action_weights.proofs.law_port_weights.Rules.{hears_cost, used_free}
use Rattle.law_action_weights.specs.law_port_weights.Law.{ServesOnce}
use Rattle.law_action_weights.proofs.law_port_weights.Answered.{counts_cost}
use Rattle.law_controller_weights.specs.Coming.{IsToldGrant, HasToldGrants, Brings, coming_cost}
use Rattle.law_action_weights.proofs.Judging.{Weighs, weighs_then, more, none_then, then_none, still, itself, placed, gsmp_cost}
use Rattle.law_action_weights.proofs.Resets.{node_cost}
use Rattle.law_action_weights.proofs.Acting.{at_port_cost}
use Rattle.law_controller_weights.proofs.Answering.{meets_cost, answer_cost}
use Rattle.law_controller_weights.proofs.Packets.{MaySend, routes_cost}

-- *The bearing* of a cell that a controller takes
to_gsmp : (topology : Topology) (node : NodeId) (channel : Channel) → same_channel channel default_channel ≡ true → bearing_of topology (Up node) channel ≡ ToController
to_gsmp topology node channel t = ap (λ (b : Bool). if b then ToController else bearing_on (on_link channel) (Some (record { node = node; port = port_on channel }))) t

to_link : (topology : Topology) (node : NodeId) (channel : Channel) (b : Bool) → same_channel channel default_channel ≡ false → same_channel (on_link channel) default_channel ≡ b
    → bearing_of topology (Up node) channel ≡ (if b then Plain else Labelled (Some (record { node = node; port = port_on channel })) (number_of_channel (on_link channel)))
to_link topology node channel b t u =
    ap (λ (c : Bool). if c then ToController else bearing_on (on_link channel) (Some (record { node = node; port = port_on channel }))) t
    ∙ ap (λ (c : Bool). if c then Plain else Labelled (Some (record { node = node; port = port_on channel })) (number_of_channel (on_link channel))) u

number_is : (channel : Channel) (number : ℕ) → label_number_of channel ≡ Some number → number_of_channel channel ≡ number
number_is channel number e = by (is_label_channel channel) e
  where
    by : (b : Bool) → (if b then Some (number_of_channel channel) else None) ≡ Some number → number_of_channel channel ≡ number
    by true e = (let h : Some (number_of_channel channel) ≡ Some number = e in cc)
    by false e = absurd (cc e)

both_of : (a b : Bool) → (a && b) ≡ true → (a ≡ true) × (b ≡ true)
both_of true b e = (refl, e)
both_of false b e = absurd (cc e)

module _ (topology : Topology) (node : NodeId) (bound : Bound) (final : List Frame) (short : (mark : Mark) (payload : List ℕ) → payload_of final mark ≡ Some payload → length payload ≤ 1528) where
  abbrev Costly : ℕ → Acted → Acted → Type 0
  Costly count a b = Weighs topology node bound final short count a b

  rests : (count : ℕ) (a : Acted) → Costly count a a
  rests count a = itself topology node bound final short count a

  notes_cost : (count : ℕ) (a : Acted) (item : Record) → Costly count a (note a item)
  notes_cost count a item = still topology node bound final short count a (note a item) refl refl refl (omega arith)

  -- *GSMP*
  answers_cost : (kind : HelloKind) (a : Acted) (answer : Answer (Said Party) Party) → IsBelow kind answer → Costly (greeting_weight kind) a (answers a (gsmp_answer answer))
  answers_cost kind a answers_of.Quiet below = rests (greeting_weight kind) a
  answers_cost kind a (answers_of.Send message) below = more topology node bound final short (frame_weight + greeting_weight message.kind) (greeting_weight kind) a (says_gsmp a (messages.Adjacency (greeting_of message))) (omega (arith, below))
      (gsmp_cost topology node bound final short a (messages.Adjacency (greeting_of message)))
  answers_cost kind a (answers_of.Open None own) below = more topology node bound final short meeting_weight (greeting_weight kind) a (meets a) (omega (arith, below)) (meets_cost topology node bound final short a)
  answers_cost kind a (answers_of.Open (Some message) own) below =
      let said : Acted = says_gsmp a (messages.Adjacency (greeting_of message)) in
      more topology node bound final short ((frame_weight + greeting_weight message.kind) + meeting_weight) (greeting_weight kind) a (meets said) (omega (arith, below))
      (weighs_then topology node bound final short (frame_weight + greeting_weight message.kind) meeting_weight a said (meets said) (gsmp_cost topology node bound final short a (messages.Adjacency (greeting_of message))) (meets_cost topology node bound final short said))
  answers_cost kind a answers_of.Reset below = more topology node bound final short 0 (greeting_weight kind) a (node_resets a) (omega arith) (node_cost topology node bound final short a)

  module _ (setups : List Setup) where
    told_cost : (a : Acted) (message : Message) → HasPorts setups a → Costly (answering_cost message) a (message_comes a message)
    told_cost a (messages.Adjacency greeting) h =
        let step : Step Party = gsmp_received a.controller.adjacency greeting in
        let turned : Acted = record a { controller = record a.controller { adjacency = step.side } } in
        none_then topology node bound final short (greeting_weight greeting.kind) a turned (steps a step) (still topology node bound final short 0 a turned refl refl refl (omega arith))
        (answers_cost greeting.kind turned step.answer (received_below same_party a.controller.adjacency (heard_in greeting)))
    told_cost a (messages.Branch kind result code number session input_port input output_port output branches priority) h =
        answer_cost topology node bound final short setups a h (messages.Branch kind result code number session input_port input output_port output branches priority)
    told_cost a (messages.Move result code number session input_port input output_port output target_port target branches priority) h =
        answer_cost topology node bound final short setups a h (messages.Move result code number session input_port input output_port output target_port target branches priority)
    told_cost a (messages.Port result code number port session function) h = answer_cost topology node bound final short setups a h (messages.Port result code number port session function)
    told_cost a (messages.AllPorts result code number rows) h = answer_cost topology node bound final short setups a h (messages.AllPorts result code number rows)

    gsmp_holds_cost : (a : Acted) (r : Result Message GsmpFault) → HasPorts setups a → Costly (if_said answering_cost r) a (gsmp_holds a r)
    gsmp_holds_cost a (Ok message) h = told_cost a message h
    gsmp_holds_cost a (Err fault) h = notes_cost 0 a (Bad a.controller.node layers.Gsmp (gsmp_refusal fault))

    -- *Packets*
    serves_once : (a : Acted) (linked : Linked) (port : PortNo) → HasPorts setups a → linked_at a.controller port ≡ Some linked → ServesOnce (begins a linked)
    serves_once a linked port h found s flow label is e = ap (λ (o : Option Session). at label_number label.number (option_map_or (λ (x : Session). x.labels) o [])) is
        ∙ find_at label_number (λ (l : Label). serves l.state && same_flow l.flow flow) s.labels label
        (subst (λ (o : Option Session). InOrder IsBefore (option_map_or (λ (x : Session). x.labels) o [])) is (found_port setups a linked port h found).ascend) e

    counted_cost : (a : Acted) (port : PortNo) (packet : List ℕ) → HasPorts setups a → Costly offer_weight a (counted_at a port packet)
    counted_cost a port packet h = at_port_cost topology node bound final short offer_weight a port (λ setup desk w. counts setup desk w packet)
        (λ linked found. counts_cost (changes_left a.controller) linked.setup a.controller.desk (begins a linked) packet (serves_once a linked port h found))

    ifmp_holds_cost : (a : Acted) (port : PortNo) (packet : List ℕ) (r : Result IfmpMessage IfmpFault) → Costly (if_told r) a (ifmp_holds a port packet r)
    ifmp_holds_cost a port packet (Err fault) = notes_cost 0 a (Bad a.controller.node layers.Ifmp (ifmp_refusal fault))
    ifmp_holds_cost a port packet (Ok message) = at_port_cost topology node bound final short (message_cost message) a port (λ setup desk w. hears setup desk w (source_of packet) message)
        (λ linked found. hears_cost (changes_left a.controller) linked.setup a.controller.desk (begins a linked) (source_of packet) message)

    module _ (a : Acted) (came : Mark) (may : MaySend topology node bound final short a came) (grants : Every (HasToldGrants topology node bound) a.controller.ports)
        (onward : (packet : List ℕ) (port : PortNo) → hop_of a.controller.table packet ≡ On port → 1 ≤ port.0) (h : HasPorts setups a) where
      packet_holds_cost : (port : PortNo) (packet : List ℕ) (o : Option PacketFault) → Costly (packet_cost packet o) a (packet_holds a port came packet o)
      packet_holds_cost port packet (Some fault) = notes_cost 0 a (Bad a.controller.node layers.Packet (packet_refusal fault))
      packet_holds_cost port packet None = by (protocol_of packet == control_protocol)
        where
          routed : Acted
          routed = forwards_packet a came packet

          by : (b : Bool) → Costly (if b then if_told (ifmp_decoded (drop 20 packet)) else offer_weight + forwarding (ttl_of packet)) a
              (if b then ifmp_holds a port packet (ifmp_decoded (drop 20 packet)) else counted_at (forwards_packet a came packet) port packet)
          by true = ifmp_holds_cost a port packet (ifmp_decoded (drop 20 packet))
          by false = more topology node bound final short (forwarding (ttl_of packet) + offer_weight) (offer_weight + forwarding (ttl_of packet)) a (counted_at routed port packet) (omega arith)
              (weighs_then topology node bound final short (forwarding (ttl_of packet)) offer_weight a routed (counted_at routed port packet)
              (routes_cost topology node bound final short a came packet may grants (onward packet)) (counted_cost routed port packet (moves_ports setups (routes_goes setups a came packet) h)))

      default_holds_cost : (port : PortNo) (r : Result (List ℕ) EncapsFault) → Costly (if_unwrapped r) a (default_holds a port came r)
      default_holds_cost port (Err fault) = notes_cost 0 a (Bad a.controller.node layers.Encaps (encaps_refusal fault))
      default_holds_cost port (Ok packet) = packet_holds_cost port packet (first_fault packet)

      label_holds_cost : (linked : Linked) (label : Label) (hops : ℕ) (r : Result (List ℕ) EncapsFault) → ((packet : List ℕ) → r ≡ Ok packet → ttl_of packet ≡ hops)
          → Costly (forwarding hops) a (label_holds a linked label came r)
      label_holds_cost linked label hops (Err fault) ttl = notes_cost (forwarding hops) a (Bad a.controller.node layers.Encaps (encaps_refusal fault))
      label_holds_cost linked label hops (Ok packet) ttl =
          let routed : Acted = forwards_packet a came packet in
          more topology node bound final short (forwarding (ttl_of packet)) (forwarding hops) a (label_holds a linked label came (Ok packet)) (omega (arith, ap forwarding (ttl packet refl)))
          (then_none topology node bound final short (forwarding (ttl_of packet)) a routed (label_holds a linked label came (Ok packet))
          (routes_cost topology node bound final short a came packet may grants (onward packet))
          (at_port_cost topology node bound final short 0 routed linked.setup.port (λ setup desk w. used w label.number)
          (λ other found. used_free (changes_left routed.controller) (begins routed other) label.number)))

    -- *A cell*
    module _ (a : Acted) (cell : Cell) (h : HasPorts setups a) (brings : Brings topology node bound a cell) where
      count : ℕ
      count = coming_cost topology node bound final cell

      -- what a frame costs by its payload, which the frames that are left have under its mark
      by_payload : (b c : Acted) (payload : List ℕ) (k : ℕ) (bearing : Bearing) → payload_of b.notes.frames cell.mark ≡ Some payload → cell.header.last ≡ true
          → bearing_of topology (Up node) cell.header.channel ≡ bearing → cost_of bound (Some payload) bearing ≡ k → Costly k b c → Costly (coming_cost topology node bound final cell) b c
      by_payload b c payload k bearing made last is cost q = record {
        fine = q.fine;
        extends = q.extends;
        cost = λ f e. (let one = q.cost f e in let kept = extends_on (q.extends f) e in
            let whole : coming_cost topology node bound final cell ≡ k = ap (λ (t : Bool). if t then cost_of bound (payload_of final cell.mark) (bearing_of topology (Up node) cell.header.channel) else 0) last
            ∙ ap (λ (o : Option (List ℕ)). cost_of bound o (bearing_of topology (Up node) cell.header.channel)) (kept.kept cell.mark payload made)
            ∙ ap (cost_of bound (Some payload)) is ∙ cost in omega (arith, one, whole));
      }

      -- a frame that passed acts, on a controller that has put the chain away
      module _ (b : Acted) (frames : b.notes.frames ≡ a.notes.frames) (table : b.controller.table ≡ a.controller.table) (grants : Every (HasToldGrants topology node bound) b.controller.ports) (hb : HasPorts setups b) (last : cell.header.last ≡ true) where
        may : MaySend topology node bound final short b cell.mark
        may = record {
          newest = λ n. ap (λ (f : List Frame). payload_of f (next_mark cell.mark)) frames ∙ brings.newest last n;
          counted = brings.counted;
        }

        on : (packet : List ℕ) (port : PortNo) → hop_of b.controller.table packet ≡ On port → 1 ≤ port.0
        on packet port e = brings.onward packet port (ap (λ (t : _). hop_of t packet) (sym table) ∙ e)

        holds_cost : (taker : Taker) (payload : List ℕ) → taker_of a.controller cell.header.channel ≡ Some taker → payload_of a.notes.frames cell.mark ≡ Some payload
            → Costly (coming_cost topology node bound final cell) b (frame_holds b taker cell.mark payload)
        holds_cost taker payload is made = by_channel (same_channel cell.header.channel default_channel) refl is
          where
            here : payload_of b.notes.frames cell.mark ≡ Some payload
            here = ap (λ (f : List Frame). payload_of f cell.mark) frames ∙ made

            some_is : {x y : Taker} → Some x ≡ Some y → x ≡ y
            some_is {x} {y} e = cc

            gsmp : same_channel cell.header.channel default_channel ≡ true → Costly (coming_cost topology node bound final cell) b (frame_holds b ForGsmp cell.mark payload)
            gsmp t = by_payload b (frame_holds b ForGsmp cell.mark payload) payload (controller_cost payload) ToController here last (to_gsmp topology node cell.header.channel t) refl (gsmp_holds_cost b (gsmp_decoded payload) hb)

            by_label : (linked : Linked) (o : Option Label) → linked_at a.controller (port_on cell.header.channel) ≡ Some linked → same_channel cell.header.channel default_channel ≡ false → same_channel (on_link cell.header.channel) default_channel ≡ false
                → option_and_then (label_at linked.port) (label_number_of (on_link cell.header.channel)) ≡ o → label_taker linked o ≡ Some taker → Costly (coming_cost topology node bound final cell) b (frame_holds b taker cell.mark payload)
            by_label linked None found t u l e = absurd (cc e)
            by_label linked (Some label) found t u l e = bound_or_not (is_bound label.state) e
              where
                number : number_of_channel (on_link cell.header.channel) ≡ label.number
                number = by (label_number_of (on_link cell.header.channel)) refl l
                  where
                    by : (o : Option ℕ) → label_number_of (on_link cell.header.channel) ≡ o → option_and_then (label_at linked.port) o ≡ Some label → number_of_channel (on_link cell.header.channel) ≡ label.number
                    by None n e = absurd (cc e)
                    by (Some n) is e = number_is (on_link cell.header.channel) n is ∙ sym (at_key label_number n (labels_of linked.port) label e)

                port : port_on cell.header.channel ≡ linked.setup.port
                port = ap (λ (n : ℕ). record { 0 = n }) (sym (at_key port_key (port_on cell.header.channel).0 a.controller.ports linked found))

                bound_or_not : (c : Bool) → (if c then Some (ForLabel linked label) else None) ≡ Some taker → Costly (coming_cost topology node bound final cell) b (frame_holds b taker cell.mark payload)
                bound_or_not false e = absurd (cc e)
                bound_or_not true e =
                    let same : ForLabel linked label ≡ taker = some_is e in
                    let mine : taker_of a.controller cell.header.channel ≡ Some (ForLabel linked label) = is ∙ ap (λ (x : Taker). Some x) (sym same) in
                    let bears : bearing_of topology (Up node) cell.header.channel ≡ Labelled (Some (record { node = node; port = linked.setup.port })) label.number =
                    to_link topology node cell.header.channel false t u ∙ ap (λ (p : PortNo). Labelled (Some (record { node = node; port = p })) (number_of_channel (on_link cell.header.channel))) port
                    ∙ ap (λ (n : ℕ). Labelled (Some (record { node = node; port = linked.setup.port })) n) number in
                    subst (λ (x : Taker). Costly (coming_cost topology node bound final cell) b (frame_holds b x cell.mark payload)) same
                    (by_payload b (frame_holds b (ForLabel linked label) cell.mark payload) payload (forwarding (flow_ttl label.flow)) (Labelled (Some (record { node = node; port = linked.setup.port })) label.number) here last bears
                    (ap forwarding (brings.labels linked label mine))
                    (label_holds_cost b cell.mark may grants on hb linked label (flow_ttl label.flow) (unwrapped label.flow payload) (λ packet r. brings.carries linked label payload packet mine made r)))

            by_link : (linked : Linked) → linked_at a.controller (port_on cell.header.channel) ≡ Some linked → same_channel cell.header.channel default_channel ≡ false → (c : Bool) → same_channel (on_link cell.header.channel) default_channel ≡ c
                → (if c then Some (ForDefault linked) else label_taker linked (option_and_then (label_at linked.port) (label_number_of (on_link cell.header.channel)))) ≡ Some taker
                → Costly (coming_cost topology node bound final cell) b (frame_holds b taker cell.mark payload)
            by_link linked found t true u e = subst (λ (x : Taker). Costly (coming_cost topology node bound final cell) b (frame_holds b x cell.mark payload)) (some_is e)
                (by_payload b (frame_holds b (ForDefault linked) cell.mark payload) payload (default_cost payload) Plain here last (to_link topology node cell.header.channel true t u) refl
                (default_holds_cost b cell.mark may grants on hb linked.setup.port (default_unwrapped payload)))
            by_link linked found t false u e = by_label linked (option_and_then (label_at linked.port) (label_number_of (on_link cell.header.channel))) found t u refl e

            by_port : (o : Option Linked) → linked_at a.controller (port_on cell.header.channel) ≡ o → same_channel cell.header.channel default_channel ≡ false → taker_at o (on_link cell.header.channel) ≡ Some taker
                → Costly (coming_cost topology node bound final cell) b (frame_holds b taker cell.mark payload)
            by_port None found t e = absurd (cc e)
            by_port (Some linked) found t e = by_link linked found t (same_channel (on_link cell.header.channel) default_channel) refl e

            by_channel : (c : Bool) → same_channel cell.header.channel default_channel ≡ c → (if c then Some ForGsmp else taker_at (linked_at a.controller (port_on cell.header.channel)) (on_link cell.header.channel)) ≡ Some taker
                → Costly (coming_cost topology node bound final cell) b (frame_holds b taker cell.mark payload)
            by_channel true t e = subst (λ (x : Taker). Costly (coming_cost topology node bound final cell) b (frame_holds b x cell.mark payload)) (some_is e) (gsmp t)
            by_channel false t e = by_port (linked_at a.controller (port_on cell.header.channel)) refl t e

      -- the cell joins its chain
      module _ (taker : Taker) (is : taker_of a.controller cell.header.channel ≡ Some taker) where
        abbrev t : Taken
        t = taken a.notes (nat_lt 0 (free_slots a.controller)) (reassembly_of a.controller taker) cell

        frames_same : t.notes.frames ≡ a.notes.frames
        frames_same = taken_frames a.notes (nat_lt 0 (free_slots a.controller)) (reassembly_of a.controller taker) cell

        abbrev noted : Acted
        noted = record a { notes = t.notes }

        own_linked : OfTaker (λ (linked : Linked). Found setups a linked × HasToldGrants topology node bound linked) taker
        own_linked = taker_at_port (λ (linked : Linked). Found setups a linked × HasToldGrants topology node bound linked) a.controller cell.header.channel taker
            (every_both (Found setups a) (HasToldGrants topology node bound) a.controller.ports
            (every_map (λ (linked : Linked). Found setups a linked × IsPort setups linked.setup linked.port) (Found setups a) a.controller.ports (λ linked p. p.0) (each_there setups a h)) brings.grants) is

        is_taker : IsTaker setups a taker
        is_taker = by taker own_linked
          where
            by : (x : Taker) → OfTaker (λ (linked : Linked). Found setups a linked × HasToldGrants topology node bound linked) x → IsTaker setups a x
            by ForGsmp own = tt
            by (ForDefault linked) own = own.0
            by (ForLabel linked label) own = own.0

        -- nothing but the chain is another
        record IsKept (b : Acted) : Type 0 where
          cost : Costly 0 noted b
          frames : b.notes.frames ≡ t.notes.frames
          table : b.controller.table ≡ a.controller.table
          grants : Every (HasToldGrants topology node bound) b.controller.ports

        kept : (r : Reassembly) → IsKept (with_reassembly noted taker r)
        kept r = by taker own_linked
          where
            put_back : (linked new : Linked) → new.setup ≡ linked.setup → new.port ≡ linked.port → (Found setups a linked × HasToldGrants topology node bound linked) → IsKept (with_linked noted new)
            put_back linked new setup port own = record {
              cost = placed topology node bound final short 0 noted linked new (subst (λ (s : Setup). linked_at a.controller s.port ≡ Some linked) (sym setup) own.0) setup
                  (omega (arith, ap (λ (p : Port). port_weight (changes_left a.controller) p) port));
              frames = refl;
              table = refl;
              grants = put_every port_key (HasToldGrants topology node bound) new a.controller.ports
                  (subst (λ (s : Setup). Every (IsToldGrant topology node bound s.port) new.port.grants) (sym setup) (subst (λ (p : Port). Every (IsToldGrant topology node bound linked.setup.port) p.grants) (sym port) own.1)) brings.grants;
            }

            by : (x : Taker) → OfTaker (λ (linked : Linked). Found setups a linked × HasToldGrants topology node bound linked) x → IsKept (with_reassembly noted x r)
            by ForGsmp own = record { cost = still topology node bound final short 0 noted (with_reassembly noted ForGsmp r) refl refl refl (omega arith); frames = refl; table = refl; grants = brings.grants }
            by (ForDefault linked) own = put_back linked (record linked { reassembly = r }) refl refl own
            by (ForLabel linked label) own = put_back linked (record linked { chains = chains_with linked.chains label.number r }) refl refl own

        abbrev b : Acted
        b = with_reassembly noted taker t.reassembly

        k : IsKept b
        k = kept t.reassembly

        same : b.notes.frames ≡ a.notes.frames
        same = k.frames ∙ frames_same

        -- and a chain that it ended is tested
        ended_cost : (cells : List Cell) → t.ended ≡ cells → Costly (coming_cost topology node bound final cell) b (ends_frame b taker cells)
        ended_cost [] e = rests (coming_cost topology node bound final cell) b
        ended_cost (first ∷ rest) e = by (payload_in (octets_of (first ∷ rest))) refl
          where
            mark : last_mark (first ∷ rest) ≡ cell.mark
            mark = ended_last a.notes (nat_lt 0 (free_slots a.controller)) (reassembly_of a.controller taker) cell first rest e

            last : cell.header.last ≡ true
            last = ended_by_last a.notes (nat_lt 0 (free_slots a.controller)) (reassembly_of a.controller taker) cell first rest e

            by : (o : Option (List ℕ)) → payload_in (octets_of (first ∷ rest)) ≡ o → Costly (coming_cost topology node bound final cell) b (after_test b taker (last_mark (first ∷ rest)) (tested_by b.notes (first ∷ rest) o))
            by None p = still topology node bound final short (coming_cost topology node bound final cell) b (record b { notes = (tested_by b.notes (first ∷ rest) None).notes })
                (tests_frames b.notes (first ∷ rest) None) refl refl (omega arith)
            by (Some payload) p =
                let test : Tested = tested_by b.notes (first ∷ rest) (Some payload) in
                let c : Acted = record b { notes = test.notes } in
                let frames : test.notes.frames ≡ b.notes.frames = tests_frames b.notes (first ∷ rest) (Some payload) in
                none_then topology node bound final short (coming_cost topology node bound final cell) b c (frame_holds c taker (last_mark (first ∷ rest)) payload)
                (still topology node bound final short 0 b c frames refl refl (omega arith))
                (subst (λ (m : Mark). Costly (coming_cost topology node bound final cell) c (frame_holds c taker m payload)) (sym mark)
                (holds_cost c (frames ∙ same) k.table k.grants (let hb = kept_ports setups a taker t is_taker h in record { ports = hb.ports; shaped = hb.shaped }) last taker payload is (brings.passes taker first rest payload is e p)))

        taken_cost : Costly (coming_cost topology node bound final cell) a (after_cell a taker t)
        taken_cost = none_then topology node bound final short (coming_cost topology node bound final cell) a noted (after_cell a taker t)
            (still topology node bound final short 0 a noted frames_same refl refl (omega arith))
            (none_then topology node bound final short (coming_cost topology node bound final cell) noted b (after_cell a taker t) k.cost (ended_cost t.ended refl))

      pub cell_cost : Costly (coming_cost topology node bound final cell) a (cell_comes a cell)
      cell_cost = by (taker_of a.controller cell.header.channel) refl
        where
          by : (o : Option Taker) → taker_of a.controller cell.header.channel ≡ o → Costly (coming_cost topology node bound final cell) a (takes_cell a cell o)
          by None is = notes_cost (coming_cost topology node bound final cell) a (Loss cell.mark Unbound)
          by (Some taker) is = taken_cost taker is
