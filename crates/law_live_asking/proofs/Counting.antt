-- a packet that is counted: a label is wired for it, or nothing is asked

use Rattle.std.proofs.Common.{◌≡◌, ℕ, ◌+◌, ◌<◌, Bool, true, false, List, [], ◌∷◌, Option, None, Some, Result, Ok, Err, refl, sym, ◌∙◌, subst, drop}
use Rattle.std.specs.Prelude.{◌&&◌, ◌-◌, ◌==◌}
use Rattle.std.specs.List.{range_with_len}
use Rattle.std.specs.Option.{option_map_or}
use Rattle.world_model.specs.Words.{FlowId, same_flow, control_protocol, protocol_of, PacketFault, EncapsFault, number_of_channel, AddBranch, Ask, put, is_in_range, label_end, control_end, Label, label_number, label_for, labels_of, lowest_spare, serves, Session, Work, has_room, with_session, packets_in, counted_once, packet_flow, wires, counts_flow, counts_by, counts, used_label, Linked, linked_at, begins}
use Rattle.world_model.specs.Controller.{Acted}
use Rattle.world_model.specs.ipv4_packet.Packet.{first_fault}
use Rattle.world_model.specs.ifmp_wire.Fields.{decoded as ifmp_decoded}
use Rattle.world_model.specs.ifmp_wire.declared.message.Message.{Message}
use Rattle.world_model.specs.ifmp_wire.declared.reader.Fault.{Fault}
use Rattle.world_model.specs.port_model.Labels.{is_spare}
use Rattle.world_model.specs.port_model.Setup.{label_numbers, is_between}
use Rattle.world_model.specs.Words.{label_channel_of}
use Rattle.law_live_lasting.specs.law_port_facts.ordered_lists.Ordered.{InOrder}
use Rattle.law_live_lasting.proofs.law_port_facts.Keyed.{on_both, find_at}
use Rattle.law_live_lasting.proofs.law_port_facts.Found.{find_every, filter_passes}
use Rattle.law_live_lasting.specs.law_live_others.Law.{IsOnlyCounted, IsRefused, IsUnheardAs, IsUnheardPacket, IsUnheard}
use Rattle.law_live_numbers.specs.Law.{work_told, work_as, work_by, work_at}
use Rattle.law_live_mirrors.specs.Asking.{WorksPlainly}
use Rattle.law_live_mirrors.proofs.Ports.{relabelled}
use Rattle.law_live_mirrors.proofs.Counting.{led_so, by_session}
use Rattle.law_live_asking.specs.Frames.{UnheardFramesWorkPlainly}
use Rattle.law_live_asking.proofs.Frames.{begins_plainly, leaves_plainly}

-- *What counting asks*: nothing, or the branch of a label in range
pub data Asks (a : Acted) (linked : Linked) (w : Work) : Type 0 where
  plainly : WorksPlainly a linked w → Asks a linked w
  branches : (number : ℕ) → is_in_range linked.setup number ≡ true
      → w.actions ≡ Ask (AddBranch (label_end linked.setup.port number) (control_end linked.setup.port number)) false ∷ [] → Asks a linked w

module _ (a : Acted) (linked : Linked) (there : linked_at a.controller linked.setup.port ≡ Some linked)
    (ascend : InOrder (λ (x y : Label). label_number x < label_number y) (labels_of linked.port)) where
  abbrev begun : Work
  begun = begins a linked

  abbrev Counted : Work → Type 0
  Counted w = Asks a linked w

  module _ (s : Session) (is_open : linked.port.session ≡ Some s) (flow : FlowId) where
    in_order : InOrder (λ (x y : Label). label_number x < label_number y) s.labels
    in_order = subst (λ (o : Option Session). InOrder (λ (x y : Label). label_number x < label_number y) (option_map_or (λ (x : Session). x.labels) o [])) is_open ascend

    -- a label that serves is used
    used : (label : Label) → label_for s.labels flow ≡ Some label → Counted (used_label begun (Some label))
    used label found = plainly (leaves_plainly a linked (used_label begun (Some label)) there refl refl
        (λ input. by_session linked.port s is_open input (λ (x : Session). record x { labels = put label_number idled x.labels })
        (relabelled input label idled s.labels (number_of_channel input.channel)
        (find_at label_number (λ (x : Label). serves x.state && same_flow x.flow flow) s.labels label in_order found)
        (λ same. led_so input idled label label.state refl))))
      where
        idled : Label
        idled = record label { idle = 0 }

    abbrev s_counted : Session
    s_counted = record s { counted = counted_once s.counted flow }

    abbrev w_counted : Work
    w_counted = with_session begun (λ old. s_counted)

    counted_only : Counted w_counted
    counted_only = plainly (leaves_plainly a linked w_counted there refl refl (λ input. by_session linked.port s is_open input (λ old. s_counted) refl))

    -- a spare label is wired
    wires_asks : (o : Option ℕ) → lowest_spare linked.setup s.least s.greatest s.labels ≡ o → Counted (wires linked.setup w_counted flow o)
    wires_asks None is = counted_only
    wires_asks (Some number) is = branches number
        (find_every (λ n. is_in_range linked.setup n ≡ true) (λ n. is_between s.least s.greatest (label_channel_of n) && is_spare s.labels n) (label_numbers linked.setup) number
        (filter_passes (is_in_range linked.setup) (range_with_len linked.setup.least (linked.setup.greatest + 1 - linked.setup.least))) is) refl

    flow_asks : (o : Option Label) → label_for s.labels flow ≡ o → Counted (counts_flow linked.setup a.controller.desk begun s flow o)
    flow_asks (Some label) is = used label is
    flow_asks None is = on_both Counted (linked.setup.policy.offers flow (packets_in s_counted.counted flow) && has_room a.controller.desk w_counted)
        (wires linked.setup w_counted flow (lowest_spare linked.setup s.least s.greatest s.labels)) w_counted
        (wires_asks (lowest_spare linked.setup s.least s.greatest s.labels) refl) counted_only

  session_asks : (o : Option Session) → linked.port.session ≡ o → (flow : Option FlowId) → Counted (counts_by linked.setup a.controller.desk begun o flow)
  session_asks None is flow = plainly (begins_plainly a linked there)
  session_asks (Some s) is None = plainly (begins_plainly a linked there)
  session_asks (Some s) is (Some flow) = flow_asks s is flow (label_for s.labels flow) refl

  pub counting_asks : (packet : List ℕ) → Counted (counts linked.setup a.controller.desk begun packet)
  counting_asks packet = session_asks linked.port.session refl (packet_flow packet)

-- *What isn't heard*
module _ (a : Acted) (linked : Linked) (there : linked_at a.controller linked.setup.port ≡ Some linked) where
  only_counted : (packet : List ℕ) → IsOnlyCounted a packet linked → WorksPlainly a linked (counts linked.setup a.controller.desk (begins a linked) packet)
  only_counted packet only = by (counting_asks a linked there only.labels_in_order packet)
    where
      by : Asks a linked (counts linked.setup a.controller.desk (begins a linked) packet) → WorksPlainly a linked (counts linked.setup a.controller.desk (begins a linked) packet)
      by (plainly is) = is
      by (branches number in_range asks) = absurd (cc (sym only.asks_nothing ∙ asks))

  unheard_as : (packet : List ℕ) (is_message : Bool) → IsUnheardAs a linked.setup.port packet is_message → WorksPlainly a linked (work_as a linked packet is_message)
  unheard_as packet true refused = by (ifmp_decoded (drop 20 packet)) refused
    where
      by : (r : Result Message Fault) → IsRefused r → WorksPlainly a linked (work_told a linked packet r)
      by (Err fault) refused = begins_plainly a linked there
      by (Ok message) refused = absurd refused
  unheard_as packet false only = only_counted packet (only linked there)

  unheard_packet : (packet : List ℕ) (o : Option PacketFault) → IsUnheardPacket a linked.setup.port packet o → WorksPlainly a linked (work_by a linked packet o)
  unheard_packet packet (Some fault) unheard = begins_plainly a linked there
  unheard_packet packet None unheard = unheard_as packet (protocol_of packet == control_protocol) unheard

  unheard_at : (r : Result (List ℕ) EncapsFault) → IsUnheard a linked.setup.port r → WorksPlainly a linked (work_at a linked r)
  unheard_at (Err fault) unheard = begins_plainly a linked there
  unheard_at (Ok packet) unheard = unheard_packet packet (first_fault packet) unheard

pub unheard_frames_work_plainly : UnheardFramesWorkPlainly
unheard_frames_work_plainly a linked r there unheard = unheard_at a linked there r unheard
