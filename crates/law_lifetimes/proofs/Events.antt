-- cells, packets, ticks and all else that comes set no lifetime of a grant, but a REDIRECT of its label that is accepted

use Rattle.std.proofs.Common.{◌≡◌, ℕ, true, List, [], ◌∷◌, ◌++◌, Option, None, Some, Result, Ok, Err, refl, sym, ◌∙◌, ap, subst, fold}
use Rattle.std.specs.Prelude.{◌==◌, nat_lt, drop}
use Rattle.std.specs.Option.{option_and_then}
use Rattle.law_controller.specs.world_model.Words.{Addr, PortNo, Channel, Mark, Greeting, Party, label_number_of, Answer, Quiet, Send, Open, Said, is_estab, ticked, gsmp_answer, gsmp_received, protocol_of, source_of, PacketFault, hop_of, onward, RouteChange, Hop, Here, On, Cell, kind_of, default_payload, labelled_payload, EncapsFault, default_unwrapped, unwrapped, Refusal, cut, nothing_taken, Tested, tested, last_mark, next_mark, frame_cells, next_control, with_control, at, sent_again, Setup, control_end, Label, is_bound, Grant, New, is_by_controller, grant_matching, label_at, counts, used, hears, Controller, Linked, port_key, linked_at, with_linked, chains_with, default_channel, default_home, sends_control, says_gsmp, sends_request, begins, cuts_default_of, cuts_default, cuts_gsmp, node_resets, node_restarts, tries_joins, gsmp_holds, is_control, goes_by, grant_by, forwards_packet, control_protocol, inject_refusal, ForGsmp, ForDefault, ForLabel, port_on, on_link, same_channel, label_taker, taker_at, taker_of, reassembly_of, with_reassembly, label_holds, ifmp_holds, counted_at, packet_holds, default_holds, frame_holds, takes_cell, change_comes, sends_again, ticks_port, ticks_ports, ticks_by}
use Rattle.law_controller.specs.world_model.adjacency_table.declared.message.Answer.TheVariants.{Reset}
use Rattle.law_controller.specs.world_model.adjacency_table.Side as sides
use Rattle.law_controller.specs.world_model.ipv4_packet.Packet.{first_fault}
use Rattle.law_controller.specs.world_model.ipv4_forward.declared.outcome.Hop.TheVariants.{NoRoute, Expired}
use Rattle.law_controller.specs.world_model.ifmp_wire.declared.message.Message.{Message as IfmpMessage}
use Rattle.law_controller.specs.world_model.ifmp_wire.declared.reader.Fault.{Fault as IfmpFault}
use Rattle.law_controller.specs.world_model.ifmp_wire.Fields.{decoded as ifmp_decoded}
use Rattle.law_controller.specs.world_model.gsmp_wire.Layout.{octets_of as gsmp_octets}
use Rattle.law_controller.specs.world_model.gsmp_wire.Fields.{decoded as gsmp_decoded}
use Rattle.law_controller.specs.world_model.gsmp_wire.declared.fault.Fault.{Fault as GsmpFault}
use Rattle.law_controller.specs.world_model.gsmp_wire.declared.message.Message.{Message}
use Rattle.law_controller.specs.world_model.gsmp_wire.declared.message.Message.TheVariants as messages
use Rattle.law_controller.specs.world_model.frame_model.Reassembly.{Taken, taken}
use Rattle.law_controller.specs.ordered_lists.Ordered.{Every}
use Rattle.law_controller.specs.world_model.port_model.Port.{Port}
use Rattle.law_controller.specs.world_model.port_model.Ticks as port_ticks
use Rattle.law_controller.proofs.law_port_facts.Keyed.{on_both, on_each, at_key, at_put_same}
use Rattle.law_controller.specs.world_model.Controller.{Acted, free_slots, ports_of}
use Rattle.law_controller.specs.world_model.Sending.{sends}
use Rattle.law_controller.specs.world_model.Gsmp.{answers, steps, message_comes}
use Rattle.law_controller.specs.world_model.Packets.{forwarded}
use Rattle.law_controller.specs.world_model.Cells.{Taker, opened_frame, ends_frame, cell_comes}
use Rattle.law_controller.specs.world_model.Ticks.{ticks}
use Rattle.law_controller.specs.law_controller_facts.Inputs.{CellComes, enters_unless}
use Rattle.law_lifetimes.specs.Expiry.{payload_ended, Hears, Accepts, anew, again}
use Rattle.law_lifetimes.specs.Aging.{NotSet}
use Rattle.law_lifetimes.proofs.Grants.{IsFate, Unset, hears_all, counts_all, used_all, ticks_all}
use Rattle.law_lifetimes.proofs.Performing.{IsKept, Fits as FitsIn, found_fits, fold_fits, frame_fits, sends_fits, sends_control_fits, sends_request_fits, placed_fits, node_fits, at_port_fits}
use Rattle.law_lifetimes.proofs.Joining.{K as KIn, kept as kept_in, IsUsed, matching_used, tries_joins_fits, change_comes_fits, meets_fits, answer_comes_fits}
use Rattle.law_controller.proofs.Ordering.{same_number}

-- who takes the cells of a port's channels is at the port that is found
abbrev pub Belongs : Controller → Channel → Taker → Type 0
Belongs c channel ForGsmp = Unit {0}
Belongs c channel (ForDefault linked) = linked_at c (port_on channel) ≡ Some linked
Belongs c channel (ForLabel linked held) = linked_at c (port_on channel) ≡ Some linked

pub taker_belongs : (c : Controller) (channel : Channel) (taker : Taker) → taker_of c channel ≡ Some taker → Belongs c channel taker
taker_belongs c channel taker e = on_both (λ (o : Option Taker). o ≡ Some taker → Belongs c channel taker) (same_channel channel default_channel) (Some ForGsmp) (taker_at (linked_at c (port_on channel)) (on_link channel))
    (λ e. (let same : ForGsmp ≡ taker = cc in subst (Belongs c channel) same tt)) (by_found (linked_at c (port_on channel)) refl) e
  where
    by_label : (x : Linked) → linked_at c (port_on channel) ≡ Some x → (o : Option Label) → label_taker x o ≡ Some taker → Belongs c channel taker
    by_label x found None e = absurd (cc e)
    by_label x found (Some held) e = on_both (λ (o : Option Taker). o ≡ Some taker → Belongs c channel taker) (is_bound held.state) (Some (ForLabel x held)) None
        (λ e. (let same : ForLabel x held ≡ taker = cc in subst (Belongs c channel) same found)) (λ e. absurd (cc e)) e

    by_found : (o : Option Linked) → linked_at c (port_on channel) ≡ o → taker_at o (on_link channel) ≡ Some taker → Belongs c channel taker
    by_found None found e = absurd (cc e)
    by_found (Some x) found e = on_both (λ (o : Option Taker). o ≡ Some taker → Belongs c channel taker) (same_channel (on_link channel) default_channel) (Some (ForDefault x)) (label_taker x (option_and_then (label_at x.port) (label_number_of (on_link channel))))
        (λ e. (let same : ForDefault x ≡ taker = cc in subst (Belongs c channel) same found)) (by_label x found (option_and_then (label_at x.port) (label_number_of (on_link channel)))) e

-- what is put at its own place is found there
pub put_there : (a : Acted) (p : PortNo) (linked after : Linked) → linked_at a.controller p ≡ Some linked → after.setup ≡ linked.setup → linked_at (with_linked a after).controller linked.setup.port ≡ Some after
put_there a p linked after found same =
    let key : port_key linked ≡ p.0 = at_key port_key p.0 a.controller.ports linked found in
    let own : at port_key (port_key after) a.controller.ports ≡ Some linked = subst (λ n. at port_key n a.controller.ports ≡ Some linked) (sym (ap (λ (s : Setup). s.port.0) same ∙ key)) found in
    subst (λ (s : Setup). at port_key s.port.0 (with_linked a after).controller.ports ≡ Some after) same (at_put_same port_key after a.controller.ports linked own)

-- *What isn't a setting* of this grant's lifetime is none to the port
pub unset_here : (a : Acted) (cell : Cell) (port : PortNo) (label : ℕ) (linked : Linked) (source : Addr) (message : IfmpMessage) → NotSet a port label (CellComes cell) → Hears a (CellComes cell) linked source message
    → Unset port.0 label linked.setup.port.0 linked.setup a.controller.desk linked.port source message
unset_here a cell port label linked source message unset heard = record {
  anew = λ sender peer number lifetime channel flow new is due room e here same. unset lifetime (record {
    linked = linked;
    here = same_number linked.setup.port port here;
    source = source;
    sender = sender;
    peer = peer;
    number = number;
    channel = channel;
    flow = flow;
    heard = subst (Hears a (CellComes cell) linked source) is heard;
    due = due;
    accepted = subst (Accepts a.controller label) (sym e) (subst (λ k. Accepts a.controller label (New k)) (sym same) (anew room));
  });
  again = λ sender peer number lifetime channel flow grant is due e here same. unset lifetime (record {
    linked = linked;
    here = same_number linked.setup.port port here;
    source = source;
    sender = sender;
    peer = peer;
    number = number;
    channel = channel;
    flow = flow;
    heard = subst (Hears a (CellComes cell) linked source) is heard;
    due = due;
    accepted = subst (Accepts a.controller label) (sym e) (again grant same);
  });
}

module _ (port : PortNo) (label : ℕ) (G : ℕ → Grant → Type 0) (Q : List Cell → Type 0) (fate : IsFate port.0 label G)
    (control : (queue : List Cell) (channel : Channel) (mark : Mark) (payload : List ℕ) → channel.vci ≡ 15 → Q queue → Q (queue ++ frame_cells channel mark payload))
    (by_grant : (queue : List Cell) (q : PortNo) (grant : Grant) (mark : Mark) (payload : List ℕ) → G q.0 grant → is_by_controller grant.state ≡ true → Q queue → Q (queue ++ frame_cells (control_end q grant.label).channel mark payload)) where
  abbrev pub K : Setup → Port → Type 0
  K = KIn port.0 label G Q fate control

  abbrev pub kept : IsKept K Q
  kept = kept_in port.0 label G Q fate control

  abbrev pub Fits : Acted → Type 0
  Fits a = FitsIn K Q kept a

  noted_fits : (a : Acted) (b : Acted) → b.controller ≡ a.controller → Fits a → Fits b
  noted_fits a b same h = record { ports = subst (λ (c : Controller). Every (λ (x : Linked). K x.setup x.port) c.ports) (sym same) h.ports; queue = subst (λ (c : Controller). Q c.queue) (sym same) h.queue }

  -- *Packets*
  goes_by_fits : (a : Acted) (came : Mark) (q : PortNo) (packet : List ℕ) (o : Option Grant) → ((grant : Grant) → o ≡ Some grant → IsUsed (G q.0) grant) → Fits a → Fits (goes_by a came q packet o)
  goes_by_fits a came q packet None there h = on_both Fits (is_control came) (sends_control a (default_home q).channel (default_payload packet)) (sends a (default_home q).channel (next_mark came) (default_payload packet))
      (sends_control_fits K Q kept a (default_home q).channel (default_payload packet) refl h) (sends_fits K Q kept a (default_home q).channel (next_mark came) (default_payload packet) refl h)
  goes_by_fits a came q packet (Some grant) there h =
      let payload : List ℕ = labelled_payload (kind_of grant.flow) packet in
      let numbered : Acted = record a { numbers = with_control a.numbers } in
      on_both Fits (is_control came) (sends_control a (control_end q grant.label).channel payload) (sends a (control_end q grant.label).channel (next_mark came) payload)
      (frame_fits K Q kept numbered (control_end q grant.label).channel (next_control a.numbers) payload (by_grant a.controller.queue q grant (next_control a.numbers) payload (there grant refl).there (there grant refl).used h.queue) (record { ports = h.ports; queue = h.queue }))
      (frame_fits K Q kept a (control_end q grant.label).channel (next_mark came) payload (by_grant a.controller.queue q grant (next_mark came) payload (there grant refl).there (there grant refl).used h.queue) h)

  grant_used : (a : Acted) (q : PortNo) (packet : List ℕ) → Fits a → (grant : Grant) → grant_by a.controller q packet ≡ Some grant → IsUsed (G q.0) grant
  grant_used a q packet h grant e = by_found (linked_at a.controller q) refl e
    where
      by_found : (o : Option Linked) → linked_at a.controller q ≡ o → option_and_then (λ (x : Linked). grant_matching x.port.grants packet) o ≡ Some grant → IsUsed (G q.0) grant
      by_found None found e = absurd (cc e)
      by_found (Some x) found e = matching_used (G q.0) x.port.grants packet grant
          (subst (λ n. Every (G n) x.port.grants) (at_key port_key q.0 a.controller.ports x found) (found_fits K Q kept a q x found h)) e

  forwarded_fits : (a : Acted) (came : Mark) (packet : List ℕ) (hop : Hop) → Fits a → Fits (forwarded a came packet hop)
  forwarded_fits a came packet Here h = noted_fits a (forwarded a came packet Here) refl h
  forwarded_fits a came packet NoRoute h = noted_fits a (forwarded a came packet NoRoute) refl h
  forwarded_fits a came packet Expired h = noted_fits a (forwarded a came packet Expired) refl h
  forwarded_fits a came packet (On q) h = goes_by_fits a came q (onward packet) (grant_by a.controller q (onward packet)) (grant_used a q (onward packet) h) h

  routes_fits : (a : Acted) (came : Mark) (packet : List ℕ) → Fits a → Fits (forwards_packet a came packet)
  routes_fits a came packet h = forwarded_fits a came packet (hop_of a.controller.table packet) h

  -- *The adjacency with the switch*
  says_gsmp_fits : (a : Acted) (message : Message) → Fits a → Fits (says_gsmp a message)
  says_gsmp_fits a message h = sends_control_fits K Q kept a default_channel (gsmp_octets message) refl h

  answers_fits : (a : Acted) (answer : Answer Greeting Party) → Fits a → Fits (answers a answer)
  answers_fits a Quiet h = h
  answers_fits a (Send greeting) h = says_gsmp_fits a (messages.Adjacency greeting) h
  answers_fits a (Open None own) h = meets_fits port.0 label G Q fate control a h
  answers_fits a (Open (Some greeting) own) h = meets_fits port.0 label G Q fate control (says_gsmp a (messages.Adjacency greeting)) (says_gsmp_fits a (messages.Adjacency greeting) h)
  answers_fits a Reset h = node_fits K Q kept a h

  pub steps_fits : (a : Acted) (step : sides.Step Party) → Fits a → Fits (steps a step)
  steps_fits a step h = answers_fits (record a { controller = record a.controller { adjacency = step.side } }) (gsmp_answer step.answer) (record { ports = h.ports; queue = h.queue })

  told_fits : (a : Acted) (message : Message) → Fits a → Fits (message_comes a message)
  told_fits a (messages.Adjacency greeting) h = steps_fits a (gsmp_received a.controller.adjacency greeting) h
  told_fits a (messages.Branch kind result code number session input_port input output_port output branches priority) h =
      answer_comes_fits port.0 label G Q fate control a (messages.Branch kind result code number session input_port input output_port output branches priority) h
  told_fits a (messages.Move result code number session input_port input output_port output target_port target branches priority) h =
      answer_comes_fits port.0 label G Q fate control a (messages.Move result code number session input_port input output_port output target_port target branches priority) h
  told_fits a (messages.Port result code number q session function) h = answer_comes_fits port.0 label G Q fate control a (messages.Port result code number q session function) h
  told_fits a (messages.AllPorts result code number rows) h = answer_comes_fits port.0 label G Q fate control a (messages.AllPorts result code number rows) h

  gsmp_holds_fits : (a : Acted) (r : Result Message GsmpFault) → Fits a → Fits (gsmp_holds a r)
  gsmp_holds_fits a (Ok message) h = told_fits a message h
  gsmp_holds_fits a (Err fault) h = noted_fits a (gsmp_holds a (Err fault)) refl h

  -- *A label's channel*
  label_holds_fits : (a : Acted) (linked : Linked) (held : Label) (mark : Mark) (r : Result (List ℕ) EncapsFault) → Fits a → Fits (label_holds a linked held mark r)
  label_holds_fits a linked held mark (Err fault) h = noted_fits a (label_holds a linked held mark (Err fault)) refl h
  label_holds_fits a linked held mark (Ok packet) h = (let routed : Acted = forwards_packet a mark packet in
      at_port_fits K Q kept routed linked.setup.port (λ setup desk w. used w held.number) (λ x found k. used_all port.0 label G fate x.setup.port.0 (begins routed x) held.number k) (routes_fits a mark packet h))

  -- *A default channel*: a message that sets no lifetime here, or a packet
  module _ (a : Acted) (q : PortNo) (packet : List ℕ) (h : Fits a) where
    abbrev MayHear : Type 0
    MayHear = (message : IfmpMessage) → ifmp_decoded (drop 20 packet) ≡ Ok message → (protocol_of packet == control_protocol) ≡ true → first_fault packet ≡ None → (x : Linked) → linked_at a.controller q ≡ Some x
        → Unset port.0 label x.setup.port.0 x.setup a.controller.desk x.port (source_of packet) message

    ifmp_holds_fits : MayHear → (protocol_of packet == control_protocol) ≡ true → first_fault packet ≡ None → (r : Result IfmpMessage IfmpFault) → ifmp_decoded (drop 20 packet) ≡ r → Fits (ifmp_holds a q packet r)
    ifmp_holds_fits may is sound (Err fault) e = noted_fits a (ifmp_holds a q packet (Err fault)) refl h
    ifmp_holds_fits may is sound (Ok message) e = at_port_fits K Q kept a q (λ setup desk w. hears setup desk w (source_of packet) message)
        (λ x found k. hears_all port.0 label G fate x.setup.port.0 x.setup a.controller.desk x.port a.numbers.instances (source_of packet) message (may message e is sound x found) k) h

    counted_fits : (mark : Mark) → Fits (counted_at (forwards_packet a mark packet) q packet)
    counted_fits mark = (let routed : Acted = forwards_packet a mark packet in
        at_port_fits K Q kept routed q (λ setup desk w. counts setup desk w packet) (λ x found k. counts_all port.0 label G fate x.setup.port.0 x.setup routed.controller.desk (begins routed x) packet k) (routes_fits a mark packet h))

    packet_holds_fits : MayHear → (mark : Mark) (o : Option PacketFault) → first_fault packet ≡ o → Fits (packet_holds a q mark packet o)
    packet_holds_fits may mark (Some fault) e = noted_fits a (packet_holds a q mark packet (Some fault)) refl h
    packet_holds_fits may mark None e = on_each Fits (protocol_of packet == control_protocol) (ifmp_holds a q packet (ifmp_decoded (drop 20 packet))) (counted_at (forwards_packet a mark packet) q packet)
        (λ is. ifmp_holds_fits may is e (ifmp_decoded (drop 20 packet)) refl) (λ other. counted_fits mark)

  default_holds_fits : (a : Acted) (q : PortNo) (mark : Mark) (r : Result (List ℕ) EncapsFault) → ((packet : List ℕ) (h : Fits a) → r ≡ Ok packet → MayHear a q packet h) → Fits a → Fits (default_holds a q mark r)
  default_holds_fits a q mark (Err fault) may h = noted_fits a (default_holds a q mark (Err fault)) refl h
  default_holds_fits a q mark (Ok packet) may h = packet_holds_fits a q packet h (may packet h refl) mark (first_fault packet) refl

  -- *Cells*
  default_fits : (a : Acted) (cell : Cell) (linked : Linked) → NotSet a port label (CellComes cell) → taker_of a.controller cell.header.channel ≡ Some (ForDefault linked) → Fits a → Fits (takes_cell a cell (Some (ForDefault linked)))
  default_fits a cell linked unset taker h = by_ended t.ended refl
    where
      t : Taken
      t = taken a.notes (nat_lt 0 (free_slots a.controller)) linked.reassembly cell

      gathered : Linked
      gathered = record linked { reassembly = t.reassembly }

      b : Acted
      b = with_linked (record a { notes = t.notes }) gathered

      found : linked_at a.controller (port_on cell.header.channel) ≡ Some linked
      found = taker_belongs a.controller cell.header.channel (ForDefault linked) taker

      there : linked_at b.controller linked.setup.port ≡ Some gathered
      there = put_there (record a { notes = t.notes }) (port_on cell.header.channel) linked gathered found refl

      fits : Fits b
      fits = placed_fits K Q kept (record a { notes = t.notes }) gathered (found_fits K Q kept a (port_on cell.header.channel) linked found h) (noted_fits a (record a { notes = t.notes }) refl h)

      by_payload : (cells : List Cell) (mark : Mark) (test : Tested) (o : Option (List ℕ)) → payload_ended t.notes t.ended ≡ o → Fits (opened_frame (record b { notes = test.notes }) (ForDefault linked) mark o)
      by_payload cells mark test None is = noted_fits b (record b { notes = test.notes }) refl fits
      by_payload cells mark test (Some payload) is = (let c : Acted = record b { notes = test.notes } in
          default_holds_fits c linked.setup.port mark (default_unwrapped payload)
          (λ packet k unwraps message says control sound x at_x. (let both : Some gathered ≡ Some x = sym there ∙ at_x in let same : gathered ≡ x = cc in
          subst (λ (y : Linked). Unset port.0 label y.setup.port.0 y.setup a.controller.desk y.port (source_of packet) message) same
          (unset_here a cell port label linked (source_of packet) message unset (record {
            cell = cell;
            comes = refl;
            channel = taker;
            payload = payload;
            frame = is;
            packet = packet;
            unwrapped = unwraps;
            sound = sound;
            control = control;
            from = refl;
            says = says;
          })))) (noted_fits b c refl fits))

      by_ended : (ended : List Cell) → t.ended ≡ ended → Fits (ends_frame b (ForDefault linked) ended)
      by_ended [] e = fits
      by_ended (first ∷ rest) e = by_payload (first ∷ rest) (last_mark (first ∷ rest)) (tested t.notes (first ∷ rest)) (tested t.notes (first ∷ rest)).payload (ap (payload_ended t.notes) e)

  frame_holds_fits : (a : Acted) (taker : Taker) (mark : Mark) (payload : List ℕ) → ((linked : Linked) → taker ≡ ForDefault linked → ⊥) → Fits a → Fits (frame_holds a taker mark payload)
  frame_holds_fits a ForGsmp mark payload other h = gsmp_holds_fits a (gsmp_decoded payload) h
  frame_holds_fits a (ForDefault linked) mark payload other h = absurd (other linked refl)
  frame_holds_fits a (ForLabel linked held) mark payload other h = label_holds_fits a linked held mark (unwrapped held.flow payload) h

  ends_fits : (a : Acted) (taker : Taker) (cells : List Cell) → ((linked : Linked) → taker ≡ ForDefault linked → ⊥) → Fits a → Fits (ends_frame a taker cells)
  ends_fits a taker [] other h = h
  ends_fits a taker (cell ∷ cells) other h = by_payload (tested a.notes (cell ∷ cells)).payload
    where
      c : Acted
      c = record a { notes = (tested a.notes (cell ∷ cells)).notes }

      by_payload : (o : Option (List ℕ)) → Fits (opened_frame c taker (last_mark (cell ∷ cells)) o)
      by_payload None = noted_fits a c refl h
      by_payload (Some payload) = frame_holds_fits c taker (last_mark (cell ∷ cells)) payload other (noted_fits a c refl h)

  takes_fits : (a : Acted) (cell : Cell) (taker : Taker) → NotSet a port label (CellComes cell) → taker_of a.controller cell.header.channel ≡ Some taker → Fits a → Fits (takes_cell a cell (Some taker))
  takes_fits a cell ForGsmp unset is h = (let t : Taken = taken a.notes (nat_lt 0 (free_slots a.controller)) a.controller.reassembly cell in
      ends_fits (with_reassembly (record a { notes = t.notes }) ForGsmp t.reassembly) ForGsmp t.ended (λ linked e. absurd (cc e)) (record { ports = h.ports; queue = h.queue }))
  takes_fits a cell (ForDefault linked) unset is h = default_fits a cell linked unset is h
  takes_fits a cell (ForLabel linked held) unset is h =
      let t : Taken = taken a.notes (nat_lt 0 (free_slots a.controller)) (reassembly_of a.controller (ForLabel linked held)) cell in
      ends_fits (with_reassembly (record a { notes = t.notes }) (ForLabel linked held) t.reassembly) (ForLabel linked held) t.ended (λ other e. absurd (cc e))
      (placed_fits K Q kept (record a { notes = t.notes }) (record linked { chains = chains_with linked.chains held.number t.reassembly })
      (found_fits K Q kept a (port_on cell.header.channel) linked (taker_belongs a.controller cell.header.channel (ForLabel linked held) is) h) (noted_fits a (record a { notes = t.notes }) refl h))

  pub cell_comes_fits : (a : Acted) (cell : Cell) → NotSet a port label (CellComes cell) → Fits a → Fits (cell_comes a cell)
  cell_comes_fits a cell unset h = by_taker (taker_of a.controller cell.header.channel) refl
    where
      by_taker : (o : Option Taker) → taker_of a.controller cell.header.channel ≡ o → Fits (takes_cell a cell o)
      by_taker None is = noted_fits a (takes_cell a cell None) refl h
      by_taker (Some taker) is = takes_fits a cell taker unset is h

  -- *Packets that enter*
  pub enters_fits : (a : Acted) (number : ℕ) (octets : List ℕ) → Fits a → Fits (enters_unless a number octets (inject_refusal octets))
  enters_fits a number octets h = by_refusal (inject_refusal octets)
    where
      by_refusal : (o : Option Refusal) → Fits (enters_unless a number octets o)
      by_refusal None = routes_fits a (record { packet = number; frame = 0 }) octets h
      by_refusal (Some refusal) = h

  -- *Tick*
  pub sends_again_fits : (a : Acted) → Fits a → Fits (sends_again a)
  sends_again_fits a h = on_both Fits (is_estab a.controller.adjacency.state) (fold sends_request a (sent_again a.controller.desk)) a (fold_fits K Q kept sends_request (sends_request_fits K Q kept) (sent_again a.controller.desk) a h) h

  pub ticks_port_fits : (a : Acted) (q : PortNo) → Fits a → Fits (ticks_port a q)
  ticks_port_fits a q h = at_port_fits K Q kept a q port_ticks.ticks (λ x found k. ticks_all port.0 label G fate x.setup.port.0 x.setup a.controller.desk (begins a x) k) h

  ticks_on_fits : (a : Acted) (step : sides.Step Party) → Fits a → Fits (tries_joins (ticks_ports (sends_again (steps a step))))
  ticks_on_fits a step h = (let again_sent : Acted = sends_again (steps a step) in
      tries_joins_fits port.0 label G Q fate control (ticks_ports again_sent) (fold_fits K Q kept ticks_port ticks_port_fits (ports_of again_sent.controller) again_sent (sends_again_fits (steps a step) (steps_fits a step h))))

  ticks_by_fits : (a : Acted) (step : sides.Step Party) (answer : Answer (Said Party) Party) → Fits a → Fits (ticks_by a step answer)
  ticks_by_fits a step Quiet h = ticks_on_fits a step h
  ticks_by_fits a step (Send message) h = ticks_on_fits a step h
  ticks_by_fits a step (Open message own) h = ticks_on_fits a step h
  ticks_by_fits a step Reset h = node_fits K Q kept a h

  pub ticks_fits : (a : Acted) → Fits a → Fits (ticks a)
  ticks_fits a h = ticks_by_fits a (ticked a.controller.adjacency) (ticked a.controller.adjacency).answer h

  -- *Restart*
  cut_default_fits : (a : Acted) (o : Option Linked) → ((linked : Linked) → o ≡ Some linked → K linked.setup linked.port) → Fits a → Fits (cuts_default_of a o)
  cut_default_fits a None there h = h
  cut_default_fits a (Some linked) there h = placed_fits K Q kept (record a { notes = cut a.notes linked.reassembly }) (record linked { reassembly = nothing_taken }) (there linked refl) (noted_fits a (record a { notes = cut a.notes linked.reassembly }) refl h)

  pub restarts_fits : (a : Acted) → Fits a → Fits (node_restarts a)
  restarts_fits a h = (let fresh : Acted = node_resets a in let k : Fits fresh = node_fits K Q kept a h in
      fold_fits K Q kept cuts_default (λ b q l. cut_default_fits b (linked_at b.controller q) (λ linked found. found_fits K Q kept b q linked found l) l) (ports_of a.controller) (cuts_gsmp fresh) (record { ports = k.ports; queue = k.queue }))

  pub changes_fits : (a : Acted) (change : RouteChange) → Fits a → Fits (change_comes a change)
  changes_fits a change h = change_comes_fits port.0 label G Q fate control a change h
