-- each input keeps that the routes lead to ports of links

use Rattle.std.proofs.Common.{◌≡◌, ℕ, Bool, true, false, List, [], ◌∷◌, ◌++◌, Option, None, Some, Result, Ok, Err, refl, subst, if◌then◌else◌, drop, map, fold}
use Rattle.std.specs.Prelude.{◌==◌, not, nat_le, nat_lt, find}
use Rattle.std.specs.Option.{option_map}
use Rattle.law_controller.specs.world_model.Words.{PortNo, Channel, Mark, Addr, Network, Party, Answer, Said, greeting_of, gsmp_answer, gsmp_received, Step, is_estab, ticked, Cell, protocol_of, source_of, destination_of, ttl_of, PacketFault, is_same, has_prefix, is_best, best, renewed, changed_by, changed, hop_by, hop_of, onward, RouteChange, Hop, Here, On, Next, Local, Via, default_payload, labelled_payload, default_unwrapped, unwrapped, EncapsFault, kind_of, IsLinkPort, Tested, tested, last_mark, next_mark, Reassembly, Refusal, Answered, Unknown, Done, Ports, Failed, after_answer, answered, sent_again, control_end, Label, Grant, hears, counts, used, Linked, linked_at, with_desk, default_channel, default_home, sends_control, says_gsmp, sends_request, cuts_default_of, cuts_default, cuts_gsmp, node_resets, is_control, sends_next, goes_by, grant_by, forwards_packet, control_protocol, inject_refusal, causes, clears, takes_answer, answer_comes, releases, tries_joins, gsmp_holds, ForGsmp, ForDefault, ForLabel, reassembly_of, with_reassembly, label_holds, ifmp_holds, counted_at, packet_holds, default_holds, frame_holds, takes_cell, taker_of, sends_again, ticks_port, ticks_ports, ticks_by}
use Rattle.law_controller.specs.world_model.adjacency_table.declared.message.Answer.TheVariants as answers_of
use Rattle.law_controller.specs.world_model.ipv4_packet.Packet.{first_fault}
use Rattle.law_controller.specs.world_model.ipv4_forward.declared.outcome.Hop.TheVariants.{NoRoute, Expired}
use Rattle.law_controller.specs.world_model.ipv4_forward.declared.table.Route.{Route}
use Rattle.law_controller.specs.world_model.ifmp_wire.declared.message.Message.{Message as IfmpMessage}
use Rattle.law_controller.specs.world_model.ifmp_wire.declared.reader.Fault.{Fault as IfmpFault}
use Rattle.law_controller.specs.world_model.ifmp_wire.Fields.{decoded as ifmp_decoded}
use Rattle.law_controller.specs.world_model.gsmp_wire.Layout.{octets_of as gsmp_octets}
use Rattle.law_controller.specs.world_model.gsmp_wire.Fields.{decoded as gsmp_decoded}
use Rattle.law_controller.specs.world_model.gsmp_wire.declared.message.Message.{Message}
use Rattle.law_controller.specs.world_model.gsmp_wire.declared.message.Message.TheVariants as messages
use Rattle.law_controller.specs.world_model.gsmp_wire.declared.fault.Fault.{Fault as GsmpFault}
use Rattle.law_controller.specs.world_model.frame_model.Reassembly.{Taken, taken}
use Rattle.law_controller.specs.ordered_lists.Ordered.{Every}
use Rattle.law_controller.proofs.ordered_lists.Every.{every_map, every_mapped, every_join}
use Rattle.law_controller.specs.world_model.port_model.Ticks as port_ticks
use Rattle.law_controller.proofs.law_port_facts.Keyed.{on_both}
use Rattle.law_controller.proofs.law_port_facts.Found.{find_every}
use Rattle.law_controller.specs.world_model.Controller.{Acted, free_slots, ports_of}
use Rattle.law_controller.specs.world_model.Sending.{sends}
use Rattle.law_controller.specs.world_model.Packets.{forwarded}
use Rattle.law_controller.specs.world_model.Gsmp.{answers, steps, message_comes}
use Rattle.law_controller.specs.world_model.Cells.{Taker, opened_frame, ends_frame}
use Rattle.law_controller.specs.law_controller_facts.Inputs.{Input, CellComes, PacketEnters, Ticks, Restarts, ChangeComes, FrameIsForged, CellLeaves, Meanwhile, enters_unless, takes_input}
use Rattle.law_controller.proofs.law_controller_facts.Joining.{every_filter}
use Rattle.law_controller_conditions.specs.Routes.{LeadsToLink, IsLinkRoute, MayLead, IsLinkChange, IsLinkInput, RoutesLeadToLinks}
use Rattle.law_controller_conditions.proofs.Leaving.{Has, each, sent, sent_control, sent_request, node_reset, at_work, try_joins, meet, empty, answered_by, take_changes}

-- *A change* is taken
renews : (prefix : Network) (next : Next) (route : Route) → LeadsToLink next → IsLinkRoute route → IsLinkRoute (renewed prefix next route)
renews prefix next route to h = on_both IsLinkRoute (is_same route.prefix prefix) (record route { next = next }) route to h

changes_by : (table : List Route) (prefix : Network) (o : Option Next) → Every IsLinkRoute table → MayLead o → Every IsLinkRoute (changed_by table prefix o)
changes_by table prefix None h to = every_filter IsLinkRoute (λ (route : Route). not (is_same route.prefix prefix)) table h
changes_by table prefix (Some next) h to = on_both (Every IsLinkRoute) (has_prefix table prefix) (map (renewed prefix next) table) (table ++ record { prefix = prefix; next = next } ∷ [])
    (every_mapped (renewed prefix next) IsLinkRoute table (every_map IsLinkRoute (λ (route : Route). IsLinkRoute (renewed prefix next route)) table (λ route r. renews prefix next route to r) h))
    (every_join IsLinkRoute table (record { prefix = prefix; next = next } ∷ []) h (to, tt))

abbrev Table : List Route → Type 0
Table table = Every IsLinkRoute table

abbrev Keeps : Acted → Type 0
Keeps a = Has Table IsLinkChange a

changes_to : (table : List Route) (change : RouteChange) → Table table → IsLinkChange change → Table (changed table change)
changes_to table change h to = changes_by table change.prefix change.next h to

-- *Packets*
next_sent : (a : Acted) (came : Mark) (channel : Channel) (payload : List ℕ) → Keeps a → Keeps (sends_next a came channel payload)
next_sent a came channel payload h = on_both Keeps (is_control came) (sends_control a channel payload) (sends a channel (next_mark came) payload) (sent_control Table IsLinkChange a channel payload h) (sent Table IsLinkChange a channel (next_mark came) payload h)

sent_by : (a : Acted) (came : Mark) (port : PortNo) (packet : List ℕ) (o : Option Grant) → Keeps a → Keeps (goes_by a came port packet o)
sent_by a came port packet None h = next_sent a came (default_home port).channel (default_payload packet) h
sent_by a came port packet (Some grant) h = next_sent a came (control_end port grant.label).channel (labelled_payload (kind_of grant.flow) packet) h

forwards : (a : Acted) (came : Mark) (packet : List ℕ) (hop : Hop) → Keeps a → Keeps (forwarded a came packet hop)
forwards a came packet Here h = h
forwards a came packet NoRoute h = h
forwards a came packet Expired h = h
forwards a came packet (On port) h = sent_by a came port (onward packet) (grant_by a.controller port (onward packet)) h

routed : (a : Acted) (came : Mark) (packet : List ℕ) → Keeps a → Keeps (forwards_packet a came packet)
routed a came packet h = forwards a came packet (hop_of a.controller.table packet) h

-- *The switch*
said : (a : Acted) (message : Message) → Keeps a → Keeps (says_gsmp a message)
said a message h = sent_control Table IsLinkChange a default_channel (gsmp_octets message) h

answer_keeps : (a : Acted) (answer : Answer (Said Party) Party) → Keeps a → Keeps (answers a (gsmp_answer answer))
answer_keeps a answers_of.Quiet h = h
answer_keeps a (answers_of.Send message) h = said a (messages.Adjacency (greeting_of message)) h
answer_keeps a (answers_of.Open None own) h = meet Table IsLinkChange a h
answer_keeps a (answers_of.Open (Some message) own) h = meet Table IsLinkChange (says_gsmp a (messages.Adjacency (greeting_of message))) (said a (messages.Adjacency (greeting_of message)) h)
answer_keeps a answers_of.Reset h = node_reset Table IsLinkChange a h

step_keeps : (a : Acted) (step : Step Party) → Keeps a → Keeps (steps a step)
step_keeps a step h = answer_keeps (record a { controller = record a.controller { adjacency = step.side } }) step.answer h

takes : (a : Acted) (answer : Answered) → Keeps a → Keeps (takes_answer a answer)
takes a Unknown h = h
takes a (Done s) h = (let now : Acted = with_desk a (after_answer a.controller.desk (Done s)) in
    take_changes Table IsLinkChange changes_to (clears (causes (releases now s.request) s.request)) (answered_by Table IsLinkChange now s.request h))
takes a (Ports s rows) h = empty Table IsLinkChange (with_desk a (after_answer a.controller.desk (Ports s rows))) h
takes a (Failed s code) h = node_reset Table IsLinkChange (with_desk a (after_answer a.controller.desk (Failed s code))) h

comes : (a : Acted) (message : Message) → Keeps a → Keeps (answer_comes a message)
comes a message h = takes a (answered a.controller.desk message) h

is_told : (a : Acted) (message : Message) → Keeps a → Keeps (message_comes a message)
is_told a (messages.Adjacency greeting) h = step_keeps a (gsmp_received a.controller.adjacency greeting) h
is_told a (messages.Branch kind result code number session input_port input output_port output branches priority) h =
    comes a (messages.Branch kind result code number session input_port input output_port output branches priority) h
is_told a (messages.Move result code number session input_port input output_port output target_port target branches priority) h =
    comes a (messages.Move result code number session input_port input output_port output target_port target branches priority) h
is_told a (messages.Port result code number port session function) h = comes a (messages.Port result code number port session function) h
is_told a (messages.AllPorts result code number rows) h = comes a (messages.AllPorts result code number rows) h

-- *Frames*
gsmp_frame : (a : Acted) (r : Result Message GsmpFault) → Keeps a → Keeps (gsmp_holds a r)
gsmp_frame a (Ok message) h = is_told a message h
gsmp_frame a (Err fault) h = h

label_frame : (a : Acted) (linked : Linked) (label : Label) (mark : Mark) (r : Result (List ℕ) EncapsFault) → Keeps a → Keeps (label_holds a linked label mark r)
label_frame a linked label mark (Err fault) h = h
label_frame a linked label mark (Ok packet) h = at_work Table IsLinkChange (forwards_packet a mark packet) linked.setup.port (λ setup desk w. used w label.number) (routed a mark packet h)

ifmp_frame : (a : Acted) (port : PortNo) (packet : List ℕ) (r : Result IfmpMessage IfmpFault) → Keeps a → Keeps (ifmp_holds a port packet r)
ifmp_frame a port packet (Err fault) h = h
ifmp_frame a port packet (Ok message) h = at_work Table IsLinkChange a port (λ setup desk w. hears setup desk w (source_of packet) message) h

packet_frame : (a : Acted) (port : PortNo) (mark : Mark) (packet : List ℕ) (o : Option PacketFault) → Keeps a → Keeps (packet_holds a port mark packet o)
packet_frame a port mark packet (Some fault) h = h
packet_frame a port mark packet None h = on_both Keeps (protocol_of packet == control_protocol) (ifmp_holds a port packet (ifmp_decoded (drop 20 packet))) (counted_at (forwards_packet a mark packet) port packet)
    (ifmp_frame a port packet (ifmp_decoded (drop 20 packet)) h) (at_work Table IsLinkChange (forwards_packet a mark packet) port (λ setup desk w. counts setup desk w packet) (routed a mark packet h))

default_frame : (a : Acted) (port : PortNo) (mark : Mark) (r : Result (List ℕ) EncapsFault) → Keeps a → Keeps (default_holds a port mark r)
default_frame a port mark (Err fault) h = h
default_frame a port mark (Ok packet) h = packet_frame a port mark packet (first_fault packet) h

frame : (a : Acted) (taker : Taker) (mark : Mark) (payload : List ℕ) → Keeps a → Keeps (frame_holds a taker mark payload)
frame a ForGsmp mark payload h = gsmp_frame a (gsmp_decoded payload) h
frame a (ForDefault linked) mark payload h = default_frame a linked.setup.port mark (default_unwrapped payload) h
frame a (ForLabel linked label) mark payload h = label_frame a linked label mark (unwrapped label.flow payload) h

opened_one : (a : Acted) (taker : Taker) (mark : Mark) (o : Option (List ℕ)) → Keeps a → Keeps (opened_frame a taker mark o)
opened_one a taker mark None h = h
opened_one a taker mark (Some payload) h = frame a taker mark payload h

ended : (a : Acted) (taker : Taker) (cells : List Cell) → Keeps a → Keeps (ends_frame a taker cells)
ended a taker [] h = h
ended a taker (cell ∷ cells) h = (let test : Tested = tested a.notes (cell ∷ cells) in opened_one (record a { notes = test.notes }) taker (last_mark (cell ∷ cells)) test.payload h)

gathered : (a : Acted) (taker : Taker) (r : Reassembly) → Keeps a → Keeps (with_reassembly a taker r)
gathered a ForGsmp r h = h
gathered a (ForDefault linked) r h = h
gathered a (ForLabel linked label) r h = h

cell_taken : (a : Acted) (cell : Cell) (o : Option Taker) → Keeps a → Keeps (takes_cell a cell o)
cell_taken a cell None h = h
cell_taken a cell (Some taker) h = (let t : Taken = taken a.notes (nat_lt 0 (free_slots a.controller)) (reassembly_of a.controller taker) cell in
    ended (with_reassembly (record a { notes = t.notes }) taker t.reassembly) taker t.ended (gathered (record a { notes = t.notes }) taker t.reassembly h))

-- *Ticks*, and a restart
again : (a : Acted) → Keeps a → Keeps (sends_again a)
again a h = on_both Keeps (is_estab a.controller.adjacency.state) (fold sends_request a (sent_again a.controller.desk)) a (each Table IsLinkChange sends_request (sent_request Table IsLinkChange) (sent_again a.controller.desk) a h) h

ticks_on : (a : Acted) (step : Step Party) → Keeps a → Keeps (tries_joins (ticks_ports (sends_again (steps a step))))
ticks_on a step h = (let sent_now : Acted = sends_again (steps a step) in
    try_joins Table IsLinkChange (ticks_ports sent_now) (each Table IsLinkChange ticks_port (λ b port k. at_work Table IsLinkChange b port port_ticks.ticks k) (ports_of sent_now.controller) sent_now (again (steps a step) (step_keeps a step h))))

tick_by : (a : Acted) (step : Step Party) (answer : Answer (Said Party) Party) → Keeps a → Keeps (ticks_by a step answer)
tick_by a step answers_of.Quiet h = ticks_on a step h
tick_by a step (answers_of.Send message) h = ticks_on a step h
tick_by a step (answers_of.Open message own) h = ticks_on a step h
tick_by a step answers_of.Reset h = node_reset Table IsLinkChange a h

cut_default : (a : Acted) (o : Option Linked) → Keeps a → Keeps (cuts_default_of a o)
cut_default a None h = h
cut_default a (Some linked) h = h

-- *Each input*
enters : (a : Acted) (number : ℕ) (octets : List ℕ) (o : Option Refusal) → Keeps a → Keeps (enters_unless a number octets o)
enters a number octets (Some refusal) h = h
enters a number octets None h = routed a (record { packet = number; frame = 0 }) octets h

input_keeps : (a : Acted) (input : Input) → IsLinkInput input → Keeps a → Keeps (takes_input a input)
input_keeps a (CellComes cell) link h = cell_taken a cell (taker_of a.controller cell.header.channel) h
input_keeps a (PacketEnters number octets) link h = enters a number octets (inject_refusal octets) h
input_keeps a Ticks link h = tick_by a (ticked a.controller.adjacency) (ticked a.controller.adjacency).answer h
input_keeps a Restarts link h = each Table IsLinkChange cuts_default (λ b port k. cut_default b (linked_at b.controller port) k) (ports_of a.controller) (cuts_gsmp (node_resets a)) (node_reset Table IsLinkChange a h)
input_keeps a (ChangeComes change) link h = take_changes Table IsLinkChange changes_to (record a { controller = record a.controller { waiting = a.controller.waiting ++ change ∷ [] } })
    (h.0, every_join IsLinkChange a.controller.waiting (change ∷ []) h.1 (link, tt))
input_keeps a (FrameIsForged channel mark payload) link h = sent Table IsLinkChange a channel mark payload h
input_keeps a CellLeaves link h = h
input_keeps a (Meanwhile notes numbers) link h = h

-- *A packet goes on* by a link
best_leads : (table : List Route) (address : Addr) → Every IsLinkRoute table → MayLead (best table address)
best_leads table address h = by_found (find (is_best table address) table) refl
  where
    by_found : (o : Option Route) → find (is_best table address) table ≡ o → MayLead (option_map (λ (route : Route). route.next) o)
    by_found None found = tt
    by_found (Some route) found = find_every IsLinkRoute (is_best table address) table route h found

hop_leads : (ttl : ℕ) (o : Option Next) (port : PortNo) → MayLead o → hop_by ttl o ≡ On port → IsLinkPort port
hop_leads ttl None port h e = absurd (cc e)
hop_leads ttl (Some Local) port h e = absurd (cc e)
hop_leads ttl (Some (Via other)) port h e = by_ttl (nat_le ttl 1) e
  where
    same : (x y : PortNo) → On x ≡ On y → x ≡ y
    same x y e = cc

    by_ttl : (b : Bool) → (if b then Expired else On other) ≡ On port → IsLinkPort port
    by_ttl true e = absurd (cc e)
    by_ttl false e = subst IsLinkPort (same other port e) h

pub routes_lead_to_links : RoutesLeadToLinks
routes_lead_to_links = record {
  opens = λ o table. record { table = table; waiting = tt };
  keeps = λ a input link h. (let k : Keeps (takes_input a input) = input_keeps a input link (h.table, h.waiting) in record { table = k.0; waiting = k.1 });
  hops = λ c packet port h e. hop_leads (ttl_of packet) (best c.table (destination_of packet)) port (best_leads c.table (destination_of packet) h.table) e;
}
