-- frames are made and numbers given out by what a controller does

use Rattle.std.proofs.Common.{◌≡◌, ◌≢◌, ℕ, ◌≤◌, true, List, [], ◌∷◌, ◌++◌, length, Option, None, Some, refl, sym, subst, arith, fold, flat_map}
use Rattle.std.specs.Prelude.{nat_le}
use Rattle.law_input_premises.specs.world_model.Words.{Channel, End, PortNo, Mark, Greeting, Party, number_of_channel, GivenOut, Answer, Quiet, Send, Open, Said, gsmp_answer, is_estab, ticked, hop_of, onward, RouteChange, Hop, Here, On, kind_of, default_payload, labelled_payload, MoveBranch, Frame, Loss, PoolFull, payload_of, noted, frame_cells, made, next_mark, empty_desk, sent_again, Setup, home_of, control_end, Label, Grant, Work, Controller, Linked, linked_at, with_desk, default_channel, default_home, sends_control, says_gsmp, sends_request, begins, cuts_default_of, cuts_default, cuts_gsmp, node_resets, node_restarts, Rule, at_port, is_control, sends_next, goes_by, grant_by, forwards_packet, join_for, may_join, enters_grant, enters_label, joins, tries_label, label_on, tries_join, inputs_at, tries_joins, meets, changed_joins, takes_join_back, begins_change, takes_change, may_take, takes_each, takes_changes, change_comes, sends_again, ticks_port, ticks_ports, ticks_by}
use Rattle.law_input_premises.specs.world_model.adjacency_table.declared.message.Answer.TheVariants.{Reset}
use Rattle.law_input_premises.specs.world_model.adjacency_table.Side as sides
use Rattle.law_input_premises.specs.world_model.ipv4_forward.declared.outcome.Hop.TheVariants.{NoRoute, Expired}
use Rattle.law_input_premises.specs.world_model.gsmp_wire.Layout.{octets_of as gsmp_octets}
use Rattle.law_input_premises.specs.world_model.gsmp_wire.declared.message.Message.TheVariants as messages
use Rattle.law_input_premises.specs.world_model.gsmp_wire.declared.request.Request.TheVariants.{AllPorts}
use Rattle.law_input_premises.specs.world_model.frame_model.Sending.{Sender}
use Rattle.law_input_premises.specs.world_model.port_model.Desk.{message_at}
use Rattle.law_input_premises.specs.world_model.port_model.Joins as port_joins
use Rattle.law_input_premises.specs.world_model.port_model.Ticks as port_ticks
use Rattle.law_input_premises.proofs.law_port_facts.Hearings.{ticks_goes}
use Rattle.law_input_premises.proofs.law_port_facts.Instances.{joined_gave, lent_gave}
use Rattle.law_input_premises.proofs.law_port_facts.Keyed.{on_both, on_each}
use Rattle.law_input_premises.proofs.law_port_facts.Steps.{Goes}
use Rattle.law_input_premises.specs.world_model.Controller.{Acted, free_slots, ports_of}
use Rattle.law_input_premises.specs.world_model.Sending.{with_cells, sends}
use Rattle.law_input_premises.specs.world_model.Packets.{forwarded}
use Rattle.law_input_premises.specs.world_model.Joins.{Join, output_joined}
use Rattle.law_input_premises.specs.world_model.Gsmp.{answers, steps}
use Rattle.law_input_premises.specs.world_model.Ticks.{ticks}
use Rattle.law_input_premises.proofs.law_controller_facts.Moves.{by_rule}
use Rattle.law_input_premises.proofs.law_controller_facts.Numbers.{worked_draws}
use Rattle.law_input_premises.specs.law_shown_cells.Seen.{IsUnmade, Extends}
use Rattle.law_input_premises.proofs.law_shown_cells.Made.{extends_self, extends_made, unmade_packet}
use Rattle.law_world_views.specs.law_controller_views.Ends.{Grows}
use Rattle.law_world_views.specs.law_controller_views.Lifted.{Growing}
use Rattle.law_world_views.proofs.law_controller_views.Growing.{grow_self, grow_on, grow_fold, sends_grow, node_resets_grow, asks_grow, at_port_grow, takes_back_grow}
use Rattle.law_input_premises.proofs.law_input_steps.Resets.{IsStill, note_still}
use Rattle.law_input_premises.proofs.law_shown_cells.Tested.{cut_frames}
use Rattle.law_input_events.specs.Coming.{IsNext}
use Rattle.law_input_events.proofs.Cells.{IsKept}

-- *Nothing is made*
same_extends : (old new : List Frame) → new ≡ old → Extends old new
same_extends old new same = subst (Extends old) (sym same) (extends_self old)

pub still_grows : (a b : Acted) → IsStill a b → Growing a b
still_grows a b s u = record {
  extends = same_extends a.notes.frames b.notes.frames s.frames;
  instances = s.instances;
  unmade = λ v. subst (λ (n : ℕ). IsUnmade n b.notes.frames) (sym s.controls) (subst (λ (frames : List Frame). IsUnmade a.numbers.controls frames) (sym s.frames) v);
}

-- and where a controller changes alone
pub changed : (a b : Acted) → b.notes.frames ≡ a.notes.frames → b.numbers ≡ a.numbers → Growing a b
changed a b frames numbers u = record {
  extends = same_extends a.notes.frames b.notes.frames frames;
  instances = subst (λ (n : GivenOut). a.numbers.instances ≤ n.instances) (sym numbers) (omega arith);
  unmade = λ v. subst (λ (n : GivenOut). IsUnmade n.controls b.notes.frames) (sym numbers) (subst (λ (f : List Frame). IsUnmade a.numbers.controls f) (sym frames) v);
}

-- *A packet's frame* is the first under its mark
packet_grows : (a : Acted) (channel : Channel) (mark : Mark) (payload : List ℕ) → mark.packet ≢ 0 → payload_of a.notes.frames mark ≡ None → Growing a (sends a channel mark payload)
packet_grows a channel mark payload packet free u = on_both (λ (s : Sender Controller). Grows a (record a { controller = s.queues; notes = s.notes })) (nat_le (length (frame_cells channel mark payload)) (free_slots a.controller))
    (record { queues = with_cells a.controller (frame_cells channel mark payload); notes = made a.notes mark payload })
    (record { queues = a.controller; notes = noted (made a.notes mark payload) (Loss mark PoolFull) })
    (record { extends = extends_made a.notes.frames mark payload free; instances = omega arith; unmade = λ v. unmade_packet a.numbers.controls mark.packet mark.frame a.notes.frames payload packet v })
    (record { extends = extends_made a.notes.frames mark payload free; instances = omega arith; unmade = λ v. unmade_packet a.numbers.controls mark.packet mark.frame a.notes.frames payload packet v })

next_grows : (a : Acted) (came : Mark) (channel : Channel) (payload : List ℕ) → IsNext a.notes.frames came → Growing a (sends_next a came channel payload)
next_grows a came channel payload next = on_each (Growing a) (is_control came) (sends_control a channel payload) (sends a channel (next_mark came) payload)
    (λ t. sends_grow a channel payload) (λ other. packet_grows a channel (next_mark came) payload (next other).0 (next other).1)

goes_grows : (a : Acted) (came : Mark) (port : PortNo) (packet : List ℕ) (o : Option Grant) → IsNext a.notes.frames came → Growing a (goes_by a came port packet o)
goes_grows a came port packet None next = next_grows a came (default_home port).channel (default_payload packet) next
goes_grows a came port packet (Some grant) next = next_grows a came (control_end port grant.label).channel (labelled_payload (kind_of grant.flow) packet) next

forwarded_grows : (a : Acted) (came : Mark) (packet : List ℕ) (hop : Hop) → IsNext a.notes.frames came → Growing a (forwarded a came packet hop)
forwarded_grows a came packet Here next = still_grows a (forwarded a came packet Here) (note_still a _)
forwarded_grows a came packet NoRoute next = still_grows a (forwarded a came packet NoRoute) (note_still a _)
forwarded_grows a came packet Expired next = still_grows a (forwarded a came packet Expired) (note_still a _)
forwarded_grows a came packet (On port) next = goes_grows a came port (onward packet) (grant_by a.controller port (onward packet)) next

pub routes_grow : (a : Acted) (came : Mark) (packet : List ℕ) → IsNext a.notes.frames came → Growing a (forwards_packet a came packet)
routes_grow a came packet next = forwarded_grows a came packet (hop_of a.controller.table packet) next

-- *A rule of a port*
pub rule_grows : (setups : List Setup) (a : Acted) (port : PortNo) (rule : Rule)
    → ((linked : Linked) → linked_at a.controller port ≡ Some linked → Goes linked.setup a.controller.desk (begins a linked) (rule linked.setup a.controller.desk (begins a linked)))
    → Growing a (at_port a port rule)
rule_grows setups a port rule goes = at_port_grow a port rule
    (λ linked found. (let w : Work = rule linked.setup a.controller.desk (begins a linked) in (worked_draws setups linked.setup a.controller.desk (begins a linked) w (by_rule w (goes linked found))).0))

-- *Asking and joining*
same_number : (m n : ℕ) → n ≡ m → m ≤ n
same_number m n e = omega (arith, e)

joins_grow : (a : Acted) (o : Option Join) → Growing a (joins a o)
joins_grow a None = grow_self a
joins_grow a (Some join) =
    let b : Acted = enters_grant a join in
    let c : Acted = enters_label b join in
    grow_on a b (joins a (Some join)) (at_port_grow a join.port (λ setup desk w. port_joins.lent w join.grant join.input)
    (λ linked found. same_number a.numbers.instances (port_joins.lent (begins a linked) join.grant join.input).instances (lent_gave a.numbers.instances (begins a linked) join.grant join.input refl)))
    (grow_on b c (joins a (Some join)) (at_port_grow b join.input.port (λ setup desk w. port_joins.joined w (number_of_channel join.input.channel) (output_joined join))
    (λ linked found. same_number b.numbers.instances (port_joins.joined (begins b linked) (number_of_channel join.input.channel) (output_joined join)).instances (joined_gave b.numbers.instances (begins b linked) (number_of_channel join.input.channel) (output_joined join) refl)))
    (asks_grow c (MoveBranch join.input (home_of join.input) (output_joined join))))

tries_grow : (a : Acted) (input : End) (o : Option Label) → Growing a (tries_label a input o)
tries_grow a input None = grow_self a
tries_grow a input (Some label) = on_both (Growing a) (may_join a.controller input label) (joins a (join_for a.controller input label.flow)) a (joins_grow a (join_for a.controller input label.flow)) (grow_self a)

-- *The adjacency with the switch*
meets_grow : (a : Acted) → Growing a (meets a)
meets_grow a = (let b : Acted = with_desk a empty_desk in grow_on a b (meets a) (changed a b refl refl) (asks_grow b AllPorts))

answers_grow : (a : Acted) (answer : Answer Greeting Party) → Growing a (answers a answer)
answers_grow a Quiet = grow_self a
answers_grow a (Send greeting) = sends_grow a default_channel (gsmp_octets (messages.Adjacency greeting))
answers_grow a (Open None own) = meets_grow a
answers_grow a (Open (Some greeting) own) = (let b : Acted = says_gsmp a (messages.Adjacency greeting) in
    grow_on a b (meets b) (sends_grow a default_channel (gsmp_octets (messages.Adjacency greeting))) (meets_grow b))
answers_grow a Reset = node_resets_grow a

pub steps_grow : (a : Acted) (step : sides.Step Party) → Growing a (steps a step)
steps_grow a step = (let b : Acted = record a { controller = record a.controller { adjacency = step.side } } in grow_on a b (steps a step) (changed a b refl refl) (answers_grow b (gsmp_answer step.answer)))

-- *Ticks*
again_grows : (a : Acted) → Growing a (sends_again a)
again_grows a = on_both (Growing a) (is_estab a.controller.adjacency.state) (fold sends_request a (sent_again a.controller.desk)) a
    (grow_fold sends_request (λ b s. sends_grow b default_channel (gsmp_octets (message_at b.controller.desk s))) (sent_again a.controller.desk) a) (grow_self a)

port_grows : (setups : List Setup) (a : Acted) (port : PortNo) → Growing a (ticks_port a port)
port_grows setups a port = rule_grows setups a port port_ticks.ticks (λ linked found. ticks_goes linked.setup a.controller.desk (begins a linked) refl)

on_grows : (setups : List Setup) (a : Acted) (step : sides.Step Party) → Growing a (tries_joins (ticks_ports (sends_again (steps a step))))
on_grows setups a step =
    let b : Acted = steps a step in
    let c : Acted = sends_again b in
    let d : Acted = ticks_ports c in
    grow_on a b (tries_joins d) (steps_grow a step) (grow_on b c (tries_joins d) (again_grows b) (grow_on c d (tries_joins d) (grow_fold ticks_port (port_grows setups) (ports_of c.controller) c)
    (grow_fold tries_join (λ e i. tries_grow e i (label_on e.controller i)) (flat_map inputs_at d.controller.ports) d)))

by_answer : (setups : List Setup) (a : Acted) (step : sides.Step Party) (answer : Answer (Said Party) Party) → Growing a (ticks_by a step answer)
by_answer setups a step Quiet = on_grows setups a step
by_answer setups a step (Send message) = on_grows setups a step
by_answer setups a step (Open message own) = on_grows setups a step
by_answer setups a step Reset = node_resets_grow a

pub ticks_grow : (setups : List Setup) (a : Acted) → Growing a (ticks a)
ticks_grow setups a = by_answer setups a (ticked a.controller.adjacency) (ticked a.controller.adjacency).answer

-- *A restart*
default_still : (a : Acted) (o : Option Linked) → IsStill a (cuts_default_of a o)
default_still a None = record { adjacency = refl; desk = refl; met = refl; gathered = refl; queue = refl; frames = refl; controls = refl; instances = omega arith }
default_still a (Some linked) = record { adjacency = refl; desk = refl; met = refl; gathered = refl; queue = refl; frames = cut_frames a.notes linked.reassembly; controls = refl; instances = omega arith }

cut_grows : (a : Acted) → Growing a (cuts_gsmp a)
cut_grows a u = record {
  extends = same_extends a.notes.frames (cuts_gsmp a).notes.frames (cut_frames a.notes a.controller.reassembly);
  instances = omega arith;
  unmade = λ v. subst (λ (frames : List Frame). IsUnmade a.numbers.controls frames) (sym (cut_frames a.notes a.controller.reassembly)) v;
}

pub restarts_grow : (a : Acted) → Growing a (node_restarts a)
restarts_grow a =
    let b : Acted = node_resets a in
    grow_on a b (node_restarts a) (node_resets_grow a) (grow_on b (cuts_gsmp b) (node_restarts a) (cut_grows b)
    (grow_fold cuts_default (λ c port. still_grows c (cuts_default c port) (default_still c (linked_at c.controller port))) (ports_of a.controller) (cuts_gsmp b)))

-- *Changes of routes*
begins_grow : (a : Acted) (change : RouteChange) → Growing a (begins_change a change)
begins_grow a change = (let b : Acted = record a { controller = record a.controller { is_begun = true } } in
    on_both (Growing a) a.controller.is_begun a (fold takes_join_back b (changed_joins a.controller change)) (grow_self a)
    (grow_on a b (fold takes_join_back b (changed_joins a.controller change)) (changed a b refl refl)
    (grow_fold takes_join_back (λ c join. takes_back_grow c join.input (output_joined join)) (changed_joins a.controller change) b)))

each_grow : (changes : List RouteChange) (a : Acted) → Growing a (takes_each a changes)
each_grow [] a = grow_self a
each_grow (change ∷ later) a =
    let b : Acted = begins_change a change in
    let c : Acted = takes_change b change later in
    on_both (Growing a) (may_take b.controller change) (takes_each c later) b
    (grow_on a b (takes_each c later) (begins_grow a change) (grow_on b c (takes_each c later) (changed b c refl refl) (each_grow later c))) (begins_grow a change)

pub takes_changes_grow : (a : Acted) → Growing a (takes_changes a)
takes_changes_grow a = on_both (Growing a) a.controller.has_met (takes_each a a.controller.waiting) a (each_grow a.controller.waiting a) (grow_self a)

pub change_grows : (a : Acted) (change : RouteChange) → Growing a (change_comes a change)
change_grows a change = (let b : Acted = record a { controller = record a.controller { waiting = a.controller.waiting ++ change ∷ [] } } in grow_on a b (change_comes a change) (changed a b refl refl) (takes_changes_grow b))

-- *A cell*, as far as a controller is whole
pub growing_kept : (setups : List Setup) → IsKept setups Growing
growing_kept setups = record {
  self = grow_self;
  on = grow_on;
  still = still_grows;
  ruled = λ a port rule goes reads h. rule_grows setups a port rule goes;
  routed = λ a mark packet by_links next. routes_grow a mark packet next;
}
