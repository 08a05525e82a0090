-- what a controller does leaves the records of its switch's ports, but where the switch is met and answers All Ports

use Rattle.std.proofs.Common.{◌≡◌, true, ℕ, List, [], ◌∷◌, length, Option, None, Some, refl, ◌∙◌, ap, if◌then◌else◌, fold, flat_map}
use Rattle.std.specs.Prelude.{◌==◌, nat_le}
use Rattle.law_controller.specs.world_model.Words.{PortNo, Channel, End, Mark, next_control, with_control, number_of_channel, is_estab, Request, AddBranch, MoveBranch, DeleteTree, VerifyTree, PortManagement, ifmp_packet_of, RouteChange, default_payload, Loss, Part, PoolFull, noted, frame_cells, made, Desk, is_led_home, last_transaction, sent_again, Action, Say, Ask, Note, CutChain, TakeBack, Withdraw, home_of, Work, resets, halts_if_spent, Controller, Linked, linked_at, with_linked, with_desk, default_channel, default_end, default_home, sends_control, sends_request, asks_next, asks, takes_back, begins, with_work, cuts_of, resets_gsmp, port_restarts, node_resets, does, does_in_estab, resets_of, performs, performs_in_estab, Rule, works, at_port, join_of, join_for, may_join, parts, releases_join, releases_input, released_inputs, resets_spent, releases, enters_grant, enters_label, joins, tries_label, label_on, tries_join, tells_port, up_ports, default_branches, ends_meeting, has_emptied, behind_delete_all, causes_in_estab, causes, may_clear, clears_of, clears_port, clears, changed_joins, takes_join_back, begins_change, sends_again, ticks_port, Label}
use Rattle.law_controller.specs.world_model.gsmp_wire.declared.request.Request.TheVariants.{DeleteAll, AllPorts}
use Rattle.law_controller.specs.world_model.gsmp_wire.Layout.{octets_of as gsmp_octets}
use Rattle.law_controller.specs.world_model.ifmp_wire.Message.{octets_of as ifmp_octets}
use Rattle.law_controller.specs.world_model.frame_model.Sending.{Sender}
use Rattle.law_controller.specs.world_model.port_model.Desk.{asked, message_at}
use Rattle.law_controller.specs.world_model.port_model.declared.action.Action.TheVariants as actions
use Rattle.law_controller.specs.world_model.port_model.Resets.{cleared}
use Rattle.law_controller.specs.world_model.port_model.Joins as port_joins
use Rattle.law_controller.specs.world_model.port_model.Answers as port_answers
use Rattle.law_controller.proofs.law_port_facts.Keyed.{on_both}
use Rattle.law_controller.specs.world_model.Controller.{Acted, ports_of, note, free_slots}
use Rattle.law_controller.specs.world_model.Sending.{with_cells, sends}
use Rattle.law_controller.specs.world_model.Joins.{Join, output_joined}
use Rattle.law_controller.specs.world_model.Meeting.{request_port}
use Rattle.law_controller.specs.world_model.port_model.Ticks as port_ticks
use Rattle.law_input_steps.proofs.Resets.{still_fold, restarts_still}

abbrev pub KeepsRows : Acted → Acted → Type 0
KeepsRows a b = b.controller.desk.rows ≡ a.controller.desk.rows

pub fold_rows : {A : Type 0} (f : Acted → A → Acted) → ((a : Acted) (x : A) → KeepsRows a (f a x)) → (xs : List A) (a : Acted) → KeepsRows a (fold f a xs)
fold_rows f each [] a = refl
fold_rows f each (x ∷ xs) a = fold_rows f each xs (f a x) ∙ each a x

pub sends_rows : (a : Acted) (channel : Channel) (mark : Mark) (payload : List ℕ) → KeepsRows a (sends a channel mark payload)
sends_rows a channel mark payload = on_both (λ (s : Sender Controller). s.queues.desk.rows ≡ a.controller.desk.rows) (nat_le (length (frame_cells channel mark payload)) (free_slots a.controller))
    (record { queues = with_cells a.controller (frame_cells channel mark payload); notes = made a.notes mark payload })
    (record { queues = a.controller; notes = noted (made a.notes mark payload) (Loss mark PoolFull) }) refl refl

pub sends_control_rows : (a : Acted) (channel : Channel) (payload : List ℕ) → KeepsRows a (sends_control a channel payload)
sends_control_rows a channel payload = sends_rows (record a { numbers = with_control a.numbers }) channel (next_control a.numbers) payload

pub node_rows : (a : Acted) → KeepsRows a (node_resets a)
node_rows a = ap (λ (d : Desk). d.rows) (still_fold port_restarts (λ b port. restarts_still b (linked_at b.controller port)) (ports_of a.controller) (resets_gsmp a)).desk

next_rows : (a : Acted) (request : Request) → KeepsRows a (asks_next a request)
next_rows a request = sends_control_rows (with_desk a (asked a.controller.desk request)) default_channel (gsmp_octets (message_at (asked a.controller.desk request) (record { number = a.controller.desk.next; request = request })))

pub asks_rows : (a : Acted) (request : Request) → KeepsRows a (asks a request)
asks_rows a request = on_both (KeepsRows a) (is_estab a.controller.adjacency.state) (if a.controller.desk.next == last_transaction then node_resets a else asks_next a request) a
    (on_both (KeepsRows a) (a.controller.desk.next == last_transaction) (node_resets a) (asks_next a request) (node_rows a) (next_rows a request)) refl

pub takes_back_rows : (a : Acted) (input output : End) → KeepsRows a (takes_back a input output)
takes_back_rows a input output = on_both (KeepsRows a) (is_led_home a.controller.desk input (home_of input)) a (asks a (MoveBranch input output (home_of input))) refl (asks_rows a (MoveBranch input output (home_of input)))

-- *A port at work*
cuts_rows : (a : Acted) (label : ℕ) (o : Option Linked) → KeepsRows a (cuts_of a label o)
cuts_rows a label None = refl
cuts_rows a label (Some linked) = refl

does_rows : (port : PortNo) (a : Acted) (x : Action) → KeepsRows a (does port a x)
does_rows port a (Say message) = sends_control_rows a (default_home port).channel (default_payload (ifmp_packet_of a.controller.address (ifmp_octets message)))
does_rows port a (Ask request needed) = asks_rows a request
does_rows port a (Note item) = refl
does_rows port a (CutChain label) = cuts_rows a label (linked_at a.controller port)
does_rows port a (TakeBack input output) = takes_back_rows a input output
does_rows port a (Withdraw input) = refl
does_rows port a actions.Reset = refl

pub in_estab_rows : (port : PortNo) (a : Acted) (x : Action) → KeepsRows a (does_in_estab port a x)
in_estab_rows port a x = on_both (KeepsRows a) (is_estab a.controller.adjacency.state) (does port a x) a (does_rows port a x) refl

resets_of_rows : (a : Acted) (o : Option Linked) → KeepsRows a (resets_of a o)
resets_of_rows a None = refl
resets_of_rows a (Some linked) = (let w : Work = resets linked.setup (begins a linked) in fold_rows (does_in_estab linked.setup.port) (in_estab_rows linked.setup.port) w.actions (with_work a linked w))

performs_rows : (port : PortNo) (a : Acted) (x : Action) → KeepsRows a (performs port a x)
performs_rows port a (Say message) = does_rows port a (Say message)
performs_rows port a (Ask request needed) = does_rows port a (Ask request needed)
performs_rows port a (Note item) = refl
performs_rows port a (CutChain label) = does_rows port a (CutChain label)
performs_rows port a (TakeBack input output) = does_rows port a (TakeBack input output)
performs_rows port a (Withdraw input) = refl
performs_rows port a actions.Reset = resets_of_rows a (linked_at a.controller port)

performs_in_rows : (port : PortNo) (a : Acted) (x : Action) → KeepsRows a (performs_in_estab port a x)
performs_in_rows port a x = on_both (KeepsRows a) (is_estab a.controller.adjacency.state) (performs port a x) a (performs_rows port a x) refl

works_rows : (a : Acted) (rule : Rule) (o : Option Linked) → KeepsRows a (works a rule o)
works_rows a rule None = refl
works_rows a rule (Some linked) =
    let w : Work = rule linked.setup a.controller.desk (begins a linked) in
    fold_rows (performs_in_estab linked.setup.port) (performs_in_rows linked.setup.port) w.actions (with_work a linked w)

pub at_port_rows : (a : Acted) (port : PortNo) (rule : Rule) → KeepsRows a (at_port a port rule)
at_port_rows a port rule = works_rows a rule (linked_at a.controller port)

-- *Joins and releases*
pub parts_rows : (a : Acted) (input : End) → KeepsRows a (parts a input)
parts_rows a input = at_port_rows (note a (Part a.controller.node input.port (number_of_channel input.channel))) input.port (λ setup desk w. port_joins.parted w (number_of_channel input.channel))

releases_join_rows : (a : Acted) (o : Option Join) → KeepsRows a (releases_join a o)
releases_join_rows a None = refl
releases_join_rows a (Some join) = at_port_rows (parts a join.input) join.port (λ setup desk w. port_joins.given_back w join.grant) ∙ parts_rows a join.input

pub releases_input_rows : (a : Acted) (input : End) → KeepsRows a (releases_input a input)
releases_input_rows a input = releases_join_rows a (join_of a.controller input)

pub spent_rows : (a : Acted) (port : PortNo) → KeepsRows a (resets_spent a port)
spent_rows a port = at_port_rows a port (λ setup desk w. halts_if_spent w)

pub releases_rows : (a : Acted) (request : Request) → KeepsRows a (releases a request)
releases_rows a request =
    let released : Acted = fold releases_input a (released_inputs a.controller request) in
    fold_rows resets_spent spent_rows (ports_of released.controller) released ∙ fold_rows releases_input releases_input_rows (released_inputs a.controller request) a

joins_rows : (a : Acted) (o : Option Join) → KeepsRows a (joins a o)
joins_rows a None = refl
joins_rows a (Some join) = asks_rows (enters_label (enters_grant a join) join) (MoveBranch join.input (home_of join.input) (output_joined join))
    ∙ (at_port_rows (enters_grant a join) join.input.port (λ setup desk w. port_joins.joined w (number_of_channel join.input.channel) (output_joined join))
    ∙ at_port_rows a join.port (λ setup desk w. port_joins.lent w join.grant join.input))

tries_label_rows : (a : Acted) (input : End) (o : Option Label) → KeepsRows a (tries_label a input o)
tries_label_rows a input None = refl
tries_label_rows a input (Some label) = on_both (KeepsRows a) (may_join a.controller input label) (joins a (join_for a.controller input label.flow)) a (joins_rows a (join_for a.controller input label.flow)) refl

pub tries_join_rows : (a : Acted) (input : End) → KeepsRows a (tries_join a input)
tries_join_rows a input = tries_label_rows a input (label_on a.controller input)

-- *Ticks*
pub sends_again_rows : (a : Acted) → KeepsRows a (sends_again a)
sends_again_rows a = on_both (KeepsRows a) (is_estab a.controller.adjacency.state) (fold sends_request a (sent_again a.controller.desk)) a
    (fold_rows sends_request (λ b s. sends_control_rows b default_channel (gsmp_octets (message_at b.controller.desk s))) (sent_again a.controller.desk) a) refl

pub ticks_port_rows : (a : Acted) (port : PortNo) → KeepsRows a (ticks_port a port)
ticks_port_rows a port = at_port_rows a port port_ticks.ticks

-- *Changes of routes*
pub begins_change_rows : (a : Acted) (change : RouteChange) → KeepsRows a (begins_change a change)
begins_change_rows a change = on_both (KeepsRows a) a.controller.is_begun a (fold takes_join_back (record a { controller = record a.controller { is_begun = true } }) (changed_joins a.controller change)) refl
    (fold_rows takes_join_back (λ b join. takes_back_rows b join.input (output_joined join)) (changed_joins a.controller change) (record a { controller = record a.controller { is_begun = true } }))

-- *What an answer causes*
tells_port_rows : (a : Acted) (request : Request) (o : Option PortNo) → KeepsRows a (tells_port a request o)
tells_port_rows a request None = refl
tells_port_rows a request (Some port) = at_port_rows a port (λ setup desk w. port_answers.done setup w request)

ends_rows : (a : Acted) → KeepsRows a (ends_meeting a)
ends_rows a = fold_rows asks asks_rows (flat_map default_branches (up_ports a.controller)) (record a { controller = record a.controller { has_met = true } })

behind_rows : (a : Acted) (port : PortNo) → KeepsRows a (behind_delete_all a port)
behind_rows a port = on_both (KeepsRows a) a.controller.has_met (asks a (AddBranch (default_end port) (default_home port))) (if has_emptied a.controller then ends_meeting a else a)
    (asks_rows a (AddBranch (default_end port) (default_home port))) (on_both (KeepsRows a) (has_emptied a.controller) (ends_meeting a) a (ends_rows a) refl)

caused_rows : (a : Acted) (request : Request) → KeepsRows a (causes_in_estab a request)
caused_rows a (DeleteAll port) = behind_rows a port
caused_rows a (AddBranch input output) = tells_port_rows a (AddBranch input output) (request_port (AddBranch input output))
caused_rows a (MoveBranch input from to) = tells_port_rows a (MoveBranch input from to) (request_port (MoveBranch input from to))
caused_rows a (DeleteTree input) = tells_port_rows a (DeleteTree input) (request_port (DeleteTree input))
caused_rows a (VerifyTree input) = tells_port_rows a (VerifyTree input) (request_port (VerifyTree input))
caused_rows a (PortManagement port function) = tells_port_rows a (PortManagement port function) (request_port (PortManagement port function))
caused_rows a AllPorts = refl

pub causes_rows : (a : Acted) (request : Request) → KeepsRows a (causes a request)
causes_rows a request = on_both (KeepsRows a) (is_estab a.controller.adjacency.state) (causes_in_estab a request) a (caused_rows a request) refl

clears_of_rows : (a : Acted) (o : Option Linked) → KeepsRows a (clears_of a o)
clears_of_rows a None = refl
clears_of_rows a (Some linked) = on_both (KeepsRows a) (may_clear a.controller linked) (with_linked a (record linked { port = cleared linked.port })) a refl refl

pub clears_rows : (a : Acted) → KeepsRows a (clears a)
clears_rows a = fold_rows clears_port (λ b port. clears_of_rows b (linked_at b.controller port)) (ports_of a.controller) a
