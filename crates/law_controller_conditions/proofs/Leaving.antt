-- the table that is held, and the changes that wait, stay as they are by every rule but by changes of routes

use Rattle.std.proofs.Common.{ℕ, true, List, [], ◌∷◌, length, Option, None, Some, if◌then◌else◌, map, fold}
use Rattle.std.specs.Prelude.{◌==◌, nat_le, flat_map}
use Rattle.law_controller.specs.world_model.Words.{PortNo, Channel, End, Mark, number_of_channel, next_control, with_control, is_estab, ifmp_packet_of, changed, RouteChange, default_payload, Request, AddBranch, MoveBranch, DeleteTree, VerifyTree, PortManagement, Loss, Part, PoolFull, noted, frame_cells, made, Standing, empty_desk, is_led_home, last_transaction, Action, Say, Ask, Note, CutChain, TakeBack, Withdraw, home_of, Work, resets, restarts, halts_if_spent, Label, Controller, Linked, linked_at, with_linked, with_desk, default_channel, default_end, default_home, sends_control, sends_request, asks_next, asks, takes_back, begins, with_work, cuts_of, closes_by, port_restarts_of, port_restarts, resets_gsmp, node_resets, does, does_in_estab, resets_of, performs, performs_in_estab, Rule, works, at_port, join_of, parts, releases_join, releases_input, released_inputs, resets_spent, releases, enters_grant, enters_label, join_for, may_join, joins, tries_label, label_on, tries_join, inputs_at, tries_joins, meets, up_ports, empties, default_branches, ends_meeting, has_emptied, port_of_input, tells_port, behind_delete_all, causes_in_estab, causes, may_clear, clears_of, clears_port, clears, changed_joins, takes_join_back, begins_change, takes_change, may_take, takes_each, takes_changes}
use Rattle.law_controller.specs.world_model.ipv4_forward.declared.table.Route.{Route}
use Rattle.law_controller.specs.world_model.ifmp_wire.Message.{octets_of as ifmp_octets}
use Rattle.law_controller.specs.world_model.gsmp_wire.Layout.{octets_of as gsmp_octets}
use Rattle.law_controller.specs.world_model.gsmp_wire.declared.request.Request.TheVariants.{DeleteAll, AllPorts}
use Rattle.law_controller.specs.world_model.frame_model.Sending.{Sender}
use Rattle.law_controller.specs.ordered_lists.Ordered.{Every}
use Rattle.law_controller.specs.world_model.port_model.Desk.{asked, message_at}
use Rattle.law_controller.specs.world_model.port_model.declared.action.Action.TheVariants as actions
use Rattle.law_controller.specs.world_model.port_model.Resets.{cleared}
use Rattle.law_controller.specs.world_model.port_model.Joins as port_joins
use Rattle.law_controller.specs.world_model.port_model.Answers as port_answers
use Rattle.law_controller.proofs.law_port_facts.Keyed.{on_both}
use Rattle.law_controller.specs.world_model.Controller.{Acted, free_slots, ports_of, note}
use Rattle.law_controller.specs.world_model.Sending.{with_cells, sends}
use Rattle.law_controller.specs.world_model.Joins.{Join, output_joined}

module _ (T : List Route → Type 0) (Q : RouteChange → Type 0) where
  abbrev pub Has : Acted → Type 0
  Has a = T a.controller.table × Every Q a.controller.waiting

  pub each : {A : Type 0} (f : Acted → A → Acted) → ((a : Acted) (x : A) → Has a → Has (f a x)) → (xs : List A) (a : Acted) → Has a → Has (fold f a xs)
  each f keeps [] a h = h
  each f keeps (x ∷ xs) a h = each f keeps xs (f a x) (keeps a x h)

  -- *Sending*
  pub sent : (a : Acted) (channel : Channel) (mark : Mark) (payload : List ℕ) → Has a → Has (sends a channel mark payload)
  sent a channel mark payload h = on_both (λ (s : Sender Controller). T s.queues.table × Every Q s.queues.waiting) (nat_le (length (frame_cells channel mark payload)) (free_slots a.controller))
      (record { queues = with_cells a.controller (frame_cells channel mark payload); notes = made a.notes mark payload })
      (record { queues = a.controller; notes = noted (made a.notes mark payload) (Loss mark PoolFull) }) h h

  pub sent_control : (a : Acted) (channel : Channel) (payload : List ℕ) → Has a → Has (sends_control a channel payload)
  sent_control a channel payload h = sent (record a { numbers = with_control a.numbers }) channel (next_control a.numbers) payload h

  pub sent_request : (a : Acted) (s : Standing) → Has a → Has (sends_request a s)
  sent_request a s h = sent_control a default_channel (gsmp_octets (message_at a.controller.desk s)) h

  -- *Node reset*
  pub cut_chain : (a : Acted) (label : ℕ) (o : Option Linked) → Has a → Has (cuts_of a label o)
  cut_chain a label None h = h
  cut_chain a label (Some linked) h = h

  closed : (port : PortNo) (a : Acted) (x : Action) → Has a → Has (closes_by port a x)
  closed port a (Say message) h = h
  closed port a (Ask request needed) h = h
  closed port a (Note item) h = h
  closed port a (CutChain label) h = cut_chain a label (linked_at a.controller port) h
  closed port a (TakeBack input output) h = h
  closed port a (Withdraw input) h = h
  closed port a actions.Reset h = h

  restarted : (a : Acted) (o : Option Linked) → Has a → Has (port_restarts_of a o)
  restarted a None h = h
  restarted a (Some linked) h = (let w : Work = restarts linked.setup (begins a linked) in each (closes_by linked.setup.port) (closed linked.setup.port) w.actions (with_work a linked w) h)

  pub node_reset : (a : Acted) → Has a → Has (node_resets a)
  node_reset a h = each port_restarts (λ b port k. restarted b (linked_at b.controller port) k) (ports_of a.controller) (resets_gsmp a) h

  -- *Asking*
  pub asked_of : (a : Acted) (request : Request) → Has a → Has (asks a request)
  asked_of a request h = on_both Has (is_estab a.controller.adjacency.state) (if a.controller.desk.next == last_transaction then node_resets a else asks_next a request) a
      (on_both Has (a.controller.desk.next == last_transaction) (node_resets a) (asks_next a request) (node_reset a h)
      (sent_request (with_desk a (asked a.controller.desk request)) (record { number = a.controller.desk.next; request = request }) h)) h

  pub asked_each : (requests : List Request) (a : Acted) → Has a → Has (fold asks a requests)
  asked_each requests a h = each asks asked_of requests a h

  pub taken_back : (a : Acted) (input output : End) → Has a → Has (takes_back a input output)
  taken_back a input output h = on_both Has (is_led_home a.controller.desk input (home_of input)) a (asks a (MoveBranch input output (home_of input))) h (asked_of a (MoveBranch input output (home_of input)) h)

  -- *A port at work*
  did : (port : PortNo) (a : Acted) (x : Action) → Has a → Has (does port a x)
  did port a (Say message) h = sent_control a (default_home port).channel (default_payload (ifmp_packet_of a.controller.address (ifmp_octets message))) h
  did port a (Ask request needed) h = asked_of a request h
  did port a (Note item) h = h
  did port a (CutChain label) h = cut_chain a label (linked_at a.controller port) h
  did port a (TakeBack input output) h = taken_back a input output h
  did port a (Withdraw input) h = h
  did port a actions.Reset h = h

  reset_of : (a : Acted) (o : Option Linked) → Has a → Has (resets_of a o)
  reset_of a None h = h
  reset_of a (Some linked) h = (let w : Work = resets linked.setup (begins a linked) in
      each (does_in_estab linked.setup.port) (λ b x k. on_both Has (is_estab b.controller.adjacency.state) (does linked.setup.port b x) b (did linked.setup.port b x k) k) w.actions (with_work a linked w) h)

  performed : (port : PortNo) (a : Acted) (x : Action) → Has a → Has (performs port a x)
  performed port a (Say message) h = did port a (Say message) h
  performed port a (Ask request needed) h = did port a (Ask request needed) h
  performed port a (Note item) h = did port a (Note item) h
  performed port a (CutChain label) h = did port a (CutChain label) h
  performed port a (TakeBack input output) h = did port a (TakeBack input output) h
  performed port a (Withdraw input) h = did port a (Withdraw input) h
  performed port a actions.Reset h = reset_of a (linked_at a.controller port) h

  worked : (a : Acted) (rule : Rule) (o : Option Linked) → Has a → Has (works a rule o)
  worked a rule None h = h
  worked a rule (Some linked) h = (let w : Work = rule linked.setup a.controller.desk (begins a linked) in
      each (performs_in_estab linked.setup.port) (λ b x k. on_both Has (is_estab b.controller.adjacency.state) (performs linked.setup.port b x) b (performed linked.setup.port b x k) k) w.actions (with_work a linked w) h)

  pub at_work : (a : Acted) (port : PortNo) (rule : Rule) → Has a → Has (at_port a port rule)
  at_work a port rule h = worked a rule (linked_at a.controller port) h

  -- *Joins*
  release_join : (a : Acted) (o : Option Join) → Has a → Has (releases_join a o)
  release_join a None h = h
  release_join a (Some join) h = at_work (parts a join.input) join.port (λ setup desk w. port_joins.given_back w join.grant)
      (at_work (note a (Part a.controller.node join.input.port (number_of_channel join.input.channel))) join.input.port (λ setup desk w. port_joins.parted w (number_of_channel join.input.channel)) h)

  release : (a : Acted) (request : Request) → Has a → Has (releases a request)
  release a request h = (let released : Acted = fold releases_input a (released_inputs a.controller request) in
      each resets_spent (λ b port k. at_work b port (λ setup desk w. halts_if_spent w) k) (ports_of released.controller) released
      (each releases_input (λ b input k. release_join b (join_of b.controller input) k) (released_inputs a.controller request) a h))

  enter_join : (a : Acted) (o : Option Join) → Has a → Has (joins a o)
  enter_join a None h = h
  enter_join a (Some join) h = asked_of (enters_label (enters_grant a join) join) (MoveBranch join.input (home_of join.input) (output_joined join))
      (at_work (enters_grant a join) join.input.port (λ setup desk w. port_joins.joined w (number_of_channel join.input.channel) (output_joined join))
      (at_work a join.port (λ setup desk w. port_joins.lent w join.grant join.input) h))

  try_label : (a : Acted) (input : End) (o : Option Label) → Has a → Has (tries_label a input o)
  try_label a input None h = h
  try_label a input (Some label) h = on_both Has (may_join a.controller input label) (joins a (join_for a.controller input label.flow)) a (enter_join a (join_for a.controller input label.flow) h) h

  pub try_joins : (a : Acted) → Has a → Has (tries_joins a)
  try_joins a h = each tries_join (λ b input k. try_label b input (label_on b.controller input) k) (flat_map inputs_at a.controller.ports) a h

  -- *The switch*
  pub meet : (a : Acted) → Has a → Has (meets a)
  meet a h = asked_of (with_desk a empty_desk) AllPorts h

  pub empty : (a : Acted) → Has a → Has (empties a)
  empty a h = asked_each (map DeleteAll (record { 0 = 0 } ∷ up_ports a.controller)) a h

  behind : (a : Acted) (port : PortNo) → Has a → Has (behind_delete_all a port)
  behind a port h = on_both Has a.controller.has_met (asks a (AddBranch (default_end port) (default_home port))) (if has_emptied a.controller then ends_meeting a else a) (asked_of a (AddBranch (default_end port) (default_home port)) h)
      (on_both Has (has_emptied a.controller) (ends_meeting a) a (asked_each (flat_map default_branches (up_ports a.controller)) (record a { controller = record a.controller { has_met = true } }) h) h)

  tell : (a : Acted) (request : Request) (port : PortNo) → Has a → Has (tells_port a request (Some port))
  tell a request port h = at_work a port (λ setup desk w. port_answers.done setup w request) h

  cause_in : (a : Acted) (request : Request) → Has a → Has (causes_in_estab a request)
  cause_in a (AddBranch input output) h = tell a (AddBranch input output) (port_of_input input output) h
  cause_in a (MoveBranch input from to) h = tell a (MoveBranch input from to) (port_of_input input to) h
  cause_in a (DeleteTree input) h = tell a (DeleteTree input) input.port h
  cause_in a (VerifyTree input) h = tell a (VerifyTree input) input.port h
  cause_in a (DeleteAll port) h = behind a port h
  cause_in a (PortManagement port function) h = tell a (PortManagement port function) port h
  cause_in a AllPorts h = h

  clear_of : (a : Acted) (o : Option Linked) → Has a → Has (clears_of a o)
  clear_of a None h = h
  clear_of a (Some linked) h = on_both Has (may_clear a.controller linked) (with_linked a (record linked { port = cleared linked.port })) a h h

  pub answered_by : (a : Acted) (request : Request) → Has a → Has (clears (causes (releases a request) request))
  answered_by a request h =
      let released : Acted = releases a request in
      let caused : Acted = causes released request in
      each clears_port (λ b port k. clear_of b (linked_at b.controller port) k) (ports_of caused.controller) caused
      (on_both Has (is_estab released.controller.adjacency.state) (causes_in_estab released request) released (cause_in released request (release a request h)) (release a request h))

  -- *Changes of routes*
  begin_change : (a : Acted) (change : RouteChange) → Has a → Has (begins_change a change)
  begin_change a change h = on_both Has a.controller.is_begun a (fold takes_join_back (record a { controller = record a.controller { is_begun = true } }) (changed_joins a.controller change)) h
      (each takes_join_back (λ b join k. taken_back b join.input (output_joined join) k) (changed_joins a.controller change) (record a { controller = record a.controller { is_begun = true } }) h)

  module _ (step : (table : List Route) (change : RouteChange) → T table → Q change → T (changed table change)) where
    take_each : (changes : List RouteChange) (a : Acted) → Every Q changes → Has a → Has (takes_each a changes)
    take_each [] a all h = h
    take_each (change ∷ later) a all h =
        let next : Acted = begins_change a change in
        let k : Has next = begin_change a change h in
        on_both Has (may_take next.controller change) (takes_each (takes_change next change later) later) next
        (take_each later (takes_change next change later) all.1 (step next.controller.table change k.0 all.0, all.1)) k

    pub take_changes : (a : Acted) → Has a → Has (takes_changes a)
    take_changes a h = on_both Has a.controller.has_met (takes_each a a.controller.waiting) a (take_each a.controller.waiting a h.1 h) h
