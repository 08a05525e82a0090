-- a controller goes on since an event began: while its adjacency with the switch is as it was it says what is calm to the
-- switch, if what stands at its desk is clear; or its transaction numbers are spent. Each of its rules keeps that

use Rattle.std.proofs.Common.{◌≡◌, ◌≢◌, ℕ, zero, suc, ◌+◌, ◌≤◌, true, false, true≢false, not, List, [], ◌∷◌, ◌++◌, length, filter, take, Option, None, Some, refl, sym, ◌∙◌, subst, arith, fold, flat_map, if◌then◌else◌}
use Rattle.std.specs.Prelude.{◌==◌, nat_le}
use Rattle.std.proofs.lemmas.Bool.Decides.{nat_tests}
use Rattle.live_model.specs.world_model.Words.{NodeId, PortNo, End, Channel, Mark, Party, Side, RouteChange, Cell, Frame, Loss, PoolFull, Part, number_of_channel, next_control, with_control, noted, frame_cells, made, nothing_taken, Request, AddBranch, MoveBranch, DeleteTree, VerifyTree, PortManagement, PortRow, Desk, Standing, is_estab, is_led_home, last_transaction, withdraws, message_of, Action, home_of, Work, Label, halts_if_spent, resets, restarts, Controller, Linked, port_key, linked_at, with_linked, with_desk, chain_of, chains_with, default_channel, default_end, default_home, sends_control, says_gsmp, says_ifmp, sends_request, asks_next, asks, takes_back, cuts_of, cuts_label, begins, with_work, closes_by, port_restarts_of, port_restarts, resets_gsmp, node_resets, does, does_in_estab, resets_of, resets_port, performs, performs_in_estab, Rule, works, at_port, join_of, parts, releases_join, releases_input, released_inputs, resets_spent, releases, join_for, may_join, enters_grant, enters_label, joins, tries_label, label_on, tries_join, inputs_at, tries_joins, changed_joins, takes_join_back, begins_change, takes_change, may_take, takes_each, takes_changes, up_ports, default_branches, ends_meeting, has_emptied, tells_port, behind_delete_all, causes_in_estab, causes, may_clear, clears_of, clears_port, clears, sends_again, ticks_port, ticks_ports, ifmp_packet_of, default_payload}
use Rattle.live_model.specs.world_model.gsmp_wire.declared.message.Message.{Message}
use Rattle.live_model.specs.world_model.gsmp_wire.declared.request.Request.TheVariants.{DeleteAll, AllPorts}
use Rattle.live_model.specs.world_model.gsmp_wire.Layout.{octets_of}
use Rattle.live_model.specs.world_model.ifmp_wire.declared.message.Message.{Message as IfmpMessage}
use Rattle.live_model.specs.world_model.ifmp_wire.Message.{octets_of as ifmp_octets}
use Rattle.live_model.specs.world_model.frame_model.Sending.{Sender}
use Rattle.live_model.specs.world_model.port_model.Desk.{asked, withdrawn, message_at, sent_again}
use Rattle.live_model.specs.world_model.port_model.declared.action.Action.TheVariants as actions
use Rattle.live_model.specs.world_model.port_model.Answers as port_answers
use Rattle.live_model.specs.world_model.port_model.Joins as port_joins
use Rattle.live_model.specs.world_model.port_model.Resets.{cleared}
use Rattle.live_model.specs.world_model.port_model.Ticks as port_ticks
use Rattle.live_model.specs.world_model.Controller.{Acted, free_slots, ports_of, note}
use Rattle.live_model.specs.world_model.Sending.{with_cells, sends}
use Rattle.live_model.specs.world_model.Joins.{Join, output_joined}
use Rattle.live_model.specs.world_model.Meeting.{takes_success, request_port}
use Rattle.law_port_facts.specs.ordered_lists.Ordered.{Every}
use Rattle.law_port_facts.proofs.ordered_lists.Every.{every_right}
use Rattle.law_port_facts.proofs.Keyed.{on_both, on_each, at_every, put_every}
use Rattle.law_shown_cells.proofs.Tested.{cut_frames}
use Rattle.law_live_control.proofs.Since.{with_frame, apart_home, Since, since_made, since_said, since_elsewhere}

-- a port of a link
abbrev pub IsLinked : Linked → Type 0
IsLinked linked = 1 ≤ linked.setup.port.0

-- *Where what stands is clear*, each request that stands makes a calm message; and nothing that is asked or withdrawn makes it
-- clear
abbrev pub IsCalmly : (Message → Type 0) → Standing → Type 0
IsCalmly Calm s = (rows : List PortRow) → Calm (message_of rows s.number s.request)

pub record Tells (Calm : Message → Type 0) (Clear : List Standing → Type 0) : Type 0 where
  pub calm : (standing : List Standing) → Clear standing → Every (IsCalmly Calm) standing
  pub asked : (desk : Desk) (request : Request) → Clear (asked desk request).standing → Clear desk.standing
  pub withdrawn : (desk : Desk) (input : End) → Clear (withdrawn desk input).standing → Clear desk.standing

is_last : (next : ℕ) → (next == last_transaction) ≡ true → next ≡ last_transaction
is_last next e = grind (arith, nat_tests)

not_last : (next : ℕ) → (next == last_transaction) ≡ false → next ≢ last_transaction
not_last next e is = grind (arith, nat_tests)

first_of : {A : Type 0} (P : A → Type 0) (n : ℕ) (xs : List A) → Every P xs → Every P (take n xs)
first_of P zero xs h = tt
first_of P (suc n) [] h = tt
first_of P (suc n) (x ∷ xs) h = (h.0, first_of P n xs h.1)

module _ (Calm : Message → Type 0) (Clear : List Standing → Type 0) (tells : Tells Calm Clear) (node : NodeId) (side : Side Party) (began : List Cell) where
  -- the adjacency with the switch is as it was, or the node was reset where its transaction numbers were spent
  pub data IsAt (now : Side Party) (next : ℕ) : Type 0 where
    on : now ≡ side → IsAt now next
    spent : is_estab now.state ≡ false → next ≡ last_transaction → IsAt now next

  -- numbers are left, and what stands is clear
  abbrev pub IsOpen : Desk → Type 0
  IsOpen desk = (desk.next ≢ last_transaction) × Clear desk.standing

  pub record Kept (a : Acted) : Type 0 where
    pub mode : IsAt a.controller.adjacency a.controller.desk.next
    pub own : a.controller.node ≡ node
    pub links : Every IsLinked a.controller.ports
    pub since : IsOpen a.controller.desk → Since Calm began a.controller.queue a.notes.frames a.numbers.controls

  pub fold_kept : {X : Type 0} (f : Acted → X → Acted) → ((a : Acted) (x : X) → Kept a → Kept (f a x)) → (xs : List X) (a : Acted) → Kept a → Kept (fold f a xs)
  fold_kept f each [] a h = h
  fold_kept f each (x ∷ xs) a h = fold_kept f each xs (f a x) (each a x h)

  -- *Frames are sent*
  pub sent_kept : (a : Acted) (channel : Channel) (mark : Mark) (payload : List ℕ) → IsAt a.controller.adjacency a.controller.desk.next → a.controller.node ≡ node → Every IsLinked a.controller.ports
      → (IsOpen a.controller.desk → Since Calm began a.controller.queue (with_frame a.notes.frames mark payload) a.numbers.controls)
      → (IsOpen a.controller.desk → Since Calm began (a.controller.queue ++ frame_cells channel mark payload) (with_frame a.notes.frames mark payload) a.numbers.controls)
      → Kept (sends a channel mark payload)
  sent_kept a channel mark payload mode own links none all = on_both (λ (s : Sender Controller). Kept (record a { controller = s.queues; notes = s.notes })) (nat_le (length (frame_cells channel mark payload)) (free_slots a.controller))
      (record { queues = with_cells a.controller (frame_cells channel mark payload); notes = made a.notes mark payload })
      (record { queues = a.controller; notes = noted (made a.notes mark payload) (Loss mark PoolFull) })
      (record { mode = mode; own = own; links = links; since = all }) (record { mode = mode; own = own; links = links; since = none })

  pub said_kept : (a : Acted) (message : Message) → (IsOpen a.controller.desk → Calm message) → Kept a → Kept (says_gsmp a message)
  said_kept a message calm h = sent_kept (record a { numbers = with_control a.numbers }) default_channel (next_control a.numbers) (octets_of message) h.mode h.own h.links
      (λ o. since_made Calm began a.controller.queue a.notes.frames a.numbers.controls (octets_of message) (h.since o))
      (λ o. since_said Calm began a.controller.queue a.notes.frames a.numbers.controls message (calm o) (h.since o))

  pub control_kept : (a : Acted) (channel : Channel) (payload : List ℕ) → channel ≢ default_channel → Kept a → Kept (sends_control a channel payload)
  control_kept a channel payload apart h =
      let none : IsOpen a.controller.desk → Since Calm began a.controller.queue (with_frame a.notes.frames (next_control a.numbers) payload) (a.numbers.controls + 1) =
      λ o. since_made Calm began a.controller.queue a.notes.frames a.numbers.controls payload (h.since o) in
      sent_kept (record a { numbers = with_control a.numbers }) channel (next_control a.numbers) payload h.mode h.own h.links none
      (λ o. since_elsewhere Calm began a.controller.queue channel (next_control a.numbers) payload (with_frame a.notes.frames (next_control a.numbers) payload) (a.numbers.controls + 1) apart (none o))

  ifmp_kept : (port : PortNo) (a : Acted) (message : IfmpMessage) → 1 ≤ port.0 → Kept a → Kept (says_ifmp port a message)
  ifmp_kept port a message link h = control_kept a (default_home port).channel (default_payload (ifmp_packet_of a.controller.address (ifmp_octets message))) (apart_home port link) h

  -- *A port* that is there is one of a link, and is put back
  there : (a : Acted) (port : PortNo) (linked : Linked) → linked_at a.controller port ≡ Some linked → Kept a → IsLinked linked
  there a port linked found h = at_every port_key IsLinked port.0 a.controller.ports linked h.links found

  back : (a : Acted) (linked : Linked) → IsLinked linked → Kept a → Kept (with_linked a linked)
  back a linked link h = record { mode = h.mode; own = h.own; links = put_every port_key IsLinked linked a.controller.ports link h.links; since = h.since }

  worked : (a : Acted) (linked : Linked) (w : Work) → IsLinked linked → Kept a → Kept (with_work a linked w)
  worked a linked w link h = record { mode = h.mode; own = h.own; links = put_every port_key IsLinked (record linked { port = w.port }) a.controller.ports link h.links; since = h.since }

  cut_kept : (port : PortNo) (a : Acted) (label : ℕ) → Kept a → Kept (cuts_label port a label)
  cut_kept port a label h = by (linked_at a.controller port) refl
    where
      by : (o : Option Linked) → linked_at a.controller port ≡ o → Kept (cuts_of a label o)
      by None found = h
      by (Some linked) found = record {
        mode = h.mode;
        own = h.own;
        links = put_every port_key IsLinked (record linked { chains = chains_with linked.chains label nothing_taken }) a.controller.ports (there a port linked found h) h.links;
        since = λ o. subst (λ (frames : List Frame). Since Calm began a.controller.queue frames a.numbers.controls) (sym (cut_frames a.notes (chain_of linked.chains label))) (h.since o);
      }

  -- *A node reset* where the numbers are spent
  closes_kept : (port : PortNo) (a : Acted) (action : Action) → Kept a → Kept (closes_by port a action)
  closes_kept port a (actions.Say message) h = h
  closes_kept port a (actions.Ask request needed) h = h
  closes_kept port a (actions.Note item) h = record { mode = h.mode; own = h.own; links = h.links; since = h.since }
  closes_kept port a (actions.CutChain label) h = cut_kept port a label h
  closes_kept port a (actions.TakeBack input output) h = h
  closes_kept port a (actions.Withdraw input) h = h
  closes_kept port a actions.Reset h = h

  pub restarts_kept : (a : Acted) (port : PortNo) → Kept a → Kept (port_restarts a port)
  restarts_kept a port h = by (linked_at a.controller port) refl
    where
      by : (o : Option Linked) → linked_at a.controller port ≡ o → Kept (port_restarts_of a o)
      by None found = h
      by (Some linked) found =
          let w : Work = restarts linked.setup (begins a linked) in
          fold_kept (closes_by linked.setup.port) (closes_kept linked.setup.port) w.actions (with_work a linked w) (worked a linked w (there a port linked found h) h)

  reset_kept : (a : Acted) → a.controller.desk.next ≡ last_transaction → Kept a → Kept (node_resets a)
  reset_kept a full h = fold_kept port_restarts restarts_kept (ports_of a.controller) (resets_gsmp a) (record { mode = spent refl full; own = h.own; links = h.links; since = λ o. absurd (o.0 full) })

  -- *Asking*
  request_kept : (a : Acted) (s : Standing) → (IsOpen a.controller.desk → IsCalmly Calm s) → Kept a → Kept (sends_request a s)
  request_kept a s calm h = said_kept a (message_at a.controller.desk s) (λ o. calm o a.controller.desk.rows) h

  still_on : (now : Side Party) (next later : ℕ) → is_estab now.state ≡ true → IsAt now next → IsAt now later
  still_on now next later up (on same) = on same
  still_on now next later up (spent down full) = absurd (true≢false (sym up ∙ down))

  next_kept : (a : Acted) (request : Request) → is_estab a.controller.adjacency.state ≡ true → a.controller.desk.next ≢ last_transaction → Kept a → Kept (asks_next a request)
  next_kept a request up room h =
      let s : Standing = record { number = a.controller.desk.next; request = request } in
      let now : Desk = asked a.controller.desk request in
      request_kept (with_desk a now) s
      (λ o. (every_right (IsCalmly Calm) (filter (λ (other : Standing). not (withdraws request other.request)) a.controller.desk.standing) (s ∷ []) (tells.calm now.standing o.1)).0)
      (record {
        mode = still_on a.controller.adjacency a.controller.desk.next (a.controller.desk.next + 1) up h.mode;
        own = h.own;
        links = h.links;
        since = λ o. h.since (room, tells.asked a.controller.desk request o.1);
      })

  pub asks_kept : (a : Acted) (request : Request) → Kept a → Kept (asks a request)
  asks_kept a request h = on_each Kept (is_estab a.controller.adjacency.state) (if a.controller.desk.next == last_transaction then node_resets a else asks_next a request) a
      (λ up. on_each Kept (a.controller.desk.next == last_transaction) (node_resets a) (asks_next a request)
      (λ full. reset_kept a (is_last a.controller.desk.next full) h) (λ room. next_kept a request up (not_last a.controller.desk.next room) h)) (λ down. h)

  pub asks_each_kept : (requests : List Request) (a : Acted) → Kept a → Kept (fold asks a requests)
  asks_each_kept requests a h = fold_kept asks asks_kept requests a h

  takes_back_kept : (a : Acted) (input output : End) → Kept a → Kept (takes_back a input output)
  takes_back_kept a input output h = on_both Kept (is_led_home a.controller.desk input (home_of input)) a (asks a (MoveBranch input output (home_of input))) h (asks_kept a (MoveBranch input output (home_of input)) h)

  -- *What a port asked* is done
  does_kept : (port : PortNo) → 1 ≤ port.0 → (a : Acted) (action : Action) → Kept a → Kept (does port a action)
  does_kept port link a (actions.Say message) h = ifmp_kept port a message link h
  does_kept port link a (actions.Ask request needed) h = asks_kept a request h
  does_kept port link a (actions.Note item) h = record { mode = h.mode; own = h.own; links = h.links; since = h.since }
  does_kept port link a (actions.CutChain label) h = cut_kept port a label h
  does_kept port link a (actions.TakeBack input output) h = takes_back_kept a input output h
  does_kept port link a (actions.Withdraw input) h =
      record { mode = h.mode; own = h.own; links = h.links; since = λ o. h.since (o.0, tells.withdrawn a.controller.desk input o.1) }
  does_kept port link a actions.Reset h = h

  does_in_kept : (port : PortNo) → 1 ≤ port.0 → (a : Acted) (action : Action) → Kept a → Kept (does_in_estab port a action)
  does_in_kept port link a action h = on_both Kept (is_estab a.controller.adjacency.state) (does port a action) a (does_kept port link a action h) h

  resets_kept : (a : Acted) (port : PortNo) → Kept a → Kept (resets_port a port)
  resets_kept a port h = by (linked_at a.controller port) refl
    where
      by : (o : Option Linked) → linked_at a.controller port ≡ o → Kept (resets_of a o)
      by None found = h
      by (Some linked) found =
          let w : Work = resets linked.setup (begins a linked) in
          let link : IsLinked linked = there a port linked found h in
          fold_kept (does_in_estab linked.setup.port) (does_in_kept linked.setup.port link) w.actions (with_work a linked w) (worked a linked w link h)

  performs_kept : (port : PortNo) → 1 ≤ port.0 → (a : Acted) (action : Action) → Kept a → Kept (performs port a action)
  performs_kept port link a (actions.Say message) h = does_kept port link a (actions.Say message) h
  performs_kept port link a (actions.Ask request needed) h = does_kept port link a (actions.Ask request needed) h
  performs_kept port link a (actions.Note item) h = does_kept port link a (actions.Note item) h
  performs_kept port link a (actions.CutChain label) h = does_kept port link a (actions.CutChain label) h
  performs_kept port link a (actions.TakeBack input output) h = does_kept port link a (actions.TakeBack input output) h
  performs_kept port link a (actions.Withdraw input) h = does_kept port link a (actions.Withdraw input) h
  performs_kept port link a actions.Reset h = resets_kept a port h

  performs_in_kept : (port : PortNo) → 1 ≤ port.0 → (a : Acted) (action : Action) → Kept a → Kept (performs_in_estab port a action)
  performs_in_kept port link a action h = on_both Kept (is_estab a.controller.adjacency.state) (performs port a action) a (performs_kept port link a action h) h

  -- *Any rule* at a port
  pub at_port_kept : (a : Acted) (port : PortNo) (rule : Rule) → Kept a → Kept (at_port a port rule)
  at_port_kept a port rule h = by (linked_at a.controller port) refl
    where
      by : (o : Option Linked) → linked_at a.controller port ≡ o → Kept (works a rule o)
      by None found = h
      by (Some linked) found =
          let w : Work = rule linked.setup a.controller.desk (begins a linked) in
          let link : IsLinked linked = there a port linked found h in
          fold_kept (performs_in_estab linked.setup.port) (performs_in_kept linked.setup.port link) w.actions (with_work a linked w) (worked a linked w link h)

  -- *Releases*
  noted_kept : (a : Acted) (input : End) → Kept a → Kept (note a (Part a.controller.node input.port (number_of_channel input.channel)))
  noted_kept a input h = record { mode = h.mode; own = h.own; links = h.links; since = h.since }

  parts_kept : (a : Acted) (input : End) → Kept a → Kept (parts a input)
  parts_kept a input h = at_port_kept (note a (Part a.controller.node input.port (number_of_channel input.channel))) input.port (λ setup desk w. port_joins.parted w (number_of_channel input.channel)) (noted_kept a input h)

  releases_input_kept : (a : Acted) (input : End) → Kept a → Kept (releases_input a input)
  releases_input_kept a input h = by (join_of a.controller input)
    where
      by : (o : Option Join) → Kept (releases_join a o)
      by None = h
      by (Some join) = at_port_kept (parts a join.input) join.port (λ setup desk w. port_joins.given_back w join.grant) (parts_kept a join.input h)

  releases_kept : (a : Acted) (request : Request) → Kept a → Kept (releases a request)
  releases_kept a request h =
      let released : Acted = fold releases_input a (released_inputs a.controller request) in
      fold_kept resets_spent (λ b port k. at_port_kept b port (λ setup desk w. halts_if_spent w) k) (ports_of released.controller) released
      (fold_kept releases_input releases_input_kept (released_inputs a.controller request) a h)

  -- *Joins*
  joins_kept : (a : Acted) (o : Option Join) → Kept a → Kept (joins a o)
  joins_kept a None h = h
  joins_kept a (Some join) h =
      let lends : Kept (enters_grant a join) = at_port_kept a join.port (λ setup desk w. port_joins.lent w join.grant join.input) h in
      asks_kept (enters_label (enters_grant a join) join) (MoveBranch join.input (home_of join.input) (output_joined join))
      (at_port_kept (enters_grant a join) join.input.port (λ setup desk w. port_joins.joined w (number_of_channel join.input.channel) (output_joined join)) lends)

  tries_join_kept : (a : Acted) (input : End) → Kept a → Kept (tries_join a input)
  tries_join_kept a input h = by (label_on a.controller input)
    where
      by : (o : Option Label) → Kept (tries_label a input o)
      by None = h
      by (Some label) = on_both Kept (may_join a.controller input label) (joins a (join_for a.controller input label.flow)) a (joins_kept a (join_for a.controller input label.flow) h) h

  tries_joins_kept : (a : Acted) → Kept a → Kept (tries_joins a)
  tries_joins_kept a h = fold_kept tries_join tries_join_kept (flat_map inputs_at a.controller.ports) a h

  -- *Changes of routes*
  begins_change_kept : (a : Acted) (change : RouteChange) → Kept a → Kept (begins_change a change)
  begins_change_kept a change h =
      let begun : Acted = record a { controller = record a.controller { is_begun = true } } in
      on_both Kept a.controller.is_begun a (fold takes_join_back begun (changed_joins a.controller change)) h
      (fold_kept takes_join_back (λ b join k. takes_back_kept b join.input (output_joined join) k) (changed_joins a.controller change) begun
      (record { mode = h.mode; own = h.own; links = h.links; since = h.since }))

  takes_each_kept : (changes : List RouteChange) (a : Acted) → Kept a → Kept (takes_each a changes)
  takes_each_kept [] a h = h
  takes_each_kept (change ∷ later) a h =
      let begun : Acted = begins_change a change in
      let k : Kept begun = begins_change_kept a change h in
      on_both Kept (may_take begun.controller change) (takes_each (takes_change begun change later) later) begun
      (takes_each_kept later (takes_change begun change later) (record { mode = k.mode; own = k.own; links = k.links; since = k.since })) k

  pub takes_changes_kept : (a : Acted) → Kept a → Kept (takes_changes a)
  takes_changes_kept a h = on_both Kept a.controller.has_met (takes_each a a.controller.waiting) a (takes_each_kept a.controller.waiting a h) h

  -- *Answers of success*
  ends_meeting_kept : (a : Acted) → Kept a → Kept (ends_meeting a)
  ends_meeting_kept a h = asks_each_kept (flat_map default_branches (up_ports a.controller)) (record a { controller = record a.controller { has_met = true } })
      (record { mode = h.mode; own = h.own; links = h.links; since = h.since })

  behind_kept : (a : Acted) (port : PortNo) → Kept a → Kept (behind_delete_all a port)
  behind_kept a port h = on_both Kept a.controller.has_met (asks a (AddBranch (default_end port) (default_home port))) (if has_emptied a.controller then ends_meeting a else a)
      (asks_kept a (AddBranch (default_end port) (default_home port)) h)
      (on_both Kept (has_emptied a.controller) (ends_meeting a) a (ends_meeting_kept a h) h)

  tells_kept : (a : Acted) (request : Request) (o : Option PortNo) → Kept a → Kept (tells_port a request o)
  tells_kept a request None h = h
  tells_kept a request (Some port) h = at_port_kept a port (λ setup desk w. port_answers.done setup w request) h

  causes_in_kept : (a : Acted) (request : Request) → Kept a → Kept (causes_in_estab a request)
  causes_in_kept a (DeleteAll port) h = behind_kept a port h
  causes_in_kept a (AddBranch input output) h = tells_kept a (AddBranch input output) (request_port (AddBranch input output)) h
  causes_in_kept a (MoveBranch input from to) h = tells_kept a (MoveBranch input from to) (request_port (MoveBranch input from to)) h
  causes_in_kept a (DeleteTree input) h = tells_kept a (DeleteTree input) (request_port (DeleteTree input)) h
  causes_in_kept a (VerifyTree input) h = tells_kept a (VerifyTree input) (request_port (VerifyTree input)) h
  causes_in_kept a (PortManagement port function) h = tells_kept a (PortManagement port function) (request_port (PortManagement port function)) h
  causes_in_kept a AllPorts h = h

  clears_port_kept : (a : Acted) (port : PortNo) → Kept a → Kept (clears_port a port)
  clears_port_kept a port h = by (linked_at a.controller port) refl
    where
      by : (o : Option Linked) → linked_at a.controller port ≡ o → Kept (clears_of a o)
      by None found = h
      by (Some linked) found = on_both Kept (may_clear a.controller linked) (with_linked a (record linked { port = cleared linked.port })) a
          (back a (record linked { port = cleared linked.port }) (there a port linked found h) h) h

  pub success_kept : (a : Acted) (request : Request) → Kept a → Kept (takes_success a request)
  success_kept a request h =
      let released : Acted = releases a request in
      let caused : Acted = causes released request in
      let k : Kept released = releases_kept a request h in
      takes_changes_kept (clears caused) (fold_kept clears_port clears_port_kept (ports_of caused.controller) caused
      (on_both Kept (is_estab released.controller.adjacency.state) (causes_in_estab released request) released (causes_in_kept released request k) k))

  -- *A tick*, once the switch is greeted: what stands is sent again, and the desk stays as it is
  request_desk : (a : Acted) (s : Standing) → (sends_request a s).controller.desk ≡ a.controller.desk
  request_desk a s =
      let b : Acted = record a { numbers = with_control a.numbers } in
      let cells : List Cell = frame_cells default_channel (next_control a.numbers) (octets_of (message_at a.controller.desk s)) in
      on_both (λ (x : Sender Controller). x.queues.desk ≡ a.controller.desk) (nat_le (length cells) (free_slots b.controller))
      (record { queues = with_cells b.controller cells; notes = made b.notes (next_control a.numbers) (octets_of (message_at a.controller.desk s)) })
      (record { queues = b.controller; notes = noted (made b.notes (next_control a.numbers) (octets_of (message_at a.controller.desk s))) (Loss (next_control a.numbers) PoolFull) })
      refl refl

  each_kept : (desk : Desk) (again : List Standing) → (IsOpen desk → Every (IsCalmly Calm) again) → (a : Acted) → a.controller.desk ≡ desk → Kept a → Kept (fold sends_request a again)
  each_kept desk [] calm a same h = h
  each_kept desk (s ∷ again) calm a same h = each_kept desk again (λ o. (calm o).1) (sends_request a s) (request_desk a s ∙ same)
      (request_kept a s (λ o. (calm (subst IsOpen same o)).0) h)

  again_kept : (a : Acted) → Kept a → Kept (sends_again a)
  again_kept a h = on_both Kept (is_estab a.controller.adjacency.state) (fold sends_request a (sent_again a.controller.desk)) a
      (each_kept a.controller.desk (sent_again a.controller.desk) (λ o. first_of (IsCalmly Calm) 32 a.controller.desk.standing (tells.calm a.controller.desk.standing o.1)) a refl h) h

  pub rest_kept : (a : Acted) → Kept a → Kept (tries_joins (ticks_ports (sends_again a)))
  rest_kept a h =
      let again : Acted = sends_again a in
      tries_joins_kept (ticks_ports again) (fold_kept ticks_port (λ b port k. at_port_kept b port port_ticks.ticks k) (ports_of again.controller) again (again_kept a h))
