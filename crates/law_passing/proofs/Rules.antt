-- what a controller does puts cells at the end of its queue, and takes none out: its smallest rules

use Rattle.std.proofs.Common.{◌≡◌, ℕ, List, [], ◌∷◌, length, Option, None, Some, refl, ◌∙◌, if◌then◌else◌, fold}
use Rattle.std.specs.Prelude.{◌==◌, nat_le}
use Rattle.law_actor_pace.specs.world_model.Words.{PortNo, Channel, End, Mark, with_control, next_control, Cell, is_estab, Request, MoveBranch, Loss, PoolFull, noted, frame_cells, made, is_led_home, last_transaction, Action, Say, Ask, Note, CutChain, TakeBack, Withdraw, home_of, Work, resets, restarts, Controller, Linked, linked_at, with_desk, default_channel, default_home, sends_control, says_gsmp, asks_next, asks, takes_back, cuts_of, cuts_label, cuts_default_of, cuts_default, cuts_gsmp, begins, with_work, closes_by, port_restarts_as, port_restarts_of, port_restarts, resets_gsmp, node_resets, node_restarts, does, does_in_estab, resets_of, performs, performs_in_estab, Rule, works_as, works, at_port}
use Rattle.law_actor_pace.specs.world_model.gsmp_wire.Layout.{octets_of as gsmp_octets}
use Rattle.law_actor_pace.specs.world_model.gsmp_wire.declared.message.Message.{Message as GsmpMessage}
use Rattle.law_actor_pace.specs.world_model.frame_model.Sending.{Sender}
use Rattle.law_actor_pace.specs.world_model.port_model.Desk.{asked, message_at}
use Rattle.law_actor_pace.specs.world_model.port_model.declared.action.Action.TheVariants.{Reset}
use Rattle.law_actor_pace.specs.world_model.Controller.{Acted, free_slots, ports_of, note}
use Rattle.law_actor_pace.specs.world_model.Sending.{with_cells, sends}
use Rattle.law_actor_pace.proofs.Cells.{on_both}
use Rattle.law_passing.proofs.Fronts.{Grows, as_it_was, grows_then, grows_same}

-- *Cells are added* to its queue, or none, and it is the controller of its node
pub record Adds (a b : Acted) : Type 0 where
  pub queue : Grows a.controller.queue b.controller.queue
  pub node : b.controller.node ≡ a.controller.node

pub itself : (a : Acted) → Adds a a
itself a = record { queue = as_it_was a.controller.queue; node = refl }

pub adds_then : (a b c : Acted) → Adds a b → Adds b c → Adds a c
adds_then a b c p q = record { queue = grows_then p.queue q.queue; node = q.node ∙ p.node }

pub adds_fold : {A : Type 0} (f : Acted → A → Acted) → ((a : Acted) (x : A) → Adds a (f a x)) → (xs : List A) (a : Acted) → Adds a (fold f a xs)
adds_fold f each [] a = itself a
adds_fold f each (x ∷ xs) a = adds_then a (f a x) (fold f (f a x) xs) (each a x) (adds_fold f each xs (f a x))

-- neither changes
pub same : (a b : Acted) → b.controller.queue ≡ a.controller.queue → b.controller.node ≡ a.controller.node → Adds a b
same a b queue node = record { queue = grows_same queue; node = node }

-- *Sending*
pub sends_adds : (a : Acted) (channel : Channel) (mark : Mark) (payload : List ℕ) → Adds a (sends a channel mark payload)
sends_adds a channel mark payload =
    let cells : List Cell = frame_cells channel mark payload in
    on_both (λ (s : Sender Controller). Adds a (record a { controller = s.queues; notes = s.notes })) (nat_le (length cells) (free_slots a.controller))
    (record { queues = with_cells a.controller cells; notes = made a.notes mark payload })
    (record { queues = a.controller; notes = noted (made a.notes mark payload) (Loss mark PoolFull) })
    (record { queue = record { more = cells; is = refl }; node = refl })
    (record { queue = as_it_was a.controller.queue; node = refl })

pub sends_control_adds : (a : Acted) (channel : Channel) (payload : List ℕ) → Adds a (sends_control a channel payload)
sends_control_adds a channel payload =
    let given : Acted = record a { numbers = with_control a.numbers } in
    adds_then a given (sends_control a channel payload) (same a given refl refl) (sends_adds given channel (next_control a.numbers) payload)

pub says_gsmp_adds : (a : Acted) (message : GsmpMessage) → Adds a (says_gsmp a message)
says_gsmp_adds a message = sends_control_adds a default_channel (gsmp_octets message)

-- *Chains are cut*
cuts_of_adds : (a : Acted) (label : ℕ) (o : Option Linked) → Adds a (cuts_of a label o)
cuts_of_adds a label None = itself a
cuts_of_adds a label (Some linked) = same a (cuts_of a label (Some linked)) refl refl

cuts_label_adds : (port : PortNo) (a : Acted) (label : ℕ) → Adds a (cuts_label port a label)
cuts_label_adds port a label = cuts_of_adds a label (linked_at a.controller port)

cuts_default_of_adds : (a : Acted) (o : Option Linked) → Adds a (cuts_default_of a o)
cuts_default_of_adds a None = itself a
cuts_default_of_adds a (Some linked) = same a (cuts_default_of a (Some linked)) refl refl

-- *Node reset*
closes_by_adds : (port : PortNo) (a : Acted) (action : Action) → Adds a (closes_by port a action)
closes_by_adds port a (Say message) = itself a
closes_by_adds port a (Ask request needed) = itself a
closes_by_adds port a (Note item) = same a (note a item) refl refl
closes_by_adds port a (CutChain label) = cuts_label_adds port a label
closes_by_adds port a (TakeBack input output) = itself a
closes_by_adds port a (Withdraw input) = itself a
closes_by_adds port a Reset = itself a

port_restarts_of_adds : (a : Acted) (o : Option Linked) → Adds a (port_restarts_of a o)
port_restarts_of_adds a None = itself a
port_restarts_of_adds a (Some linked) =
    let w : Work = restarts linked.setup (begins a linked) in
    adds_then a (with_work a linked w) (port_restarts_as a linked w) (same a (with_work a linked w) refl refl)
    (adds_fold (closes_by linked.setup.port) (closes_by_adds linked.setup.port) w.actions (with_work a linked w))

pub node_resets_adds : (a : Acted) → Adds a (node_resets a)
node_resets_adds a = adds_then a (resets_gsmp a) (node_resets a) (same a (resets_gsmp a) refl refl)
    (adds_fold port_restarts (λ b port. port_restarts_of_adds b (linked_at b.controller port)) (ports_of a.controller) (resets_gsmp a))

-- *Asking*
next_adds : (a : Acted) (request : Request) → Adds a (asks_next a request)
next_adds a request =
    let entered : Acted = with_desk a (asked a.controller.desk request) in
    adds_then a entered (asks_next a request) (same a entered refl refl)
    (says_gsmp_adds entered (message_at entered.controller.desk (record { number = a.controller.desk.next; request = request })))

pub asks_adds : (a : Acted) (request : Request) → Adds a (asks a request)
asks_adds a request = on_both (Adds a) (is_estab a.controller.adjacency.state) (if a.controller.desk.next == last_transaction then node_resets a else asks_next a request) a
    (on_both (Adds a) (a.controller.desk.next == last_transaction) (node_resets a) (asks_next a request) (node_resets_adds a) (next_adds a request))
    (itself a)

pub takes_back_adds : (a : Acted) (input output : End) → Adds a (takes_back a input output)
takes_back_adds a input output = on_both (Adds a) (is_led_home a.controller.desk input (home_of input)) a (asks a (MoveBranch input output (home_of input)))
    (itself a) (asks_adds a (MoveBranch input output (home_of input)))

-- *Actions*
does_adds : (port : PortNo) (a : Acted) (action : Action) → Adds a (does port a action)
does_adds port a (Say message) = sends_control_adds a (default_home port).channel _
does_adds port a (Ask request needed) = asks_adds a request
does_adds port a (Note item) = same a (note a item) refl refl
does_adds port a (CutChain label) = cuts_label_adds port a label
does_adds port a (TakeBack input output) = takes_back_adds a input output
does_adds port a (Withdraw input) = same a (does port a (Withdraw input)) refl refl
does_adds port a Reset = itself a

does_in_estab_adds : (port : PortNo) (a : Acted) (action : Action) → Adds a (does_in_estab port a action)
does_in_estab_adds port a action = on_both (Adds a) (is_estab a.controller.adjacency.state) (does port a action) a (does_adds port a action) (itself a)

resets_of_adds : (a : Acted) (o : Option Linked) → Adds a (resets_of a o)
resets_of_adds a None = itself a
resets_of_adds a (Some linked) =
    let w : Work = resets linked.setup (begins a linked) in
    adds_then a (with_work a linked w) (fold (does_in_estab linked.setup.port) (with_work a linked w) w.actions) (same a (with_work a linked w) refl refl)
    (adds_fold (does_in_estab linked.setup.port) (does_in_estab_adds linked.setup.port) w.actions (with_work a linked w))

performs_adds : (port : PortNo) (a : Acted) (action : Action) → Adds a (performs port a action)
performs_adds port a (Say message) = does_adds port a (Say message)
performs_adds port a (Ask request needed) = does_adds port a (Ask request needed)
performs_adds port a (Note item) = does_adds port a (Note item)
performs_adds port a (CutChain label) = does_adds port a (CutChain label)
performs_adds port a (TakeBack input output) = does_adds port a (TakeBack input output)
performs_adds port a (Withdraw input) = does_adds port a (Withdraw input)
performs_adds port a Reset = resets_of_adds a (linked_at a.controller port)

performs_in_estab_adds : (port : PortNo) (a : Acted) (action : Action) → Adds a (performs_in_estab port a action)
performs_in_estab_adds port a action = on_both (Adds a) (is_estab a.controller.adjacency.state) (performs port a action) a (performs_adds port a action) (itself a)

-- *A rule of a port*
works_adds : (a : Acted) (rule : Rule) (o : Option Linked) → Adds a (works a rule o)
works_adds a rule None = itself a
works_adds a rule (Some linked) =
    let w : Work = rule linked.setup a.controller.desk (begins a linked) in
    adds_then a (with_work a linked w) (works_as a linked w) (same a (with_work a linked w) refl refl)
    (adds_fold (performs_in_estab linked.setup.port) (performs_in_estab_adds linked.setup.port) w.actions (with_work a linked w))

pub at_port_adds : (a : Acted) (port : PortNo) (rule : Rule) → Adds a (at_port a port rule)
at_port_adds a port rule = works_adds a rule (linked_at a.controller port)

-- *Restart*
pub node_restarts_adds : (a : Acted) → Adds a (node_restarts a)
node_restarts_adds a =
    let fresh : Acted = node_resets a in
    adds_then a fresh (node_restarts a) (node_resets_adds a)
    (adds_then fresh (cuts_gsmp fresh) (node_restarts a) (same fresh (cuts_gsmp fresh) refl refl)
    (adds_fold cuts_default (λ b port. cuts_default_of_adds b (linked_at b.controller port)) (ports_of a.controller) (cuts_gsmp fresh)))
