-- what a port at work has asked is done: what each port is stays, and what the queue holds

use Rattle.std.proofs.Common.{◌≡◌, ℕ, List, [], ◌∷◌, ◌++◌, length, Option, None, Some, refl, if◌then◌else◌, fold}
use Rattle.std.specs.Prelude.{◌==◌, nat_le}
use Rattle.law_controller.specs.world_model.Words.{PortNo, Channel, End, Mark, next_control, with_control, is_estab, Cell, ifmp_packet_of, default_payload, Request, MoveBranch, Loss, PoolFull, noted, frame_cells, made, cut, nothing_taken, Standing, is_led_home, last_transaction, Action, Say, Ask, Note, CutChain, TakeBack, Withdraw, Setup, home_of, Work, resets, restarts, Controller, Linked, port_key, linked_at, with_linked, with_desk, chain_of, chains_with, default_channel, default_home, sends_control, sends_request, asks_next, asks, takes_back, begins, with_work, cuts_of, closes_by, port_restarts_of, port_restarts, resets_gsmp, node_resets, does, does_in_estab, resets_of, performs, performs_in_estab, Rule, works_as, works, at_port}
use Rattle.law_controller.specs.world_model.gsmp_wire.Layout.{octets_of as gsmp_octets}
use Rattle.law_controller.specs.world_model.ifmp_wire.Message.{octets_of as ifmp_octets}
use Rattle.law_controller.specs.world_model.frame_model.Sending.{Sender}
use Rattle.law_controller.specs.ordered_lists.Ordered.{Every}
use Rattle.law_controller.specs.world_model.port_model.Desk.{asked, message_at}
use Rattle.law_controller.specs.world_model.port_model.declared.action.Action.TheVariants as actions
use Rattle.law_controller.specs.world_model.port_model.Port.{Port}
use Rattle.law_controller.proofs.law_port_facts.Keyed.{on_both, at_every, put_every}
use Rattle.law_controller.specs.world_model.Controller.{Acted, free_slots, ports_of}
use Rattle.law_controller.specs.world_model.Sending.{with_cells, sends}

-- what the resets of a port keep of it, and control frames of the queue
pub record IsKept (K : Setup → Port → Type 0) (Q : List Cell → Type 0) : Type 0 where
  pub resets : (setup : Setup) (w : Work) → K setup w.port → K setup (resets setup w).port
  pub restarts : (setup : Setup) (w : Work) → K setup (restarts setup w).port
  pub control : (queue : List Cell) (channel : Channel) (mark : Mark) (payload : List ℕ) → channel.vci ≡ 15 → Q queue → Q (queue ++ frame_cells channel mark payload)

module _ (K : Setup → Port → Type 0) (Q : List Cell → Type 0) (kept : IsKept K Q) where
  abbrev pub Has : Linked → Type 0
  Has x = K x.setup x.port

  pub record Fits (a : Acted) : Type 0 where
    pub ports : Every Has a.controller.ports
    pub queue : Q a.controller.queue

  pub found_fits : (a : Acted) (port : PortNo) (linked : Linked) → linked_at a.controller port ≡ Some linked → Fits a → Has linked
  found_fits a port linked found h = at_every port_key Has port.0 a.controller.ports linked h.ports found

  pub fold_fits : {A : Type 0} (f : Acted → A → Acted) → ((a : Acted) (x : A) → Fits a → Fits (f a x)) → (xs : List A) (a : Acted) → Fits a → Fits (fold f a xs)
  fold_fits f each [] a h = h
  fold_fits f each (x ∷ xs) a h = fold_fits f each xs (f a x) (each a x h)

  -- *Sending*
  pub frame_fits : (a : Acted) (channel : Channel) (mark : Mark) (payload : List ℕ) → Q (a.controller.queue ++ frame_cells channel mark payload) → Fits a → Fits (sends a channel mark payload)
  frame_fits a channel mark payload q h = on_both (λ (s : Sender Controller). Fits (record a { controller = s.queues; notes = s.notes })) (nat_le (length (frame_cells channel mark payload)) (free_slots a.controller))
      (record { queues = with_cells a.controller (frame_cells channel mark payload); notes = made a.notes mark payload })
      (record { queues = a.controller; notes = noted (made a.notes mark payload) (Loss mark PoolFull) })
      (record { ports = h.ports; queue = q }) (record { ports = h.ports; queue = h.queue })

  pub sends_fits : (a : Acted) (channel : Channel) (mark : Mark) (payload : List ℕ) → channel.vci ≡ 15 → Fits a → Fits (sends a channel mark payload)
  sends_fits a channel mark payload default h = frame_fits a channel mark payload (kept.control a.controller.queue channel mark payload default h.queue) h

  pub sends_control_fits : (a : Acted) (channel : Channel) (payload : List ℕ) → channel.vci ≡ 15 → Fits a → Fits (sends_control a channel payload)
  sends_control_fits a channel payload default h = sends_fits (record a { numbers = with_control a.numbers }) channel (next_control a.numbers) payload default (record { ports = h.ports; queue = h.queue })

  pub sends_request_fits : (a : Acted) (s : Standing) → Fits a → Fits (sends_request a s)
  sends_request_fits a s h = sends_control_fits a default_channel (gsmp_octets (message_at a.controller.desk s)) refl h

  -- *A port is put in its place*
  pub placed_fits : (a : Acted) (after : Linked) → Has after → Fits a → Fits (with_linked a after)
  placed_fits a after k h = record { ports = put_every port_key Has after a.controller.ports k h.ports; queue = h.queue }

  pub worked_fits : (a : Acted) (linked : Linked) (w : Work) → K linked.setup w.port → Fits a → Fits (with_work a linked w)
  worked_fits a linked w k h = record { ports = put_every port_key Has (record linked { port = w.port }) a.controller.ports k h.ports; queue = h.queue }

  cut_fits : (a : Acted) (label : ℕ) (o : Option Linked) → ((linked : Linked) → o ≡ Some linked → Has linked) → Fits a → Fits (cuts_of a label o)
  cut_fits a label None there h = h
  cut_fits a label (Some linked) there h =
      placed_fits (record a { notes = cut a.notes (chain_of linked.chains label) }) (record linked { chains = chains_with linked.chains label nothing_taken }) (there linked refl) (record { ports = h.ports; queue = h.queue })

  cuts_fits : (a : Acted) (port : PortNo) (label : ℕ) → Fits a → Fits (cuts_of a label (linked_at a.controller port))
  cuts_fits a port label h = cut_fits a label (linked_at a.controller port) (λ linked found. found_fits a port linked found h) h

  -- *Node reset*
  closes_fits : (port : PortNo) (a : Acted) (action : Action) → Fits a → Fits (closes_by port a action)
  closes_fits port a (Say message) h = h
  closes_fits port a (Ask request needed) h = h
  closes_fits port a (Note item) h = record { ports = h.ports; queue = h.queue }
  closes_fits port a (CutChain label) h = cuts_fits a port label h
  closes_fits port a (TakeBack input output) h = h
  closes_fits port a (Withdraw input) h = h
  closes_fits port a actions.Reset h = h

  restarts_fits : (a : Acted) (o : Option Linked) → Fits a → Fits (port_restarts_of a o)
  restarts_fits a None h = h
  restarts_fits a (Some linked) h = (let w : Work = restarts linked.setup (begins a linked) in
      fold_fits (closes_by linked.setup.port) (closes_fits linked.setup.port) w.actions (with_work a linked w) (worked_fits a linked w (kept.restarts linked.setup (begins a linked)) h))

  pub node_fits : (a : Acted) → Fits a → Fits (node_resets a)
  node_fits a h = fold_fits port_restarts (λ b port k. restarts_fits b (linked_at b.controller port) k) (ports_of a.controller) (resets_gsmp a) (record { ports = h.ports; queue = h.queue })

  -- *Asking*
  pub asks_fits : (a : Acted) (request : Request) → Fits a → Fits (asks a request)
  asks_fits a request h = on_both Fits (is_estab a.controller.adjacency.state) (if a.controller.desk.next == last_transaction then node_resets a else asks_next a request) a
      (on_both Fits (a.controller.desk.next == last_transaction) (node_resets a) (asks_next a request) (node_fits a h)
      (sends_request_fits (with_desk a (asked a.controller.desk request)) (record { number = a.controller.desk.next; request = request }) (record { ports = h.ports; queue = h.queue }))) h

  pub takes_back_fits : (a : Acted) (input output : End) → Fits a → Fits (takes_back a input output)
  takes_back_fits a input output h = on_both Fits (is_led_home a.controller.desk input (home_of input)) a (asks a (MoveBranch input output (home_of input))) h (asks_fits a (MoveBranch input output (home_of input)) h)

  -- *One action*
  does_fits : (port : PortNo) (a : Acted) (action : Action) → Fits a → Fits (does port a action)
  does_fits port a (Say message) h = sends_control_fits a (default_home port).channel (default_payload (ifmp_packet_of a.controller.address (ifmp_octets message))) refl h
  does_fits port a (Ask request needed) h = asks_fits a request h
  does_fits port a (Note item) h = record { ports = h.ports; queue = h.queue }
  does_fits port a (CutChain label) h = cuts_fits a port label h
  does_fits port a (TakeBack input output) h = takes_back_fits a input output h
  does_fits port a (Withdraw input) h = record { ports = h.ports; queue = h.queue }
  does_fits port a actions.Reset h = h

  resets_fits : (a : Acted) (o : Option Linked) → ((linked : Linked) → o ≡ Some linked → Has linked) → Fits a → Fits (resets_of a o)
  resets_fits a None there h = h
  resets_fits a (Some linked) there h = (let w : Work = resets linked.setup (begins a linked) in
      fold_fits (does_in_estab linked.setup.port) (λ b action k. on_both Fits (is_estab b.controller.adjacency.state) (does linked.setup.port b action) b (does_fits linked.setup.port b action k) k) w.actions (with_work a linked w)
      (worked_fits a linked w (kept.resets linked.setup (begins a linked) (there linked refl)) h))

  pub performs_fits : (port : PortNo) (a : Acted) (action : Action) → Fits a → Fits (performs port a action)
  performs_fits port a (Say message) h = does_fits port a (Say message) h
  performs_fits port a (Ask request needed) h = does_fits port a (Ask request needed) h
  performs_fits port a (Note item) h = does_fits port a (Note item) h
  performs_fits port a (CutChain label) h = does_fits port a (CutChain label) h
  performs_fits port a (TakeBack input output) h = does_fits port a (TakeBack input output) h
  performs_fits port a (Withdraw input) h = does_fits port a (Withdraw input) h
  performs_fits port a actions.Reset h = resets_fits a (linked_at a.controller port) (λ linked found. found_fits a port linked found h) h

  -- *A rule of a port*
  pub works_as_fits : (a : Acted) (linked : Linked) (w : Work) → K linked.setup w.port → Fits a → Fits (works_as a linked w)
  works_as_fits a linked w k h = fold_fits (performs_in_estab linked.setup.port) (λ b action k. on_both Fits (is_estab b.controller.adjacency.state) (performs linked.setup.port b action) b (performs_fits linked.setup.port b action k) k) w.actions (with_work a linked w)
      (worked_fits a linked w k h)

  pub at_port_fits : (a : Acted) (port : PortNo) (rule : Rule)
      → ((linked : Linked) → linked_at a.controller port ≡ Some linked → Has linked → K linked.setup (rule linked.setup a.controller.desk (begins a linked)).port) → Fits a → Fits (at_port a port rule)
  at_port_fits a port rule each h = by_found (linked_at a.controller port) refl
    where
      by_found : (o : Option Linked) → linked_at a.controller port ≡ o → Fits (works a rule o)
      by_found None found = h
      by_found (Some linked) found = works_as_fits a linked (rule linked.setup a.controller.desk (begins a linked)) (each linked found (found_fits a port linked found h)) h
