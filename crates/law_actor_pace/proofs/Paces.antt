-- a controller keeps pace: what its smallest rules do to the frame numbers of what waits for the switch, and to the
-- changes of routes that came and the table that they lead to, and that its node and its ports stay

use Rattle.std.proofs.Common.{◌≡◌, ℕ, ◌≤◌, true, false, List, [], ◌∷◌, length, Option, None, Some, refl, sym, ◌∙◌, ap, subst, arith, if◌then◌else◌, map, fold}
use Rattle.std.specs.Prelude.{◌==◌, nat_eq, nat_le}
use Rattle.std.proofs.lemmas.Bool.Decides.{nat_tests}
use Rattle.world_model.specs.Words.{PortNo, Channel, End, Mark, with_control, next_control, is_estab, Request, MoveBranch, Loss, PoolFull, noted, changed, frame_cells, made, nothing_taken, put, is_led_home, last_transaction, Action, Say, Ask, Note, CutChain, TakeBack, Withdraw, home_of, Work, resets, restarts, Controller, Linked, port_key, linked_at, with_desk, chains_with, default_channel, default_home, sends_control, says_gsmp, asks_next, asks, takes_back, cuts_of, cuts_label, cuts_default_of, cuts_default, cuts_gsmp, begins, with_work, closes_by, port_restarts_as, port_restarts_of, port_restarts, resets_gsmp, node_resets, node_restarts, does, does_in_estab, resets_of, performs, performs_in_estab, Rule, works_as, works, at_port}
use Rattle.world_model.specs.gsmp_wire.Layout.{octets_of as gsmp_octets}
use Rattle.world_model.specs.gsmp_wire.declared.message.Message.{Message as GsmpMessage}
use Rattle.world_model.specs.frame_model.Sending.{Sender}
use Rattle.ordered_lists.proofs.Every.{every_join}
use Rattle.world_model.specs.port_model.Desk.{asked, message_at}
use Rattle.world_model.specs.port_model.declared.action.Action.TheVariants.{Reset}
use Rattle.world_model.specs.Controller.{Acted, free_slots, ports_of, note}
use Rattle.world_model.specs.Sending.{with_cells, sends}
use Rattle.law_actor_pace.specs.Pace.{IsUpTo, AreUpTo, changes_of}
use Rattle.law_actor_pace.proofs.Cells.{frame_up_to, on_both}

-- a port that is put back is at its place
pub ports_put : (y : Linked) (xs : List Linked) → map (λ (linked : Linked). linked.setup.port) (put port_key y xs) ≡ map (λ (linked : Linked). linked.setup.port) xs
ports_put y [] = refl
ports_put y (z ∷ xs) = elim (nat_eq (port_key z) (port_key y)) as (λ t. nat_eq (port_key z) (port_key y) ≡ t
    → map (λ (linked : Linked). linked.setup.port) (if t then y ∷ xs else z ∷ put port_key y xs) ≡ map (λ (linked : Linked). linked.setup.port) (z ∷ xs)) [
      | true ↦ λ e. (let one : y.setup.port.0 ≡ z.setup.port.0 = grind (arith, nat_tests, e) in ap (λ (n : ℕ). record { 0 = n } ∷ map (λ (linked : Linked). linked.setup.port) xs) one)
      | false ↦ λ e. ap (λ (ps : List PortNo). z.setup.port ∷ ps) (ports_put y xs)
    ] refl

-- the marks that are given out never fall, no cell joins the queue with a greater frame number than a floor or
-- those, and no change of routes comes or is taken; or one that waits is taken
module _ (floor : ℕ) where
  pub record Paces (a b : Acted) : Type 0 where
    pub controls : a.numbers.controls ≤ b.numbers.controls
    pub queue : (most : ℕ) → floor ≤ most → b.numbers.controls ≤ most → AreUpTo most a.controller.queue → AreUpTo most b.controller.queue
    pub waiting : b.controller.waiting ≡ a.controller.waiting
    pub taken : b.controller.changes ≡ a.controller.changes
    pub table : b.controller.table ≡ a.controller.table
    pub node : b.controller.node ≡ a.controller.node
    pub ports : ports_of b.controller ≡ ports_of a.controller

  pub itself : (a : Acted) → Paces a a
  itself a = record { controls = omega arith; queue = λ most from le h. h; waiting = refl; taken = refl; table = refl; node = refl; ports = refl }

  pub paces_then : (a b c : Acted) → Paces a b → Paces b c → Paces a c
  paces_then a b c p q = record {
    controls = omega (arith, p.controls, q.controls);
    queue = λ most from le h. q.queue most from le (p.queue most from (omega (arith, le, q.controls)) h);
    waiting = q.waiting ∙ p.waiting;
    taken = q.taken ∙ p.taken;
    table = q.table ∙ p.table;
    node = q.node ∙ p.node;
    ports = q.ports ∙ p.ports;
  }

  -- and where changes of routes are taken, as many came, and the table that they lead to is the same
  pub record Follows (a b : Acted) : Type 0 where
    pub controls : a.numbers.controls ≤ b.numbers.controls
    pub queue : (most : ℕ) → floor ≤ most → b.numbers.controls ≤ most → AreUpTo most a.controller.queue → AreUpTo most b.controller.queue
    pub changes : changes_of b.controller ≡ changes_of a.controller
    pub to_be : fold changed b.controller.table b.controller.waiting ≡ fold changed a.controller.table a.controller.waiting
    pub node : b.controller.node ≡ a.controller.node
    pub ports : ports_of b.controller ≡ ports_of a.controller

  pub follows : (a b : Acted) → Paces a b → Follows a b
  follows a b p = record { controls = p.controls; queue = p.queue; changes = omega (arith, p.taken, ap length p.waiting); to_be = λ i. fold changed (p.table i) (p.waiting i); node = p.node; ports = p.ports }

  pub follows_then : (a b c : Acted) → Follows a b → Follows b c → Follows a c
  follows_then a b c p q = record {
    controls = omega (arith, p.controls, q.controls);
    queue = λ most from le h. q.queue most from le (p.queue most from (omega (arith, le, q.controls)) h);
    changes = q.changes ∙ p.changes;
    to_be = q.to_be ∙ p.to_be;
    node = q.node ∙ p.node;
    ports = q.ports ∙ p.ports;
  }

  pub paces_fold : {A : Type 0} (f : Acted → A → Acted) → ((a : Acted) (x : A) → Paces a (f a x)) → (xs : List A) (a : Acted) → Paces a (fold f a xs)
  paces_fold f each [] a = itself a
  paces_fold f each (x ∷ xs) a = paces_then a (f a x) (fold f (f a x) xs) (each a x) (paces_fold f each xs (f a x))

  -- *Sending*
  pub sends_paces : (a : Acted) (channel : Channel) (mark : Mark) (payload : List ℕ)
      → ((most : ℕ) → floor ≤ most → a.numbers.controls ≤ most → mark.frame ≤ most) → Paces a (sends a channel mark payload)
  sends_paces a channel mark payload low = on_both (λ (s : Sender Controller). Paces a (record a { controller = s.queues; notes = s.notes })) (nat_le (length (frame_cells channel mark payload)) (free_slots a.controller))
      (record { queues = with_cells a.controller (frame_cells channel mark payload); notes = made a.notes mark payload })
      (record { queues = a.controller; notes = noted (made a.notes mark payload) (Loss mark PoolFull) })
      (record {
        controls = omega arith;
        queue = λ most from le h. every_join (IsUpTo most) a.controller.queue (frame_cells channel mark payload) h (frame_up_to most channel mark payload (low most from le));
        waiting = refl;
        taken = refl;
        table = refl;
        node = refl;
        ports = refl;
      })
      (record { controls = omega arith; queue = λ most from le h. h; waiting = refl; taken = refl; table = refl; node = refl; ports = refl })

  pub sends_control_paces : (a : Acted) (channel : Channel) (payload : List ℕ) → Paces a (sends_control a channel payload)
  sends_control_paces a channel payload =
      let given : Acted = record a { numbers = with_control a.numbers } in
      paces_then a given (sends_control a channel payload) (record { controls = omega arith; queue = λ most from le h. h; waiting = refl; taken = refl; table = refl; node = refl; ports = refl })
      (sends_paces given channel (next_control a.numbers) payload (λ most from le. le))

  pub says_gsmp_paces : (a : Acted) (message : GsmpMessage) → Paces a (says_gsmp a message)
  says_gsmp_paces a message = sends_control_paces a default_channel (gsmp_octets message)

  -- *Nothing that is looked at changes*
  pub same : (a b : Acted) → b.numbers.controls ≡ a.numbers.controls → b.controller.queue ≡ a.controller.queue → b.controller.waiting ≡ a.controller.waiting
      → b.controller.changes ≡ a.controller.changes → b.controller.table ≡ a.controller.table → b.controller.node ≡ a.controller.node → ports_of b.controller ≡ ports_of a.controller → Paces a b
  same a b controls queue waiting taken table node ports = record {
    controls = omega (arith, controls);
    queue = λ most from le h. subst (AreUpTo most) (sym queue) h;
    waiting = waiting;
    taken = taken;
    table = table;
    node = node;
    ports = ports;
  }

  cuts_of_paces : (a : Acted) (label : ℕ) (o : Option Linked) → Paces a (cuts_of a label o)
  cuts_of_paces a label None = itself a
  cuts_of_paces a label (Some linked) = same a (cuts_of a label (Some linked)) refl refl refl refl refl refl (ports_put (record linked { chains = chains_with linked.chains label nothing_taken }) a.controller.ports)

  cuts_label_paces : (port : PortNo) (a : Acted) (label : ℕ) → Paces a (cuts_label port a label)
  cuts_label_paces port a label = cuts_of_paces a label (linked_at a.controller port)

  cuts_default_of_paces : (a : Acted) (o : Option Linked) → Paces a (cuts_default_of a o)
  cuts_default_of_paces a None = itself a
  cuts_default_of_paces a (Some linked) = same a (cuts_default_of a (Some linked)) refl refl refl refl refl refl (ports_put (record linked { reassembly = nothing_taken }) a.controller.ports)

  -- *Node reset*
  closes_by_paces : (port : PortNo) (a : Acted) (action : Action) → Paces a (closes_by port a action)
  closes_by_paces port a (Say message) = itself a
  closes_by_paces port a (Ask request needed) = itself a
  closes_by_paces port a (Note item) = same a (note a item) refl refl refl refl refl refl refl
  closes_by_paces port a (CutChain label) = cuts_label_paces port a label
  closes_by_paces port a (TakeBack input output) = itself a
  closes_by_paces port a (Withdraw input) = itself a
  closes_by_paces port a Reset = itself a

  port_restarts_of_paces : (a : Acted) (o : Option Linked) → Paces a (port_restarts_of a o)
  port_restarts_of_paces a None = itself a
  port_restarts_of_paces a (Some linked) =
      let w : Work = restarts linked.setup (begins a linked) in
      paces_then a (with_work a linked w) (port_restarts_as a linked w) (same a (with_work a linked w) refl refl refl refl refl refl (ports_put (record linked { port = w.port }) a.controller.ports))
      (paces_fold (closes_by linked.setup.port) (closes_by_paces linked.setup.port) w.actions (with_work a linked w))

  pub node_resets_paces : (a : Acted) → Paces a (node_resets a)
  node_resets_paces a = paces_then a (resets_gsmp a) (node_resets a) (same a (resets_gsmp a) refl refl refl refl refl refl refl)
      (paces_fold port_restarts (λ b port. port_restarts_of_paces b (linked_at b.controller port)) (ports_of a.controller) (resets_gsmp a))

  -- *Asking*
  next_paces : (a : Acted) (request : Request) → Paces a (asks_next a request)
  next_paces a request =
      let entered : Acted = with_desk a (asked a.controller.desk request) in
      paces_then a entered (asks_next a request) (same a entered refl refl refl refl refl refl refl)
      (says_gsmp_paces entered (message_at entered.controller.desk (record { number = a.controller.desk.next; request = request })))

  pub asks_paces : (a : Acted) (request : Request) → Paces a (asks a request)
  asks_paces a request = on_both (Paces a) (is_estab a.controller.adjacency.state) (if a.controller.desk.next == last_transaction then node_resets a else asks_next a request) a
      (on_both (Paces a) (a.controller.desk.next == last_transaction) (node_resets a) (asks_next a request) (node_resets_paces a) (next_paces a request))
      (itself a)

  pub takes_back_paces : (a : Acted) (input output : End) → Paces a (takes_back a input output)
  takes_back_paces a input output = on_both (Paces a) (is_led_home a.controller.desk input (home_of input)) a (asks a (MoveBranch input output (home_of input)))
      (itself a) (asks_paces a (MoveBranch input output (home_of input)))

  -- *Actions*
  does_paces : (port : PortNo) (a : Acted) (action : Action) → Paces a (does port a action)
  does_paces port a (Say message) = sends_control_paces a (default_home port).channel _
  does_paces port a (Ask request needed) = asks_paces a request
  does_paces port a (Note item) = same a (note a item) refl refl refl refl refl refl refl
  does_paces port a (CutChain label) = cuts_label_paces port a label
  does_paces port a (TakeBack input output) = takes_back_paces a input output
  does_paces port a (Withdraw input) = same a (does port a (Withdraw input)) refl refl refl refl refl refl refl
  does_paces port a Reset = itself a

  does_in_estab_paces : (port : PortNo) (a : Acted) (action : Action) → Paces a (does_in_estab port a action)
  does_in_estab_paces port a action = on_both (Paces a) (is_estab a.controller.adjacency.state) (does port a action) a (does_paces port a action) (itself a)

  resets_of_paces : (a : Acted) (o : Option Linked) → Paces a (resets_of a o)
  resets_of_paces a None = itself a
  resets_of_paces a (Some linked) =
      let w : Work = resets linked.setup (begins a linked) in
      paces_then a (with_work a linked w) (fold (does_in_estab linked.setup.port) (with_work a linked w) w.actions) (same a (with_work a linked w) refl refl refl refl refl refl (ports_put (record linked { port = w.port }) a.controller.ports))
      (paces_fold (does_in_estab linked.setup.port) (does_in_estab_paces linked.setup.port) w.actions (with_work a linked w))

  performs_paces : (port : PortNo) (a : Acted) (action : Action) → Paces a (performs port a action)
  performs_paces port a (Say message) = does_paces port a (Say message)
  performs_paces port a (Ask request needed) = does_paces port a (Ask request needed)
  performs_paces port a (Note item) = does_paces port a (Note item)
  performs_paces port a (CutChain label) = does_paces port a (CutChain label)
  performs_paces port a (TakeBack input output) = does_paces port a (TakeBack input output)
  performs_paces port a (Withdraw input) = does_paces port a (Withdraw input)
  performs_paces port a Reset = resets_of_paces a (linked_at a.controller port)

  performs_in_estab_paces : (port : PortNo) (a : Acted) (action : Action) → Paces a (performs_in_estab port a action)
  performs_in_estab_paces port a action = on_both (Paces a) (is_estab a.controller.adjacency.state) (performs port a action) a (performs_paces port a action) (itself a)

  -- *A rule of a port*
  works_paces : (a : Acted) (rule : Rule) (o : Option Linked) → Paces a (works a rule o)
  works_paces a rule None = itself a
  works_paces a rule (Some linked) =
      let w : Work = rule linked.setup a.controller.desk (begins a linked) in
      paces_then a (with_work a linked w) (works_as a linked w) (same a (with_work a linked w) refl refl refl refl refl refl (ports_put (record linked { port = w.port }) a.controller.ports))
      (paces_fold (performs_in_estab linked.setup.port) (performs_in_estab_paces linked.setup.port) w.actions (with_work a linked w))

  pub at_port_paces : (a : Acted) (port : PortNo) (rule : Rule) → Paces a (at_port a port rule)
  at_port_paces a port rule = works_paces a rule (linked_at a.controller port)

  -- *Restart*
  pub node_restarts_paces : (a : Acted) → Paces a (node_restarts a)
  node_restarts_paces a =
      let fresh : Acted = node_resets a in
      paces_then a fresh (node_restarts a) (node_resets_paces a)
      (paces_then fresh (cuts_gsmp fresh) (node_restarts a) (same fresh (cuts_gsmp fresh) refl refl refl refl refl refl refl)
      (paces_fold cuts_default (λ b port. cuts_default_of_paces b (linked_at b.controller port)) (ports_of a.controller) (cuts_gsmp fresh)))
