-- while the side with the switch is in Estab, whether the switch is met stays, but where meeting it ends

use Rattle.std.proofs.Common.{◌≡◌, ℕ, true, List, [], ◌∷◌, length, Option, None, Some, refl, sym, ◌∙◌, if◌then◌else◌, fold}
use Rattle.std.specs.Prelude.{◌==◌, nat_le}
use Rattle.law_controller_facts.specs.world_model.Words.{PortNo, Channel, End, Mark, next_control, with_control, number_of_channel, is_estab, Request, MoveBranch, ifmp_packet_of, default_payload, Loss, Part, PoolFull, noted, frame_cells, made, is_led_home, last_transaction, Action, Say, Ask, Note, CutChain, TakeBack, Withdraw, Setup, home_of, Work, resets, halts_if_spent, Controller, Linked, linked_at, with_desk, default_channel, default_home, sends_control, asks_next, asks, takes_back, begins, with_work, cuts_of, node_resets, does, does_in_estab, resets_as, resets_of, performs, performs_in_estab, Rule, works_as, works, at_port, join_of, parts, releases_join, releases_input, released_inputs, resets_spent, releases}
use Rattle.law_controller_facts.specs.world_model.gsmp_wire.Layout.{octets_of as gsmp_octets}
use Rattle.law_controller_facts.specs.world_model.ifmp_wire.Message.{octets_of as ifmp_octets}
use Rattle.law_controller_facts.specs.world_model.frame_model.Sending.{Sender}
use Rattle.law_controller_facts.specs.world_model.port_model.Desk.{asked, message_at}
use Rattle.law_controller_facts.specs.world_model.port_model.declared.action.Action.TheVariants as actions
use Rattle.law_controller_facts.specs.world_model.port_model.Joins as port_joins
use Rattle.law_controller_facts.proofs.law_port_facts.Keyed.{on_both}
use Rattle.law_controller_facts.specs.world_model.Controller.{Acted, ports_of, note, free_slots}
use Rattle.law_controller_facts.specs.world_model.Sending.{with_cells, sends}
use Rattle.law_controller_facts.specs.world_model.Joins.{Join}
use Rattle.law_controller.proofs.Holding.{node_closed}

module _ (setups : List Setup) where
  pub record Steady (a b : Acted) : Type 0 where
    pub before : is_estab b.controller.adjacency.state ≡ true → is_estab a.controller.adjacency.state ≡ true
    pub met : is_estab b.controller.adjacency.state ≡ true → b.controller.has_met ≡ a.controller.has_met

  pub rests : (a : Acted) → Steady a a
  rests a = record { before = λ e. e; met = λ e. refl }

  pub then_on : (a b c : Acted) → Steady a b → Steady b c → Steady a c
  then_on a b c first second = record { before = λ e. first.before (second.before e); met = λ e. second.met e ∙ first.met (second.before e) }

  pub fold_steady : {A : Type 0} (f : Acted → A → Acted) → ((a : Acted) (x : A) → Steady a (f a x)) → (xs : List A) (a : Acted) → Steady a (fold f a xs)
  fold_steady f each [] a = rests a
  fold_steady f each (x ∷ xs) a = then_on a (f a x) (fold f a (x ∷ xs)) (each a x) (fold_steady f each xs (f a x))

  pub sends_steady : (a : Acted) (channel : Channel) (mark : Mark) (payload : List ℕ) → Steady a (sends a channel mark payload)
  sends_steady a channel mark payload = on_both (λ (s : Sender Controller). Steady a (record a { controller = s.queues; notes = s.notes })) (nat_le (length (frame_cells channel mark payload)) (free_slots a.controller))
      (record { queues = with_cells a.controller (frame_cells channel mark payload); notes = made a.notes mark payload })
      (record { queues = a.controller; notes = noted (made a.notes mark payload) (Loss mark PoolFull) })
      (record { before = λ e. e; met = λ e. refl }) (record { before = λ e. e; met = λ e. refl })

  pub sends_control_steady : (a : Acted) (channel : Channel) (payload : List ℕ) → Steady a (sends_control a channel payload)
  sends_control_steady a channel payload = (let k : Steady (record a { numbers = with_control a.numbers }) (sends_control a channel payload) = sends_steady (record a { numbers = with_control a.numbers }) channel (next_control a.numbers) payload in
      record { before = k.before; met = k.met })

  closed_steady : (a : Acted) → Steady a (node_resets a)
  closed_steady a = record { before = λ e. absurd (cc (sym e ∙ node_closed setups a)); met = λ e. absurd (cc (sym e ∙ node_closed setups a)) }

  pub asks_steady : (a : Acted) (request : Request) → Steady a (asks a request)
  asks_steady a request = on_both (Steady a) (is_estab a.controller.adjacency.state) (if a.controller.desk.next == last_transaction then node_resets a else asks_next a request) a
      (on_both (Steady a) (a.controller.desk.next == last_transaction) (node_resets a) (asks_next a request) (closed_steady a) next_steady) (rests a)
    where
      next_steady : Steady a (asks_next a request)
      next_steady = (let k : Steady (with_desk a (asked a.controller.desk request)) (asks_next a request) = sends_control_steady (with_desk a (asked a.controller.desk request)) default_channel
          (gsmp_octets (message_at (asked a.controller.desk request) (record { number = a.controller.desk.next; request = request }))) in
          record { before = k.before; met = k.met })

  takes_back_steady : (a : Acted) (input output : End) → Steady a (takes_back a input output)
  takes_back_steady a input output = on_both (Steady a) (is_led_home a.controller.desk input (home_of input)) a (asks a (MoveBranch input output (home_of input))) (rests a) (asks_steady a (MoveBranch input output (home_of input)))

  cuts_steady : (a : Acted) (label : ℕ) (o : Option Linked) → Steady a (cuts_of a label o)
  cuts_steady a label None = rests a
  cuts_steady a label (Some linked) = record { before = λ e. e; met = λ e. refl }

  does_steady : (port : PortNo) (a : Acted) (x : Action) → Steady a (does port a x)
  does_steady port a (Say message) = sends_control_steady a (default_home port).channel (default_payload (ifmp_packet_of a.controller.address (ifmp_octets message)))
  does_steady port a (Ask request needed) = asks_steady a request
  does_steady port a (Note item) = record { before = λ e. e; met = λ e. refl }
  does_steady port a (CutChain label) = cuts_steady a label (linked_at a.controller port)
  does_steady port a (TakeBack input output) = takes_back_steady a input output
  does_steady port a (Withdraw input) = record { before = λ e. e; met = λ e. refl }
  does_steady port a actions.Reset = rests a

  resets_of_steady : (a : Acted) (o : Option Linked) → Steady a (resets_of a o)
  resets_of_steady a None = rests a
  resets_of_steady a (Some linked) =
      let w : Work = resets linked.setup (begins a linked) in
      then_on a (with_work a linked w) (resets_as a linked w) (record { before = λ e. e; met = λ e. refl })
      (fold_steady (does_in_estab linked.setup.port) (λ b x. on_both (Steady b) (is_estab b.controller.adjacency.state) (does linked.setup.port b x) b (does_steady linked.setup.port b x) (rests b)) w.actions (with_work a linked w))

  performs_steady : (port : PortNo) (a : Acted) (x : Action) → Steady a (performs port a x)
  performs_steady port a (Say message) = does_steady port a (Say message)
  performs_steady port a (Ask request needed) = does_steady port a (Ask request needed)
  performs_steady port a (Note item) = does_steady port a (Note item)
  performs_steady port a (CutChain label) = does_steady port a (CutChain label)
  performs_steady port a (TakeBack input output) = does_steady port a (TakeBack input output)
  performs_steady port a (Withdraw input) = does_steady port a (Withdraw input)
  performs_steady port a actions.Reset = resets_of_steady a (linked_at a.controller port)

  works_steady : (a : Acted) (rule : Rule) (o : Option Linked) → Steady a (works a rule o)
  works_steady a rule None = rests a
  works_steady a rule (Some linked) =
      let w : Work = rule linked.setup a.controller.desk (begins a linked) in
      then_on a (with_work a linked w) (works_as a linked w) (record { before = λ e. e; met = λ e. refl })
      (fold_steady (performs_in_estab linked.setup.port) (λ b x. on_both (Steady b) (is_estab b.controller.adjacency.state) (performs linked.setup.port b x) b (performs_steady linked.setup.port b x) (rests b)) w.actions (with_work a linked w))

  pub at_port_steady : (a : Acted) (port : PortNo) (rule : Rule) → Steady a (at_port a port rule)
  at_port_steady a port rule = works_steady a rule (linked_at a.controller port)

  parts_steady : (a : Acted) (input : End) → Steady a (parts a input)
  parts_steady a input = (let noted : Acted = note a (Part a.controller.node input.port (number_of_channel input.channel)) in
      let k : Steady noted (parts a input) = at_port_steady noted input.port (λ setup desk w. port_joins.parted w (number_of_channel input.channel)) in
      record { before = k.before; met = k.met })

  releases_join_steady : (a : Acted) (o : Option Join) → Steady a (releases_join a o)
  releases_join_steady a None = rests a
  releases_join_steady a (Some join) = then_on a (parts a join.input) (releases_join a (Some join)) (parts_steady a join.input)
      (at_port_steady (parts a join.input) join.port (λ setup desk w. port_joins.given_back w join.grant))

  pub releases_steady : (a : Acted) (request : Request) → Steady a (releases a request)
  releases_steady a request =
      let released : Acted = fold releases_input a (released_inputs a.controller request) in
      then_on a released (releases a request) (fold_steady releases_input (λ b input. releases_join_steady b (join_of b.controller input)) (released_inputs a.controller request) a)
      (fold_steady resets_spent (λ b port. at_port_steady b port (λ setup desk w. halts_if_spent w)) (ports_of released.controller) released)
