-- what holds of each port of a controller stays so while a port is put back and what it asks is done

use Rattle.std.proofs.Common.{◌≡◌, ℕ, ◌≤◌, ◌<◌, ◌+◌, false, List, [], ◌∷◌, Option, None, Some, refl, sym, subst, arith, fold, if◌then◌else◌}
use Rattle.std.specs.Prelude.{◌^◌, ◌==◌}
use Rattle.law_arrival_views.specs.world_model.Words.{PortNo, End, Channel, Mark, next_control, with_control, is_estab, Request, MoveBranch, nothing_taken, cut, is_led_home, last_transaction, Action, Say, Ask, Note, CutChain, TakeBack, Withdraw, Setup, home_of, Work, resets, restarts, Linked, port_key, linked_at, with_linked, with_desk, chain_of, chains_with, default_channel, sends_control, cuts_of, cuts_label, begins, with_work, closes_by, port_restarts_as, port_restarts_of, port_restarts, resets_gsmp, node_resets, asks_next, asks, takes_back, withdraws_input, does, does_in_estab, resets_as, resets_of, resets_port, performs, performs_in_estab, Rule, works_as, works, at_port}
use Rattle.law_arrival_views.specs.world_model.gsmp_wire.Layout.{octets_of as gsmp_octets}
use Rattle.law_label_steps.specs.ordered_lists.Ordered.{Every}
use Rattle.law_label_steps.proofs.law_port_facts.Keyed.{on_both, at_every, put_every}
use Rattle.law_arrival_views.specs.world_model.port_model.Desk.{asked, message_at}
use Rattle.law_arrival_views.specs.world_model.port_model.declared.action.Action.TheVariants.{Reset}
use Rattle.law_arrival_views.specs.world_model.port_model.Port.{Port}
use Rattle.law_arrival_views.specs.world_model.Controller.{Acted, ports_of, note}
use Rattle.law_arrival_views.specs.world_model.Sending.{sends}
use Rattle.law_arrival_views.proofs.law_controller_views.Sends.{sent_cases}

-- *A property of ports*, by what stays the same of them and the port, that a reset and a restart keep, where the next
-- instance fits
abbrev pub OfPort : Type 1
OfPort = Setup → Port → Type 0

abbrev pub idle_work : Port → (instances : ℕ) → Work
idle_work port instances = record { port = port; actions = []; halted = false; instances = instances }

pub record IsClosed (P : Setup → Port → Type 0) : Type 0 where
  pub reset : (setup : Setup) (port : Port) (n : ℕ) → n + 1 < 2 ^ 32 → P setup port → P setup (resets setup (idle_work port n)).port
  pub restart : (setup : Setup) (port : Port) (n : ℕ) → n + 1 < 2 ^ 32 → P setup port → P setup (restarts setup (idle_work port n)).port

abbrev pub Of : (Setup → Port → Type 0) → Linked → Type 0
Of P linked = P linked.setup linked.port

abbrev pub Each : (Setup → Port → Type 0) → Acted → Type 0
Each P a = Every (Of P) a.controller.ports

-- no instance is given back, and what holds of each port stays so where the instances given out fit
pub record Goes (P : Setup → Port → Type 0) (a b : Acted) : Type 0 where
  pub rises : a.numbers.instances ≤ b.numbers.instances
  pub keeps : b.numbers.instances < 2 ^ 32 → Each P a → Each P b

module _ (P : Setup → Port → Type 0) (closed : IsClosed P) where
  abbrev pub To : Acted → Acted → Type 0
  To a b = Goes P a b

  pub stays : (a : Acted) → To a a
  stays a = record { rises = omega arith; keeps = λ f h. h }

  pub goes_on : (a b c : Acted) → To a b → To b c → To a c
  goes_on a b c g k = record { rises = omega (arith, g.rises, k.rises); keeps = λ f h. k.keeps f (g.keeps (omega (arith, f, k.rises)) h) }

  pub goes_fold : {A : Type 0} (f : Acted → A → Acted) → ((a : Acted) (x : A) → To a (f a x)) → (xs : List A) (a : Acted) → To a (fold f a xs)
  goes_fold f each [] a = stays a
  goes_fold f each (x ∷ xs) a = goes_on a (f a x) (fold f (f a x) xs) (each a x) (goes_fold f each xs (f a x))

  pub same_ports : (a b : Acted) → b.controller.ports ≡ a.controller.ports → b.numbers.instances ≡ a.numbers.instances → To a b
  same_ports a b ports same = record { rises = omega (arith, same); keeps = λ f h. subst (Every (Of P)) (sym ports) h }

  pub put_goes : (a : Acted) (linked after : Linked) (q : PortNo) → linked_at a.controller q ≡ Some linked → after.setup ≡ linked.setup → after.port ≡ linked.port → To a (with_linked a after)
  put_goes a linked after q found setup port = record {
    rises = omega arith;
    keeps = λ f h. put_every port_key (Of P) after a.controller.ports (subst (λ (s : Setup). P s after.port) (sym setup)
        (subst (λ (p : Port). P linked.setup p) (sym port) (at_every port_key (Of P) q.0 a.controller.ports linked h found))) h;
  }

  pub work_goes : (a : Acted) (linked : Linked) (w : Work) → a.numbers.instances ≤ w.instances → (w.instances < 2 ^ 32 → Each P a → P linked.setup w.port) → To a (with_work a linked w)
  work_goes a linked w rises fits = record { rises = rises; keeps = λ f h. put_every port_key (Of P) (record linked { port = w.port }) a.controller.ports (fits f h) h }

  pub sends_goes : (a : Acted) (channel : Channel) (mark : Mark) (payload : List ℕ) → To a (sends a channel mark payload)
  sends_goes a channel mark payload = sent_cases (To a) a channel mark payload (same_ports a _ refl refl) (same_ports a _ refl refl)

  pub control_goes : (a : Acted) (channel : Channel) (payload : List ℕ) → To a (sends_control a channel payload)
  control_goes a channel payload = goes_on a (record a { numbers = with_control a.numbers }) (sends_control a channel payload) (same_ports a (record a { numbers = with_control a.numbers }) refl refl)
      (sends_goes (record a { numbers = with_control a.numbers }) channel (next_control a.numbers) payload)

  cuts_of_goes : (a : Acted) (q : PortNo) (label : ℕ) (o : Option Linked) → linked_at a.controller q ≡ o → To a (cuts_of a label o)
  cuts_of_goes a q label None found = stays a
  cuts_of_goes a q label (Some linked) found =
      let noted : Acted = record a { notes = cut a.notes (chain_of linked.chains label) } in
      goes_on a noted (cuts_of a label (Some linked)) (same_ports a noted refl refl)
      (put_goes noted linked (record linked { chains = chains_with linked.chains label nothing_taken }) q found refl refl)

  pub cuts_goes : (a : Acted) (q : PortNo) (label : ℕ) → To a (cuts_label q a label)
  cuts_goes a q label = cuts_of_goes a q label (linked_at a.controller q) refl

  closes_goes : (q : PortNo) (a : Acted) (action : Action) → To a (closes_by q a action)
  closes_goes q a (Say message) = stays a
  closes_goes q a (Ask request needed) = stays a
  closes_goes q a (Note item) = same_ports a (note a item) refl refl
  closes_goes q a (CutChain label) = cuts_goes a q label
  closes_goes q a (TakeBack input output) = stays a
  closes_goes q a (Withdraw input) = stays a
  closes_goes q a Reset = stays a

  port_restarts_goes : (a : Acted) (q : PortNo) → To a (port_restarts a q)
  port_restarts_goes a q = by (linked_at a.controller q) refl
    where
      by : (o : Option Linked) → linked_at a.controller q ≡ o → To a (port_restarts_of a o)
      by None found = stays a
      by (Some linked) found =
          let w : Work = restarts linked.setup (begins a linked) in
          goes_on a (with_work a linked w) (port_restarts_as a linked w)
          (work_goes a linked w (omega arith) (λ f h. closed.restart linked.setup linked.port a.numbers.instances f (at_every port_key (Of P) q.0 a.controller.ports linked h found)))
          (goes_fold (closes_by linked.setup.port) (closes_goes linked.setup.port) w.actions (with_work a linked w))

  pub node_resets_goes : (a : Acted) → To a (node_resets a)
  node_resets_goes a = goes_on a (resets_gsmp a) (node_resets a) (record { rises = omega arith; keeps = λ f h. h })
      (goes_fold port_restarts port_restarts_goes (ports_of a.controller) (resets_gsmp a))

  pub asks_goes : (a : Acted) (request : Request) → To a (asks a request)
  asks_goes a request = on_both (To a) (is_estab a.controller.adjacency.state) (if a.controller.desk.next == last_transaction then node_resets a else asks_next a request) a
      (on_both (To a) (a.controller.desk.next == last_transaction) (node_resets a) (asks_next a request) (node_resets_goes a)
      (goes_on a (with_desk a (asked a.controller.desk request)) (asks_next a request) (same_ports a (with_desk a (asked a.controller.desk request)) refl refl)
      (control_goes (with_desk a (asked a.controller.desk request)) default_channel
      (gsmp_octets (message_at (asked a.controller.desk request) (record { number = a.controller.desk.next; request = request })))))) (stays a)

  pub takes_back_goes : (a : Acted) (input output : End) → To a (takes_back a input output)
  takes_back_goes a input output = on_both (To a) (is_led_home a.controller.desk input (home_of input)) a (asks a (MoveBranch input output (home_of input))) (stays a)
      (asks_goes a (MoveBranch input output (home_of input)))

  does_goes : (q : PortNo) (a : Acted) (action : Action) → To a (does q a action)
  does_goes q a (Say message) = control_goes a _ _
  does_goes q a (Ask request needed) = asks_goes a request
  does_goes q a (Note item) = same_ports a (note a item) refl refl
  does_goes q a (CutChain label) = cuts_goes a q label
  does_goes q a (TakeBack input output) = takes_back_goes a input output
  does_goes q a (Withdraw input) = same_ports a (withdraws_input a input) refl refl
  does_goes q a Reset = stays a

  pub done_goes : (q : PortNo) (a : Acted) (action : Action) → To a (does_in_estab q a action)
  done_goes q a action = on_both (To a) (is_estab a.controller.adjacency.state) (does q a action) a (does_goes q a action) (stays a)

  resets_port_goes : (a : Acted) (q : PortNo) → To a (resets_port a q)
  resets_port_goes a q = by (linked_at a.controller q) refl
    where
      by : (o : Option Linked) → linked_at a.controller q ≡ o → To a (resets_of a o)
      by None found = stays a
      by (Some linked) found =
          let w : Work = resets linked.setup (begins a linked) in
          goes_on a (with_work a linked w) (resets_as a linked w)
          (work_goes a linked w (omega arith) (λ f h. closed.reset linked.setup linked.port a.numbers.instances f (at_every port_key (Of P) q.0 a.controller.ports linked h found)))
          (goes_fold (does_in_estab linked.setup.port) (done_goes linked.setup.port) w.actions (with_work a linked w))

  pub performs_goes : (q : PortNo) (a : Acted) (action : Action) → To a (performs q a action)
  performs_goes q a (Say message) = does_goes q a (Say message)
  performs_goes q a (Ask request needed) = does_goes q a (Ask request needed)
  performs_goes q a (Note item) = does_goes q a (Note item)
  performs_goes q a (CutChain label) = does_goes q a (CutChain label)
  performs_goes q a (TakeBack input output) = does_goes q a (TakeBack input output)
  performs_goes q a (Withdraw input) = does_goes q a (Withdraw input)
  performs_goes q a Reset = resets_port_goes a q

  pub performed_goes : (q : PortNo) (a : Acted) (action : Action) → To a (performs_in_estab q a action)
  performed_goes q a action = on_both (To a) (is_estab a.controller.adjacency.state) (performs q a action) a (performs_goes q a action) (stays a)

  -- *A rule of a port*
  pub rule_goes : (a : Acted) (q : PortNo) (rule : Rule)
      → ((linked : Linked) → linked_at a.controller q ≡ Some linked → a.numbers.instances ≤ (rule linked.setup a.controller.desk (begins a linked)).instances)
      → ((linked : Linked) → linked_at a.controller q ≡ Some linked → (rule linked.setup a.controller.desk (begins a linked)).instances < 2 ^ 32 → P linked.setup linked.port
      → P linked.setup (rule linked.setup a.controller.desk (begins a linked)).port)
      → To a (at_port a q rule)
  rule_goes a q rule drawn keeps = by (linked_at a.controller q) refl
    where
      by : (o : Option Linked) → linked_at a.controller q ≡ o → To a (works a rule o)
      by None found = stays a
      by (Some linked) found =
          let w : Work = rule linked.setup a.controller.desk (begins a linked) in
          goes_on a (with_work a linked w) (works_as a linked w)
          (work_goes a linked w (drawn linked found) (λ f h. keeps linked found f (at_every port_key (Of P) q.0 a.controller.ports linked h found)))
          (goes_fold (performs_in_estab linked.setup.port) (performed_goes linked.setup.port) w.actions (with_work a linked w))
