-- no Delete All of a port stands, and the switch is met, while other things are done and asked

use Rattle.std.proofs.Common.{◌≡◌, ℕ, true, false, not, List, length, Option, None, Some, refl, sym, ◌∙◌, if◌then◌else◌, filter}
use Rattle.std.specs.Prelude.{◌==◌, nat_le}
use Rattle.law_controller.specs.world_model.Words.{PortNo, Channel, End, Mark, next_control, with_control, is_estab, Request, MoveBranch, ifmp_packet_of, default_payload, Loss, PoolFull, noted, frame_cells, made, is_on, is_delete_all, withdraws, Desk, Standing, all_on, is_led_home, last_transaction, Action, Say, Ask, Note, CutChain, TakeBack, Withdraw, Setup, home_of, Controller, Linked, linked_at, with_desk, default_channel, default_home, asks_next, asks, takes_back, cuts_of, node_resets, does, does_in_estab}
use Rattle.law_controller.specs.world_model.gsmp_wire.Layout.{octets_of as gsmp_octets}
use Rattle.law_controller.specs.world_model.ifmp_wire.Message.{octets_of as ifmp_octets}
use Rattle.law_controller.specs.world_model.frame_model.Sending.{Sender}
use Rattle.law_controller.specs.world_model.port_model.Desk.{asked, message_at}
use Rattle.law_controller.specs.world_model.port_model.declared.action.Action.TheVariants as actions
use Rattle.law_controller.proofs.law_port_facts.Keyed.{on_both}
use Rattle.law_controller.specs.world_model.Controller.{Acted, free_slots}
use Rattle.law_controller.specs.world_model.Sending.{with_cells, sends}
use Rattle.law_controller.proofs.Lists.{any_more, any_filter}
use Rattle.law_controller.proofs.Holding.{node_closed}

-- what asks for no Delete All of the port
abbrev pub AsksOther : PortNo → Action → Type 0
AsksOther port (Ask request needed) = is_delete_all port request ≡ false
AsksOther port action = Unit {0}

-- `Asked` is what the last is known under
module _ (setups : List Setup) (port : PortNo) (Asked : Type 0) where
  pub record IsFree (c : Controller) : Type 0 where
    pub met : is_estab c.adjacency.state ≡ true → c.has_met ≡ true
    pub none : Asked → is_estab c.adjacency.state ≡ true → all_on c.desk port ≡ false

  sends_free : (a : Acted) (channel : Channel) (mark : Mark) (payload : List ℕ) → IsFree a.controller → IsFree (sends a channel mark payload).controller
  sends_free a channel mark payload h = on_both (λ (s : Sender Controller). IsFree s.queues) (nat_le (length (frame_cells channel mark payload)) (free_slots a.controller))
      (record { queues = with_cells a.controller (frame_cells channel mark payload); notes = made a.notes mark payload })
      (record { queues = a.controller; notes = noted (made a.notes mark payload) (Loss mark PoolFull) }) (record { met = h.met; none = h.none }) h

  asked_none : (desk : Desk) (request : Request) → is_delete_all port request ≡ false → all_on desk port ≡ false → all_on (asked desk request) port ≡ false
  asked_none desk request other none = any_more (λ (s : Standing). is_delete_all port s.request) (filter (λ (s : Standing). not (withdraws request s.request)) desk.standing) (record { number = desk.next; request = request }) other
      ∙ any_filter (λ (s : Standing). is_delete_all port s.request) (λ (s : Standing). not (withdraws request s.request)) desk.standing none

  closed_free : (a : Acted) → IsFree (node_resets a).controller
  closed_free a = record { met = λ e. absurd (cc (sym e ∙ node_closed setups a)); none = λ k e. absurd (cc (sym e ∙ node_closed setups a)) }

  pub asks_free : (a : Acted) (request : Request) → is_delete_all port request ≡ false → IsFree a.controller → IsFree (asks a request).controller
  asks_free a request other h = on_both (λ (b : Acted). IsFree b.controller) (is_estab a.controller.adjacency.state) (if a.controller.desk.next == last_transaction then node_resets a else asks_next a request) a
      (on_both (λ (b : Acted). IsFree b.controller) (a.controller.desk.next == last_transaction) (node_resets a) (asks_next a request) (closed_free a)
      (sends_free (record (with_desk a (asked a.controller.desk request)) { numbers = with_control a.numbers }) default_channel (next_control a.numbers)
      (gsmp_octets (message_at (asked a.controller.desk request) (record { number = a.controller.desk.next; request = request })))
      (record { met = h.met; none = λ k e. asked_none a.controller.desk request other (h.none k e) }))) h

  takes_back_free : (a : Acted) (input output : End) → IsFree a.controller → IsFree (takes_back a input output).controller
  takes_back_free a input output h = on_both (λ (b : Acted). IsFree b.controller) (is_led_home a.controller.desk input (home_of input)) a (asks a (MoveBranch input output (home_of input))) h
      (asks_free a (MoveBranch input output (home_of input)) refl h)

  cuts_free : (a : Acted) (label : ℕ) (o : Option Linked) → IsFree a.controller → IsFree (cuts_of a label o).controller
  cuts_free a label None h = h
  cuts_free a label (Some linked) h = record { met = h.met; none = h.none }

  does_free : (q : PortNo) (a : Acted) (x : Action) → AsksOther port x → IsFree a.controller → IsFree (does q a x).controller
  does_free q a (Say message) other h = sends_free (record a { numbers = with_control a.numbers }) (default_home q).channel (next_control a.numbers) (default_payload (ifmp_packet_of a.controller.address (ifmp_octets message))) h
  does_free q a (Ask request needed) other h = asks_free a request other h
  does_free q a (Note item) other h = h
  does_free q a (CutChain label) other h = cuts_free a label (linked_at a.controller q) h
  does_free q a (TakeBack input output) other h = takes_back_free a input output h
  does_free q a (Withdraw input) other h = record { met = h.met; none = λ k e. any_filter (λ (s : Standing). is_delete_all port s.request) (λ (s : Standing). not (is_on input s.request)) a.controller.desk.standing (h.none k e) }
  does_free q a actions.Reset other h = h

  pub in_estab_free : (q : PortNo) (a : Acted) (x : Action) → AsksOther port x → IsFree a.controller → IsFree (does_in_estab q a x).controller
  in_estab_free q a x other h = on_both (λ (b : Acted). IsFree b.controller) (is_estab a.controller.adjacency.state) (does q a x) a (does_free q a x other h) h
