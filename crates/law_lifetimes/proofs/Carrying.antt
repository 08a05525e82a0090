-- what a port at work has asked is done: what holds while the side with the switch is in Estab goes on

use Rattle.std.proofs.Common.{◌≡◌, ℕ, true, false, List, [], ◌∷◌, ◌++◌, length, Option, None, Some, refl, sym, subst, if◌then◌else◌, inl, inr, map, fold}
use Rattle.std.specs.Prelude.{◌==◌, nat_le, flat_map, ◌⊎◌}
use Rattle.law_controller.specs.world_model.Words.{PortNo, Channel, End, Mark, next_control, with_control, is_estab, Cell, ifmp_packet_of, default_payload, Request, MoveBranch, Loss, PoolFull, noted, frame_cells, made, cut, nothing_taken, at, Standing, is_led_home, last_transaction, Action, Say, Ask, Note, CutChain, TakeBack, Withdraw, Setup, home_of, Label, Grant, GrantState, Idle, ByController, ByInput, Leaving, Session, Work, closing, withdrawing_in, withdrawing_of, withdrawing, taking_back_in, taking_back, resets, Controller, Linked, LabelChain, port_key, linked_at, with_linked, with_desk, chain_of, chains_with, default_channel, default_home, sends_control, sends_request, asks_next, asks, takes_back, withdraws_input, begins, with_work, cuts_of, node_resets, does, does_in_estab, resets_of, performs, performs_in_estab, Rule, works, at_port}
use Rattle.law_controller.specs.world_model.gsmp_wire.Layout.{octets_of as gsmp_octets}
use Rattle.law_controller.specs.world_model.gsmp_wire.declared.request.Request.TheVariants.{DeleteAll}
use Rattle.law_controller.specs.world_model.ifmp_wire.Message.{octets_of as ifmp_octets}
use Rattle.law_controller.specs.world_model.frame_model.Sending.{Sender}
use Rattle.law_controller.specs.ordered_lists.Ordered.{Every}
use Rattle.law_controller.proofs.ordered_lists.Every.{every_join}
use Rattle.law_controller.specs.world_model.port_model.Desk.{asked, message_at}
use Rattle.law_controller.specs.world_model.port_model.declared.action.Action.TheVariants as actions
use Rattle.law_controller.proofs.law_port_facts.Keyed.{on_both, on_each, at_key}
use Rattle.law_controller.specs.world_model.Controller.{Acted, free_slots}
use Rattle.law_controller.specs.world_model.Sending.{with_cells, sends}
use Rattle.law_controller.proofs.law_controller_facts.Joining.{every_flat_map}
use Rattle.law_controller.proofs.Holding.{node_closed}
use Rattle.law_lifetimes.proofs.Calm.{LeadsBack, IsTame}
use Rattle.law_lifetimes.proofs.Asked.{Asked}

abbrev AnyGrant : Grant → Type 0
AnyGrant grant = Unit {0}

any_of : (grants : List Grant) → Every AnyGrant grants
any_of [] = tt
any_of (g ∷ grants) = (tt, any_of grants)

cuts_tame : (labels : List Label) → Every IsTame (map (λ (label : Label). CutChain label.number) labels)
cuts_tame [] = tt
cuts_tame (label ∷ labels) = (tt, cuts_tame labels)

closing_tame : (setup : Setup) (o : Option Session) → Every IsTame (closing setup o)
closing_tame setup None = tt
closing_tame setup (Some s) = (tt, cuts_tame s.labels)

withdrawing_tame : (setup : Setup) (label : ℕ) (state : GrantState) → Every IsTame (withdrawing_in setup label state)
withdrawing_tame setup label Idle = (refl, tt)
withdrawing_tame setup label ByController = (refl, tt)
withdrawing_tame setup label (ByInput input) = tt
withdrawing_tame setup label (Leaving input owed) = tt

taking_tame : (setup : Setup) (grant : Grant) (state : GrantState) → Every IsTame (taking_back_in setup grant state)
taking_tame setup grant Idle = tt
taking_tame setup grant ByController = tt
taking_tame setup grant (ByInput input) = (tt, tt)
taking_tame setup grant (Leaving input owed) = tt

-- what a port reset asks leads no input away
pub resets_tame : (setup : Setup) (w : Work) → Every IsTame w.actions → Every IsTame (resets setup w).actions
resets_tame setup w h = every_join IsTame w.actions (closing setup w.port.session ++ (withdrawing setup w.port.grants ++ (flat_map (taking_back setup) w.port.grants ++ Ask (DeleteAll setup.port) true ∷ []))) h
    (every_join IsTame (closing setup w.port.session) (withdrawing setup w.port.grants ++ (flat_map (taking_back setup) w.port.grants ++ Ask (DeleteAll setup.port) true ∷ [])) (closing_tame setup w.port.session)
    (every_join IsTame (withdrawing setup w.port.grants) (flat_map (taking_back setup) w.port.grants ++ Ask (DeleteAll setup.port) true ∷ []) (every_flat_map AnyGrant IsTame (withdrawing_of setup) (λ grant t. withdrawing_tame setup grant.label grant.state) w.port.grants (any_of w.port.grants))
    (every_join IsTame (flat_map (taking_back setup) w.port.grants) (Ask (DeleteAll setup.port) true ∷ []) (every_flat_map AnyGrant IsTame (taking_back setup) (λ grant t. taking_tame setup grant grant.state) w.port.grants (any_of w.port.grants)) (tt, tt))))

-- *What goes on* while the side is in Estab; `Here` are the ports that may work
pub record IsCarried (Here : ℕ → Type 0) (P : Acted → Type 0) : Type 0 where
  pub closed : (a : Acted) → is_estab a.controller.adjacency.state ≡ false → P a
  pub quiet : (a b : Acted) → b.controller ≡ a.controller → P a → P b
  pub queued : (a : Acted) (cells : List Cell) → P a → P (record a { controller = record a.controller { queue = cells } })
  pub back : (a : Acted) (request : Request) → LeadsBack request → P a → P (with_desk a (asked a.controller.desk request))
  pub taken : (a : Acted) (input output : End) → P a → P (with_desk a (asked a.controller.desk (MoveBranch input output (home_of input))))
  pub withdrawn : (a : Acted) (input : End) → input.port.0 ≡ 0 → P a → P (withdraws_input a input)
  pub chained : (a : Acted) (linked : Linked) (chains : List LabelChain) → linked_at a.controller linked.setup.port ≡ Some linked → P a → P (with_linked a (record linked { chains = chains }))
  pub placed : (a : Acted) (linked : Linked) (w : Work) → Here linked.setup.port.0 → linked_at a.controller linked.setup.port ≡ Some linked → P a → P (with_work a linked w)

module _ (setups : List Setup) (Here : ℕ → Type 0) (P : Acted → Type 0) (carried : IsCarried Here P) where
  pub fold_carries : {A : Type 0} (f : Acted → A → Acted) → ((a : Acted) (x : A) → P a → P (f a x)) → (xs : List A) (a : Acted) → P a → P (fold f a xs)
  fold_carries f each [] a h = h
  fold_carries f each (x ∷ xs) a h = fold_carries f each xs (f a x) (each a x h)

  found_own : (a : Acted) (port : PortNo) (linked : Linked) → linked_at a.controller port ≡ Some linked → linked_at a.controller linked.setup.port ≡ Some linked
  found_own a port linked found = subst (λ k. at port_key k a.controller.ports ≡ Some linked) (sym (at_key port_key port.0 a.controller.ports linked found)) found

  -- *Sending* and *asking*
  sends_carries : (a : Acted) (channel : Channel) (mark : Mark) (payload : List ℕ) → P a → P (sends a channel mark payload)
  sends_carries a channel mark payload h = on_both (λ (s : Sender Controller). P (record a { controller = s.queues; notes = s.notes })) (nat_le (length (frame_cells channel mark payload)) (free_slots a.controller))
      (record { queues = with_cells a.controller (frame_cells channel mark payload); notes = made a.notes mark payload })
      (record { queues = a.controller; notes = noted (made a.notes mark payload) (Loss mark PoolFull) })
      (carried.quiet (record a { controller = with_cells a.controller (frame_cells channel mark payload) }) _ refl (carried.queued a (a.controller.queue ++ frame_cells channel mark payload) h)) (carried.quiet a _ refl h)

  pub sends_control_carries : (a : Acted) (channel : Channel) (payload : List ℕ) → P a → P (sends_control a channel payload)
  sends_control_carries a channel payload h = sends_carries (record a { numbers = with_control a.numbers }) channel (next_control a.numbers) payload (carried.quiet a (record a { numbers = with_control a.numbers }) refl h)

  pub sends_request_carries : (a : Acted) (s : Standing) → P a → P (sends_request a s)
  sends_request_carries a s h = sends_control_carries a default_channel (gsmp_octets (message_at a.controller.desk s)) h

  pub asks_carries : (a : Acted) (request : Request) → (is_estab a.controller.adjacency.state ≡ true → P (with_desk a (asked a.controller.desk request))) → P (asks a request)
  asks_carries a request p = on_each P (is_estab a.controller.adjacency.state) (if a.controller.desk.next == last_transaction then node_resets a else asks_next a request) a
      (λ estab. on_both P (a.controller.desk.next == last_transaction) (node_resets a) (asks_next a request) (carried.closed (node_resets a) (node_closed setups a))
      (sends_request_carries (with_desk a (asked a.controller.desk request)) (record { number = a.controller.desk.next; request = request }) (p estab))) (λ closed. carried.closed a closed)

  takes_back_carries : (a : Acted) (input output : End) → P a → P (takes_back a input output)
  takes_back_carries a input output h = on_both P (is_led_home a.controller.desk input (home_of input)) a (asks a (MoveBranch input output (home_of input))) h
      (asks_carries a (MoveBranch input output (home_of input)) (λ estab. carried.taken a input output h))

  cuts_carries : (a : Acted) (port : PortNo) (label : ℕ) (o : Option Linked) → linked_at a.controller port ≡ o → P a → P (cuts_of a label o)
  cuts_carries a port label None found h = h
  cuts_carries a port label (Some linked) found h = carried.chained (record a { notes = cut a.notes (chain_of linked.chains label) }) linked (chains_with linked.chains label nothing_taken) (found_own a port linked found)
      (carried.quiet a (record a { notes = cut a.notes (chain_of linked.chains label) }) refl h)

  -- *One action*
  does_carries : (port : PortNo) (a : Acted) (action : Action) → IsTame action → P a → P (does port a action)
  does_carries port a (Say message) tame h = sends_control_carries a (default_home port).channel (default_payload (ifmp_packet_of a.controller.address (ifmp_octets message))) h
  does_carries port a (Ask request needed) tame h = asks_carries a request (λ estab. carried.back a request tame h)
  does_carries port a (Note item) tame h = carried.quiet a (does port a (Note item)) refl h
  does_carries port a (CutChain label) tame h = cuts_carries a port label (linked_at a.controller port) refl h
  does_carries port a (TakeBack input output) tame h = takes_back_carries a input output h
  does_carries port a (Withdraw input) tame h = carried.withdrawn a input tame h
  does_carries port a actions.Reset tame h = h

  does_each : (port : PortNo) (xs : List Action) (a : Acted) → Every IsTame xs → P a → P (fold (does_in_estab port) a xs)
  does_each port [] a tame h = h
  does_each port (x ∷ xs) a tame h = does_each port xs (does_in_estab port a x) tame.1 (on_both P (is_estab a.controller.adjacency.state) (does port a x) a (does_carries port a x tame.0 h) h)

  resets_carries : (a : Acted) (port : PortNo) (o : Option Linked) → Here port.0 → linked_at a.controller port ≡ o → P a → P (resets_of a o)
  resets_carries a port None here found h = h
  resets_carries a port (Some linked) here found h = (let w : Work = resets linked.setup (begins a linked) in
      does_each linked.setup.port w.actions (with_work a linked w) (resets_tame linked.setup (begins a linked) tt)
      (carried.placed a linked w (subst Here (sym (at_key port_key port.0 a.controller.ports linked found)) here) (found_own a port linked found) h))

  pub performs_carries : (port : PortNo) (a : Acted) (action : Action) → Here port.0 → IsTame action → P a → P (performs port a action)
  performs_carries port a (Say message) here tame h = does_carries port a (Say message) tame h
  performs_carries port a (Ask request needed) here tame h = does_carries port a (Ask request needed) tame h
  performs_carries port a (Note item) here tame h = does_carries port a (Note item) tame h
  performs_carries port a (CutChain label) here tame h = does_carries port a (CutChain label) tame h
  performs_carries port a (TakeBack input output) here tame h = does_carries port a (TakeBack input output) tame h
  performs_carries port a (Withdraw input) here tame h = does_carries port a (Withdraw input) tame h
  performs_carries port a actions.Reset here tame h = resets_carries a port (linked_at a.controller port) here refl h

  performs_each : (port : PortNo) (xs : List Action) (a : Acted) → Here port.0 → Every IsTame xs → P a → P (fold (performs_in_estab port) a xs)
  performs_each port [] a here tame h = h
  performs_each port (x ∷ xs) a here tame h = performs_each port xs (performs_in_estab port a x) here tame.1
      (on_both P (is_estab a.controller.adjacency.state) (performs port a x) a (performs_carries port a x here tame.0 h) h)

  -- *A rule of a port* that may work
  pub at_port_carries : (a : Acted) (port : PortNo) (rule : Rule) → Here port.0 → ((linked : Linked) → Every IsTame (rule linked.setup a.controller.desk (begins a linked)).actions) → P a → P (at_port a port rule)
  at_port_carries a port rule here tame h = by_found (linked_at a.controller port) refl
    where
      by_found : (o : Option Linked) → linked_at a.controller port ≡ o → P (works a rule o)
      by_found None found = h
      by_found (Some linked) found = (let own : Here linked.setup.port.0 = subst Here (sym (at_key port_key port.0 a.controller.ports linked found)) here in
          let w : Work = rule linked.setup a.controller.desk (begins a linked) in
          performs_each linked.setup.port w.actions (with_work a linked w) own (tame linked) (carried.placed a linked w own (found_own a port linked found) h))

  -- *The one that is taken back* is among the actions: until then nothing need hold
  module _ (here_all : (k : ℕ) → Here k) (action : Action) (does_it : (port : PortNo) (a : Acted) → is_estab a.controller.adjacency.state ≡ true → P (performs port a action)) where
    pub performs_it : (port : PortNo) (xs : List Action) (a : Acted) → Every IsTame xs → P a ⊎ Asked action xs → P (fold (performs_in_estab port) a xs)
    performs_it port xs a tame (inl h) = performs_each port xs a (here_all port.0) tame h
    performs_it port [] a tame (inr none) = absurd none
    performs_it port (x ∷ xs) a tame (inr (inl is)) = performs_each port xs (performs_in_estab port a x) (here_all port.0) tame.1
        (on_each P (is_estab a.controller.adjacency.state) (performs port a x) a (λ estab. subst (λ (y : Action). P (performs port a y)) (sym is) (does_it port a estab)) (λ closed. carried.closed a closed))
    performs_it port (x ∷ xs) a tame (inr (inr rest)) = performs_it port xs (performs_in_estab port a x) tame.1 (inr rest)
