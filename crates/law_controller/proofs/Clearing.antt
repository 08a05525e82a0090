-- a port in Clearing stays so while joins are released and other ports are reset, and no Delete All of it is asked anew

use Rattle.std.proofs.Common.{◌≡◌, ◌≢◌, ℕ, true, false, List, [], ◌∷◌, length, Option, None, Some, refl, sym, ◌∙◌, ap, subst, if◌then◌else◌, map, fold}
use Rattle.std.specs.Prelude.{◌==◌, not, nat_le, filter, flat_map, is_some}
use Rattle.std.specs.Option.{option_map_or}
use Rattle.law_controller_facts.specs.world_model.Words.{PortNo, Channel, End, Mark, next_control, with_control, State, Clearing, SynSent, SynRcvd, Estab, is_estab, Request, MoveBranch, ifmp_packet_of, default_payload, Loss, PoolFull, noted, frame_cells, made, nothing_taken, at, is_on, is_delete_all, withdraws, Desk, Standing, all_on, is_led_home, last_transaction, Action, Say, Ask, Note, CutChain, TakeBack, Withdraw, Setup, home_of, Label, Grant, GrantState, Idle, ByController, ByInput, Leaving, Session, Work, halts, is_spent, halts_if_spent, closing, withdrawing_in, withdrawing_of, withdrawing, taking_back_in, taking_back, resets, Controller, Linked, port_key, linked_at, with_desk, chains_with, default_channel, default_home, asks_next, asks, takes_back, begins, with_work, cuts_of, node_resets, does, does_in_estab, resets_of, resets_port, works, works_as, resets_spent, is_clearing}
use Rattle.law_controller_facts.specs.world_model.gsmp_wire.Layout.{octets_of as gsmp_octets}
use Rattle.law_controller_facts.specs.world_model.gsmp_wire.declared.request.Request.TheVariants.{DeleteAll}
use Rattle.law_controller_facts.specs.world_model.ifmp_wire.Message.{octets_of as ifmp_octets}
use Rattle.law_controller_facts.specs.world_model.frame_model.Sending.{Sender}
use Rattle.law_controller_facts.specs.ordered_lists.Ordered.{Every}
use Rattle.law_controller_facts.proofs.ordered_lists.Every.{every_join}
use Rattle.law_controller_facts.specs.world_model.port_model.Desk.{asked, message_at}
use Rattle.law_controller_facts.specs.world_model.port_model.declared.action.Action.TheVariants as actions
use Rattle.law_controller_facts.specs.law_port_facts.Port.{IsPort}
use Rattle.law_controller_facts.proofs.law_port_facts.Keyed.{on_both, on_each, by_eq, at_key}
use Rattle.law_controller_facts.specs.world_model.Controller.{Acted, free_slots}
use Rattle.law_controller_facts.specs.world_model.Sending.{with_cells, sends}
use Rattle.law_controller_facts.specs.Sound.{IsSound}
use Rattle.law_controller_facts.proofs.Moves.{Found, found_at_own, found_port}
use Rattle.law_controller_facts.proofs.Laws.{has_ports}
use Rattle.law_controller.specs.Match.{clearing_at}
use Rattle.law_controller.proofs.Lists.{any_more, any_filter}
use Rattle.law_controller.proofs.Holding.{node_closed}
use Rattle.law_controller.proofs.Matched.{there_now, clearing_put}

none_estab : (s : State) → is_clearing s ≡ true → is_estab s ≡ false
none_estab Clearing e = refl
none_estab SynSent e = absurd (cc e)
none_estab SynRcvd e = absurd (cc e)
none_estab Estab e = absurd (cc e)

module _ (setups : List Setup) (port : PortNo) where
  -- *The port is in Clearing*, and no Delete All of it stands
  pub record IsEmptied (c : Controller) : Type 0 where
    pub clearing : clearing_at c.ports port.0 ≡ true
    pub none : all_on c.desk port ≡ false

  -- while the side with the switch is in Estab
  abbrev pub InEstab : Acted → Type 0
  InEstab a = is_estab a.controller.adjacency.state ≡ true → IsEmptied a.controller

  closed_emptied : (a : Acted) → InEstab (node_resets a)
  closed_emptied a e = absurd (cc (sym e ∙ node_closed setups a))

  -- *What is sent and asked*
  sent_emptied : (a : Acted) (channel : Channel) (mark : Mark) (payload : List ℕ) → IsEmptied a.controller → IsEmptied (sends a channel mark payload).controller
  sent_emptied a channel mark payload h = on_both (λ (x : Sender Controller). IsEmptied x.queues) (nat_le (length (frame_cells channel mark payload)) (free_slots a.controller))
      (record { queues = with_cells a.controller (frame_cells channel mark payload); notes = made a.notes mark payload })
      (record { queues = a.controller; notes = noted (made a.notes mark payload) (Loss mark PoolFull) })
      (record { clearing = h.clearing; none = h.none }) h

  asked_none : (desk : Desk) (request : Request) → is_delete_all port request ≡ false → all_on desk port ≡ false → all_on (asked desk request) port ≡ false
  asked_none desk request other none = any_more (λ (s : Standing). is_delete_all port s.request) (filter (λ (s : Standing). not (withdraws request s.request)) desk.standing) (record { number = desk.next; request = request }) other
      ∙ any_filter (λ (s : Standing). is_delete_all port s.request) (λ (s : Standing). not (withdraws request s.request)) desk.standing none

  asks_emptied : (a : Acted) (request : Request) → is_delete_all port request ≡ false → IsEmptied a.controller → InEstab (asks a request)
  asks_emptied a request other h = on_both InEstab (is_estab a.controller.adjacency.state) (if a.controller.desk.next == last_transaction then node_resets a else asks_next a request) a
      (on_both InEstab (a.controller.desk.next == last_transaction) (node_resets a) (asks_next a request) (closed_emptied a)
      (λ e. sent_emptied (record (with_desk a (asked a.controller.desk request)) { numbers = with_control a.numbers }) default_channel (next_control a.numbers)
      (gsmp_octets (message_at (asked a.controller.desk request) (record { number = a.controller.desk.next; request = request })))
      (record { clearing = h.clearing; none = asked_none a.controller.desk request other h.none })))
      (λ e. h)

  takes_back_emptied : (a : Acted) (input output : End) → IsEmptied a.controller → InEstab (takes_back a input output)
  takes_back_emptied a input output h = on_both InEstab (is_led_home a.controller.desk input (home_of input)) a (asks a (MoveBranch input output (home_of input))) (λ e. h) (asks_emptied a (MoveBranch input output (home_of input)) refl h)

  cut_emptied : (a : Acted) (label : ℕ) (o : Option Linked) → ((linked : Linked) → o ≡ Some linked → Found setups a linked) → IsEmptied a.controller → IsEmptied (cuts_of a label o).controller
  cut_emptied a label None found h = h
  cut_emptied a label (Some linked) found h = record {
    clearing = clearing_put a.controller.ports linked (record linked { chains = chains_with linked.chains label nothing_taken }) (found linked refl) refl refl port.0 ∙ h.clearing;
    none = h.none;
  }

  -- *One action* that asks no Delete All of it
  abbrev AsksOther : Action → Type 0
  AsksOther (Ask request needed) = is_delete_all port request ≡ false
  AsksOther action = Unit {0}

  does_emptied : (q : PortNo) (a : Acted) (x : Action) → AsksOther x → IsEmptied a.controller → InEstab (does q a x)
  does_emptied q a (Say message) other h = λ e. sent_emptied (record a { numbers = with_control a.numbers }) (default_home q).channel (next_control a.numbers) (default_payload (ifmp_packet_of a.controller.address (ifmp_octets message))) h
  does_emptied q a (Ask request needed) other h = asks_emptied a request other h
  does_emptied q a (Note item) other h = λ e. h
  does_emptied q a (CutChain label) other h = λ e. cut_emptied a label (linked_at a.controller q) (λ linked found. found_at_own setups a linked q found) h
  does_emptied q a (TakeBack input output) other h = takes_back_emptied a input output h
  does_emptied q a (Withdraw input) other h = λ e. record { clearing = h.clearing; none = any_filter (λ (s : Standing). is_delete_all port s.request) (λ (s : Standing). not (is_on input s.request)) a.controller.desk.standing h.none }
  does_emptied q a actions.Reset other h = λ e. h

  does_each_emptied : (q : PortNo) (xs : List Action) (a : Acted) → Every AsksOther xs → InEstab a → InEstab (fold (does_in_estab q) a xs)
  does_each_emptied q [] a all h = h
  does_each_emptied q (x ∷ xs) a all h = does_each_emptied q xs (does_in_estab q a x) all.1
      (on_each InEstab (is_estab a.controller.adjacency.state) (does q a x) a (λ e. does_emptied q a x all.0 (h e)) (λ f. h))

  -- *The reset of another port*
  module _ (setup : Setup) where
    closing_other : (o : Option Session) → Every AsksOther (closing setup o)
    closing_other None = tt
    closing_other (Some s) = (tt, cuts s.labels)
      where
        cuts : (labels : List Label) → Every AsksOther (map (λ (label : Label). CutChain label.number) labels)
        cuts [] = tt
        cuts (label ∷ labels) = (tt, cuts labels)

    withdrawing_in_other : (label : ℕ) (state : GrantState) → Every AsksOther (withdrawing_in setup label state)
    withdrawing_in_other label Idle = (tt, tt)
    withdrawing_in_other label ByController = (tt, tt)
    withdrawing_in_other label (ByInput input) = tt
    withdrawing_in_other label (Leaving input owed) = tt

    withdrawing_other : (gs : List Grant) → Every AsksOther (withdrawing setup gs)
    withdrawing_other [] = tt
    withdrawing_other (grant ∷ gs) = every_join AsksOther (withdrawing_of setup grant) (withdrawing setup gs) (withdrawing_in_other grant.label grant.state) (withdrawing_other gs)

    taking_in_other : (grant : Grant) (state : GrantState) → Every AsksOther (taking_back_in setup grant state)
    taking_in_other grant Idle = tt
    taking_in_other grant ByController = tt
    taking_in_other grant (ByInput input) = (tt, tt)
    taking_in_other grant (Leaving input owed) = tt

    taking_other : (gs : List Grant) → Every AsksOther (flat_map (taking_back setup) gs)
    taking_other [] = tt
    taking_other (grant ∷ gs) = every_join AsksOther (taking_back setup grant) (flat_map (taking_back setup) gs) (taking_in_other grant grant.state) (taking_other gs)

  resets_emptied : (a : Acted) (q : PortNo) → q.0 ≢ port.0 → IsEmptied a.controller → InEstab (resets_port a q)
  resets_emptied a q other h = by_found (linked_at a.controller q) refl
    where
      by_found : (o : Option Linked) → linked_at a.controller q ≡ o → InEstab (resets_of a o)
      by_found None found = λ e. h
      by_found (Some linked) found =
          let w : Work = resets linked.setup (begins a linked) in
          let after : Linked = record linked { port = w.port } in
          let key : port_key linked ≡ q.0 = at_key port_key q.0 a.controller.ports linked found in
          let away : port_key after ≢ port.0 = λ (same : port_key after ≡ port.0). other (sym key ∙ same) in
          let asks_none : is_delete_all port (DeleteAll linked.setup.port) ≡ false = by_eq linked.setup.port.0 port.0 (λ is t. absurd (away is)) (λ differs t. t) in
          does_each_emptied linked.setup.port w.actions (with_work a linked w)
          (every_join AsksOther (closing linked.setup linked.port.session) _ (closing_other linked.setup linked.port.session)
          (every_join AsksOther (withdrawing linked.setup linked.port.grants) _ (withdrawing_other linked.setup linked.port.grants)
          (every_join AsksOther (flat_map (taking_back linked.setup) linked.port.grants) _ (taking_other linked.setup linked.port.grants) (asks_none, tt))))
          (λ e. record {
            clearing = ap (λ (o : Option Linked). option_map_or (λ (x : Linked). is_clearing x.port.adjacency.state) o false) (there_now a.controller.ports linked after (found_at_own setups a linked q found) refl port.0 away) ∙ h.clearing;
            none = h.none;
          })

  -- *A port whose numbers are spent is reset*: it is in a session, so it is another
  pub spent_emptied : (c : Acted) (q : PortNo) → IsSound setups c.controller → InEstab c → InEstab (resets_spent c q)
  spent_emptied c q s h = by_found (linked_at c.controller q) refl
    where
      by_found : (o : Option Linked) → linked_at c.controller q ≡ o → InEstab (works c (λ setup desk w. halts_if_spent w) o)
      by_found None found = h
      by_found (Some linked) found = by_session linked.port.session refl
        where
          w : Work
          w = begins c linked

          own : Found setups c linked
          own = found_at_own setups c linked q found

          fits : IsPort setups linked.setup linked.port
          fits = found_port setups c linked linked.setup.port (has_ports setups c s) own

          placed : (v : Work) → v.port ≡ linked.port → IsEmptied c.controller → IsEmptied (with_work c linked v).controller
          placed v same k = record {
            clearing = clearing_put c.controller.ports linked (record linked { port = v.port }) own refl (ap (λ p. is_clearing p.adjacency.state) same) port.0 ∙ k.clearing;
            none = k.none;
          }

          other : (x : Session) → linked.port.session ≡ Some x → clearing_at c.controller.ports port.0 ≡ true → linked.setup.port.0 ≢ port.0
          other x is clearing same =
              let here : clearing_at c.controller.ports port.0 ≡ is_clearing linked.port.adjacency.state = ap (λ (o : Option Linked). option_map_or (λ (y : Linked). is_clearing y.port.adjacency.state) o false) (subst (λ n. at port_key n c.controller.ports ≡ Some linked) same own) in
              let none : is_some linked.port.session ≡ false = fits.session ∙ none_estab linked.port.adjacency.state (sym here ∙ clearing) in
              absurd (cc (sym (ap is_some is) ∙ none))

          by_session : (o : Option Session) → linked.port.session ≡ o → InEstab (works_as c linked (halts_if_spent w))
          by_session None is = subst (λ (o : Option Session). InEstab (works_as c linked (if is_spent o then halts w else w))) (sym is) (λ e. placed w refl (h e))
          by_session (Some x) is = on_both (λ (v : Work). InEstab (works_as c linked v)) (is_spent linked.port.session) (halts w) w
              (let b : Acted = with_work c linked (halts w) in
              on_each InEstab (is_estab b.controller.adjacency.state) (resets_port b linked.setup.port) b
              (λ estab. resets_emptied b linked.setup.port (other x is (h estab).clearing) (placed (halts w) refl (h estab)))
              (λ closed e. placed (halts w) refl (h e)))
              (λ e. placed w refl (h e))
