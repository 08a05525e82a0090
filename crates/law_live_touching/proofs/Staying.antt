-- what leaves a port as it is, where the node is up in the end

use Rattle.std.proofs.Common.{◌≡◌, ◌≢◌, ℕ, true, false, true≢false, List, [], ◌∷◌, Option, None, Some, refl, sym, ◌∙◌, ap, subst, fold, if◌then◌else◌}
use Rattle.std.specs.Prelude.{◌==◌}
use Rattle.world_model.specs.Words.{PortNo, Addr, Channel, End, Party, Side, is_estab, at, put, Request, MoveBranch, is_led_home, last_transaction, Action, home_of, Work, Setup, resets, Linked, linked_at, port_key, with_desk, default_channel, default_home, default_payload, ifmp_packet_of, next_control, with_control, sends_control, asks_next, asks, takes_back, cuts_of, cuts_label, begins, with_work, node_resets, does, does_in_estab, resets_of, resets_port, performs, performs_in_estab, Rule, works, works_as, at_port, nothing_taken, chains_with}
use Rattle.world_model.specs.Controller.{Acted}
use Rattle.world_model.specs.port_model.Desk.{Standing, asked, message_at}
use Rattle.world_model.specs.port_model.Port.{Port}
use Rattle.world_model.specs.port_model.declared.action.Action.TheVariants as actions
use Rattle.world_model.specs.gsmp_wire.Layout.{octets_of as gsmp_octets}
use Rattle.world_model.specs.ifmp_wire.Message.{octets_of as ifmp_octets}
use Rattle.law_port_facts.specs.ordered_lists.Ordered.{Every}
use Rattle.law_port_facts.proofs.Keyed.{on_both, at_key, by_eq, at_put_same, at_put_other}
use Rattle.law_controller.proofs.Holding.{node_closed}
use Rattle.law_live_ports.proofs.Joining.{SameRest, sent_rest}
use Rattle.law_live_others.specs.Law.{IsUp}
use Rattle.law_live_others.proofs.Leaving.{never}
use Rattle.law_live_others.proofs.Settling.{anyhow}
use Rattle.law_live_others.proofs.Working.{own_place, IsAct, other_leaves}

-- *A port as it is*: this setup, and this port, of a node that goes by this address
module _ (port : PortNo) (setup : Setup) (p : Port) (address : Addr) where
  pub record Has (b : Acted) : Type 0 where
    pub linked : Linked
    pub of_port : linked_at b.controller port ≡ Some linked
    pub setup_is : linked.setup ≡ setup
    pub port_is : linked.port ≡ p
    pub address_is : b.controller.address ≡ address

  pub record Keeps (a b : Acted) : Type 0 where
    pub up : IsUp b → IsUp a
    pub has : IsUp b → Has a → Has b

  still_up : (a b : Acted) → b.controller.adjacency ≡ a.controller.adjacency → IsUp b → IsUp a
  still_up a b adjacency up = ap (λ (s : Side Party). is_estab s.state) (sym adjacency) ∙ up

  pub keeps_same : (a b : Acted) → b.controller.ports ≡ a.controller.ports → b.controller.adjacency ≡ a.controller.adjacency → b.controller.address ≡ a.controller.address → Keeps a b
  keeps_same a b ports adjacency same = record {
    up = still_up a b adjacency;
    has = λ up h. record { linked = h.linked; of_port = ap (at port_key port.0) ports ∙ h.of_port; setup_is = h.setup_is; port_is = h.port_is; address_is = same ∙ h.address_is };
  }

  pub keeps_then : (a b c : Acted) → Keeps a b → Keeps b c → Keeps a c
  keeps_then a b c k l = record { up = λ up. k.up (l.up up); has = λ up h. l.has up (k.has (l.up up) h) }

  pub keeps_fold : {X : Type 0} (f : Acted → X → Acted) → ((a : Acted) (x : X) → Keeps a (f a x)) → (xs : List X) (a : Acted) → Keeps a (fold f a xs)
  keeps_fold f each [] a = keeps_same a a refl refl refl
  keeps_fold f each (x ∷ xs) a = keeps_then a (f a x) (fold f (f a x) xs) (each a x) (keeps_fold f each xs (f a x))

  -- *A port is put* in its own place: another's, or one that is the same
  pub keeps_put : (a b : Acted) (old new : Linked) → at port_key (port_key old) a.controller.ports ≡ Some old → new.setup ≡ old.setup
      → (port_key old ≡ port.0 → old.port ≡ p → new.port ≡ p)
      → b.controller.ports ≡ put port_key new a.controller.ports → b.controller.adjacency ≡ a.controller.adjacency → b.controller.address ≡ a.controller.address → Keeps a b
  keeps_put a b old new own same_setup same_port ports adjacency same = record { up = still_up a b adjacency; has = λ up h. each h }
    where
      key : port_key new ≡ port_key old
      key = ap (λ (s : Setup). s.port.0) same_setup

      here : at port_key (port_key old) (put port_key new a.controller.ports) ≡ Some new
      here = subst (λ k. at port_key k (put port_key new a.controller.ports) ≡ Some new) key
          (at_put_same port_key new a.controller.ports old (ap (λ k. at port_key k a.controller.ports) key ∙ own))

      one : (x y : Linked) → Some x ≡ Some y → x ≡ y
      one x y e = cc

      own_has : (h : Has a) → old ≡ h.linked → port_key old ≡ port.0 → Has b
      own_has h is_it e = record {
        linked = new;
        of_port = ap (at port_key port.0) ports ∙ (ap (λ k. at port_key k (put port_key new a.controller.ports)) (sym e) ∙ here);
        setup_is = same_setup ∙ (ap (λ (l : Linked). l.setup) is_it ∙ h.setup_is);
        port_is = same_port e (ap (λ (l : Linked). l.port) is_it ∙ h.port_is);
        address_is = same ∙ h.address_is;
      }

      each : Has a → Has b
      each h = by_eq (port_key old) port.0
          (λ e tested. own_has h (one old h.linked (sym own ∙ (ap (λ k. at port_key k a.controller.ports) e ∙ h.of_port))) e)
          (λ differs tested. record {
            linked = h.linked;
            of_port = ap (at port_key port.0) ports ∙ (at_put_other port_key new port.0 a.controller.ports (λ e. differs (sym key ∙ e)) ∙ h.of_port);
            setup_is = h.setup_is;
            port_is = h.port_is;
            address_is = same ∙ h.address_is;
          })

  -- *A node that is reset* is down
  pub node_keeps : (a : Acted) → Keeps a (node_resets a)
  node_keeps a = record { up = λ up. absurd (true≢false (sym up ∙ node_closed [] a)); has = λ up h. absurd (true≢false (sym up ∙ node_closed [] a)) }

  -- *What is sent*, and asked
  pub sends_keeps : (a : Acted) (channel : Channel) (payload : List ℕ) → Keeps a (sends_control a channel payload)
  sends_keeps a channel payload =
      let rest : SameRest a.controller (sends_control a channel payload).controller = sent_rest (record a { numbers = with_control a.numbers }) channel (next_control a.numbers) payload in
      keeps_same a (sends_control a channel payload) rest.ports rest.adjacency rest.address

  next_keeps : (a : Acted) (request : Request) → Keeps a (asks_next a request)
  next_keeps a request =
      let d : Acted = with_desk a (asked a.controller.desk request) in
      let s : Standing = record { number = a.controller.desk.next; request = request } in
      keeps_then a d (asks_next a request) (keeps_same a d refl refl refl) (sends_keeps d default_channel (gsmp_octets (message_at d.controller.desk s)))

  pub asks_keeps : (a : Acted) (request : Request) → Keeps a (asks a request)
  asks_keeps a request = on_both (Keeps a) (is_estab a.controller.adjacency.state) (if a.controller.desk.next == last_transaction then node_resets a else asks_next a request) a
      (on_both (Keeps a) (a.controller.desk.next == last_transaction) (node_resets a) (asks_next a request) (node_keeps a) (next_keeps a request))
      (keeps_same a a refl refl refl)

  pub back_keeps : (a : Acted) (input output : End) → Keeps a (takes_back a input output)
  back_keeps a input output = on_both (Keeps a) (is_led_home a.controller.desk input (home_of input)) a (asks a (MoveBranch input output (home_of input)))
      (keeps_same a a refl refl refl) (asks_keeps a (MoveBranch input output (home_of input)))

  -- *What a port asks*, but a reset
  cuts_keeps : (q : PortNo) (a : Acted) (label : ℕ) → Keeps a (cuts_label q a label)
  cuts_keeps q a label = by (linked_at a.controller q) refl
    where
      by : (o : Option Linked) → linked_at a.controller q ≡ o → Keeps a (cuts_of a label o)
      by None found = keeps_same a a refl refl refl
      by (Some linked) found = keeps_put a (cuts_of a label (Some linked)) linked (record linked { chains = chains_with linked.chains label nothing_taken }) (own_place a q linked found) refl
          (λ e same. same) refl refl refl

  does_keeps : (q : PortNo) (a : Acted) (action : Action) → Keeps a (does q a action)
  does_keeps q a (actions.Say message) = sends_keeps a (default_home q).channel (default_payload (ifmp_packet_of a.controller.address (ifmp_octets message)))
  does_keeps q a (actions.Ask request needed) = asks_keeps a request
  does_keeps q a (actions.Note item) = keeps_same a (does q a (actions.Note item)) refl refl refl
  does_keeps q a (actions.CutChain label) = cuts_keeps q a label
  does_keeps q a (actions.TakeBack input output) = back_keeps a input output
  does_keeps q a (actions.Withdraw input) = keeps_same a (does q a (actions.Withdraw input)) refl refl refl
  does_keeps q a actions.Reset = keeps_same a a refl refl refl

  does_in_keeps : (q : PortNo) (a : Acted) (action : Action) → Keeps a (does_in_estab q a action)
  does_in_keeps q a action = on_both (Keeps a) (is_estab a.controller.adjacency.state) (does q a action) a (does_keeps q a action) (keeps_same a a refl refl refl)

  act_keeps : (q : PortNo) (a : Acted) (action : Action) → IsAct action → Keeps a (performs q a action)
  act_keeps q a (actions.Say message) is = does_keeps q a (actions.Say message)
  act_keeps q a (actions.Ask request needed) is = does_keeps q a (actions.Ask request needed)
  act_keeps q a (actions.Note item) is = does_keeps q a (actions.Note item)
  act_keeps q a (actions.CutChain label) is = does_keeps q a (actions.CutChain label)
  act_keeps q a (actions.TakeBack input output) is = does_keeps q a (actions.TakeBack input output)
  act_keeps q a (actions.Withdraw input) is = does_keeps q a (actions.Withdraw input)
  act_keeps q a actions.Reset is = absurd is

  pub acts_keep : (q : PortNo) (asked : List Action) → Every IsAct asked → (a : Acted) → Keeps a (fold (performs_in_estab q) a asked)
  acts_keep q [] are a = keeps_same a a refl refl refl
  acts_keep q (action ∷ asked) are a = keeps_then a (performs_in_estab q a action) (fold (performs_in_estab q) (performs_in_estab q a action) asked)
      (on_both (Keeps a) (is_estab a.controller.adjacency.state) (performs q a action) a (act_keeps q a action are.0) (keeps_same a a refl refl refl))
      (acts_keep q asked are.1 (performs_in_estab q a action))

  -- *A port that worked* is put back
  work_keeps : (a : Acted) (linked : Linked) (w : Work) → at port_key (port_key linked) a.controller.ports ≡ Some linked
      → (port_key linked ≡ port.0 → linked.port ≡ p → w.port ≡ p) → Keeps a (with_work a linked w)
  work_keeps a linked w own same = keeps_put a (with_work a linked w) linked (record linked { port = w.port }) own refl same refl refl refl

  -- *Another port* may do anything
  module _ (q : PortNo) (differs : q.0 ≢ port.0) where
    resets_keeps : (a : Acted) → Keeps a (resets_port a q)
    resets_keeps a = by (linked_at a.controller q) refl
      where
        by : (o : Option Linked) → linked_at a.controller q ≡ o → Keeps a (resets_of a o)
        by None found = keeps_same a a refl refl refl
        by (Some linked) found =
            let w : Work = resets linked.setup (begins a linked) in
            keeps_then a (with_work a linked w) (fold (does_in_estab linked.setup.port) (with_work a linked w) w.actions)
            (work_keeps a linked w (own_place a q linked found) (λ e same. absurd (differs (sym (at_key port_key q.0 a.controller.ports linked found) ∙ e))))
            (keeps_fold (does_in_estab linked.setup.port) (does_in_keeps linked.setup.port) w.actions (with_work a linked w))

    performs_keeps : (a : Acted) (action : Action) → Keeps a (performs q a action)
    performs_keeps a (actions.Say message) = does_keeps q a (actions.Say message)
    performs_keeps a (actions.Ask request needed) = does_keeps q a (actions.Ask request needed)
    performs_keeps a (actions.Note item) = does_keeps q a (actions.Note item)
    performs_keeps a (actions.CutChain label) = does_keeps q a (actions.CutChain label)
    performs_keeps a (actions.TakeBack input output) = does_keeps q a (actions.TakeBack input output)
    performs_keeps a (actions.Withdraw input) = does_keeps q a (actions.Withdraw input)
    performs_keeps a actions.Reset = resets_keeps a

    performs_in_keeps : (a : Acted) (action : Action) → Keeps a (performs_in_estab q a action)
    performs_in_keeps a action = on_both (Keeps a) (is_estab a.controller.adjacency.state) (performs q a action) a (performs_keeps a action) (keeps_same a a refl refl refl)

  pub other_keeps : (a : Acted) (q : PortNo) (rule : Rule) → q.0 ≢ port.0 → Keeps a (at_port a q rule)
  other_keeps a q rule differs = by (linked_at a.controller q) refl
    where
      by : (o : Option Linked) → linked_at a.controller q ≡ o → Keeps a (works a rule o)
      by None found = keeps_same a a refl refl refl
      by (Some linked) found =
          let w : Work = rule linked.setup a.controller.desk (begins a linked) in
          keeps_then a (with_work a linked w) (works_as a linked w)
          (work_keeps a linked w (own_place a q linked found) (λ e same. absurd (away e)))
          (keeps_fold (performs_in_estab linked.setup.port) (performs_in_keeps linked.setup.port away) w.actions (with_work a linked w))
        where
          away : linked.setup.port.0 ≢ port.0
          away e = differs (sym (at_key port_key q.0 a.controller.ports linked found) ∙ e)

  -- *A rule of any port*, that leaves the port the same where it is a rule of the port itself
  pub record LeavesSame (w : Work) : Type 0 where
    pub same_port : w.port ≡ p
    pub acts : Every IsAct w.actions

  pub rule_keeps : (a : Acted) (q : PortNo) (rule : Rule)
      → ((linked : Linked) → linked_at a.controller q ≡ Some linked → linked.port ≡ p → LeavesSame (rule linked.setup a.controller.desk (begins a linked)))
      → Keeps a (at_port a q rule)
  rule_keeps a q rule leaves = by_eq q.0 port.0 (λ e tested. own e) (λ differs tested. other_keeps a q rule differs)
    where
      own : q.0 ≡ port.0 → Keeps a (at_port a q rule)
      own e = record { up = (other_leaves (never (anyhow port)) a q rule (λ same x none. none)).up; has = λ up h. (known h).has up h }
        where
          known : Has a → Keeps a (at_port a q rule)
          known h =
              let linked : Linked = h.linked in
              let here : linked_at a.controller q ≡ Some linked = ap (λ k. at port_key k a.controller.ports) e ∙ h.of_port in
              let w : Work = rule linked.setup a.controller.desk (begins a linked) in
              let same : LeavesSame w = leaves linked here h.port_is in
              subst (Keeps a) (sym (ap (works a rule) here))
              (keeps_then a (with_work a linked w) (works_as a linked w) (work_keeps a linked w (own_place a q linked here) (λ k is. same.same_port))
              (acts_keep linked.setup.port w.actions same.acts (with_work a linked w)))
