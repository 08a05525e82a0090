-- what the rules of ports, and what these ask, leave of a port

use Rattle.std.proofs.Common.{◌≡◌, ℕ, Bool, true, false, List, [], ◌∷◌, Option, None, Some, refl, sym, ◌∙◌, ap, subst, fold, if◌then◌else◌}
use Rattle.std.specs.Prelude.{◌==◌}
use Rattle.world_model.specs.Words.{PortNo, Channel, End, Mark, Party, Side, is_estab, at, Request, MoveBranch, is_led_home, last_transaction, Action, home_of, Work, resets, restarts, Linked, linked_at, port_key, with_desk, default_channel, default_home, default_payload, ifmp_packet_of, next_control, with_control, sends_control, asks_next, asks, takes_back, cuts_of, cuts_label, begins, with_work, closes_by, port_restarts_of, port_restarts, resets_gsmp, node_resets, does, does_in_estab, resets_of, resets_port, performs, performs_in_estab, Rule, works, works_as, at_port, nothing_taken, chains_with}
use Rattle.world_model.specs.Controller.{Acted, ports_of}
use Rattle.world_model.specs.Sending.{sends}
use Rattle.world_model.specs.port_model.Desk.{Standing, asked, message_at}
use Rattle.world_model.specs.port_model.Port.{Port}
use Rattle.world_model.specs.port_model.declared.action.Action.TheVariants as actions
use Rattle.world_model.specs.gsmp_wire.Layout.{octets_of as gsmp_octets}
use Rattle.world_model.specs.ifmp_wire.Message.{octets_of as ifmp_octets}
use Rattle.law_port_facts.specs.ordered_lists.Ordered.{Every}
use Rattle.law_port_facts.proofs.Keyed.{on_both, at_key, by_eq}
use Rattle.law_live_unseen.specs.Law.{AreAlike}
use Rattle.law_live_ports.proofs.Keeping.{alike_itself}
use Rattle.law_live_ports.proofs.Joining.{SameRest, sent_rest}
use Rattle.law_live_others.specs.Law.{IsUp}
use Rattle.law_live_others.proofs.Leaving.{Terms, never, Leaves, leaves_same, leaves_then, leaves_down, leaves_fold, leaves_put, under}

-- *A node reset* leaves the node down, and its address
pub record SameSide (a b : Acted) : Type 0 where
  pub adjacency : b.controller.adjacency ≡ a.controller.adjacency
  pub address : b.controller.address ≡ a.controller.address

side_then : (a b c : Acted) → SameSide a b → SameSide b c → SameSide a c
side_then a b c p q = record { adjacency = q.adjacency ∙ p.adjacency; address = q.address ∙ p.address }

side_fold : {X : Type 0} (f : Acted → X → Acted) → ((a : Acted) (x : X) → SameSide a (f a x)) → (xs : List X) (a : Acted) → SameSide a (fold f a xs)
side_fold f each [] a = record { adjacency = refl; address = refl }
side_fold f each (x ∷ xs) a = side_then a (f a x) (fold f (f a x) xs) (each a x) (side_fold f each xs (f a x))

closes_side : (q : PortNo) (a : Acted) (action : Action) → SameSide a (closes_by q a action)
closes_side q a (actions.Say message) = record { adjacency = refl; address = refl }
closes_side q a (actions.Ask request needed) = record { adjacency = refl; address = refl }
closes_side q a (actions.Note item) = record { adjacency = refl; address = refl }
closes_side q a (actions.CutChain label) = by (linked_at a.controller q)
  where
    by : (o : Option Linked) → SameSide a (cuts_of a label o)
    by None = record { adjacency = refl; address = refl }
    by (Some linked) = record { adjacency = refl; address = refl }
closes_side q a (actions.TakeBack input output) = record { adjacency = refl; address = refl }
closes_side q a (actions.Withdraw input) = record { adjacency = refl; address = refl }
closes_side q a actions.Reset = record { adjacency = refl; address = refl }

restarts_side : (a : Acted) (q : PortNo) → SameSide a (port_restarts a q)
restarts_side a q = by (linked_at a.controller q)
  where
    by : (o : Option Linked) → SameSide a (port_restarts_of a o)
    by None = record { adjacency = refl; address = refl }
    by (Some linked) =
        let w : Work = restarts linked.setup (begins a linked) in
        side_then a (with_work a linked w) (fold (closes_by linked.setup.port) (with_work a linked w) w.actions) (record { adjacency = refl; address = refl })
        (side_fold (closes_by linked.setup.port) (closes_side linked.setup.port) w.actions (with_work a linked w))

-- *A port found* by a key stands under its own
pub own_place : (a : Acted) (q : PortNo) (linked : Linked) → linked_at a.controller q ≡ Some linked → at port_key (port_key linked) a.controller.ports ≡ Some linked
own_place a q linked found = ap (λ k. at port_key k a.controller.ports) (at_key port_key q.0 a.controller.ports linked found) ∙ found

-- *What the port itself may do*: what its peer doesn't see, and ask anything but to be reset
abbrev pub IsAct : Action → Type 0
IsAct actions.Reset = ⊥
IsAct action = Unit {0}

pub record IsUnseen (port : Port) (w : Work) : Type 0 where
  pub alike : AreAlike port w.port
  pub acts : Every IsAct w.actions

module _ (t : Terms) where
  pub node_leaves : (a : Acted) → Leaves t a (node_resets a)
  node_leaves a = leaves_down t a (node_resets a) side.address down
    where
      side : SameSide (resets_gsmp a) (node_resets a)
      side = side_fold port_restarts restarts_side (ports_of a.controller) (resets_gsmp a)

      down : IsUp (node_resets a) → ⊥
      down up = absurd (cc (sym (ap (λ (s : Side Party). is_estab s.state) side.adjacency) ∙ up))

  -- *What is sent*
  pub sends_leaves : (a : Acted) (channel : Channel) (mark : Mark) (payload : List ℕ) → Leaves t a (sends a channel mark payload)
  sends_leaves a channel mark payload =
      let rest : SameRest a.controller (sends a channel mark payload).controller = sent_rest a channel mark payload in
      leaves_same t a (sends a channel mark payload) rest.ports rest.adjacency rest.address

  pub control_leaves : (a : Acted) (channel : Channel) (payload : List ℕ) → Leaves t a (sends_control a channel payload)
  control_leaves a channel payload =
      let rest : SameRest a.controller (sends_control a channel payload).controller = sent_rest (record a { numbers = with_control a.numbers }) channel (next_control a.numbers) payload in
      leaves_same t a (sends_control a channel payload) rest.ports rest.adjacency rest.address

  -- *What is asked*
  next_leaves : (a : Acted) (request : Request) → Leaves t a (asks_next a request)
  next_leaves a request =
      let d : Acted = with_desk a (asked a.controller.desk request) in
      let s : Standing = record { number = a.controller.desk.next; request = request } in
      leaves_then t a d (asks_next a request) (leaves_same t a d refl refl refl) (control_leaves d default_channel (gsmp_octets (message_at d.controller.desk s)))

  pub asks_leaves : (a : Acted) (request : Request) → Leaves t a (asks a request)
  asks_leaves a request = on_both (Leaves t a) (is_estab a.controller.adjacency.state) (if a.controller.desk.next == last_transaction then node_resets a else asks_next a request) a
      (on_both (Leaves t a) (a.controller.desk.next == last_transaction) (node_resets a) (asks_next a request) (node_leaves a) (next_leaves a request))
      (leaves_same t a a refl refl refl)

  pub back_leaves : (a : Acted) (input output : End) → Leaves t a (takes_back a input output)
  back_leaves a input output = on_both (Leaves t a) (is_led_home a.controller.desk input (home_of input)) a (asks a (MoveBranch input output (home_of input)))
      (leaves_same t a a refl refl refl) (asks_leaves a (MoveBranch input output (home_of input)))

  -- *What a port asks*, but a reset
  cuts_leaves : (q : PortNo) (a : Acted) (label : ℕ) → Leaves t a (cuts_label q a label)
  cuts_leaves q a label = by (linked_at a.controller q) refl
    where
      by : (o : Option Linked) → linked_at a.controller q ≡ o → Leaves t a (cuts_of a label o)
      by None found = leaves_same t a a refl refl refl
      by (Some linked) found = leaves_put t a (cuts_of a label (Some linked)) linked (record linked { chains = chains_with linked.chains label nothing_taken }) (own_place a q linked found) refl
          (λ same is. alike_itself linked.port) refl refl refl

  does_leaves : (q : PortNo) (a : Acted) (action : Action) → Leaves t a (does q a action)
  does_leaves q a (actions.Say message) = control_leaves a (default_home q).channel (default_payload (ifmp_packet_of a.controller.address (ifmp_octets message)))
  does_leaves q a (actions.Ask request needed) = asks_leaves a request
  does_leaves q a (actions.Note item) = leaves_same t a (does q a (actions.Note item)) refl refl refl
  does_leaves q a (actions.CutChain label) = cuts_leaves q a label
  does_leaves q a (actions.TakeBack input output) = back_leaves a input output
  does_leaves q a (actions.Withdraw input) = leaves_same t a (does q a (actions.Withdraw input)) refl refl refl
  does_leaves q a actions.Reset = leaves_same t a a refl refl refl

  pub does_in_leaves : (q : PortNo) (a : Acted) (action : Action) → Leaves t a (does_in_estab q a action)
  does_in_leaves q a action = on_both (Leaves t a) (is_estab a.controller.adjacency.state) (does q a action) a (does_leaves q a action) (leaves_same t a a refl refl refl)

  -- *A port that worked* is put back
  work_leaves : (a : Acted) (linked : Linked) (w : Work) → at port_key (port_key linked) a.controller.ports ≡ Some linked
      → (port_key linked ≡ t.port.0 → t.is linked.port → AreAlike linked.port w.port) → Leaves t a (with_work a linked w)
  work_leaves a linked w own alike = leaves_put t a (with_work a linked w) linked (record linked { port = w.port }) own refl alike refl refl refl

  -- *Another port*, or one of which nothing is said, may do anything
  abbrev IsNone : PortNo → Type 0
  IsNone q = q.0 ≡ t.port.0 → (x : Port) → t.is x → ⊥

  resets_leaves : (q : PortNo) → IsNone q → (a : Acted) → Leaves t a (resets_port a q)
  resets_leaves q none a = by (linked_at a.controller q) refl
    where
      by : (o : Option Linked) → linked_at a.controller q ≡ o → Leaves t a (resets_of a o)
      by None found = leaves_same t a a refl refl refl
      by (Some linked) found =
          let w : Work = resets linked.setup (begins a linked) in
          leaves_then t a (with_work a linked w) (fold (does_in_estab linked.setup.port) (with_work a linked w) w.actions)
          (work_leaves a linked w (own_place a q linked found) (λ same is. absurd (none (sym (at_key port_key q.0 a.controller.ports linked found) ∙ same) linked.port is)))
          (leaves_fold t (does_in_estab linked.setup.port) (does_in_leaves linked.setup.port) w.actions (with_work a linked w))

  performs_leaves : (q : PortNo) → IsNone q → (a : Acted) (action : Action) → Leaves t a (performs q a action)
  performs_leaves q none a (actions.Say message) = does_leaves q a (actions.Say message)
  performs_leaves q none a (actions.Ask request needed) = does_leaves q a (actions.Ask request needed)
  performs_leaves q none a (actions.Note item) = does_leaves q a (actions.Note item)
  performs_leaves q none a (actions.CutChain label) = does_leaves q a (actions.CutChain label)
  performs_leaves q none a (actions.TakeBack input output) = does_leaves q a (actions.TakeBack input output)
  performs_leaves q none a (actions.Withdraw input) = does_leaves q a (actions.Withdraw input)
  performs_leaves q none a actions.Reset = resets_leaves q none a

  performs_in_leaves : (q : PortNo) → IsNone q → (a : Acted) (action : Action) → Leaves t a (performs_in_estab q a action)
  performs_in_leaves q none a action = on_both (Leaves t a) (is_estab a.controller.adjacency.state) (performs q a action) a (performs_leaves q none a action) (leaves_same t a a refl refl refl)

  pub other_leaves : (a : Acted) (q : PortNo) (rule : Rule) → IsNone q → Leaves t a (at_port a q rule)
  other_leaves a q rule none = by (linked_at a.controller q) refl
    where
      by : (o : Option Linked) → linked_at a.controller q ≡ o → Leaves t a (works a rule o)
      by None found = leaves_same t a a refl refl refl
      by (Some linked) found =
          let w : Work = rule linked.setup a.controller.desk (begins a linked) in
          leaves_then t a (with_work a linked w) (works_as a linked w)
          (work_leaves a linked w (own_place a q linked found) (λ same is. absurd (none_there same linked.port is)))
          (leaves_fold t (performs_in_estab linked.setup.port) (performs_in_leaves linked.setup.port none_there) w.actions (with_work a linked w))
        where
          none_there : IsNone linked.setup.port
          none_there same x is = none (sym (at_key port_key q.0 a.controller.ports linked found) ∙ same) x is

  -- *The port itself*, where its peer doesn't see it
  pub act_leaves : (q : PortNo) (a : Acted) (action : Action) → IsAct action → Leaves t a (performs q a action)
  act_leaves q a (actions.Say message) is = does_leaves q a (actions.Say message)
  act_leaves q a (actions.Ask request needed) is = does_leaves q a (actions.Ask request needed)
  act_leaves q a (actions.Note item) is = does_leaves q a (actions.Note item)
  act_leaves q a (actions.CutChain label) is = does_leaves q a (actions.CutChain label)
  act_leaves q a (actions.TakeBack input output) is = does_leaves q a (actions.TakeBack input output)
  act_leaves q a (actions.Withdraw input) is = does_leaves q a (actions.Withdraw input)
  act_leaves q a actions.Reset is = absurd is

  acts_leave : (q : PortNo) (asked : List Action) → Every IsAct asked → (a : Acted) → Leaves t a (fold (performs_in_estab q) a asked)
  acts_leave q [] are a = leaves_same t a a refl refl refl
  acts_leave q (action ∷ asked) are a = leaves_then t a (performs_in_estab q a action) (fold (performs_in_estab q) (performs_in_estab q a action) asked)
      (on_both (Leaves t a) (is_estab a.controller.adjacency.state) (performs q a action) a (act_leaves q a action are.0) (leaves_same t a a refl refl refl))
      (acts_leave q asked are.1 (performs_in_estab q a action))

  pub unseen_leaves : (a : Acted) (linked : Linked) (w : Work) → at port_key (port_key linked) a.controller.ports ≡ Some linked → IsUnseen linked.port w → Leaves t a (works_as a linked w)
  unseen_leaves a linked w own unseen = leaves_then t a (with_work a linked w) (works_as a linked w) (work_leaves a linked w own (λ same is. unseen.alike))
      (acts_leave linked.setup.port w.actions unseen.acts (with_work a linked w))

-- *A rule of any port*, that the peer of the port doesn't see where it is a rule of the port itself
pub rule_leaves : (t : Terms) (a : Acted) (q : PortNo) (rule : Rule)
    → ((linked : Linked) → linked_at a.controller q ≡ Some linked → port_key linked ≡ t.port.0 → t.is linked.port → IsUnseen linked.port (rule linked.setup a.controller.desk (begins a linked)))
    → Leaves t a (at_port a q rule)
rule_leaves t a q rule unseen = by_eq q.0 t.port.0 (λ same tested. own same) (λ differs tested. other_leaves t a q rule (λ same x is. differs same))
  where
    own : q.0 ≡ t.port.0 → Leaves t a (at_port a q rule)
    own same = under t a (at_port a q rule) (other_leaves (never t) a q rule (λ e x none. none)) (λ up linked h found is. known linked (ap (λ k. at port_key k a.controller.ports) same ∙ found) found is)
      where
        known : (linked : Linked) → linked_at a.controller q ≡ Some linked → linked_at a.controller t.port ≡ Some linked → t.is linked.port → Leaves t a (at_port a q rule)
        known linked here found is = subst (Leaves t a) (sym (ap (works a rule) here))
            (unseen_leaves t a linked (rule linked.setup a.controller.desk (begins a linked)) (own_place a q linked here)
            (unseen linked here (at_key port_key t.port.0 a.controller.ports linked found) is))
