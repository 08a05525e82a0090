-- joins that are tried, one after another

use Rattle.std.proofs.Common.{◌≡◌, ℕ, suc, ◌≤◌, ◌<◌, ◌+◌, ◌==◌, ◌&&◌, Bool, true, false, List, [], ◌∷◌, length, Option, None, Some, refl, sym, ◌∙◌, ap, subst, arith, if◌then◌else◌, fold, find}
use Rattle.std.specs.Prelude.{nat_le}
use Rattle.std.specs.Option.{option_map}
use Rattle.std.proofs.lemmas.Bool.Decides.{nat_tests}
use Rattle.live_model.specs.world_model.Words.{PortNo, End, Channel, Mark, FlowId, same_flow, best, flow_destination, next_hop_of, number_of_channel, at, Request, MoveBranch, home_of, last_transaction, Label, Grant, GrantState, Idle, ByController, ByInput, Leaving, grant_label, grant_for, is_by_controller, is_leaving, is_estab, label_at, lent, Controller, Linked, linked_at, port_key, asks, asks_next, sends_request, with_desk, node_resets, enters_grant, enters_label, join_by, join_for, join_through, joins, label_on, may_join, port_by, tries_label, tries_join, begins, default_channel, frame_cells, made, noted, Loss, PoolFull, next_control, with_control}
use Rattle.live_model.specs.world_model.Controller.{Acted, free_slots}
use Rattle.live_model.specs.world_model.Joins.{Join, output_joined}
use Rattle.live_model.specs.world_model.Sending.{with_cells, sends}
use Rattle.live_model.specs.world_model.frame_model.Sending.{Sender}
use Rattle.live_model.specs.world_model.gsmp_wire.Layout.{octets_of as gsmp_octets}
use Rattle.live_model.specs.world_model.port_model.Desk.{Desk, Standing, asked, message_at}
use Rattle.live_model.specs.world_model.port_model.Joins.{joined, joins_label}
use Rattle.law_port_facts.specs.ordered_lists.Ordered.{Every}
use Rattle.law_port_facts.proofs.Keyed.{at_key, at_every, apart_at}
use Rattle.law_live_unseen.proofs.Rules.{grants_are_lent_unseen, labels_are_joined_unseen}
use Rattle.law_live_ports.proofs.Keeping.{HasApart, Keeps, keeps_same, keeps_then, IsQuiet, KeepsDesk, rule_keeps}

-- *A join's grant* is one of its port, under which the controller sends
pub record IsOfGrant (c : Controller) (join : Join) : Type 0 where
  pub linked : Linked
  pub there : linked_at c join.port ≡ Some linked
  pub granted : at grant_label join.grant.label linked.port.grants ≡ Some join.grant
  pub stays : is_leaving join.grant.state ≡ false

find_passes : {A : Type 0} (test : A → Bool) (xs : List A) (x : A) → find test xs ≡ Some x → test x ≡ true
find_passes {A} test [] x e = absurd (cc e)
find_passes {A} test (z ∷ xs) x e = by (test z) refl e (find_passes test xs x)
  where
    one : (a b : A) → Some a ≡ Some b → a ≡ b
    one a b e = cc

    by : (b : Bool) → test z ≡ b → (if b then Some z else find test xs) ≡ Some x → (find test xs ≡ Some x → test x ≡ true) → test x ≡ true
    by true is e behind = subst (λ y. test y ≡ true) (one z x e) is
    by false is e behind = behind e

not_leaving : (state : GrantState) → is_by_controller state ≡ true → is_leaving state ≡ false
not_leaving Idle e = refl
not_leaving ByController e = refl
not_leaving (ByInput input) e = refl
not_leaving (Leaving input owed) e = absurd (cc e)

left_of_both : (x y : Bool) → (x && y) ≡ true → x ≡ true
left_of_both true y e = refl
left_of_both false y e = absurd (cc e)

module _ (c : Controller) (apart : Every HasApart c.ports) (input : End) (join : Join) where
  of_found : (linked : Linked) → linked_at c linked.setup.port ≡ Some linked → (next : FlowId) (o : Option Grant) → grant_for linked.port.grants next ≡ o
      → option_map (λ (grant : Grant). let j : Join = record { input = input; port = linked.setup.port; grant = grant } in j) o ≡ Some join → IsOfGrant c join
  of_found linked there next None is e = absurd (cc e)
  of_found linked there next (Some grant) is e = subst (IsOfGrant c) (one (record { input = input; port = linked.setup.port; grant = grant }) join e) (record {
    linked = linked;
    there = there;
    granted = apart_at grant_label (λ (g : Grant). is_by_controller g.state && same_flow g.flow next) linked.port.grants grant
        (at_every port_key HasApart linked.setup.port.0 c.ports linked apart there) is;
    stays = not_leaving grant.state (left_of_both (is_by_controller grant.state) (same_flow grant.flow next)
        (find_passes (λ (g : Grant). is_by_controller g.state && same_flow g.flow next) linked.port.grants grant is));
  })
    where
      one : (x y : Join) → Some x ≡ Some y → x ≡ y
      one x y e = cc

  of_through : (port : PortNo) (next : FlowId) (o : Option Linked) → linked_at c port ≡ o → join_through input next o ≡ Some join → IsOfGrant c join
  of_through port next None is e = absurd (cc e)
  of_through port next (Some linked) is e = of_found linked (ap (λ k. at port_key k c.ports) (at_key port_key port.0 c.ports linked is) ∙ is) next (grant_for linked.port.grants next) refl e

  of_by : (o : Option PortNo) (next : Option FlowId) → join_by c input o next ≡ Some join → IsOfGrant c join
  of_by None next e = absurd (cc e)
  of_by (Some port) None e = absurd (cc e)
  of_by (Some port) (Some next) e = of_through port next (linked_at c port) refl e

-- *Entering a join*
module _ (a : Acted) (join : Join) where
  grant_entered : IsOfGrant a.controller join → KeepsDesk a.controller (enters_grant a join).controller
  grant_entered of_grant = rule_keeps a (λ setup desk w. lent w join.grant join.input) join.port quiet
    where
      one : (x y : Linked) → Some x ≡ Some y → x ≡ y
      one x y e = cc

      quiet : (linked : Linked) → linked_at a.controller join.port ≡ Some linked → IsQuiet (lent (begins a linked) join.grant join.input) linked.port
      quiet linked found = record {
        nothing = refl;
        alike = grants_are_lent_unseen a.numbers.instances (record { setup = linked.setup; port = linked.port; said = [] }) join.grant join.input
            (ap (λ (l : Linked). at grant_label join.grant.label l.port.grants) (one linked of_grant.linked (sym found ∙ of_grant.there)) ∙ of_grant.granted) of_grant.stays;
      }

  label_entered : KeepsDesk a.controller (enters_label a join).controller
  label_entered = rule_keeps a (λ setup desk w. joined w (number_of_channel join.input.channel) (output_joined join)) join.input.port quiet
    where
      quiet : (linked : Linked) → linked_at a.controller join.input.port ≡ Some linked → IsQuiet (joined (begins a linked) (number_of_channel join.input.channel) (output_joined join)) linked.port
      quiet linked found = record {
        nothing = by (label_at linked.port (number_of_channel join.input.channel));
        alike = labels_are_joined_unseen a.numbers.instances (record { setup = linked.setup; port = linked.port; said = [] }) (number_of_channel join.input.channel) (output_joined join);
      }
        where
          by : (o : Option Label) → (joins_label (begins a linked) (Some (output_joined join)) o).actions ≡ []
          by None = refl
          by (Some label) = refl

-- *What is sent* changes no port and nothing at the desk
pub record SameRest (before after : Controller) : Type 0 where
  pub ports : after.ports ≡ before.ports
  pub desk : after.desk ≡ before.desk
  pub adjacency : after.adjacency ≡ before.adjacency
  pub address : after.address ≡ before.address

pub sent_rest : (a : Acted) (channel : Channel) (mark : Mark) (payload : List ℕ) → SameRest a.controller (sends a channel mark payload).controller
sent_rest a channel mark payload = by (nat_le (length (frame_cells channel mark payload)) (free_slots a.controller))
  where
    by : (b : Bool) → (let s : Sender Controller = if b then record { queues = with_cells a.controller (frame_cells channel mark payload); notes = made a.notes mark payload }
        else record { queues = a.controller; notes = noted (made a.notes mark payload) (Loss mark PoolFull) } in SameRest a.controller s.queues)
    by true = record { ports = refl; desk = refl; adjacency = refl; address = refl }
    by false = record { ports = refl; desk = refl; adjacency = refl; address = refl }

-- *A join is tried*: it takes one number at most
pub record Tried (a b : Controller) : Type 0 where
  pub keeps : Keeps a b
  pub next : b.desk.next ≤ a.desk.next + 1

nothing_tried : (c : Controller) → Tried c c
nothing_tried c = record { keeps = keeps_same c c refl refl refl; next = more c.desk.next }
  where
    more : (n : ℕ) → n ≤ n + 1
    more n = omega arith

asked_for : (a b : Acted) (request : Request) → KeepsDesk a.controller b.controller → is_estab a.controller.adjacency.state ≡ true → a.controller.desk.next < last_transaction
    → Tried a.controller (asks b request).controller
asked_for a b request kept up low = subst (λ (x : Acted). Tried a.controller x.controller) (sym whole) (record {
  keeps = keeps_then a.controller b.controller sent.controller kept.keeps
      (keeps_same b.controller sent.controller rest.ports rest.adjacency rest.address);
  next = subst (λ n. n ≤ a.controller.desk.next + 1) (sym (ap (λ (d : Desk). d.next) rest.desk ∙ ap (λ (d : Desk). d.next + 1) kept.desk)) (itself (a.controller.desk.next + 1));
})
  where
    itself : (n : ℕ) → n ≤ n
    itself n = omega arith

    below : (n last : ℕ) → n < last → (n == last) ≡ false
    below n last less = grind (arith, nat_tests)

    with_it : Acted
    with_it = with_desk b (asked b.controller.desk request)

    standing : Standing
    standing = record { number = b.controller.desk.next; request = request }

    sent : Acted
    sent = sends_request with_it standing

    rest : SameRest with_it.controller sent.controller
    rest = sent_rest (record with_it { numbers = with_control with_it.numbers }) default_channel (next_control with_it.numbers) (gsmp_octets (message_at with_it.controller.desk standing))

    whole : asks b request ≡ sent
    whole = ap (λ (t : Bool). if t then (if b.controller.desk.next == last_transaction then node_resets b else asks_next b request) else b)
        (ap (λ side. is_estab side.state) kept.keeps.adjacency ∙ up)
        ∙ ap (λ (t : Bool). if t then node_resets b else asks_next b request)
        (ap (λ (d : Desk). d.next == last_transaction) kept.desk ∙ below a.controller.desk.next last_transaction low)

kept_both : (a b c : Controller) → KeepsDesk a b → KeepsDesk b c → KeepsDesk a c
kept_both a b c p q = record { keeps = keeps_then a b c p.keeps q.keeps; desk = q.desk ∙ p.desk }

module _ (a : Acted) (input : End) (apart : Every HasApart a.controller.ports) (up : is_estab a.controller.adjacency.state ≡ true) (low : a.controller.desk.next < last_transaction) where
  joined_one : (o : Option Join) → ((join : Join) → o ≡ Some join → IsOfGrant a.controller join) → Tried a.controller (joins a o).controller
  joined_one None of_grant = nothing_tried a.controller
  joined_one (Some join) of_grant =
      asked_for a (enters_label (enters_grant a join) join) (MoveBranch join.input (home_of join.input) (output_joined join))
      (kept_both a.controller (enters_grant a join).controller (enters_label (enters_grant a join) join).controller
      (grant_entered a join (of_grant join refl)) (label_entered (enters_grant a join) join)) up low

  tried_label : (o : Option Label) → Tried a.controller (tries_label a input o).controller
  tried_label None = nothing_tried a.controller
  tried_label (Some label) = by (may_join a.controller input label)
    where
      by : (b : Bool) → Tried a.controller (if b then joins a (join_for a.controller input label.flow) else a).controller
      by false = nothing_tried a.controller
      by true = joined_one (join_for a.controller input label.flow)
          (λ join is. of_by a.controller apart input join (port_by (best a.controller.table (flow_destination label.flow))) (next_hop_of label.flow) is)

  pub tried : Tried a.controller (tries_join a input).controller
  tried = tried_label (label_on a.controller input)

-- *All of them*
pub all_tried : (inputs : List End) (a : Acted) → Every HasApart a.controller.ports → is_estab a.controller.adjacency.state ≡ true
    → a.controller.desk.next + length inputs ≤ last_transaction → Keeps a.controller (fold tries_join a inputs).controller
all_tried [] a apart up low = keeps_same a.controller a.controller refl refl refl
all_tried (input ∷ inputs) a apart up low =
    let one : Tried a.controller (tries_join a input).controller = tried a input apart up (some a.controller.desk.next (length inputs) last_transaction low) in
    keeps_then a.controller (tries_join a input).controller (fold tries_join (tries_join a input) inputs).controller one.keeps
    (all_tried inputs (tries_join a input) (one.keeps.apart apart) (ap (λ side. is_estab side.state) one.keeps.adjacency ∙ up)
    (later (tries_join a input).controller.desk.next a.controller.desk.next (length inputs) last_transaction one.next low))
  where
    some : (n k last : ℕ) → n + suc k ≤ last → n < last
    some n k last few = omega (arith, few)

    later : (m n k last : ℕ) → m ≤ n + 1 → n + suc k ≤ last → m + k ≤ last
    later m n k last one few = omega (arith, one, few)
