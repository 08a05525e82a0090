-- what a port has asked that isn't done yet, by which a desk and its ports are tied

use Rattle.std.proofs.Common.{◌≡◌, ◌≢◌, ℕ, ◌<◌, List, Some, sym, ◌∙◌, ap, subst, arith}
use Rattle.world_model.specs.Words.{Policy, NodeId, End, Request, AddBranch, MoveBranch, number_of_channel, label_end, control_end, at, Setup, Desk, Standing, Label, Wiring, label_number, labels_of, Grant, Idle, grant_label, Controller, Linked, port_key, Past, Site}
use Rattle.law_live_journeys.specs.law_port_facts.ordered_lists.Ordered.{Every}
use Rattle.law_live_journeys.specs.law_port_facts.Port.{IsBefore}
use Rattle.law_live_journeys.proofs.law_port_facts.ordered_lists.Every.{every_map, every_map2, every_all}
use Rattle.law_live_journeys.proofs.law_port_facts.ordered_lists.InOrder.{order_map, order_unmapped}
use Rattle.law_live_journeys.proofs.law_port_facts.Keyed.{at_every, at_key, each_found}
use Rattle.law_live_journeys.specs.law_controller.law_controller_facts.Sound.{AreApart, IsLinkedPort}
use Rattle.law_live_journeys.specs.law_run_facts.Nodes.{IsNodeOfRun}
use Rattle.law_live_journeys.specs.law_run_facts.law_world_views.Between.{setups_of}
use Rattle.law_live_journeys.proofs.law_live_mirrors.Ports.{number_again}
use Rattle.law_live_journeys.specs.law_live_bindings.Law.{label_branch, grant_branch}
use Rattle.law_live_ease.specs.Law.{IsTied, wires, starts, joins, IsAsked, AreTied}

-- *It has such a one* of a key
pub record Has {A : Type 0} (key : A → ℕ) (Such : A → Type 0) (xs : List A) (k : ℕ) : Type 0 where
  pub item : A
  pub held : at key k xs ≡ Some item
  pub is : Such item

abbrev pub Wires : Label → Type 0
Wires label = label.state ≡ Wiring

abbrev pub Idles : Grant → Type 0
Idles grant = grant.state ≡ Idle

-- *Owed* to a port is the branch of a label that is being wired, and of a grant that isn't used yet
pub data IsOwed (setup : Setup) (labels : List Label) (grants : List Grant) : Request → Type 0 where
  of_label : (number : ℕ) → Has label_number Wires labels number → IsOwed setup labels grants (label_branch setup number)
  of_grant : (number : ℕ) → Has grant_label Idles grants number → IsOwed setup labels grants (grant_branch setup number)

abbrev pub Owes : Linked → Request → Type 0
Owes linked request = IsOwed linked.setup (labels_of linked.port) linked.port.grants request

-- *What stands* is owed to a port, or joins
pub data IsOf (ports : List Linked) : Request → Type 0 where
  owed : (linked : Linked) (request : Request) → at port_key linked.setup.port.0 ports ≡ Some linked → Owes linked request → IsOf ports request
  moves : (input from to : End) → to.port.0 ≢ 0 → IsOf ports (MoveBranch input from to)

-- and what is owed stands
pub record Tie (ports : List Linked) (desk : Desk) : Type 0 where
  pub standing : Every (λ (s : Standing). IsOf ports s.request) desk.standing
  pub owed : (linked : Linked) (request : Request) → at port_key linked.setup.port.0 ports ≡ Some linked → Owes linked request → IsAsked desk request

-- *So it is where they are tied*
of_tied : (c : Controller) (request : Request) → IsTied c request → IsOf c.ports request
of_tied c _ (wires linked label there held wiring) = owed linked (label_branch linked.setup label.number) there (of_label label.number (record { item = label; held = held; is = wiring }))
of_tied c _ (starts linked grant there held idle) = owed linked (grant_branch linked.setup grant.label) there (of_grant grant.label (record { item = grant; held = held; is = idle }))
of_tied c _ (joins input from to away) = moves input from to away

module _ (c : Controller) (ties : AreTied c) (linked : Linked) (there : at port_key linked.setup.port.0 c.ports ≡ Some linked) where
  wiring_stood : Every (λ (x : Label). Wires x → IsAsked c.desk (label_branch linked.setup x.number)) (labels_of linked.port)
  wiring_stood = at_every port_key (λ (l : Linked). Every (λ (x : Label). Wires x → IsAsked c.desk (label_branch l.setup x.number)) (labels_of l.port)) linked.setup.port.0 c.ports linked ties.wiring there

  idle_stood : Every (λ (x : Grant). Idles x → IsAsked c.desk (grant_branch linked.setup x.label)) linked.port.grants
  idle_stood = at_every port_key (λ (l : Linked). Every (λ (x : Grant). Idles x → IsAsked c.desk (grant_branch l.setup x.label)) l.port.grants) linked.setup.port.0 c.ports linked ties.idle there

  owed_stands : (request : Request) → Owes linked request → IsAsked c.desk request
  owed_stands _ (of_label number has) = subst (λ n. IsAsked c.desk (label_branch linked.setup n)) (at_key label_number number (labels_of linked.port) has.item has.held)
      (at_every label_number (λ (x : Label). Wires x → IsAsked c.desk (label_branch linked.setup x.number)) number (labels_of linked.port) has.item wiring_stood has.held has.is)
  owed_stands _ (of_grant number has) = subst (λ n. IsAsked c.desk (grant_branch linked.setup n)) (at_key grant_label number linked.port.grants has.item has.held)
      (at_every grant_label (λ (x : Grant). Idles x → IsAsked c.desk (grant_branch linked.setup x.label)) number linked.port.grants has.item idle_stood has.held has.is)

pub tie_of : (c : Controller) → AreTied c → Tie c.ports c.desk
tie_of c ties = record {
  standing = every_map (λ (s : Standing). IsTied c s.request) (λ (s : Standing). IsOf c.ports s.request) c.desk.standing (λ s is. of_tied c s.request is) ties.standing;
  owed = λ linked request there is. owed_stands c ties linked there request is;
}

-- *and they are tied where it is so*, in a run: no two ports have one number, no two labels and no two grants of a port
pub own_key : {A : Type 0} (key : A → ℕ) (k : ℕ) (xs : List A) (x : A) → at key k xs ≡ Some x → at key (key x) xs ≡ Some x
own_key key k xs x held = subst (λ n. at key n xs ≡ Some x) (sym (at_key key k xs x held)) held

from_owed : (c : Controller) (linked : Linked) → at port_key linked.setup.port.0 c.ports ≡ Some linked → (request : Request) → Owes linked request → IsTied c request
from_owed c linked there _ (of_label number has) = subst (λ n. IsTied c (label_branch linked.setup n)) (at_key label_number number (labels_of linked.port) has.item has.held)
    (wires linked has.item there (own_key label_number number (labels_of linked.port) has.item has.held) has.is)
from_owed c linked there _ (of_grant number has) = subst (λ n. IsTied c (grant_branch linked.setup n)) (at_key grant_label number linked.port.grants has.item has.held)
    (starts linked has.item there (own_key grant_label number linked.port.grants has.item has.held) has.is)

tied_of : (c : Controller) (request : Request) → IsOf c.ports request → IsTied c request
tied_of c _ (owed linked request there is) = from_owed c linked there request is
tied_of c _ (moves input from to away) = joins input from to away

below_apart : (m n : ℕ) → m < n → m ≢ n
below_apart m n less e = absurd (omega (arith, less, e))

module _ {policy : Policy} {past : Past} {node : NodeId} {site : Site} (n : IsNodeOfRun policy past node site) where
  abbrev c : Controller
  c = site.controller

  pub each_there : Every (λ (linked : Linked). at port_key (port_key linked) c.ports ≡ Some linked) c.ports
  each_there = each_found port_key c.ports (order_unmapped (λ (linked : Linked). linked.setup) AreApart c.ports n.conduct.sound.ports.apart)

  abbrev WiringStands : Linked → Type 0
  WiringStands linked = Every (λ (label : Label). label.state ≡ Wiring → IsAsked c.desk (label_branch linked.setup label.number)) (labels_of linked.port)

  abbrev IdleStands : Linked → Type 0
  IdleStands linked = Every (λ (grant : Grant). grant.state ≡ Idle → IsAsked c.desk (grant_branch linked.setup grant.label)) linked.port.grants

  module _ (tie : Tie c.ports c.desk) (linked : Linked) (there : at port_key (port_key linked) c.ports ≡ Some linked) (is : IsLinkedPort (setups_of c) linked) where
    wiring_stands : WiringStands linked
    wiring_stands = every_map (λ (label : Label). at label_number (label_number label) (labels_of linked.port) ≡ Some label)
        (λ (label : Label). label.state ≡ Wiring → IsAsked c.desk (label_branch linked.setup label.number)) (labels_of linked.port)
        (λ label held wiring. tie.owed linked (label_branch linked.setup label.number) there (of_label label.number (record { item = label; held = held; is = wiring })))
        (each_found label_number (labels_of linked.port) (order_map IsBefore (λ (x y : Label). label_number x ≢ label_number y) (λ (x : Label). Unit {0}) (labels_of linked.port)
        (λ x y p q less. below_apart x.number y.number less) (every_all (λ (x : Label). Unit {0}) (labels_of linked.port) (λ x. tt)) is.ascend))

    idle_stands : IdleStands linked
    idle_stands = every_map (λ (grant : Grant). at grant_label (grant_label grant) linked.port.grants ≡ Some grant)
        (λ (grant : Grant). grant.state ≡ Idle → IsAsked c.desk (grant_branch linked.setup grant.label)) linked.port.grants
        (λ grant held idle. tie.owed linked (grant_branch linked.setup grant.label) there (of_grant grant.label (record { item = grant; held = held; is = idle })))
        (each_found grant_label linked.port.grants is.apart)

  pub ties_of : Tie c.ports c.desk → AreTied c
  ties_of tie = record {
    standing = every_map (λ (s : Standing). IsOf c.ports s.request) (λ (s : Standing). IsTied c s.request) c.desk.standing (λ s is. tied_of c s.request is) tie.standing;
    wiring = every_map2 (λ (linked : Linked). at port_key (port_key linked) c.ports ≡ Some linked) (IsLinkedPort (setups_of c)) WiringStands c.ports
        (λ linked there is. wiring_stands tie linked there is) each_there n.conduct.sound.ports.each;
    idle = every_map2 (λ (linked : Linked). at port_key (port_key linked) c.ports ≡ Some linked) (IsLinkedPort (setups_of c)) IdleStands c.ports
        (λ linked there is. idle_stands tie linked there is) each_there n.conduct.sound.ports.each;
  }

-- *Branches of labels and of grants* are told apart by their ends
same_input : (i o j p : End) → AddBranch i o ≡ AddBranch j p → i ≡ j
same_input i o j p e = cc

same_output : (i o j p : End) → AddBranch i o ≡ AddBranch j p → o ≡ p
same_output i o j p e = cc

pub record AreSame (x y : Setup) (m n : ℕ) : Type 0 where
  pub port : x.port.0 ≡ y.port.0
  pub number : m ≡ n

pub one_end : (x y : Setup) (m n : ℕ) → label_end x.port m ≡ label_end y.port n → AreSame x y m n
one_end x y m n e = record { port = ap (λ (z : End). z.port.0) e; number = sym (number_again m) ∙ (ap (λ (z : End). number_of_channel z.channel) e ∙ number_again n) }

pub same_labels : (x y : Setup) (m n : ℕ) → label_branch x m ≡ label_branch y n → AreSame x y m n
same_labels x y m n e = one_end x y m n (same_input (label_end x.port m) (control_end x.port m) (label_end y.port n) (control_end y.port n) e)

pub same_grants : (x y : Setup) (m n : ℕ) → grant_branch x m ≡ grant_branch y n → AreSame x y m n
same_grants x y m n e = one_end x y m n (same_output (control_end x.port m) (label_end x.port m) (control_end y.port n) (label_end y.port n) e)

pub grant_not_label : (x y : Setup) (m n : ℕ) → y.port.0 ≢ 0 → grant_branch x m ≡ label_branch y n → ⊥
grant_not_label x y m n link e = link (sym (ap (λ (z : End). z.port.0) (same_input (control_end x.port m) (label_end x.port m) (label_end y.port n) (control_end y.port n) e)))

pub label_not_grant : (x y : Setup) (m n : ℕ) → y.port.0 ≢ 0 → label_branch x m ≡ grant_branch y n → ⊥
label_not_grant x y m n link e = link (sym (ap (λ (z : End). z.port.0) (same_output (label_end x.port m) (control_end x.port m) (control_end y.port n) (label_end y.port n) e)))
