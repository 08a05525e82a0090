-- a rule of one port that asks and says nothing, and that the port's peer doesn't see

use Rattle.std.proofs.Common.{◌≡◌, List, [], Option, None, Some, refl, sym, ◌∙◌, ap, subst, fold}
use Rattle.live_model.specs.world_model.Words.{PortNo, at, put, Grant, grant_label, Work, Controller, Linked, linked_at, port_key, at_port, begins, with_work, works, performs_in_estab, Rule}
use Rattle.live_model.specs.world_model.Controller.{Acted}
use Rattle.live_model.specs.world_model.port_model.Port.{Port}
use Rattle.law_port_facts.specs.ordered_lists.Ordered.{Every, InOrder}
use Rattle.law_port_facts.proofs.ordered_lists.InOrder.{order_mapped, order_unmapped}
use Rattle.law_port_facts.proofs.Keyed.{at_key, at_every, at_put_same, at_put_other, by_eq, put_every}
use Rattle.law_live_unseen.specs.Law.{SeenGrant, seen_grant, AreAlike}

-- *Alike to the peer*, one after another
pub alike_itself : (port : Port) → AreAlike port port
alike_itself port = record { adjacency = refl; in_session = refl; number = refl; expected = refl; labels = refl; grants = refl }

pub alike_then : (one next last : Port) → AreAlike one next → AreAlike next last → AreAlike one last
alike_then one next last p q = record {
  adjacency = q.adjacency ∙ p.adjacency;
  in_session = q.in_session ∙ p.in_session;
  number = q.number ∙ p.number;
  expected = q.expected ∙ p.expected;
  labels = q.labels ∙ p.labels;
  grants = q.grants ∙ p.grants;
}

-- *Grants apart* stay so
abbrev pub AreApart : List Grant → Type 0
AreApart grants = InOrder (λ (a b : Grant). grant_label a ≡ grant_label b → ⊥) grants

abbrev pub HasApart : Linked → Type 0
HasApart linked = AreApart linked.port.grants

apart_alike : (one next : Port) → AreAlike one next → AreApart one.grants → AreApart next.grants
apart_alike one next alike apart = order_unmapped seen_grant (λ (a b : SeenGrant). a.label ≡ b.label → ⊥) next.grants
    (subst (InOrder (λ (a b : SeenGrant). a.label ≡ b.label → ⊥)) (sym alike.grants) (order_mapped seen_grant (λ (a b : SeenGrant). a.label ≡ b.label → ⊥) one.grants apart))

-- *A port is there* still, alike
pub record LikeAt (linked : Linked) (now : Option Linked) : Type 0 where
  pub after : Linked
  pub there : now ≡ Some after
  pub setup : after.setup ≡ linked.setup
  pub alike : AreAlike linked.port after.port

-- *A controller keeps* each port so, its adjacency with the switch and its address
pub record Keeps (a b : Controller) : Type 0 where
  pub ports : (port : PortNo) (linked : Linked) → linked_at a port ≡ Some linked → LikeAt linked (linked_at b port)
  pub adjacency : b.adjacency ≡ a.adjacency
  pub address : b.address ≡ a.address
  pub apart : Every HasApart a.ports → Every HasApart b.ports

pub keeps_same : (a b : Controller) → b.ports ≡ a.ports → b.adjacency ≡ a.adjacency → b.address ≡ a.address → Keeps a b
keeps_same a b ports adjacency address = record {
  ports = λ port linked found. record { after = linked; there = ap (at port_key port.0) ports ∙ found; setup = refl; alike = alike_itself linked.port };
  adjacency = adjacency;
  address = address;
  apart = λ apart. subst (Every HasApart) (sym ports) apart;
}

pub keeps_then : (a b c : Controller) → Keeps a b → Keeps b c → Keeps a c
keeps_then a b c p q = record {
  ports = λ port linked found. then port linked (p.ports port linked found);
  adjacency = q.adjacency ∙ p.adjacency;
  address = q.address ∙ p.address;
  apart = λ apart. q.apart (p.apart apart);
}
  where
    then : (port : PortNo) (linked : Linked) → LikeAt linked (linked_at b port) → LikeAt linked (linked_at c port)
    then port linked one = record {
      after = next.after;
      there = next.there;
      setup = next.setup ∙ one.setup;
      alike = alike_then linked.port one.after.port next.after.port one.alike next.alike;
    }
      where
        next : LikeAt one.after (linked_at c port)
        next = q.ports port one.after one.there

-- *A quiet rule* of a port
pub record IsQuiet (w : Work) (port : Port) : Type 0 where
  pub nothing : w.actions ≡ []
  pub alike : AreAlike port w.port

pub record KeepsDesk (a b : Controller) : Type 0 where
  pub keeps : Keeps a b
  pub desk : b.desk ≡ a.desk

module _ (a : Acted) (rule : Rule) where
  abbrev work_at : Linked → Work
  work_at linked = rule linked.setup a.controller.desk (begins a linked)

  module _ (port : PortNo) (linked : Linked) (found : linked_at a.controller port ≡ Some linked) (quiet : IsQuiet (work_at linked) linked.port) where
    abbrev changed : Linked
    changed = record linked { port = (work_at linked).port }

    done : at_port a port rule ≡ with_work a linked (work_at linked)
    done = ap (works a rule) found ∙ ap (λ actions. fold (performs_in_estab linked.setup.port) (with_work a linked (work_at linked)) actions) quiet.nothing

    own_place : at port_key (port_key linked) a.controller.ports ≡ Some linked
    own_place = ap (λ k. at port_key k a.controller.ports) (at_key port_key port.0 a.controller.ports linked found) ∙ found

    here : at port_key (port_key linked) (put port_key changed a.controller.ports) ≡ Some changed
    here = at_put_same port_key changed a.controller.ports linked own_place

    one_linked : (x y : Linked) → Some x ≡ Some y → x ≡ y
    one_linked x y e = cc

    each : (q : PortNo) (other : Linked) → linked_at a.controller q ≡ Some other → LikeAt other (at port_key q.0 (put port_key changed a.controller.ports))
    each q other there = by_eq (port_key linked) q.0
        (λ same t. subst (λ (l : Linked). LikeAt l (at port_key q.0 (put port_key changed a.controller.ports)))
        (one_linked linked other (sym own_place ∙ (ap (λ k. at port_key k a.controller.ports) same ∙ there)))
        (record { after = changed; there = ap (λ k. at port_key k (put port_key changed a.controller.ports)) (sym same) ∙ here; setup = refl; alike = quiet.alike }))
        (λ differs t. record { after = other; there = at_put_other port_key changed q.0 a.controller.ports differs ∙ there; setup = refl; alike = alike_itself other.port })

    done_keeps : KeepsDesk a.controller (with_work a linked (work_at linked)).controller
    done_keeps = record {
      keeps = record {
        ports = each;
        adjacency = refl;
        address = refl;
        apart = λ apart. put_every port_key HasApart changed a.controller.ports
            (apart_alike linked.port (work_at linked).port quiet.alike (at_every port_key HasApart port.0 a.controller.ports linked apart found)) apart;
      };
      desk = refl;
    }

    pub found_keeps : KeepsDesk a.controller (at_port a port rule).controller
    found_keeps = subst (λ (b : Acted). KeepsDesk a.controller b.controller) (sym done) done_keeps

  pub rule_keeps : (port : PortNo) → ((linked : Linked) → linked_at a.controller port ≡ Some linked → IsQuiet (work_at linked) linked.port) → KeepsDesk a.controller (at_port a port rule).controller
  rule_keeps port quiet = by (linked_at a.controller port) refl
    where
      by : (o : Option Linked) → linked_at a.controller port ≡ o → KeepsDesk a.controller (at_port a port rule).controller
      by None found = subst (λ (b : Acted). KeepsDesk a.controller b.controller) (sym (ap (works a rule) found)) (record { keeps = keeps_same a.controller a.controller refl refl refl; desk = refl })
      by (Some linked) found = found_keeps port linked found (quiet linked found)
