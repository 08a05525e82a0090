-- a rule of a port, and what it asks, leave a port in touch

use Rattle.std.proofs.Common.{◌≡◌, List, [], ◌∷◌, ◌++◌, Some, refl, sym, ◌∙◌, ap, subst}
use Rattle.world_model.specs.Words.{PortNo, Action, Peer, Setup, at, put, Work, Linked, linked_at, port_key, begins, with_work, works, works_as, at_port, Rule}
use Rattle.world_model.specs.ifmp_wire.declared.message.Message.{Message}
use Rattle.world_model.specs.Controller.{Acted}
use Rattle.world_model.specs.port_model.Port.{Port}
use Rattle.law_port_facts.specs.ordered_lists.Ordered.{Every}
use Rattle.law_port_facts.proofs.Keyed.{at_key, at_put_same}
use Rattle.law_live_nodes.specs.Law.{told_by}
use Rattle.law_live_links.specs.Law.{EndOfLink, left_by}
use Rattle.law_live_worlds.specs.Law.{end_of}
use Rattle.law_live_others.specs.Law.{IsUp}
use Rattle.law_live_others.proofs.Working.{IsAct}
use Rattle.law_live_touch.specs.Touch.{AreInTouch}
use Rattle.law_live_touch.specs.Law.{MayDo, says, notes, makes_label, makes_grant, deletes, cuts, takes_back, TouchOn}
use Rattle.law_live_touching.specs.Law.{TouchesAt}
use Rattle.law_live_touching.proofs.Staying.{Has, Keeps, acts_keep}

-- *What one in touch asks* isn't a reset
pub may_act : (setup : Setup) (actions : List Action) → Every (MayDo setup) actions → Every IsAct actions
may_act setup [] may = tt
may_act setup (action ∷ actions) may = (one action may.0, may_act setup actions may.1)
  where
    one : (x : Action) → MayDo setup x → IsAct x
    one x (says message) = tt
    one x (notes entry) = tt
    one x (makes_label number) = tt
    one x (makes_grant number) = tt
    one x (deletes number in_place) = tt
    one x (cuts number) = tt
    one x (takes_back input number) = tt

-- *A port that is left as it is* touches as it did
abbrev pub kept_touches : (b : Acted) (port : PortNo) (linked : Linked) (said : List Message) (other : EndOfLink) → AreInTouch (end_of linked said) other
    → Has port linked.setup linked.port linked.port.adjacency.own.address b → TouchesAt b port said other
kept_touches b port linked said other touch has = record {
  linked = has.linked;
  of_port = has.of_port;
  address = ap (λ (p : Port). p.adjacency.own.address) has.port_is ∙ sym has.address_is;
  touch = subst (λ (e : EndOfLink). AreInTouch e other) (λ i. record { setup = sym has.setup_is i; port = sym has.port_is i; said = said }) touch;
}

-- *The other end knows* the party of an end with which it is in touch
same_party : (one then other other_then : EndOfLink) → AreInTouch one other → AreInTouch then other_then → other_then.port ≡ other.port
    → then.port.adjacency.own ≡ one.port.adjacency.own
same_party one then other other_then before after same =
    one_peer then.port.adjacency.own one.port.adjacency.own (sym after.met.other_knows ∙ (ap (λ (p : Port). p.adjacency.stored) same ∙ before.met.other_knows))
  where
    one_peer : (x y : Peer) → Some x ≡ Some y → x ≡ y
    one_peer x y e = cc

-- *A rule* of the port
module _ (a : Acted) (port : PortNo) (rule : Rule) (linked : Linked) (found : linked_at a.controller port ≡ Some linked) where
  abbrev w : Work
  w = rule linked.setup a.controller.desk (begins a linked)

  abbrev worked : Linked
  worked = record linked { port = w.port }

  own_key : port_key linked ≡ port.0
  own_key = at_key port_key port.0 a.controller.ports linked found

  found_then : linked_at (with_work a linked w).controller port ≡ Some worked
  found_then = ap (λ k. at port_key k (put port_key worked a.controller.ports)) (sym own_key)
      ∙ at_put_same port_key worked a.controller.ports linked (ap (λ k. at port_key k a.controller.ports) own_key ∙ found)

  pub rule_touches : (said said_then : List Message) (other other_then : EndOfLink) → AreInTouch (end_of linked said) other → other_then.port ≡ other.port
      → linked.port.adjacency.own.address ≡ a.controller.address → Every (MayDo linked.setup) w.actions → said ++ told_by w.actions ≡ said_then
      → AreInTouch (left_by (end_of linked said) w) other_then → IsUp (at_port a port rule) → TouchesAt (at_port a port rule) port said_then other_then
  rule_touches said said_then other other_then before same address may tells after up =
      kept_touches (at_port a port rule) port worked said_then other_then (subst (λ (messages : List Message). AreInTouch (end_of worked messages) other_then) tells after)
      (subst (λ (c : Acted). IsUp c → Has port linked.setup w.port w.port.adjacency.own.address c) (sym (ap (works a rule) found)) (λ up_then. asked.has up_then here) up)
    where
      own_address : w.port.adjacency.own.address ≡ a.controller.address
      own_address = ap (λ (p : Peer). p.address) (same_party (end_of linked said) (left_by (end_of linked said) w) other other_then before after same) ∙ address

      here : Has port linked.setup w.port w.port.adjacency.own.address (with_work a linked w)
      here = record { linked = worked; of_port = found_then; setup_is = refl; port_is = refl; address_is = sym own_address }

      asked : Keeps port linked.setup w.port w.port.adjacency.own.address (with_work a linked w) (works_as a linked w)
      asked = acts_keep port linked.setup w.port w.port.adjacency.own.address linked.setup.port w.actions (may_act linked.setup w.actions may) (with_work a linked w)

  -- so where nothing is said, and the other end is the same
  pub work_touches : (said said_then : List Message) (other other_then : EndOfLink) → AreInTouch (end_of linked said) other → other_then.port ≡ other.port
      → linked.port.adjacency.own.address ≡ a.controller.address → said ++ told_by w.actions ≡ said_then → TouchOn (end_of linked said) other_then w
      → IsUp (at_port a port rule) → TouchesAt (at_port a port rule) port said_then other_then
  work_touches said said_then other other_then before same address tells on up = rule_touches said said_then other other_then before same address on.acts tells on.touch up
