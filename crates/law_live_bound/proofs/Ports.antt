-- a rule of a port, and what it asks, leave a port that binds on

use Rattle.std.proofs.Common.{◌≡◌, ℕ, List, [], ◌∷◌, ◌++◌, Some, refl, sym, ◌∙◌, ap, subst, fold}
use Rattle.world_model.specs.Words.{PortNo, Action, Request, Peer, Side, Setup, at, put, Work, Linked, linked_at, port_key, begins, with_work, works, works_as, at_port, is_estab, performs, performs_in_estab, Rule}
use Rattle.world_model.specs.ifmp_wire.declared.message.Message.{Message}
use Rattle.world_model.specs.Controller.{Acted}
use Rattle.world_model.specs.port_model.Port.{Port}
use Rattle.law_port_facts.specs.ordered_lists.Ordered.{Every}
use Rattle.law_port_facts.proofs.Keyed.{on_both, at_key, at_put_same}
use Rattle.law_live_nodes.specs.Law.{told_by}
use Rattle.law_live_links.specs.Law.{EndOfLink, left_by}
use Rattle.law_live_worlds.specs.Law.{end_of}
use Rattle.law_live_others.specs.Law.{IsAlikeAt, IsUp}
use Rattle.law_live_others.proofs.Leaving.{Terms, never, Leaves, leaves_same, leaves_then}
use Rattle.law_live_others.proofs.Settling.{anyhow}
use Rattle.law_live_others.proofs.Working.{IsAct, act_leaves, other_leaves}
use Rattle.law_live_bindings.specs.Law.{AreBinding, AskAtMost, none, some}
use Rattle.law_live_bindings.proofs.Alike.{like_ports_bind}
use Rattle.law_live_bound.specs.Law.{BindsAt}

-- *At most one branch* is asked: the port isn't reset, and nothing is said
pub asks_act : (branch : (number : ℕ) → Request) (actions : List Action) → AskAtMost branch actions → Every IsAct actions
asks_act branch [] none = tt
asks_act branch (action ∷ actions) (some number) = (tt, tt)

pub asks_say_none : (branch : (number : ℕ) → Request) (actions : List Action) → AskAtMost branch actions → told_by actions ≡ []
asks_say_none branch [] none = refl
asks_say_none branch (action ∷ actions) (some number) = refl

-- *The other end knows* the party of an end with which it binds
pub same_party : (one then other other_then : EndOfLink) → AreBinding one other → AreBinding then other_then → other_then.port ≡ other.port
    → then.port.adjacency.own ≡ one.port.adjacency.own
same_party one then other other_then before after same =
    one_peer then.port.adjacency.own one.port.adjacency.own (sym after.met.other_knows ∙ (ap (λ (p : Port). p.adjacency.stored) same ∙ before.met.other_knows))
  where
    one_peer : (x y : Peer) → Some x ≡ Some y → x ≡ y
    one_peer x y e = cc

-- *A port that is left alike* binds as it did
abbrev pub alike_binds : (linked : Linked) (b : Acted) (port : PortNo) (said : List Message) (other : EndOfLink) → AreBinding (end_of linked said) other
    → linked.port.adjacency.own.address ≡ b.controller.address → IsAlikeAt linked (linked_at b.controller port) → BindsAt b port said other
alike_binds linked b port said other binding address left = record {
  linked = left.after;
  of_port = left.there;
  address = ap (λ (side : Side Peer). side.own.address) left.alike.adjacency ∙ address;
  binding = subst (λ (s : Setup). AreBinding (let e : EndOfLink = record { setup = s; port = left.after.port; said = said } in e) other) (sym left.setup)
      (like_ports_bind (end_of linked said) other left.after.port binding left.alike);
}

-- *What a port asks*, but a reset, leaves each port alike
acts_leave : (t : Terms) (q : PortNo) (asked : List Action) → Every IsAct asked → (a : Acted) → Leaves t a (fold (performs_in_estab q) a asked)
acts_leave t q [] are a = leaves_same t a a refl refl refl
acts_leave t q (action ∷ asked) are a = leaves_then t a (performs_in_estab q a action) (fold (performs_in_estab q) (performs_in_estab q a action) asked)
    (on_both (Leaves t a) (is_estab a.controller.adjacency.state) (performs q a action) a (act_leaves t q a action are.0) (leaves_same t a a refl refl refl))
    (acts_leave t q asked are.1 (performs_in_estab q a action))

-- *A rule* of the port, which may ask and say, but not to be reset
module _ (a : Acted) (port : PortNo) (rule : Rule) (linked : Linked) (found : linked_at a.controller port ≡ Some linked) where
  abbrev w : Work
  w = rule linked.setup a.controller.desk (begins a linked)

  abbrev b : Acted
  b = at_port a port rule

  abbrev worked : Linked
  worked = record linked { port = w.port }

  any : Leaves (never (anyhow port)) a b
  any = other_leaves (never (anyhow port)) a port rule (λ same x none. none)

  whole : b ≡ works_as a linked w
  whole = ap (works a rule) found

  own_key : port_key linked ≡ port.0
  own_key = at_key port_key port.0 a.controller.ports linked found

  found_then : linked_at (with_work a linked w).controller port ≡ Some worked
  found_then = ap (λ k. at port_key k (put port_key worked a.controller.ports)) (sym own_key)
      ∙ at_put_same port_key worked a.controller.ports linked (ap (λ k. at port_key k a.controller.ports) own_key ∙ found)

  left : Every IsAct w.actions → IsUp b → IsAlikeAt worked (linked_at b.controller port)
  left acts up = subst (λ (c : Acted). IsUp c → IsAlikeAt worked (linked_at c.controller port)) (sym whole)
      (λ up_then. (acts_leave (anyhow port) linked.setup.port w.actions acts (with_work a linked w)).left up_then tt worked found_then tt) up

  pub rule_binds : (said said_then : List Message) (other other_then : EndOfLink) → AreBinding (end_of linked said) other → other_then.port ≡ other.port
      → linked.port.adjacency.own.address ≡ a.controller.address → Every IsAct w.actions → said ++ told_by w.actions ≡ said_then
      → AreBinding (left_by (end_of linked said) w) other_then → IsUp b → BindsAt b port said_then other_then
  rule_binds said said_then other other_then before same address acts says after up =
      alike_binds worked b port said_then other_then
      (subst (λ (messages : List Message). AreBinding (end_of worked messages) other_then) says after)
      (ap (λ (p : Peer). p.address) (same_party (end_of linked said) (left_by (end_of linked said) w) other other_then before after same) ∙ (address ∙ sym any.address))
      (left acts up)

  -- it was up
  pub rule_up : IsUp b → IsUp a
  rule_up up = any.up up
