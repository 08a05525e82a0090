-- what a controller keeps by its ports and its desk, as a port of it works

use Rattle.std.proofs.Common.{◌≡◌, false, List, [], ◌∷◌, Option, None, Some, refl, sym, subst}
use Rattle.world_model.specs.Words.{PortNo, End, AddBranch, Ask, at, put, entered, key_le, Desk, Standing, without_request, Label, label_number, label_for, labels_of, serves, Work, Linked, port_key, linked_at, begins, Rule, works, works_as, at_port}
use Rattle.world_model.specs.Controller.{Acted}
use Rattle.world_model.specs.port_model.Desk.{asked}
use Rattle.law_live_ease.specs.law_port_facts.ordered_lists.Ordered.{Every}
use Rattle.law_live_ease.proofs.law_port_facts.Keyed.{at_key}
use Rattle.law_live_ease.proofs.law_live_others.Holding.{SameWork}
use Rattle.law_live_ease.specs.law_live_mirrors.Asking.{IsPlain, CanAsk}
use Rattle.law_live_ease.proofs.law_live_mirrors.Nodes.{Worked, works_plain, works_ask}

-- *Labels change so*: they stay; one is put in its own place, for the same flow, and serves it where it did; or one is entered for a flow that
-- none serves
pub data LabelsChange (before after : List Label) : Type 0 where
  stay : after ≡ before → LabelsChange before after
  change : (label next : Label) → at label_number next.number before ≡ Some label → next.flow ≡ label.flow → serves next.state ≡ serves label.state
      → after ≡ put label_number next before → LabelsChange before after
  enter : (label : Label) → at label_number label.number before ≡ None → label_for before label.flow ≡ None → after ≡ entered (key_le label_number) label before
      → LabelsChange before after

-- *Ports and desk keep it* as labels of a port change so, as a branch is asked for, and as a request is answered
pub record Keeps (T : List Linked → Desk → Type 0) : Type 0 where
  pub labels : (ports : List Linked) (desk : Desk) (linked new : Linked) → at port_key linked.setup.port.0 ports ≡ Some linked → new.setup ≡ linked.setup
      → LabelsChange (labels_of linked.port) (labels_of new.port) → T ports desk → T (put port_key new ports) desk
  pub branch : (ports : List Linked) (desk : Desk) (input output : End) → T ports desk → T ports (asked desk (AddBranch input output))
  pub answer : (ports : List Linked) (desk : Desk) (s : Standing) → T ports desk → T ports (without_request desk s)

module _ (T : List Linked → Desk → Type 0) where
  abbrev pub Of : Acted → Type 0
  Of a = T a.controller.ports a.controller.desk

  pub of_by : (a : Acted) (ports : List Linked) (desk : Desk) → a.controller.ports ≡ ports → a.controller.desk ≡ desk → T ports desk → Of a
  of_by a ports desk same_ports same_desk t = subst (λ (ps : List Linked). T ps a.controller.desk) (sym same_ports) (subst (T ports) (sym same_desk) t)

  -- *Behind a packet that is sent on*
  pub sent_on : (a b : Acted) → SameWork a b → Of a → Of b
  sent_on a b same t = of_by b a.controller.ports a.controller.desk same.ports same.desk t

  -- *A rule* of a port
  pub rule_on : (a : Acted) (port : PortNo) (rule : Rule)
      → ((linked : Linked) → linked_at a.controller linked.setup.port ≡ Some linked → Of (works_as a linked (rule linked.setup a.controller.desk (begins a linked)))) → Of a → Of (at_port a port rule)
  rule_on a port rule each t = by (linked_at a.controller port) refl
    where
      by : (o : Option Linked) → linked_at a.controller port ≡ o → Of (works a rule o)
      by None found = t
      by (Some linked) found = each linked (subst (λ n. at port_key n a.controller.ports ≡ Some linked) (sym (at_key port_key port.0 a.controller.ports linked found)) found)

  module _ (k : Keeps T) where
    -- *A port works*, and asks nothing
    pub plain_on : (a : Acted) (linked : Linked) (w : Work) → linked_at a.controller linked.setup.port ≡ Some linked → Every IsPlain w.actions
        → LabelsChange (labels_of linked.port) (labels_of w.port) → Of a → Of (works_as a linked w)
    plain_on a linked w there plain labels t = by (works_plain a linked w plain)
      where
        by : Worked a (works_as a linked w) linked w.port [] → Of (works_as a linked w)
        by worked = of_by (works_as a linked w) (put port_key (record linked { port = w.port }) a.controller.ports) a.controller.desk worked.ports worked.desk
            (k.labels a.controller.ports a.controller.desk linked (record linked { port = w.port }) there refl labels t)

    -- or it asks for a branch
    pub asks_on : (a : Acted) (linked : Linked) (w : Work) (input output : End) → linked_at a.controller linked.setup.port ≡ Some linked → CanAsk a
        → w.actions ≡ Ask (AddBranch input output) false ∷ [] → LabelsChange (labels_of linked.port) (labels_of w.port) → Of a → Of (works_as a linked w)
    asks_on a linked w input output there can is labels t = by (works_ask a linked w (AddBranch input output) false can is)
      where
        by : Worked a (works_as a linked w) linked w.port (AddBranch input output ∷ []) → Of (works_as a linked w)
        by worked = of_by (works_as a linked w) (put port_key (record linked { port = w.port }) a.controller.ports) (asked a.controller.desk (AddBranch input output)) worked.ports worked.desk
            (k.branch (put port_key (record linked { port = w.port }) a.controller.ports) a.controller.desk input output
            (k.labels a.controller.ports a.controller.desk linked (record linked { port = w.port }) there refl labels t))
