-- a port at work that keeps its joins, at its controller

use Rattle.std.proofs.Common.{◌≡◌, ℕ, [], Option, None, Some, refl, sym, ◌∙◌, ap, subst}
use Rattle.std.specs.Option.{option_map, option_map_or, option_and_then}
use Rattle.world_model.specs.Words.{PortNo, End, FlowId, at, put, Label, label_number, label_at, Grant, grant_label, Session, Work, Linked, linked_at, port_key, begins, at_port, Rule, works, works_as}
use Rattle.world_model.specs.Controller.{Acted}
use Rattle.world_model.specs.port_model.Port.{Port}
use Rattle.law_port_facts.specs.ordered_lists.Ordered.{Every}
use Rattle.law_port_facts.proofs.Keyed.{by_eq, at_key, at_put_same, at_put_other}
use Rattle.law_live_mirrors.specs.Asking.{IsPlain}
use Rattle.law_live_mirrors.proofs.Nodes.{Worked, works_plain}
use Rattle.law_live_joining.specs.Joins.{joined_label, lent_grant, KeepsJoins}
use Rattle.law_live_joining.proofs.Keeping.{keeps_same, KeepsPort, put_keeps}

-- *One label, or one grant*, in the place of one that is joined, or lent, alike
module _ (port : Port) where
  pub relabelled : (label after : Label) → label_at port after.number ≡ Some label → joined_label after ≡ joined_label label
      → KeepsPort port (record port { session = option_map (λ (s : Session). record s { labels = put label_number after s.labels }) port.session })
  relabelled label after there same = by port.session refl there
    where
      changed : Option Session → Option Session
      changed o = option_map (λ (s : Session). record s { labels = put label_number after s.labels }) o

      by : (o : Option Session) → port.session ≡ o → at label_number after.number (option_map_or (λ (s : Session). s.labels) o []) ≡ Some label
          → KeepsPort port (record port { session = changed port.session })
      by None is found = absurd (cc found)
      by (Some s) is found = record {
        joined = λ number what h. ap (λ (o : Option Session). option_and_then joined_label (at label_number number (option_map_or (λ (x : Session). x.labels) (changed o) []))) is
            ∙ by_eq after.number number
            (λ own t. ap (option_and_then joined_label) (subst (λ n. at label_number n (put label_number after s.labels) ≡ Some after) own (at_put_same label_number after s.labels label found))
            ∙ (same ∙ (sym (ap (option_and_then joined_label) (subst (λ n. at label_number n s.labels ≡ Some label) own found))
            ∙ (sym (ap (λ (o : Option Session). option_and_then joined_label (at label_number number (option_map_or (λ (x : Session). x.labels) o []))) is) ∙ h))))
            (λ differs t. ap (option_and_then joined_label) (at_put_other label_number after number s.labels differs)
            ∙ (sym (ap (λ (o : Option Session). option_and_then joined_label (at label_number number (option_map_or (λ (x : Session). x.labels) o []))) is) ∙ h));
        lent = λ label what h. h;
      }

  pub regranted : (grant after : Grant) → at grant_label (grant_label after) port.grants ≡ Some grant → lent_grant after ≡ lent_grant grant
      → (label : ℕ) (what : FlowId × End) → option_and_then lent_grant (at grant_label label port.grants) ≡ Some what
      → option_and_then lent_grant (at grant_label label (put grant_label after port.grants)) ≡ Some what
  regranted grant after there same label what h = by_eq (grant_label after) label
      (λ own t. ap (option_and_then lent_grant) (subst (λ n. at grant_label n (put grant_label after port.grants) ≡ Some after) own (at_put_same grant_label after port.grants grant there))
      ∙ (same ∙ (sym (ap (option_and_then lent_grant) (subst (λ n. at grant_label n port.grants ≡ Some grant) own there)) ∙ h)))
      (λ differs t. ap (option_and_then lent_grant) (at_put_other grant_label after label port.grants differs) ∙ h)

-- *A rule of a port* that asks nothing and keeps its joins
pub record IsKind (port : Port) (w : Work) : Type 0 where
  pub plain : Every IsPlain w.actions
  pub keeps : KeepsPort port w.port

module _ (a : Acted) where
  pub work_keeps : (linked : Linked) → at port_key (port_key linked) a.controller.ports ≡ Some linked → (w : Work) → IsKind linked.port w → KeepsJoins a.controller (works_as a linked w).controller
  work_keeps linked there w is = by (works_plain a linked w is.plain)
    where
      by : Worked a (works_as a linked w) linked w.port [] → KeepsJoins a.controller (works_as a linked w).controller
      by done = put_keeps a.controller (works_as a linked w).controller linked (record linked { port = w.port }) there refl done.ports is.keeps

  pub rule_keeps : (port : PortNo) (rule : Rule) → ((linked : Linked) → linked_at a.controller port ≡ Some linked → IsKind linked.port (rule linked.setup a.controller.desk (begins a linked)))
      → KeepsJoins a.controller (at_port a port rule).controller
  rule_keeps port rule kind = by (linked_at a.controller port) refl
    where
      by : (o : Option Linked) → linked_at a.controller port ≡ o → KeepsJoins a.controller (works a rule o).controller
      by None found = keeps_same a.controller a.controller refl
      by (Some linked) found = work_keeps linked (subst (λ n. at port_key n a.controller.ports ≡ Some linked) (sym (at_key port_key port.0 a.controller.ports linked found)) found)
          (rule linked.setup a.controller.desk (begins a linked)) (kind linked found)
