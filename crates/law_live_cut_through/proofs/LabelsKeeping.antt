-- what a controller holds stays: each label that is offered, with its flow and its join, and each grant that is used, with its state; no label
-- is joined, and no grant is lent

use Rattle.std.proofs.Common.{◌≡◌, false, List, [], ◌∷◌, Option, None, Some, refl, sym, ◌∙◌, ap, subst, if◌then◌else◌}
use Rattle.std.specs.Option.{option_map, option_map_or}
use Rattle.world_model.specs.Words.{PortNo, End, AddBranch, Ask, FlowId, Request, at, put, is_offered, Label, label_number, labels_of, label_at, Grant, GrantState, ByController, ByInput, grant_label, Session, Work, Controller, Linked, port_key, linked_at, works_as}
use Rattle.world_model.specs.port_model.Port.{Port}
use Rattle.world_model.specs.Controller.{Acted}
use Rattle.law_live_ease.specs.law_port_facts.ordered_lists.Ordered.{Every}
use Rattle.law_live_ease.proofs.law_port_facts.Keyed.{by_eq, at_put_same, at_put_other}
use Rattle.law_live_ease.proofs.law_live_elsewhere.Kept.{KeptAt, KeepsController}
use Rattle.law_live_ease.specs.law_live_mirrors.Asking.{IsPlain, CanAsk}
use Rattle.law_live_ease.proofs.law_live_mirrors.Nodes.{Worked, works_plain, works_ask}
use Rattle.law_live_ease.specs.law_live_joining.Joins.{joined_label, lent_grant}
use Rattle.law_live_cut_through.proofs.LabelsTold.{Goes, goes_by, AllGo, all_same, all_then, all_put}

-- *What a label holds* where it is offered, and a grant where it is used
abbrev pub held_label : Label → Option (FlowId × Option End)
held_label label = if is_offered label.state then Some (label.flow, label.join) else None

abbrev pub used_as : GrantState → Option GrantState
used_as ByController = Some ByController
used_as (ByInput input) = Some (ByInput input)
used_as state = None

abbrev pub held_grant : Grant → Option (FlowId × GrantState)
held_grant grant = option_map (λ (state : GrantState). (grant.flow, state)) (used_as grant.state)

-- *A port* goes so, by its labels and its grants
abbrev pub LabelsGo : List Label → List Label → Type 0
LabelsGo before after = AllGo held_label joined_label label_number before after

abbrev pub GrantsGo : List Grant → List Grant → Type 0
GrantsGo before after = AllGo held_grant lent_grant grant_label before after

pub record KeepsHeld (before after : Port) : Type 0 where
  pub labels : LabelsGo (labels_of before) (labels_of after)
  pub grants : GrantsGo before.grants after.grants

pub labels_same : (before after : List Label) → after ≡ before → LabelsGo before after
labels_same before after same = all_same held_label joined_label label_number before after same

pub grants_same : (before after : List Grant) → after ≡ before → GrantsGo before after
grants_same before after same = all_same held_grant lent_grant grant_label before after same

pub port_itself : (port : Port) → KeepsHeld port port
port_itself port = record { labels = labels_same (labels_of port) (labels_of port) refl; grants = grants_same port.grants port.grants refl }

pub port_then : (a b c : Port) → KeepsHeld a b → KeepsHeld b c → KeepsHeld a c
port_then a b c one next = record {
  labels = all_then held_label joined_label label_number (labels_of a) (labels_of b) (labels_of c) one.labels next.labels;
  grants = all_then held_grant lent_grant grant_label a.grants b.grants c.grants one.grants next.grants;
}

-- *One label* in the place of another
abbrev pub labels_by : Option Session → List Label
labels_by o = option_map_or (λ (s : Session). s.labels) o []

pub relabelled : (port : Port) (label after : Label) → label_at port after.number ≡ Some label → Goes held_label joined_label (Some label) (Some after)
    → KeepsHeld port (record port { session = option_map (λ (s : Session). record s { labels = put label_number after s.labels }) port.session })
relabelled port label after there goes = by port.session refl there
  where
    changed : Option Session → Option Session
    changed o = option_map (λ (s : Session). record s { labels = put label_number after s.labels }) o

    by : (o : Option Session) → port.session ≡ o → at label_number after.number (labels_by o) ≡ Some label → KeepsHeld port (record port { session = changed port.session })
    by None is found = absurd (cc found)
    by (Some s) is found = record {
      labels = λ number. goes_by held_label joined_label (at label_number number s.labels) (at label_number number (put label_number after s.labels))
          (at label_number number (labels_by port.session)) (at label_number number (labels_by (changed port.session)))
          (ap (λ (o : Option Session). at label_number number (labels_by o)) is) (ap (λ (o : Option Session). at label_number number (labels_by (changed o))) is)
          (all_put held_label joined_label label_number s.labels label after found goes number);
      grants = grants_same port.grants port.grants refl;
    }

-- *A controller* goes so, port by port
pub record StaysAt (linked : Linked) (now : Option Linked) : Type 0 where
  pub after : Linked
  pub there : now ≡ Some after
  pub keeps : KeepsHeld linked.port after.port

pub record HeldStays (before after : Controller) : Type 0 where
  pub ports : (port : PortNo) (linked : Linked) → linked_at before port ≡ Some linked → StaysAt linked (linked_at after port)

pub stays_then : (linked : Linked) (p q : Option Linked) → StaysAt linked p → ((l : Linked) → p ≡ Some l → StaysAt l q) → StaysAt linked q
stays_then linked p q one next = by (next one.after one.there)
  where
    by : StaysAt one.after q → StaysAt linked q
    by last = record { after = last.after; there = last.there; keeps = port_then linked.port one.after.port last.after.port one.keeps last.keeps }

pub held_same : (a b : Controller) → b.ports ≡ a.ports → HeldStays a b
held_same a b same = record { ports = λ port linked found. record { after = linked; there = ap (at port_key port.0) same ∙ found; keeps = port_itself linked.port } }

pub held_then : (a b c : Controller) → HeldStays a b → HeldStays b c → HeldStays a c
held_then a b c one next = record {
  ports = λ port linked found. stays_then linked (linked_at b port) (linked_at c port) (one.ports port linked found) (λ l there. next.ports port l there);
}

-- where its ports are kept
pub held_kept : (a b : Controller) → KeepsController a b → HeldStays a b
held_kept a b kept = record { ports = λ port linked found. by linked (linked_at b port) (kept.ports port linked found) }
  where
    by : (linked : Linked) (o : Option Linked) → KeptAt linked o → StaysAt linked o
    by linked o k = record { after = k.after; there = k.there; keeps = subst (KeepsHeld linked.port) (sym k.port) (port_itself linked.port) }

-- and where one is put in the place of another
one_linked : (x y : Linked) → Some x ≡ Some y → x ≡ y
one_linked x y e = cc

pub put_held : (a b : Controller) (old new : Linked) → at port_key (port_key old) a.ports ≡ Some old → port_key new ≡ port_key old → b.ports ≡ put port_key new a.ports
    → KeepsHeld old.port new.port → HeldStays a b
put_held a b old new there key ports keeps = record { ports = each }
  where
    here : at port_key (port_key old) b.ports ≡ Some new
    here = ap (at port_key (port_key old)) ports
        ∙ subst (λ k. at port_key k (put port_key new a.ports) ≡ Some new) key (at_put_same port_key new a.ports old (ap (λ k. at port_key k a.ports) key ∙ there))

    each : (port : PortNo) (linked : Linked) → linked_at a port ≡ Some linked → StaysAt linked (linked_at b port)
    each port linked found = by_eq (port_key old) port.0
        (λ same t. subst (λ (l : Linked). StaysAt l (linked_at b port)) (one_linked old linked (sym there ∙ (ap (λ k. at port_key k a.ports) same ∙ found)))
        (record { after = new; there = ap (λ k. at port_key k b.ports) (sym same) ∙ here; keeps = keeps }))
        (λ differs t. record {
          after = linked;
          there = ap (at port_key port.0) ports ∙ (at_put_other port_key new port.0 a.ports (λ e. differs (sym key ∙ e)) ∙ found);
          keeps = port_itself linked.port;
        })

-- *A port at work*, and its controller
module _ (a : Acted) (linked : Linked) (there : linked_at a.controller linked.setup.port ≡ Some linked) where
  worked_keeps : (b : Acted) (q : Port) (requests : List Request) → Worked a b linked q requests → KeepsHeld linked.port q → HeldStays a.controller b.controller
  worked_keeps b q requests done keeps = put_held a.controller b.controller linked (record linked { port = q }) there refl done.ports keeps

  pub plain_keeps : (w : Work) → Every IsPlain w.actions → KeepsHeld linked.port w.port → HeldStays a.controller (works_as a linked w).controller
  plain_keeps w plain keeps = worked_keeps (works_as a linked w) w.port [] (works_plain a linked w plain) keeps

  pub asks_keeps : (w : Work) (input output : End) → CanAsk a → w.actions ≡ Ask (AddBranch input output) false ∷ [] → KeepsHeld linked.port w.port
      → HeldStays a.controller (works_as a linked w).controller
  asks_keeps w input output can is keeps = worked_keeps (works_as a linked w) w.port (AddBranch input output ∷ []) (works_ask a linked w (AddBranch input output) false can is) keeps
