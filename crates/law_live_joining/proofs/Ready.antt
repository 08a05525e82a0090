-- a label that is ready at rest can be joined: its input has its turn, and it may be joined

use Rattle.std.proofs.Common.{◌≡◌, ℕ, Bool, true, false, not, List, [], ◌∷◌, ◌++◌, append_assoc, length, map, Some, sym, ◌∙◌, ap, if◌then◌else◌}
use Rattle.std.specs.Prelude.{◌&&◌, flat_map, nat_eq, nat_lt, is_none}
use Rattle.std.specs.List.{list_any}
use Rattle.std.specs.Option.{option_and_then}
use Rattle.world_model.specs.Words.{PortNo, End, flow_destination, is_on, number_of_channel, at, most_asked, Standing, label_end, Label, label_number, label_at, labels_of, Controller, Linked, port_key, inputs_at, is_offered, label_on, may_join}
use Rattle.world_model.specs.Joins.{Join}
use Rattle.world_model.specs.Routes.{stays_in}
use Rattle.law_live_mirrors.proofs.Ports.{number_again}
use Rattle.law_live_joining.specs.Ticks.{CanBeJoined, IsReady, ReadyLabelsCanBeJoined}

-- *A place in a list*
pub record HasPlace (xs : List End) (x : End) : Type 0 where
  pub front : List End
  pub rest : List End
  pub are : xs ≡ front ++ x ∷ rest

pub among_labels : (port : PortNo) (labels : List Label) (n : ℕ) (label : Label) → at label_number n labels ≡ Some label
    → HasPlace (map (λ (l : Label). label_end port l.number) labels) (label_end port label.number)
among_labels port [] n label e = absurd (cc e)
among_labels port (z ∷ labels) n label e = by (nat_eq z.number n) e (λ f. among_labels port labels n label f)
  where
    by : (t : Bool) → (if t then Some z else at label_number n labels) ≡ Some label
        → (at label_number n labels ≡ Some label → HasPlace (map (λ (l : Label). label_end port l.number) labels) (label_end port label.number))
        → HasPlace (map (λ (l : Label). label_end port l.number) (z ∷ labels)) (label_end port label.number)
    by true f behind = (let same : z ≡ label = cc in record {
      front = [];
      rest = map (λ (l : Label). label_end port l.number) labels;
      are = ap (λ (l : Label). label_end port l.number ∷ map (λ (m : Label). label_end port m.number) labels) same;
    })
    by false f behind = further (behind f)
      where
        further : HasPlace (map (λ (l : Label). label_end port l.number) labels) (label_end port label.number)
            → HasPlace (map (λ (l : Label). label_end port l.number) (z ∷ labels)) (label_end port label.number)
        further r = record { front = label_end port z.number ∷ r.front; rest = r.rest; are = ap (λ (ends : List End). label_end port z.number ∷ ends) r.are }

pub among_ports : (ports : List Linked) (k : ℕ) (linked : Linked) (x : End) → at port_key k ports ≡ Some linked → HasPlace (inputs_at linked) x → HasPlace (flat_map inputs_at ports) x
among_ports [] k linked x e place = absurd (cc e)
among_ports (z ∷ ports) k linked x e place = by (nat_eq (port_key z) k) e (λ f. among_ports ports k linked x f place)
  where
    by : (t : Bool) → (if t then Some z else at port_key k ports) ≡ Some linked → (at port_key k ports ≡ Some linked → HasPlace (flat_map inputs_at ports) x) → HasPlace (flat_map inputs_at (z ∷ ports)) x
    by true f behind = (let same : z ≡ linked = cc in record {
      front = place.front;
      rest = place.rest ++ flat_map inputs_at ports;
      are = ap (λ (l : Linked). inputs_at l ++ flat_map inputs_at ports) same
          ∙ (ap (λ (ends : List End). ends ++ flat_map inputs_at ports) place.are ∙ append_assoc place.front (x ∷ place.rest) (flat_map inputs_at ports));
    })
    by false f behind = further (behind f)
      where
        further : HasPlace (flat_map inputs_at ports) x → HasPlace (flat_map inputs_at (z ∷ ports)) x
        further r = record {
          front = inputs_at z ++ r.front;
          rest = r.rest;
          are = ap (λ (ends : List End). inputs_at z ++ ends) r.are ∙ sym (append_assoc (inputs_at z) r.front (x ∷ r.rest));
        }

module _ (c : Controller) (linked : Linked) (label : Label) (join : Join) (ready : IsReady c linked label join) where
  place : HasPlace (flat_map inputs_at c.ports) (label_end linked.setup.port label.number)
  place = among_ports c.ports (port_key linked) linked (label_end linked.setup.port label.number) ready.found
      (among_labels linked.setup.port (labels_of linked.port) label.number label ready.held)

  there : label_on c join.input ≡ Some label
  there = ap (label_on c) ready.own
      ∙ (ap (option_and_then (λ (l : Linked). label_at l.port (number_of_channel (label_end linked.setup.port label.number).channel))) ready.found
      ∙ (ap (label_at linked.port) (number_again label.number) ∙ ready.held))

  may : may_join c join.input label ≡ true
  may = λ i. (is_offered (ready.offered i) && is_none (ready.unjoined i))
      && (not (list_any (λ (s : Standing). is_on join.input s.request) (ready.nothing_asked i))
      && (nat_lt (length (ready.nothing_asked i)) most_asked && (if ready.steady i then stays_in c.table c.waiting (flow_destination label.flow) else true)))

  can : CanBeJoined c label join
  can = record {
    front = place.front;
    rest = place.rest;
    turn = place.are ∙ ap (λ (x : End). place.front ++ x ∷ place.rest) (sym ready.own);
    there = there;
    may = may;
    leads_on = ready.leads_on;
    alone = ready.alone;
    few = ready.few;
  }

pub ready_can_be_joined : ReadyLabelsCanBeJoined
ready_can_be_joined c linked label join ready = can c linked label join ready
