-- a packet is counted at a port that may wire a label for it, and what is held stays

use Rattle.std.proofs.Common.{◌≡◌, ◌≢◌, ℕ, ◌<◌, List, Option, None, Some, refl, sym, ◌∙◌, ap, subst}
use Rattle.std.specs.Prelude.{◌&&◌}
use Rattle.std.specs.Option.{option_map}
use Rattle.world_model.specs.Words.{PortNo, FlowId, same_flow, at, entered, key_le, label_end, control_end, Label, Wiring, label_number, labels_of, label_at, label_for, lowest_spare, serves, Session, Work, has_room, with_session, packets_in, counted_once, packet_flow, wires, counts_flow, counts_by, counts, used, used_label, Linked, port_key, linked_at, begins, works, works_as, at_port}
use Rattle.world_model.specs.Controller.{Acted}
use Rattle.law_live_ease.specs.law_port_facts.ordered_lists.Ordered.{InOrder}
use Rattle.law_live_ease.proofs.law_port_facts.Keyed.{on_both, at_key, find_at}
use Rattle.law_live_ease.proofs.law_live_counts.Asking.{spare_at}
use Rattle.law_live_ease.specs.law_live_mirrors.Asking.{MayWire}
use Rattle.law_live_ease.proofs.law_live_bindings.Places.{at_entered_same, at_entered_other}
use Rattle.law_live_ease.specs.law_live_joining.Joins.{joined_label}
use Rattle.law_live_ease.proofs.ComingPorts.{own_labels}
use Rattle.law_live_cut_through.proofs.LabelsTold.{goes_like, goes_fresh, all_more}
use Rattle.law_live_cut_through.proofs.LabelsKeeping.{held_label, labels_by, labels_same, grants_same, port_itself, relabelled, HeldStays, held_same, plain_keeps, asks_keeps}

-- *A label is used*
module _ (b : Acted) (linked : Linked) (there : linked_at b.controller linked.setup.port ≡ Some linked) where
  uses_label : (label : Label) → label_at linked.port label.number ≡ Some label → HeldStays b.controller (works_as b linked (used_label (begins b linked) (Some label))).controller
  uses_label label held = plain_keeps b linked there (used_label (begins b linked) (Some label)) tt
      (relabelled linked.port label (record label { idle = 0 }) held (goes_like held_label joined_label label (record label { idle = 0 }) refl refl))

pub used_keeps : (b : Acted) (port : PortNo) (number : ℕ) → HeldStays b.controller (at_port b port (λ setup desk w. used w number)).controller
used_keeps b port number = by (linked_at b.controller port) refl
  where
    by_label : (linked : Linked) → linked_at b.controller linked.setup.port ≡ Some linked → (o : Option Label) → label_at linked.port number ≡ o
        → HeldStays b.controller (works_as b linked (used_label (begins b linked) o)).controller
    by_label linked there None is = plain_keeps b linked there (begins b linked) tt (port_itself linked.port)
    by_label linked there (Some label) is = uses_label b linked there label (ap (label_at linked.port) (at_key label_number number (labels_of linked.port) label is) ∙ is)

    by : (o : Option Linked) → linked_at b.controller port ≡ o → HeldStays b.controller (works b (λ setup desk w. used w number) o).controller
    by None found = held_same b.controller b.controller refl
    by (Some linked) found = by_label linked (subst (λ n. at port_key n b.controller.ports ≡ Some linked) (sym (at_key port_key port.0 b.controller.ports linked found)) found)
        (label_at linked.port number) refl

module _ (b : Acted) (linked : Linked) (there : linked_at b.controller linked.setup.port ≡ Some linked) (may : MayWire b linked) where
  abbrev Keeps : Work → Type 0
  Keeps w = HeldStays b.controller (works_as b linked w).controller

  idle_keeps : Keeps (begins b linked)
  idle_keeps = plain_keeps b linked there (begins b linked) tt (port_itself linked.port)

  module _ (s : Session) (is_open : linked.port.session ≡ Some s) (flow : FlowId) where
    own : labels_of linked.port ≡ s.labels
    own = own_labels linked s is_open

    in_order : InOrder (λ (x y : Label). label_number x < label_number y) s.labels
    in_order = subst (InOrder (λ (x y : Label). label_number x < label_number y)) own may.ascend

    abbrev s_counted : Session
    s_counted = record s { counted = counted_once s.counted flow }

    abbrev w_counted : Work
    w_counted = with_session (begins b linked) (λ old. s_counted)

    counts_alone : Keeps w_counted
    counts_alone = plain_keeps b linked there w_counted tt (record {
      labels = labels_same (labels_of linked.port) (labels_of w_counted.port) (ap (λ (o : Option Session). labels_by (option_map (λ (old : Session). s_counted) o)) is_open ∙ sym own);
      grants = grants_same linked.port.grants linked.port.grants refl;
    })

    -- *A label that serves it* is used
    uses_keeps : (label : Label) → label_for s.labels flow ≡ Some label → Keeps (used_label (begins b linked) (Some label))
    uses_keeps label found = uses_label b linked there label
        (ap (at label_number label.number) own ∙ find_at label_number (λ (x : Label). serves x.state && same_flow x.flow flow) s.labels label in_order found)

    -- *A spare label is wired*
    module _ (k : ℕ) (lowest : lowest_spare linked.setup s.least s.greatest s.labels ≡ Some k) where
      abbrev new : Label
      new = record { number = k; state = Wiring; flow = flow; idle = 0; ticks = 0; join = None }

      abbrev wired : Work
      wired = wires linked.setup w_counted flow (Some k)

      spare : at label_number k s.labels ≡ None
      spare = spare_at linked.setup s.least s.greatest s.labels k lowest

      now_labels : labels_of wired.port ≡ entered (key_le label_number) new s.labels
      now_labels = ap (λ (o : Option Session). labels_by (option_map (λ (x : Session). record x { labels = entered (key_le label_number) new x.labels }) (option_map (λ (old : Session). s_counted) o))) is_open

      others : (n : ℕ) → k ≢ n → at label_number n (labels_of wired.port) ≡ at label_number n (labels_of linked.port)
      others n differs = ap (at label_number n) now_labels ∙ (at_entered_other label_number (key_le label_number) new n s.labels differs ∙ sym (ap (at label_number n) own))

      there_now : at label_number k (labels_of wired.port) ≡ Some new
      there_now = ap (at label_number k) now_labels ∙ at_entered_same label_number (key_le label_number) new s.labels spare

      wires_keep : Keeps wired
      wires_keep = asks_keeps b linked there wired (label_end linked.setup.port k) (control_end linked.setup.port k) may.can refl (record {
        labels = all_more held_label joined_label label_number (labels_of linked.port) (labels_of wired.port) new (ap (at label_number k) own ∙ spare) there_now others
            (goes_fresh held_label joined_label None new refl refl);
        grants = grants_same linked.port.grants linked.port.grants refl;
      })

    by_spare : (o : Option ℕ) → lowest_spare linked.setup s.least s.greatest s.labels ≡ o → Keeps (wires linked.setup w_counted flow o)
    by_spare None is = counts_alone
    by_spare (Some k) is = wires_keep k is

    by_flow : (o : Option Label) → label_for s.labels flow ≡ o → Keeps (counts_flow linked.setup b.controller.desk (begins b linked) s flow o)
    by_flow (Some label) is = uses_keeps label is
    by_flow None is = on_both Keeps (linked.setup.policy.offers flow (packets_in s_counted.counted flow) && has_room b.controller.desk w_counted)
        (wires linked.setup w_counted flow (lowest_spare linked.setup s.least s.greatest s.labels)) w_counted (by_spare (lowest_spare linked.setup s.least s.greatest s.labels) refl) counts_alone

  by_session : (o : Option Session) → linked.port.session ≡ o → (flow : Option FlowId) → Keeps (counts_by linked.setup b.controller.desk (begins b linked) o flow)
  by_session None is flow = idle_keeps
  by_session (Some s) is None = idle_keeps
  by_session (Some s) is (Some flow) = by_flow s is flow (label_for s.labels flow) refl

  pub counts_keep : (packet : List ℕ) → Keeps (counts linked.setup b.controller.desk (begins b linked) packet)
  counts_keep packet = by_session linked.port.session refl (packet_flow packet)
