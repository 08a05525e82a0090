-- packets at a port: one that uses a label, and one that is only counted

use Rattle.std.proofs.Common.{◌≡◌, ℕ, ◌<◌, Bool, true, false, List, [], Option, None, Some, refl, sym, ◌∙◌, ap, subst, if◌then◌else◌}
use Rattle.std.specs.Prelude.{◌&&◌}
use Rattle.std.specs.Option.{option_map, option_map_or}
use Rattle.world_model.specs.Words.{FlowId, at, Desk, Setup, Label, label_number, labels_of, label_at, label_for, serves, same_flow, lowest_spare, packets_in, counted_once, Session, Work, has_room, with_session, wires, used_label, used, counts_flow, counts_by, counts, packet_flow}
use Rattle.world_model.specs.port_model.Port.{Port}
use Rattle.law_port_facts.specs.ordered_lists.Ordered.{Every, InOrder}
use Rattle.law_port_facts.proofs.Keyed.{at_key, find_at}
use Rattle.law_live_mirrors.specs.Asking.{IsPlain}
use Rattle.law_live_joining.proofs.Keeping.{KeepsPort, port_itself}
use Rattle.law_live_joining.proofs.Ports.{relabelled, IsKind}

abbrev AreInOrder : Option Session → Type 0
AreInOrder o = InOrder (λ (x y : Label). label_number x < label_number y) (option_map_or (λ (s : Session). s.labels) o [])

module _ (setup : Setup) (desk : Desk) (port : Port) (instances : ℕ) where
  abbrev w : Work
  w = record { port = port; actions = []; halted = false; instances = instances }

  -- *A label is used*
  used_kind : (label : Label) → label_at port label.number ≡ Some label → IsKind port (used_label w (Some label))
  used_kind label there = record { plain = tt; keeps = relabelled port label (record label { idle = 0 }) there refl }

  pub use_kind : (number : ℕ) → IsKind port (used w number)
  use_kind number = by (label_at port number) refl
    where
      by : (o : Option Label) → label_at port number ≡ o → IsKind port (used_label w o)
      by None is = record { plain = tt; keeps = port_itself port }
      by (Some label) is = used_kind label (ap (label_at port) (at_key label_number number (labels_of port) label is) ∙ is)

  -- *A packet is counted*
  module _ (flow : FlowId) (s : Session) (is : port.session ≡ Some s) where
    abbrev s_counted : Session
    s_counted = record s { counted = counted_once s.counted flow }

    abbrev w_counted : Work
    w_counted = with_session w (λ old. s_counted)

    counted_keeps : KeepsPort port w_counted.port
    counted_keeps = subst (λ (o : Option Session). KeepsPort (record port { session = o }) (record port { session = option_map (λ (old : Session). s_counted) o })) (sym is)
        (record { joined = λ number what h. h; lent = λ label what h. h })

    offered_keeps : (b : Bool) → (if b then wires setup w_counted flow (lowest_spare setup s.least s.greatest s.labels) else w_counted).actions ≡ []
        → KeepsPort port (if b then wires setup w_counted flow (lowest_spare setup s.least s.greatest s.labels) else w_counted).port
    offered_keeps false e = counted_keeps
    offered_keeps true e = by (lowest_spare setup s.least s.greatest s.labels) e
      where
        by : (o : Option ℕ) → (wires setup w_counted flow o).actions ≡ [] → KeepsPort port (wires setup w_counted flow o).port
        by None e = counted_keeps
        by (Some number) e = absurd (cc e)

    served_keeps : AreInOrder port.session → (label : Label) → label_for s.labels flow ≡ Some label → KeepsPort port (used_label w (Some label)).port
    served_keeps order label found = (used_kind label here).keeps
      where
        here : label_at port label.number ≡ Some label
        here = ap (λ (o : Option Session). at label_number label.number (option_map_or (λ (x : Session). x.labels) o [])) is
            ∙ find_at label_number (λ (l : Label). serves l.state && same_flow l.flow flow) s.labels label (subst AreInOrder is order) found

    flow_keeps : AreInOrder port.session → (o : Option Label) → label_for s.labels flow ≡ o → (counts_flow setup desk w s flow o).actions ≡ [] → KeepsPort port (counts_flow setup desk w s flow o).port
    flow_keeps order None found e = offered_keeps (setup.policy.offers flow (packets_in s_counted.counted flow) && has_room desk w_counted) e
    flow_keeps order (Some label) found e = served_keeps order label found

  count_keeps : AreInOrder port.session → (o : Option Session) → port.session ≡ o → (flow : Option FlowId) → (counts_by setup desk w o flow).actions ≡ [] → KeepsPort port (counts_by setup desk w o flow).port
  count_keeps order None is flow e = port_itself port
  count_keeps order (Some s) is None e = port_itself port
  count_keeps order (Some s) is (Some flow) e = flow_keeps flow s is order (label_for s.labels flow) refl e

  pub count_kind : (packet : List ℕ) → AreInOrder port.session → (counts setup desk w packet).actions ≡ [] → IsKind port (counts setup desk w packet)
  count_kind packet order e = record {
    plain = subst (Every IsPlain) (sym e) tt;
    keeps = count_keeps order port.session refl (packet_flow packet) e;
  }
