-- a packet that uses a label of a port, or is only counted at it, and the port's peer

use Rattle.std.proofs.Common.{◌≡◌, ℕ, ◌<◌, Bool, true, false, List, [], Option, None, Some, refl, sym, ◌∙◌, ap, subst, if◌then◌else◌}
use Rattle.std.specs.Prelude.{◌&&◌}
use Rattle.std.specs.Option.{option_map, option_map_or}
use Rattle.world_model.specs.Words.{FlowId, at, Desk, Setup, Label, label_number, labels_of, label_at, label_for, serves, same_flow, lowest_spare, packets_in, counted_once, Session, Work, has_room, with_session, wires, used_label, used, counts_flow, counts_by, counts, packet_flow}
use Rattle.world_model.specs.port_model.Port.{Port}
use Rattle.law_port_facts.specs.ordered_lists.Ordered.{Every, InOrder}
use Rattle.law_port_facts.proofs.Keyed.{find_at}
use Rattle.law_live_links.specs.Law.{EndOfLink, working}
use Rattle.law_live_unseen.specs.Law.{AreAlike}
use Rattle.law_live_unseen.proofs.Rules.{labels_are_used_unseen}
use Rattle.law_live_ports.proofs.Keeping.{alike_itself}
use Rattle.law_live_others.proofs.Working.{IsAct, IsUnseen}

abbrev AreInOrder : Option Session → Type 0
AreInOrder o = InOrder (λ (x y : Label). label_number x < label_number y) (option_map_or (λ (s : Session). s.labels) o [])

module _ (setup : Setup) (desk : Desk) (port : Port) (instances : ℕ) where
  abbrev one_end : EndOfLink
  one_end = record { setup = setup; port = port; said = [] }

  abbrev w : Work
  w = working instances one_end

  -- *A label is used*
  pub use_unseen : (number : ℕ) → IsUnseen port (used w number)
  use_unseen number = record { alike = labels_are_used_unseen instances one_end number; acts = by (label_at port number) }
    where
      by : (o : Option Label) → Every IsAct (used_label w o).actions
      by None = tt
      by (Some label) = tt

  -- *A packet is counted*
  module _ (flow : FlowId) (s : Session) (is : port.session ≡ Some s) where
    abbrev s_counted : Session
    s_counted = record s { counted = counted_once s.counted flow }

    abbrev w_counted : Work
    w_counted = with_session w (λ old. s_counted)

    counted_alike : AreAlike port w_counted.port
    counted_alike = subst (λ (o : Option Session). AreAlike (record port { session = o }) (record port { session = option_map (λ (old : Session). s_counted) o })) (sym is)
        (record { adjacency = refl; in_session = refl; number = refl; expected = refl; labels = refl; grants = refl })

    offered_alike : (b : Bool) → (if b then wires setup w_counted flow (lowest_spare setup s.least s.greatest s.labels) else w_counted).actions ≡ []
        → AreAlike port (if b then wires setup w_counted flow (lowest_spare setup s.least s.greatest s.labels) else w_counted).port
    offered_alike false e = counted_alike
    offered_alike true e = by (lowest_spare setup s.least s.greatest s.labels) e
      where
        by : (o : Option ℕ) → (wires setup w_counted flow o).actions ≡ [] → AreAlike port (wires setup w_counted flow o).port
        by None e = counted_alike
        by (Some number) e = absurd (cc e)

    served_alike : AreInOrder port.session → (label : Label) → label_for s.labels flow ≡ Some label → AreAlike port (used_label w (Some label)).port
    served_alike order label found = subst (λ (o : Option Label). AreAlike port (used_label w o).port) here (labels_are_used_unseen instances one_end label.number)
      where
        here : label_at port label.number ≡ Some label
        here = ap (λ (o : Option Session). at label_number label.number (option_map_or (λ (x : Session). x.labels) o [])) is
            ∙ find_at label_number (λ (l : Label). serves l.state && same_flow l.flow flow) s.labels label (subst AreInOrder is order) found

    flow_alike : AreInOrder port.session → (o : Option Label) → label_for s.labels flow ≡ o → (counts_flow setup desk w s flow o).actions ≡ [] → AreAlike port (counts_flow setup desk w s flow o).port
    flow_alike order None found e = offered_alike (setup.policy.offers flow (packets_in s_counted.counted flow) && has_room desk w_counted) e
    flow_alike order (Some label) found e = served_alike order label found

  count_alike : AreInOrder port.session → (o : Option Session) → port.session ≡ o → (flow : Option FlowId) → (counts_by setup desk w o flow).actions ≡ [] → AreAlike port (counts_by setup desk w o flow).port
  count_alike order None is flow e = alike_itself port
  count_alike order (Some s) is None e = alike_itself port
  count_alike order (Some s) is (Some flow) e = flow_alike flow s is order (label_for s.labels flow) refl e

  pub count_unseen : (packet : List ℕ) → AreInOrder port.session → (counts setup desk w packet).actions ≡ [] → IsUnseen port (counts setup desk w packet)
  count_unseen packet order e = record {
    alike = count_alike order port.session refl (packet_flow packet) e;
    acts = subst (Every IsAct) (sym e) tt;
  }
