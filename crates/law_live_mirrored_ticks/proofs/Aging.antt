-- a port that ticks at peace leads alike, and holds the same labels

use Rattle.std.proofs.Common.{◌≡◌, ℕ, ◌+◌, true, false, List, [], ◌∷◌, length, length-append, Option, None, Some, refl, sym, ◌∙◌, ap, subst, if◌then◌else◌}
use Rattle.std.specs.Prelude.{flat_map, is_none, nat_eq}
use Rattle.std.specs.Option.{option_map, option_map_or}
use Rattle.std.proofs.lemmas.List.{length-map}
use Rattle.world_model.specs.Words.{End, is_label_number, number_of_channel, at, put, label_end, Setup, Label, label_number, labels_of, Grant, grant_label, Session, one_idler, one_older, Linked, port_key, inputs_at}
use Rattle.world_model.specs.port_model.Port.{Port}
use Rattle.law_port_facts.specs.ordered_lists.Ordered.{Every}
use Rattle.law_port_facts.proofs.ordered_lists.Every.{every_map, every_mapped}
use Rattle.law_port_facts.proofs.ordered_lists.InOrder.{order_mapped}
use Rattle.law_port_facts.proofs.Keyed.{on_both, at_map}
use Rattle.law_live_ticks.specs.Law.{shorter, aged, is_due, told_anew, next_port}
use Rattle.law_live_nodes.specs.Law.{idle_work, IsPortAtPeace, ticked_port}
use Rattle.law_live_ports.proofs.Keeping.{HasApart}
use Rattle.law_live_mirrors.specs.Mirrors.{led_in, led_by, is_led_out}
use Rattle.law_live_mirrors.proofs.Ports.{leads_by, is_out}
use Rattle.law_live_mirrors.proofs.Counting.{led_so}

-- *A label that grows older* is the same in what it leads by
record LeadsSo (label after : Label) : Type 0 where
  number : after.number ≡ label.number
  state : after.state ≡ label.state
  join : after.join ≡ label.join

aged_so : (label : Label) → LeadsSo label (aged label)
aged_so label = on_both (λ (x : Label). LeadsSo label (one_older x)) (is_none label.join) (one_idler label) label
    (record { number = refl; state = refl; join = refl }) (record { number = refl; state = refl; join = refl })

told_so : (setup : Setup) (label : Label) → LeadsSo label (told_anew setup label)
told_so setup label = by (aged_so label)
  where
    by : LeadsSo label (aged label) → LeadsSo label (told_anew setup label)
    by so = on_both (LeadsSo label) (is_due setup label) (record (aged label) { ticks = 0 }) (aged label) (record { number = so.number; state = so.state; join = so.join }) so

-- *A port at peace*
module _ (linked : Linked) (is : IsPortAtPeace linked) where
  abbrev pub aged_port : Port
  aged_port = next_port linked.setup (idle_work linked) is.session

  pub tick_is : ticked_port linked ≡ record linked { port = aged_port }
  tick_is = ap (λ (o : Option Session). option_map_or (λ (s : Session). record linked { port = next_port linked.setup (idle_work linked) s }) o linked) is.peace.is_open

  labels_so : labels_of linked.port ≡ is.session.labels
  labels_so = ap (λ (o : Option Session). option_map_or (λ (s : Session). s.labels) o []) is.peace.is_open

  pub aged_leads : (input : End) → leads_by input aged_port ≡ leads_by input linked.port
  aged_leads input = ap (led_by input) (at_map label_number label_number (told_anew linked.setup) (λ label. (told_so linked.setup label).number) (number_of_channel input.channel) is.session.labels)
      ∙ (by (at label_number (number_of_channel input.channel) is.session.labels)
      ∙ sym (ap (λ (labels : List Label). led_by input (at label_number (number_of_channel input.channel) labels)) labels_so))
    where
      by : (o : Option Label) → led_by input (option_map (told_anew linked.setup) o) ≡ led_by input o
      by None = refl
      by (Some label) = ap (led_in input (told_anew linked.setup label)) (told_so linked.setup label).state
          ∙ led_so input (told_anew linked.setup label) label label.state (told_so linked.setup label).join

  pub aged_out : (number : Option ℕ) → is_out aged_port.grants number ≡ is_out linked.port.grants number
  aged_out None = refl
  aged_out (Some k) = ap (λ (o : Option Grant). option_map_or (λ (grant : Grant). is_led_out grant.state) o false)
      (at_map grant_label grant_label shorter (λ grant. refl) k linked.port.grants) ∙ by (at grant_label k linked.port.grants)
    where
      by : (o : Option Grant) → option_map_or (λ (grant : Grant). is_led_out grant.state) (option_map shorter o) false ≡ option_map_or (λ (grant : Grant). is_led_out grant.state) o false
      by None = refl
      by (Some grant) = refl

  -- as many labels, in range; grants apart
  pub aged_inputs : length (inputs_at (record linked { port = aged_port })) ≡ length (inputs_at linked)
  aged_inputs = length-map (labels_of aged_port) (λ (label : Label). label_end linked.setup.port label.number)
      ∙ (length-map is.session.labels (told_anew linked.setup)
      ∙ (sym (ap (λ (labels : List Label). length labels) labels_so) ∙ sym (length-map (labels_of linked.port) (λ (label : Label). label_end linked.setup.port label.number))))

  pub aged_numbers : Every (λ (label : Label). is_label_number label.number ≡ true) (labels_of linked.port) → Every (λ (label : Label). is_label_number label.number ≡ true) (labels_of aged_port)
  aged_numbers h = every_mapped (told_anew linked.setup) (λ (label : Label). is_label_number label.number ≡ true) is.session.labels
      (every_map (λ (label : Label). is_label_number label.number ≡ true) (λ (label : Label). is_label_number (told_anew linked.setup label).number ≡ true) is.session.labels
      (λ label in_range. ap is_label_number (told_so linked.setup label).number ∙ in_range)
      (subst (Every (λ (label : Label). is_label_number label.number ≡ true)) labels_so h))

  pub aged_apart : HasApart linked → HasApart (record linked { port = aged_port })
  aged_apart h = order_mapped shorter (λ (x y : Grant). grant_label x ≡ grant_label y → ⊥) linked.port.grants h

-- *As many inputs* where a port is put in the place of one with as many
pub as_many : (new linked : Linked) (ports : List Linked) → at port_key (port_key new) ports ≡ Some linked → length (inputs_at new) ≡ length (inputs_at linked)
    → length (flat_map inputs_at (put port_key new ports)) ≡ length (flat_map inputs_at ports)
as_many new linked [] e same = refl
as_many new linked (x ∷ ports) e same = elim (nat_eq (port_key x) (port_key new)) as (λ t. (if t then Some x else at port_key (port_key new) ports) ≡ Some linked
    → length (flat_map inputs_at (if t then new ∷ ports else x ∷ put port_key new ports)) ≡ length (flat_map inputs_at (x ∷ ports))) [
      | true ↦ λ e. (let own : x ≡ linked = cc in length-append (inputs_at new) (flat_map inputs_at ports)
          ∙ (ap (λ n. n + length (flat_map inputs_at ports)) (same ∙ ap (λ (l : Linked). length (inputs_at l)) (sym own)) ∙ sym (length-append (inputs_at x) (flat_map inputs_at ports))))
      | false ↦ λ e. length-append (inputs_at x) (flat_map inputs_at (put port_key new ports))
          ∙ (ap (λ n. length (inputs_at x) + n) (as_many new linked ports e same) ∙ sym (length-append (inputs_at x) (flat_map inputs_at ports)))
    ] e
