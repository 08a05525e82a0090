-- a flow that labels serve, and packets of it that are counted, as the lists of a session change

use Rattle.std.proofs.Common.{◌≡◌, ℕ, ◌≤◌, ◌<◌, ◌+◌, ◌-◌, ◌&&◌, Bool, true, false, not, List, [], ◌∷◌, ◌++◌, length, length-append, Option, None, Some, refl, sym, ◌∙◌, ap, subst, arith, if◌then◌else◌}
use Rattle.std.specs.Prelude.{find, filter, drop, min}
use Rattle.std.specs.List.{sum_by}
use Rattle.world_model.specs.Words.{FlowId, same_flow, at, put, without, entered, Label, label_number, label_for, serves, counted_once, packets_in}
use Rattle.world_model.specs.port_model.Counts.{Counted, greatest_count, most_flows, counted_of, one_more_packet, packets_of, packet_total}
use Rattle.law_live_journeys.proofs.law_run_facts.law_port_facts.Keyed.{by_eq, at_put_same, at_put_other}
use Rattle.law_live_journeys.proofs.law_run_facts.law_controller_bindings.Flows.{one_flow}
use Rattle.law_live_journeys.proofs.law_run_facts.law_controller_bindings.Working.{at_without_other}
use Rattle.law_live_counts.proofs.Counted.{same_itself, one_counted}
use Rattle.law_live_journeys.proofs.law_live_bindings.Places.{at_entered_same, at_entered_other}

both : (a b : Bool) → a ≡ true → b ≡ true → (a && b) ≡ true
both true b p q = q
both false b p q = absurd (cc p)

one_label : (x y : Label) → Some x ≡ Some y → x ≡ y
one_label x y e = cc

-- *A label serves a flow*, and is found by its number
pub record Serves (flow : FlowId) (labels : List Label) : Type 0 where
  pub label : Label
  pub held : at label_number label.number labels ≡ Some label
  pub serving : serves label.state ≡ true
  pub of_flow : label.flow ≡ flow

module _ (flow : FlowId) where
  -- it still does once another stands in the place of one, for the same flow, and serves it where that did
  pub put_serves : (before after : Label) (labels : List Label) → at label_number after.number labels ≡ Some before → after.flow ≡ before.flow
      → (serves before.state ≡ true → serves after.state ≡ true) → Serves flow labels → Serves flow (put label_number after labels)
  put_serves before after labels found same keeps h = by_eq after.number h.label.number
      (λ e t. own (one_label before h.label (sym found ∙ (ap (λ k. at label_number k labels) e ∙ h.held))))
      (λ differs t. record { label = h.label; held = at_put_other label_number after h.label.number labels differs ∙ h.held; serving = h.serving; of_flow = h.of_flow })
    where
      own : before ≡ h.label → Serves flow (put label_number after labels)
      own is = record {
        label = after;
        held = at_put_same label_number after labels before found;
        serving = keeps (ap (λ (l : Label). serves l.state) is ∙ h.serving);
        of_flow = same ∙ (ap (λ (l : Label). l.flow) is ∙ h.of_flow);
      }

  -- once one is left out that doesn't serve
  pub without_serves : (label : Label) (labels : List Label) → at label_number label.number labels ≡ Some label → serves label.state ≡ false → Serves flow labels
      → Serves flow (without label_number label.number labels)
  without_serves label labels found idle h = by_eq label.number h.label.number
      (λ e t. absurd (cc (sym idle ∙ (ap (λ (l : Label). serves l.state) (one_label label h.label (sym found ∙ (ap (λ k. at label_number k labels) e ∙ h.held))) ∙ h.serving))))
      (λ differs t. record { label = h.label; held = at_without_other label_number label.number h.label.number labels differs ∙ h.held; serving = h.serving; of_flow = h.of_flow })

  -- and once one more is entered
  pub entered_serves : (le : Label → Label → Bool) (label : Label) (labels : List Label) → at label_number label.number labels ≡ None → Serves flow labels
      → Serves flow (entered le label labels)
  entered_serves le label labels spare h = by_eq label.number h.label.number
      (λ e t. absurd (cc (sym spare ∙ (ap (λ k. at label_number k labels) e ∙ h.held))))
      (λ differs t. record { label = h.label; held = at_entered_other label_number le label h.label.number labels differs ∙ h.held; serving = h.serving; of_flow = h.of_flow })

  -- one that is entered for it serves it
  pub new_serves : (le : Label → Label → Bool) (label : Label) (labels : List Label) → at label_number label.number labels ≡ None → serves label.state ≡ true → label.flow ≡ flow
      → Serves flow (entered le label labels)
  new_serves le label labels spare serving same = record { label = label; held = at_entered_same label_number le label labels spare; serving = serving; of_flow = same }

  -- *So the flow has a label*
  abbrev pub is_for : Label → Bool
  is_for label = serves label.state && same_flow label.flow flow

  pub record Found (labels : List Label) : Type 0 where
    pub label : Label
    pub is : label_for labels flow ≡ Some label

  some_found : (n : ℕ) (labels : List Label) (label : Label) → at label_number n labels ≡ Some label → is_for label ≡ true → Found labels
  some_found n [] label e passes = absurd (cc e)
  some_found n (x ∷ labels) label e passes = by (is_for x) refl (λ found. some_found n labels label found passes)
    where
      later : is_for x ≡ false → Found labels → Found (x ∷ labels)
      later t f = record { label = f.label; is = ap (λ (b : Bool). if b then Some x else label_for labels flow) t ∙ f.is }

      by : (b : Bool) → is_for x ≡ b → (at label_number n labels ≡ Some label → Found labels) → Found (x ∷ labels)
      by true t more = record { label = x; is = ap (λ (b : Bool). if b then Some x else label_for labels flow) t }
      by false t more = by_eq x.number n
          (λ same s. absurd (cc (sym t ∙ (ap is_for (one_label x label (sym (ap (λ (b : Bool). if b then Some x else at label_number n labels) s) ∙ e)) ∙ passes))))
          (λ differs s. later t (more (sym (ap (λ (b : Bool). if b then Some x else at label_number n labels) s) ∙ e)))

  pub served_found : (labels : List Label) → Serves flow labels → Found labels
  served_found labels h = some_found h.label.number labels h.label h.held
      (both (serves h.label.state) (same_flow h.label.flow flow) h.serving (ap (λ (f : FlowId). same_flow f flow) h.of_flow ∙ same_itself flow))

-- *A packet of another flow* leaves what is counted of this one
module _ (flow other : FlowId) (apart : same_flow other flow ≡ false) where
  abbrev is_of : Counted → Bool
  is_of c = same_flow c.flow flow

  module _ (now : Counted) (is : now.flow ≡ other) where
    others_found : (counts : List Counted) → find is_of (filter (λ c. not (same_flow c.flow other)) counts ++ now ∷ []) ≡ find is_of counts
    others_found [] = ap (λ (b : Bool). if b then Some now else None) (ap (λ (f : FlowId). same_flow f flow) is ∙ apart)
    others_found (c ∷ counts) = by (same_flow c.flow other) refl (others_found counts)
      where
        rest : List Counted
        rest = filter (λ (x : Counted). not (same_flow x.flow other)) counts

        by : (b : Bool) → same_flow c.flow other ≡ b → find is_of (rest ++ now ∷ []) ≡ find is_of counts → find is_of ((if not b then c ∷ rest else rest) ++ now ∷ []) ≡ (if is_of c then Some c else find is_of counts)
        by true t more = more ∙ sym (ap (λ (b : Bool). if b then Some c else find is_of counts) (ap (λ (f : FlowId). same_flow f flow) (one_flow c.flow other t) ∙ apart))
        by false t more = ap (λ (o : Option Counted). if is_of c then Some c else o) more

  fewer : (counts : List Counted) → length (filter (λ c. not (same_flow c.flow other)) counts) ≤ length counts
  fewer [] = omega arith
  fewer (c ∷ counts) = by (not (same_flow c.flow other)) (fewer counts)
    where
      rest : List Counted
      rest = filter (λ (x : Counted). not (same_flow x.flow other)) counts

      by : (b : Bool) → length rest ≤ length counts → length (if b then c ∷ rest else rest) ≤ length (c ∷ counts)
      by true le = omega (arith, le)
      by false le = omega (arith, le)

  pub other_counted : (counts : List Counted) → length counts < most_flows → packets_in (counted_once counts other) flow ≡ packets_in counts flow
  other_counted counts few =
      let others : List Counted = filter (λ c. not (same_flow c.flow other)) counts in
      let now : Counted = record { flow = other; packets = one_more_packet (packets_of (counted_of counts other)) } in
      let all : List Counted = others ++ now ∷ [] in
      let none_over : length all - most_flows ≡ 0 = omega (arith, few, fewer counts, length-append others (now ∷ [])) in
      ap (λ (n : ℕ). packet_total (packets_of (find is_of (drop n all)))) none_over
      ∙ ap (λ (o : Option Counted). packet_total (packets_of o)) (others_found now refl counts)

-- *So many are counted* still behind a packet of any flow
same_or_apart : {P : Type 0} (a b : FlowId) → (a ≡ b → P) → (same_flow a b ≡ false → P) → P
same_or_apart {P} a b same apart = by (same_flow a b) refl
  where
    by : (t : Bool) → same_flow a b ≡ t → P
    by true t = same (one_flow a b t)
    by false t = apart t

more_still : (k most total : ℕ) → k ≤ min most total → k ≤ min most (min most total + 1)
more_still k most total le = omega (arith, le)

pub counted_still : (flow other : FlowId) (k : ℕ) (counts : List Counted) → length counts < most_flows → k ≤ packets_in counts flow → k ≤ packets_in (counted_once counts other) flow
counted_still flow other k counts few le = same_or_apart other flow
    (λ same. subst (λ (f : FlowId). k ≤ packets_in (counted_once counts f) flow) (sym same)
    (subst (λ n. k ≤ n) (sym (one_counted counts flow)) (more_still k greatest_count (sum_by (λ (n : ℕ). n) (packets_of (counted_of counts flow))) le)))
    (λ apart. subst (λ n. k ≤ n) (sym (other_counted flow other apart counts few)) le)
