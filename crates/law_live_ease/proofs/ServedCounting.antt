-- a port counts a packet: its session serves the flow, or has so many packets of it counted, as before; and by one of the flow it serves the
-- flow, or has one more counted, but fewer than the policy asks for

use Rattle.std.proofs.Common.{◌≡◌, ◌≢◌, ℕ, suc, ◌≤◌, ◌<◌, ◌+◌, ◌&&◌, Bool, true, false, List, [], length, Option, None, Some, refl, sym, ◌∙◌, ap, subst, arith, inl, inr}
use Rattle.std.specs.Prelude.{nat_lt, min}
use Rattle.std.specs.Option.{option_map, option_map_or}
use Rattle.std.proofs.lemmas.Bool.Decides.{nat_tests}
use Rattle.world_model.specs.Words.{FlowId, same_flow, packet_flow, AddBranch, at, entered, key_le, Ask, Desk, Setup, label_end, control_end, Label, label_number, label_at, label_for, serves, lowest_spare, counted_once, packets_in, Session, Work, with_session, with_new_label, has_room, wires, used_label, counts_flow, counts_by, counts}
use Rattle.world_model.specs.port_model.Counts.{Counted, greatest_count, most_flows}
use Rattle.world_model.specs.port_model.Port.{Port}
use Rattle.law_live_journeys.specs.law_run_facts.ordered_lists.Ordered.{InOrder}
use Rattle.law_live_journeys.proofs.law_run_facts.law_port_facts.Keyed.{on_both, on_each, find_at}
use Rattle.law_live_journeys.proofs.law_run_facts.law_port_facts.Found.{find_passes}
use Rattle.law_live_journeys.proofs.law_run_facts.law_port_facts.Rules.{and_first, and_second}
use Rattle.law_live_journeys.proofs.law_run_facts.law_controller_bindings.Flows.{one_flow}
use Rattle.calm_model.specs.Served.{OffersLabels}
use Rattle.law_live_counts.specs.Law.{wiring_for}
use Rattle.law_live_counts.proofs.Asking.{spare_at}
use Rattle.law_live_counts.proofs.Counted.{one_counted}
use Rattle.law_live_counts.proofs.Works.{changed_session}
use Rattle.law_live_ease.proofs.ServedLists.{Serves, entered_serves, new_serves, is_for, counted_still}
use Rattle.law_live_ease.proofs.ServedWorking.{Good, In, G, session_g, acts_g, label_g}

one_session : (x y : Session) → Some x ≡ Some y → x ≡ y
one_session x y e = cc

-- *What counting keeps*: another packet, where fewer flows are counted than can be
abbrev pub IsKept : (List Counted → Type 0) → Type 0
IsKept Q = (counts : List Counted) (other : FlowId) → length counts < most_flows → Q counts → Q (counted_once counts other)

-- so it keeps that nothing is so of what is counted; that so many are; and that so many are, but fewer than are wanted
pub none_kept : IsKept (λ counts. ⊥)
none_kept counts other few q = q

pub many_kept : (flow : FlowId) (k : ℕ) → IsKept (λ counts. k ≤ packets_in counts flow)
many_kept flow k counts other few q = counted_still flow other k counts few q

abbrev pub IsCounted : FlowId → (k : ℕ) → List Counted → Type 0
IsCounted flow k counts = k ≤ packets_in counts flow

abbrev pub Lacks : FlowId → (wanted k : ℕ) → List Counted → Type 0
Lacks flow wanted k counts = (k < wanted) × (k ≤ packets_in counts flow)

pub lacks_kept : (flow : FlowId) (wanted k : ℕ) → IsKept (Lacks flow wanted k)
lacks_kept flow wanted k counts other few q = (q.0, counted_still flow other k counts few q.1)

-- *A port at work*, in session, with its labels in order and room for a flow more
module _ (setup : Setup) (desk : Desk) (p : Port) (instances : ℕ) where
  abbrev pub w : Work
  w = record { port = p; actions = []; halted = false; instances = instances }

  module _ (s : Session) (is : p.session ≡ Some s) (order : InOrder (λ (a b : Label). label_number a < label_number b) s.labels) (few : length s.counted < most_flows) where
    abbrev counting : FlowId → Session
    counting other = record s { counted = counted_once s.counted other }

    abbrev counted_so : FlowId → Work
    counted_so other = with_session w (λ old. counting other)

    open_now : (other : FlowId) → (counted_so other).port.session ≡ Some (counting other)
    open_now other = ap (option_map (λ (old : Session). counting other)) is

    -- the label that serves a flow is found by its number
    label_found : (other : FlowId) (label : Label) → label_for s.labels other ≡ Some label → label_at p label.number ≡ Some label
    label_found other label found = ap (λ (o : Option Session). at label_number label.number (option_map_or (λ (x : Session). x.labels) o [])) is
        ∙ find_at label_number (λ (l : Label). serves l.state && same_flow l.flow other) s.labels label order found

    module _ (flow : FlowId) (Q : List Counted → Type 0) where
      use_good : (label : Label) → label_at p label.number ≡ Some label → G flow Q w → G flow Q (used_label w (Some label))
      use_good label found h = label_g flow Q w label (record label { idle = 0 }) found refl (λ e. e) h

      -- a label that is taken for any flow
      wires_good : (other : FlowId) (o : Option ℕ) → lowest_spare setup s.least s.greatest s.labels ≡ o → G flow Q (counted_so other) → G flow Q (wires setup (counted_so other) other o)
      wires_good other None spare h = h
      wires_good other (Some number) spare h = acts_g flow Q (with_new_label (counted_so other) label) (Ask (AddBranch (label_end setup.port number) (control_end setup.port number)) false)
          (session_g flow Q (counted_so other) (λ x. record x { labels = entered (key_le label_number) label x.labels }) enters h)
        where
          label : Label
          label = wiring_for other number

          free : at label_number number s.labels ≡ None
          free = spare_at setup s.least s.greatest s.labels number spare

          enters : (x : Session) → (counted_so other).port.session ≡ Some x → Good flow Q x → Good flow Q (record x { labels = entered (key_le label_number) label x.labels })
          enters x open_x (inl serve) = inl (entered_serves flow (key_le label_number) label x.labels
              (subst (λ (y : Session). at label_number number y.labels ≡ None) (one_session (counting other) x (sym (open_now other) ∙ open_x)) free) serve)
          enters x open_x (inr q) = inr q

      counted_good : (other : FlowId) → IsKept Q → G flow Q w → G flow Q (counted_so other)
      counted_good other keeps h = session_g flow Q w (λ old. counting other) each h
        where
          each : (x : Session) → p.session ≡ Some x → Good flow Q x → Good flow Q (counting other)
          each x open_x (inl serve) = inl (subst (λ (y : Session). Serves flow y.labels) (one_session x s (sym open_x ∙ is)) serve)
          each x open_x (inr q) = inr (keeps s.counted other few (subst (λ (y : Session). Q y.counted) (one_session x s (sym open_x ∙ is)) q))

      flow_good : (other : FlowId) (o : Option Label) → label_for s.labels other ≡ o → IsKept Q → G flow Q w → G flow Q (counts_flow setup desk w s other o)
      flow_good other (Some label) found keeps h = use_good label (label_found other label found) h
      flow_good other None found keeps h = on_both (G flow Q) (setup.policy.offers other (packets_in (counting other).counted other) && has_room desk (counted_so other))
          (wires setup (counted_so other) other (lowest_spare setup s.least s.greatest s.labels)) (counted_so other)
          (wires_good other (lowest_spare setup s.least s.greatest s.labels) refl (counted_good other keeps h)) (counted_good other keeps h)

      -- *A packet of any flow*
      pub counts_good : (packet : List ℕ) → IsKept Q → G flow Q w → G flow Q (counts setup desk w packet)
      counts_good packet keeps h = subst (λ (o : Option Session). G flow Q (counts_by setup desk w o (packet_flow packet))) (sym is) (by (packet_flow packet))
        where
          by : (o : Option FlowId) → G flow Q (counts_by setup desk w (Some s) o)
          by None = h
          by (Some other) = flow_good other (label_for s.labels other) refl keeps h

    -- *A packet of the flow*, where there is room for a request, and a label to spare unless one serves it
    module _ (flow : FlowId) (wanted k : ℕ) (policy : OffersLabels setup.policy flow wanted) (room : has_room desk w ≡ true)
        (spare : label_for s.labels flow ≡ None → lowest_spare setup s.least s.greatest s.labels ≢ None) where
      abbrev Then : List Counted → Type 0
      Then = Lacks flow wanted (suc k)

      abbrev total : ℕ
      total = packets_in (counting flow).counted flow

      -- a label is taken for it
      taken : label_for s.labels flow ≡ None → G flow Then (wires setup (counted_so flow) flow (lowest_spare setup s.least s.greatest s.labels))
      taken unserved = by (lowest_spare setup s.least s.greatest s.labels) refl
        where
          by : (o : Option ℕ) → lowest_spare setup s.least s.greatest s.labels ≡ o → G flow Then (wires setup (counted_so flow) flow o)
          by None e = absurd (spare unserved e)
          by (Some number) e = acts_g flow Then (with_new_label (counted_so flow) label) (Ask (AddBranch (label_end setup.port number) (control_end setup.port number)) false)
              (subst (In flow Then) (sym (changed_session (counted_so flow) refl (λ x. record x { labels = entered (key_le label_number) label x.labels }) (counting flow) (open_now flow)))
              (inl (new_serves flow (key_le label_number) label s.labels (spare_at setup s.least s.greatest s.labels number e) refl refl)))
            where
              label : Label
              label = wiring_for flow number

      -- or the policy doesn't offer yet
      not_offered : (a b : Bool) → (a && b) ≡ false → b ≡ true → a ≡ false
      not_offered true b e f = absurd (cc (sym e ∙ f))
      not_offered false b e f = refl

      below : setup.policy.offers flow total ≡ false → total < wanted
      below none = by (nat_lt total wanted) refl
        where
          less : (m n : ℕ) → nat_lt m n ≡ true → m < n
          less m n t = grind (arith, nat_tests)

          above : (m n : ℕ) → nat_lt m n ≡ false → n ≤ m
          above m n t = grind (arith, nat_tests)

          by : (b : Bool) → nat_lt total wanted ≡ b → total < wanted
          by true t = less total wanted t
          by false t = absurd (cc (sym none ∙ policy.offers total (above total wanted t)))

      one_more : k < wanted → k ≤ packets_in s.counted flow → suc k ≤ total
      one_more low le = subst (λ n. suc k ≤ n) (sym (one_counted s.counted flow)) (within k wanted greatest_count (packets_in s.counted flow) low policy.few le)
        where
          within : (k wanted most n : ℕ) → k < wanted → wanted ≤ most → k ≤ n → suc k ≤ min most (n + 1)
          within k wanted most n low few le = omega (arith, low, few, le)

      still : k < wanted → setup.policy.offers flow total ≡ false → G flow (IsCounted flow k) w → G flow Then (counted_so flow)
      still low none h = subst (In flow Then) (sym (open_now flow)) (by (subst (In flow (IsCounted flow k)) is h))
        where
          by : Good flow (IsCounted flow k) s → Good flow Then (counting flow)
          by (inl serve) = inl serve
          by (inr q) = inr (omega (arith, one_more low q, below none), one_more low q)

      its_label : (label : Label) → label_for s.labels flow ≡ Some label → Serves flow s.labels
      its_label label found = record {
        label = label;
        held = find_at label_number (is_for flow) s.labels label order found;
        serving = and_first (serves label.state) (same_flow label.flow flow) (find_passes (is_for flow) s.labels label found);
        of_flow = one_flow label.flow flow (and_second (serves label.state) (same_flow label.flow flow) (find_passes (is_for flow) s.labels label found));
      }

      heard_flow : (o : Option Label) → label_for s.labels flow ≡ o → k < wanted → G flow (IsCounted flow k) w → G flow Then (counts_flow setup desk w s flow o)
      heard_flow (Some label) found low h = use_good flow Then label (label_found flow label found) (subst (In flow Then) (sym is) (inl (its_label label found)))
      heard_flow None found low h = on_each (G flow Then) (setup.policy.offers flow total && has_room desk (counted_so flow))
          (wires setup (counted_so flow) flow (lowest_spare setup s.least s.greatest s.labels)) (counted_so flow)
          (λ t. taken found) (λ t. still low (not_offered (setup.policy.offers flow total) (has_room desk (counted_so flow)) t room) h)

      pub heard_good : (packet : List ℕ) → packet_flow packet ≡ Some flow → k < wanted → G flow (IsCounted flow k) w → G flow Then (counts setup desk w packet)
      heard_good packet of_flow low h = subst (λ (o : Option Session). G flow Then (counts_by setup desk w o (packet_flow packet))) (sym is)
          (subst (λ (o : Option FlowId). G flow Then (counts_by setup desk w (Some s) o)) (sym of_flow) (heard_flow (label_for s.labels flow) refl low h))
