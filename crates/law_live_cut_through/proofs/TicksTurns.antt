-- what the turn of an input leaves of labels and grants: a label is joined that was not, and its grant is lent

use Rattle.std.proofs.Common.{◌≡◌, ◌≢◌, inl, inr, ℕ, ◌<◌, true, true≢false, not, List, [], ◌∷◌, length, fold, Option, None, Some, refl, sym, ◌∙◌, ap}
use Rattle.std.specs.Prelude.{◌&&◌, nat_lt, is_none}
use Rattle.std.specs.Option.{option_map, option_map_or, option_and_then}
use Rattle.world_model.specs.Words.{PortNo, End, FlowId, flow_ttl, flow_destination, best, Local, number_of_channel, on_input, most_asked, at, label_end, Label, LabelState, Offered, label_at, Grant, GrantState, ByController, ByInput, grant_label, is_by_controller, is_offered, Controller, Linked, linked_at, port_key, label_on, port_by, route_stays, tries_join}
use Rattle.world_model.specs.Controller.{Acted}
use Rattle.calm_model.specs.Ways.{one_hop}
use Rattle.law_live_ease.specs.law_port_facts.ordered_lists.Ordered.{Every}
use Rattle.law_live_ease.proofs.law_port_facts.ordered_lists.Every.{every_map}
use Rattle.law_live_ease.proofs.law_port_facts.Keyed.{by_eq, at_put_other}
use Rattle.law_live_ease.proofs.law_port_facts.Rules.{and_first, and_second}
use Rattle.law_live_ease.proofs.law_run_facts.law_controller_bindings.Flows.{one_flow}
use Rattle.law_live_ease.proofs.law_live_joining.Entering.{IsElse}
use Rattle.law_live_ease.proofs.law_live_joining.Turns.{Entered, Turned, passed, joins_one}
use Rattle.law_live_ease.proofs.law_live_joining.Trying.{HasTurns, turns_then, its_turn}
use Rattle.law_live_cut_through.proofs.TicksFlows.{next_was}

-- *What stays of a label*: its number, its state and its flow
abbrev pub kind : Label → ℕ × LabelState × FlowId
kind label = (label.number, label.state, label.flow)

abbrev pub LabelsStay : Controller → Controller → Type 0
LabelsStay before after = (x : End) → option_map kind (label_on after x) ≡ option_map kind (label_on before x)

pub labels_then : (a b c : Controller) → LabelsStay a b → LabelsStay b c → LabelsStay a c
labels_then a b c p q = λ x. q x ∙ p x

-- so a label that is there was there
pub record Was (o : Option Label) (label : Label) : Type 0 where
  pub old : Label
  pub there : o ≡ Some old
  pub number : label.number ≡ old.number
  pub state : label.state ≡ old.state
  pub flow : label.flow ≡ old.flow

pub was : (o now : Option Label) (label : Label) → option_map kind now ≡ option_map kind o → now ≡ Some label → Was o label
was None now label same there = absurd (cc (sym (ap (option_map kind) there) ∙ same))
was (Some old) now label same there = record { old = old; there = refl; number = ap (λ k. k.0) kinds; state = ap (λ k. k.1) kinds; flow = ap (λ k. k.2) kinds }
  where
    one_kind : (x y : ℕ × LabelState × FlowId) → Some x ≡ Some y → x ≡ y
    one_kind x y e = cc

    kinds : kind label ≡ kind old
    kinds = one_kind (kind label) (kind old) (sym (ap (option_map kind) there) ∙ same)

-- *A label is held*, offered for the flow, and joined so
pub record IsHeld (c : Controller) (x : End) (flow : FlowId) (join : Option End) : Type 0 where
  pub label : Label
  pub there : label_on c x ≡ Some label
  pub offered : label.state ≡ Offered
  pub of_flow : label.flow ≡ flow
  pub joined : label.join ≡ join

-- *A grant is held*, of the flow
abbrev pub granted : Controller → PortNo → List Grant
granted c port = option_map_or (λ (l : Linked). l.port.grants) (linked_at c port) []

pub record IsGranted (c : Controller) (port : PortNo) (number : ℕ) (flow : FlowId) (state : GrantState) : Type 0 where
  pub grant : Grant
  pub held : at grant_label number (granted c port) ≡ Some grant
  pub of_flow : grant.flow ≡ flow
  pub is : grant.state ≡ state

one_label : (x y : Label) → Some x ≡ Some y → x ≡ y
one_label x y e = cc

one_grant : (x y : Grant) → Some x ≡ Some y → x ≡ y
one_grant x y e = cc

-- labels in one place are one
same_place : (c : Controller) (x y : End) → x.port.0 ≡ y.port.0 → number_of_channel x.channel ≡ number_of_channel y.channel → label_on c x ≡ label_on c y
same_place c x y ports numbers = λ i. option_and_then (λ (l : Linked). label_at l.port (numbers i)) (at port_key (ports i) c.ports)

-- *A join is entered*
module _ (a b : Acted) (input : End) (e : Entered a b input) where
  abbrev joined_one : Label
  joined_one = record e.label { join = Some (label_end e.comes.g.setup.port e.comes.grant.label) }

  abbrev lent_one : Grant
  lent_one = record e.comes.grant { state = ByInput input }

  by_place : {P : Type 0} (x : End) → (x.port.0 ≡ input.port.0 → number_of_channel x.channel ≡ number_of_channel input.channel → P) → (IsElse x input → P) → P
  by_place x same other = by_eq x.port.0 input.port.0
      (λ ports t. by_eq (number_of_channel x.channel) (number_of_channel input.channel) (λ numbers u. same ports numbers) (λ apart u. other (inr apart)))
      (λ apart t. other (inl apart))

  entered_labels : LabelsStay a.controller b.controller
  entered_labels x = by_place x
      (λ ports numbers. ap (option_map kind) (same_place b.controller x input ports numbers ∙ e.entered.own)
      ∙ sym (ap (option_map kind) (same_place a.controller x input ports numbers ∙ e.there)))
      (λ other. ap (option_map kind) (e.entered.others x other))

  -- a label but its own is as it was
  entered_held : (x : End) (flow : FlowId) (join : Option End) (h : IsHeld a.controller x flow join) → (e.label ≡ h.label → ⊥) → IsHeld b.controller x flow join
  entered_held x flow join h never = by_place x
      (λ ports numbers. absurd (never (one_label e.label h.label (sym e.there ∙ (sym (same_place a.controller x input ports numbers) ∙ h.there)))))
      (λ other. record { label = h.label; there = e.entered.others x other ∙ h.there; offered = h.offered; of_flow = h.of_flow; joined = h.joined })

  -- and a grant but its own
  entered_granted : (port : PortNo) (number : ℕ) (flow : FlowId) (state : GrantState) (h : IsGranted a.controller port number flow state) → (e.comes.grant ≡ h.grant → ⊥)
      → IsGranted b.controller port number flow state
  entered_granted port number flow state h never = by_eq port.0 (port_key e.comes.g)
      (λ same t. by_eq (grant_label e.comes.grant) number
      (λ its u. absurd (never (one_grant e.comes.grant h.grant (sym (in_place same its) ∙ h.held))))
      (λ apart u. record {
        grant = h.grant;
        held = ap (at grant_label number) (e.entered.own_grants port same) ∙ (at_put_other grant_label lent_one number (granted a.controller port) apart ∙ h.held);
        of_flow = h.of_flow;
        is = h.is;
      }))
      (λ apart t. record { grant = h.grant; held = ap (at grant_label number) (e.entered.other_grants port apart) ∙ h.held; of_flow = h.of_flow; is = h.is })
    where
      in_place : port.0 ≡ port_key e.comes.g → grant_label e.comes.grant ≡ number → at grant_label number (granted a.controller port) ≡ Some e.comes.grant
      in_place same its = ap (λ (o : Option Linked). at grant_label number (option_map_or (λ (l : Linked). l.port.grants) o [])) (ap (λ n. at port_key n a.controller.ports) same ∙ e.comes.there)
          ∙ (ap (λ n. at grant_label n e.comes.g.port.grants) (sym its) ∙ e.comes.granted)

  -- its own wasn't joined
  was_unjoined : is_none e.label.join ≡ true
  was_unjoined = and_second (is_offered e.label.state) (is_none e.label.join) (and_first (is_offered e.label.state && is_none e.label.join)
      (not (on_input a.controller.desk input) && (nat_lt (length a.controller.desk.standing) most_asked && route_stays a.controller (flow_destination e.label.flow))) e.may)

  pub turn_joined : (x : End) (flow : FlowId) (output : End) → IsHeld a.controller x flow (Some output) → IsHeld b.controller x flow (Some output)
  turn_joined x flow output h = entered_held x flow (Some output) h
      (λ same. true≢false (sym was_unjoined ∙ ap (λ (o : Option End). is_none o) (ap (λ (l : Label). l.join) same ∙ h.joined)))

  -- its route led to a port
  pub turn_last : (x : End) (flow : FlowId) → best a.controller.table (flow_destination flow) ≡ Some Local → IsHeld a.controller x flow None → IsHeld b.controller x flow None
  turn_last x flow route h = entered_held x flow None h
      (λ same. none e.comes.port (sym (ap port_by route)
      ∙ (ap (λ (f : FlowId). port_by (best a.controller.table (flow_destination f))) (sym (ap (λ (l : Label). l.flow) same ∙ h.of_flow)) ∙ e.comes.route)))
    where
      none : (port : PortNo) → None ≡ Some port → ⊥
      none port t = cc t

  -- its grant wasn't lent
  pub turn_lent : (port : PortNo) (number : ℕ) (flow : FlowId) (other : End) → IsGranted a.controller port number flow (ByInput other) → IsGranted b.controller port number flow (ByInput other)
  turn_lent port number flow other h = entered_granted port number flow (ByInput other) h
      (λ same. true≢false (sym e.comes.own ∙ ap is_by_controller (ap (λ (g : Grant). g.state) same ∙ h.is)))

  -- and its flow led to its grant
  pub turn_first : (port : PortNo) (number : ℕ) (flow : FlowId) → 1 < flow_ttl flow → (e.label.flow ≡ flow → ⊥) → IsGranted a.controller port number (one_hop flow) ByController
      → IsGranted b.controller port number (one_hop flow) ByController
  turn_first port number flow more apart h = entered_granted port number (one_hop flow) ByController h
      (λ same. apart (next_was e.label.flow flow more (e.comes.hop ∙ ap (λ (f : FlowId). Some f)
      (sym (one_flow e.comes.grant.flow e.comes.next e.comes.as_flow) ∙ (ap (λ (g : Grant). g.flow) same ∙ h.of_flow)))))

-- *All joins are tried*
module _ (P : Controller → Type 0) (step : (a b : Acted) (input : End) → Entered a b input → P a.controller → P b.controller) where
  turn_keeps : (a b : Acted) (input : End) → Turned a input b → P a.controller → P b.controller
  turn_keeps a b input (passed never) h = h
  turn_keeps a b input (joins_one b2 e) h = step a b2 input e h

  pub tries_keep : (inputs : List End) (a : Acted) → HasTurns a (length inputs) → P a.controller → P (fold tries_join a inputs).controller
  tries_keep [] a has h = h
  tries_keep (input ∷ inputs) a has h =
      let b : Acted = tries_join a input in
      tries_keep inputs b (turns_then a input (length inputs) has) (turn_keeps a b input (its_turn a input (length inputs) has) h)

turn_labels : (a b : Acted) (input : End) → Turned a input b → LabelsStay a.controller b.controller
turn_labels a b input (passed never) = λ x. refl
turn_labels a b input (joins_one b2 e) = entered_labels a b2 input e

pub tries_labels : (inputs : List End) (a : Acted) → HasTurns a (length inputs) → LabelsStay a.controller (fold tries_join a inputs).controller
tries_labels inputs a has = tries_keep (LabelsStay a.controller) (λ b c input e h. labels_then a.controller b.controller c.controller h (entered_labels b c input e)) inputs a has (λ x. refl)

-- *A flow begins there*: no label on these inputs is of it
abbrev pub BeginsOn : Controller → FlowId → End → Type 0
BeginsOn c flow x = (label : Label) → label_on c x ≡ Some label → label.flow ≢ flow

pub begins_still : (a b : Controller) (flow : FlowId) (inputs : List End) → LabelsStay a b → Every (BeginsOn a flow) inputs → Every (BeginsOn b flow) inputs
begins_still a b flow inputs stay begins = every_map (BeginsOn a flow) (BeginsOn b flow) inputs
    (λ x before label there same. each x before (was (label_on a x) (label_on b x) label (stay x) there) same) begins
  where
    each : (x : End) → BeginsOn a flow x → {label : Label} → (o : Was (label_on a x) label) → label.flow ≡ flow → ⊥
    each x before o same = before o.old o.there (sym o.flow ∙ same)

module _ (port : PortNo) (number : ℕ) (flow : FlowId) (more : 1 < flow_ttl flow) where
  abbrev IsOwn : Controller → Type 0
  IsOwn c = IsGranted c port number (one_hop flow) ByController

  own_turn : (a b : Acted) (input : End) → Turned a input b → BeginsOn a.controller flow input → IsOwn a.controller → IsOwn b.controller
  own_turn a b input (passed never) begins h = h
  own_turn a b input (joins_one b2 e) begins h = turn_first a b2 input e port number flow more (begins e.label e.there) h

  pub tries_own : (inputs : List End) (a : Acted) → HasTurns a (length inputs) → Every (BeginsOn a.controller flow) inputs → IsOwn a.controller
      → IsOwn (fold tries_join a inputs).controller
  tries_own [] a has begins h = h
  tries_own (input ∷ inputs) a has begins h =
      let b : Acted = tries_join a input in
      let turn : Turned a input b = its_turn a input (length inputs) has in
      tries_own inputs b (turns_then a input (length inputs) has) (begins_still a.controller b.controller flow inputs (turn_labels a b input turn) begins.1)
      (own_turn a b input turn begins.0 h)
