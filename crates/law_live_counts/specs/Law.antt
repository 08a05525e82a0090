-- As many packets of a flow as the policy asks for make a port ask for one label

use Rattle.std.specs.Prelude.{◌≡◌, ℕ, ◌≤◌, ◌<◌, true, false, List, [], ◌∷◌, ◌++◌, length, fold, None, Some}
use Rattle.port_model.specs.Words.{FlowId, AddBranch, entered, key_le, Desk, Policy, Setup, label_end, control_end, Label, Wiring, label_number, label_for, lowest_spare, packets_in, Session, Work, label_at, has_room, packet_flow, counts}
use Rattle.port_model.specs.declared.action.Action.TheVariants.{Ask}
use Rattle.port_model.specs.Counts.{Counted, greatest_count, counted_of}
use Rattle.law_port_facts.specs.ordered_lists.Ordered.{Every}

-- *The policy* offers the flow a label from so many packets on
pub record OffersFrom (policy : Policy) (flow : FlowId) (packets : ℕ) : Type 0 where
  pub some : 1 ≤ packets
  pub few : packets ≤ greatest_count
  pub not_yet : (count : ℕ) → count < packets → policy.offers flow count ≡ false
  pub from_then_on : (count : ℕ) → packets ≤ count → policy.offers flow count ≡ true

-- *A port at work* in session serves the flow by no label, has counted none of its packets, and has this label to spare
pub record IsReady (setup : Setup) (desk : Desk) (w : Work) (flow : FlowId) (number : ℕ) : Type 0 where
  pub going : w.halted ≡ false
  pub session : Session
  pub is_open : w.port.session ≡ Some session
  pub unserved : label_for session.labels flow ≡ None
  pub uncounted : counted_of session.counted flow ≡ None
  pub spare : lowest_spare setup session.least session.greatest session.labels ≡ Some number
  pub room : has_room desk w ≡ true

-- *Packets of the flow come*, one after another
abbrev pub AreOf : FlowId → List (List ℕ) → Type 0
AreOf flow packets = Every (λ packet. packet_flow packet ≡ Some flow) packets

abbrev pub counts_each : Setup → Desk → Work → List (List ℕ) → Work
counts_each setup desk w packets = fold (counts setup desk) w packets

-- too few are counted, and nothing is asked
pub record HasCounted (before after : Work) (flow : FlowId) (packets : ℕ) : Type 0 where
  pub session : Session
  pub is_open : after.port.session ≡ Some session
  pub counted : packets_in session.counted flow ≡ packets
  pub unserved : label_for session.labels flow ≡ None
  pub nothing_asked : after.actions ≡ before.actions

-- *The label is taken*: it is being wired for the flow, and its branch is asked. Nothing else changes, but what is counted
abbrev pub wiring_for : FlowId → (number : ℕ) → Label
wiring_for flow number = record { number = number; state = Wiring; flow = flow; idle = 0; ticks = 0; join = None }

abbrev pub takes_label : Setup → Work → Session → FlowId → (number : ℕ) → List Counted → Work
takes_label setup w s flow number counts = record w {
  port = record w.port {
    session = Some (record s { counted = counts; labels = entered (key_le label_number) (wiring_for flow number) s.labels });
  };
  actions = w.actions ++ Ask (AddBranch (label_end setup.port number) (control_end setup.port number)) false ∷ [];
}

-- by enough one thing is asked
pub record HasAsked (setup : Setup) (before after : Work) (session : Session) (flow : FlowId) (number : ℕ) : Type 0 where
  pub asked_once : after.actions ≡ before.actions
      ++ Ask (AddBranch (label_end setup.port number) (control_end setup.port number)) false ∷ []
  pub wired : label_at after.port number ≡ Some (wiring_for flow number)
  pub counts : List Counted
  pub left : after ≡ takes_label setup before session flow number counts

pub record AsksOnce (setup : Setup) (desk : Desk) (w : Work) (session : Session) (flow : FlowId) (wanted number : ℕ) : Type 0 where
  pub too_few : (packets : List (List ℕ)) → AreOf flow packets → length packets < wanted
      → HasCounted w (counts_each setup desk w packets) flow (length packets)
  pub enough : (packets : List (List ℕ)) → AreOf flow packets → wanted ≤ length packets
      → HasAsked setup w (counts_each setup desk w packets) session flow number

abbrev pub FlowsAskOnce : Type 0
FlowsAskOnce = (setup : Setup) (desk : Desk) (w : Work) (flow : FlowId) (wanted number : ℕ) → OffersFrom setup.policy flow wanted
    → (ready : IsReady setup desk w flow number) → AsksOnce setup desk w ready.session flow wanted number
