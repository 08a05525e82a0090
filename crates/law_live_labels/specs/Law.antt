-- What the two ends of a link make of one label

use Rattle.std.specs.Prelude.{◌≡◌, ℕ, ◌+◌, ◌<◌, ◌==◌, true, false, min, List, [], ◌∷◌, ◌++◌, length, None, Some}
use Rattle.port_model.specs.Words.{Addr, Instance, AddBranch, label_channel_of, FlowId, Bind, Redirect, at, put, Desk, Setup, is_in_range, label_end, control_end, Label, Wiring, Offered, label_number, Grant, Idle, ByController, grant_label, is_leaving, most_grants, Session, Work, has_room, last_number, own_instance, redirect, takes, hears}
use Rattle.port_model.specs.declared.action.Action.{Action}
use Rattle.port_model.specs.declared.action.Action.TheVariants.{Ask, Note, Say}
use Rattle.port_model.specs.Answers.{done}
use Rattle.port_model.specs.Port.{Port}
use Rattle.port_model.specs.Redirection.{greatest_tally}
use Rattle.port_model.specs.Saying.{peer_instance}

-- *A port of a link at work* in a session
pub record IsWorking (setup : Setup) (w : Work) (s : Session) : Type 0 where
  pub of_link : (setup.port.0 == 0) ≡ false
  pub going : w.halted ≡ false
  pub is_open : w.port.session ≡ Some s

-- it is left so
abbrev pub left : Work → Port → (more : List Action) → Work
left w port more = record w { port = port; actions = w.actions ++ more }

-- *Downstream*: the branch of a label that is being wired is made. The label is offered, and told upstream under the next number
pub record IsWired (setup : Setup) (w : Work) (s : Session) (label : Label) : Type 0 where
  pub working : IsWorking setup w s
  pub in_range : is_in_range setup label.number ≡ true
  pub held : at label_number label.number s.labels ≡ Some label
  pub wiring : label.state ≡ Wiring
  pub number_left : s.number < last_number

abbrev pub offers_label : Setup → Work → Session → Label → Work
offers_label setup w s label = left w
    (record w.port { session = Some (record s { labels = put label_number (record label { state = Offered }) s.labels; number = s.number + 1 }) })
    (Note (Bind setup.node setup.port label.number label.flow)
    ∷ Say (redirect setup label (own_instance w.port.adjacency) (peer_instance w.port.adjacency) s.number) ∷ [])

abbrev pub LabelsAreOffered : Type 0
LabelsAreOffered = (setup : Setup) (w : Work) (s : Session) (label : Label) → IsWired setup w s label
    → done setup w (AddBranch (label_end setup.port label.number) (control_end setup.port label.number)) ≡ offers_label setup w s label

-- *Upstream*: a REDIRECT is taken of a label that the port's range has
pub record IsTaken (setup : Setup) (w : Work) (s : Session) (source : Addr) (sender peer : Instance) (number label : ℕ) : Type 0 where
  pub working : IsWorking setup w s
  pub taken : takes w.port source sender peer number ≡ true
  pub in_range : is_in_range setup label ≡ true

-- the number behind it is expected, the peer was heard, and one more is accepted
abbrev pub accepted : Work → Session → (number : ℕ) → List Grant → Port
accepted w s number grants = record w.port {
  adjacency = record w.port.adjacency { silence = 0 };
  session = Some (record s { expected = number + 1 });
  grants = grants;
  redirects = min greatest_tally (w.port.redirects + 1);
}

-- where the label isn't granted yet, a grant is made, and its branch is asked for
abbrev pub makes_grant : Setup → Work → Session → (number label lifetime : ℕ) → FlowId → Work
makes_grant setup w s number label lifetime flow = left w
    (accepted w s number (w.port.grants ++ record { label = label; flow = flow; lifetime = lifetime; state = Idle } ∷ []))
    (Ask (AddBranch (control_end setup.port label) (label_end setup.port label)) false ∷ [])

abbrev pub GrantsAreMade : Type 0
GrantsAreMade = (setup : Setup) (desk : Desk) (w : Work) (s : Session) (source : Addr) (sender peer : Instance) (number label lifetime : ℕ) (flow : FlowId)
    → IsTaken setup w s source sender peer number label → at grant_label label w.port.grants ≡ None → length w.port.grants < most_grants → has_room desk w ≡ true
    → hears setup desk w source (Redirect sender peer number lifetime (label_channel_of label) flow) ≡ makes_grant setup w s number label lifetime flow

-- *Its branch is made*: the controller sends under it
abbrev pub GrantsAreStarted : Type 0
GrantsAreStarted = (setup : Setup) (w : Work) (s : Session) (grant : Grant) → IsWorking setup w s → is_in_range setup grant.label ≡ true
    → at grant_label grant.label w.port.grants ≡ Some grant → grant.state ≡ Idle
    → done setup w (AddBranch (control_end setup.port grant.label) (label_end setup.port grant.label))
    ≡ left w (record w.port { grants = put grant_label (record grant { state = ByController }) w.port.grants }) []

-- *It is told again*: where the label is granted for the same flow, and that grant isn't leaving, it has the new lifetime
abbrev pub GrantsAreRefreshed : Type 0
GrantsAreRefreshed = (setup : Setup) (desk : Desk) (w : Work) (s : Session) (source : Addr) (sender peer : Instance) (number lifetime : ℕ) (grant : Grant)
    → IsTaken setup w s source sender peer number grant.label → at grant_label grant.label w.port.grants ≡ Some grant → is_leaving grant.state ≡ false
    → hears setup desk w source (Redirect sender peer number lifetime (label_channel_of grant.label) grant.flow)
    ≡ left w (accepted w s number (put grant_label (record grant { lifetime = lifetime }) w.port.grants)) []
