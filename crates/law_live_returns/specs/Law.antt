-- How a label that the upstream end refuses comes back, where the downstream end holds no other

use Rattle.std.specs.Prelude.{◌≡◌, ℕ, ◌+◌, ◌<◌, ◌≤◌, true, false, max, [], ◌∷◌, None, Some}
use Rattle.port_model.specs.Words.{Addr, Instance, Channel, label_channel_of, is_label_number, FlowId, DeleteTree, Free, LabelRange, Reclaim, ReclaimAck, Redirect, at, Desk, on_input, Setup, is_between, is_in_range, label_end, Label, Offered, Recalled, Wired, grant_label, Session, Work, has_room, last_number, own_instance, label_range, narrowed, reclaim, reclaim_ack, takes, learns, hears}
use Rattle.port_model.specs.declared.action.Action.TheVariants.{Ask, CutChain, Note, Say}
use Rattle.port_model.specs.Answers.{done}
use Rattle.port_model.specs.Port.{Port}
use Rattle.port_model.specs.Saying.{peer_instance}
use Rattle.law_live_labels.specs.Law.{IsWorking, left}

-- *A message is taken*, and the port can say one
pub record IsHeard (setup : Setup) (w : Work) (s : Session) (source : Addr) (sender peer : Instance) (number : ℕ) : Type 0 where
  pub working : IsWorking setup w s
  pub taken : takes w.port source sender peer number ≡ true
  pub number_left : s.number < last_number

-- the peer was heard, and the session is this
abbrev pub heard_port : Work → Session → Port
heard_port w s = record w.port { adjacency = record w.port.adjacency { silence = 0 }; session = Some s }

-- *Upstream*: a REDIRECT of a label outside the range
abbrev pub RangesAreTold : Type 0
RangesAreTold = (setup : Setup) (desk : Desk) (w : Work) (s : Session) (source : Addr) (sender peer : Instance) (number label lifetime : ℕ) (flow : FlowId)
    → IsHeard setup w s source sender peer number → is_label_number label ≡ true → is_in_range setup label ≡ false
    → hears setup desk w source (Redirect sender peer number lifetime (label_channel_of label) flow)
    ≡ left w (heard_port w (record s { expected = number + 1; number = s.number + 1 }))
    (Say (label_range setup (own_instance w.port.adjacency) (peer_instance w.port.adjacency) s.number) ∷ [])

-- *Downstream*: the range is narrowed, and the label outside it is recalled
abbrev pub LabelsAreRecalled : Type 0
LabelsAreRecalled = (setup : Setup) (desk : Desk) (w : Work) (s : Session) (source : Addr) (sender peer : Instance) (number : ℕ) (least greatest : Channel) (label : Label)
    → IsHeard setup w s source sender peer number → s.labels ≡ label ∷ [] → label.state ≡ Offered → label.join ≡ None
    → is_between (narrowed least greatest s).least (narrowed least greatest s).greatest (label_channel_of label.number) ≡ false
    → hears setup desk w source (LabelRange sender peer number least greatest)
    ≡ left w (heard_port w (record (narrowed least greatest s) {
      expected = number + 1;
      number = s.number + 1;
      labels = record label { state = Recalled s.number false } ∷ [];
    }))
    (Say (reclaim label (own_instance w.port.adjacency) (peer_instance w.port.adjacency) s.number) ∷ [])

-- *Upstream*: a RECLAIM of a label that isn't granted
abbrev pub ReclaimsAreAcknowledged : Type 0
ReclaimsAreAcknowledged = (setup : Setup) (desk : Desk) (w : Work) (s : Session) (source : Addr) (sender peer : Instance) (number label : ℕ) (flow : FlowId)
    → IsHeard setup w s source sender peer number → is_label_number label ≡ true → at grant_label label w.port.grants ≡ None
    → hears setup desk w source (Reclaim sender peer number (label_channel_of label) flow)
    ≡ left w (heard_port w (record s { expected = number + 1; number = s.number + 1 }))
    (Say (reclaim_ack (label_channel_of label) flow (own_instance w.port.adjacency) (peer_instance w.port.adjacency) s.number) ∷ [])

-- *Downstream*: the acknowledgement is kept, while the RECLAIM isn't known to be passed
abbrev pub AcksAreKept : Type 0
AcksAreKept = (setup : Setup) (desk : Desk) (w : Work) (s : Session) (source : Addr) (sender peer : Instance) (number last : ℕ) (label : Label)
    → IsHeard setup w s source sender peer number → is_label_number label.number ≡ true → s.labels ≡ label ∷ [] → label.state ≡ Recalled last false → s.known ≤ last
    → hears setup desk w source (ReclaimAck sender peer number (label_channel_of label.number) label.flow)
    ≡ left w (heard_port w (record s { expected = number + 1; labels = record label { state = Recalled last true } ∷ [] })) []

-- and once it is, as an ACK tells, the label is quit: its chain is cut, and Delete Tree of its branch is asked for
abbrev pub LabelsAreQuit : Type 0
LabelsAreQuit = (setup : Setup) (desk : Desk) (w : Work) (s : Session) (last next : ℕ) (label : Label)
    → IsWorking setup w s → w.actions ≡ [] → s.labels ≡ label ∷ [] → label.state ≡ Recalled last true → last < max s.known next
    → on_input desk (label_end setup.port label.number) ≡ false → has_room desk w ≡ true
    → learns setup desk w next
    ≡ left w (record w.port { session = Some (record s { known = max s.known next; labels = record label { state = Wired } ∷ [] }) })
    (CutChain label.number ∷ Ask (DeleteTree (label_end setup.port label.number)) false ∷ [])

-- *Its branch is deleted*: it is spare again
abbrev pub LabelsAreFreed : Type 0
LabelsAreFreed = (setup : Setup) (w : Work) (s : Session) (label : Label) → IsWorking setup w s → is_label_number label.number ≡ true
    → s.labels ≡ label ∷ [] → label.state ≡ Wired
    → done setup w (DeleteTree (label_end setup.port label.number))
    ≡ left w (record w.port { session = Some (record s { labels = [] }) }) (Note (Free setup.node setup.port label.number) ∷ [])
