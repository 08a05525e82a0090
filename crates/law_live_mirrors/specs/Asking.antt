-- A controller asks for the branches of labels, of grants and of joins, and its inputs are mirrored still

use Rattle.std.specs.Prelude.{◌≡◌, ◌≢◌, ℕ, ◌<◌, true, false, List, [], ◌∷◌, ◌++◌, length, fold, None, Some}
use Rattle.world_model.specs.Words.{End, Branches, Addr, Instance, FlowId, Request, AddBranch, Redirect, label_channel_of, at, last_transaction, all_on, Desk, label_end, control_end, Label, label_number, label_at, labels_of, Grant, grant_label, is_leaving, most_grants, Session, Work, Action, Say, Note, put, has_room, is_estab, hears, Linked, port_key, linked_at, begins, Rule, at_port, counted_at, tries_join}
use Rattle.world_model.specs.port_model.Desk.{asked}
use Rattle.world_model.specs.Controller.{Acted}
use Rattle.law_port_facts.specs.ordered_lists.Ordered.{Every, InOrder}
use Rattle.law_live_labels.specs.Law.{IsTaken}
use Rattle.law_live_mirrors.specs.Mirrors.{is_labels, standing_on, Mirrors}
use Rattle.law_live_mirrors.specs.Standing.{LeadAlike}

-- *It asks these requests*, in order, and its inputs are mirrored with them last on the way
pub record AsksMirrored (a after : Acted) (requests : List Request) : Type 0 where
  pub desk : after.controller.desk ≡ fold asked a.controller.desk requests
  pub mirrors : (branches : Branches) (way : List Request) (input : End) → Mirrors a.controller.ports a.controller.desk branches way input
      → Mirrors after.controller.ports after.controller.desk branches (way ++ requests) input

pub record KeepsMirrors (a after : Acted) : Type 0 where
  pub requests : List Request
  pub asks : AsksMirrored a after requests

-- it is in Estab with its switch, and has a transaction number left
pub record CanAsk (a : Acted) : Type 0 where
  pub up : is_estab a.controller.adjacency.state ≡ true
  pub number_left : a.controller.desk.next < last_transaction

-- *A port works*, says and has noted what it will, and asks nothing: its inputs are mirrored still where it leads them alike
abbrev pub IsPlain : Action → Type 0
IsPlain (Say message) = Unit {0}
IsPlain (Note item) = Unit {0}
IsPlain action = ⊥

pub record WorksPlainly (a : Acted) (linked : Linked) (w : Work) : Type 0 where
  pub plain : Every IsPlain w.actions
  pub alike : (input : End) → LeadAlike a.controller.ports (put port_key (record linked { port = w.port }) a.controller.ports) input

abbrev pub PlainWorkKeepsMirrors : Type 0
PlainWorkKeepsMirrors = (a : Acted) (linked : Linked) (rule : Rule) → linked_at a.controller linked.setup.port ≡ Some linked
    → WorksPlainly a linked (rule linked.setup a.controller.desk (begins a linked)) → AsksMirrored a (at_port a linked.setup.port rule) []

-- nothing that stands concerns an input
abbrev pub IsFree : Desk → End → Type 0
IsFree desk input = standing_on desk input ≡ []

-- *A packet is counted* at a port of a link: a label may be wired. Nothing stands on the input of a spare one
pub record MayWire (a : Acted) (linked : Linked) : Type 0 where
  pub can : CanAsk a
  pub of_link : linked.setup.port.0 ≢ 0
  pub there : linked_at a.controller linked.setup.port ≡ Some linked
  pub ascend : InOrder (λ (x y : Label). label_number x < label_number y) (labels_of linked.port)
  pub free : (number : ℕ) → label_at linked.port number ≡ None → IsFree a.controller.desk (label_end linked.setup.port number)

abbrev pub PacketsKeepMirrors : Type 0
PacketsKeepMirrors = (a : Acted) (linked : Linked) (packet : List ℕ) → MayWire a linked → KeepsMirrors a (counted_at a linked.setup.port packet)

-- *A REDIRECT is taken*: a grant is made, and its branch asked for; or it has its lifetime anew
pub record Takes (a : Acted) (linked : Linked) (s : Session) (source : Addr) (sender peer : Instance) (number label : ℕ) : Type 0 where
  pub can : CanAsk a
  pub there : linked_at a.controller linked.setup.port ≡ Some linked
  pub taken : IsTaken linked.setup (begins a linked) s source sender peer number label

abbrev pub GrantsKeepMirrors : Type 0
GrantsKeepMirrors = (a : Acted) (linked : Linked) (s : Session) (source : Addr) (sender peer : Instance) (number label lifetime : ℕ) (flow : FlowId)
    → Takes a linked s source sender peer number label → at grant_label label linked.port.grants ≡ None → length linked.port.grants < most_grants
    → has_room a.controller.desk (begins a linked) ≡ true → IsFree a.controller.desk (control_end linked.setup.port label)
    → AsksMirrored a (at_port a linked.setup.port (λ setup desk w. hears setup desk w source (Redirect sender peer number lifetime (label_channel_of label) flow)))
    (AddBranch (control_end linked.setup.port label) (label_end linked.setup.port label) ∷ [])

abbrev pub RefreshesKeepMirrors : Type 0
RefreshesKeepMirrors = (a : Acted) (linked : Linked) (s : Session) (source : Addr) (sender peer : Instance) (number lifetime : ℕ) (grant : Grant)
    → Takes a linked s source sender peer number grant.label → at grant_label grant.label linked.port.grants ≡ Some grant → is_leaving grant.state ≡ false
    → AsksMirrored a (at_port a linked.setup.port (λ setup desk w. hears setup desk w source (Redirect sender peer number lifetime (label_channel_of grant.label) grant.flow))) []

-- *A join is tried* on the channel of a label, of whose port no Delete All stands; no two grants of a port are of one label
pub record MayTry (a : Acted) (input : End) : Type 0 where
  pub can : CanAsk a
  pub labels : is_labels input ≡ true
  pub apart : all_on a.controller.desk input.port ≡ false
  pub grants : Every (λ (linked : Linked). InOrder (λ (x y : Grant). grant_label x ≢ grant_label y) linked.port.grants) a.controller.ports

abbrev pub TriesKeepMirrors : Type 0
TriesKeepMirrors = (a : Acted) (input : End) → MayTry a input → KeepsMirrors a (tries_join a input)
