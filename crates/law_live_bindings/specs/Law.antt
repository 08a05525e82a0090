-- Two ends of a link while labels are being bound, up to where both agree at rest

use Rattle.std.specs.Prelude.{◌≡◌, ℕ, ◌≤◌, ◌<◌, ◌⊎◌, false, true, List, [], ◌∷◌, length, None, Some, is_some}
use Rattle.live_model.specs.world_model.Words.{AddBranch, FlowId, Timers, at, Desk, Setup, is_in_range, label_end, control_end, Label, Wiring, Offered, label_number, labels_of, lowest_spare, Grant, ByController, grant_label, most_grants, Session, Work, label_at, has_room, last_number, redirect, counts}
use Rattle.live_model.specs.world_model.gsmp_wire.declared.request.Request.{Request}
use Rattle.live_model.specs.world_model.ifmp_wire.declared.message.Message.{Message}
use Rattle.live_model.specs.world_model.port_model.declared.action.Action.{Action}
use Rattle.live_model.specs.world_model.port_model.declared.action.Action.TheVariants.{Ask}
use Rattle.live_model.specs.world_model.port_model.Answers.{done}
use Rattle.live_model.specs.world_model.port_model.Port.{Port}
use Rattle.live_model.specs.Met.{HaveMet}
use Rattle.law_port_facts.specs.ordered_lists.Ordered.{Every}
use Rattle.law_live_counts.specs.Law.{OffersFrom, IsReady, AreOf, counts_each}
use Rattle.law_live_nodes.specs.Law.{told_by}
use Rattle.law_live_links.specs.Law.{EndOfLink, number_of, expected_of, LeadOn, IsOf, IsToldAnew, IsHeld, IsEnd, AreAgreed, AreAtRest, IsAgreedOn, working, left_by, hearing, heard_by}
use Rattle.law_live_unseen.specs.Law.{AreAlike}

-- *A label is new*, of which the other end has no grant yet: its branch is being made, and it was never told; or it is offered, and
-- a REDIRECT of it is on its way
pub record IsNew (timers : Timers) (taker : Setup) (grants : List Grant) (said : List Message) (label : Label) : Type 0 where
  pub young : label.ticks < timers.refresh
  pub in_range : is_in_range taker label.number ≡ true
  pub ungranted : at grant_label label.number grants ≡ None
  pub comes : ((label.state ≡ Wiring) × (IsToldAnew label.number said → ⊥)) ⊎ ((label.state ≡ Offered) × IsToldAnew label.number said)

abbrev pub IsHeldOrNew : Timers → (taker : Setup) → List Grant → (said : List Message) → Label → Type 0
IsHeldOrNew timers taker grants said label = IsHeld timers taker grants said label ⊎ IsNew timers taker grants said label

-- *They bind*: they agree, but for labels that are new
pub record AgreeBinding (giver taker : EndOfLink) : Type 0 where
  pub numbers : LeadOn giver.port.adjacency.own taker.port.adjacency.own giver.setup.timers (labels_of giver.port) (expected_of taker.port) (number_of giver.port) giver.said
  pub labels : Every (IsHeldOrNew giver.setup.timers taker.setup taker.port.grants giver.said) (labels_of giver.port)
  pub grants : Every (λ (grant : Grant). is_some (at label_number grant.label (labels_of giver.port)) ≡ true) taker.port.grants
  pub heard : (taker.port.adjacency.silence ≡ 0) ⊎ (giver.said ≡ [] → ⊥)

pub record AreBinding (one other : EndOfLink) : Type 0 where
  pub met : HaveMet one.port.adjacency other.port.adjacency
  pub one_end : IsEnd one
  pub other_end : IsEnd other
  pub there : AgreeBinding one other
  pub back : AgreeBinding other one

-- so do two ends that agree; and two that bind agree once nothing is on its way and no branch of a label is being made
abbrev pub AgreedEndsBind : Type 0
AgreedEndsBind = (one other : EndOfLink) → AreAgreed one other → AreBinding one other

abbrev pub NoneIsWiring : EndOfLink → Type 0
NoneIsWiring e = Every (λ (label : Label). label.state ≡ Wiring → ⊥) (labels_of e.port)

abbrev pub BindingsAreAgreed : Type 0
BindingsAreAgreed = (one other : EndOfLink) → AreBinding one other → one.said ≡ [] → other.said ≡ [] → NoneIsWiring one → NoneIsWiring other
    → AreAtRest one other

-- what the other end doesn't see leaves that
abbrev pub LikePortsBind : Type 0
LikePortsBind = (one other : EndOfLink) (port : Port) → AreBinding one other → AreAlike one.port port → AreBinding (record one { port = port }) other

-- *They bind on*, where one is left so: it wasn't reset, acted so, and what it said is on its way
pub record BindOn (one other : EndOfLink) (w : Work) (AreSo : List Action → Type 0) : Type 0 where
  pub going : w.halted ≡ false
  pub acts : AreSo w.actions
  pub binding : AreBinding (left_by one w) other

-- the branch of a label, from the other end to the controller; and that of a grant, from the controller to the other end
abbrev pub label_branch : Setup → (number : ℕ) → Request
label_branch setup number = AddBranch (label_end setup.port number) (control_end setup.port number)

abbrev pub grant_branch : Setup → (number : ℕ) → Request
grant_branch setup number = AddBranch (control_end setup.port number) (label_end setup.port number)

-- at most one such branch is asked, and nothing is said
pub data AskAtMost (branch : (number : ℕ) → Request) : List Action → Type 0 where
  none : AskAtMost branch []
  some : (number : ℕ) → AskAtMost branch (Ask (branch number) false ∷ [])

-- *A packet is counted*: a label may be taken, if it is one that the other end takes too
abbrev pub TakesInRange : EndOfLink → (taker : Setup) → Type 0
TakesInRange e taker = (s : Session) (number : ℕ) → e.port.session ≡ Some s → lowest_spare e.setup s.least s.greatest s.labels ≡ Some number
    → is_in_range taker number ≡ true

abbrev pub CountingKeepsBinding : Type 0
CountingKeepsBinding = (desk : Desk) (instances : ℕ) (one other : EndOfLink) (packet : List ℕ) → AreBinding one other → TakesInRange one other.setup
    → BindOn one other (counts one.setup desk (working instances one) packet) (AskAtMost (label_branch one.setup))

-- *The branch of a label is made*, and numbers are left: its REDIRECT is on its way
abbrev pub told_of : (one other : EndOfLink) → Label → Message
told_of one other label = redirect one.setup label one.port.adjacency.own.instance other.port.adjacency.own.instance (number_of one.port)

abbrev pub OffersKeepBinding : Type 0
OffersKeepBinding = (instances : ℕ) (one other : EndOfLink) (label : Label) → AreBinding one other → label_at one.port label.number ≡ Some label
    → label.state ≡ Wiring → number_of one.port < last_number
    → BindOn one other (done one.setup (working instances one) (label_branch one.setup label.number)) (λ actions. told_by actions ≡ told_of one other label ∷ [])

-- *The first that is on its way is heard*, where there is room for a grant and for a request, if it is of a label that isn't
-- granted yet
abbrev pub HasRoomFor : Desk → (instances : ℕ) → EndOfLink → Message → Type 0
HasRoomFor desk instances e message = (number : ℕ) → IsOf number message → at grant_label number e.port.grants ≡ None
    → (length e.port.grants < most_grants) × (has_room desk (working instances e) ≡ true)

abbrev pub HearingKeepsBinding : Type 0
HearingKeepsBinding = (desk : Desk) (instances : ℕ) (one other : EndOfLink) (message : Message) (rest : List Message) → AreBinding one other
    → other.said ≡ message ∷ rest → HasRoomFor desk instances one message
    → BindOn one (record other { said = rest }) (hearing desk instances other.port.adjacency.own.address one message) (AskAtMost (grant_branch one.setup))

-- *A flow is bound*: packets of it are counted, as many as the policy asks for; the branch of its label is made; the other end
-- hears of it, and the branch of its grant is made
pub record MayBind (desk far_desk : Desk) (instances far_instances : ℕ) (one other : EndOfLink) (flow : FlowId) (wanted number : ℕ) : Type 0 where
  pub policy : OffersFrom one.setup.policy flow wanted
  pub ready : IsReady one.setup desk (working instances one) flow number
  pub in_range : is_in_range other.setup number ≡ true
  pub number_left : number_of one.port < last_number
  pub few : length other.port.grants < most_grants
  pub room : has_room far_desk (working far_instances other) ≡ true

abbrev pub counted : Desk → (instances : ℕ) → EndOfLink → (packets : List (List ℕ)) → EndOfLink
counted desk instances e packets = left_by e (counts_each e.setup desk (working instances e) packets)

abbrev pub answered : (instances : ℕ) → EndOfLink → Request → EndOfLink
answered instances e request = left_by e (done e.setup (working instances e) request)

-- then both are at rest, and agree on a label of this number for the flow, under which the other end sends
pub record AreBound (one other : EndOfLink) (flow : FlowId) (number : ℕ) : Type 0 where
  pub at_rest : AreAtRest one other
  pub label : Label
  pub held : label_at one.port number ≡ Some label
  pub same_flow : label.flow ≡ flow
  pub agreed : IsAgreedOn one other label
  pub by_controller : agreed.grant.state ≡ ByController

-- one thing was said meanwhile, which the other end heard
pub record HearsAndBinds (far_desk : Desk) (far_instances : ℕ) (one other : EndOfLink) (flow : FlowId) (number : ℕ) : Type 0 where
  pub message : Message
  pub said : one.said ≡ message ∷ []
  pub bound : AreBound (record one { said = [] })
      (answered far_instances (heard_by far_desk far_instances one.port.adjacency.own.address other message) (grant_branch other.setup number)) flow number

abbrev pub FlowsAreBound : Type 0
FlowsAreBound = (desk far_desk : Desk) (instances far_instances : ℕ) (one other : EndOfLink) (flow : FlowId) (wanted number : ℕ) (packets : List (List ℕ))
    → AreAtRest one other → MayBind desk far_desk instances far_instances one other flow wanted number → AreOf flow packets → wanted ≤ length packets
    → HearsAndBinds far_desk far_instances (answered instances (counted desk instances one packets) (label_branch one.setup number)) other flow number
