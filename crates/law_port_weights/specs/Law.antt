-- No rule of a port makes it heavier than what came pays for: a message that it hears, a packet that it counts

use Rattle.std.specs.Prelude.{◌≡◌, ℕ, ◌≤◌, ◌+◌, List, Some}
use Rattle.claims_model.specs.world_model.Words.{Addr, FlowId, Request, at, Desk, Setup, Label, label_for, Grant, grant_label, Session, Work, label_at, counts, used, hears, parted, given_back}
use Rattle.claims_model.specs.world_model.ifmp_wire.declared.message.Message.{Message}
use Rattle.claims_model.specs.world_model.port_model.Answers.{done}
use Rattle.claims_model.specs.Costs.{message_cost, offer_weight}
use Rattle.law_port_weights.specs.Works.{work_weight}

-- so much heavier at most
abbrev pub IsPaid : (changes count : ℕ) → (before after : Work) → Type 0
IsPaid changes count before after = work_weight changes after ≤ work_weight changes before + count

abbrev pub HearingIsPaid : Type 0
HearingIsPaid = (changes : ℕ) (setup : Setup) (desk : Desk) (w : Work) (source : Addr) (message : Message)
    → IsPaid changes (message_cost message) w (hears setup desk w source message)

-- a packet of the default channel may have a label wired; the label that serves a flow is the one of its number
abbrev pub ServesOnce : Work → Type 0
ServesOnce w = (s : Session) (flow : FlowId) (label : Label) → w.port.session ≡ Some s → label_for s.labels flow ≡ Some label
    → label_at w.port label.number ≡ Some label

abbrev pub CountingIsPaid : Type 0
CountingIsPaid = (changes : ℕ) (setup : Setup) (desk : Desk) (w : Work) (packet : List ℕ) → ServesOnce w
    → IsPaid changes offer_weight w (counts setup desk w packet)

abbrev pub UseIsFree : Type 0
UseIsFree = (changes : ℕ) (w : Work) (number : ℕ) → IsPaid changes 0 w (used w number)

-- answers of the switch, and joins that are released
abbrev pub AnswersAreFree : Type 0
AnswersAreFree = (changes : ℕ) (setup : Setup) (w : Work) (request : Request) → IsPaid changes 0 w (done setup w request)

abbrev pub PartingIsFree : Type 0
PartingIsFree = (changes : ℕ) (w : Work) (number : ℕ) → IsPaid changes 0 w (parted w number)

abbrev pub GivingBackIsFree : Type 0
GivingBackIsFree = (changes : ℕ) (w : Work) (grant : Grant) → at grant_label grant.label w.port.grants ≡ Some grant
    → IsPaid changes 0 w (given_back w grant)
