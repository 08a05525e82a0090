-- worked lives of a grant: what the rules make of a label under which a port may send

use Rattle.std.proofs.Common.{◌≡◌, ℕ, true, false, List, [], ◌∷◌, map, Some, refl}
use Rattle.net_types.specs.declared.channel.End.{End}
use Rattle.net_types.specs.Label.{label_channel_of}
use Rattle.gsmp_wire.specs.declared.request.Request.TheVariants.{AddBranch}
use Rattle.ifmp_wire.specs.declared.message.Message.TheVariants.{Redirect, Reclaim, ReclaimAck, LabelRange}
use Rattle.port_model.specs.declared.action.Action.TheVariants.{Say, Ask, TakeBack}
use Rattle.port_model.specs.Desk.{empty_desk}
use Rattle.port_model.specs.Setup.{label_end, control_end}
use Rattle.port_model.specs.Grants.{Grant, GrantState, Idle, ByController, ByInput, Leaving}
use Rattle.port_model.specs.Port.{Port, Work}
use Rattle.port_model.specs.Hearing.{hears}
use Rattle.port_model.specs.Answers.{done}
use Rattle.port_model.specs.Joins.{given_back}
use Rattle.port_model.specs.Ticks.{ticks}
use Rattle.port_model.proofs.Sample.{address, own, far, setup, flow, session, port_with, at_work}

abbrev input : End
input = label_end (record { 0 = 1 }) 40

abbrev grant : (lifetime : ℕ) → GrantState → Grant
grant lifetime state = record { label = 32; flow = flow; lifetime = lifetime; state = state }

abbrev states : Port → List GrantState
states port = map (λ (g : Grant). g.state) port.grants

abbrev granted : (lifetime : ℕ) → GrantState → Work
granted lifetime state = at_work (port_with (Some (session 5 1 [])) (grant lifetime state ∷ []))

-- *Redirect*: a new grant is idle until its branch is made
abbrev accepted : Work
accepted = hears setup empty_desk (at_work (port_with (Some (session 5 1 [])) [])) (address 2) (Redirect far own 1 60 (label_channel_of 32) flow)

accepted_is : (accepted.port.grants ≡ grant 60 Idle ∷ []) × (accepted.port.redirects ≡ 1)
    × (accepted.actions ≡ Ask (AddBranch (control_end setup.port 32) (label_end setup.port 32)) false ∷ [])
accepted_is = (refl, refl, refl)

started_is : states (done setup accepted (AddBranch (control_end setup.port 32) (label_end setup.port 32))).port ≡ ByController ∷ []
started_is = refl

-- a label outside the range is answered by LABEL RANGE
out_of_range_is : (hears setup empty_desk (granted 60 Idle) (address 2) (Redirect far own 1 60 (label_channel_of 34) flow)).actions
    ≡ Say (LabelRange own far 5 (label_channel_of 32) (label_channel_of 33)) ∷ []
out_of_range_is = refl

-- a number below the expected one is ignored
ignored_is : hears setup empty_desk (granted 60 Idle) (address 2) (Redirect far own 0 60 (label_channel_of 34) flow) ≡ granted 60 Idle
ignored_is = refl

-- *A lifetime of 1* ends at the next tick; where the grant is lent, its join is taken back
ended_is : (ticks setup empty_desk (granted 1 ByController)).port.grants ≡ []
ended_is = refl

abbrev expired : Work
expired = ticks setup empty_desk (granted 1 (ByInput input))

expired_is : states expired.port ≡ Leaving input false ∷ []
expired_is = refl

aged_is : (ticks setup empty_desk (granted 2 ByController)).port.grants ≡ grant 1 ByController ∷ []
aged_is = refl

-- *Reclaim of a lent grant*: its join is taken back and nothing is said; a second RECLAIM says nothing; when the
-- input is released, RECLAIM ACK is said
abbrev reclaimed : Work
reclaimed = hears setup empty_desk (granted 60 (ByInput input)) (address 2) (Reclaim far own 1 (label_channel_of 32) flow)

reclaimed_is : (states reclaimed.port ≡ Leaving input true ∷ [])
    × (reclaimed.actions ≡ TakeBack input (label_end setup.port 32) ∷ [])
reclaimed_is = (refl, refl)

again_is : (hears setup empty_desk (at_work reclaimed.port) (address 2) (Reclaim far own 2 (label_channel_of 32) flow)).actions ≡ []
again_is = refl

abbrev released : Work
released = given_back (at_work reclaimed.port) (grant 60 (Leaving input true))

released_is : (released.port.grants ≡ []) × (released.actions ≡ Say (ReclaimAck own far 5 (label_channel_of 32) flow) ∷ [])
released_is = (refl, refl)
