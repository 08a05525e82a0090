-- What holds of a grant whose lifetime has passed

use Rattle.std.specs.Prelude.{◌≡◌, ℕ, ◌≤◌, ◌+◌, true, false, List, Some, Option}
use Rattle.law_controller.specs.world_model.Words.{PortNo, End, is_led_home, home_of, control_end, Grant, ByInput, is_leaving}
use Rattle.law_controller.specs.world_model.Controller.{Acted}
use Rattle.law_controller.specs.world_model.Ticks.{ticks}
use Rattle.law_controller.specs.law_controller_facts.Inputs.{Input, takes_input, takes_inputs}
use Rattle.law_controller.specs.law_controller_facts.Sound.{Opening, opened_by}
use Rattle.law_controller.specs.Law.{IsOpening}
use Rattle.law_controller.specs.law_controller_facts.claims_model.Expiry.{Sets, reaches_at, has_switch, grant_at, HasEnded, HasLeft, stays_queued, SendsNone, IsConduct, EndsByReset}
use Rattle.law_lifetimes.specs.Aging.{NotSet, IsCounted}

-- *It is set*: after an input that sets it the grant is there, isn't leaving and has just that left of its lifetime, unless
-- the node was reset in that input: then the session with the switch doesn't stand
abbrev pub IsSet : Type 0
IsSet = (o : Opening) (inputs : List Input) (port : PortNo) (label lifetime : ℕ) (input : Input) → IsOpening o
    → Sets (takes_inputs (opened_by o) inputs) input port label lifetime
    → has_switch (takes_input (takes_inputs (opened_by o) inputs) input).controller ≡ true
    → HasLeft (grant_at (takes_input (takes_inputs (opened_by o) inputs) input).controller port label) lifetime

-- *Nothing else sets it*: where an input doesn't, a grant that isn't leaving after it was there before, and had no less
-- of its lifetime
pub record HadAsMuch (before : Option Grant) (lifetime : ℕ) : Type 0 where
  pub grant : Grant
  pub there : before ≡ Some grant
  pub live : is_leaving grant.state ≡ false
  pub more : lifetime ≤ grant.lifetime

abbrev pub IsSetAlone : Type 0
IsSetAlone = (o : Opening) (inputs : List Input) (port : PortNo) (label : ℕ) (input : Input) → IsOpening o
    → NotSet (takes_inputs (opened_by o) inputs) port label input
    → (grant : Grant) → grant_at (takes_input (takes_inputs (opened_by o) inputs) input).controller port label ≡ Some grant → is_leaving grant.state ≡ false
    → HadAsMuch (grant_at (takes_inputs (opened_by o) inputs).controller port label) grant.lifetime

-- *It has ended or is leaving* from the last of as many ticks on as its lifetime was set to
abbrev pub EndsByLifetime : Type 0
EndsByLifetime = (o : Opening) (port : PortNo) (label lifetime : ℕ) (a : Acted) (ticks : ℕ) → IsOpening o
    → IsCounted o port label lifetime a ticks → lifetime ≤ ticks → HasEnded (grant_at a.controller port label)

-- *No frame is sent by it* in any later input, until the lifetime of a grant of the label is set
abbrev pub SendsNoMore : Type 0
SendsNoMore = (o : Opening) (port : PortNo) (label lifetime : ℕ) (a : Acted) (ticks : ℕ) → IsOpening o
    → IsCounted o port label lifetime a ticks → lifetime ≤ ticks
    → (input : Input) → IsConduct input → NotSet a port label input
    → SendsNone (control_end port label).channel (stays_queued input a.controller.queue) (takes_input a input).controller.queue

-- *Where it is lent* as the last of these ticks comes, a request that leads its input back to the control link (Move
-- Branch, Delete Tree or Delete All) stands at the end of that tick, unless the node was reset in it: then the session with
-- the switch doesn't stand
abbrev pub IsLedBack : Type 0
IsLedBack = (o : Opening) (port : PortNo) (label lifetime : ℕ) (a : Acted) (before : ℕ) → IsOpening o
    → IsCounted o port label lifetime a before → lifetime ≤ before + 1 → reaches_at a.controller port ≡ true
    → (grant : Grant) (input : End) → grant_at a.controller port label ≡ Some grant → grant.state ≡ ByInput input
    → has_switch (ticks a).controller ≡ true
    → is_led_home (ticks a).controller.desk input (home_of input) ≡ true

-- *Nothing but a node reset ends the session* in such an input or tick
abbrev pub IsEndedByReset : Type 0
IsEndedByReset = (o : Opening) (inputs : List Input) (port : PortNo) → IsOpening o → EndsByReset (takes_inputs (opened_by o) inputs) port
