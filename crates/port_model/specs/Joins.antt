-- *Joins*: what a join and its release are to the port of the label, and to the port of the grant. A join
-- leads an input straight to the output under a grant (Newman, Minshall and Lyon); its rules are this
-- project's own.

use Rattle.std.specs.Prelude.{ℕ, Bool, true, false, Option, None, Some}
use Rattle.net_types.specs.declared.channel.End.{End}
use Rattle.net_types.specs.Label.{label_channel_of}
use Rattle.port_model.specs.Labels.{Label}
use Rattle.port_model.specs.Grants.{Grant, GrantState, Idle, ByController, ByInput, Leaving}
use Rattle.port_model.specs.Port.{Work, with_label, with_grant, without_grant, label_at}
use Rattle.port_model.specs.Saying.{tells, reclaim_ack}

-- the label's port: it is joined to an output, and it isn't joined any more
abbrev pub joins_label : Work → Option End → Option Label → Work
joins_label w join None = w
joins_label w join (Some label) = with_label w (record label { join = join })

abbrev pub joined : Work → (number : ℕ) → (output : End) → Work
joined w number output = joins_label w (Some output) (label_at w.port number)

abbrev pub parted : Work → (number : ℕ) → Work
parted w number = joins_label w None (label_at w.port number)

-- the grant's port: it is lent to an input
abbrev pub lent : Work → Grant → (input : End) → Work
lent w grant input = with_grant w (record grant { state = ByInput input })

-- and it is given back: a leaving grant ends, and its acknowledgement is said if it is owed, any other is
-- the controller's again. Where the port's numbers are spent it is reset once all joins of the answer are
-- released
abbrev pub ended : Work → Grant → (owed : Bool) → Work
ended w grant true = tells (without_grant w grant.label) (reclaim_ack (label_channel_of grant.label) grant.flow)
ended w grant false = without_grant w grant.label

abbrev pub given_back_in : Work → Grant → GrantState → Work
given_back_in w grant Idle = w
given_back_in w grant ByController = w
given_back_in w grant (ByInput input) = with_grant w (record grant { state = ByController })
given_back_in w grant (Leaving input owed) = ended w grant owed

abbrev pub given_back : Work → Grant → Work
given_back w grant = given_back_in w grant grant.state
