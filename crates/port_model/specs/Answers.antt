-- What a success of the switch means to the port of the request's input, or of its output where the input
-- is on the control link: a label is bound, joined or free, or a grant can be used

use Rattle.std.specs.Prelude.{◌==◌, Option, None, Some, if◌then◌else◌}
use Rattle.net_types.specs.declared.channel.End.{End}
use Rattle.net_types.specs.Label.{label_number_of, number_of_channel}
use Rattle.gsmp_wire.specs.declared.request.Request.{Request}
use Rattle.gsmp_wire.specs.declared.request.Request.TheVariants.{AddBranch, MoveBranch, DeleteTree}
use Rattle.link_model.specs.declared.record.Record.TheVariants.{Bind, Free, Join}
use Rattle.port_model.specs.declared.action.Action.TheVariants.{Note}
use Rattle.port_model.specs.Setup.{Setup}
use Rattle.port_model.specs.Labels.{Label, LabelState, Wiring, Offered, Wired}
use Rattle.port_model.specs.Grants.{Grant, GrantState, Idle, ByController, grant_on}
use Rattle.port_model.specs.Port.{Work, with_action, with_label, without_label, with_grant}
use Rattle.port_model.specs.Saying.{says, redirect}
use Rattle.port_model.specs.Hearing.{label_by}

-- *Counting*: a label's branch to the controller is made, and it is offered at once
abbrev pub bound_in : Setup → Work → Label → LabelState → Work
bound_in setup w label Wiring =
    says (with_action (with_label w (record label { state = Offered })) (Note (Bind setup.node setup.port label.number label.flow)))
    (redirect setup label)
bound_in setup w label state = w

abbrev pub bound : Setup → Work → Option Label → Work
bound setup w None = w
bound setup w (Some label) = bound_in setup w label label.state

-- *IFMP adjacency*: the branch of a label that was quit is deleted
abbrev pub freed_in : Setup → Work → Label → LabelState → Work
freed_in setup w label Wired = with_action (without_label w label.number) (Note (Free setup.node setup.port label.number))
freed_in setup w label state = w

abbrev pub freed : Setup → Work → Option Label → Work
freed setup w None = w
freed setup w (Some label) = freed_in setup w label label.state

-- *Redirect*: the branch of a grant is made
abbrev pub started_in : Work → Grant → GrantState → Work
started_in w grant Idle = with_grant w (record grant { state = ByController })
started_in w grant state = w

abbrev pub started : Work → Option Grant → Work
started w None = w
started w (Some grant) = started_in w grant grant.state

-- *Joins*: an input is joined to the channel of a link
abbrev pub joined_to : Setup → Work → (input output : End) → Work
joined_to setup w input output =
    if output.port.0 == 0 then w
    else with_action w (Note (Join setup.node setup.port (number_of_channel input.channel) output.port (number_of_channel output.channel)))

abbrev pub done : Setup → Work → Request → Work
done setup w (AddBranch input output) =
    if input.port.0 == 0
    then started w (grant_on w.port.grants (label_number_of output.channel))
    else bound setup w (label_by w.port (label_number_of input.channel))
done setup w (MoveBranch input from to) = joined_to setup w input to
done setup w (DeleteTree input) = freed setup w (label_by w.port (label_number_of input.channel))
done setup w request = w
