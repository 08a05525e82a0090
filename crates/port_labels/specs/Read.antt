-- Labels as they are read

use Rattle.std.specs.Prelude.{is_some, None, Some, if◌then◌else◌}
use Rattle.branch_desk.specs.port_model.Labels.{Label, serves}
use Rattle.branch_desk.specs.port_model.Labels as model
use Rattle.port_labels.specs.declared.view.HeldState.{HeldState}
use Rattle.port_labels.specs.declared.view.HeldState.TheVariants as held
use Rattle.port_labels.specs.declared.view.HeldLabel.{HeldLabel}
use Rattle.port_labels.specs.declared.view.LabelState.{LabelState}
use Rattle.port_labels.specs.declared.view.LabelState.TheVariants.{Spare, Wired, Offered, Recalled}
use Rattle.port_labels.specs.declared.view.LabelView.{LabelView}

-- a label that is held
abbrev pub state_from : HeldState → model.LabelState
state_from held.Wiring = model.Wiring
state_from held.Offered = model.Offered
state_from (held.Recalled last acknowledged) = model.Recalled last acknowledged
state_from held.Wired = model.Wired

abbrev pub label_of : HeldLabel → Label
label_of label = record {
  number = label.number;
  state = state_from label.state;
  flow = label.flow;
  idle = label.idle;
  ticks = label.ticks;
  join = label.join;
}

-- its name: while a label is being wired it has that of a spare one
abbrev pub name_of : model.LabelState → LabelState
name_of model.Wiring = Spare
name_of model.Offered = Offered
name_of (model.Recalled last acknowledged) = Recalled
name_of model.Wired = Wired

abbrev pub view_of : Label → LabelView
view_of label = record {
  vci = label.number;
  state = name_of label.state;
  flow = if serves label.state then Some label.flow else None;
  joined = is_some label.join;
}
