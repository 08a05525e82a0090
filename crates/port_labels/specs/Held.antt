-- How the code keeps a label: its state is a type, and it stands at the place of its number. No claim
-- needs this file.

use Rattle.std.specs.Prelude.{◌≡◌, ℕ, ◌+◌, ◌≤◌, List, [], ◌∷◌, IsTrue, Option, None, Some}
use Rattle.net_types.specs.declared.number.Instance.{Instance}
use Rattle.net_types.specs.Label.{is_label_number}
use Rattle.ipv4_packet.specs.declared.flow.FlowId.{FlowId}
use Rattle.branch_desk.specs.port_model.Labels.{Label, LabelState, Wiring, Offered, Recalled, Wired}
use Rattle.port_labels.specs.Book.{Book, held}
use Rattle.port_labels.specs.declared.held.Stage.{Stage}
use Rattle.port_labels.specs.declared.held.Stage.TheVariants as stage
use Rattle.port_labels.specs.declared.held.Held.{Held}

abbrev pub number_in : Stage → ℕ
number_in (stage.Wiring label flow) = label.number
number_in (stage.Offered label) = label.number
number_in (stage.Recalled label) = label.number
number_in (stage.Wired label flow) = label.number

abbrev pub instance_in : Stage → Instance
instance_in (stage.Wiring label flow) = label.instance
instance_in (stage.Offered label) = label.instance
instance_in (stage.Recalled label) = label.instance
instance_in (stage.Wired label flow) = label.instance

abbrev pub flow_in : Stage → FlowId
flow_in (stage.Wiring label flow) = flow
flow_in (stage.Offered label) = label.state.flow
flow_in (stage.Recalled label) = label.state.flow
flow_in (stage.Wired label flow) = flow

abbrev pub state_in : Stage → LabelState
state_in (stage.Wiring label flow) = Wiring
state_in (stage.Offered label) = Offered
state_in (stage.Recalled label) = Recalled label.state.last label.state.acknowledged
state_in (stage.Wired label flow) = Wired

abbrev pub shown : Held → Label
shown held = record {
  number = number_in held.stage;
  state = state_in held.stage;
  flow = flow_in held.stage;
  idle = held.idle;
  ticks = held.ticks;
  join = held.join;
}

-- the labels at a list of places
abbrev pub labels_in : List (Option Held) → List Label
labels_in [] = []
labels_in (None ∷ places) = labels_in places
labels_in (Some held ∷ places) = shown held ∷ labels_in places

-- each label stands at the place of its number, counted from `first`, and is of the instance
abbrev pub AreInPlace : Instance → (first : ℕ) → List (Option Held) → Type 0
AreInPlace instance first [] = Unit {0}
AreInPlace instance first (None ∷ places) = AreInPlace instance (first + 1) places
AreInPlace instance first (Some held ∷ places) =
    (number_in held.stage ≡ first) × (instance_in held.stage ≡ instance) × IsTrue (is_label_number first)
    × AreInPlace instance (first + 1) places

-- a label that isn't held may be put in
pub record HasPlaceFor (book : Book) (owner : Instance) (number : ℕ) : Type 0 where
  pub instance : owner ≡ book.instance
  pub least : book.least ≤ number
  pub greatest : number ≤ book.greatest
  pub absent : held book number ≡ None
