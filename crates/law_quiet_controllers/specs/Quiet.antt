-- A controller at work that asks and sends nothing by which one label is led to another, but where it may

use Rattle.std.specs.Prelude.{◌≡◌, ◌≢◌, ℕ, ◌<◌, ◌≤◌, false, List, ◌∷◌, Contains, Option, None, Some, if◌then◌else◌}
use Rattle.std.specs.Option.{option_and_then}
use Rattle.law_controller_facts.specs.world_model.Words.{End, Mark, Cell, Request, PortRow, Frame, Standing, last_transaction, message_of, Setup, Label, Controller, default_channel, same_channel, join_for, may_join, label_on, tries_join, gsmp_of, copy_of, copy_under, leads}
use Rattle.law_controller_facts.specs.world_model.gsmp_wire.Layout.{octets_of}
use Rattle.law_controller_facts.specs.ordered_lists.Ordered.{Every}
use Rattle.law_controller_facts.specs.law_port_facts.Port.{IsShaped}
use Rattle.law_controller_facts.specs.world_model.Controller.{Acted}
use Rattle.law_controller_facts.specs.world_model.Joins.{Join, output_joined}
use Rattle.law_controller_facts.specs.Sound.{ArePorts, AreShaped}

-- *A request* leads from one label to another only where it may
abbrev pub May : (Allowed : End → End → Type 0) → Request → Type 0
May Allowed request = (input output : End) → 0 < input.port.0 → 0 < output.port.0 → leads request ≡ Some (input, output) → Allowed input output

-- what a payload asks
abbrev pub asked_by : (payload : List ℕ) → Option Standing
asked_by payload = option_and_then copy_of (gsmp_of payload)

-- what is asked by these records of the ports is read as it was asked
abbrev pub AreRead : List Setup → List PortRow → Type 0
AreRead setups rows = (number : ℕ) (request : Request) → number < last_transaction → IsShaped setups request
    → gsmp_of (octets_of (message_of rows number request)) ≡ Some (message_of rows number request)

pub record IsFine (Allowed : End → End → Type 0) (next : ℕ) (s : Standing) : Type 0 where
  pub below : s.number < next
  pub may : May Allowed s.request

-- *From what there was at first*: the control marks that were given out, the frames, and the cells that waited for the
-- switch. A cell on GSMP's channel waited, or its frame was made since, under a control mark, and asks what may be asked
pub data IsMeant (Allowed : End → End → Type 0) (controls : ℕ) (queue : List Cell) (frames : List Frame) (now : ℕ) (cell : Cell) : Type 0 where
  waited : Contains queue cell → IsMeant Allowed controls queue frames now cell
  fresh : cell.mark.packet ≡ 0 → controls < cell.mark.frame → cell.mark.frame ≤ now → ((s : Standing) → copy_under frames cell.mark ≡ Some s → May Allowed s.request)
      → IsMeant Allowed controls queue frames now cell
  carries : cell.mark.packet ≢ 0 → IsMeant Allowed controls queue frames now cell
  elsewhere : same_channel cell.header.channel default_channel ≡ false → IsMeant Allowed controls queue frames now cell

-- what the frames of control marks asked, they ask still
abbrev pub AskTheSame : (controls : ℕ) (before after : List Frame) → Type 0
AskTheSame controls before after = (mark : Mark) (s : Standing) → mark.packet ≡ 0 → mark.frame ≤ controls → copy_under after mark ≡ Some s → copy_under before mark ≡ Some s

-- *A quiet controller*, with these ports
pub record IsQuiet (setups : List Setup) (Allowed : End → End → Type 0) (controls : ℕ) (frames : List Frame) (queue : List Cell) (a : Acted) : Type 0 where
  pub ports : ArePorts setups a.controller.ports
  pub shaped : AreShaped setups a.controller.desk.standing
  pub reads : AreRead setups a.controller.desk.rows
  pub room : a.controller.desk.next ≤ last_transaction
  pub fine : Every (IsFine Allowed a.controller.desk.next) a.controller.desk.standing
  pub given : controls ≤ a.numbers.controls
  pub copies : AskTheSame controls frames a.notes.frames
  pub waits : Every (IsMeant Allowed controls queue a.notes.frames a.numbers.controls) a.controller.queue

-- *The join that is entered* where an input is tried
abbrev pub entered_for : Controller → (input : End) → Option Label → Option Join
entered_for c input None = None
entered_for c input (Some label) = if may_join c input label then join_for c input label.flow else None

abbrev pub entered : Controller → (input : End) → Option Join
entered c input = entered_for c input (label_on c input)

-- one of these inputs, each tried in turn, is joined to the output
pub data Enters (input output : End) : Acted → List End → Type 0 where
  here : (a : Acted) (inputs : List End) (join : Join) → entered a.controller input ≡ Some join → output_joined join ≡ output → Enters input output a (input ∷ inputs)
  later : (a : Acted) (tried : End) (inputs : List End) → Enters input output (tries_join a tried) inputs → Enters input output a (tried ∷ inputs)
