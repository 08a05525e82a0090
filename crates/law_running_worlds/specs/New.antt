-- What an event puts on the GSMP channel of a control link: cells under control marks that were given out since it began

use Rattle.std.specs.Prelude.{◌≡◌, ℕ, ◌≤◌, Bool, true, List, ◌⊎◌, Some}
use Rattle.std.specs.Option.{option_and_then}
use Rattle.law_branch_shapes.specs.world_model.Words.{PortNo, Mark, Cell, PortRow, Frame, payload_of, Standing, Setup, default_channel, same_channel, gsmp_of, copy_of}
use Rattle.law_branch_shapes.specs.world_model.gsmp_wire.declared.message.Message.TheVariants.{AllPorts}
use Rattle.law_frame_readings.specs.ordered_lists.Ordered.{Every}
use Rattle.law_frame_readings.specs.law_port_facts.Port.{IsShaped}
use Rattle.law_running_worlds.specs.Mode.{AreUp}

abbrev pub is_on_gsmp : Cell → Bool
is_on_gsmp cell = same_channel cell.header.channel default_channel

abbrev pub control_mark : (number : ℕ) → Mark
control_mark number = record { packet = 0; frame = number }

-- *What may be said*: a request that has a shape, and all ports as those that are up
abbrev pub AsksShaped : List Setup → (payload : List ℕ) → Type 0
AsksShaped setups payload = (s : Standing) → option_and_then copy_of (gsmp_of payload) ≡ Some s → IsShaped setups s.request

abbrev pub TellsUp : List PortNo → (payload : List ℕ) → Type 0
TellsUp ports payload = (code number : ℕ) (rows : List PortRow) → gsmp_of payload ≡ Some (AllPorts 3 code number rows) → AreUp rows ports

-- *A new cell*: its frame was made since, and says what may be said
pub record IsNew (Good : List ℕ → Type 0) (frames : List Frame) (controls : ℕ) (cell : Cell) : Type 0 where
  pub number : ℕ
  pub is : cell.mark ≡ control_mark number
  pub given : number ≤ controls
  pub payload : List ℕ
  pub made : payload_of frames (control_mark number) ≡ Some payload
  pub good : Good payload

-- *Since an event began*, with these frames and so many control marks given out: what was made under those stays, and each
-- cell of the GSMP channel in this queue is an old one or a new one
pub record SinceThen (Old : Cell → Type 0) (Good : List ℕ → Type 0) (began : List Frame) (marks : ℕ)
    (queue : List Cell) (frames : List Frame) (controls : ℕ) : Type 0 where
  pub given : marks ≤ controls
  pub same : (k : ℕ) → k ≤ marks → payload_of frames (control_mark k) ≡ payload_of began (control_mark k)
  pub cells : Every (λ (cell : Cell). is_on_gsmp cell ≡ true → Old cell ⊎ IsNew Good frames controls cell) queue
