-- What leads from one label to another behind an event of a controller, by what stands at its desk or waits for its switch:
-- what did before it, and at a tick the joins that it enters

use Rattle.std.specs.Prelude.{◌≡◌, ◌≢◌, ℕ, ◌<◌, ◌≤◌, ◌⊎◌, true, List, [], flat_map, Contains, None, Some}
use Rattle.law_controller_facts.specs.world_model.Words.{End, Mark, Cell, ticked, RouteChange, Standing, last_transaction, Setup, default_channel, node_restarts, inputs_at, change_comes, injected, same_channel, sends_again, ticks_ports, copy_under, leads}
use Rattle.law_controller_facts.specs.world_model.adjacency_table.declared.message.Answer.TheVariants.{Reset}
use Rattle.law_controller_facts.specs.ordered_lists.Ordered.{Every}
use Rattle.law_controller_facts.specs.world_model.Controller.{Acted}
use Rattle.law_controller_facts.specs.world_model.Gsmp.{steps}
use Rattle.law_controller_facts.specs.world_model.Cells.{cell_comes}
use Rattle.law_controller_facts.specs.world_model.Ticks.{ticks}
use Rattle.law_controller_facts.specs.Sound.{ArePorts, AreShaped}
use Rattle.law_quiet_controllers.specs.Quiet.{AreRead, Enters}
use Rattle.law_quiet_controllers.specs.Heard.{LeadsToLinks, CanCome}

-- *Before the event*
pub record IsAtWork (setups : List Setup) (a : Acted) : Type 0 where
  pub ports : ArePorts setups a.controller.ports
  pub shaped : AreShaped setups a.controller.desk.standing
  pub below : Every (λ (s : Standing). s.number < a.controller.desk.next) a.controller.desk.standing
  pub room : a.controller.desk.next ≤ last_transaction
  pub reads : AreRead setups a.controller.desk.rows
  pub reads_none : AreRead setups []
  pub marks : (cell : Cell) → Contains a.controller.queue cell → cell.mark.packet ≡ 0 → cell.mark.frame ≤ a.numbers.controls

-- a request that stands, or has a cell that waits on GSMP's channel, leads one end to another
pub data Asks (a : Acted) (input output : End) : Type 0 where
  by_desk : (s : Standing) → Contains a.controller.desk.standing s → leads s.request ≡ Some (input, output) → Asks a input output
  by_cell : (s : Standing) (cell : Cell) → Contains a.controller.queue cell → same_channel cell.header.channel default_channel ≡ true
      → copy_under a.notes.frames cell.mark ≡ Some s → leads s.request ≡ Some (input, output) → Asks a input output

-- and no packet's frame is a request
abbrev pub PacketsAskNothing : Acted → Type 0
PacketsAskNothing a = (mark : Mark) → mark.packet ≢ 0 → copy_under a.notes.frames mark ≡ None

-- *Behind it*
abbrev pub AsksNoMore : (Acted → Acted) → (Acted → (input output : End) → Type 0) → Acted → Type 0
AsksNoMore act Entered a = PacketsAskNothing (act a) → (input output : End) → 0 < input.port.0 → 0 < output.port.0 → Asks (act a) input output
    → Asks a input output ⊎ Entered a input output

abbrev pub NoJoin : Acted → (input output : End) → Type 0
NoJoin a input output = ⊥

-- as a tick has left a controller when joins are tried
abbrev pub before_joins : Acted → Acted
before_joins a = ticks_ports (sends_again (steps a (ticked a.controller.adjacency)))

-- one that isn't ended by a reset of the adjacency with the switch
pub record TickEnters (a : Acted) (input output : End) : Type 0 where
  pub going : (ticked a.controller.adjacency).answer ≡ Reset → ⊥
  pub enters : Enters input output (before_joins a) (flat_map inputs_at (before_joins a).controller.ports)

pub record StaysQuiet : Type 0 where
  pub cells : (setups : List Setup) (a : Acted) (cell : Cell) → IsAtWork setups a → CanCome setups a cell → AsksNoMore (λ b. cell_comes b cell) NoJoin a
  pub packets : (setups : List Setup) (a : Acted) (number : ℕ) (packet : List ℕ) → IsAtWork setups a → LeadsToLinks a.controller → number ≢ 0 → AsksNoMore (λ b. injected b number packet) NoJoin a
  pub ticks : (setups : List Setup) (a : Acted) → IsAtWork setups a → AsksNoMore ticks TickEnters a
  pub restarts : (setups : List Setup) (a : Acted) → IsAtWork setups a → AsksNoMore node_restarts NoJoin a
  pub changes : (setups : List Setup) (a : Acted) (change : RouteChange) → IsAtWork setups a → AsksNoMore (λ b. change_comes b change) NoJoin a
