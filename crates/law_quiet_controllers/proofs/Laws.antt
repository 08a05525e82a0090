-- each event leaves a controller quiet, and so it asks no more than it did

use Rattle.std.proofs.Common.{List, ◌⊎◌, inl, inr}
use Rattle.law_controller_facts.specs.world_model.Words.{End, Setup, node_restarts, change_comes, injected}
use Rattle.law_controller_facts.specs.world_model.Controller.{Acted}
use Rattle.law_controller_facts.specs.world_model.Cells.{cell_comes}
use Rattle.law_controller_facts.specs.world_model.Ticks.{ticks}
use Rattle.law_quiet_controllers.specs.Quiet.{IsQuiet}
use Rattle.law_quiet_controllers.specs.Law.{IsAtWork, Asks, AsksNoMore, NoJoin, TickEnters, StaysQuiet}
use Rattle.law_quiet_controllers.proofs.Beginning.{begins_quiet, asked_may}
use Rattle.law_quiet_controllers.proofs.Joining.{change_comes_on}
use Rattle.law_quiet_controllers.proofs.Events.{cell_comes_on, injected_on, ticks_on, restarts_on}

-- what was asked, or is of a join that was entered
abbrev pub Known : (Acted → End → End → Type 0) → Acted → End → End → Type 0
Known Entered a input output = Asks a input output ⊎ Entered a input output

by_quiet : (setups : List Setup) (a : Acted) → IsAtWork setups a → (act : Acted → Acted) (Entered : Acted → End → End → Type 0)
    → (IsQuiet setups (Known Entered a) a.numbers.controls a.notes.frames a.controller.queue a → IsQuiet setups (Known Entered a) a.numbers.controls a.notes.frames a.controller.queue (act a)) → AsksNoMore act Entered a
by_quiet setups a h act Entered leaves nothing input output above on asks =
    asked_may setups a h (Known Entered a) (λ i o x y k. inl k) (act a) (leaves (begins_quiet setups a h (Known Entered a) (λ i o x y k. inl k))) nothing input output above on asks

pub stays_quiet : StaysQuiet
stays_quiet = record {
  cells = λ setups a cell h can. by_quiet setups a h (λ b. cell_comes b cell) NoJoin
      (cell_comes_on setups (Known NoJoin a) a.numbers.controls a.notes.frames a.controller.queue h.reads_none a cell can);
  packets = λ setups a number packet h links other. by_quiet setups a h (λ b. injected b number packet) NoJoin
      (injected_on setups (Known NoJoin a) a.numbers.controls a.notes.frames a.controller.queue h.reads_none a number packet links other);
  ticks = λ setups a h. by_quiet setups a h ticks TickEnters
      (ticks_on setups (Known TickEnters a) a.numbers.controls a.notes.frames a.controller.queue h.reads_none a (λ going i o above on e. inr (record { going = going; enters = e })));
  restarts = λ setups a h. by_quiet setups a h node_restarts NoJoin
      (restarts_on setups (Known NoJoin a) a.numbers.controls a.notes.frames a.controller.queue h.reads_none a);
  changes = λ setups a change h. by_quiet setups a h (λ b. change_comes b change) NoJoin
      (change_comes_on setups (Known NoJoin a) a.numbers.controls a.notes.frames a.controller.queue a change);
}
