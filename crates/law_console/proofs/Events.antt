-- each event keeps what is so

use Rattle.std.proofs.Common.{◌≡◌, ℕ, ◌+◌, ◌<◌, ◌≤◌, ◌^◌, List, [], ◌∷◌, ◌++◌, refl}
use Rattle.world_model.specs.Words.{Cell, Request, AddBranch, MoveBranch, DeleteTree, VerifyTree, control_port, queue_of}
use Rattle.world_model.specs.gsmp_wire.declared.request.Request.TheVariants.{DeleteAll}
use Rattle.law_console.proofs.Frames.{cut_frames}
use Rattle.console_model.specs.declared.event.Side.TheVariants as side
use Rattle.console_model.specs.declared.event.ConsoleEvent.{ConsoleEvent}
use Rattle.console_model.specs.declared.event.ConsoleEvent.TheVariants.{Add, Move, Delete, Clear, Verify, Carry, Lose, Tick, Restart}
use Rattle.console_model.specs.Lab.{Lab}
use Rattle.console_model.specs.Asking.{resets}
use Rattle.console_model.specs.Steps.{commands, carries_down, carries_up, loses_down, loses_up, restarts, acts}
use Rattle.console_model.specs.Law.{CanCome}
use Rattle.law_console.specs.Words.{IsCommand}
use Rattle.law_console.specs.Kept.{view, Holds}
use Rattle.law_console.proofs.Views.{renoted}
use Rattle.law_console.proofs.Chances.{IsFree}
use Rattle.law_console.proofs.Changes.{cell_gone, answer_gone, joined}
use Rattle.law_console.proofs.Asking.{then_more, tick_kept, reset_kept, next_asked}
use Rattle.law_console.proofs.SwitchSide as switch
use Rattle.law_console.proofs.ConsoleSide as console

module _ (ports most : ℕ) (few : ports ≤ 8) (low : most < 2 ^ 32) where
  abbrev Is : Lab → Type 0
  Is lab = Holds ports most (view lab)

  abbrev Then : Lab → Type 0
  Then lab = Holds ports (most + 1) (view lab)

  command_kept : (lab : Lab) (q : Request) → IsCommand q → Is lab → Then (commands lab q)
  command_kept lab q is h = next_asked ports most (record lab { commands = lab.commands ++ q ∷ [] })
      (record { carried = h.carried; stood = h.stood; kept = joined ports most h.carried h.stood (view lab) q is h.kept })

  -- *To the switch*
  carried_down : (lab : Lab) (cells : List Cell) → lab.console.queue ≡ cells → Is lab → IsFree (carries_down lab cells).notes → Then (carries_down lab cells)
  carried_down lab [] e h free = then_more ports most lab h
  carried_down lab (cell ∷ cells) e h free = then_more ports most (carries_down lab (cell ∷ cells)) (switch.cell_kept ports most few low lab h.carried h.stood cell cells e h.kept free)

  lost_down : (lab : Lab) (cells : List Cell) → lab.console.queue ≡ cells → Is lab → Then (loses_down lab cells)
  lost_down lab [] e h = then_more ports most lab h
  lost_down lab (cell ∷ cells) e h = then_more ports most (loses_down lab (cell ∷ cells))
      (record { carried = h.carried; stood = h.stood; kept = cell_gone ports most h.carried h.stood (view lab) cell cells e h.kept })

  -- *To the console*
  carried_up : (lab : Lab) (cells : List Cell) → queue_of lab.switch.crossbar control_port ≡ cells → Is lab → IsFree (carries_up lab cells).notes → Then (carries_up lab cells)
  carried_up lab [] e h free = then_more ports most lab h
  carried_up lab (cell ∷ cells) e h free = console.cell_kept ports most few low lab h.carried h.stood cell cells e h.kept free

  lost_up : (lab : Lab) (cells : List Cell) → queue_of lab.switch.crossbar control_port ≡ cells → Is lab → Then (loses_up lab cells)
  lost_up lab [] e h = then_more ports most lab h
  lost_up lab (cell ∷ cells) e h = then_more ports most (loses_up lab (cell ∷ cells))
      (record { carried = h.carried; stood = h.stood; kept = answer_gone ports most h.carried h.stood (view lab) cell cells e h.kept })

  -- *The console starts again*
  restart_kept : (lab : Lab) → Is lab → Then (restarts lab)
  restart_kept lab h =
      let r : Is (resets lab) = reset_kept ports most lab h in
      then_more ports most (restarts lab) (record {
        carried = r.carried;
        stood = r.stood;
        kept = renoted ports most r.carried r.stood (view (resets lab)) _ (cut_frames lab.notes lab.console.reassembly) r.kept;
      })

  -- *One event*
  pub event_kept : (lab : Lab) (event : ConsoleEvent) → CanCome event → Is lab → IsFree (acts lab event).notes → Then (acts lab event)
  event_kept lab (Add input output) can h free = command_kept lab (AddBranch input output) can h
  event_kept lab (Move input from to) can h free = command_kept lab (MoveBranch input from to) can h
  event_kept lab (Delete input) can h free = command_kept lab (DeleteTree input) can h
  event_kept lab (Clear port) can h free = command_kept lab (DeleteAll port) can h
  event_kept lab (Verify input) can h free = command_kept lab (VerifyTree input) can h
  event_kept lab (Carry side.Console) can h free = carried_down lab lab.console.queue refl h free
  event_kept lab (Carry side.Switch) can h free = carried_up lab (queue_of lab.switch.crossbar control_port) refl h free
  event_kept lab (Lose side.Console) can h free = lost_down lab lab.console.queue refl h
  event_kept lab (Lose side.Switch) can h free = lost_up lab (queue_of lab.switch.crossbar control_port) refl h
  event_kept lab (Tick side.Console) can h free = then_more ports most (acts lab (Tick side.Console)) (tick_kept ports most lab h)
  event_kept lab (Tick side.Switch) can h free = then_more ports most (acts lab (Tick side.Switch))
      (switch.tick_kept ports most lab (record { switch = lab.switch; notes = lab.notes; numbers = lab.numbers }) h)
  event_kept lab Restart can h free = restart_kept lab h
