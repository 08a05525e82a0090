-- so it is in every run before the first frame that was forged or passed by chance

use Rattle.law_run_facts.proofs.Nodes.{runs_have_nodes}
use Rattle.law_run_facts.proofs.Rooms.{runs_have_room}
use Rattle.law_run_facts.proofs.Steps.{events_are_steps, runs_have_fronts}
use Rattle.law_running_worlds.proofs.Worlds.{events_true}
use Rattle.law_frame_readings.specs.law_world_views.Between.{HasAllMade, HasAllReady}
use Rattle.law_frame_readings.specs.law_world_views.Kept.{Keeps, Begins}
use Rattle.law_running_worlds.proofs.MadeTame.{controllers_pass, switches_pass}
use Rattle.law_running_worlds.proofs.Kept.{ControllersPass, SwitchesPass, made_kept, ready_kept}
use Rattle.law_running_worlds.proofs.Opening.{ready_begins}

pub up : ControllersPass
up = controllers_pass events_true runs_have_fronts events_are_steps

pub down : SwitchesPass
down = switches_pass events_true runs_have_fronts events_are_steps

pub frames_kept : Keeps HasAllMade
frames_kept = made_kept runs_have_nodes runs_have_room runs_have_fronts events_are_steps up down

pub widths_kept : Keeps HasAllReady
widths_kept = ready_kept runs_have_nodes runs_have_room runs_have_fronts events_are_steps up down

pub widths_begin : Begins HasAllReady
widths_begin = ready_begins runs_have_nodes runs_have_room
