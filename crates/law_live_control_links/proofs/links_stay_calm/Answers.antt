-- the laws are proved over definitions alone

use Rattle.law_live_control_links.proofs.Events.{links_rest_calm, carries_keep_calm, ticks_keep_calm, switch_ticks_keep_calm}
use Rattle.law_live_control_links.proofs.Heard.{nothing_else_is_heard}
use Rattle.law_live_control_links.proofs.Runs.{runs_are_steady}
use Rattle.law_live_control_links.proofs.links_stay_calm.Goals as goal

pub returns : goal.returns
returns c = record { rests = links_rest_calm; runs = runs_are_steady; heard = nothing_else_is_heard; carries = carries_keep_calm; ticks = ticks_keep_calm; switch_ticks = switch_ticks_keep_calm }
