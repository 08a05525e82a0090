-- the laws that are called, put together

use Rattle.law_live_calm_nodes.proofs.Networks.{networks_stay_up, networks_rest_in_peace, beats_of_peace_are_in_peace, peace_lasts}
use Rattle.law_live_calm_nodes.proofs.networks_stay_in_peace.Goals as goal

pub returns : goal.returns
returns c = (let whole = c.runs_are_whole.ensures.whole in record { up = networks_stay_up whole; rest = networks_rest_in_peace whole; beats = beats_of_peace_are_in_peace whole; lasts = peace_lasts whole })
