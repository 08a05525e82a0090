-- the laws that are called, put together

use Rattle.law_live_lasting.proofs.Heard as heard
use Rattle.law_live_lasting.proofs.Lasts as lasts
use Rattle.law_live_lasting.proofs.lasting_peace_lasts.Goals as goal

pub returns : goal.returns
returns c = (let whole = c.runs_are_whole.ensures.whole in record { hear = heard.switches_hear_their_nodes whole; desks = lasts.desks_are_emptied whole; beats = lasts.lasting_beats_are_of_peace whole; lasts = lasts.lasting_peace_lasts whole })
