-- the laws that are called, put together

use Rattle.law_live_joining_beats.proofs.Lasting as lasting
use Rattle.law_live_joining_beats.proofs.labels_are_joined_and_stay.Goals as goal

pub returns : goal.returns
returns c = (let whole = c.runs_are_whole.ensures.whole in record { joined = lasting.labels_are_joined whole; stays = lasting.joins_stay whole; lasts = lasting.joins_last whole; led = lasting.lead_behind whole })
