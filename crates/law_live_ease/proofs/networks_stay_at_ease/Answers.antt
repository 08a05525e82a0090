-- the laws that are called, put together

use Rattle.law_live_ease.specs.AtEase.{BeatsKeepEase}
use Rattle.law_live_ease.proofs.AtEaseBeats.{beats_keep_ease, ease_lasts}
use Rattle.law_live_ease.proofs.AtEaseEnds.{ends_at_ease_agree}
use Rattle.law_live_ease.proofs.networks_stay_at_ease.Goals as goal

pub returns : goal.returns
returns c =
    let keep : BeatsKeepEase = beats_keep_ease c.ticks_bind.ensures.ticks c.networks_bind_on.ensures.beats c.networks_settle.ensures.rest c.networks_settle.ensures.heard in
    record { beats = keep; lasts = ease_lasts keep; ends = ends_at_ease_agree }
