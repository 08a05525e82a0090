-- the laws that are called, put together

use Rattle.law_live_cut_through.specs.Later.{WaysStandInStretches}
use Rattle.law_live_cut_through.proofs.Standing.{KeepTicks, settled_are_at_ease, ways_stand_in_stretches, ways_stand_in_beats, ways_stand_behind_beats}
use Rattle.law_live_cut_through.proofs.Joining.{ways_come_to_stand}
use Rattle.law_live_cut_through.proofs.ways_stand.Goals as goal

pub returns : goal.returns
returns c =
    let keep : KeepTicks = record {
      joined = c.ticks_keep_labels.ensures.joined;
      last = c.ticks_keep_labels.ensures.last;
      lent = c.ticks_keep_labels.ensures.lent;
      first = c.ticks_keep_labels.ensures.first;
      alone = c.ticks_keep_labels.ensures.alone;
    } in
    let ticks = c.ticks_bind.ensures.ticks in
    let in_stretches : WaysStandInStretches =
    ways_stand_in_stretches c.labels_stay_in_stretches.ensures.labels c.labels_stay_in_stretches.ensures.grants c.labels_serve_alone.ensures.alone in
    record {
      settled = settled_are_at_ease c.networks_stay_at_ease.ensures.beats;
      come = ways_come_to_stand c.runs_are_whole.ensures.whole c.networks_stay_at_ease.ensures.ends keep ticks in_stretches;
      stretches = in_stretches;
      beats = ways_stand_in_beats keep ticks in_stretches;
      behind = ways_stand_behind_beats ticks c.networks_bind_on.ensures.beats in_stretches;
    }
