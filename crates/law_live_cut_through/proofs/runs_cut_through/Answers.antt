-- the laws that are called, put together

use Rattle.law_live_cut_through.proofs.Runs.{Laws, runs_cut_through}
use Rattle.law_live_cut_through.proofs.runs_cut_through.Goals as goal

pub returns : goal.returns
returns c =
    let laws : Laws = record {
      whole = c.runs_are_whole.ensures.whole;
      written = c.messages_are_written.ensures.written;
      ticks = c.ticks_bind.ensures.ticks;
      binds_on = c.networks_bind_on.ensures.beats;
      keep = c.networks_stay_at_ease.ensures.beats;
      ease_binds = c.ease_binds_and_stays.ensures.binds;
      ease_stays = c.ease_binds_and_stays.ensures.stays;
      fresh = c.unlabelled_networks_are_at_ease.ensures.ease;
      labelled = c.flows_are_labelled.ensures.labelled;
      settled_ease = c.ways_stand.ensures.settled;
      come = c.ways_stand.ensures.come;
      in_beats = c.ways_stand.ensures.beats;
      behind_beats = c.ways_stand.ensures.behind;
      cut = c.flows_are_switched.ensures.cut;
      switched = c.flows_are_switched.ensures.switched;
    } in
    record { runs = runs_cut_through laws }
