-- the laws that are called, put together

use Rattle.law_live_cut_through.proofs.SwitchedGiven.{Given}
use Rattle.law_live_cut_through.proofs.SwitchedStanding.{ways_cut_through}
use Rattle.law_live_cut_through.proofs.Switched.{are_switched}
use Rattle.law_live_cut_through.proofs.flows_are_switched.Goals as goal

pub returns : goal.returns
returns c =
    let given : Given = record {
      labels_lead = c.held_labels_lead.ensures.labels;
      labels_there = c.held_labels_lead.ensures.labels_there;
      grants_lead = c.held_labels_lead.ensures.grants;
      grants_there = c.held_labels_lead.ensures.grants_there;
      grants_found = c.held_labels_lead.ensures.found;
      ways_stand = c.ways_stand.ensures.stretches;
      keep_labels = c.labels_stay_in_stretches.ensures.labels;
      keep_grants = c.labels_stay_in_stretches.ensures.grants;
      add_branches = c.requests_add_branches.ensures.add;
      settled_ease = c.ways_stand.ensures.settled;
      led = c.frames_are_led.ensures.sent;
      unlost = c.cells_are_unlost.ensures.unlost;
      alone = c.delivered_are_alone.ensures.alone;
      under = c.packets_go_on.ensures.entries_under;
      delivered = c.labelled_packets_go_on.ensures.delivered;
      carry = c.labels_carry_packets.ensures.carry;
      carry_on = c.labels_carry_packets.ensures.go_on;
      ticks = c.ticks_bind.ensures.ticks;
      binds_on = c.networks_bind_on.ensures.beats;
    } in
    record { cut = ways_cut_through given; switched = are_switched c.runs_are_whole.ensures.whole given }
