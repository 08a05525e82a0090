-- the laws that are called, put together

use Rattle.law_live_cut_through.proofs.FirstStretches.{Laws}
use Rattle.law_live_cut_through.proofs.First.{flows_are_labelled}
use Rattle.law_live_cut_through.proofs.flows_are_labelled.Goals as goal

pub returns : goal.returns
returns c =
    let laws : Laws = record {
      given = record {
        keep_labels = c.labels_stay_in_stretches.ensures.labels;
        keep_grants = c.labels_stay_in_stretches.ensures.grants;
        join_none = c.labels_stay_in_stretches.ensures.none_joined;
        lend_none = c.labels_stay_in_stretches.ensures.none_lent;
        add_branches = c.requests_add_branches.ensures.add;
        labels_lead = c.held_labels_lead.ensures.labels_there;
        grants_lead = c.held_labels_lead.ensures.grants_there;
        led = c.frames_are_led.ensures.sent;
        unlost = c.cells_are_unlost.ensures.unlost;
        entries_on = c.packets_go_on.ensures.entries;
        entries_under = c.packets_go_on.ensures.entries_under;
        brought_on = c.packets_go_on.ensures.brought;
        brought_under = c.packets_go_on.ensures.brought_under;
        labelled_on = c.labelled_packets_go_on.ensures.forward;
        labelled_under = c.labelled_packets_go_on.ensures.under;
      };
      binds_on = c.networks_bind_on.ensures.stretches;
      hops = c.hops_are_heard.ensures.hops;
      whole = c.runs_are_whole.ensures.whole;
    } in
    record { labelled = flows_are_labelled laws c.networks_stay_at_ease.ensures.ends c.flows_come_to_be_served.ensures.served }
