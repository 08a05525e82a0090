-- the laws that are called, put together

use Rattle.law_link_parties.proofs.links_are_given.Goals as goal

pub returns : goal.returns
returns c = record {
  given = record {
    order = c.unlost_frames_come_in_order.ensures.order;
    lead = c.runs_may_lead.ensures.lead;
    nodes = c.woken_nodes_stay_met.ensures.woken;
    addresses = c.ports_go_by_address.ensures.addresses;
    labels = c.ports_go_by_address.ensures.labels;
    carries = c.carries_go_by_table.ensures.carries;
    entries = c.others_leave_ports.ensures.entries;
    entries_keep = c.numbers_keep_parties.ensures.entries;
    parties = c.numbers_keep_parties.ensures.ticks;
    carries_keep = c.ports_keep_theirs.ensures.carries;
    packets = c.ports_go_by_address.ensures.packets;
    named = c.greetings_are_named.ensures.named;
  };
}
