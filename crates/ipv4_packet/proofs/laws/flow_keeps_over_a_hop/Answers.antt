use Rattle.ipv4_packet.proofs.HopLemmas.{next_hop_of-flow_of}
use Rattle.ipv4_packet.proofs.laws.flow_keeps_over_a_hop.Goals as goal

pub returns : goal.returns
returns c = next_hop_of-flow_of
