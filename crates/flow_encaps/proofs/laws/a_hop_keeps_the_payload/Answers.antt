use Rattle.flow_encaps.proofs.CarryLemmas.{Carries-next_hop}
use Rattle.flow_encaps.proofs.laws.a_hop_keeps_the_payload.Goals as goal

pub returns : goal.returns
returns c = Carries-next_hop
