use Rattle.flow_encaps.proofs.CarryLemmas.{Carries-injective}
use Rattle.flow_encaps.proofs.laws.flow_and_payload_have_one_packet.Goals as goal

pub returns : goal.returns
returns c = Carries-injective
