use Rattle.gsmp_wire.proofs.Inverse.{one_message}
use Rattle.gsmp_wire.proofs.laws.octets_have_one_message.Goals as goal

pub returns : goal.returns
returns c = one_message
