use Rattle.law_wire.proofs.Ifmp.{read_back as ifmp_back}
use Rattle.law_wire.proofs.Gsmp.{read_back as gsmp_back}
use Rattle.law_wire.proofs.Packets.{protocol_is, source_is, message_is, unwrapped_again}
use Rattle.law_wire.proofs.messages_are_read_back.Goals as goal

pub returns : goal.returns
returns c = record {
  ifmp = ifmp_back;
  gsmp = gsmp_back;
  protocol = protocol_is;
  source = source_is;
  message = message_is;
  payload = unwrapped_again;
}
