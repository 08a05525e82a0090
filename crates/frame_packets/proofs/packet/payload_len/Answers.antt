use Rattle.frame_model.proofs.Frames.{payload_passed, payload_refused}
use Rattle.frame_model.specs.Frame.{payload_in}
use Rattle.frame_packets.proofs.packet.payload_len.Goals as goal

pub returns-in-Ok-clause-payload : goal.returns-in-Ok-clause-payload
unfolding payload_in
returns-in-Ok-clause-payload c = payload_passed c.args.octets.now _ _ c.in-Ok.ensures.refused c.in-Ok.ensures.len

pub returns-in-Err-clause-payload : goal.returns-in-Err-clause-payload
unfolding payload_in
returns-in-Err-clause-payload c = payload_refused c.args.octets.now _ _ c.in-Err.ensures.refused
