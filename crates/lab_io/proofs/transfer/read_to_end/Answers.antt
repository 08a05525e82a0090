use Rattle.std.proofs.KnownBytes.{Consumes-trans}
use Rattle.lab_io.proofs.transfer.read_to_end.Goals as goal

pub returns-in-Err-extend_from_slice-clause-lost : goal.returns-in-Err-extend_from_slice-clause-lost
returns-in-Err-extend_from_slice-clause-lost g c =
    record {
      octets = _;
      consumed = Consumes-trans _ _ _ _ _ c.loop-buffer.invariant.consumed c.in-Ok.ensures.octets.0;
    }
