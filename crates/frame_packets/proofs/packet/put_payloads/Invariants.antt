use Rattle.std.proofs.Common.{◌≡◌, ◌+◌, ◌*◌, ◌++◌, length, take}
use Rattle.frame_model.specs.Frame.{octets_of}
use Rattle.frame_packets.proofs.packet.put_payloads.Given as goal

abbrev pub invariant-loop-cell : goal.invariant-loop-cell
invariant-loop-cell l =
    (l.out.items ≡ l.fn.out.items ++ octets_of (take l.cell-index l.cells)) × (length l.out.items ≡ length l.fn.out.items + 48 * l.cell-index)
