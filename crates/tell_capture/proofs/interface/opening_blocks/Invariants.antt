use Rattle.std.proofs.Common.{◌≡◌, ◌++◌, ◌∷◌, [], map, take}
use Rattle.std.specs.Prelude.{codes}
use Rattle.pcapng_blocks.specs.Blocks.{Section, block_octets, file_octets, shb_userappl}
use Rattle.tell_capture.specs.Capture.{interface_of}
use Rattle.tell_capture.proofs.interface.opening_blocks.Given as goal

abbrev pub invariant-loop-index : goal.invariant-loop-index
invariant-loop-index g l =
    l.blocks.items ≡ block_octets (Section (shb_userappl (codes "ipswitch") ∷ [])) ++ file_octets (map (interface_of l.names) (take l.index l.world.round.items))
