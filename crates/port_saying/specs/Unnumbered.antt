-- The messages that the code makes, without the instances of both ends and a number. No claim needs this file.

use Rattle.std.specs.Prelude.{ℕ}
use Rattle.ifmp_wire.specs.declared.message.Message.TheVariants as message
use Rattle.port_model.specs.Saying as saying
use Rattle.port_saying.specs.declared.saying.Unnumbered.{Unnumbered}
use Rattle.port_saying.specs.declared.saying.Unnumbered.TheVariants.{Redirect, Reclaim, ReclaimAck, LabelRange, Error}
use Rattle.port_saying.specs.declared.saying.ErrorCode.{ErrorCode}
use Rattle.port_saying.specs.declared.saying.ErrorCode.TheVariants.{Taken, Leaving, Full, Mismatch}

abbrev pub code_number : ErrorCode → ℕ
code_number Taken = 1
code_number Leaving = 2
code_number Full = 3
code_number Mismatch = 4

abbrev pub unnumbered : Unnumbered → saying.Unnumbered
unnumbered (Redirect lifetime label flow) own peer number = message.Redirect own peer number lifetime label flow
unnumbered (Reclaim label flow) own peer number = message.Reclaim own peer number label flow
unnumbered (ReclaimAck label flow) own peer number = message.ReclaimAck own peer number label flow
unnumbered (LabelRange least greatest) own peer number = message.LabelRange own peer number least greatest
unnumbered (Error code label) own peer number = message.Error own peer number (code_number code) label
