-- Frames are sent whole or not at all. The limit of slots and the entry are this project's own.

use Rattle.std.specs.Prelude.{ℕ, nat_le, List, length, if◌then◌else◌}
use Rattle.net_types.specs.declared.channel.Channel.{Channel}
use Rattle.net_types.specs.declared.number.Mark.{Mark}
use Rattle.atm_cells.specs.declared.cell.Cell.{Cell}
use Rattle.link_model.specs.declared.record.Record.TheVariants.{Loss}
use Rattle.link_model.specs.declared.record.Cause.TheVariants.{PoolFull}
use Rattle.link_model.specs.Notes.{Journal, noted}
use Rattle.frame_model.specs.Frame.{frame_cells, made}

-- the queues of whoever sends, and the notes of the run
pub record Sender (Q : Type 0) : Type 0 where
  pub queues : Q
  pub notes : Journal

-- cells go to the end of a queue, all or, where fewer slots are free, none
abbrev pub queued : {Q : Type 0} → (free : ℕ) → (with_cells : List Cell → Q) → Sender Q → Mark → List Cell → Sender Q
queued free with_cells s mark cells =
    if nat_le (length cells) free
    then record s { queues = with_cells cells }
    else record s { notes = noted s.notes (Loss mark PoolFull) }

-- a frame is sent: the notes keep its payload, whether or not its cells find slots
abbrev pub sent_frame : {Q : Type 0} → (free : ℕ) → (with_cells : List Cell → Q) → Sender Q → Channel → Mark → (payload : List ℕ) → Sender Q
sent_frame free with_cells s channel mark payload =
    queued free with_cells (record s { notes = made s.notes mark payload }) mark (frame_cells channel mark payload)
