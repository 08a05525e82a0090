-- which entries are causes, which marks and cells have one, and a cell without its channel

use Rattle.std.specs.Prelude.{Bool, not, ◌&&◌, List}
use Rattle.std.specs.List.{list_any}
use Rattle.world_model.specs.Words.{Channel, Mark, Cell, Entry, same_mark, is_broken}

abbrev pub is_cause_of : Mark → Entry → Bool
is_cause_of mark entry = same_mark entry.mark mark && not (is_broken entry.cause)

abbrev pub has_cause : List Entry → Mark → Bool
has_cause entries mark = list_any (is_cause_of mark) entries

abbrev pub is_caused : List Entry → List Cell → Bool
is_caused entries cells = list_any (λ cell. has_cause entries cell.mark) cells

-- the channel in place of each other
abbrev pub plain : Channel
plain = record { vpi = 0; vci = 15 }

abbrev pub bare : Cell → Cell
bare c = record c { header = record { channel = plain; last = c.header.last } }
