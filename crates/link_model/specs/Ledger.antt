-- the loss ledger of a run, and the frames that it made

use Rattle.std.specs.Prelude.{ℕ, Bool, false, ◌==◌, ◌&&◌, List, reverse, find, Option}
use Rattle.std.specs.List.{list_any}
use Rattle.std.specs.Option.{option_map, option_map_or}
use Rattle.std.specs.Str.{bytes_eq}
use Rattle.net_types.specs.declared.number.Mark.{Mark}
use Rattle.link_model.specs.declared.entries.Entry.{Entry}
use Rattle.link_model.specs.declared.frames.Frame.{Frame}

-- the entries in the order of their entering, and the frames in the order of their making
pub record Books : Type 0 where
  pub entries : List Entry
  pub frames : List Frame

-- whether two marks are the same
abbrev pub same_mark : Mark → Mark → Bool
same_mark a b = (a.packet == b.packet) && (a.frame == b.frame)

-- whether an entry has the mark
abbrev pub has_entry : List Entry → Mark → Bool
has_entry entries mark = list_any (λ entry. same_mark entry.mark mark) entries

-- the payload of the last frame that was made under the mark
abbrev pub payload_of : List Frame → Mark → Option (List ℕ)
payload_of frames mark = option_map (λ frame. frame.payload) (find (λ frame. same_mark frame.mark mark) (reverse frames))

-- whether that payload is this one
abbrev pub is_frame : List Frame → Mark → (payload : List ℕ) → Bool
is_frame frames mark payload = option_map_or (λ kept. bytes_eq kept payload) (payload_of frames mark) false
