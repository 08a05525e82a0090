-- a word that is no reclaim, and where a cell of a default channel stands

use Rattle.std.proofs.Common.{◌≡◌, Bool, true, List, ◌++◌}
use Rattle.std.specs.Prelude.{Contains}
use Rattle.std.proofs.Common.{inl, inr}
use Rattle.std.proofs.lemmas.List.Elements.{Contains-append_cases}
use Rattle.law_frame_readings.specs.world_model.Words.{Channel, Down, Up, Out, Cell, default_channel, default_home, same_channel, World, queue_at, chain_at, on_channel, on_default_channel}
use Rattle.law_label_line.specs.Cells as lines
use Rattle.law_label_line.specs.Law.{IsNoReclaim}
use Rattle.law_frame_readings.specs.world_model.network_model.declared.link.LinkEnd.{LinkEnd}
use Rattle.law_frame_readings.specs.law_shown_cells.Label.{erased}
use Rattle.law_unused_labels.proofs.Reading.{filtered}

pub erased_reclaim : (w : lines.Cell) → IsNoReclaim w → IsNoReclaim (erased w)
erased_reclaim (lines.Labelled flow) none = tt
erased_reclaim (lines.Default last message) none = none

-- *Where a cell of a default channel stands*
pub by_place : {Q : Type 0} (w : World) (from to : LinkEnd) (cell : Cell) → Contains (on_default_channel w from to) cell
    → (Contains (chain_at w to) cell → Q)
    → (Contains (queue_at w (Up to.node)) cell → same_channel cell.header.channel (default_home to.port).channel ≡ true → Q)
    → (Contains (queue_at w (Out from.node from.port)) cell → same_channel cell.header.channel default_channel ≡ true → Q)
    → (Contains (queue_at w (Down from.node)) cell → same_channel cell.header.channel (default_home from.port).channel ≡ true → Q) → Q
by_place {Q} w from to cell has in_chain in_up in_out in_down = elim (Contains-append_cases (chain_at w to) rest_0 cell has) [
  | inl chained ↦ in_chain chained
  | inr more ↦ elim (Contains-append_cases up_cells rest_1 cell more) [
    | inl up ↦ (let f : _ = filtered (on (default_home to.port).channel) (queue_at w (Up to.node)) cell up in in_up f.0 f.1)
    | inr more ↦ elim (Contains-append_cases out_cells down_cells cell more) [
      | inl out ↦ (let f : _ = filtered (on default_channel) (queue_at w (Out from.node from.port)) cell out in in_out f.0 f.1)
      | inr down ↦ (let f : _ = filtered (on (default_home from.port).channel) (queue_at w (Down from.node)) cell down in in_down f.0 f.1)
    ]
  ]
]
  where
    on : Channel → Cell → Bool
    on channel c = same_channel c.header.channel channel

    up_cells : List Cell
    up_cells = on_channel (default_home to.port).channel (queue_at w (Up to.node))

    out_cells : List Cell
    out_cells = on_channel default_channel (queue_at w (Out from.node from.port))

    down_cells : List Cell
    down_cells = on_channel (default_home from.port).channel (queue_at w (Down from.node))

    rest_1 : List Cell
    rest_1 = out_cells ++ down_cells

    rest_0 : List Cell
    rest_0 = up_cells ++ rest_1
