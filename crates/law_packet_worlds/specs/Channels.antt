-- On which channels cells stand

use Rattle.std.specs.Prelude.{◌≡◌, true, false, Contains, Some}
use Rattle.law_arrival_views.specs.world_model.Words.{Place, is_label_channel, Cell, default_channel, same_channel, is_linked, IsPlace, queue_at, Past}
use Rattle.law_arrival_views.specs.world_model.network_model.declared.link.LinkEnd.{LinkEnd}
use Rattle.law_run_facts.specs.law_world_views.Marks.{heading_at}

-- *Channels*: a cell that isn't on a default channel is on a label's, of a port of a link
abbrev pub HasChannels : Past → Type 0
HasChannels past =
    (place : Place) (cell : Cell) → IsPlace past.topology place → Contains (queue_at past.now place) cell
    → same_channel (heading_at past.topology place cell.header.channel).channel default_channel ≡ false
    → (is_label_channel (heading_at past.topology place cell.header.channel).channel ≡ true)
    × ((far : LinkEnd) → (heading_at past.topology place cell.header.channel).end ≡ Some far → is_linked past.topology far.node far.port ≡ true)
