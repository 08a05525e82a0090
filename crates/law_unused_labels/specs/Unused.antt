-- A label that is spare or wired has no user, where what goes between controllers and switches is on its own channel

use Rattle.std.specs.Prelude.{◌≡◌, ℕ, true, Contains, Some}
use Rattle.law_causes.specs.world_model.Words.{Down, is_label_number, Cell, FlowId, Standing, Session, default_channel, same_channel, IsTopology, World, queue_at, session_at, copy_under, on_the_way, on_default_channel, Past, Way, IsWay, IsRedirect, IsUnused, IsSpareOrWired, held}
use Rattle.law_world_views.specs.Between.{IsWorld}

-- *Channels of their own*: each copy of a request waits for the switch on GSMP's channel, and each REDIRECT of a label
-- between the two ends of a link is on the default channel of its way
pub record HasOwnChannels (w : World) (way : Way) (label : ℕ) : Type 0 where
  pub copies : (cell : Cell) (s : Standing) → Contains (queue_at w (Down way.up.node)) cell → copy_under w.notes.frames cell.mark ≡ Some s
      → same_channel cell.header.channel default_channel ≡ true
  pub redirects : (cell : Cell) (flow : FlowId) → Contains (on_the_way w way.down way.up) cell → IsRedirect w way label cell.mark flow
      → Contains (on_default_channel w way.down way.up) cell

-- *Nobody uses* a label that is spare or wired in an open session
abbrev pub SpareLabelsAreUnused : Type 0
SpareLabelsAreUnused = (past : Past) → IsTopology past.topology → IsWorld past → (way : Way) → IsWay past.topology way → (label : ℕ)
    → is_label_number label ≡ true → HasOwnChannels past.now way label → (session : Session) → session_at past.now way.down ≡ Some session
    → IsSpareOrWired (held session label) → IsUnused past.now way label
