-- What is so of each label of each link in a network of a run, between its events: that it is owned

use Rattle.std.specs.Prelude.{◌≡◌, true, Contains, Some}
use Rattle.law_frame_readings.specs.world_model.Words.{Down, Cell, names_of, Standing, IsLinkPort, Setup, default_channel, same_channel, IsTopology, World, queue_at, side_at, on_the_way, on_default_channel, ifmp_under, copy_under, Past, Way, IsWay, IsOwn, WasCleared, AreOwned}
use Rattle.law_frame_readings.specs.world_model.ifmp_wire.declared.message.Message.{Message}
use Rattle.law_frame_readings.specs.ordered_lists.Ordered.{Every}
use Rattle.law_frame_readings.specs.world_model.network_model.declared.link.LinkEnd.{LinkEnd}
use Rattle.law_frame_readings.specs.law_controller_facts.Sound.{IsSound}
use Rattle.law_run_facts.specs.law_controller.Match.{IsMatched}
use Rattle.law_frame_readings.specs.law_world_views.Tied.{tells_its_own}
use Rattle.law_frame_readings.specs.law_world_views.Between.{EachSite, IsWorld, setups_of}
use Rattle.law_run_facts.specs.law_controller_facts.claims_model.Order.{AreInOrder}

-- a network of a run whose controllers are sound, with joins and grants that match
pub record IsKept (past : Past) : Type 0 where
  pub topology_is : IsTopology past.topology
  pub world : IsWorld past
  pub sound : EachSite past.now (λ node site. IsSound (setups_of site.controller) site.controller)
  pub links : EachSite past.now (λ node site. Every (λ (setup : Setup). IsLinkPort setup.port) (setups_of site.controller))
  pub matched : EachSite past.now (λ node site. IsMatched site.controller.ports site.controller.desk)

-- *Channels of their own*: each message of IFMP of its sender's own words, with the instance that the sender has, is on the
-- default channel of its way; and each copy of a request is on GSMP's channel
abbrev pub HasOwnTold : World → (from to : LinkEnd) → Type 0
HasOwnTold w from to =
    (cell : Cell) (message : Message) → Contains (on_the_way w from to) cell → ifmp_under w.notes.frames cell.mark ≡ Some message
    → tells_its_own message ≡ true → IsOwn (names_of message).sender (side_at w from) → Contains (on_default_channel w from to) cell

-- so is one with an instance under which its sender's end was cleared, also where the end has drawn another since
abbrev pub HasClearedTold : Past → (from to : LinkEnd) → Type 0
HasClearedTold past from to =
    (cell : Cell) (message : Message) → Contains (on_the_way past.now from to) cell
    → ifmp_under past.now.notes.frames cell.mark ≡ Some message → tells_its_own message ≡ true
    → WasCleared past from (names_of message).sender.0 → Contains (on_default_channel past.now from to) cell

pub record HasOwnWays (past : Past) : Type 0 where
  pub copies : (way : Way) → IsWay past.topology way → (cell : Cell) (s : Standing) → Contains (queue_at past.now (Down way.up.node)) cell
      → copy_under past.now.notes.frames cell.mark ≡ Some s → same_channel cell.header.channel default_channel ≡ true
  pub told : (way : Way) → IsWay past.topology way → HasOwnTold past.now way.down way.up × HasOwnTold past.now way.up way.down
  pub cleared : (way : Way) → IsWay past.topology way → HasClearedTold past way.down way.up × HasClearedTold past way.up way.down

-- *Each label of each link is owned*
abbrev pub LabelsAreOwned : Type 0
LabelsAreOwned = (past : Past) → IsKept past → HasOwnWays past → AreOwned past

abbrev pub WaysAreInOrder : Type 0
WaysAreInOrder = (past : Past) → IsKept past → HasOwnWays past → AreInOrder past
