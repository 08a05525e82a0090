-- What is on its way between two ends that agree is heard in a network, and they agree

use Rattle.std.specs.Prelude.{◌≢◌, List, ◌∷◌}
use Rattle.world_model.specs.Words.{Up, Topology, World, next}
use Rattle.world_model.specs.ifmp_wire.declared.message.Message.{Message}
use Rattle.world_model.specs.network_model.declared.link.LinkEnd.{LinkEnd}
use Rattle.world_model.specs.network_model.declared.event.Event.TheVariants.{Carry}
pub use Rattle.law_live_messages.specs.Heard.{PortHears, acting}
use Rattle.law_live_worlds.specs.Law.{AgreeIn}

-- *One hears the first* that is on its way to it, from the other's node: then they agree on the rest
abbrev pub HearingsKeepAgreement : Type 0
HearingsKeepAgreement = (topology : Topology) (w : World) (one far : LinkEnd) (message : Message) (said far_said : List Message) → one.node.0 ≢ far.node.0
    → (agree : AgreeIn w one far (message ∷ said) far_said) → PortHears topology w far agree.shows.site.controller.address message
    → AgreeIn (next topology w (Carry (Up far.node))) one far said far_said
