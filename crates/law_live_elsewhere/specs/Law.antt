-- What is carried elsewhere leaves what two ends agree on

use Rattle.std.specs.Prelude.{◌≡◌, ◌≢◌, ◌⊎◌, false, List, [], ◌∷◌}
use Rattle.world_model.specs.Words.{Place, Up, Cell, Topology, World, queue_at, next}
use Rattle.world_model.specs.ifmp_wire.declared.message.Message.{Message}
use Rattle.world_model.specs.network_model.declared.link.LinkEnd.{LinkEnd}
use Rattle.world_model.specs.network_model.declared.event.Event.TheVariants.{Carry}
use Rattle.law_live_worlds.specs.Law.{AgreeIn}

-- no cell waits at the head, or one that doesn't end a frame
abbrev pub EndsNoFrame : List Cell → Type 0
EndsNoFrame [] = Unit {0}
EndsNoFrame (cell ∷ cells) = cell.header.last ≡ false

-- *Elsewhere*: to a switch; to another controller than those of the two ends; or to any, where it ends no frame
abbrev pub IsElsewhere : World → (one far : LinkEnd) → Place → Type 0
IsElsewhere w one far (Up node) = ((node.0 ≢ one.node.0) × (node.0 ≢ far.node.0)) ⊎ EndsNoFrame (queue_at w (Up node))
IsElsewhere w one far place = Unit {0}

abbrev pub CarriesElsewhereKeepAgreement : Type 0
CarriesElsewhereKeepAgreement = (topology : Topology) (w : World) (one far : LinkEnd) (place : Place) (said far_said : List Message) → IsElsewhere w one far place
    → AgreeIn w one far said far_said → AgreeIn (next topology w (Carry place)) one far said far_said
