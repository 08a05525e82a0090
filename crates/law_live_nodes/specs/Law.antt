-- What a tick leaves of a controller that hears its switch and its peers, and of whose requests none stands

use Rattle.std.specs.Prelude.{◌≡◌, ◌+◌, ◌<◌, false, List, [], ◌∷◌, fold}
use Rattle.std.specs.Option.{option_map_or}
use Rattle.world_model.specs.Words.{Ack, Estab, said, greeting_of, Action, Say, Session, Work, Linked, port_key, with_linked, says_gsmp, says_ifmp, tries_joins}
use Rattle.world_model.specs.adjacency_table.Table.{silence_limit}
use Rattle.world_model.specs.gsmp_wire.declared.message.Message.TheVariants.{Adjacency}
use Rattle.world_model.specs.ifmp_wire.declared.message.Message.{Message}
use Rattle.world_model.specs.Controller.{Acted}
use Rattle.world_model.specs.Ticks.{ticks}
use Rattle.law_port_facts.specs.ordered_lists.Ordered.{Every, InOrder}
use Rattle.law_live_ticks.specs.Law.{IsAtPeace, next_port, ticked_on}

-- *A port at peace*, before it works
abbrev pub idle_work : Linked → Work
idle_work linked = record { port = linked.port; actions = []; halted = false; instances = 0 }

pub record IsPortAtPeace (linked : Linked) : Type 0 where
  pub session : Session
  pub peace : IsAtPeace linked.setup (idle_work linked) session

-- *A controller at peace*
pub record IsNodeAtPeace (a : Acted) : Type 0 where
  pub up : a.controller.adjacency.state ≡ Estab
  pub heard : a.controller.adjacency.silence < silence_limit
  pub nothing_asked : a.controller.desk.standing ≡ []
  pub ports : Every IsPortAtPeace a.controller.ports
  pub ports_apart : InOrder (λ (x y : Linked). port_key x < port_key y) a.controller.ports

-- *A port ticks*: it is left so, and says these messages
abbrev pub ticked_port : Linked → Linked
ticked_port linked =
    option_map_or (λ s. record linked { port = next_port linked.setup (idle_work linked) s }) linked.port.session linked

abbrev pub told_by : List Action → List Message
told_by [] = []
told_by (Say message ∷ actions) = message ∷ told_by actions
told_by (action ∷ actions) = told_by actions

abbrev pub messages_of : Linked → List Message
messages_of linked = option_map_or (λ s. told_by (ticked_on linked.setup (idle_work linked) s).actions) linked.port.session []

abbrev pub port_ticks : Acted → Linked → Acted
port_ticks a linked = fold (says_ifmp linked.setup.port) (with_linked a (ticked_port linked)) (messages_of linked)

-- *The whole*: the switch is greeted, then each port ticks, and then joins are tried
abbrev pub greeted : Acted → Acted
greeted a = says_gsmp
    (record a { controller = record a.controller { adjacency = record a.controller.adjacency { silence = a.controller.adjacency.silence + 1 } } })
    (Adjacency (greeting_of (said a.controller.adjacency Ack)))

abbrev pub NodesTickOn : Type 0
NodesTickOn = (a : Acted) → IsNodeAtPeace a → ticks a ≡ tries_joins (fold port_ticks (greeted a) a.controller.ports)
