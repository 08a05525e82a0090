-- When all that a tick of a controller does may be done, as the line of an input tells

use Rattle.std.specs.Prelude.{◌≡◌, true, flat_map, Option, None, Some}
use Rattle.law_input_views.specs.world_model.Words.{End, PortNo, number_of_channel, ticked, gsmp_answer, MoveBranch, sent_again, home_of, Label, linked_at, join_for, may_join, enters_grant, enters_label, label_on, tries_join, inputs_at, sends_again, ticks_port, ticks_ports}
use Rattle.law_input_views.specs.ordered_lists.Ordered.{Every}
use Rattle.law_input_views.specs.world_model.port_model.Joins as port_joins
use Rattle.law_input_views.specs.world_model.port_model.Ticks as port_ticks
use Rattle.law_input_views.specs.world_model.Controller.{Acted, ports_of}
use Rattle.law_input_views.specs.world_model.Gsmp.{steps}
use Rattle.law_input_views.specs.world_model.Joins.{Join, output_joined}
use Rattle.law_input_steps.specs.Asking.{CanEach, MayAsk, CanApply, IsReady}
use Rattle.law_input_steps.specs.Hearing.{Reads}

-- a port ticks
abbrev pub CanTickPort : (input : End) → Acted → PortNo → Type 0
CanTickPort input a port = CanApply input a port_ticks.ticks (linked_at a.controller port)

-- *A join* is entered at the grant and at the label, and Move Branch is asked
pub record CanEnter (input : End) (a : Acted) (join : Join) : Type 0 where
  pub grant : CanApply input a (λ setup desk w. port_joins.lent w join.grant join.input) (linked_at a.controller join.port)
  pub label : CanApply input (enters_grant a join) (λ setup desk w. port_joins.joined w (number_of_channel join.input.channel) (output_joined join))
      (linked_at (enters_grant a join).controller join.input.port)
  pub asks : MayAsk input (enters_label (enters_grant a join) join) (MoveBranch join.input (home_of join.input) (output_joined join))

abbrev pub CanJoin : (input : End) → Acted → Option Join → Type 0
CanJoin input a None = Unit {0}
CanJoin input a (Some join) = CanEnter input a join

abbrev pub CanJoinLabel : (input : End) → Acted → (joined : End) → Option Label → Type 0
CanJoinLabel input a joined None = Unit {0}
CanJoinLabel input a joined (Some label) = may_join a.controller joined label ≡ true → CanJoin input a (join_for a.controller joined label.flow)

abbrev pub CanTryJoin : (input : End) → Acted → (joined : End) → Type 0
CanTryJoin input a joined = CanJoinLabel input a joined (label_on a.controller joined)

-- *A tick*: the adjacency with the switch, the requests that stand, each port, joins
abbrev pub after_steps : Acted → Acted
after_steps a = steps a (ticked a.controller.adjacency)

abbrev pub after_again : Acted → Acted
after_again a = sends_again (after_steps a)

abbrev pub after_ports : Acted → Acted
after_ports a = ticks_ports (after_again a)

pub record CanTick (input : End) (a : Acted) : Type 0 where
  pub reads : Reads (gsmp_answer (ticked a.controller.adjacency).answer)
  pub again : Every (IsReady (after_steps a).controller.desk) (sent_again (after_steps a).controller.desk)
  pub ports : CanEach ticks_port (CanTickPort input) (after_again a) (ports_of (after_again a).controller)
  pub joins : CanEach tries_join (CanTryJoin input) (after_ports a) (flat_map inputs_at (after_ports a).controller.ports)
