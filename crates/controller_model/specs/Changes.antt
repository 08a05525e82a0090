-- *Changes of routes*: they wait in order, and the first is begun once the switch is met. The joins whose
-- flows' route it changes are taken back, and when none is left the change is taken. The rule is this
-- project's own.

use Rattle.std.specs.Prelude.{Bool, true, false, not, ◌+◌, ◌&&◌, List, [], ◌∷◌, ◌++◌, filter, fold, if◌then◌else◌}
use Rattle.std.specs.List.{list_any}
use Rattle.port_model.specs.ipv4_packet.Parts.{flow_destination}
use Rattle.ipv4_forward.specs.Change.{changed}
use Rattle.ipv4_forward.specs.declared.change.RouteChange.{RouteChange}
use Rattle.ipv4_forward.specs.declared.table.Route.{Route}
use Rattle.frame_model.specs.link_model.declared.record.Record.TheVariants.{Routes}
use Rattle.controller_model.specs.Controller.{Controller, Acted, note}
use Rattle.controller_model.specs.Asking.{takes_back}
use Rattle.controller_model.specs.Joins.{Join, joins_of, output_joined}
use Rattle.controller_model.specs.Routes.{differs}

-- a join whose flow has another route after the change; the flow is that of its grant
abbrev pub is_changed : List Route → RouteChange → Join → Bool
is_changed table change join = differs table change (flow_destination join.grant.flow)

abbrev pub changed_joins : Controller → RouteChange → List Join
changed_joins c change = filter (is_changed c.table change) (joins_of c)

abbrev pub takes_join_back : Acted → Join → Acted
takes_join_back a join = takes_back a join.input (output_joined join)

-- it is begun, unless it is already
abbrev pub begins_change : Acted → RouteChange → Acted
begins_change a change =
    if a.controller.is_begun then a
    else fold takes_join_back (record a { controller = record a.controller { is_begun = true } }) (changed_joins a.controller change)

-- it is taken: the changed table is held, and the changes behind it wait
abbrev pub takes_change : Acted → RouteChange → (later : List RouteChange) → Acted
takes_change a change later =
    let taken : Acted = record a {
      controller = record a.controller {
        table = changed a.controller.table change;
        waiting = later;
        is_begun = false;
        changes = a.controller.changes + 1;
      };
    } in
    note taken (Routes a.controller.node (a.controller.changes + 1))

-- no join is left whose flow's route the change changes; nor was the node reset while joins were taken back
abbrev pub may_take : Controller → RouteChange → Bool
may_take c change = c.has_met && not (list_any (is_changed c.table change) (joins_of c))

-- the changes that wait, one after the other
abbrev pub takes_each : Acted → List RouteChange → Acted
takes_each a [] = a
takes_each a (change ∷ later) =
    let begun = begins_change a change in
    if may_take begun.controller change then takes_each (takes_change begun change later) later else begun

abbrev pub takes_changes : Acted → Acted
takes_changes a = if a.controller.has_met then takes_each a a.controller.waiting else a

-- a change comes
abbrev pub change_comes : Acted → RouteChange → Acted
change_comes a change =
    takes_changes (record a { controller = record a.controller { waiting = a.controller.waiting ++ change ∷ [] } })
