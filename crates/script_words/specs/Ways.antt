-- a route that a line names

use Rattle.ipv4_forward.specs.declared.table.Next.{Next}
use Rattle.ipv4_forward.specs.declared.table.Next.TheVariants.{Local, Via}
use Rattle.net_types.specs.Prefix.{Network}
use Rattle.script_model.specs.Grammar.{Said, Describes, Routes}
use Rattle.std.specs.Prelude.{ℕ, List, Some}
use Rattle.script_model.specs.world_model.network_model.declared.line.TopologyLine.{TopologyLine}
use Rattle.script_model.specs.world_model.network_model.declared.line.TopologyLine.TheVariants as lines
use Rattle.script_model.specs.world_model.Conditions.{IsPort}
use Rattle.script_words.specs.declared.routes.Way.{Way}

-- as a line of the topology
abbrev pub route_described : (name : List ℕ) → Network → Next → TopologyLine
route_described name prefix (Via port) = lines.RouteVia name prefix port
route_described name prefix Local = lines.RouteLocal name prefix

abbrev pub way_described : Way → Said
way_described way = Describes (route_described way.name.now way.prefix way.next)

-- as a change
abbrev pub way_changed : Way → Said
way_changed way = Routes way.name.now way.prefix (Some way.next)

-- its port is 1 to 8
abbrev pub HasPortOf : Next → Type 0
HasPortOf (Via port) = IsPort port
HasPortOf Local = Unit {0}

abbrev pub HasPort : Way → Type 0
HasPort way = HasPortOf way.next
