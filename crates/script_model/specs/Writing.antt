-- A line's text: the lines of the language the other way round

use Rattle.std.specs.Prelude.{ℕ, List, [], ◌∷◌, codes, decimal, Option, None, Some}
use Rattle.net_types.specs.Prefix.{Network}
use Rattle.world_model.specs.ipv4_forward.declared.table.Next.{Next}
use Rattle.world_model.specs.ipv4_forward.declared.table.Next.TheVariants.{Local, Via}
use Rattle.rule_model.specs.lab_text.Text.{hex_digits, line_of}
use Rattle.world_model.specs.network_model.declared.event.Event.{Event}
use Rattle.world_model.specs.network_model.declared.event.Event.TheVariants as event
use Rattle.world_model.specs.network_model.declared.line.TopologyLine.{TopologyLine}
use Rattle.world_model.specs.network_model.declared.line.TopologyLine.TheVariants as lines
use Rattle.world_model.specs.Topology.{Topology}
use Rattle.script_model.specs.declared.line.Line.{Line}
use Rattle.script_model.specs.declared.line.Line.TheVariants.{Blank, Topology as TopologyIs, Event as EventComes, TickAll, Run}
use Rattle.script_model.specs.Texts.{address_text, prefix_text, channel_text, label_text, name_of, port_text, end_text, place_text}

-- the words of a topology line; its labels are written as the topology's version wants
abbrev pub topology_words : Topology → TopologyLine → List (List ℕ)
topology_words topology (lines.Node name address) = codes "node" ∷ name ∷ address_text address ∷ []
topology_words topology (lines.Cells name cells) = codes "cells" ∷ name ∷ decimal cells ∷ []
topology_words topology (lines.Labels name port lo hi) =
    codes "labels" ∷ name ∷ port_text port ∷ label_text topology lo ∷ label_text topology hi ∷ []
topology_words topology (lines.Link first second) =
    codes "link" ∷ end_text first.0 first.1 ∷ end_text second.0 second.1 ∷ []
topology_words topology (lines.RouteVia name prefix port) =
    codes "route" ∷ name ∷ prefix_text prefix ∷ codes "via" ∷ port_text port ∷ []
topology_words topology (lines.RouteLocal name prefix) =
    codes "route" ∷ name ∷ prefix_text prefix ∷ codes "local" ∷ []
topology_words topology (lines.PolicyXy x y) = codes "policy" ∷ codes "xy" ∷ decimal x ∷ decimal y ∷ []
topology_words topology lines.PolicyNever = codes "policy" ∷ codes "never" ∷ []
topology_words topology (lines.Timers lifetime refresh idle) =
    codes "timers" ∷ decimal lifetime ∷ decimal refresh ∷ decimal idle ∷ []
topology_words topology (lines.Version version) = codes "version" ∷ decimal version ∷ []

abbrev pub change_words : (name : List ℕ) → Network → Option Next → List (List ℕ)
change_words name prefix (Some (Via port)) =
    codes "setroute" ∷ name ∷ prefix_text prefix ∷ codes "via" ∷ port_text port ∷ []
change_words name prefix (Some Local) = codes "setroute" ∷ name ∷ prefix_text prefix ∷ codes "local" ∷ []
change_words name prefix None = codes "unroute" ∷ name ∷ prefix_text prefix ∷ []

abbrev pub event_words : Topology → Event → List (List ℕ)
event_words topology (event.Inject node octets) = codes "send" ∷ name_of topology node ∷ hex_digits octets ∷ []
event_words topology (event.Carry place) = codes "carry" ∷ place_text topology place ∷ []
event_words topology (event.Lose place) = codes "lose" ∷ place_text topology place ∷ []
event_words topology (event.Tick node) = codes "tick" ∷ name_of topology node ∷ []
event_words topology (event.TickSwitch node) = codes "tickswitch" ∷ name_of topology node ∷ []
event_words topology (event.Restart node) = codes "restart" ∷ name_of topology node ∷ []
event_words topology (event.RestartSwitch node) = codes "restartswitch" ∷ name_of topology node ∷ []
event_words topology (event.Forge place channel payload) =
    codes "forge" ∷ place_text topology place ∷ channel_text channel ∷ hex_digits payload ∷ []
event_words topology (event.Route node change) = change_words (name_of topology node) change.prefix change.next

-- a blank line has no words
abbrev pub line_words : Topology → Line → List (List ℕ)
line_words topology Blank = []
line_words topology (TopologyIs line) = topology_words topology line
line_words topology (EventComes event) = event_words topology event
line_words topology TickAll = codes "tick" ∷ codes "*" ∷ []
line_words topology (Run rounds) = codes "run" ∷ decimal rounds ∷ []

-- with its end
abbrev pub line_text_of : Topology → Line → List ℕ
line_text_of topology line = line_of (line_words topology line)
