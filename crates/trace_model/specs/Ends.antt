-- whether two nodes, two ports, two channels or two channels at ports are the same

use Rattle.std.specs.Prelude.{Bool, ◌&&◌, ◌==◌}
use Rattle.std.specs.Str.{bytes_eq}
use Rattle.net_types.specs.declared.channel.Channel.{Channel}
use Rattle.trace_model.specs.declared.end.NodeName.{NodeName}
use Rattle.trace_model.specs.declared.end.TraceEnd.{TraceEnd}
use Rattle.trace_model.specs.declared.end.TraceLabel.{TraceLabel}

abbrev pub same_node : NodeName → NodeName → Bool
same_node a b = bytes_eq a.0 b.0

abbrev pub same_end : TraceEnd → TraceEnd → Bool
same_end a b = same_node a.node b.node && (a.port.0 == b.port.0)

abbrev pub same_channel : Channel → Channel → Bool
same_channel a b = (a.vpi == b.vpi) && (a.vci == b.vci)

abbrev pub same_label : TraceLabel → TraceLabel → Bool
same_label a b = same_end a.end b.end && same_channel a.channel b.channel
