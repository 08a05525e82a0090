-- channels of the control link; the numbering is this project's own

use Rattle.std.specs.Prelude.{◌+◌, ◌*◌, ◌==◌, Bool, ◌&&◌}
use Rattle.net_types.specs.declared.node.PortNo.{PortNo}
use Rattle.net_types.specs.declared.channel.Channel.{Channel}

-- the default channel of a link: 0/15 (RFC 1954)
abbrev pub is_default_channel : Channel → Bool
is_default_channel channel = channel.vpi == 0 && channel.vci == 15

-- channel x/v of port p is channel (16p + x)/v of the control link
abbrev pub channel_on_control : PortNo → Channel → Channel
channel_on_control port channel = record { vpi = 16 * port.0 + channel.vpi; vci = channel.vci }
