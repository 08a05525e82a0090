-- A message of IFMP comes to a port from a source address (RFC 1953)

use Rattle.std.specs.Prelude.{ℕ, Option, None, Some, if◌then◌else◌}
use Rattle.net_types.specs.declared.prefix.Addr.{Addr}
use Rattle.net_types.specs.Label.{label_number_of}
use Rattle.ifmp_wire.specs.declared.message.Message.{Message}
use Rattle.ifmp_wire.specs.declared.message.Message.TheVariants.{Adjacency, Redirect, Reclaim, ReclaimAck, LabelRange, Error}
use Rattle.port_model.specs.Desk.{Desk}
use Rattle.port_model.specs.Setup.{Setup}
use Rattle.port_model.specs.Labels.{Label}
use Rattle.port_model.specs.Grants.{acceptance, grant_on}
use Rattle.port_model.specs.Port.{Port, Work, label_at}
use Rattle.port_model.specs.Redirection.{takes, expects, redirected}
use Rattle.port_model.specs.Adjacency.{greeted}
use Rattle.port_model.specs.Reclaiming.{reclaimed, acknowledged, ranged, error_comes}

-- the label that a message names by its channel, if the port holds it
abbrev pub label_by : Port → (number : Option ℕ) → Option Label
label_by port None = None
label_by port (Some number) = label_at port number

abbrev pub hears : Setup → Desk → Work → Addr → Message → Work
hears setup desk w source (Adjacency hello) = greeted setup desk w source hello
hears setup desk w source (Redirect sender peer number lifetime channel flow) =
    if takes w.port source sender peer number
    then redirected setup desk (expects w number) channel flow lifetime (acceptance setup w.port.grants channel flow)
    else w
hears setup desk w source (Reclaim sender peer number channel flow) =
    if takes w.port source sender peer number
    then reclaimed setup (expects w number) channel flow (grant_on w.port.grants (label_number_of channel))
    else w
hears setup desk w source (ReclaimAck sender peer number channel flow) =
    if takes w.port source sender peer number
    then acknowledged setup desk (expects w number) flow (label_by w.port (label_number_of channel))
    else w
hears setup desk w source (LabelRange sender peer number least greatest) =
    if takes w.port source sender peer number then ranged setup (expects w number) least greatest else w
hears setup desk w source (Error sender peer number code channel) =
    if takes w.port source sender peer number
    then error_comes setup (expects w number) code (label_by w.port (label_number_of channel))
    else w
