-- Which messages of IFMP a port takes, and what a redirection message makes of it that is taken

use Rattle.std.specs.Prelude.{Bool, true, false, not, ◌&&◌}
use Rattle.net_types.specs.declared.prefix.Addr.{Addr}
use Rattle.net_types.specs.declared.adjacency.Hello.{Hello}
use Rattle.net_types.specs.Label.{label_number_of}
use Rattle.adjacency_table.specs.declared.message.Answer.{Answer}
use Rattle.adjacency_table.specs.declared.message.Answer.TheVariants.{Quiet}
use Rattle.adjacency_table.specs.Hello.{heard_from, ifmp_received}
use Rattle.ifmp_wire.specs.declared.message.Message.{Message}
use Rattle.ifmp_wire.specs.declared.message.Message.TheVariants.{Adjacency, Redirect, Reclaim, ReclaimAck, LabelRange, Error}
use Rattle.ifmp_wire.specs.Message.{names_of}
use Rattle.port_model.specs.Desk.{Desk}
use Rattle.port_model.specs.Setup.{Setup}
use Rattle.port_model.specs.Grants.{acceptance, grant_on}
use Rattle.port_model.specs.Port.{Port, Work}
use Rattle.port_model.specs.Hearing.{label_by}
use Rattle.port_model.specs.Adjacency.{is_good}
use Rattle.port_model.specs.Redirection.{redirected, takes}
use Rattle.port_model.specs.Reclaiming.{acknowledged, error_comes, ranged, reclaimed}

abbrev pub is_redirection : Message → Bool
is_redirection (Adjacency hello) = false
is_redirection message = true

-- a redirection message that is taken
abbrev pub follows : Setup → Desk → Work → Message → Work
follows setup desk w (Adjacency hello) = w
follows setup desk w (Redirect sender peer number lifetime channel flow) =
    redirected setup desk w channel flow lifetime (acceptance setup w.port.grants channel flow)
follows setup desk w (Reclaim sender peer number channel flow) =
    reclaimed setup w channel flow (grant_on w.port.grants (label_number_of channel))
follows setup desk w (ReclaimAck sender peer number channel flow) =
    acknowledged setup desk w flow (label_by w.port (label_number_of channel))
follows setup desk w (LabelRange sender peer number least greatest) = ranged setup w least greatest
follows setup desk w (Error sender peer number code channel) =
    error_comes setup w code (label_by w.port (label_number_of channel))

-- *A message that is ignored*: a redirection message that isn't taken; a message of the adjacency upon
-- which the table says nothing, and which isn't a good ACK
abbrev pub is_quiet : {M K : Type 0} → Answer M K → Bool
is_quiet Quiet = true
is_quiet answer = false

abbrev pub is_idle : Port → Addr → Hello → Bool
is_idle port source hello =
    let step = ifmp_received port.adjacency source hello in
    is_quiet step.answer && not (is_good port.adjacency step.side (heard_from source hello))

abbrev pub is_ignored : Port → Addr → Message → Bool
is_ignored port source (Adjacency hello) = is_idle port source hello
is_ignored port source message =
    let names = names_of message in
    not (takes port source names.sender names.peer names.number)
