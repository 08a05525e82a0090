-- Which requests of GSMP speak of one input, and which takes the place of which. The second is this
-- project's own: at most one request stands on an input.

use Rattle.std.specs.Prelude.{Bool, false, ◌==◌, ◌&&◌, ◌||◌, Option, None, Some}
use Rattle.std.specs.Option.{option_map_or}
use Rattle.net_types.specs.declared.node.PortNo.{PortNo}
use Rattle.net_types.specs.declared.channel.End.{End}
use Rattle.gsmp_wire.specs.declared.request.Request.{Request}
use Rattle.gsmp_wire.specs.declared.request.Request.TheVariants.{AddBranch, MoveBranch, DeleteTree, VerifyTree, DeleteAll}
use Rattle.crossbar_model.specs.Crossbar.{same_end}

-- the input channel that a request is on
abbrev pub request_input : Request → Option End
request_input (AddBranch input output) = Some input
request_input (MoveBranch input from to) = Some input
request_input (DeleteTree input) = Some input
request_input (VerifyTree input) = Some input
request_input request = None

abbrev pub is_on : End → Request → Bool
is_on input request = option_map_or (same_end input) (request_input request) false

-- it is on an input of a port
abbrev pub is_on_port : PortNo → Request → Bool
is_on_port port request = option_map_or (λ input. input.port.0 == port.0) (request_input request) false

abbrev pub is_delete_all : PortNo → Request → Bool
is_delete_all port (DeleteAll other) = other.0 == port.0
is_delete_all port request = false

-- a request that is asked withdraws what stands on its input; Delete All of a port, what stands on
-- inputs of the port, and an earlier one of the port, so that at most one stands
abbrev pub withdraws : (asked standing : Request) → Bool
withdraws (DeleteAll port) standing = is_on_port port standing || is_delete_all port standing
withdraws asked standing = option_map_or (λ input. is_on input standing) (request_input asked) false

-- a request that leads an input to the control link, where `home` is its channel there: Move Branch to
-- it, Delete Tree, Delete All of the port
abbrev pub leads_home : (input home : End) → Request → Bool
leads_home input home (MoveBranch moved from to) = same_end moved input && same_end to home
leads_home input home (DeleteTree deleted) = same_end deleted input
leads_home input home (DeleteAll port) = port.0 == input.port.0
leads_home input home request = false
