-- Why a switch refuses a request: the first of these failures that applies (RFC 1987; their names
-- and order are this project's own)

use Rattle.std.specs.Prelude.{ℕ, Bool, true, false, not, ◌||◌, ◌==◌, List, [], ◌∷◌, map, find, Option, is_none}
use Rattle.std.specs.List.{list_all}
use Rattle.std.specs.Option.{option_map_or}
use Rattle.net_types.specs.declared.node.PortNo.{PortNo}
use Rattle.net_types.specs.declared.channel.End.{End}
use Rattle.crossbar_model.specs.Channels.{is_connectable}
use Rattle.crossbar_model.specs.Crossbar.{Branches, output_of, same_end}
use Rattle.switch_model.specs.declared.port.PortState.{PortState}
use Rattle.switch_model.specs.declared.request.Asked.{Asked}
use Rattle.gsmp_wire.specs.declared.request.Request.{Request}
use Rattle.gsmp_wire.specs.declared.request.Request.TheVariants.{AddBranch, MoveBranch, DeleteTree, VerifyTree, DeleteAll, PortManagement, AllPorts}
use Rattle.gsmp_wire.specs.declared.failure.Failure.{Failure}
use Rattle.gsmp_wire.specs.declared.failure.Failure.TheVariants.{NoPort, BadSession, PortDown, OutOfRange, Busy, NoConnection, SessionsSpent}
use Rattle.switch_model.specs.Switch.{has_port, has_session, is_up, numbers_of}

-- the channels that a request names
abbrev pub named_ends : Request → List End
named_ends (AddBranch input output) = input ∷ output ∷ []
named_ends (MoveBranch input from to) = input ∷ from ∷ to ∷ []
named_ends (DeleteTree input) = input ∷ []
named_ends (VerifyTree input) = input ∷ []
named_ends (DeleteAll port) = []
named_ends (PortManagement port function) = []
named_ends AllPorts = []

-- the ports that it names with a channel or without one
abbrev pub named_ports : Request → List PortNo
named_ports (DeleteAll port) = port ∷ []
named_ports (PortManagement port function) = port ∷ []
named_ports request = map (λ e. e.port) (named_ends request)

-- those that have to be up for it
abbrev pub used_ports : Request → List PortNo
used_ports (PortManagement port function) = []
used_ports request = named_ports request

-- it names the session of its first port
abbrev pub names_session : List PortState → (session : ℕ) → List PortNo → Bool
names_session ports session [] = true
names_session ports session (port ∷ others) = has_session ports port session

-- an input has a branch to another output
abbrev pub leads_elsewhere : (output : End) → Option End → Bool
leads_elsewhere output found = option_map_or (λ other. not (same_end other output)) found false

-- the branch that a request speaks of
abbrev pub is_busy : Branches → Request → Bool
is_busy m (AddBranch input output) = leads_elsewhere output (output_of m input)
is_busy m request = false

abbrev pub lacks_branch : Branches → Request → Bool
lacks_branch m (VerifyTree input) = is_none (output_of m input)
lacks_branch m (MoveBranch input from to) =
    not (option_map_or (λ output. same_end output from || same_end output to) (output_of m input) false)
lacks_branch m request = false

-- the greatest session is the port's last
abbrev pub is_last_session : (session : ℕ) → Request → Bool
is_last_session session (PortManagement port function) = session == 4294967295
is_last_session session request = false

-- whether a failure applies, where these are the ports, the VPIs of labels and the branches of the switch
abbrev pub applies : List PortState → (vpis : ℕ) → Branches → Asked → Failure → Bool
applies ports vpis m asked NoPort = not (list_all (has_port ports) (named_ports asked.request))
applies ports vpis m asked BadSession = not (names_session ports asked.session (named_ports asked.request))
applies ports vpis m asked PortDown = not (list_all (is_up ports) (used_ports asked.request))
applies ports vpis m asked OutOfRange = not (list_all (is_connectable (numbers_of ports) vpis) (named_ends asked.request))
applies ports vpis m asked Busy = is_busy m asked.request
applies ports vpis m asked NoConnection = lacks_branch m asked.request
applies ports vpis m asked SessionsSpent = is_last_session asked.session asked.request

-- the first that applies
abbrev pub failure_of : List PortState → (vpis : ℕ) → Branches → Asked → Option Failure
failure_of ports vpis m asked =
    find (applies ports vpis m asked)
    (NoPort ∷ BadSession ∷ PortDown ∷ OutOfRange ∷ Busy ∷ NoConnection ∷ SessionsSpent ∷ [])
