-- The plain machine: what a switch makes of commands whose ports are all up and whose sessions are all
-- right (RFC 1987). The names and the order of the failures are this project's own.

use Rattle.std.specs.Prelude.{ℕ, Bool, false, not, ◌||◌, ◌&&◌, ◌==◌, nat_le, List, [], ◌∷◌, fold, find, Option, None, Some, is_none}
use Rattle.std.specs.FinMap.{FinMap, empty, get, insert, remove, retain_keys}
use Rattle.std.specs.List.{list_all}
use Rattle.std.specs.Option.{option_map_or}
use Rattle.net_types.specs.declared.node.PortNo.{PortNo}
use Rattle.net_types.specs.declared.channel.End.{End}
use Rattle.crossbar_model.specs.Channels.{end_cmp, is_link_channel}
use Rattle.crossbar_model.specs.Crossbar.{same_end}
use Rattle.gsmp_wire.specs.declared.request.Request.{Request}
use Rattle.gsmp_wire.specs.declared.request.Request.TheVariants.{AddBranch, MoveBranch, DeleteTree, VerifyTree, DeleteAll}
use Rattle.world_model.specs.gsmp_wire.declared.failure.Failure.{Failure}
use Rattle.world_model.specs.gsmp_wire.declared.failure.Failure.TheVariants.{NoPort, OutOfRange, Busy, NoConnection}
use Rattle.world_model.specs.Answers.{failure_code}
use Rattle.world_model.specs.Failures.{leads_elsewhere, named_ends, named_ports}
use Rattle.console_model.specs.declared.reply.Reply.{Reply}
use Rattle.console_model.specs.declared.reply.Reply.TheVariants.{Done, Failed, At}

-- where each input leads that leads somewhere
abbrev pub Links : Type 0
Links = FinMap end_cmp End

-- *A failure*: the ports are 1 to so many, and on each the channels are VCI 15 and 32 to 1023
abbrev pub is_port : (ports : ℕ) → PortNo → Bool
is_port ports port = nat_le 1 port.0 && nat_le port.0 ports

abbrev pub is_busy : Links → Request → Bool
is_busy m (AddBranch input output) = leads_elsewhere output (get m input)
is_busy m command = false

abbrev pub leads_there : (from to : End) → Option End → Bool
leads_there from to found = option_map_or (λ output. same_end output from || same_end output to) found false

abbrev pub lacks_branch : Links → Request → Bool
lacks_branch m (VerifyTree input) = is_none (get m input)
lacks_branch m (MoveBranch input from to) = not (leads_there from to (get m input))
lacks_branch m command = false

abbrev pub applies : (ports : ℕ) → Links → Request → Failure → Bool
applies ports m command NoPort = not (list_all (is_port ports) (named_ports command))
applies ports m command OutOfRange = not (list_all (λ end. is_link_channel 1 end.channel) (named_ends command))
applies ports m command Busy = is_busy m command
applies ports m command NoConnection = lacks_branch m command
applies ports m command failure = false

-- the first that applies
abbrev pub failure_of : (ports : ℕ) → Links → Request → Option Failure
failure_of ports m command = find (applies ports m command) (NoPort ∷ OutOfRange ∷ Busy ∷ NoConnection ∷ [])

-- *An answer*: Verify Tree tells where its input leads
abbrev pub told_end : Option End → Reply
told_end None = Done
told_end (Some output) = At output

abbrev pub success : Links → Request → Reply
success m (VerifyTree input) = told_end (get m input)
success m command = Done

abbrev pub answer_by : Links → Request → Option Failure → Reply
answer_by m command (Some failure) = Failed (failure_code failure)
answer_by m command None = success m command

abbrev pub answer : (ports : ℕ) → Links → Request → Reply
answer ports m command = answer_by m command (failure_of ports m command)

-- *What a command leaves*: one that fails changes nothing
abbrev pub changed : Links → Request → Links
changed m (AddBranch input output) = insert m input output
changed m (MoveBranch input from to) = insert m input to
changed m (DeleteTree input) = remove m input
changed m (DeleteAll port) = retain_keys m (λ input. not (input.port.0 == port.0))
changed m command = m

abbrev pub after_by : Links → Request → Option Failure → Links
after_by m command (Some failure) = m
after_by m command None = changed m command

abbrev pub after : (ports : ℕ) → Links → Request → Links
after ports m command = after_by m command (failure_of ports m command)

-- *The map* after some commands, from the empty one on, and their answers, each on the map before it
abbrev pub map_after : (ports : ℕ) → List Request → Links
map_after ports commands = fold (after ports) empty commands

abbrev pub answers_on : (ports : ℕ) → Links → List Request → List Reply
answers_on ports m [] = []
answers_on ports m (command ∷ commands) = answer ports m command ∷ answers_on ports (after ports m command) commands

abbrev pub answers_of : (ports : ℕ) → List Request → List Reply
answers_of ports commands = answers_on ports empty commands
