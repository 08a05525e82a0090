-- what is asked and answered is read as it was written

use Rattle.std.proofs.Common.{◌≡◌, ℕ, zero, suc, drop, ◌+◌, ◌<◌, ◌≤◌, ◌^◌, [], length, map, Option, None, Some, Result, Ok, Err, refl, arith, inr}
use Rattle.std.specs.Prelude.{slice_index}
use Rattle.std.specs.List.{range_with_len}
use Rattle.std.proofs.lemmas.List.{length-map}
use Rattle.std.proofs.lemmas.List.FromFn.{length-range_with_len}
use Rattle.world_model.specs.Words.{Greeting, Channel, End, PortNo, BranchKind, Add, Delete, Verify, Request, AddBranch, MoveBranch, DeleteTree, VerifyTree, PortManagement, Bits, Fits, FitsChannel, FitsRows, refusal, type_of, session_of, message_of, control_port}
use Rattle.world_model.specs.gsmp_wire.declared.fault.Fault.{Fault}
use Rattle.world_model.specs.gsmp_wire.declared.message.BranchKind.TheVariants.{DeleteAll as DeleteAllKind}
use Rattle.world_model.specs.gsmp_wire.declared.message.Message.{Message}
use Rattle.world_model.specs.gsmp_wire.declared.message.Message.TheVariants as messages
use Rattle.world_model.specs.gsmp_wire.declared.request.Request.TheVariants.{DeleteAll, AllPorts}
use Rattle.world_model.specs.gsmp_wire.Fields.{decoded, decoded_by}
use Rattle.world_model.specs.gsmp_wire.Layout.{octets_of}
use Rattle.law_gsmp_reading.specs.Said.{asks, succeeds, no_branch, all_asked, all_told}
use Rattle.law_gsmp_reading.proofs.Read.{message_is_read}
use Rattle.world_model.specs.Switch.{begun}
use Rattle.world_model.specs.Answers.{port_row}
use Rattle.console_model.specs.Lab.{ports_to}
use Rattle.console_model.specs.Law.{IsPort, IsEnd}
use Rattle.law_console.specs.Words.{first_rows, IsCommand}
use Rattle.law_console.proofs.Ports.{session_low}

-- *A greeting* is read as one, or refused
pub data IsGreeting : Result Message Fault → Type 0 where
  greeting : (g : Greeting) → IsGreeting (Ok (messages.Adjacency g))
  refused : (fault : Fault) → IsGreeting (Err fault)

pub greeting_read : (g : Greeting) → IsGreeting (decoded (octets_of (messages.Adjacency g)))
unfolding decoded
greeting_read g = by (refusal (octets_of (messages.Adjacency g)))
  where
    by : (o : Option Fault) → IsGreeting (decoded_by o (type_of (slice_index (octets_of (messages.Adjacency g)) 9)) (drop 8 (octets_of (messages.Adjacency g))))
    by None = greeting _
    by (Some fault) = refused fault

-- *Widths*
pub end_fits : (e : End) → IsEnd e → FitsChannel e.channel
end_fits e is = (let vpi = is.vpi in let vci = is.vci in record { vpi = omega arith; vci = omega arith })

pub port_fits : (p : PortNo) → IsPort p → Bits 32 p.0
port_fits p is = omega (arith, is.1)

pub none_fits : FitsChannel (record { vpi = 0; vci = 0 })
none_fits = record { vpi = omega arith; vci = omega arith }

session_fits : (ports : ℕ) (p : PortNo) → 1 ≤ p.0 → Bits 32 (session_of (first_rows ports) p)
session_fits ports p least = omega (arith, session_low ports p least)

-- a message of these is in width, whatever its result, its code and its number of branches
pub branch_fits : (kind : BranchKind) (ports result code number branches : ℕ) (p : PortNo) (input : Channel) (output_port : ℕ) (output : Channel) → IsPort p → FitsChannel input → Bits 32 output_port → FitsChannel output
    → Bits 8 result → Bits 8 code → Bits 32 number → Bits 16 branches
    → Fits (messages.Branch kind result code number (session_of (first_rows ports) p) p.0 input output_port output branches 0)
branch_fits kind ports result code number branches p input output_port output port channel leads to r c n b =
    (r, c, n, session_fits ports p port.0, port_fits p port, channel, leads, to, b, omega arith)

pub move_fits : (ports result code number branches : ℕ) (input from to : End) → IsEnd input → IsEnd from → IsEnd to → Bits 8 result → Bits 8 code → Bits 32 number → Bits 16 branches
    → Fits (messages.Move result code number (session_of (first_rows ports) input.port) input.port.0 input.channel from.port.0 from.channel to.port.0 to.channel branches 0)
move_fits ports result code number branches input from to i f t r c n b =
    (r, c, n, session_fits ports input.port i.port.0, port_fits input.port i.port, end_fits input i, port_fits from.port f.port, end_fits from f, port_fits to.port t.port, end_fits to t, b, omega arith)

-- *What is asked* is read
pub command_read : (ports number : ℕ) (q : Request) → IsCommand q → number < 2 ^ 32 → decoded (octets_of (message_of (first_rows ports) number q)) ≡ Ok (message_of (first_rows ports) number q)
command_read ports number (AddBranch input output) is low = message_is_read (message_of (first_rows ports) number (AddBranch input output))
    (branch_fits Add ports 2 0 number 0 input.port input.channel output.port.0 output.channel is.0.port (end_fits input is.0) (port_fits output.port is.1.port) (end_fits output is.1) (omega arith) (omega arith) low (omega arith))
    (asks, no_branch 2, tt)
command_read ports number (MoveBranch input from to) is low = message_is_read (message_of (first_rows ports) number (MoveBranch input from to))
    (move_fits ports 2 0 number 0 input from to is.0 is.1 is.2 (omega arith) (omega arith) low (omega arith)) (asks, no_branch 2)
command_read ports number (DeleteTree input) is low = message_is_read (message_of (first_rows ports) number (DeleteTree input))
    (branch_fits Delete ports 2 0 number 0 input.port input.channel 0 _ is.port (end_fits input is) (omega arith) none_fits (omega arith) (omega arith) low (omega arith))
    (asks, no_branch 2, (refl, refl))
command_read ports number (VerifyTree input) is low = message_is_read (message_of (first_rows ports) number (VerifyTree input))
    (branch_fits Verify ports 2 0 number 0 input.port input.channel 0 _ is.port (end_fits input is) (omega arith) none_fits (omega arith) (omega arith) low (omega arith))
    (asks, no_branch 2, inr (refl, refl))
command_read ports number (DeleteAll port) is low = message_is_read (message_of (first_rows ports) number (DeleteAll port))
    (branch_fits DeleteAllKind ports 2 0 number 0 port _ 0 _ is none_fits (omega arith) none_fits (omega arith) (omega arith) low (omega arith))
    (asks, no_branch 2, ((refl, refl), refl))
command_read ports number (PortManagement port function) is low = absurd is
command_read ports number AllPorts is low = absurd is

-- *All Ports and its answer*
pub list_read : (ports number : ℕ) → number < 2 ^ 32 → decoded (octets_of (message_of (first_rows ports) number AllPorts)) ≡ Ok (message_of (first_rows ports) number AllPorts)
list_read ports number low = message_is_read (messages.AllPorts 2 0 number []) (omega arith, omega arith, low, omega arith, tt) (asks, all_asked)

rows_fit : (least ports : ℕ) → least + ports ≤ 100 → FitsRows (map port_row (map (begun (record { 0 = 2 })) (map (λ number. record { 0 = number }) (range_with_len least ports))))
rows_fit least zero few = tt
rows_fit least (suc ports) few =
    (record { port = omega (arith, few); session = omega arith; least = omega arith; greatest = omega arith }, rows_fit (least + 1) ports (omega (arith, few)))

rows_length : (ports : ℕ) → length (first_rows ports) ≡ ports + 1
rows_length ports = omega (
  arith,
  length-map (map (begun (record { 0 = 2 })) (ports_to ports)) port_row,
  length-map (ports_to ports) (begun (record { 0 = 2 })),
  length-map {B = PortNo} (range_with_len 1 ports) (λ number. record { 0 = number }),
  length-range_with_len 1 ports,
)

pub told_read : (ports number : ℕ) → ports ≤ 8 → number < 2 ^ 32 → decoded (octets_of (messages.AllPorts 3 0 number (first_rows ports))) ≡ Ok (messages.AllPorts 3 0 number (first_rows ports))
told_read ports number few low = message_is_read (messages.AllPorts 3 0 number (first_rows ports)) (
  omega arith,
  omega arith,
  low,
  omega (arith, rows_length ports, few),
  (record { port = omega arith; session = omega arith; least = omega arith; greatest = omega arith }, rows_fit 1 ports (omega (arith, few))),
)
    (succeeds, all_told (port_row (begun (record { 0 = 2 }) control_port)) (map port_row (map (begun (record { 0 = 2 })) (ports_to ports))))
