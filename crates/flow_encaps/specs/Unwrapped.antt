-- The packet that a payload carries, or why it carries none

use Rattle.std.specs.Prelude.{ℕ, nat_lt, not, List, length, take, drop, Option, Some, None, Result, Ok, Err, if◌then◌else◌}
use Rattle.std.specs.Str.{bytes_eq}
use Rattle.ipv4_packet.specs.Packet.{canonical}
use Rattle.ipv4_packet.specs.declared.flow.FlowId.{FlowId}
use Rattle.flow_encaps.specs.declared.default.EncapsFault.{EncapsFault}
use Rattle.flow_encaps.specs.declared.default.EncapsFault.TheVariants.{Short, BadSnap}
use Rattle.flow_encaps.specs.Default.{llc_snap}
use Rattle.flow_encaps.specs.Labelled.{rebuilt, unwrap_fault}

-- in the default encapsulation: the octets behind the LLC/SNAP header (RFC 1483 4.1)
abbrev pub default_unwrapped : (payload : List ℕ) → Result (List ℕ) EncapsFault
default_unwrapped payload =
    if nat_lt (length payload) 8 then Err Short
    else (if not (bytes_eq (take 8 payload) llc_snap) then Err BadSnap else Ok (drop 8 payload))

-- under a flow's label: the packet of that flow, with the canonical checksum
abbrev pub unwrapped_by : FlowId → (payload : List ℕ) → Option EncapsFault → Result (List ℕ) EncapsFault
unwrapped_by flow payload (Some fault) = Err fault
unwrapped_by flow payload None = Ok (canonical (rebuilt flow payload))

unfoldable pub unwrapped : FlowId → (payload : List ℕ) → Result (List ℕ) EncapsFault
unwrapped flow payload = unwrapped_by flow payload (unwrap_fault flow payload)
