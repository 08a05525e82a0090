-- What a router does with a packet (RFC 1812 5.2.1, 5.3.1)

use Rattle.std.specs.Prelude.{ℕ, ◌-◌, nat_le, List, Option, None, Some, if◌then◌else◌}
use Rattle.ipv4_packet.specs.Packet.{ttl_of, destination_of, with_ttl, canonical}
use Rattle.ipv4_forward.specs.Best.{best}
use Rattle.ipv4_forward.specs.declared.table.Next.{Next}
use Rattle.ipv4_forward.specs.declared.table.Next.TheVariants.{Local, Via}
use Rattle.ipv4_forward.specs.declared.table.Route.{Route}
use Rattle.ipv4_forward.specs.declared.outcome.Hop.{Hop}
use Rattle.ipv4_forward.specs.declared.outcome.Hop.TheVariants.{Here, On, NoRoute, Expired}

abbrev pub hop_by : ℕ → Option Next → Hop
hop_by ttl None = NoRoute
hop_by ttl (Some Local) = Here
hop_by ttl (Some (Via port)) = if nat_le ttl 1 then Expired else On port

-- by the best route of the packet's destination
abbrev pub hop_of : List Route → List ℕ → Hop
hop_of routes packet = hop_by (ttl_of packet) (best routes (destination_of packet))

-- the packet that the next node takes: one less to live, and the canonical checksum
abbrev pub onward : List ℕ → List ℕ
onward packet = canonical (with_ttl packet (ttl_of packet - 1))

-- the packet behind a hop, which changes it where it sends it on
abbrev pub hopped_by : List ℕ → Hop → List ℕ
hopped_by packet Here = packet
hopped_by packet NoRoute = packet
hopped_by packet Expired = packet
hopped_by packet (On port) = onward packet
