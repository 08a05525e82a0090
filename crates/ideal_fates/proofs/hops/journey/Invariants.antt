use Rattle.std.proofs.Common.{◌≡◌}
use Rattle.ipv4_packet.specs.Packet.{IsPacket, ttl_of}
use Rattle.world_model.specs.Conditions.{IsNode}
use Rattle.world_model.specs.Journey.{journey}
use Rattle.script_model.specs.State.{table_among}
use Rattle.ideal_fates.proofs.hops.journey.Given as goal

-- the journey goes on from where the packet is
abbrev pub invariant-loop-far : goal.invariant-loop-far
invariant-loop-far l = record {
  packet : IsPacket l.packet;
  there : IsNode l.topology l.here;
  same : journey l.topology (table_among l.tables) l.here l.packet ≡ journey l.topology (table_among l.tables) l.fn.node l.fn.packet;
}

-- each hop leaves it less to live
abbrev pub decreases-loop-far : goal.decreases-loop-far
decreases-loop-far l = ttl_of l.packet
