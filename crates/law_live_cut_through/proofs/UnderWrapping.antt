-- a frame under a flow's label carries the packet, and so it does hop by hop

use Rattle.std.proofs.Common.{ℕ, ◌-◌, subst, arith}
use Rattle.world_model.specs.Words.{kind_of, with_ttl, canonical, Carries}
use Rattle.world_model.proofs.flow_encaps.CarryLemmas.{Carries-next_hop}
use Rattle.calm_model.specs.Ways.{one_hop}
use Rattle.law_controller_facts.proofs.Onward.{packet_of, octets_onward}
use Rattle.law_live_ease.proofs.law_packet_worlds.Hops.{accepted_parts, flow_tells, wraps}
use Rattle.law_live_cut_through.specs.Under.{LabelledFramesCarry, CarriesGoOn}
use Rattle.law_live_cut_through.proofs.TicksFlows.{next_is}

pub labelled_frames_carry : LabelledFramesCarry
labelled_frames_carry packet flow accepted octets is =
    wraps flow packet (packet_of packet (accepted_parts packet accepted).0) (octets_onward packet (λ place. omega (arith, octets place))) is

pub carries_go_on : CarriesGoOn
carries_go_on flow packet payload more carried =
    subst (λ (ttl : ℕ). Carries (one_hop flow) (canonical (with_ttl packet (ttl - 1))) payload) (flow_tells (kind_of flow) flow packet carried.of_flow).0
    (Carries-next_hop flow (one_hop flow) packet payload carried (next_is flow more))
