-- a packet that goes on is of the flow one hop further

use Rattle.std.proofs.Common.{◌≡◌, ℕ, ◌-◌, ◌≤◌, ◌<◌, ◌==◌, ◌&&◌, Bool, true, false, List, length, Option, None, Some, refl, sym, ◌∙◌, ap, arith, if◌then◌else◌}
use Rattle.std.specs.Prelude.{nat_le, not}
use Rattle.std.specs.Option.{option_or}
use Rattle.std.proofs.lemmas.Bool.Decides.{nat_tests}
use Rattle.world_model.specs.Words.{FlowId, FlowKind, ttl_of, with_ttl, canonical, shows_ports, flow_of, flow_ttl, next_hop_of, packet_flow, onward, inject_refusal, IsPacket}
use Rattle.world_model.specs.ipv4_packet.declared.flow.FlowKind.TheVariants.{One as ConnectionKind, Two as HostsKind}
use Rattle.world_model.proofs.ipv4_packet.HeaderLemmas.{on_header}
use Rattle.world_model.proofs.ipv4_packet.HopLemmas.{next_hop_of-flow_of}
use Rattle.law_controller_facts.proofs.Onward.{packet_of}
use Rattle.law_packet_worlds.proofs.Hops.{accepted_parts, flow_tells}
use Rattle.law_live_journeys.specs.Counts.{one_hop, FlowsGoOn}

shows_same : (packet : List ℕ) → 20 ≤ length packet → shows_ports (canonical (with_ttl packet (ttl_of packet - 1))) ≡ shows_ports packet
shows_same packet = on_header (λ p. shows_ports (canonical (with_ttl p (ttl_of p - 1))) ≡ shows_ports p) (λ a b c d e f g h i j k l m n o p q r s t rest. refl) packet

next_is : (flow : FlowId) → 1 < flow_ttl flow → next_hop_of flow ≡ Some (one_hop flow)
next_is flow more =
    let test : nat_le (flow_ttl flow) 1 ≡ false = grind (arith, nat_tests, more) in
    ap (λ (b : Bool). if b then None else Some (one_hop flow)) test

one_flow : (f g : FlowId) → Some f ≡ Some g → f ≡ g
one_flow f g e = cc

-- *Of a kind*, it is of the next one
module _ (packet : List ℕ) (accepted : inject_refusal packet ≡ None) (lives : 1 < ttl_of packet) where
  known : IsPacket packet
  known = packet_of packet (accepted_parts packet accepted).0

  of_kind : (kind : FlowKind) (flow : FlowId) → flow_of kind packet ≡ Some flow → flow_of kind (onward packet) ≡ Some (one_hop flow)
  of_kind kind flow e =
      let same : flow_ttl flow ≡ ttl_of packet = (flow_tells kind flow packet e).0 in
      sym (next_hop_of-flow_of kind packet flow known lives e) ∙ next_is flow (omega (arith, lives, same))

  -- where it has no flow of type 1 it has none there
  none_there : flow_of ConnectionKind packet ≡ None → flow_of ConnectionKind (onward packet) ≡ None
  none_there none = off (not (ttl_of (onward packet) == 0)) (shows_ports (onward packet)) _ (shows_same packet known.has_header ∙ hidden (not (ttl_of packet == 0)) alive (shows_ports packet) _ none)
    where
      alive : not (ttl_of packet == 0) ≡ true
      alive = (let more : (ttl_of packet == 0) ≡ false = grind (arith, nat_tests, lives) in ap not more)

      off : (x s : Bool) (flow : FlowId) → s ≡ false → (if x && s then Some flow else None) ≡ None
      off true s flow e = ap (λ (b : Bool). if b then Some flow else None) e
      off false s flow e = refl

      hidden : (x : Bool) → x ≡ true → (s : Bool) (flow : FlowId) → (if x && s then Some flow else None) ≡ None → s ≡ false
      hidden true is true flow e = absurd (cc e)
      hidden true is false flow e = refl
      hidden false is s flow e = absurd (cc is)

  pub goes_on : (flow : FlowId) → packet_flow packet ≡ Some flow → packet_flow (onward packet) ≡ Some (one_hop flow)
  goes_on flow = by (flow_of ConnectionKind packet) refl
    where
      by : (o : Option FlowId) → flow_of ConnectionKind packet ≡ o → option_or o (flow_of HostsKind packet) ≡ Some flow → packet_flow (onward packet) ≡ Some (one_hop flow)
      by (Some f) is e = ap (λ (o : Option FlowId). option_or o (flow_of HostsKind (onward packet))) (of_kind ConnectionKind f is) ∙ ap (λ (g : FlowId). Some (one_hop g)) (one_flow f flow e)
      by None is e = ap (λ (o : Option FlowId). option_or o (flow_of HostsKind (onward packet))) (none_there is) ∙ of_kind HostsKind flow e

pub flows_go_on : FlowsGoOn
flows_go_on packet flow accepted lives e = goes_on packet accepted lives flow e
