-- a packet behind a hop: where it goes, how long it lives, and that it may go on

use Rattle.std.proofs.Common.{◌≡◌, ℕ, ◌-◌, ◌≤◌, ◌<◌, ◌==◌, ◌||◌, Bool, true, false, List, [], ◌∷◌, length, None, Some, refl, sym, ◌∙◌, ap, arith, if◌then◌else◌}
use Rattle.std.specs.Prelude.{nat_le, ◌&&◌}
use Rattle.std.proofs.lemmas.Bool.Decides.{nat_tests}
use Rattle.world_model.specs.Words.{PortNo, Mark, Entry, same_mark, has_entry, has_loss_of, ttl_of, destination_of, best, hop_by, hop_of, onward, Via, Local, On, Here, inject_refusal}
use Rattle.world_model.specs.ipv4_forward.declared.table.Route.{Route}
use Rattle.world_model.specs.ipv4_forward.declared.outcome.Hop.TheVariants.{Expired}
use Rattle.world_model.proofs.ipv4_packet.RouteLemmas.{ttl_of-rerouted, destination_of-rerouted}
use Rattle.law_controller_facts.proofs.Onward.{packet_of}
use Rattle.law_packet_worlds.proofs.Hops.{accepted_parts}

-- *It has a header*
long : (packet : List ℕ) → inject_refusal packet ≡ None → 20 ≤ length packet
long packet accepted = (packet_of packet (accepted_parts packet accepted).0).has_header

pub same_destination : (packet : List ℕ) → inject_refusal packet ≡ None → destination_of (onward packet) ≡ destination_of packet
same_destination packet accepted = destination_of-rerouted packet (ttl_of packet - 1) (long packet accepted)

pub less_to_live : (packet : List ℕ) → inject_refusal packet ≡ None → ttl_of (onward packet) ≡ ttl_of packet - 1
less_to_live packet accepted = ttl_of-rerouted packet (ttl_of packet - 1) (long packet accepted)

-- *Its route*
pub leads_on : (table : List Route) (packet : List ℕ) (port : PortNo) → 1 < ttl_of packet → best table (destination_of packet) ≡ Some (Via port) → hop_of table packet ≡ On port
leads_on table packet port lives route =
    let alive : nat_le (ttl_of packet) 1 ≡ false = grind (arith, nat_tests, lives) in
    ap (hop_by (ttl_of packet)) route ∙ ap (λ (b : Bool). if b then Expired else On port) alive

pub ends_here : (table : List Route) (packet : List ℕ) → best table (destination_of packet) ≡ Some Local → hop_of table packet ≡ Here
ends_here table packet route = ap (hop_by (ttl_of packet)) route

-- *No entry of a packet*, and so none of a frame of it
first_same : (a b : Mark) → same_mark a b ≡ true → (a.packet == b.packet) ≡ true
first_same a b e = by (a.packet == b.packet) (a.frame == b.frame) e
  where
    by : (p q : Bool) → (p && q) ≡ true → p ≡ true
    by true q h = refl
    by false q h = h

pub frame_unlost : (entries : List Entry) (mark : Mark) → has_loss_of mark.packet entries ≡ false → has_entry entries mark ≡ false
frame_unlost [] mark none = refl
frame_unlost (entry ∷ entries) mark none = by (entry.mark.packet == mark.packet) refl (same_mark entry.mark mark) refl none (frame_unlost entries mark)
  where
    by : (p : Bool) → (entry.mark.packet == mark.packet) ≡ p → (s : Bool) → same_mark entry.mark mark ≡ s → (p || has_loss_of mark.packet entries) ≡ false
        → (has_loss_of mark.packet entries ≡ false → has_entry entries mark ≡ false) → (s || has_entry entries mark) ≡ false
    by true is s same h rest = absurd (cc h)
    by false is true same h rest = absurd (cc (sym (first_same entry.mark mark same) ∙ is))
    by false is false same h rest = rest h
