-- where no grant is held along a way a packet goes it ungranted

use Rattle.std.proofs.Common.{◌≡◌, ℕ, List, [], ◌∷◌, ◌++◌, Option, None, Some, refl, sym, ◌∙◌, ap}
use Rattle.std.specs.Option.{option_map, option_map_or, option_and_then, option_or}
use Rattle.world_model.specs.Words.{NodeId, Up, Policy, Mark, FlowId, Grant, grant_for, grant_matching, onward, next_mark, flow_of, Controller, Linked, linked_at, Topology, Site}
use Rattle.world_model.specs.ipv4_packet.declared.flow.FlowKind.TheVariants.{One, Two}
use Rattle.world_model.specs.network_model.declared.link.LinkEnd.{LinkEnd}
use Rattle.world_model.specs.network_model.declared.event.Event.{Event}
use Rattle.world_model.specs.network_model.declared.event.Event.TheVariants.{Carry}
use Rattle.law_live_carried_out.specs.law_live_hearing.Law.{world_at}
use Rattle.law_live_journeys.specs.Journeys.{IsUngrantedAlong, GoesUngranted, UngrantedWaysAreGone, PortsWithoutGrants}

-- *Throughout a stretch*
module _ (policy : Policy) (topology : Topology) (past events : List Event) where
  abbrev Throughout : NodeId → (packet : List ℕ) → List LinkEnd → Type 0
  Throughout node packet ends = (first later : List Event) → events ≡ first ++ later → IsUngrantedAlong topology (world_at policy topology (past ++ first)) node packet ends

  goes : (ends : List LinkEnd) (at : LinkEnd) (mark : Mark) (packet : List ℕ) → Throughout at.node packet ends → GoesUngranted policy topology past events at mark packet ends
  goes [] at mark packet none = tt
  goes (far ∷ ends) at mark packet none = (
    λ front rest e brought. (none front (Carry (Up at.node) ∷ rest) e).0,
    goes ends far (next_mark mark) (onward packet) (λ first later e. (none first later e).1),
  )

pub ungranted_ways : UngrantedWaysAreGone
ungranted_ways policy topology past events front rest node mark packet [] e none = tt
ungranted_ways policy topology past events front rest node mark packet (far ∷ ends) e none = (
  (none front rest e).0,
  goes policy topology past events ends far (next_mark mark) (onward packet) (λ first later s. (none first later s).1),
)

-- *No grants*
none_matching : (packet : List ℕ) → grant_matching [] packet ≡ None
none_matching packet = by (flow_of One packet) (flow_of Two packet)
  where
    by : (o p : Option FlowId) → option_or (option_map_or (grant_for []) o None) (option_map_or (grant_for []) p None) ≡ None
    by None None = refl
    by None (Some q) = refl
    by (Some f) None = refl
    by (Some f) (Some q) = refl

none_at : (packet : List ℕ) (o : Option Linked) → option_map_or (λ (l : Linked). l.port.grants) o [] ≡ [] → option_and_then (λ (l : Linked). grant_matching l.port.grants packet) o ≡ None
none_at packet None e = refl
none_at packet (Some linked) e = ap (λ (gs : List Grant). grant_matching gs packet) e ∙ none_matching packet

pub without_grants : PortsWithoutGrants
without_grants topology w node packet far none site port found led = none_at (onward packet) (linked_at site.controller port)
    (sym (ap (λ (o : Option Site). option_map_or (λ (l : Linked). l.port.grants) (option_and_then (λ (c : Controller). linked_at c port) (option_map (λ (s : Site). s.controller) o)) []) found)
    ∙ none port led)
