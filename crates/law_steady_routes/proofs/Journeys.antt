-- where no route changes each fate that was recorded is its packet's journey

use Rattle.std.proofs.Common.{◌≡◌, ℕ, zero, suc, ◌<◌, List, [], ◌∷◌, length, slice_get, Contains, Some, inl, inr, refl, sym, ◌∙◌, ap, subst, arith}
use Rattle.std.proofs.lemmas.List.Elements.{Contains-append_cases}
use Rattle.std.proofs.lemmas.Option.{slice_get_within}
use Rattle.claims_model.specs.world_model.Words.{NodeId, destination_of, best, Record, Journal, Policy, Fate, IsDelivered, IsDropped, fate_record, Topology, Node, routes_of, World, empty_world, opens_each, with_opened, records_of, worlds_from, journey, Reaches, hops, IsFateAt, delivered, without_route, expired, Past, past_of, WasAccepted, AreTrueFates, IsTrueFate}
use Rattle.claims_model.specs.world_model.network_model.declared.event.Event.{Event}
use Rattle.claims_model.specs.world_model.World.{opened}
use Rattle.claims_model.specs.world_model.Reached.{sent_here}
use Rattle.law_steady_routes.specs.Law.{FatesAreJourneys}
use Rattle.law_steady_routes.specs.Tables.{ChangesNoRoute, IsJourneyOf, AreJourneys}
use Rattle.law_steady_routes.proofs.Hops.{ends_delivered, ends_without_route, ends_expired, goes_on}
use Rattle.law_steady_routes.proofs.Tables.{held_steady}

-- *A record of a run* is one of a world
record IsTold (worlds : List World) (item : Record) : Type 0 where
  place : ℕ
  w : World
  is : slice_get worlds place ≡ Some w
  told : Contains w.notes.records item

told_in : (worlds : List World) (item : Record) → Contains (records_of worlds) item → IsTold worlds item
told_in [] item has = absurd (omega (arith, has.1))
told_in (w ∷ worlds) item has = elim (Contains-append_cases w.notes.records (records_of worlds) item has) [
  | inl here ↦ record { place = zero; w = w; is = refl; told = here }
  | inr later ↦ (let found = told_in worlds item later in record { place = suc found.place; w = found.w; is = found.is; told = found.told })
]

-- there is none at the opening
opens_notes : (policy : Policy) (topology : Topology) (w : World) (place : ℕ) (nodes : List Node) → (opens_each policy topology w place nodes).notes ≡ w.notes
opens_notes policy topology w place [] = refl
opens_notes policy topology w place (node ∷ nodes) = opens_notes policy topology (with_opened policy topology w place node) (suc place) nodes

first_world : (topology : Topology) (w : World) (events : List Event) → slice_get (worlds_from topology w events) zero ≡ Some w
first_world topology w [] = refl
first_world topology w (event ∷ events) = refl

module _ (policy : Policy) (topology : Topology) (events : List Event) (none : ChangesNoRoute events) where
  abbrev past : Past
  past = past_of policy topology events

  held : (node : NodeId) (time : ℕ) → time < length past.worlds → past.history.held node time ≡ routes_of topology node
  held = held_steady policy topology events none

  -- *A packet on its way* has the journey before it that it began
  record IsOnJourney (number : ℕ) (node : NodeId) (packet : List ℕ) : Type 0 where
    accepted : WasAccepted past number
    is : journey topology (routes_of topology) accepted.sent.node accepted.sent.packet ≡ journey topology (routes_of topology) node packet

  reached : (number : ℕ) (node : NodeId) (packet : List ℕ) (time : ℕ) → time < length past.worlds → Reaches topology past.history number node packet time
      → IsOnJourney number node packet
  reached number node packet time low (sent_here place sent is accepted) =
      record { accepted = record { place = place; numbered = refl; sent = sent; is_sent = is; accepted = accepted }; is = refl }
  reached number node packet time low (hops k from octets before late port far r less lives route peer) =
      let so_far : IsOnJourney k from octets = reached k from octets before (omega (arith, low, less)) r in
      let first = ap (λ table. best table (destination_of octets)) (sym (held from late low)) ∙ route in
      record { accepted = so_far.accepted; is = so_far.is ∙ goes_on topology (routes_of topology) from octets port first far lives peer }

  -- *A fate* is the end of the journey
  is_end : (time number : ℕ) (fate : Fate) → time < length past.worlds → IsFateAt topology past.history time number fate → IsJourneyOf past number fate
  is_end time number fate low (delivered node packet r route) =
      let so_far : IsOnJourney number node packet = reached number node packet r.time (omega (arith, low, r.in_time)) r.reaches in
      let last = ap (λ table. best table (destination_of packet)) (sym (held node time low)) ∙ route in
      record { accepted = so_far.accepted; is = sym (so_far.is ∙ ends_delivered topology (routes_of topology) node packet last) }
  is_end time number fate low (without_route node packet r route) =
      let so_far : IsOnJourney number node packet = reached number node packet r.time (omega (arith, low, r.in_time)) r.reaches in
      let last = ap (λ table. best table (destination_of packet)) (sym (held node time low)) ∙ route in
      record { accepted = so_far.accepted; is = sym (so_far.is ∙ ends_without_route topology (routes_of topology) node packet last) }
  is_end time number fate low (expired node packet port r route short) =
      let so_far : IsOnJourney number node packet = reached number node packet r.time (omega (arith, low, r.in_time)) r.reaches in
      let last = ap (λ table. best table (destination_of packet)) (sym (held node time low)) ∙ route in
      record { accepted = so_far.accepted; is = sym (so_far.is ∙ ends_expired topology (routes_of topology) node packet port last short) }

  module _ (true_fates : AreTrueFates past) where
    of_true : (time number : ℕ) (w : World) (fate : Fate) → slice_get past.worlds (suc time) ≡ Some w → IsTrueFate past time number fate → IsJourneyOf past number fate
    of_true time number w fate is fated = is_end time number fate (omega (arith, slice_get_within past.worlds (suc time) w is)) fated.is_fate

    in_world : (place number : ℕ) (w : World) (fate : Fate) → slice_get past.worlds place ≡ Some w → Contains w.notes.records (fate_record number fate) → IsJourneyOf past number fate
    in_world zero number w fate is has =
        let same : w ≡ opened policy topology = cc (sym is ∙ first_world topology (opened policy topology) events) in
        let notes : w.notes ≡ empty_world.notes = ap (λ (v : World). v.notes) same ∙ opens_notes policy topology empty_world 1 topology.nodes in
        let none_there : Contains [] (fate_record number fate) = subst (λ (n : Journal). Contains n.records (fate_record number fate)) notes has in
        absurd (omega (arith, none_there.1))
    in_world (suc time) number w (IsDelivered node packet) is has = of_true time number w (IsDelivered node packet) is (true_fates.delivered time w node number packet is has)
    in_world (suc time) number w (IsDropped node cause) is has = of_true time number w (IsDropped node cause) is (true_fates.dropped time w node number cause is has)

    all_journeys : AreJourneys past
    all_journeys number fate has = (let found = told_in past.worlds (fate_record number fate) has in in_world found.place number found.w fate found.is found.told)

pub fates_are_journeys : FatesAreJourneys
fates_are_journeys policy topology events none true_fates = all_journeys policy topology events none true_fates
