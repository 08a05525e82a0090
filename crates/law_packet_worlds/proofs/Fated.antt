-- a packet that was never accepted has no fate

use Rattle.std.proofs.Common.{◌≡◌, ℕ, zero, suc, Bool, true, false, List, [], ◌∷◌, flat_map, Some, refl, sym, ◌∙◌, ap, subst, arith, count_by}
use Rattle.std.specs.Prelude.{Contains, slice_get}
use Rattle.std.proofs.lemmas.Bool.Decides.{nat_tests}
use Rattle.std.proofs.lemmas.List.Concat.{flat_map-cons}
use Rattle.law_arrival_views.specs.world_model.Words.{Record, Journal, Policy, is_fate_of, Topology, Node, World, opens_each, with_opened, worlds_from, Past, past_of, WasAccepted, AreTrueFates, HasFatesOnce}
use Rattle.law_arrival_views.specs.world_model.link_model.declared.record.Record.TheVariants as records
use Rattle.law_packet_worlds.proofs.Lists.{count_by-append}
use Rattle.law_arrival_views.specs.world_model.network_model.declared.event.Event.{Event}
use Rattle.law_arrival_views.specs.world_model.World.{opened}
use Rattle.law_run_facts.specs.law_world_views.Between.{HasPacketsOnce}
use Rattle.law_packet_worlds.proofs.Bound.{count_none}

-- *The opening* has no record, no frame and no entry, and nothing was sent
pub opened_notes : (policy : Policy) (topology : Topology) → (opened policy topology).notes ≡ record { records = []; entries = []; frames = [] }
opened_notes policy topology = each topology.nodes 1 _
  where
    each : (nodes : List Node) (place : ℕ) (w : World) → (opens_each policy topology w place nodes).notes ≡ w.notes
    each [] place w = refl
    each (node ∷ nodes) place w = each nodes (suc place) (with_opened policy topology w place node)

first_world : (topology : Topology) (w : World) (events : List Event) → slice_get (worlds_from topology w events) 0 ≡ Some w
first_world topology w [] = refl
first_world topology w (event ∷ events) = refl

-- *No packet that was never accepted has a fate*
none_in : (k : ℕ) (worlds : List World) → ((i : ℕ) (w : World) → slice_get worlds i ≡ Some w → count_by (is_fate_of k) w.notes.records ≡ 0) → count_by (is_fate_of k) (flat_map (λ (w : World). w.notes.records) worlds) ≡ 0
none_in k [] none = refl
none_in k (w ∷ worlds) none =
    let rest = none_in k worlds (λ i v e. none (suc i) v e) in
    ap (count_by (is_fate_of k)) (flat_map-cons (λ (v : World). v.notes.records) w worlds)
    ∙ omega (arith, count_by-append (is_fate_of k) w.notes.records (flat_map (λ (v : World). v.notes.records) worlds), none 0 w refl, rest)

module _ (policy : Policy) (topology : Topology) (before : List Event) (is : AreTrueFates (past_of policy topology before)) where
  abbrev P : Past
  P = past_of policy topology before

  pub none_fated : (k : ℕ) → (WasAccepted P k → ⊥) → count_by (is_fate_of k) P.records ≡ 0
  none_fated k never = none_in k P.worlds each
    where
      by_item : (at : ℕ) (w : World) → slice_get P.worlds (suc at) ≡ Some w → (item : Record) → Contains w.notes.records item → (b : Bool) → is_fate_of k item ≡ b → b ≡ false
      by_item at w is_there item c false e = refl
      by_item at w is_there (records.Delivered node packet octets) c true e =
          let same : packet ≡ k = grind (arith, nat_tests, e) in
          absurd (never (subst (WasAccepted P) same (is.delivered at w node packet octets is_there c).was_accepted))
      by_item at w is_there (records.Dropped node packet cause) c true e =
          let same : packet ≡ k = grind (arith, nat_tests, e) in
          absurd (never (subst (WasAccepted P) same (is.dropped at w node packet cause is_there c).was_accepted))
      by_item at w is_there (records.Refused node packet name) c true e = absurd (cc e)
      by_item at w is_there (records.Loss mark cause) c true e = absurd (cc e)
      by_item at w is_there (records.Chance mark) c true e = absurd (cc e)
      by_item at w is_there (records.Bad node layer name) c true e = absurd (cc e)
      by_item at w is_there (records.Opened node port) c true e = absurd (cc e)
      by_item at w is_there (records.Closed node port) c true e = absurd (cc e)
      by_item at w is_there (records.Bind node port vci flow) c true e = absurd (cc e)
      by_item at w is_there (records.Free node port vci) c true e = absurd (cc e)
      by_item at w is_there (records.Join node port vci to_port to_vci) c true e = absurd (cc e)
      by_item at w is_there (records.Part node port vci) c true e = absurd (cc e)
      by_item at w is_there (records.Routes node changes) c true e = absurd (cc e)
      by_item at w is_there (records.Forged place) c true e = absurd (cc e)

      each : (i : ℕ) (w : World) → slice_get P.worlds i ≡ Some w → count_by (is_fate_of k) w.notes.records ≡ 0
      each zero w e =
          let first : Some (opened policy topology) ≡ Some w = sym (first_world topology (opened policy topology) before) ∙ e in
          let same : opened policy topology ≡ w = cc in
          ap (λ (v : World). count_by (is_fate_of k) v.notes.records) (sym same) ∙ ap (λ (n : Journal). count_by (is_fate_of k) n.records) (opened_notes policy topology)
      each (suc at) w e = count_none (is_fate_of k) w.notes.records (λ item c. by_item at w e item c (is_fate_of k item) refl)

-- *So each packet has one fate at most*: there is none of number 0
pub fates_once : (policy : Policy) (topology : Topology) (events : List Event) → HasPacketsOnce (past_of policy topology events) → HasFatesOnce (past_of policy topology events)
fates_once policy topology events h zero =
    omega (arith, none_fated policy topology events h.true_fates 0 (λ was. absurd (omega (arith, was.numbered))))
fates_once policy topology events h (suc k) = omega (arith, h.once (suc k) (omega arith))
