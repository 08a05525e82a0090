-- an end in Estab knows its peer, and has stored an instance under which that was cleared

use Rattle.std.proofs.Common.{◌≡◌, true, Option, None, Some, refl, sym, ◌∙◌, ap, subst}
use Rattle.std.specs.Prelude.{is_some}
use Rattle.std.specs.Option.{option_map, option_and_then}
use Rattle.law_frame_readings.specs.world_model.Words.{Peer, Side, IsSide, knows_peer, Linked, linked_at, port_key, Site, site_at, side_at, Past, KnowsCleared, HasStored}
use Rattle.law_frame_readings.proofs.law_port_facts.Keyed.{at_every}
use Rattle.law_frame_readings.specs.law_controller_facts.Sound.{IsLinkedPort}
use Rattle.law_frame_readings.specs.world_model.network_model.declared.link.LinkEnd.{LinkEnd}
use Rattle.law_frame_readings.specs.law_world_views.Tied.{HasClearedInstances}
use Rattle.law_frame_readings.specs.law_world_views.Between.{setups_of}
use Rattle.law_ownership.specs.Owning.{IsKept}

module _ (past : Past) (kept : IsKept past) where
  is_side : (end : LinkEnd) (side : Side Peer) → side_at past.now end ≡ Some side → IsSide side
  is_side end side e = by (site_at past.now end.node) refl e
    where
      linked_side : (site : Site) → site_at past.now end.node ≡ Some site → (o : Option Linked) → linked_at site.controller end.port ≡ o → option_map (λ linked. linked.port.adjacency) o ≡ Some side → IsSide side
      linked_side site found None at_port e = absurd (cc e)
      linked_side site found (Some linked) at_port e =
          let same : linked.port.adjacency ≡ side = cc e in
          subst (λ (x : Side Peer). IsSide x) same (at_every port_key (IsLinkedPort (setups_of site.controller)) end.port.0 site.controller.ports linked (kept.sound end.node site found).ports.each at_port).side

      by : (o : Option Site) → site_at past.now end.node ≡ o → option_map (λ linked. linked.port.adjacency) (option_and_then (λ c. linked_at c end.port) (option_map (λ site. site.controller) o)) ≡ Some side → IsSide side
      by None found e = absurd (cc e)
      by (Some site) found e = linked_side site found (linked_at site.controller end.port) refl e

  pub knows : (own far : LinkEnd) → HasClearedInstances past far own → KnowsCleared past own far
  knows own far cleared side found estab = by side.stored refl
    where
      stored_is : is_some side.stored ≡ true
      stored_is = (is_side own side found).peer ∙ ap knows_peer estab

      by : (o : Option Peer) → side.stored ≡ o → HasStored past far side
      by None e = absurd (cc (sym stored_is ∙ ap is_some e))
      by (Some peer) e = record { peer = peer; stored = e; cleared = cleared.stored side peer found e }
