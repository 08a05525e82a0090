-- the grant under which a packet goes on, and the label of it at the other end of the link

use Rattle.std.proofs.Common.{◌≡◌, ℕ, ◌&&◌, Bool, true, false, List, [], Option, None, Some, ◌⊎◌, inl, inr, refl, sym, ◌∙◌, ap}
use Rattle.std.specs.Prelude.{is_some, nat_le}
use Rattle.std.specs.Option.{option_and_then, option_map_or}
use Rattle.world_model.specs.Words.{End, FlowId, packet_flow, at, is_label_number, Label, label_number, labels_of, Grant, ByController, grant_label, grant_matching, grant_for, grant_by, grants_at, Linked, linked_at, linked_end, Topology, World, Site, site_at}
use Rattle.world_model.specs.Topology.{peer_of}
use Rattle.world_model.specs.network_model.declared.link.LinkEnd.{LinkEnd}
use Rattle.calm_model.specs.Served.{hosts_of}
use Rattle.law_live_ease.proofs.law_port_facts.Keyed.{at_key, at_every}
use Rattle.law_live_ease.specs.law_live_links.Law.{IsHeld}
use Rattle.law_live_ease.specs.law_live_bindings.Law.{IsHeldOrNew, IsNew}
use Rattle.law_live_ease.specs.law_live_binding_beats.Law.{BindByQueues}
use Rattle.law_live_ease.specs.Law.{Binds}
use Rattle.law_live_cut_through.specs.Law.{HoldsLabel, HoldsGrant}
use Rattle.law_live_cut_through.proofs.FirstFlows.{matching_is, IsFoundGrant, found_grant}
use Rattle.law_live_cut_through.proofs.FirstShown.{end_shows, one_site}

-- *A link is used* for a flow: the controller sends under a grant, and the other end holds the label of it, for the same flow
pub record IsUsedLink (w : World) (one far : LinkEnd) (flow : FlowId) (grant : Grant) : Type 0 where
  pub of_flow : grant.flow ≡ flow
  pub grants : HoldsGrant w one grant.label flow ByController
  pub numbered : is_label_number grant.label ≡ true
  pub join : Option End
  pub label : HoldsLabel w far grant.label flow join

first_so : (a b : Bool) → (a && b) ≡ true → a ≡ true
first_so true b e = refl
first_so false b e = absurd (cc e)

one_grant : (a b : Grant) → Some a ≡ Some b → a ≡ b
one_grant a b e = cc

module _ (topology : Topology) (w : World) (binds : Binds topology w) (one far : LinkEnd) (led : peer_of topology one.node one.port ≡ Some far) where
  abbrev ends : BindByQueues w one far
  ends = (binds.links one far led).ends

  abbrev its : Linked
  its = ends.bind.linked

  abbrev other : Linked
  other = ends.bind.far_linked

  shown : linked_end w one ≡ Some its
  shown = end_shows w one its ends.bind.shows

  far_shown : linked_end w far ≡ Some other
  far_shown = end_shows w far other ends.bind.far_shows

  -- *The label of a grant*
  record HasLabel (grant : Grant) : Type 0 where
    label : Label
    held : at label_number grant.label (labels_of other.port) ≡ Some label

  has_label : (grant : Grant) → at grant_label grant.label its.port.grants ≡ Some grant → HasLabel grant
  has_label grant held = by (at label_number grant.label (labels_of other.port)) refl
      (at_every grant_label (λ (g : Grant). is_some (at label_number g.label (labels_of other.port)) ≡ true) grant.label its.port.grants grant ends.bind.binding.back.grants held)
    where
      by : (o : Option Label) → at label_number grant.label (labels_of other.port) ≡ o → is_some o ≡ true → HasLabel grant
      by None t some = absurd (cc some)
      by (Some label) t some = record { label = label; held = t }

  used_link : (flow : FlowId) (grant : Grant) → IsFoundGrant its.port.grants flow grant → IsUsedLink w one far flow grant
  used_link flow grant f = by (at_every label_number (IsHeldOrNew other.setup.timers its.setup its.port.grants ends.far_said) grant.label (labels_of other.port) h.label
      ends.bind.binding.back.labels h.held)
    where
      h : HasLabel grant
      h = has_label grant f.held

      number_is : h.label.number ≡ grant.label
      number_is = at_key label_number grant.label (labels_of other.port) h.label h.held

      found : at grant_label h.label.number its.port.grants ≡ Some grant
      found = ap (λ (n : ℕ). at grant_label n its.port.grants) number_is ∙ f.held

      by : IsHeld other.setup.timers its.setup its.port.grants ends.far_said h.label ⊎ IsNew other.setup.timers its.setup its.port.grants ends.far_said h.label
          → IsUsedLink w one far flow grant
      by (inr new) = absurd (let none : None ≡ Some grant = sym new.ungranted ∙ found in cc none)
      by (inl held) =
          let same : held.grant ≡ grant = one_grant held.grant grant (sym held.granted ∙ found) in
          let label_flow : h.label.flow ≡ flow = sym held.same_flow ∙ (ap (λ (g : Grant). g.flow) same ∙ f.of_flow) in
          record {
            of_flow = f.of_flow;
            grants = record { linked = its; shown = shown; grant = grant; held = f.held; of_flow = f.of_flow; is = f.state; used = tt };
            numbered = ap is_label_number (sym number_is)
                ∙ first_so (is_label_number h.label.number) (nat_le its.setup.least h.label.number && nat_le h.label.number its.setup.greatest) held.in_range;
            join = h.label.join;
            label = record { linked = other; shown = far_shown; label = h.label; held = h.held; offered = held.offered; of_flow = label_flow; joined = refl };
          }

  -- *A packet goes on under a grant*
  pub granted_link : (site : Site) (packet : List ℕ) (flow : FlowId) (grant : Grant) → site_at w one.node ≡ Some site → packet_flow packet ≡ Some flow
      → option_and_then (grant_for (grants_at w one)) (hosts_of flow) ≡ None → grant_by site.controller one.port packet ≡ Some grant
      → IsUsedLink w one far flow grant
  granted_link site packet flow grant there of_flow none granted =
      let same : site ≡ ends.bind.shows.site = one_site w one site ends.bind.shows.site there ends.bind.shows.there in
      let of_port : linked_at site.controller one.port ≡ Some its = ap (λ (s : Site). linked_at s.controller one.port) same ∙ ends.bind.shows.of_port in
      let grants_are : grants_at w one ≡ its.port.grants = ap (λ (o : Option Linked). option_map_or (λ (l : Linked). l.port.grants) o []) shown in
      let free : option_and_then (grant_for its.port.grants) (hosts_of flow) ≡ None =
      ap (λ (gs : List Grant). option_and_then (grant_for gs) (hosts_of flow)) (sym grants_are) ∙ none in
      let matching : grant_matching its.port.grants packet ≡ Some grant =
      sym (ap (option_and_then (λ (l : Linked). grant_matching l.port.grants packet)) of_port) ∙ granted in
      used_link flow grant
      (found_grant its.port.grants flow grant ends.bind.binding.one_end.grants_apart (sym (matching_is packet flow its.port.grants of_flow free) ∙ matching))
