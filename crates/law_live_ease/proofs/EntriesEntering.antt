-- each node behind a packet that enters: cells of other channels than that of GSMP wait for its switch besides, and all else is as it was

use Rattle.std.proofs.Common.{◌≡◌, ◌≢◌, ℕ, ◌+◌, List, [], Option, None, Some, refl, sym, ◌∙◌, ap, subst}
use Rattle.world_model.specs.Words.{NodeId, Cell, Refusal, inject_refusal, injected, injects_by, Controller, Topology, World, Site, site_at, controller_acts, put_away, next}
use Rattle.world_model.specs.Controller.{Acted}
use Rattle.world_model.specs.Sending.{with_cells}
use Rattle.world_model.specs.network_model.declared.event.Event.TheVariants.{Inject}
use Rattle.world_model.proofs.Lists.{by_eq}
use Rattle.law_live_journeys.specs.law_run_facts.ordered_lists.Ordered.{Every}
use Rattle.law_live_journeys.specs.law_live_control.Calm.{HasLinks}
use Rattle.law_live_journeys.proofs.law_live_control_links.Sites.{acting, controller_elsewhere, controller_here}
use Rattle.law_live_journeys.proofs.law_live_binding_beats.Homes.{entered_home}
use Rattle.law_live_ease.proofs.EntriesForwarding.{IsAway, PutsAway, no_cells, forwards_away}

abbrev pub with_more : Site → List Cell → Site
with_more site put = record site { controller = with_cells site.controller put }

-- *What was a site* has more cells that wait, none of them on the GSMP channel
pub record HasMore (site : Site) (o : Option Site) : Type 0 where
  pub put : List Cell
  pub there : o ≡ Some (with_more site put)
  pub away : Every IsAway put

same_more : (site : Site) (o : Option Site) → o ≡ Some site → HasMore site o
same_more site o found = record { put = []; there = found ∙ ap (λ (c : Controller). Some (record site { controller = c })) (sym (no_cells site.controller)); away = tt }

-- and what is a site was one
pub record WasThere (w : World) (here : NodeId) (now : Site) : Type 0 where
  pub site : Site
  pub found : site_at w here ≡ Some site
  pub put : List Cell
  pub is : now ≡ with_more site put

one_site : (x y : Site) → Some x ≡ Some y → x ≡ y
one_site x y e = cc

no_site : (x : Site) → None ≡ Some x → ⊥
no_site x e = cc e

module _ (topology : Topology) (w : World) (node : NodeId) (octets : List ℕ) (links : (here : NodeId) (site : Site) → site_at w here ≡ Some site → HasLinks site.controller) where
  abbrev entering : World
  entering = record (put_away w) { sent = w.sent + 1 }

  abbrev enters : Acted → Acted
  enters a = injected a (w.sent + 1) octets

  abbrev v : World
  v = next topology w (Inject node octets)

  enters_kept : (a : Acted) → (enters a).controller.node ≡ a.controller.node
  enters_kept a = (entered_home a (record { packet = w.sent + 1; frame = 0 }) octets).node

  -- *Elsewhere*
  elsewhere : (here : NodeId) → node.0 ≢ here.0 → (r : Option Refusal) → site_at (injects_by entering node octets r) here ≡ site_at w here
  elsewhere here apart (Some name) = refl
  elsewhere here apart None = controller_elsewhere entering here node enters enters_kept apart

  -- *At the node itself*
  own : (site : Site) → site_at w node ≡ Some site → (r : Option Refusal) → HasMore site (site_at (injects_by entering node octets r) node)
  own site found (Some name) = same_more site (site_at w node) found
  own site found None = by (forwards_away (acting entering site) (record { packet = w.sent + 1; frame = 0 }) (links node site found) octets)
    where
      by : PutsAway site.controller (enters (acting entering site)).controller → HasMore site (site_at (injects_by entering node octets None) node)
      by p = record {
        put = p.put;
        there = controller_here entering node site found enters enters_kept ∙ ap (λ (c : Controller). Some (record site { controller = c })) p.is;
        away = p.away;
      }

  own_none : site_at w node ≡ None → (r : Option Refusal) → site_at (injects_by entering node octets r) node ≡ None
  own_none found (Some name) = found
  own_none found None = ap (λ (o : Option Site). site_at (controller_acts entering o enters) node) found ∙ found

  pub has_more : (here : NodeId) (site : Site) → site_at w here ≡ Some site → HasMore site (site_at v here)
  has_more here site found = by_eq node.0 here.0
      (λ same t. (let at_node : node ≡ here = λ i. record { 0 = same i } in
      subst (λ (n : NodeId). HasMore site (site_at v n)) at_node (own site (ap (λ (n : NodeId). site_at w n) at_node ∙ found) (inject_refusal octets))))
      (λ apart t. same_more site (site_at v here) (elsewhere here apart (inject_refusal octets) ∙ found))

  none_there : (here : NodeId) → site_at w here ≡ None → site_at v here ≡ None
  none_there here found = by_eq node.0 here.0
      (λ same t. (let at_node : node ≡ here = λ i. record { 0 = same i } in
      subst (λ (n : NodeId). site_at v n ≡ None) at_node (own_none (ap (λ (n : NodeId). site_at w n) at_node ∙ found) (inject_refusal octets))))
      (λ apart t. elsewhere here apart (inject_refusal octets) ∙ found)

  pub was_there : (here : NodeId) (now : Site) → site_at v here ≡ Some now → WasThere w here now
  was_there here now there = by (site_at w here) refl
    where
      by : (o : Option Site) → site_at w here ≡ o → WasThere w here now
      by None found = absurd (no_site now (sym (none_there here found) ∙ there))
      by (Some site) found = more (has_more here site found)
        where
          more : HasMore site (site_at v here) → WasThere w here now
          more m = record { site = site; found = found; put = m.put; is = one_site now (with_more site m.put) (sym there ∙ m.there) }
