-- a carry leaves each controller the records of its switch's ports, and its desk and ports tied

use Rattle.std.proofs.Common.{◌≡◌, List, [], ◌∷◌, Some, refl, sym, ◌∙◌, ap, subst}
use Rattle.std.specs.Option.{option_map}
use Rattle.world_model.specs.Words.{NodeId, Place, Down, Up, Out, Cell, Desk, Switch, Linked, Topology, World, Site, site_at, queue_at, with_queue_in, carries_head, put_away, next}
use Rattle.world_model.specs.network_model.declared.event.Event.TheVariants.{Carry}
use Rattle.world_model.proofs.Lists.{by_eq}
use Rattle.law_live_journeys.proofs.law_live_hearing.Sites.{up_now, up_site}
use Rattle.law_live_journeys.proofs.law_live_calm_nodes.Parts.{part_at, down_part, out_part, up_elsewhere}
use Rattle.law_live_journeys.proofs.law_live_mirrored_worlds.Events.{same_node}
use Rattle.law_live_journeys.proofs.law_live_mirrored_worlds.Sites.{one_site}
use Rattle.law_live_journeys.specs.law_live_asking.Carries.{EndsWhatMayCome}
use Rattle.law_live_ease.specs.Law.{AreTied}
use Rattle.law_live_ease.proofs.NodesCells.{cell_rows}
use Rattle.law_live_ease.proofs.NodesTies.{tied_still}

-- *Its desk and its ports*
abbrev pub Kept : Type 0
Kept = Desk × List Linked

abbrev pub kept_of : Site → Kept
kept_of site = (site.controller.desk, site.controller.ports)

pub keeps_queue : (place : Place) (site : Site) (cells : List Cell) → ◌≡◌ {A = Kept} (kept_of (with_queue_in site place cells)) (kept_of site)
keeps_queue (Down here) site cells = refl
keeps_queue (Up here) site cells = refl
keeps_queue (Out here port) site cells = refl

pub keeps_switch : (site : Site) (s : Switch) → ◌≡◌ {A = Kept} (kept_of (record site { switch = s })) (kept_of site)
keeps_switch site s = refl

pub one_kept : (x y : Kept) → Some x ≡ Some y → x ≡ y
one_kept x y e = cc e

-- *A controller is left so*
pub record IsLeftSo (site now : Site) : Type 0 where
  pub rows : now.controller.desk.rows ≡ site.controller.desk.rows
  pub ties : AreTied now.controller

module _ (topology : Topology) (w : World) (node : NodeId) (site now : Site) (was : site_at w node ≡ Some site) (tied : AreTied site.controller) where
  -- where it doesn't act
  same_so : (v : World) → site_at v node ≡ Some now → part_at kept_of v node ≡ part_at kept_of w node → IsLeftSo site now
  same_so v is same = record { rows = ap (λ (k : Kept). k.0.rows) kept; ties = tied_still site.controller now.controller (ap (λ (k : Kept). k.0) kept) (ap (λ (k : Kept). k.1) kept) tied }
    where
      kept : ◌≡◌ {A = Kept} (kept_of now) (kept_of site)
      kept = one_kept (kept_of now) (kept_of site) (sym (ap (option_map kept_of) is) ∙ (same ∙ ap (option_map kept_of) was))

  -- where a cell comes to it
  up_own : EndsWhatMayCome w node site (queue_at w (Up node)) → site_at (next topology w (Carry (Up node))) node ≡ Some now → AreTied now.controller → IsLeftSo site now
  up_own may is ties = record { rows = by (queue_at w (Up node)) refl; ties = ties }
    where
      by : (q : List Cell) → queue_at w (Up node) ≡ q → now.controller.desk.rows ≡ site.controller.desk.rows
      by [] queue = (same_so (next topology w (Carry (Up node))) is (ap (λ (q : List Cell). part_at kept_of (carries_head topology (put_away w) (Up node) q) node) queue)).rows
      by (cell ∷ cells) queue = subst (λ (s : Site). s.controller.desk.rows ≡ site.controller.desk.rows)
          (one_site (up_now topology w node site was cell cells) now (sym (up_site topology w node site was cell cells queue) ∙ is))
          (cell_rows w node site was cell cells queue (subst (EndsWhatMayCome w node site) queue may))

  -- *Each carry*
  pub carry_so : (place : Place) → (place ≡ Up node → EndsWhatMayCome w node site (queue_at w (Up node))) → (place ≡ Up node → AreTied now.controller)
      → site_at (next topology w (Carry place)) node ≡ Some now → IsLeftSo site now
  carry_so (Down here) may ties is = same_so (next topology w (Carry (Down here))) is (down_part kept_of keeps_queue keeps_switch topology w node here)
  carry_so (Out here port) may ties is = same_so (next topology w (Carry (Out here port))) is (out_part kept_of keeps_queue keeps_switch topology w node here port)
  carry_so (Up here) may ties is = by_eq here.0 node.0
      (λ own t. (let same : Up here ≡ Up node = ap (λ (h : NodeId). Up h) (sym (same_node node here own)) in
      up_own (may same) (subst (λ (p : Place). site_at (next topology w (Carry p)) node ≡ Some now) same is) (ties same)))
      (λ apart t. same_so (next topology w (Carry (Up here))) is (up_elsewhere kept_of keeps_queue topology w node here apart))
