-- a node whose queue a cell is carried from, and one to which it is carried

use Rattle.std.proofs.Common.{◌≡◌, ◌≢◌, ℕ, List, [], ◌∷◌, Option, Some, refl, sym, ◌∙◌, ap, subst}
use Rattle.std.specs.Option.{option_map_or}
use Rattle.world_model.specs.Words.{NodeId, PortNo, Place, Down, Up, Out, Cell, at, put, control_port, Topology, World, Site, site_key, site_at, controller_acts, switch_acts, queue_in, queue_at, with_queue_in, with_queue_of, carries_head, arrives_at, put_away, next}
use Rattle.world_model.specs.Switch as switches
use Rattle.world_model.specs.Conduct as switch
use Rattle.world_model.specs.Controller as controllers
use Rattle.world_model.specs.Cells as controller
use Rattle.world_model.specs.Topology.{peer_of}
use Rattle.world_model.specs.network_model.declared.link.LinkEnd.{LinkEnd}
use Rattle.world_model.specs.network_model.declared.event.Event.TheVariants.{Carry}
use Rattle.world_model.proofs.Lists.{at_key, at_put_same, at_put_other}
use Rattle.law_live_frames.proofs.Coming.{site_left}
use Rattle.law_live_carries.proofs.law_passing.Controllers.{cell_adds}
use Rattle.law_live_hearing.specs.Law.{acting}

-- *A site is put* in the place of another
put_there : (u : World) (node : NodeId) (old new : Site) → site_at u node ≡ Some old → site_key new ≡ node.0 → at site_key node.0 (put site_key new u.sites) ≡ Some new
put_there u node old new found same = subst (λ (n : ℕ). at site_key n (put site_key new u.sites) ≡ Some new) same
    (at_put_same site_key new u.sites old (subst (λ (n : ℕ). at site_key n u.sites ≡ Some old) (sym same) found))

-- a switch that acts, as it is with the notes and numbers of a world
abbrev pub switching : World → Site → switches.ActedSwitch
switching v site = record { switch = site.switch; notes = (put_away v).notes; numbers = v.numbers }

module _ (topology : Topology) (v : World) (node : NodeId) (site : Site) (found : site_at v node ≡ Some site) (cell : Cell) (cells : List Cell) where
  key : site_key site ≡ node.0
  key = at_key site_key node.0 v.sites site found

  -- *To the controller*
  abbrev up : World
  up = with_queue_of (put_away v) (Up node) cells (Some site)

  abbrev heard : controllers.Acted
  heard = controller.cell_comes (acting v site) cell

  abbrev pub up_now : Site
  up_now = record (with_queue_in site (Up node) cells) { controller = heard.controller }

  -- the world, told by its parts
  up_by : {A : Type 0} (part : World → A) → queue_at v (Up node) ≡ cell ∷ cells
      → part (carries_head topology (put_away v) (Up node) (queue_at v (Up node))) ≡ part (controller_acts up (Some (with_queue_in site (Up node) cells)) (λ a. controller.cell_comes a cell))
  up_by part queue = ap (λ q. part (carries_head topology (put_away v) (Up node) q)) queue
      ∙ (ap (λ o. part (controller_acts (with_queue_of (put_away v) (Up node) cells o) (site_at (with_queue_of (put_away v) (Up node) cells o) node) (λ a. controller.cell_comes a cell))) found
      ∙ ap (λ o. part (controller_acts up o (λ a. controller.cell_comes a cell))) (site_left (put_away v) (Up node) node site cells found refl))

  pub up_notes : queue_at v (Up node) ≡ cell ∷ cells → (next topology v (Carry (Up node))).notes ≡ heard.notes
  up_notes queue = up_by (λ (u : World). u.notes) queue

  pub up_site : queue_at v (Up node) ≡ cell ∷ cells → site_at (next topology v (Carry (Up node))) node ≡ Some up_now
  up_site queue = up_by (λ (u : World). site_at u node) queue
      ∙ put_there up node (with_queue_in site (Up node) cells) up_now (site_left (put_away v) (Up node) node site cells found refl)
      (ap (λ (n : NodeId). n.0) (cell_adds (acting v site) cell).node ∙ key)

  -- *To the switch*
  abbrev down : World
  down = with_queue_of (put_away v) (Down node) cells (Some site)

  abbrev taken_down : switches.ActedSwitch
  taken_down = switch.cell_comes (switching v site) control_port cell

  abbrev pub down_now : Site
  down_now = record (with_queue_in site (Down node) cells) { switch = taken_down.switch }

  down_by : {A : Type 0} (part : World → A) → queue_at v (Down node) ≡ cell ∷ cells
      → part (carries_head topology (put_away v) (Down node) (queue_at v (Down node))) ≡ part (switch_acts down (Some (with_queue_in site (Down node) cells)) (λ a. switch.cell_comes a control_port cell))
  down_by part queue = ap (λ q. part (carries_head topology (put_away v) (Down node) q)) queue
      ∙ (ap (λ o. part (switch_acts (with_queue_of (put_away v) (Down node) cells o) (site_at (with_queue_of (put_away v) (Down node) cells o) node) (λ a. switch.cell_comes a control_port cell))) found
      ∙ ap (λ o. part (switch_acts down o (λ a. switch.cell_comes a control_port cell))) (site_left (put_away v) (Down node) node site cells found refl))

  pub down_notes : queue_at v (Down node) ≡ cell ∷ cells → (next topology v (Carry (Down node))).notes ≡ taken_down.notes
  down_notes queue = down_by (λ (u : World). u.notes) queue

  pub down_site : queue_at v (Down node) ≡ cell ∷ cells → site_at (next topology v (Carry (Down node))) node ≡ Some down_now
  down_site queue = down_by (λ (u : World). site_at u node) queue
      ∙ put_there down node (with_queue_in site (Down node) cells) down_now (site_left (put_away v) (Down node) node site cells found refl) key

  -- *Over a link*
  module _ (port : PortNo) (far : LinkEnd) (led : peer_of topology node port ≡ Some far) (apart : far.node.0 ≢ node.0) (there : Site) (found_there : site_at v far.node ≡ Some there) where
    abbrev out : World
    out = with_queue_of (put_away v) (Out node port) cells (Some site)

    abbrev taken_there : switches.ActedSwitch
    taken_there = switch.cell_comes (switching v there) far.port cell

    abbrev pub there_now : Site
    there_now = record there { switch = taken_there.switch }

    still_there : site_at out far.node ≡ Some there
    still_there = at_put_other site_key (with_queue_in site (Out node port) cells) far.node.0 v.sites (λ e. apart (sym e ∙ key)) ∙ found_there

    out_by : {A : Type 0} (part : World → A) → queue_at v (Out node port) ≡ cell ∷ cells
        → part (carries_head topology (put_away v) (Out node port) (queue_at v (Out node port))) ≡ part (switch_acts out (Some there) (λ a. switch.cell_comes a far.port cell))
    out_by part queue = ap (λ q. part (carries_head topology (put_away v) (Out node port) q)) queue
        ∙ (ap (λ o. part (arrives_at (with_queue_of (put_away v) (Out node port) cells o) cell (peer_of topology node port))) found
        ∙ (ap (λ o. part (arrives_at out cell o)) led
        ∙ ap (λ o. part (switch_acts out o (λ a. switch.cell_comes a far.port cell))) still_there))

    pub out_notes : queue_at v (Out node port) ≡ cell ∷ cells → (next topology v (Carry (Out node port))).notes ≡ taken_there.notes
    out_notes queue = out_by (λ (u : World). u.notes) queue

    pub out_site : queue_at v (Out node port) ≡ cell ∷ cells → site_at (next topology v (Carry (Out node port))) far.node ≡ Some there_now
    out_site queue = out_by (λ (u : World). site_at u far.node) queue
        ∙ put_there out far.node there there_now still_there (at_key site_key far.node.0 v.sites there found_there)

-- *A queue* is that of its node's site
pub queue_of_site : (v : World) (node : NodeId) (site : Site) (place : Place) → site_at v node ≡ Some site
    → option_map_or (λ s. queue_in s place) (site_at v node) [] ≡ queue_in site place
queue_of_site v node site place found = ap (λ (o : Option Site). option_map_or (λ s. queue_in s place) o []) found
