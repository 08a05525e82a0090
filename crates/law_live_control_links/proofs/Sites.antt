-- the control link of a node when its controller or its switch acts, and when others do

use Rattle.std.proofs.Common.{◌≡◌, ◌≢◌, ℕ, List, [], ◌∷◌, ◌++◌, slice_index_or, Option, None, Some, refl, sym, ◌∙◌, ap, subst}
use Rattle.world_model.specs.Words.{NodeId, Party, Place, Down, Up, Out, Cell, Frame, FitsParty, queue_of, at, put, control_port, Switch, Controller, World, Site, site_key, site_at, controller_acts, switch_acts, queue_in, with_queue_in, with_queue_of, with_queue, place_node}
use Rattle.world_model.specs.gsmp_wire.declared.message.Message.{Message}
use Rattle.world_model.specs.Switch as switches
use Rattle.world_model.specs.Controller as controllers
use Rattle.world_model.specs.World.{at_controller, at_switch}
use Rattle.world_model.proofs.Lists.{at_key, at_put_same, at_put_other}
use Rattle.law_running_worlds.specs.law_shown_cells.Seen.{Extends}
use Rattle.law_running_worlds.specs.ordered_lists.Ordered.{Every}
use Rattle.law_run_facts.proofs.ordered_lists.Every.{every_join, every_map}
use Rattle.law_live_control.specs.Calm.{IsCalmDown, IsCalmUp, IsOfCalm, IsCalmCell}
use Rattle.law_live_control_links.specs.Law.{IsCalmSite, IsCalmLink}
use Rattle.law_live_control_links.proofs.Sides.{IsStill, still_same, still_met}
use Rattle.law_live_control_links.proofs.Switches.{every_set}

-- *What was made stays*, and so calm cells are calm
cells_later : (Calm : Message → Type 0) (old new : List Frame) → Extends old new → (cells : List Cell) → Every (IsCalmCell Calm old) cells → Every (IsCalmCell Calm new) cells
cells_later Calm old new stays cells h = every_map (IsCalmCell Calm old) (IsCalmCell Calm new) cells
    (λ cell calm on. (let k : IsOfCalm Calm old cell = calm on in record { message = k.message; calm = k.calm; made = stays.kept cell.mark _ k.made })) h

module _ (old new : List Frame) (stays : Extends old new) (site : Site) (h : IsCalmSite old site) where
  abbrev own : Party
  own = site.controller.adjacency.own

  abbrev far : Party
  far = site.switch.adjacency.own

  pub site_later : IsCalmSite new site
  site_later = record {
    met = h.met;
    controller_fits = h.controller_fits;
    switch_fits = h.switch_fits;
    down = cells_later (IsCalmDown own far) old new stays site.controller.queue h.down;
    up = cells_later (IsCalmUp own far) old new stays (queue_of site.switch.crossbar control_port) h.up;
  }

  -- *Its controller* goes on, and says calm messages alone
  pub controller_site : (c : Controller) → IsStill site.controller.adjacency c.adjacency → (later : List Cell) → c.queue ≡ site.controller.queue ++ later
      → Every (IsCalmCell (IsCalmDown own far) new) later → IsCalmSite new (record site { controller = c })
  controller_site c still later queue calm = record {
    met = still_met site.controller.adjacency site.switch.adjacency c.adjacency site.switch.adjacency h.met still (still_same site.switch.adjacency);
    controller_fits = subst FitsParty (sym still.own) h.controller_fits;
    switch_fits = h.switch_fits;
    down = subst (λ (p : Party). Every (IsCalmCell (IsCalmDown p far) new) c.queue) (sym still.own)
        (subst (Every (IsCalmCell (IsCalmDown own far) new)) (sym queue) (every_join (IsCalmCell (IsCalmDown own far) new) site.controller.queue later (cells_later (IsCalmDown own far) old new stays site.controller.queue h.down) calm));
    up = subst (λ (p : Party). Every (IsCalmCell (IsCalmUp p far) new) (queue_of site.switch.crossbar control_port)) (sym still.own)
        (cells_later (IsCalmUp own far) old new stays (queue_of site.switch.crossbar control_port) h.up);
  }

  -- *Its switch* does
  pub switch_site : (s : Switch) → IsStill site.switch.adjacency s.adjacency
      → (Every (IsCalmCell (IsCalmUp own far) new) (queue_of site.switch.crossbar control_port) → Every (IsCalmCell (IsCalmUp own far) new) (queue_of s.crossbar control_port))
      → IsCalmSite new (record site { switch = s })
  switch_site s still up = record {
    met = still_met site.controller.adjacency site.switch.adjacency site.controller.adjacency s.adjacency h.met (still_same site.controller.adjacency) still;
    controller_fits = h.controller_fits;
    switch_fits = subst FitsParty (sym still.own) h.switch_fits;
    down = subst (λ (p : Party). Every (IsCalmCell (IsCalmDown own p) new) site.controller.queue) (sym still.own)
        (cells_later (IsCalmDown own far) old new stays site.controller.queue h.down);
    up = subst (λ (p : Party). Every (IsCalmCell (IsCalmUp own p) new) (queue_of s.crossbar control_port)) (sym still.own)
        (up (cells_later (IsCalmUp own far) old new stays (queue_of site.switch.crossbar control_port) h.up));
  }

-- *A queue loses its head*
pub pop_site : (frames : List Frame) (site : Site) (place : Place) (cell : Cell) (cells : List Cell) → queue_in site place ≡ cell ∷ cells → IsCalmSite frames site → IsCalmSite frames (with_queue_in site place cells)
pop_site frames site (Down node) cell cells is h = record {
  met = h.met;
  controller_fits = h.controller_fits;
  switch_fits = h.switch_fits;
  down = (subst (Every (IsCalmCell (IsCalmDown site.controller.adjacency.own site.switch.adjacency.own) frames)) is h.down).1;
  up = h.up;
}
pop_site frames site (Up node) cell cells is h = record {
  met = h.met;
  controller_fits = h.controller_fits;
  switch_fits = h.switch_fits;
  down = h.down;
  up = every_set (IsCalmCell (IsCalmUp site.controller.adjacency.own site.switch.adjacency.own) frames) site.switch.crossbar.queues 0 cells h.up
      (λ e. (subst (Every (IsCalmCell (IsCalmUp site.controller.adjacency.own site.switch.adjacency.own) frames)) is h.up).1);
}
pop_site frames site (Out node port) cell cells is h = record {
  met = h.met;
  controller_fits = h.controller_fits;
  switch_fits = h.switch_fits;
  down = h.down;
  up = every_set (IsCalmCell (IsCalmUp site.controller.adjacency.own site.switch.adjacency.own) frames) site.switch.crossbar.queues port.0 cells h.up
      (λ e. (subst (Every (IsCalmCell (IsCalmUp site.controller.adjacency.own site.switch.adjacency.own) frames)) (ap (λ (i : ℕ). slice_index_or site.switch.crossbar.queues i []) (sym e) ∙ is) h.up).1);
}

-- *Where a node stands* behind what others do
key_kept : (site : Site) (place : Place) (cells : List Cell) → site_key (with_queue_in site place cells) ≡ site_key site
key_kept site (Down node) cells = refl
key_kept site (Up node) cells = refl
key_kept site (Out node port) cells = refl

pub popped_elsewhere : (u : World) (node : NodeId) (place : Place) (cells : List Cell) → (place_node place).0 ≢ node.0 → site_at (with_queue u place cells) node ≡ site_at u node
popped_elsewhere u node place cells apart = by (site_at u (place_node place)) refl
  where
    by : (o : Option Site) → site_at u (place_node place) ≡ o → site_at (with_queue_of u place cells o) node ≡ site_at u node
    by None found = refl
    by (Some site) found = at_put_other site_key (with_queue_in site place cells) node.0 u.sites
        (λ e. apart (sym (key_kept site place cells ∙ at_key site_key (place_node place).0 u.sites site found) ∙ e))

abbrev pub acting : World → Site → controllers.Acted
acting u site = record { controller = site.controller; notes = u.notes; numbers = u.numbers }

abbrev pub switching : World → Site → switches.ActedSwitch
switching u site = record { switch = site.switch; notes = u.notes; numbers = u.numbers }

pub controller_elsewhere : (u : World) (node here : NodeId) (act : controllers.Acted → controllers.Acted) → ((a : controllers.Acted) → (act a).controller.node ≡ a.controller.node) → here.0 ≢ node.0
    → site_at (at_controller u here act) node ≡ site_at u node
controller_elsewhere u node here act same apart = by (site_at u here) refl
  where
    by : (o : Option Site) → site_at u here ≡ o → site_at (controller_acts u o act) node ≡ site_at u node
    by None found = refl
    by (Some site) found = at_put_other site_key (record site { controller = (act (acting u site)).controller }) node.0 u.sites
        (λ e. apart (sym (ap (λ (n : NodeId). n.0) (same (acting u site)) ∙ at_key site_key here.0 u.sites site found) ∙ e))

pub switch_elsewhere : (u : World) (node here : NodeId) (act : switches.ActedSwitch → switches.ActedSwitch) → here.0 ≢ node.0 → site_at (at_switch u here act) node ≡ site_at u node
switch_elsewhere u node here act apart = by (site_at u here) refl
  where
    by : (o : Option Site) → site_at u here ≡ o → site_at (switch_acts u o act) node ≡ site_at u node
    by None found = refl
    by (Some site) found = at_put_other site_key (record site { switch = (act (switching u site)).switch }) node.0 u.sites
        (λ e. apart (sym (at_key site_key here.0 u.sites site found) ∙ e))

-- and where it acts itself
module _ (u : World) (node : NodeId) (site : Site) (found : site_at u node ≡ Some site) where
  put_here : (new : Site) → site_key new ≡ node.0 → at site_key node.0 (put site_key new u.sites) ≡ Some new
  put_here new same = subst (λ (n : ℕ). at site_key n (put site_key new u.sites) ≡ Some new) same
      (at_put_same site_key new u.sites site (subst (λ (n : ℕ). at site_key n u.sites ≡ Some site) (sym same) found))

  own_key : site_key site ≡ node.0
  own_key = at_key site_key node.0 u.sites site found

  module _ (act : controllers.Acted → controllers.Acted) (same : (a : controllers.Acted) → (act a).controller.node ≡ a.controller.node) where
    pub controller_here : site_at (at_controller u node act) node ≡ Some (record site { controller = (act (acting u site)).controller })
    controller_here = ap (λ (o : Option Site). site_at (controller_acts u o act) node) found
        ∙ put_here (record site { controller = (act (acting u site)).controller }) (ap (λ (n : NodeId). n.0) (same (acting u site)) ∙ own_key)

    pub controller_frames : (at_controller u node act).notes.frames ≡ (act (acting u site)).notes.frames
    controller_frames = ap (λ (o : Option Site). (controller_acts u o act).notes.frames) found

  module _ (act : switches.ActedSwitch → switches.ActedSwitch) where
    pub switch_here : site_at (at_switch u node act) node ≡ Some (record site { switch = (act (switching u site)).switch })
    switch_here = ap (λ (o : Option Site). site_at (switch_acts u o act) node) found
        ∙ put_here (record site { switch = (act (switching u site)).switch }) own_key

    pub switch_frames : (at_switch u node act).notes.frames ≡ (act (switching u site)).notes.frames
    switch_frames = ap (λ (o : Option Site). (switch_acts u o act).notes.frames) found

-- *So it is calm* behind an event
pub unchanged : (w v : World) (node : NodeId) → Extends w.notes.frames v.notes.frames → site_at v node ≡ site_at w node → IsCalmLink w node → IsCalmLink v node
unchanged w v node stays same link = record {
  site = link.site;
  found = same ∙ link.found;
  calm = site_later w.notes.frames v.notes.frames stays link.site link.calm;
}
