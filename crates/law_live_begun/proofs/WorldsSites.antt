-- a network before the first packet enters, when a controller or a switch acts

use Rattle.std.proofs.Common.{◌≡◌, ◌≢◌, ℕ, List, [], ◌∷◌, ◌++◌, slice_index_or, Some, refl, sym, ◌∙◌, ap, subst}
use Rattle.world_model.specs.Words.{NodeId, Place, Down, Up, Out, Cell, Frame, at, queue_of, control_port, Switch, Controller, Topology, World, Site, site_key, site_at, queue_in, with_queue_in, with_queue_of, place_node}
use Rattle.world_model.specs.gsmp_wire.declared.message.Message.{Message}
use Rattle.world_model.specs.Switch as switches
use Rattle.world_model.specs.Controller as controllers
use Rattle.world_model.specs.World.{at_controller, at_switch}
use Rattle.law_link_parties.proofs.law_link_met.law_port_facts.Keyed.{by_eq, at_key, at_put_same, at_put_other}
use Rattle.law_link_parties.specs.law_run_facts.law_shown_cells.Seen.{Extends}
use Rattle.law_link_parties.specs.law_run_facts.ordered_lists.Ordered.{Every}
use Rattle.law_link_parties.proofs.law_run_facts.ordered_lists.Every.{every_join, every_map}
use Rattle.law_live_ease.specs.law_live_control.Calm.{IsOfCalm, IsCalmCell}
use Rattle.law_link_parties.proofs.law_link_met.law_live_tables.law_live_control_links.Switches.{every_set}
use Rattle.law_link_parties.proofs.law_link_met.law_live_tables.law_live_control_links.Sites.{acting, switching, controller_here, controller_frames, controller_elsewhere, switch_here, switch_frames, switch_elsewhere}
use Rattle.law_live_begun.specs.First.{Start, AreFirstFrames, IsFirstController, IsFirstDown, IsFirstUp, IsReady, IsFirstSwitch, IsFirstSite, IsFirstNode, IsFirstWorld}
use Rattle.law_live_begun.proofs.WorldsControllers.{first_with, ready_with, Leaves}
use Rattle.law_live_begun.proofs.WorldsSwitches.{SwitchLeaves}

-- *What was made stays*
cells_later : (Calm : Message → Type 0) (old new : List Frame) → Extends old new → (cells : List Cell) → Every (IsCalmCell Calm old) cells
    → Every (IsCalmCell Calm new) cells
cells_later Calm old new stays cells h = every_map (IsCalmCell Calm old) (IsCalmCell Calm new) cells
    (λ cell calm on. (let k : IsOfCalm Calm old cell = calm on in record { message = k.message; calm = k.calm; made = stays.kept cell.mark _ k.made })) h

module _ (old new : List Frame) (stays : Extends old new) (start : Start) (site : Site) (h : IsFirstSite old start site) where
  site_later : IsFirstSite new start site
  site_later = record {
    fits = h.fits;
    controller = h.controller;
    ready = h.ready;
    switch = h.switch;
    down = cells_later (IsFirstDown start) old new stays site.controller.queue h.down;
    up = cells_later (IsFirstUp start) old new stays (queue_of site.switch.crossbar control_port) h.up;
  }

  -- *Its controller* acts
  controller_site : (c : Controller) → IsFirstController start c → IsReady c → (later : List Cell) → c.queue ≡ site.controller.queue ++ later
      → Every (IsCalmCell (IsFirstDown start) new) later
      → IsFirstSite new start (record site { controller = c })
  controller_site c first ready later queue calm = record {
    fits = h.fits;
    controller = first;
    ready = ready;
    switch = h.switch;
    down = subst (Every (IsCalmCell (IsFirstDown start) new)) (sym queue)
        (every_join (IsCalmCell (IsFirstDown start) new) site.controller.queue later (cells_later (IsFirstDown start) old new stays site.controller.queue h.down) calm);
    up = cells_later (IsFirstUp start) old new stays (queue_of site.switch.crossbar control_port) h.up;
  }

  -- *Its switch* does
  switch_site : (s : Switch) → IsFirstSwitch start s
      → (Every (IsCalmCell (IsFirstUp start) new) (queue_of site.switch.crossbar control_port) → Every (IsCalmCell (IsFirstUp start) new) (queue_of s.crossbar control_port))
      → IsFirstSite new start (record site { switch = s })
  switch_site s first up = record {
    fits = h.fits;
    controller = h.controller;
    ready = h.ready;
    switch = first;
    down = cells_later (IsFirstDown start) old new stays site.controller.queue h.down;
    up = up (cells_later (IsFirstUp start) old new stays (queue_of site.switch.crossbar control_port) h.up);
  }

-- *A queue loses its head*
pub pop_site : (frames : List Frame) (start : Start) (site : Site) (place : Place) (cell : Cell) (cells : List Cell) → queue_in site place ≡ cell ∷ cells
    → IsFirstSite frames start site
    → IsFirstSite frames start (with_queue_in site place cells)
pop_site frames start site (Down node) cell cells is h = record {
  fits = h.fits;
  controller = first_with start site.controller site.controller.reassembly cells h.controller;
  ready = ready_with start site.controller site.controller.reassembly cells h.ready;
  switch = h.switch;
  down = (subst (Every (IsCalmCell (IsFirstDown start) frames)) is h.down).1;
  up = h.up;
}
pop_site frames start site (Up node) cell cells is h = record {
  fits = h.fits;
  controller = h.controller;
  ready = h.ready;
  switch = record { ports = h.switch.ports; vpis = h.switch.vpis; branches = h.switch.branches };
  down = h.down;
  up = every_set (IsCalmCell (IsFirstUp start) frames) site.switch.crossbar.queues 0 cells h.up (λ e. (subst (Every (IsCalmCell (IsFirstUp start) frames)) is h.up).1);
}
pop_site frames start site (Out node port) cell cells is h = record {
  fits = h.fits;
  controller = h.controller;
  ready = h.ready;
  switch = record { ports = h.switch.ports; vpis = h.switch.vpis; branches = h.switch.branches };
  down = h.down;
  up = every_set (IsCalmCell (IsFirstUp start) frames) site.switch.crossbar.queues port.0 cells h.up
      (λ e. (subst (Every (IsCalmCell (IsFirstUp start) frames)) (ap (λ (i : ℕ). slice_index_or site.switch.crossbar.queues i []) (sym e) ∙ is) h.up).1);
}

module _ (topology : Topology) where
  node_later : (old new : List Frame) → Extends old new → (node : NodeId) (site : Site) → IsFirstNode topology old node site → IsFirstNode topology new node site
  node_later old new stays node site n = record { start = n.start; ports = n.ports; vpis = n.vpis; is = site_later old new stays n.start site n.is }

  -- *One node* is another now
  one_node : (u v : World) (here : NodeId) (new : Site) → IsFirstWorld topology u → Extends u.notes.frames v.notes.frames → AreFirstFrames v.notes.frames
      → site_at v here ≡ Some new
      → IsFirstNode topology v.notes.frames here new → ((node : NodeId) → here.0 ≢ node.0 → site_at v node ≡ site_at u node) → IsFirstWorld topology v
  one_node u v here new h stays frames found first others = record { frames = frames; nodes = at_node }
    where
      some_site : (x y : Site) → Some x ≡ Some y → x ≡ y
      some_site x y e = cc e

      at_node : (node : NodeId) (site : Site) → site_at v node ≡ Some site → IsFirstNode topology v.notes.frames node site
      at_node node site there = by_eq here.0 node.0
          (λ same t. (let is : here ≡ node = λ i. record { 0 = same i } in
          subst (λ (n : NodeId). site_at v n ≡ Some site → IsFirstNode topology v.notes.frames n site) is
          (λ e. subst (IsFirstNode topology v.notes.frames here) (some_site new site (sym found ∙ e)) first) there))
          (λ apart t. node_later u.notes.frames v.notes.frames stays node site (h.nodes node site (sym (others node apart) ∙ there)))

  -- *A queue of a node loses its head*
  module _ (u : World) (h : IsFirstWorld topology u) (place : Place) (cell : Cell) (cells : List Cell) (site : Site)
      (found : site_at u (place_node place) ≡ Some site) (queue : queue_in site place ≡ cell ∷ cells) where
    abbrev pub now : Site
    now = with_queue_in site place cells

    abbrev pub popped : World
    popped = with_queue_of u place cells (Some site)

    abbrev pub first_now : IsFirstNode topology u.notes.frames (place_node place) now
    first_now = (let n : IsFirstNode topology u.notes.frames (place_node place) site = h.nodes (place_node place) site found in
        record { start = n.start; ports = n.ports; vpis = n.vpis; is = pop_site u.notes.frames n.start site place cell cells queue n.is })

    key : (p : Place) → site_key (with_queue_in site p cells) ≡ site_key site
    key (Down node) = refl
    key (Up node) = refl
    key (Out node port) = refl

    own : site_key now ≡ (place_node place).0
    own = key place ∙ at_key site_key (place_node place).0 u.sites site found

    pub popped_here : site_at popped (place_node place) ≡ Some now
    popped_here = subst (λ (n : ℕ). at site_key n popped.sites ≡ Some now) own
        (at_put_same site_key now u.sites site (subst (λ (n : ℕ). at site_key n u.sites ≡ Some site) (sym own) found))

    pub popped_there : (node : NodeId) → (place_node place).0 ≢ node.0 → site_at popped node ≡ site_at u node
    popped_there node apart = at_put_other site_key now node.0 u.sites (λ e. apart (sym own ∙ e))

    pub pop_world : IsFirstWorld topology popped
    pop_world = one_node u popped (place_node place) now h (record { kept = λ mark payload made. made }) h.frames popped_here first_now popped_there

  module _ (u : World) (h : IsFirstWorld topology u) (here : NodeId) (site : Site) (found : site_at u here ≡ Some site)
      (n : IsFirstNode topology u.notes.frames here site) where
    -- *A controller acts*
    pub controller_world : (act : controllers.Acted → controllers.Acted) → ((a : controllers.Acted) → (act a).controller.node ≡ a.controller.node)
        → Leaves n.start (acting u site) (act (acting u site))
        → Extends u.notes.frames (at_controller u here act).notes.frames → IsFirstWorld topology (at_controller u here act)
    controller_world act same leaves stays =
        let a : controllers.Acted = act (acting u site) in
        let frames : (at_controller u here act).notes.frames ≡ a.notes.frames = controller_frames u here site found act same in
        one_node u (at_controller u here act) here (record site { controller = a.controller }) h stays (subst AreFirstFrames (sym frames) (leaves.frames h.frames))
        (controller_here u here site found act same)
        (subst (λ (fs : List Frame). IsFirstNode topology fs here (record site { controller = a.controller })) (sym frames) (record {
          start = n.start;
          ports = n.ports;
          vpis = n.vpis;
          is = controller_site u.notes.frames a.notes.frames
              (subst (Extends u.notes.frames) frames stays) n.start site n.is a.controller leaves.controller leaves.ready leaves.says.later leaves.says.queue leaves.says.calm;
        }))
        (λ node apart. controller_elsewhere u node here act same apart)

    -- *A switch does*
    pub switch_world : (act : switches.ActedSwitch → switches.ActedSwitch) → SwitchLeaves n.start (switching u site) (act (switching u site))
        → Extends u.notes.frames (at_switch u here act).notes.frames → IsFirstWorld topology (at_switch u here act)
    switch_world act leaves stays =
        let a : switches.ActedSwitch = act (switching u site) in
        let frames : (at_switch u here act).notes.frames ≡ a.notes.frames = switch_frames u here site found act in
        one_node u (at_switch u here act) here (record site { switch = a.switch }) h stays (subst AreFirstFrames (sym frames) (leaves.frames h.frames))
        (switch_here u here site found act)
        (subst (λ (fs : List Frame). IsFirstNode topology fs here (record site { switch = a.switch })) (sym frames) (record {
          start = n.start;
          ports = n.ports;
          vpis = n.vpis;
          is = switch_site u.notes.frames a.notes.frames (subst (Extends u.notes.frames) frames stays) n.start site n.is a.switch leaves.switch leaves.up;
        }))
        (λ node apart. switch_elsewhere u node here act apart)
