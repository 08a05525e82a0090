-- a controller or a switch of a network acts: control frames are where they are to be

use Rattle.std.proofs.Common.{◌≡◌, ℕ, true, List, [], ◌∷◌, Option, None, Some, refl, sym, ◌∙◌, ap, subst}
use Rattle.std.specs.Prelude.{slice_index_or}
use Rattle.std.specs.Option.{option_map_or}
use Rattle.world_model.specs.Words.{NodeId, PortNo, Place, Down, Up, Out, Cell, Frame, queue_of, control_port, Linked, Topology, is_linked, World, Site, site_at, controller_acts, switch_acts, place_node, queue_in, queue_at, with_queue_in, with_queue_of, with_queue}
use Rattle.law_frame_readings.specs.ordered_lists.Ordered.{Every}
use Rattle.world_model.specs.Switch as switches
use Rattle.world_model.specs.Controller.{Acted}
use Rattle.law_frame_readings.specs.law_controller_facts.Inputs.{Input, takes_input}
use Rattle.world_model.specs.World.{at_controller, at_switch}
use Rattle.law_frame_readings.specs.law_world_views.Shown.{acting}
use Rattle.law_run_facts.specs.Inputs.{SwitchInput, switch_takes}
use Rattle.law_run_facts.specs.Frames.{IsFree, Stay}
use Rattle.law_running_worlds.proofs.MadeSites.{Sited, put_sited}
use Rattle.law_control_places.proofs.Controllers.{AreRight, rights_later, IsGiven, input_right}
use Rattle.law_control_places.proofs.Switches.{LeadsHome, queue_set, switch_good}
use Rattle.law_running_worlds.proofs.law_input_events.Acting.{beside}

module _ (t : Topology) where
  abbrev pub LinkedTo : NodeId → PortNo → Type 0
  LinkedTo node port = is_linked t node port ≡ true

  -- *A site behind an event*
  pub record IsAfter (frames : List Frame) (site : Site) : Type 0 where
    pub down : AreRight (LinkedTo site.controller.node) frames site.controller.queue
    pub up : AreRight (LinkedTo site.controller.node) frames (queue_of site.switch.crossbar control_port)

  -- *and before it*: its ports are linked, and its branches to the controller are of such ports
  pub record IsBefore (frames : List Frame) (site : Site) : Type 0 where
    pub links : Every (λ (linked : Linked). LinkedTo site.controller.node linked.setup.port) site.controller.ports
    pub leads : LeadsHome (LinkedTo site.controller.node) site.switch.crossbar
    pub down : AreRight (LinkedTo site.controller.node) frames site.controller.queue
    pub up : AreRight (LinkedTo site.controller.node) frames (queue_of site.switch.crossbar control_port)

  later : (old new : List Frame) → Stay old new → (site : Site) → IsBefore old site → IsAfter new site
  later old new stay site h = record {
    down = rights_later (LinkedTo site.controller.node) old new (λ mark payload none. stay mark payload) site.controller.queue h.down;
    up = rights_later (LinkedTo site.controller.node) old new (λ mark payload none. stay mark payload) (queue_of site.switch.crossbar control_port) h.up;
  }

  abbrev pub Before : List Frame → World → Type 0
  Before frames u = Sited (IsBefore frames) u.sites

  abbrev pub Behind : World → Type 0
  Behind u = Sited (IsAfter u.notes.frames) u.sites

  pub unchanged : (u : World) → Before u.notes.frames u → Behind u
  unchanged u h node site e = later u.notes.frames u.notes.frames (λ mark payload is. is) site (h node site e)

  -- *A controller*
  pub record Goes (a : Acted) (input : Input) : Type 0 where
    pub given : IsGiven (LinkedTo a.controller.node) a input
    pub node : (takes_input a input).controller.node ≡ a.controller.node

  pub controller_behind : (u : World) (here : NodeId) (act : Acted → Acted) (input : Input) → ((a : Acted) → act a ≡ takes_input a input) → IsFree u.numbers.controls u.notes.frames → Before u.notes.frames u
      → ((site : Site) → site_at u here ≡ Some site → Goes (acting u site) input) → Stay u.notes.frames (at_controller u here act).notes.frames → Behind (at_controller u here act)
  controller_behind u here act input is free h goes = by (site_at u here) refl
    where
      by : (o : Option Site) → site_at u here ≡ o → Stay u.notes.frames (controller_acts u o act).notes.frames → Behind (controller_acts u o act)
      by None found stay = unchanged u h
      by (Some site) found stay =
          let a : Acted = acting u site in
          let g : Goes a input = goes site found in
          let k : IsBefore u.notes.frames site = h here site found in
          let down : AreRight (LinkedTo site.controller.node) (act a).notes.frames (act a).controller.queue =
          subst (λ (b : Acted). AreRight (LinkedTo site.controller.node) b.notes.frames b.controller.queue) (sym (is a)) (input_right (LinkedTo site.controller.node) a input g.given k.links (free, k.down)) in
          let same : (act a).controller.node ≡ site.controller.node = ap (λ (b : Acted). b.controller.node) (is a) ∙ g.node in
          put_sited (IsAfter (act a).notes.frames) (record site { controller = (act a).controller }) u.sites
          (record {
            down = subst (λ (n : NodeId). AreRight (LinkedTo n) (act a).notes.frames (act a).controller.queue) (sym same) down;
            up = subst (λ (n : NodeId). AreRight (LinkedTo n) (act a).notes.frames (queue_of site.switch.crossbar control_port)) (sym same) (later u.notes.frames (act a).notes.frames stay site k).up;
          }) (λ n x e. later u.notes.frames (act a).notes.frames stay x (h n x e))

  -- *A switch*
  pub switch_behind : (u : World) (here : NodeId) (input : SwitchInput) → IsFree u.numbers.controls u.notes.frames → Before u.notes.frames u
      → Stay u.notes.frames (at_switch u here (λ a. switch_takes a input)).notes.frames → Behind (at_switch u here (λ a. switch_takes a input))
  switch_behind u here input free h = by (site_at u here) refl
    where
      by : (o : Option Site) → site_at u here ≡ o → Stay u.notes.frames (switch_acts u o (λ a. switch_takes a input)).notes.frames → Behind (switch_acts u o (λ a. switch_takes a input))
      by None found stay = unchanged u h
      by (Some site) found stay =
          let b : switches.ActedSwitch = switch_takes (beside u site) input in
          let k : IsBefore u.notes.frames site = h here site found in
          put_sited (IsAfter b.notes.frames) (record site { switch = b.switch }) u.sites
          (record {
            down = (later u.notes.frames b.notes.frames stay site k).down;
            up = switch_good (LinkedTo site.controller.node) (beside u site) input k.leads (free, k.up);
          }) (λ n x e. later u.notes.frames b.notes.frames stay x (h n x e))

  -- *A queue loses its head*
  pop_site : (frames : List Frame) (site : Site) (place : Place) (cell : Cell) (cells : List Cell) → queue_in site place ≡ cell ∷ cells → IsBefore frames site → IsBefore frames (with_queue_in site place cells)
  pop_site frames site (Down node) cell cells is h = record { links = h.links; leads = h.leads; down = (subst (AreRight (LinkedTo site.controller.node) frames) is h.down).1; up = h.up }
  pop_site frames site (Up node) cell cells is h = record {
    links = h.links;
    leads = h.leads;
    down = h.down;
    up = queue_set (AreRight (LinkedTo site.controller.node) frames) site.switch.crossbar.queues 0 cells tt h.up (λ e. (subst (AreRight (LinkedTo site.controller.node) frames) is h.up).1);
  }
  pop_site frames site (Out node port) cell cells is h = record {
    links = h.links;
    leads = h.leads;
    down = h.down;
    up = queue_set (AreRight (LinkedTo site.controller.node) frames) site.switch.crossbar.queues port.0 cells tt h.up
        (λ e. (subst (AreRight (LinkedTo site.controller.node) frames) (ap (λ (p : ℕ). slice_index_or site.switch.crossbar.queues p []) (sym e) ∙ is) h.up).1);
  }

  pub pop_before : (frames : List Frame) (v : World) (place : Place) (cell : Cell) (cells : List Cell) → queue_at v place ≡ cell ∷ cells → Before frames v → Before frames (with_queue v place cells)
  pop_before frames v place cell cells is h = by (site_at v (place_node place)) refl
    where
      by : (o : Option Site) → site_at v (place_node place) ≡ o → Before frames (with_queue_of v place cells o)
      by None found = h
      by (Some site) found = put_sited (IsBefore frames) (with_queue_in site place cells) v.sites
          (pop_site frames site place cell cells (sym (ap (λ (o : Option Site). option_map_or (λ (x : Site). queue_in x place) o []) found) ∙ is) (h (place_node place) site found)) h

  -- and makes nothing
  pub pop_notes : (v : World) (place : Place) (cells : List Cell) → ((with_queue v place cells).notes ≡ v.notes) × ((with_queue v place cells).numbers ≡ v.numbers)
  pop_notes v place cells = by (site_at v (place_node place))
    where
      by : (o : Option Site) → ((with_queue_of v place cells o).notes ≡ v.notes) × ((with_queue_of v place cells o).numbers ≡ v.numbers)
      by None = (refl, refl)
      by (Some site) = (refl, refl)
