-- a controller or a switch of a network acts: the numbers of each node still fit, and each frame is a packet's or a message's

use Rattle.std.proofs.Common.{◌≡◌, ◌<◌, List, Option, None, Some, refl, sym, subst}
use Rattle.std.specs.Prelude.{◌^◌}
use Rattle.law_branch_shapes.specs.world_model.Words.{NodeId, Place, Down, Up, Out, Cell, IsLinkPort, Setup, World, Site, site_at, controller_acts, switch_acts, place_node, with_queue_in, with_queue_of, with_queue}
use Rattle.law_frame_readings.specs.ordered_lists.Ordered.{Every}
use Rattle.law_branch_shapes.specs.world_model.Switch as switches
use Rattle.law_branch_shapes.specs.world_model.Controller.{Acted}
use Rattle.law_frame_readings.proofs.law_controller_facts.Moves.{popping, moves_to}
use Rattle.law_frame_readings.specs.law_controller_views.Ready.{IsReady}
use Rattle.law_frame_readings.proofs.law_controller_lifts.Ready.{both_ready, split_unspent, split_fits}
use Rattle.law_branch_shapes.specs.world_model.World.{at_controller, at_switch}
pub use Rattle.law_frame_readings.proofs.law_world_views.Put.{put_found, Sited, put_sited}
use Rattle.law_frame_readings.specs.law_world_views.Made.{AreMade}
use Rattle.law_frame_readings.specs.law_world_views.Ready.{setups_of, IsReadySite}
use Rattle.law_frame_readings.specs.law_world_views.Shown.{acting}
use Rattle.law_running_worlds.proofs.Walk.{Base, base_moves, Carried, To, alike_to}
use Rattle.law_running_worlds.proofs.Switch as switch
use Rattle.law_running_worlds.proofs.Switch.{IsSized, IsGood}
use Rattle.law_input_events.proofs.Acting.{beside}

-- *A node before an event*
pub record IsKnown (site : Site) : Type 0 where
  pub ready : IsReadySite site
  pub links : Every (λ (setup : Setup). IsLinkPort setup.port) (setups_of site.controller)
  pub address : site.controller.address.0 < 2 ^ 32
  pub sized : IsSized site.switch.ports

pub record Before (v : World) : Type 0 where
  pub made : AreMade v.notes.frames
  pub sites : Sited IsKnown v.sites

-- *and behind it*
pub record Behind (v : World) : Type 0 where
  pub made : AreMade v.notes.frames
  pub sites : Sited IsReadySite v.sites

pub unchanged : (v : World) → Before v → Behind v
unchanged v h = record { made = h.made; sites = λ node site e. (h.sites node site e).ready }

-- *A controller*: its parts
base_of : (v : World) (site : Site) → IsKnown site → Base (setups_of site.controller) (acting v site)
base_of v site h = record { sound = h.ready.controller.sound; flows = h.ready.controller.flows; ranged = h.ready.controller.ranged; links = h.links; address = h.address }

carried_of : (v : World) (site : Site) → AreMade v.notes.frames → IsKnown site → Carried (setups_of site.controller) (acting v site)
carried_of v site made h = record { wide = split_fits site.controller.ports h.ready.controller.ports; rows = h.ready.rows; side = h.ready.side; made = made }

-- what a controller leads to is ready, and what was made is a packet's or a message's
pub record IsLed (site : Site) (b : Acted) : Type 0 where
  pub ready : IsReadySite (record site { controller = b.controller })
  pub made : AreMade b.notes.frames
  pub links : Every (λ (setup : Setup). IsLinkPort setup.port) (setups_of b.controller)
  pub address : b.controller.address.0 < 2 ^ 32

pub led : (v : World) (site : Site) (b : Acted) → AreMade v.notes.frames → IsKnown site → To (setups_of site.controller) (acting v site) b → b.numbers.instances < 2 ^ 32 → IsLed site b
led v site b made h to small = record {
  ready = record {
    controller = subst (λ (s : List Setup). IsReady s b.controller) (sym same) ready;
    rows = after.rows;
    side = after.side;
    switch_side = h.ready.switch_side;
    ports = h.ready.ports;
  };
  made = after.made;
  links = subst (Every (λ (setup : Setup). IsLinkPort setup.port)) (sym same) h.links;
  address = base.address;
}
  where
    setups : List Setup
    setups = setups_of site.controller

    base : Base (setups_of site.controller) b
    base = base_moves (setups_of site.controller) (acting v site) b to.moves (base_of v site h)

    after : Carried (setups_of site.controller) b
    after = to.carried small (base_of v site h) (carried_of v site made h)

    same : setups_of b.controller ≡ setups_of site.controller
    same = base.sound.ports.same

    ready : IsReady (setups_of site.controller) b.controller
    ready = record {
      sound = base.sound;
      flows = base.flows;
      ranged = base.ranged;
      ports = both_ready b.controller.ports (to.unspent small h.ready.controller.sound (split_unspent site.controller.ports h.ready.controller.ports)) after.wide;
    }

pub controller_behind : (v : World) (node : NodeId) (act : Acted → Acted) → Before v
    → ((site : Site) → site_at v node ≡ Some site → To (setups_of site.controller) (acting v site) (act (acting v site)))
    → (at_controller v node act).numbers.instances < 2 ^ 32 → Behind (at_controller v node act)
controller_behind v node act h to = by (site_at v node) refl
  where
    by : (o : Option Site) → site_at v node ≡ o → (controller_acts v o act).numbers.instances < 2 ^ 32 → Behind (controller_acts v o act)
    by None found small = unchanged v h
    by (Some site) found small =
        let l : IsLed site (act (acting v site)) = led v site (act (acting v site)) h.made (h.sites node site found) (to site found) small in
        record { made = l.made; sites = put_sited IsReadySite (record site { controller = (act (acting v site)).controller }) v.sites l.ready (λ n x e. (h.sites n x e).ready) }

-- *A switch*
pub switch_behind : (v : World) (node : NodeId) (act : switches.ActedSwitch → switches.ActedSwitch) → Before v
    → ((site : Site) → site_at v node ≡ Some site → IsSized site.switch.ports → switch.To (beside v site) (act (beside v site)))
    → (at_switch v node act).numbers.instances < 2 ^ 32 → Behind (at_switch v node act)
switch_behind v node act h to = by (site_at v node) refl
  where
    by : (o : Option Site) → site_at v node ≡ o → (switch_acts v o act).numbers.instances < 2 ^ 32 → Behind (switch_acts v o act)
    by None found small = unchanged v h
    by (Some site) found small =
        let k : IsKnown site = h.sites node site found in
        let good : IsGood (act (beside v site)) = (to site found k.sized).good small (record { side = k.ready.switch_side; ports = k.ready.ports; made = h.made }) in
        record {
          made = good.made;
          sites = put_sited IsReadySite (record site { switch = (act (beside v site)).switch }) v.sites
              (record { controller = k.ready.controller; rows = k.ready.rows; side = k.ready.side; switch_side = good.side; ports = good.ports }) (λ n x e. (h.sites n x e).ready);
        }

-- *A queue loses its head*
pop_known : (v : World) (site : Site) (place : Place) (cells : List Cell) → AreMade v.notes.frames → v.numbers.instances < 2 ^ 32 → IsKnown site → IsKnown (with_queue_in site place cells)
pop_known v site (Down node) cells made small h =
    let b : Acted = record (acting v site) { controller = record site.controller { queue = cells } } in
    let l : IsLed site b = led v site b made h (alike_to (setups_of site.controller) (acting v site) b (moves_to (popping (acting v site) cells)) refl refl refl refl) small in
    record { ready = l.ready; links = l.links; address = l.address; sized = h.sized }
pop_known v site (Up node) cells made small h = record {
  ready = record { controller = h.ready.controller; rows = h.ready.rows; side = h.ready.side; switch_side = h.ready.switch_side; ports = h.ready.ports };
  links = h.links;
  address = h.address;
  sized = h.sized;
}
pop_known v site (Out node port) cells made small h = record {
  ready = record { controller = h.ready.controller; rows = h.ready.rows; side = h.ready.side; switch_side = h.ready.switch_side; ports = h.ready.ports };
  links = h.links;
  address = h.address;
  sized = h.sized;
}

pub pop_before : (v : World) (place : Place) (cells : List Cell) → v.numbers.instances < 2 ^ 32 → Before v → Before (with_queue v place cells)
pop_before v place cells small h = by (site_at v (place_node place)) refl
  where
    by : (o : Option Site) → site_at v (place_node place) ≡ o → Before (with_queue_of v place cells o)
    by None found = h
    by (Some site) found = record {
      made = h.made;
      sites = put_sited IsKnown (with_queue_in site place cells) v.sites (pop_known v site place cells h.made small (h.sites (place_node place) site found)) h.sites;
    }
