-- In a beat each actor of a network ticks once

use Rattle.std.specs.Prelude.{◌≡◌, Bool, true, false, ◌++◌, map, Option, Some}
use Rattle.std.specs.List.{list_any}
use Rattle.live_model.specs.world_model.Words.{NodeId, tick_comes, Topology, Site, World, site_at, IsShaped, tick_of_all, world_after}
use Rattle.live_model.specs.world_model.Switch as switches
use Rattle.live_model.specs.world_model.Controller as controllers
use Rattle.live_model.specs.world_model.Ticks.{ticks}
use Rattle.live_model.specs.world_model.network_model.declared.event.Event.{Event}
use Rattle.live_model.specs.world_model.network_model.declared.event.Event.TheVariants.{Carry, Tick, TickSwitch}
use Rattle.live_model.specs.Beats.{Beat, IsBeat}

-- *A node has ticked*: its controller and its switch, each as it was, with the notes and the numbers of the run
pub record HasTicked (before after : Site) : Type 0 where
  pub controller : controllers.Acted
  pub own_controller : controller.controller ≡ before.controller
  pub controller_ticked : after.controller ≡ (ticks controller).controller
  pub switch : switches.ActedSwitch
  pub own_switch : switch.switch ≡ before.switch
  pub switch_ticked : after.switch ≡ (tick_comes switch).switch

pub record IsTicked (before : Site) (now : Option Site) : Type 0 where
  pub after : Site
  pub there : now ≡ Some after
  pub ticked : HasTicked before after

abbrev pub TicksReachAll : Type 0
TicksReachAll = (topology : Topology) (w : World) (node : NodeId) (site : Site) → IsShaped w → site_at w node ≡ Some site
    → IsTicked site (site_at (world_after topology w (tick_of_all w)) node)

-- *No other tick* comes in a beat
abbrev pub is_tick : Event → Bool
is_tick (Tick node) = true
is_tick (TickSwitch node) = true
is_tick event = false

abbrev pub TicksComeFirst : Type 0
TicksComeFirst = (topology : Topology) (w : World) (beat : Beat) → IsBeat topology w beat
    → list_any is_tick (map Carry beat.carries ++ beat.sending) ≡ false
