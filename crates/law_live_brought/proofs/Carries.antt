-- a carry of a run is one by which both ends of a link bind on

use Rattle.std.proofs.Common.{◌≡◌, List, subst}
use Rattle.world_model.specs.Words.{Policy, Place, Up, Topology, World, next, past_of}
use Rattle.world_model.specs.network_model.declared.link.LinkEnd.{LinkEnd}
use Rattle.world_model.specs.network_model.declared.event.Event.{Event}
use Rattle.world_model.specs.network_model.declared.event.Event.TheVariants.{Carry}
use Rattle.law_live_binding_beats.specs.law_run_facts.law_world_views.Between.{IsWorld}
use Rattle.law_live_binding_beats.specs.law_run_facts.law_world_views.Kept.{Comes}
use Rattle.law_live_binding_beats.specs.law_run_facts.law_world_views.law_shown_cells.Seen.{Extends}
use Rattle.law_live_binding_beats.proofs.law_run_facts.Steps.{runs_have_fronts}
use Rattle.law_live_binding_beats.proofs.law_control_places.Chains.{chains_are_their_frames}
use Rattle.law_live_binding_beats.specs.law_live_hearing.Law.{world_at}
use Rattle.law_live_binding_beats.specs.law_live_worlds.Law.{end_of}
use Rattle.law_live_binding_beats.specs.law_live_orders.Law.{coming}
use Rattle.law_live_binding_beats.proofs.law_live_control_links.Runs.{runs_are_steady}
use Rattle.law_live_binding_beats.specs.Law.{BindByQueues, IsBroughtOn}
use Rattle.law_live_binding_beats.proofs.Shown.{turned}
use Rattle.law_live_binding_beats.proofs.law_live_peace.Carries.{all_stay}
use Rattle.law_live_brought.specs.Carries.{IsMomentToBind, CarriesBind}
use Rattle.law_live_brought.proofs.Moment.{Brings}
use Rattle.law_live_brought.proofs.Brought.{brought_on}

-- *The other way round* it is such a moment too
moment_turned : (topology : Topology) (w : World) (one far : LinkEnd) (ends : BindByQueues w one far) (place : Place) → IsMomentToBind topology ends place
    → IsMomentToBind topology (turned w one far ends) place
moment_turned topology w one far ends place m = record {
  there = m.back;
  back = m.there;
  loses_nothing = m.loses_nothing;
  unlost = m.unlost;
  near = m.far_end;
  far_end = m.near;
  may = m.far_may;
  far_may = m.may;
}

module _ (policy : Policy) (topology : Topology) (before : List Event) (world : IsWorld (past_of policy topology before)) where
  abbrev w : World
  w = world_at policy topology before

  -- *At one end*, where it is brought a cell
  at_end : (one far : LinkEnd) (place : Place) → Comes policy topology before (Carry place) → (ends : BindByQueues w one far) → IsMomentToBind topology ends place → place ≡ Up one.node
      → IsBroughtOn topology w one ends.bind.shows (end_of ends.bind.far_linked ends.far_said)
  at_end one far place comes ends m here =
      let it_comes : Comes policy topology before (Carry (Up one.node)) = subst (λ (p : Place). Comes policy topology before (Carry p)) here comes in
      let n : IsMomentToBind topology ends (Up one.node) = subst (IsMomentToBind topology ends) here m in
      let b : Brings policy topology before ends = record {
        comes = it_comes;
        world = world;
        there = n.there;
        back = n.back;
        unlost = n.unlost;
        same = n.loses_nothing;
        node = n.near;
        may = n.may;
      } in
      brought_on {policy = policy} {topology = topology} {before = before} {one = one} {far = far} {ends = ends} b

pub carries_bind : CarriesBind
carries_bind policy topology before one far place comes world ends m =
    let w : World = world_at policy topology before in
    let stays : Extends w.notes.frames (next topology w (Carry place)).notes.frames = (runs_are_steady policy topology before (Carry place) comes world one.node).1.stays in
    record {
      is_place = (runs_have_fronts policy topology before (Carry place) comes).can.meant;
      counts = chains_are_their_frames policy topology before (Carry place) comes.tame;
      unlost = m.unlost;
      ways = record {
        there = m.there;
        back = m.back;
        stays = all_stay w.notes.frames (next topology w (Carry place)).notes.frames (coming w one far) stays;
        far_stays = all_stay w.notes.frames (next topology w (Carry place)).notes.frames (coming w far one) stays;
      };
      at_one = λ here. at_end policy topology before world one far place comes ends m here;
      at_far = λ here. at_end policy topology before world far one place comes (turned w one far ends) (moment_turned topology w one far ends place m) here;
    }
