-- open ways stay open

use Rattle.std.proofs.Common.{List, [], ◌∷◌, map, refl, sym, ◌∙◌, ap, subst, inl, inr}
use Rattle.world_model.specs.Words.{NodeId, Down, Up, Out, End, Branches, default_end, default_home, World, Site, put_away, next, tick_of, switch_tick_of, world_after}
use Rattle.world_model.specs.network_model.declared.event.Event.{Event}
use Rattle.world_model.specs.network_model.declared.event.Event.TheVariants.{Inject, Carry, Lose, Tick, TickSwitch, Restart, RestartSwitch, Forge, Route}
use Rattle.world_model.specs.network_model.declared.link.LinkEnd.{LinkEnd}
use Rattle.law_branch_shapes.proofs.law_causes.Shown.{IsPeer, peer_back}
use Rattle.law_run_facts.specs.ordered_lists.Ordered.{Every}
use Rattle.law_run_facts.proofs.ordered_lists.Every.{every_left, every_right, every_join}
use Rattle.law_live_orders.specs.Law.{LeadsAlone}
use Rattle.law_live_orders.proofs.Sites.{IsThere, leads_there, output_there}
use Rattle.law_live_ways.specs.Requests.{LeadsThere}
use Rattle.law_live_ways.specs.Law.{KeepsWay, WaysStayOpen, StretchesKeepWays, TicksKeepWays}
use Rattle.law_live_ways.proofs.Branches.{led_again, out_kept, home_kept}
use Rattle.law_live_ways.proofs.Shaped.{acts_shaped}
use Rattle.law_live_ways.proofs.Worlds.{At, KeepsHere, event_at}

-- *A way* is told of the switch of its node
led_at : (w : World) (node : NodeId) (input output : End) → LeadsAlone w node input output → At w node (λ (m : Branches). LeadsThere m input output)
led_at w node input output h =
    let there : IsThere w node = leads_there w node input output h.leads in
    record {
      site = there.site;
      found = there.found;
      kept = record {
        leads = sym (output_there w node input there.site there.found) ∙ h.leads;
        alone = λ other e. h.alone other (output_there w node other there.site there.found ∙ e);
      };
    }

at_led : (w : World) (node : NodeId) (input output : End) → At w node (λ (m : Branches). LeadsThere m input output) → LeadsAlone w node input output
at_led w node input output h = record {
  leads = output_there w node input h.site h.found ∙ h.kept.leads;
  alone = λ other e. h.kept.alone other (sym (output_there w node other h.site h.found) ∙ e);
}

-- *An event* keeps what it keeps at either end
module _ (w : World) (one far : LinkEnd) where
  near_keeps : (event : Event) → KeepsWay w one far event → KeepsHere w one.node event
  near_keeps (Inject node octets) ok = tt
  near_keeps (Carry (Down node)) ok = λ own. ok (inl own)
  near_keeps (Carry (Up node)) ok = tt
  near_keeps (Carry (Out node port)) ok = tt
  near_keeps (Lose place) ok = tt
  near_keeps (Tick node) ok = tt
  near_keeps (TickSwitch node) ok = tt
  near_keeps (Restart node) ok = tt
  near_keeps (RestartSwitch node) ok = λ own. ok (inl own)
  near_keeps (Forge place channel payload) ok = tt
  near_keeps (Route node change) ok = tt

  far_keeps : (event : Event) → KeepsWay w one far event → KeepsHere w far.node event
  far_keeps (Inject node octets) ok = tt
  far_keeps (Carry (Down node)) ok = λ own. ok (inr own)
  far_keeps (Carry (Up node)) ok = tt
  far_keeps (Carry (Out node port)) ok = tt
  far_keeps (Lose place) ok = tt
  far_keeps (Tick node) ok = tt
  far_keeps (TickSwitch node) ok = tt
  far_keeps (Restart node) ok = tt
  far_keeps (RestartSwitch node) ok = λ own. ok (inr own)
  far_keeps (Forge place channel payload) ok = tt
  far_keeps (Route node change) ok = tt

pub ways_stay_open : WaysStayOpen
ways_stay_open topology w one far event is way ok =
    let peer : IsPeer topology one far = peer_back topology is one far way.linked in
    let out : LeadsAlone (next topology w event) one.node (default_home one.port) (default_end one.port) =
    at_led (next topology w event) one.node (default_home one.port) (default_end one.port)
    (event_at (λ (m : Branches). LeadsThere m (default_home one.port) (default_end one.port)) (out_kept one.port peer.own.0) (λ m k was b found same h. led_again m (default_home one.port) (default_end one.port) h k was b found same)
    topology w one.node is event (near_keeps w one far event ok) (led_at w one.node (default_home one.port) (default_end one.port) way.out)) in
    let home : LeadsAlone (next topology w event) far.node (default_end far.port) (default_home far.port) =
    at_led (next topology w event) far.node (default_end far.port) (default_home far.port)
    (event_at (λ (m : Branches). LeadsThere m (default_end far.port) (default_home far.port)) (home_kept far.port peer.port.0) (λ m k was b found same h. led_again m (default_end far.port) (default_home far.port) h k was b found same)
    topology w far.node is event (far_keeps w one far event ok) (led_at w far.node (default_end far.port) (default_home far.port) way.home)) in
    record { linked = way.linked; shaped = acts_shaped topology (put_away w) event way.shaped; out = out; home = home }

-- *A stretch*
pub stretches_keep_ways : StretchesKeepWays
stretches_keep_ways topology w one far [] is way ok = way
stretches_keep_ways topology w one far (event ∷ events) is way ok =
    stretches_keep_ways topology (next topology w event) one far events is (ways_stay_open topology w one far event is way (ok [] events event refl))
    (λ front rest later e. ok (event ∷ front) rest later (ap (λ (es : List Event). event ∷ es) e))

-- *Ticks* keep each way
data IsTick : Event → Type 0 where
  of_controller : (node : NodeId) → IsTick (Tick node)
  of_switch : (node : NodeId) → IsTick (TickSwitch node)

all_tick : (sites : List Site) → Every IsTick (map tick_of sites)
all_tick [] = tt
all_tick (site ∷ sites) = (of_controller site.controller.node, all_tick sites)

all_switches_tick : (sites : List Site) → Every IsTick (map switch_tick_of sites)
all_switches_tick [] = tt
all_switches_tick (site ∷ sites) = (of_switch site.controller.node, all_switches_tick sites)

ticks_keep : (w : World) (one far : LinkEnd) (event : Event) → IsTick event → KeepsWay w one far event
ticks_keep w one far _ (of_controller node) = tt
ticks_keep w one far _ (of_switch node) = tt

pub ticks_keep_ways : TicksKeepWays
ticks_keep_ways topology w one far front rest is way e = stretches_keep_ways topology w one far front is way
    (λ before after event f. ticks_keep (world_after topology w before) one far event
    (every_right IsTick before (event ∷ after) (subst (Every IsTick) f all_front)).0)
  where
    all_front : Every IsTick front
    all_front = every_left IsTick front rest (subst (Every IsTick) e (every_join IsTick (map tick_of w.sites) (map switch_tick_of w.sites) (all_tick w.sites) (all_switches_tick w.sites)))
