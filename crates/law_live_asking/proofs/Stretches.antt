-- a stretch of a run goes on as its events do

use Rattle.std.proofs.Common.{◌≡◌, List, ◌∷◌, ◌++◌, append_assoc, length, sym, ◌∙◌, ap, subst}
use Rattle.world_model.specs.Words.{Policy, NodeId, Down, Up, Out, Topology, World, world_after, CountsAsItsFrame, IsNode, IsRun, past_of}
use Rattle.world_model.specs.World.{opened}
use Rattle.world_model.specs.network_model.Conditions.{IsWithin}
use Rattle.world_model.specs.network_model.declared.event.Event.{Event}
use Rattle.world_model.specs.network_model.declared.event.Event.TheVariants.{Inject, Carry, Lose, Tick, TickSwitch, Restart, RestartSwitch, Forge, Route}
use Rattle.law_live_lasting.proofs.law_control_places.Chains.{chains_are_their_frames}
use Rattle.law_live_lasting.specs.law_run_facts.law_world_views.Between.{IsWorld}
use Rattle.law_live_lasting.specs.law_run_facts.law_world_views.Kept.{Comes}
use Rattle.law_live_lasting.specs.law_run_facts.Nodes.{HasSite}
use Rattle.law_live_lasting.proofs.law_run_facts.Nodes.{runs_have_nodes}
use Rattle.law_live_lasting.proofs.law_run_facts.Rooms.{runs_keep_nodes}
use Rattle.law_live_lasting.proofs.law_run_facts.Steps.{front_run}
use Rattle.law_live_lasting.specs.law_true_runs.Runs.{HoldsInRuns, IsWhole}
use Rattle.law_live_lasting.proofs.law_true_runs.Walk.{holds_at, comes_at}
use Rattle.law_live_lasting.specs.law_live_hearing.Law.{world_at}
use Rattle.law_live_lasting.proofs.law_live_hearing.Going.{after_all}
use Rattle.law_live_lasting.specs.law_live_control_links.Law.{IsSteady, IsTrueEvent}
use Rattle.law_live_lasting.proofs.law_live_control_links.Runs.{runs_are_steady}
use Rattle.law_live_lasting.specs.law_live_mirrored_worlds.Law.{IsCalmlyMirrored, IsCalmEvent, CarriesOut}
use Rattle.law_live_lasting.specs.law_live_mirrored_worlds.Law as mirrored
use Rattle.law_live_lasting.proofs.law_live_mirrored_worlds.Ticks.{ticks_ask}
use Rattle.law_live_lasting.proofs.law_live_mirrored_worlds.Stretches.{stretches_carry_out}
use Rattle.law_live_asking.specs.Stretches.{GoesOn, IsCalmStretch, RunsCarryOut}
use Rattle.law_live_asking.proofs.Runs.{carries_ask}

module _ (whole : HoldsInRuns IsWhole) (policy : Policy) (topology : Topology) (before : List Event) (node : NodeId) (events : List Event)
    (s : IsCalmlyMirrored (world_at policy topology before) node) (c : IsCalmStretch policy topology before node events) where
  inside : IsNode topology node
  inside = (runs_have_nodes policy topology before c.addresses (front_run policy topology before events c.run) node s.calm.site s.calm.found).is_node.number

  module _ (front rest : List Event) (event : Event) (e : events ≡ front ++ event ∷ rest) where
    abbrev x : World
    x = world_at policy topology (before ++ front)

    abbrev v : World
    v = world_after topology (world_at policy topology before) front

    is_now : x ≡ v
    is_now = after_all topology (opened policy topology) before front

    split : before ++ events ≡ (before ++ front) ++ event ∷ rest
    split = ap (λ (es : List Event). before ++ es) e ∙ sym (append_assoc before front (event ∷ rest))

    comes : Comes policy topology (before ++ front) event
    comes = comes_at policy topology c.addresses (before ++ events) (before ++ front) rest event c.run c.tame split

    world : IsWorld (past_of policy topology (before ++ front))
    world = (holds_at policy topology c.addresses IsWhole whole (before ++ events) (before ++ front) (event ∷ rest) c.run c.tame split).world

    -- who is of the network is there
    there : (here : NodeId) → here.0 ≡ node.0 → HasSite x here
    there here same = runs_keep_nodes policy topology (before ++ front) (front_run policy topology (before ++ front) (event ∷ rest) (subst (IsRun policy topology) split c.run)) here
        (subst (IsWithin 1 (length topology.nodes)) (sym same) inside)

    goes : (y : Event) → Comes policy topology (before ++ front) y → CountsAsItsFrame x y → GoesOn topology x node y → mirrored.GoesOn topology x node y
    goes (Carry (Down here)) can counts g = λ same. record { counts = counts; unlost = g same }
    goes (Carry (Up here)) can counts g = λ same. (let h : HasSite x here = there here same in carries_ask policy topology (before ++ front) here h.site can world h.is (g same h.site h.is))
    goes (Carry (Out here port)) can counts g = tt
    goes (Tick here) can counts g = (g.0, λ same. (let h : HasSite x here = there here same in ticks_ask topology x here h.site h.is (g.1 same h.site h.is)))
    goes (TickSwitch here) can counts g = g
    goes (Inject here octets) can counts g = absurd g
    goes (Lose place) can counts g = absurd g
    goes (Restart here) can counts g = absurd g
    goes (RestartSwitch here) can counts g = absurd g
    goes (Forge place channel payload) can counts g = absurd g
    goes (Route here change) can counts g = absurd g

    calm_event : IsCalmEvent topology v node event
    calm_event = record {
      steady = subst (λ (y : World). IsSteady topology y node) is_now (runs_are_steady policy topology (before ++ front) event comes world node).0;
      true_event = subst (λ (y : World). IsTrueEvent topology y event) is_now (runs_are_steady policy topology (before ++ front) event comes world node).1;
      unspent = c.unspent front rest event e;
      goes_on = subst (λ (y : World). mirrored.GoesOn topology y node event) is_now
          (goes event comes (chains_are_their_frames policy topology (before ++ front) event comes.tame)
          (subst (λ (y : World). GoesOn topology y node event) (sym is_now) (c.goes_on front rest event e)));
    }

pub runs_carry_out : HoldsInRuns IsWhole → RunsCarryOut
runs_carry_out whole policy topology before node events s c front rest is =
    stretches_carry_out topology (world_at policy topology before) node events s (calm_event whole policy topology before node events s c) front rest is
