-- what a run gives of each event of a stretch, in the world as it comes

use Rattle.std.proofs.Common.{◌≡◌, List, [], ◌∷◌, ◌++◌, append_assoc, sym, ◌∙◌, ap, subst}
use Rattle.world_model.specs.Words.{NodeId, Policy, Topology, World, next, world_after, CanCome, CountsAsItsFrame, IsRun, IsTame, past_of}
use Rattle.world_model.specs.World.{opened}
use Rattle.world_model.specs.network_model.declared.event.Event.{Event}
use Rattle.law_live_peace.specs.law_run_facts.law_world_views.Between.{IsWorld}
use Rattle.law_live_peace.specs.law_run_facts.law_world_views.Fronts.{HasAddresses}
use Rattle.law_live_peace.specs.law_run_facts.law_world_views.Kept.{Comes}
use Rattle.law_live_peace.proofs.law_run_facts.Steps.{front_run, runs_have_fronts}
use Rattle.law_live_peace.specs.law_true_runs.Runs.{HoldsInRuns, IsWhole}
use Rattle.law_live_peace.proofs.law_true_runs.Walk.{holds_at, comes_at}
use Rattle.law_live_peace.proofs.law_control_places.Chains.{chains_are_their_frames}
use Rattle.law_live_peace.specs.law_live_hearing.Law.{world_at}
use Rattle.law_live_peace.proofs.law_live_hearing.Going.{after_all}
use Rattle.law_live_peace.specs.law_live_control_links.Law.{IsSteady, IsTrueEvent}
use Rattle.law_live_peace.proofs.law_live_control_links.Runs.{runs_are_steady}

pub record Facts (topology : Topology) (v : World) (event : Event) : Type 0 where
  pub steady : (node : NodeId) → IsSteady topology v node × IsTrueEvent topology v event
  pub counts : CountsAsItsFrame v event
  pub can : CanCome topology v event

module _ (whole : HoldsInRuns IsWhole) (policy : Policy) (topology : Topology) (before all : List Event) (run : IsRun policy topology (before ++ all)) (addresses : HasAddresses topology)
    (tame : IsTame (past_of policy topology (before ++ all)).records) where
  abbrev w : World
  w = world_at policy topology before

  pub now_is : (front : List Event) → world_at policy topology (before ++ front) ≡ world_after topology w front
  now_is front = after_all topology (opened policy topology) before front

  module _ (front rest : List Event) (event : Event) (e : all ≡ front ++ event ∷ rest) where
    split : before ++ all ≡ (before ++ front) ++ event ∷ rest
    split = ap (λ (es : List Event). before ++ es) e ∙ sym (append_assoc before front (event ∷ rest))

    pub comes : Comes policy topology (before ++ front) event
    comes = comes_at policy topology addresses (before ++ all) (before ++ front) rest event run tame split

    pub world : IsWorld (past_of policy topology (before ++ front))
    world = (holds_at policy topology addresses IsWhole whole (before ++ all) (before ++ front) (event ∷ rest) run tame split).world

    pub run_before : IsRun policy topology (before ++ front)
    run_before = front_run policy topology (before ++ front) (event ∷ rest) (subst (IsRun policy topology) split run)

    -- and behind it
    pub done : all ≡ (front ++ event ∷ []) ++ rest
    done = e ∙ sym (append_assoc front (event ∷ []) rest)

    pub behind_is : world_after topology w (front ++ event ∷ []) ≡ next topology (world_after topology w front) event
    behind_is = after_all topology w front (event ∷ [])

    pub run_behind : IsRun policy topology (before ++ (front ++ event ∷ []))
    run_behind = front_run policy topology (before ++ (front ++ event ∷ [])) rest
        (subst (IsRun policy topology) (ap (λ (es : List Event). before ++ es) done ∙ sym (append_assoc before (front ++ event ∷ []) rest)) run)

    pub facts : Facts topology (world_after topology w front) event
    facts = record {
      steady = λ node. subst (λ (v : World). IsSteady topology v node × IsTrueEvent topology v event) (now_is front) (runs_are_steady policy topology (before ++ front) event comes world node);
      counts = subst (λ (v : World). CountsAsItsFrame v event) (now_is front) (chains_are_their_frames policy topology (before ++ front) event comes.tame);
      can = subst (λ (v : World). CanCome topology v event) (now_is front) (runs_have_fronts policy topology (before ++ front) event comes).can;
    }
