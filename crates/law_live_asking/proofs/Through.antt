-- a network in peace through the carries of a stretch

use Rattle.std.proofs.Common.{◌≡◌, List, ◌∷◌, ◌++◌, map, subst}
use Rattle.world_model.specs.Words.{Policy, Place, Topology, World, next, world_after}
use Rattle.world_model.specs.network_model.declared.event.Event.{Event}
use Rattle.world_model.specs.network_model.declared.event.Event.TheVariants.{Carry}
use Rattle.law_live_lasting.specs.law_true_runs.Runs.{HoldsInRuns, IsWhole}
use Rattle.law_live_lasting.specs.law_live_hearing.Law.{world_at}
use Rattle.law_live_lasting.proofs.law_live_calm_nodes.Parts.{along}
use Rattle.law_live_lasting.proofs.law_live_calm_nodes.Events as events
use Rattle.law_live_lasting.proofs.law_live_calm_nodes.Control.{IsCarry, carries, is_carry}
use Rattle.law_live_asking.specs.Going.{IsGoing, IsCarryInPeace, GoesOnBehind, AreCarriesInPeace, CarriesInPeaceCarryOut}
use Rattle.law_live_asking.proofs.Going.{carries_in_peace_go_on}

module _ (whole : HoldsInRuns IsWhole) (policy : Policy) (topology : Topology) (before : List Event) (places : List Place) (g : IsGoing topology (world_at policy topology before))
    (c : AreCarriesInPeace policy topology before places) where
  abbrev w : World
  w = world_at policy topology before

  abbrev all : List Event
  all = map Carry places

  behind : (front rest : List Event) (place : Place) → all ≡ front ++ Carry place ∷ rest → IsGoing topology (world_after topology w front) → GoesOnBehind topology (world_after topology w front) place
  behind front rest place e h = subst (λ (x : World). IsGoing topology x → IsCarryInPeace topology x place → GoesOnBehind topology x place)
      (events.now_is whole policy topology before all c.run c.addresses c.tame front)
      (carries_in_peace_go_on policy topology (before ++ front) place (events.comes whole policy topology before all c.run c.addresses c.tame front rest (Carry place) e)
      (events.world whole policy topology before all c.run c.addresses c.tame front rest (Carry place) e)) h (c.each front rest place e)

  step : (front rest : List Event) (event : Event) → all ≡ front ++ event ∷ rest → IsGoing topology (world_after topology w front) → IsGoing topology (next topology (world_after topology w front) event)
  step front rest event e h = by event (is_carry places front rest event e) e
    where
      by : (x : Event) → IsCarry x → all ≡ front ++ x ∷ rest → IsGoing topology (next topology (world_after topology w front) x)
      by x (carries place) f = (behind front rest place f h).goes_on

  through : (front rest : List Event) → all ≡ front ++ rest → IsGoing topology (world_after topology w front)
  through = along topology (IsGoing topology) all w g step

pub carries_in_peace_carry_out : HoldsInRuns IsWhole → CarriesInPeaceCarryOut
carries_in_peace_carry_out whole policy topology before places g c = record {
  going = through whole policy topology before places g c;
  carried_out = λ front rest place e. (behind whole policy topology before places g c front rest place e (through whole policy topology before places g c front (Carry place ∷ rest) e)).carried_out;
}
