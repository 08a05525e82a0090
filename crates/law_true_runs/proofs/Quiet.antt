-- from each world of a run on, carrying empties all queues, and then each accepted packet has its fate or an entry in the ledger

use Rattle.std.proofs.Common.{List, ◌∷◌, refl}
use Rattle.world_model.specs.Words.{Policy, Topology, past_of}
use Rattle.world_model.specs.network_model.declared.event.Event.{Event}
use Rattle.world_model.specs.network_model.declared.event.Event.TheVariants.{Carry}
use Rattle.law_run_facts.specs.law_world_views.Fronts.{HasAddresses}
use Rattle.law_quiet_links.specs.claims_model.Quiet.{GoesOn, IsQuiet, PacketsEndFrom, carried, in_rounds}
use Rattle.law_quiet_links.specs.Law.{CarriesWeighLess, CarriesOf, CarriesFind, RoundsMakeLighter, RoundsEmptyQueues, PacketsEnd}
use Rattle.law_true_runs.specs.Runs.{IsWhole, HoldsInRuns, BindsUnusedInRuns}
use Rattle.law_true_runs.proofs.Walk.{holds_at, comes_at}
use Rattle.law_true_runs.proofs.Fates.{fates_whole}

-- the laws of carries
pub record CarriesEnd : Type 0 where
  pub less : CarriesWeighLess
  pub finds : CarriesFind
  pub lighter : RoundsMakeLighter
  pub empty : RoundsEmptyQueues
  pub packets : PacketsEnd

module _ (laws : CarriesEnd) (unused : BindsUnusedInRuns) (whole : HoldsInRuns IsWhole) (policy : Policy) (topology : Topology) (addresses : HasAddresses topology) where
  -- each carry of a run makes it lighter
  carries_of : (events : List Event) → GoesOn policy topology events → CarriesOf policy topology events
  carries_of events goes front rest place split =
      let comes = comes_at policy topology addresses events front rest (Carry place) goes.run goes.tame split in
      let w = holds_at policy topology addresses IsWhole whole events front (Carry place ∷ rest) goes.run goes.tame split in
      laws.less policy topology front place comes w.world w.places w.channels (unused policy topology front (Carry place) comes w)

  pub is_quiet : (before : List Event) → IsQuiet policy topology before
  is_quiet before = record {
    carries = λ places goes. laws.finds policy topology before places (carries_of (carried before places) goes);
    lighter = λ count goes some. laws.lighter policy topology (in_rounds policy topology before count) goes.run addresses
        (carries_of (in_rounds policy topology before count) goes) before count refl some;
    rounds = λ count goes le. laws.empty policy topology (in_rounds policy topology before count) goes.run addresses
        (carries_of (in_rounds policy topology before count) goes) before count refl le;
  }

  pub packets_end : (before : List Event) → PacketsEndFrom policy topology before
  packets_end before count goes le number accepted free =
      let events : List Event = in_rounds policy topology before count in
      laws.packets policy topology events goes.run addresses (carries_of events goes)
      (fates_whole (past_of policy topology events) (whole policy topology events goes.run addresses goes.tame).world.packets) before count refl le number accepted free
