-- What is true of every run of a network, whatever its policy: the headline, and what stands beside it

use Rattle.std.specs.Prelude.{◌≡◌, List, [], ◌∷◌, ◌++◌}
use Rattle.claims_model.specs.world_model.Words.{Policy, Topology, past_of, CountsAsItsFrame, HasCauses, IsTame, Headline, AreOwned, IsInHarmony, OffersNothing, BindsNothing}
use Rattle.claims_model.specs.world_model.network_model.declared.event.Event.{Event}
use Rattle.claims_model.specs.Fronts.{InFronts}
use Rattle.claims_model.specs.Lifetimes.{LifetimesEnd}
use Rattle.claims_model.specs.Order.{AreInOrder, AreAllCopiesInOrder}
use Rattle.claims_model.specs.Tables.{AreToldTables, ChangesNoRoute, AreJourneys}
use Rattle.truth_model.specs.Losses.{AreTrueLosses}
use Rattle.claims_model.specs.Quiet.{IsQuiet, PacketsEndFrom}

-- *All of it*
pub record IsTrueRun (policy : Policy) (topology : Topology) (events : List Event) : Type 0 where
  -- cut-through changes nothing of what routing makes of packets
  pub routing : Headline policy topology events
  -- each label of each link is owned
  pub owned : InFronts policy topology events AreOwned
  -- redirection messages on each way of each link are in the order of their numbers, and so are copies of requests on their
  -- way to a switch
  pub ordered : InFronts policy topology events AreInOrder
  pub copies : InFronts policy topology events AreAllCopiesInOrder
  -- a chain that passes its test is the frame of its last cell
  pub frames : (before after : List Event) (event : Event) → events ≡ before ++ event ∷ after
      → IsTame (past_of policy topology (before ++ event ∷ [])).records → CountsAsItsFrame (past_of policy topology before).now event
  -- nothing is refused, and no message says that a label is taken or of another flow
  pub harmony : InFronts policy topology events IsInHarmony
  -- each frame that is broken stands beside its cause
  pub causes : (before after : List Event) → events ≡ before ++ after → IsTame (past_of policy topology before).records
      → HasCauses policy topology before
  pub lifetimes : LifetimesEnd policy topology events
  -- the table of each node, by which fates are judged, is that of the topology, changed by a front of the changes that events
  -- told the node, also behind forged frames; each change that is taken is recorded in its event
  pub tables : AreToldTables policy topology events
  -- the ledger has the losses that the records tell: those of the way are the cells that the event loses, or brings where nothing
  -- takes them or no slot is free, and the frames that it makes and doesn't put; those that are Cut are the frames that it cuts,
  -- each once, also behind forged frames
  pub losses : AreTrueLosses policy topology events
  -- before the first event that changes a route, each fate is the packet's journey over the routes of the topology
  pub journeys : (before after : List Event) → events ≡ before ++ after → ChangesNoRoute before
      → IsTame (past_of policy topology before).records → AreJourneys (past_of policy topology before)
  -- from each world of it on, carrying makes all queues empty, and then each accepted packet has its fate or an entry in the
  -- ledger
  pub quiet : (before after : List Event) → events ≡ before ++ after → IsQuiet policy topology before
  pub packets_end : (before after : List Event) → events ≡ before ++ after → PacketsEndFrom policy topology before
  -- where the policy offers nothing, no label is ever bound
  pub unbound : OffersNothing policy → BindsNothing (past_of policy topology events)
