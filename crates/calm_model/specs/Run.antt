-- *What calm beats bring about* in every run of a network, whatever its policy

use Rattle.std.specs.Prelude.{List}
use Rattle.world_model.specs.Words.{Policy, Topology}
use Rattle.world_model.specs.network_model.declared.event.Event.{Event}
use Rattle.calm_model.specs.Agreeing.{CalmBeatsAgree}
use Rattle.calm_model.specs.CutThrough.{FlowsAreCutThrough}

pub record IsCalmRun (policy : Policy) (topology : Topology) (events : List Event) : Type 0 where
  -- from an unlabelled network on, behind calm beats the two ends of each link agree on each label
  pub beats_agree : CalmBeatsAgree policy topology events
  -- and a flow of which enough packets are sent then, or between them, is cut through in each one that follows
  pub flows_are_cut_through : FlowsAreCutThrough policy topology events
