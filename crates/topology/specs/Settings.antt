-- what is set for a whole network, as it is kept

use Rattle.std.specs.Prelude.{ℕ, List, Option, None, Some}
use Rattle.world_model.specs.Topology.{Topology, Node, Link, PolicyLine, Xy, Never, Times}
use Rattle.topology.specs.declared.settings.Threshold.{Threshold}
use Rattle.topology.specs.declared.settings.Spans.{Spans}

abbrev pub policy_of : Option Threshold → PolicyLine
policy_of None = Never
policy_of (Some threshold) = Xy threshold.packets threshold.ticks

abbrev pub times_of : Spans → Times
times_of spans = record { lifetime = spans.lifetime; refresh = spans.refresh; idle = spans.idle }

abbrev pub seen : List Node → List Link → Option Threshold → Spans → (version : ℕ) → Topology
seen nodes links threshold spans version = record {
  nodes = nodes;
  links = links;
  policy = policy_of threshold;
  times = times_of spans;
  version = version;
}
