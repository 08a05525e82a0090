-- The policies by name, as the definitions of a port speak of them.

use Rattle.std.specs.Prelude.{false, nat_le}
use Rattle.port_model.specs.Setup.{Policy}
use Rattle.flow_classifier.specs.declared.policy.XyPolicy.{XyPolicy}
use Rattle.flow_classifier.specs.declared.policy.Never as nothing
use Rattle.flow_classifier.specs.declared.policy.NamedPolicy.{NamedPolicy}
use Rattle.flow_classifier.specs.declared.policy.NamedPolicy.TheVariants as names

-- a flow is offered a label from x packets on; a label is kept for at most so many idle ticks
abbrev pub xy : XyPolicy → Policy
xy p = record { offers = λ flow packets. nat_le p.x packets; keeps = λ flow idle. nat_le idle p.idle }

abbrev pub never : nothing.Never → Policy
never p = record { offers = λ flow packets. false; keeps = λ flow idle. false }

abbrev pub named : NamedPolicy → Policy
named (names.Xy p) = xy p
named names.Never = never (record {})
