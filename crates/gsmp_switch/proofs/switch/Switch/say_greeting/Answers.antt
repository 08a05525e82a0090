use Rattle.std.proofs.Common.{rules}
use Rattle.gsmp_wire.specs.Range.{FitsParty}
use Rattle.gsmp_switch.proofs.Ranges.{greeting_in_range}
use Rattle.gsmp_switch.proofs.switch.Switch.say_greeting.Goals as goal

pub say-requires-clause-range : goal.say-requires-clause-range
say-requires-clause-range c =
    let sender : FitsParty c.args.greeting.sender = record { name = c.name_fits.ensures; name_length = search rules; port = search rules; instance = search rules } in
    let receiver : FitsParty c.args.greeting.receiver = record { name = c.name_fits-2.ensures; name_length = search rules; port = search rules; instance = search rules } in
    greeting_in_range c.args.greeting sender receiver
