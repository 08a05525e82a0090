use Rattle.law_live_meetings.specs.Exchange.{ifmp, gsmp}
use Rattle.law_live_meetings.proofs.Resting.{turns_come_to_rest}
use Rattle.law_live_meetings.proofs.turns_come_to_rest.Goals as goal

pub returns : goal.returns
returns c = record { neighbours = turns_come_to_rest ifmp; switches = turns_come_to_rest gsmp }
