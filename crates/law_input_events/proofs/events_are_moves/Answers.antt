use Rattle.law_input_events.proofs.Events.{event_lines}
use Rattle.law_input_events.proofs.events_are_moves.Goals as goal

pub returns : goal.returns
returns c = λ topology w event running ok lines. event_lines topology w running event ok lines
