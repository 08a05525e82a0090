-- the laws are proved over definitions alone

use Rattle.law_live_journeys.proofs.Entering.{entries_forward, entries_find_slots, entries_are_delivered}
use Rattle.law_live_journeys.proofs.entries_forward.Goals as goal

pub returns : goal.returns
returns c = record { forward = entries_forward; slots = entries_find_slots; delivered = entries_are_delivered }
