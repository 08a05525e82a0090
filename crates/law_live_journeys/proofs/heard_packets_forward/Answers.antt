-- the laws are proved over definitions alone

use Rattle.law_live_journeys.proofs.Brought.{brought_are_heard, brought_forward, brought_are_delivered}
use Rattle.law_live_journeys.proofs.heard_packets_forward.Goals as goal

pub returns : goal.returns
returns c = record { heard = brought_are_heard; forward = brought_forward; delivered = brought_are_delivered }
