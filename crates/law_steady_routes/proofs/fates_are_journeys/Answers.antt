-- the law is proved over definitions alone

use Rattle.law_steady_routes.proofs.Journeys.{fates_are_journeys}
use Rattle.law_steady_routes.proofs.fates_are_journeys.Goals as goal

pub returns : goal.returns
returns c = record { journeys = fates_are_journeys }
