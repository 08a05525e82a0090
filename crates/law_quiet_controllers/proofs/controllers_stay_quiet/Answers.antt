-- the law is proved over definitions alone

use Rattle.law_quiet_controllers.proofs.Laws.{stays_quiet}
use Rattle.law_quiet_controllers.proofs.controllers_stay_quiet.Goals as goal

pub returns : goal.returns
returns c = stays_quiet
