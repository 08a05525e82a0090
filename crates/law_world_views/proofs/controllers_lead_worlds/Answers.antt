use Rattle.law_world_views.proofs.Sites.{controller_goes}
use Rattle.law_world_views.proofs.controllers_lead_worlds.Goals as goal

pub returns : goal.returns
returns g c = λ link w line node act differ keeps grows leads s. controller_goes link _ w line node act differ keeps grows leads s
