-- the law is proved over definitions alone

use Rattle.law_live_ease.proofs.Links.{links_bind_on}
use Rattle.law_live_ease.proofs.links_bind_on.Goals as goal

pub returns : goal.returns
returns c = record { links = links_bind_on }
