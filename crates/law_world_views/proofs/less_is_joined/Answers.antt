use Rattle.law_world_views.proofs.Sites.{world_less}
use Rattle.law_world_views.proofs.less_is_joined.Goals as goal

pub returns : goal.returns
returns g c = λ link w line f s. world_less link _ _ w line f s
