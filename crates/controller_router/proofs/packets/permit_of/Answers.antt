use Rattle.std.proofs.Common.{None, ap, ◌∙◌}
use Rattle.std.specs.Option.{option_map, option_map_or}
use Rattle.port_model.specs.Grants.{grant_for}
use Rattle.controller_router.specs.Packets.{granted}
use Rattle.controller_router.proofs.Permits.{granted_is, named_by}
use Rattle.controller_router.proofs.packets.permit_of.Goals as goal

pub returns-clause-permit : goal.returns-clause-permit
returns-clause-permit c =
    ap (option_map (named_by c.in_ok-flow.flow)) c.in_ok-number.ensures.found
    ∙ granted_is c.args.grants.now.grants c.in_ok-flow.flow
    ∙ ap (λ o. option_map granted (option_map_or (grant_for c.args.grants.now.grants) o None)) c.in_ok-flow.ensures
