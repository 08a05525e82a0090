use Rattle.std.proofs.Common.{Option, ap, sym, ◌∙◌}
use Rattle.std.specs.Option.{option_map}
use Rattle.port_model.specs.Setup.{home_of}
use Rattle.controller_router.specs.Packets.{shown, way_by}
use Rattle.controller_router.specs.declared.packets.Permit.{Permit}
use Rattle.controller_router.proofs.packets.channel_by.Goals as goal

pub returns-in-None : goal.returns-in-None
returns-in-None c =
    ap (λ end. end.channel) (c.home_of.ensures ∙ ap home_of c.default_end.ensures)
    ∙ ap (λ (permit : Option Permit). (way_by c.args.port (option_map shown permit)).channel) (sym c.in-None.is)

pub returns-in-Some : goal.returns-in-Some
returns-in-Some c =
    ap (λ end. end.channel) (c.home_of-in-Some.ensures ∙ ap home_of c.label_end.ensures)
    ∙ ap (λ (permit : Option Permit). (way_by c.args.port (option_map shown permit)).channel) (sym c.in-Some.is)
