use Rattle.std.proofs.Common.{Option, false, ap, sym, ◌∙◌}
use Rattle.std.specs.Option.{option_map_or}
use Rattle.net_types.specs.declared.channel.End.{End}
use Rattle.gsmp_wire.specs.declared.request.Request.{Request}
use Rattle.grant_table.specs.Table.{releases}
use Rattle.controller_tests.specs.declared.values.TheConstants.{INPUT}
use Rattle.controller_tests.proofs.redirect_state_tests.is_released.Goals as goal

pub returns : goal.returns
returns c home =
    let lent = c.is_lent.ensures c.if-not-is_lent.false in (
      lent.0,
      lent.1,
      ap (λ (o : Option End). option_map_or (releases c.args.done.now.request) o false) lent.2
          ∙ ap (λ (request : Request). releases request INPUT) (sym c.request.ensures) ∙ c.leads_home.ensures home,
    )
