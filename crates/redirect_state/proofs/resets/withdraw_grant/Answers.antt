use Rattle.std.proofs.Common.{◌≡◌, ◌++◌, ◌∷◌, [], OnOk, subst}
use Rattle.net_types.specs.declared.channel.End.{End}
use Rattle.port_model.specs.declared.action.Action.TheVariants.{Withdraw}
use Rattle.port_state.specs.Engine.{setup_of}
use Rattle.redirect_state.proofs.Lefts.{withdraws_free}
use Rattle.redirect_state.proofs.resets.withdraw_grant.Goals as goal

pub returns-in-Idle : goal.returns-in-Idle
returns-in-Idle g c =
    withdraws_free (setup_of g.P.Policy.meaning c.args.state.now.fixed) c.args.state.now.port.grants c.args.label c.in-Some.grant (λ actions. OnOk c.push.result (c.push.new.self ≡ c.args.out.now ++ actions)) c.in-Some.ensures.grant c.in-Idle.is
    (subst (λ (e : End). OnOk c.push.result (c.push.new.self ≡ c.args.out.now ++ Withdraw e ∷ [])) c.control_end.ensures c.push.ensures.ok)
