use Rattle.std.proofs.Common.{◌≡◌, ◌∙◌, Bool, true, false, cond, rules, refl}
use Rattle.crossbar_model.specs.Crossbar.{same_end}
use Rattle.port_model.specs.Desk.{withdrawn}
use Rattle.port_actions.proofs.Cleared.{withdrawn_cleared}
use Rattle.port_actions.proofs.outlook.Outlook.withdraw_at.Goals as goal

none : (b s : Bool) → s ≡ false → cond b false s ≡ false
none true s h = refl
none false s h = h

pub returns-in_ok-withdraw-clause-clears : goal.returns-in_ok-withdraw-clause-clears
returns-in_ok-withdraw-clause-clears c =
    let same : c.args.input.port.0 ≡ c.args.port.0 = search rules in
    record {
      many = c.in_ok-withdraw.ensures.many;
      deleted = c.in_ok-withdraw.ensures.deleted;
      falls = λ end h. c.in_ok-withdraw.ensures.stands end ∙ none (same_end end c.args.input) _ h;
      tells = λ later told. (withdrawn later c.args.input, c.in_ok-withdraw.ensures.tells later told, withdrawn_cleared c.args.port later c.args.input same);
    }
