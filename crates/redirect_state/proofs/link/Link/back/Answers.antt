use Rattle.std.proofs.Common.{◌≡◌, ◌∙◌, ap, subst, OnOk, Some}
use Rattle.std.proofs.lemmas.Result.{on_ok_weaker}
use Rattle.keyed_lists.specs.Keyed.{at}
use Rattle.port_model.specs.Grants as grants
use Rattle.port_model.specs.Joins.{given_back}
use Rattle.port_state.specs.Engine.{Engine}
use Rattle.port_saying.specs.Rules.{begun}
use Rattle.redirect_state.proofs.Stops.{has_done}
use Rattle.redirect_state.proofs.link.Link.back.Goals as goal

pub returns-clause-work : goal.returns-clause-work
returns-clause-work g c = λ n grant found.
    on_ok_weaker c.give_back.result
    (has_done c.args.self.now c.give_back.new.state c.give_back.new.out n (given_back (begun c.args.self.now.port c.args.out.now n) grant) (c.give_back.ensures.fixed ∙ ap (λ (e : Engine _). e.fixed) c.self.view_is))
    (subst (λ (e : Engine _). at grants.grant_label c.args.vci e.port.grants ≡ Some grant → OnOk c.give_back.result (given_back (begun e.port c.args.out.now n) grant ≡ begun c.give_back.new.state.port c.give_back.new.out n))
    c.self.view_is (c.give_back.ensures.work n grant) found)
