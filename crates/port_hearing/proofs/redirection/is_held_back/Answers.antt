use Rattle.std.proofs.Common.{sym, ap, ◌∙◌, refl}
use Rattle.std.specs.Prelude.{not}
use Rattle.port_hearing.proofs.redirection.is_held_back.Goals as goal

pub returns-then-not-is_new : goal.returns-then-not-is_new
returns-then-not-is_new g c = λ n flow. let e = sym (c.is_new.ensures g.P.Policy.meaning flow) ∙ c.if-not-is_new.true in rw e refl

pub returns : goal.returns
returns g c = λ n flow.
    let e = sym (c.is_new.ensures g.P.Policy.meaning flow) ∙ c.if-not-is_new.false in
    rw e (ap not (c.in_ok-room.ensures c.args.state.now.port n))
