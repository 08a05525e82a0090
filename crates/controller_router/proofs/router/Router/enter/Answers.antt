use Rattle.std.proofs.Common.{◌≡◌, ℕ, List, OnOk, subst, ◌∙◌}
use Rattle.world_model.specs.Packets.{injected}
use Rattle.controller_router.specs.Node.{acted}
use Rattle.controller_router.proofs.router.Router.enter.Goals as goal

pub returns-clause-acted : goal.returns-clause-acted
returns-clause-acted g c = λ numbers.
    let seen = g.E.PortEngine.seen in
    subst (λ (octets : List ℕ). OnOk c.admit.result (acted seen c.admit.new.self c.admit.new.notes numbers ≡ injected (acted seen c.args.self.now c.args.notes.now numbers) c.args.number octets))
    (c.deref_mut.ensures.value ∙ c.in_ok-octets.ensures.items_if_clones_equal (λ x y e. e)) (c.admit.ensures.acted numbers)
