use Rattle.std.proofs.Common.{◌≡◌, ℕ, List, OnOk, subst, ◌∙◌}
use Rattle.world_model.specs.Packets.{forwards_packet}
use Rattle.controller_router.specs.Node.{acted}
use Rattle.controller_router.proofs.router.Router.route.Goals as goal

pub returns-clause-acted : goal.returns-clause-acted
returns-clause-acted g c =
    let seen = g.E.PortEngine.seen in
    subst (λ (octets : List ℕ). OnOk c.forward.result (acted seen c.forward.new.self c.forward.new.notes c.forward.new.numbers ≡ forwards_packet (acted seen c.args.self.now c.args.notes.now c.args.numbers.now) c.args.came octets))
    (c.deref_mut.ensures.value ∙ c.in_ok-octets.ensures.items_if_clones_equal (λ x y e. e)) c.forward.ensures.acted
