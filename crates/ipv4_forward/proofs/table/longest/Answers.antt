use Rattle.std.proofs.Common.{◌≡◌, ◌+◌, ◌++◌, ◌∷◌, [], take, length, refl}
use Rattle.std.proofs.lemmas.Option.{slice_get_read}
use Rattle.std.proofs.lemmas.List.{take_all}
use Rattle.ipv4_forward.proofs.Passing.{longest_is_best, one_more}
use Rattle.ipv4_forward.proofs.table.longest.Goals as goal

pub loop-route-preserved : goal.loop-route-preserved
loop-route-preserved c =
    let more : take (c.loop-route.route-index + 1) c.args.routes.now ≡ take c.loop-route.route-index c.args.routes.now ++ c.route-item.result ∷ [] =
    one_more c.args.routes.now c.loop-route.route-index c.route-item.result c.loop-route-test.true c.route-item.is in
    rw more (c.longer-found.ensures (take c.loop-route.route-index c.args.routes.now) c.loop-route.invariant
    (c.requires c.loop-route.route-index c.route-item.result (slice_get_read c.args.routes.now (length c.args.routes.now) c.loop-route.route-index c.route-item.result refl c.loop-route-test.true c.route-item.is)))

pub returns : goal.returns
returns c =
    longest_is_best c.args.routes.now c.args.addr c.loop-route.found (rw (take_all c.loop-route.route-index c.args.routes.now c.loop-route-test.false) at c.loop-route.invariant)
