use Rattle.std.proofs.Common.{◌≡◌, not, take, filter, length, refl, false}
use Rattle.std.proofs.lemmas.Option.{slice_get_read}
use Rattle.std.proofs.lemmas.List.{take_all}
use Rattle.ipv4_forward.specs.declared.table.Route.{Route}
use Rattle.ipv4_forward.specs.Best.{has_prefix, is_same}
use Rattle.ipv4_forward.proofs.Changing.{one_filtered, prefixes-filter}
use Rattle.ipv4_forward.proofs.change.longest_of_others.Goals as goal

pub loop-route-preserved : goal.loop-route-preserved
loop-route-preserved c =
    let xs = c.args.routes.now in
    let i = c.loop-route.route-index in
    let p = λ (route : Route). not (is_same route.prefix c.args.prefix) in
    let fresh : has_prefix (take i xs) c.route-item.result.prefix ≡ false =
    c.requires i c.route-item.result (slice_get_read xs (length xs) i c.route-item.result refl c.loop-route-test.true c.route-item.is) in
    rw (one_filtered p xs i c.route-item.result c.loop-route-test.true c.route-item.is)
    (c.longer_of_others-found.ensures (filter p (take i xs)) c.loop-route.invariant (prefixes-filter p (take i xs) c.route-item.result.prefix fresh))

pub returns : goal.returns
returns c = rw (take_all c.loop-route.route-index c.args.routes.now c.loop-route-test.false) at c.loop-route.invariant
