use Rattle.std.proofs.Common.{◌≡◌, ◌∙◌, take, map, length, refl, false}
use Rattle.std.proofs.lemmas.Option.{slice_get_read}
use Rattle.std.proofs.lemmas.List.{take_all}
use Rattle.ipv4_forward.specs.Best.{has_prefix}
use Rattle.ipv4_forward.specs.Change.{renewed}
use Rattle.ipv4_forward.proofs.Changing.{one_renewed, prefixes-renewed, renewed_prefix}
use Rattle.ipv4_forward.proofs.change.longest_of_renewed.Goals as goal

pub loop-route-preserved : goal.loop-route-preserved
loop-route-preserved c =
    let xs = c.args.routes.now in
    let i = c.loop-route.route-index in
    let prefix = c.args.new.now.prefix in
    let next = c.args.new.now.next in
    let fresh : has_prefix (take i xs) c.route-item.result.prefix ≡ false =
    c.requires i c.route-item.result (slice_get_read xs (length xs) i c.route-item.result refl c.loop-route-test.true c.route-item.is) in
    let fresh_renewed : has_prefix (map (renewed prefix next) (take i xs)) (renewed prefix next c.route-item.result).prefix ≡ false =
    prefixes-renewed prefix next (take i xs) (renewed prefix next c.route-item.result).prefix ∙ (rw (renewed_prefix prefix next c.route-item.result) fresh) in
    rw (one_renewed prefix next xs i c.route-item.result c.loop-route-test.true c.route-item.is, ← c.renewed.ensures)
    (c.longer-found.ensures (map (renewed prefix next) (take i xs)) c.loop-route.invariant (rw c.renewed.ensures fresh_renewed))

pub returns : goal.returns
returns c = rw (take_all c.loop-route.route-index c.args.routes.now c.loop-route-test.false) at c.loop-route.invariant
