use Rattle.std.proofs.Common.{◌≡◌, ◌<◌, ◌==◌, true, false, length, get_or, sym, arith, eq-eqb}
use Rattle.controller_joins.specs.Joined.{IsFirstFrom}
use Rattle.controller_joins.proofs.OnPort.{differ, found_on_port, least_of, none_behind, none_on_port}
use Rattle.controller_joins.proofs.joins.Joins.first_on.Goals as goal

pub returns-then-place-len-clause-found : goal.returns-then-place-len-clause-found
returns-then-place-len-clause-found c =
    let first : IsFirstFrom c.self.inside.list.items (least_of c.args.port) c.first_from-place.result = rw (← c.deref.ensures.value) c.first_from-place.ensures in
    rw (← c.self.view_is) (sym (none_behind c.self.inside.list.items c.args.port c.first_from-place.result first (omega arith)))

pub returns-then-joined-port-clause-found : goal.returns-then-joined-port-clause-found
returns-then-joined-port-clause-found c =
    let first : IsFirstFrom c.self.inside.list.items (least_of c.args.port) c.first_from-place.result = rw (← c.deref.ensures.value) c.first_from-place.ensures in
    let within : c.first_from-place.result < length c.self.inside.list.items = omega (arith, first.within) in
    let here : (get_or c.self.inside.list.items c.first_from-place.result c.index-joined.result.now).input.port.0 == c.args.port.0 ≡ true = rw (← c.index-joined.ensures) (eq-eqb _ _ c.if-joined-port.true) in
    let found = found_on_port c.self.inside.list.items c.args.port c.first_from-place.result c.index-joined.result.now first within here in
    rw (← c.self.view_is) (sym (rw (← c.index-joined.ensures) at found))

pub returns-else-joined-port-clause-found : goal.returns-else-joined-port-clause-found
returns-else-joined-port-clause-found c =
    let first : IsFirstFrom c.self.inside.list.items (least_of c.args.port) c.first_from-place.result = rw (← c.deref.ensures.value) c.first_from-place.ensures in
    let within : c.first_from-place.result < length c.self.inside.list.items = omega (arith, first.within) in
    let here : (get_or c.self.inside.list.items c.first_from-place.result c.index-joined.result.now).input.port.0 == c.args.port.0 ≡ false = rw (← c.index-joined.ensures) (differ _ _ c.if-joined-port.false) in
    rw (← c.self.view_is) (sym (none_on_port c.self.inside.list.items c.args.port c.first_from-place.result c.index-joined.result.now c.self.invariant.order first within here))
