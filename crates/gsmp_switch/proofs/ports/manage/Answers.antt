use Rattle.std.proofs.Common.{◌<◌, List, length, ap, arith}
use Rattle.world_model.specs.switch_model.declared.port.PortState.{PortState}
use Rattle.world_model.specs.Requests.{managed}
use Rattle.gsmp_switch.proofs.PortStates.{changed_at}
use Rattle.gsmp_switch.proofs.ports.manage.Goals as goal

pub returns-then-state-port : goal.returns-then-state-port
returns-then-state-port c =
    let within : c.loop-place.place < length c.loop-place.ports.items = let same = ap (λ (xs : List PortState). length xs) c.loop-place.invariant.same in omega (arith, c.loop-place-test.true, c.len-place-end.ensures, same) in
    rw c.managed.ensures (changed_at c.args.port (managed c.args.function) c.loop-place.ports.items _ c.loop-place.place c.index-state.result.now within c.index-state.ensures c.if-state-port.true c.loop-place.invariant.done)
