use Rattle.std.proofs.Common.{◌≡◌, ◌<◌, length, Some, IsSome, rules, slice_get}
use Rattle.port_actions.proofs.Clearing.{follows_next, got}
use Rattle.port_actions.proofs.outlook.Outlook.of.Goals as goal
use Rattle.port_actions.proofs.outlook.Outlook.of.Goals.{in-Some+in_ok-follow, in_default}

pub loop-place-preserved : goal.loop-place-preserved
loop-place-preserved c = elim c.match-get.branch [
  | in-Some+in_ok-follow w ↦ (let within : c.loop-place.place < length c.actions.inside.list.items = search rules in
      let here : slice_get c.args.actions.now c.loop-place.place ≡ Some w.in-Some.action.now = rw (← c.actions.view_is) (got c.actions.inside.list.items c.loop-place.place w.in-Some.action.now within w.in-Some.ensures.lookup) in
      rw w.outlook-is (follows_next c.loop-place.outlook w.follow.new.self c.args.desk.now c.args.actions.now c.loop-place.place w.in-Some.action.now here c.loop-place.invariant w.in_ok-follow.ensures.tells w.in_ok-follow.ensures.many))
  | in_default w ↦ absurd (let there : IsSome c.get.result = c.get.ensures.variant.1 (rw (← c.len-place-end.ensures) c.loop-place-test.true) in let none = rw w.in_default.is at there in cc none)
]
