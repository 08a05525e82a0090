use Rattle.std.proofs.Common.{◌≡◌, ◌++◌, take}
use Rattle.show_text.specs.Node.{waiting_lines}
use Rattle.tell_show.proofs.routes.write_changes.Given as goal

abbrev pub invariant-loop-place : goal.invariant-loop-place
invariant-loop-place l = l.out ≡ l.fn.out ++ waiting_lines l.names l.node l.routes.is_begun (take l.place l.routes.waiting)
