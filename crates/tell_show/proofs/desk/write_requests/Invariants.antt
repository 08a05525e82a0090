use Rattle.std.proofs.Common.{◌≡◌, ◌++◌, take, flat_map}
use Rattle.port_model.specs.Desk.{message_at}
use Rattle.show_text.specs.Node.{request_line}
use Rattle.tell_show.proofs.desk.write_requests.Given as goal

abbrev pub invariant-loop-place : goal.invariant-loop-place
invariant-loop-place l = l.out ≡ l.fn.out ++ flat_map (λ s. request_line l.names l.node (message_at l.desk s)) (take l.place l.desk.standing)
