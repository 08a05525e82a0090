use Rattle.std.proofs.Common.{◌≡◌, ◌++◌, take, flat_map}
use Rattle.controller.specs.Controlling.{controller_of}
use Rattle.show_text.specs.Shown.{linked_lines}
use Rattle.tell_show.proofs.shown_controller.write_ports.Given as goal

abbrev pub invariant-loop-place : goal.invariant-loop-place
invariant-loop-place g l = l.out ≡ l.fn.out ++ flat_map (linked_lines l.names l.node) (take l.place (controller_of g.E.PortEngine.seen l.controller).ports)
