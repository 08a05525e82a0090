use Rattle.std.proofs.Common.{◌≡◌, ◌++◌, take, flat_map}
use Rattle.show_text.specs.Port.{label_line}
use Rattle.tell_show.proofs.labels.write_labels.Given as goal

abbrev pub invariant-loop-place : goal.invariant-loop-place
invariant-loop-place l = l.out ≡ l.fn.out ++ flat_map (label_line l.names l.node l.port) (take l.place l.session.session.labels)
