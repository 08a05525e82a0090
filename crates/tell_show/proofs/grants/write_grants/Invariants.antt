use Rattle.std.proofs.Common.{◌≡◌, ◌++◌, take, flat_map}
use Rattle.show_text.specs.Port.{grant_line}
use Rattle.tell_show.proofs.grants.write_grants.Given as goal

abbrev pub invariant-loop-place : goal.invariant-loop-place
invariant-loop-place l = l.out ≡ l.fn.out ++ flat_map (grant_line l.names l.node l.port) (take l.place l.grants.grants)
