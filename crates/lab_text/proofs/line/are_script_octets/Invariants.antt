use Rattle.std.proofs.Common.{◌≡◌, take}
use Rattle.std.specs.List.{list_all}
use Rattle.lab_text.specs.Words.{is_script_octet}
use Rattle.lab_text.proofs.line.are_script_octets.Given as goal

abbrev pub invariant-loop-octet : goal.invariant-loop-octet
invariant-loop-octet l = l.all ≡ list_all is_script_octet (take l.octet-index l.octets)
