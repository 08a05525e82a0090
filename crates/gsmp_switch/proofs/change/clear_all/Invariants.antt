use Rattle.std.proofs.Common.{◌≡◌, ◌≤◌, true, nat_le}
use Rattle.std.specs.List.{list_all}
use Rattle.std.specs.FinMap.{keys}
use Rattle.gsmp_switch.specs.Exchange.{changed_in, with_changed}
use Rattle.gsmp_switch.proofs.Restarts.{inputs_from}
use Rattle.world_model.specs.Requests.{all_ended}
use Rattle.gsmp_switch.proofs.change.clear_all.Given as goal

abbrev pub invariant-loop-number : goal.invariant-loop-number
invariant-loop-number l = record {
  ends : all_ended (changed_in l.exchange l.notes) (inputs_from l.number l.exchange.crossbar.branches) ≡ all_ended (changed_in l.fn.exchange l.fn.notes) (keys l.fn.exchange.crossbar.branches);
  within : 1 ≤ l.number → list_all (λ input. nat_le input.port.0 8) (keys l.exchange.crossbar.branches) ≡ true;
  rest : l.exchange ≡ with_changed l.fn.exchange (changed_in l.exchange l.notes);
}
