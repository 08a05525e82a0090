use Rattle.std.proofs.Common.{◌≡◌, length}
use Rattle.gsmp_switch.specs.Exchange.{changed_in, with_changed}
use Rattle.world_model.specs.Requests.{deleted_all, inputs_on}
use Rattle.gsmp_switch.proofs.change.clear.Given as goal

abbrev pub invariant-loop-input : goal.invariant-loop-input
invariant-loop-input l = record {
  ends : deleted_all (changed_in l.exchange l.notes) l.fn.port ≡ deleted_all (changed_in l.fn.exchange l.fn.notes) l.fn.port;
  rest : l.exchange ≡ with_changed l.fn.exchange (changed_in l.exchange l.notes);
}

abbrev pub decreases-loop-input : goal.decreases-loop-input
decreases-loop-input l = length (inputs_on l.exchange.crossbar.branches l.fn.port)
