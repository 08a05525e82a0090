use Rattle.std.proofs.Common.{◌≡◌, ◌+◌, ◌≤◌, fold, length, take}
use Rattle.world_model.specs.Asking.{sends_request}
use Rattle.controller_gsmp.specs.Client.{AreOneNode, Router, acted}
use Rattle.controller_gsmp.proofs.client.Client.send_again.Given as goal

abbrev pub invariant-loop-place : goal.invariant-loop-place
invariant-loop-place l = record {
  end : l.place-end ≤ 32;
  standing : l.place-end ≤ length l.fn.self.desk.standing;
  rest : l.self ≡ record l.fn.self { control = record l.fn.self.control { queue = l.self.control.queue } };
  numbers : l.numbers.controls ≡ l.fn.numbers.controls + l.place;
  acted : (r : Router) → AreOneNode r l.fn.self → acted r l.self l.notes l.numbers ≡ fold sends_request (acted r l.fn.self l.fn.notes l.fn.numbers) (take l.place l.fn.self.desk.standing);
}
