use Rattle.std.proofs.Common.{◌≡◌, false, take}
use Rattle.std.specs.List.{list_any}
use Rattle.branch_desk.specs.port_model.Labels.{Label}
use Rattle.branch_desk.specs.port_model.Ticks.{is_unpassed}
use Rattle.port_session.proofs.session.Session.wants_ack.Given as goal

abbrev pub invariant-loop-place : goal.invariant-loop-place
invariant-loop-place l =
    list_any (λ (label : Label). is_unpassed l.self.session.known label.state) (take l.place l.self.session.labels) ≡ false
