use Rattle.std.proofs.Common.{◌≡◌, false, refl}
use Rattle.std.specs.List.{list_any}
use Rattle.port_model.specs.Requests.{withdraws}
use Rattle.branch_desk.proofs.Numbers.{none_left}
use Rattle.branch_desk.proofs.desk.Desk.ask_needed.Goals as goal

pub returns-clause-asked : goal.returns-clause-asked
returns-clause-asked c =
    let free : list_any (λ s. withdraws c.args.request s.request) c.self.inside.requests ≡ false = rw (← c.self.view_is) at c.requires.free in
    rw (← c.self.view_is) (rw (c.push.ensures, c.new-entry.ensures, none_left (λ s. withdraws c.args.request s.request) c.self.inside.requests free) refl)
