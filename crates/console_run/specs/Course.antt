-- Events that a session can have: all that the law of a console asks of them but that none is a chance

use Rattle.std.specs.Prelude.{ℕ, ◌≤◌, ◌<◌, List, All, length}
use Rattle.world_model.specs.Limits.{event_limit}
use Rattle.console_model.specs.declared.event.ConsoleEvent.{ConsoleEvent}
use Rattle.console_model.specs.Law.{CanCome}

pub record IsCourse (ports : ℕ) (events : List ConsoleEvent) : Type 0 where
  pub port_range : (1 ≤ ports) × (ports ≤ 8)
  pub can_come : All CanCome events
  pub few : length events < event_limit
