-- a front of a session's events is a run of a console

use Rattle.std.proofs.Common.{◌≡◌, ℕ, ◌+◌, ◌<◌, List, [], ◌∷◌, ◌++◌, All, length, Some, subst, arith, length-append}
use Rattle.std.proofs.lemmas.List.Elements.{All-nil, All-cons, All-head, All-tail}
use Rattle.world_model.specs.Limits.{event_limit}
use Rattle.console_model.specs.declared.event.ConsoleEvent.{ConsoleEvent}
use Rattle.console_model.specs.Law.{CanCome, EveryRunIsRight}
use Rattle.console_run.specs.Session.{Session}
use Rattle.console_run.specs.Course.{IsCourse}
use Rattle.true_commands.specs.Law.{IsTrueSession}

can_come_first : (before after : List ConsoleEvent) → All CanCome (before ++ after) → All CanCome before
can_come_first [] after all = All-nil CanCome
can_come_first (event ∷ before) after all =
    All-cons CanCome event before (All-head CanCome event (before ++ after) all)
    (can_come_first before after (All-tail CanCome event (before ++ after) all))

front_few : (before after : List ConsoleEvent) → length (before ++ after) < event_limit → length before < event_limit
front_few before after few =
    let whole : length (before ++ after) ≡ length before + length after = length-append before after in
    let few_whole : length before + length after < event_limit = subst (λ n. n < event_limit) whole few in
    grind arith

front_course : (ports : ℕ) (before after : List ConsoleEvent) → IsCourse ports (before ++ after) → IsCourse ports before
front_course ports before after is = record {
  port_range = is.port_range;
  can_come = can_come_first before after is.can_come;
  few = front_few before after is.few;
}

pub true_session : EveryRunIsRight → (session : Session) → ((ports : ℕ) → session.ports ≡ Some ports → IsCourse ports session.events)
    → IsTrueSession session
true_session right session course ports before after is_ports is_events free =
    let is = front_course ports before after (subst (IsCourse ports) is_events (course ports is_ports)) in
    right ports before (record { port_range = is.port_range; can_come = is.can_come; few = is.few; no_chance = free })
